use Rattle.std.proofs.Common.{◌≡◌, ◌==◌, ◌&&◌, not, map}
use Rattle.rp_forms.specs.Texts.{text_at}
use Rattle.rp_long.specs.LongColumns.{is_of_table}
use Rattle.rp_long.specs.Places.{places_below}
use Rattle.rp_long.proofs.columns.table_columns.Given as goal

abbrev pub invariant-loop-c : goal.invariant-loop-c
invariant-loop-c l = l.columns.items ≡ places_below l.c (λ c. not (c == l.id) && is_of_table (text_at (map (λ header. header.now) l.headers) c))
