use Rattle.std.proofs.Common.{◌≡◌, map, not}
use Rattle.rp_forms.specs.Texts.{text_at}
use Rattle.rp_sheet.specs.Headers.{headers_of}
use Rattle.rp_long.specs.LongColumns.{is_used}
use Rattle.rp_long.specs.Places.{places_below}
use Rattle.rp_long.proofs.columns.LongColumns.left_out.Given as goal

abbrev pub invariant-loop-c : goal.invariant-loop-c
invariant-loop-c l =
    map (λ name. name.now) l.names.items
    ≡ map (text_at (headers_of l.records)) (places_below l.c (λ c. not (is_used l.self (text_at (headers_of l.records) c) c)))
