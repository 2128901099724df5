-- The first line of a report on a table (this program's own format).
use Rattle.std.specs.Prelude.{ℕ, List, ◌++◌, codes}
use Rattle.std.specs.Fmt.{decimal}
use Rattle.rp_print.specs.ListText.{line_of}
use Rattle.rp_table.specs.Tables.{Observations, goods_of, records_of}

-- how many observations and goods a table has, and the places of its prices and quantities
abbrev pub head_text : Observations → List ℕ
head_text table =
    line_of (codes "observations " ++ decimal (records_of table) ++ codes " goods " ++ decimal (goods_of table)
    ++ codes " places " ++ decimal table.price_places ++ codes " " ++ decimal table.quantity_places)
