-- The lines of a report on a technology (this program's own format).
use Rattle.std.specs.Prelude.{◌≡◌, ℕ, zero, suc, List, [], ◌++◌, Option, Some, None, codes, slice_get, slice_index}
use Rattle.std.specs.Fmt.{decimal}
use Rattle.rp_print.specs.BoundText.{bound_text, bounds_text, pair_line}
use Rattle.rp_print.specs.ListText.{line_of, numbers_text, ordinal_text}
use Rattle.rp_table.specs.Rows.{row_of, rows_count}
use Rattle.rp_table.specs.Tables.{goods_of, records_of}
use Rattle.rp_cost.specs.AskedOutputs.{AskedOutputs}
use Rattle.rp_cost.specs.Axioms.{IsCostVerdict, IsProfitVerdict}
use Rattle.rp_cost.specs.Technology.{Technology}
use Rattle.rp_cost.specs.declared.axioms.Axiom.{Axiom}
use Rattle.rp_cost.specs.declared.axioms.Axiom.TheVariants.{Holds, Pair}
use Rattle.rp_cost.specs.declared.bounds.CostBounds.{CostBounds}

-- how many observations and inputs there are, and the places of prices and quantities
abbrev pub production_head_text : Technology → List ℕ
production_head_text tech = line_of
    (codes "technology records " ++ decimal (records_of tech.table) ++ codes " inputs " ++ decimal (goods_of tech.table)
    ++ codes " places " ++ decimal tech.table.price_places ++ codes " " ++ decimal tech.table.quantity_places)

-- an axiom, after its name: that it holds, or the pair that breaks it
abbrev pub axiom_text : List ℕ → Axiom → List ℕ
axiom_text name Holds = line_of (name ++ codes " holds")
axiom_text name (Pair first second) =
    line_of (name ++ codes " violated")
    ++ line_of (codes "pair " ++ ordinal_text first ++ codes " " ++ ordinal_text second)

-- the profit axiom, where it is told
abbrev pub profit_text : Option Axiom → List ℕ
profit_text None = []
profit_text (Some verdict) = axiom_text (codes "profit") verdict

-- the prices and the output that are asked
abbrev pub asked_text : List ℕ → ℕ → List ℕ
asked_text prices y = codes "bounds prices " ++ numbers_text prices ++ codes " output " ++ decimal y

-- both bounds, of which the one from above may be missing
abbrev pub both_text : CostBounds → List ℕ
both_text bounds = elim bounds.upper [
  | None ↦ codes " lower " ++ bound_text bounds.lower ++ codes " upper none"
  | Some upper ↦ bounds_text bounds.lower upper.cost upper.at
]

-- the bounds with the pair of the one from below, or that there are none
abbrev pub found_text : Option CostBounds → List ℕ
found_text None = line_of (codes " none")
found_text (Some bounds) = line_of (both_text bounds) ++ pair_line (codes "lower ") bounds.lower

-- the answer to one asked record
abbrev pub answer_text : AskedOutputs → List CostBounds → ℕ → List ℕ
answer_text asked bounds i =
    asked_text (row_of asked.prices.prices asked.prices.goods i) (slice_index asked.y i)
    ++ found_text (slice_get bounds i)

-- the answers to the first k asked records
abbrev pub answers_text : ℕ → AskedOutputs → List CostBounds → List ℕ
answers_text zero asked bounds = []
answers_text (suc k) asked bounds = answers_text k asked bounds ++ answer_text asked bounds k

-- the whole report
abbrev pub production_report : Technology → AskedOutputs → Axiom → Option Axiom → List CostBounds → List ℕ
production_report tech asked cost profit bounds =
    production_head_text tech ++ axiom_text (codes "cost") cost ++ profit_text profit
    ++ answers_text (rows_count asked.prices.prices asked.prices.goods) asked bounds

-- the text is the report of these bounds, with the verdicts on the technology's axioms
pub record IsProductionReport (tech : Technology) (asked : AskedOutputs) (bounds : List CostBounds) (text : List ℕ)
    : Type 0 where
  pub cost : Axiom
  pub profit : Option Axiom
  pub cost_given : IsCostVerdict tech cost
  pub profit_given : IsProfitVerdict tech profit
  pub text_is : text ≡ production_report tech asked cost profit bounds
