-- The power of the test: how many random behaviours on the budgets of a table the generalized axiom of revealed
-- preference rejects (after Bronars 1987; the words of a behaviour are this project's own).
use Rattle.std.specs.Prelude.{ℕ, ◌+◌, ◌*◌, List}
use Rattle.rp_power.specs.Words.{generator_of, word_after}
use Rattle.rp_evidence.specs.Count.{IsNumberOf}
use Rattle.rp_evidence.specs.Efficiency.{FailsGarp}
use Rattle.rp_num.specs.Below.{listed}
use Rattle.rp_table.specs.Cost.{cost_of}
use Rattle.rp_table.specs.Tables.{Observations, goods_of, records_of}
use Rattle.rp_power.specs.DrawnTable.{drawn_table}

-- how many words a behaviour takes: one for each observation and good
abbrev pub words_of : Observations → ℕ
words_of table = records_of table * goods_of table

-- the words of behaviour i: the i-th block of the successive words of a seed's generator
abbrev pub behaviour_words : Observations → ℕ → ℕ → List ℕ
behaviour_words table seed i = listed (words_of table) (λ k. word_after (generator_of seed) (i * words_of table + k))

-- the table of behaviour i
abbrev pub behaviour : Observations → ℕ → ℕ → Observations
behaviour table seed i = drawn_table table (behaviour_words table seed i)

-- what the table says fails the axiom, where all that was spent counts
abbrev pub FailsAxiom : Observations → Type 0
FailsAxiom table = FailsGarp (records_of table) (cost_of table)

-- of the first so many behaviours, so many fail the axiom
abbrev pub IsPowerCount : Observations → ℕ → ℕ → ℕ → Type 0
IsPowerCount table seed draws count = IsNumberOf draws (λ i. FailsAxiom (behaviour table seed i)) count
