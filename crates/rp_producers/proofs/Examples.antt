-- The definitions at small technologies of one input: sets in which everything suffices rationalize nothing that costs
-- something, none rationalize two observations of which the dearer made no more, and where everything is feasible more
-- output makes more profit.
use Rattle.std.proofs.Common.{ℕ, List, [], ◌∷◌, refl, slice_index, arith}
use Rattle.std.proofs.lemmas.Int.{ints}
use Rattle.rp_table.specs.Spending.{spending}
use Rattle.rp_evidence.specs.Input.{TableInput}
use Rattle.rp_producers.specs.ProductionSets.{RationalizesProfit}
use Rattle.rp_producers.specs.RequirementSets.{AreRequirementSets, HasRequirementSets, RationalizeCost}
use Rattle.rp_producers.proofs.Producers.{cost_sets}

-- so many observations of one input at these prices
abbrev seen : ℕ → List ℕ → List ℕ → TableInput
seen n prices quantities = record {
  n = n;
  goods = 1;
  price = λ s g. slice_index prices s;
  quantity = λ t g. slice_index quantities t;
  cost = λ s t. spending 1 (λ g. slice_index prices s) (λ g. slice_index quantities t);
  levels = [];
  sums = λ s t a b. refl;
}

all_suffices : AreRequirementSets 1 (λ output x. Unit {0})
all_suffices = record { nested = λ low high x ix less e. tt; disposable = λ output x z ix iz more e. tt }

-- 3 were bought at the price 2
not_all : ¬ RationalizeCost (seen 1 (2 ∷ []) (3 ∷ [])) (λ s. 1) (λ output x. Unit {0})
not_all is = let l = is.none_cheaper 0 (record { den = 1; num = λ g. 0 }) (omega arith) (omega arith) tt in absurd (omega (arith, l))

-- 3 and 2 were bought at the price 1, and made as much
none_there : ¬ HasRequirementSets (seen 2 (1 ∷ 1 ∷ []) (3 ∷ 2 ∷ [])) (λ s. 1)
none_there has = let l = (cost_sets (seen 2 (1 ∷ 1 ∷ []) (3 ∷ 2 ∷ [])) (λ s. 1)).0 has 0 1 (omega arith) (omega arith) (omega arith) in absurd (omega (arith, l))

-- 3 were bought at the price 1 and made 4 at the price 1
not_everything : ¬ RationalizesProfit (seen 1 (1 ∷ []) (3 ∷ [])) (λ s. 4) (λ s. 1) (λ output x. Unit {0})
not_everything is = let l = is.none_makes_more 0 5 (record { den = 1; num = λ g. 3 }) (omega arith) (omega arith) tt in absurd (omega (arith, ints, l))
