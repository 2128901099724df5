-- Levels by ranks pass the check.
use Rattle.std.proofs.Common.{◌≡◌, ◌<◌, ◌≤◌, ◌+◌, ◌∷◌, ◌++◌, ℕ, List, [], Ok, length, get_or, arith, refl, ◌⊎◌, inl, inr, below_more, sym, subst}
use Rattle.std.proofs.lemmas.List.{get_or_append_left, get_or_push, length_push}
use Rattle.rp_check_levels.specs.LevelsFailure.{LevelsFail}
use Rattle.rp_evidence.specs.Preference.{IsStrict}
use Rattle.rp_fit.specs.declared.levels.Lack.{Lack}
use Rattle.rp_fit.specs.declared.levels.Lack.TheVariants.{Mean, Squares}
use Rattle.rp_fit.specs.declared.weighted.WeightedWalk.{WeightedWalk}
use Rattle.rp_fit_search.specs.InnerByRanks.{AreCheapestBelow, IsCheapestRising, IsCheapestUpTo}

-- the observation itself, before any other is looked at
pub cheapest_none : (n : ℕ) (c : ℕ → ℕ → ℕ) (ranks : List ℕ) (s : ℕ) → s < n → IsCheapestUpTo n c ranks 0 s s
cheapest_none n c ranks s hs = record { observed = hs; cheaper = inl refl; falls = λ t ht. absurd (omega arith) }

-- a turn that keeps the cheapest
pub cheapest_same : (n : ℕ) (c : ℕ → ℕ → ℕ) (ranks : List ℕ) (t s u : ℕ) → IsCheapestUpTo n c ranks t s u
    → (c s t < c s u → get_or ranks t 0 < get_or ranks s 0) → IsCheapestUpTo n c ranks (t + 1) s u
cheapest_same n c ranks t s u so_far falls = record {
  observed = so_far.observed;
  cheaper = so_far.cheaper;
  falls = below_more (λ v. c s v < c s u → get_or ranks v 0 < get_or ranks s 0) t so_far.falls falls;
}

pub cheapest_where_rank_falls : (n : ℕ) (c : ℕ → ℕ → ℕ) (ranks : List ℕ) (t s u : ℕ) → IsCheapestUpTo n c ranks t s u
    → get_or ranks t 0 < get_or ranks s 0 → IsCheapestUpTo n c ranks (t + 1) s u
cheapest_where_rank_falls n c ranks t s u so_far falls = cheapest_same n c ranks t s u so_far (λ less. falls)

pub cheapest_where_not_cheaper : (n : ℕ) (c : ℕ → ℕ → ℕ) (ranks : List ℕ) (t s u : ℕ) → IsCheapestUpTo n c ranks t s u
    → c s u ≤ c s t → IsCheapestUpTo n c ranks (t + 1) s u
cheapest_where_not_cheaper n c ranks t s u so_far dear = cheapest_same n c ranks t s u so_far (λ less. absurd (omega (arith, less, dear)))

-- what is strictly cheaper than something not dearer than the own bundle
cheaper_still : (c : ℕ → ℕ → ℕ) (s t u : ℕ) → (u ≡ s) ⊎ IsStrict c s u → c s t < c s u → IsStrict c s t
cheaper_still c s t u (inl same) less = let h : c s t < c s s = subst (λ v. c s t < c s v) same less in omega (arith, h)
cheaper_still c s t u (inr strict) less = omega (arith, strict, less)

-- a turn that finds a cheaper one
pub cheapest_next : (n : ℕ) (c : ℕ → ℕ → ℕ) (ranks : List ℕ) (t s u : ℕ) → IsCheapestUpTo n c ranks t s u
    → t < n → c s t < c s u → IsCheapestUpTo n c ranks (t + 1) s t
cheapest_next n c ranks t s u so_far ht less = record {
  observed = ht;
  cheaper = inr (cheaper_still c s t u so_far.cheaper less);
  falls = below_more (λ v. c s v < c s t → get_or ranks v 0 < get_or ranks s 0) t (λ v hv below. so_far.falls v hv (omega (arith, below, less))) (λ below. absurd (omega (arith, below)));
}

-- before any observation
pub cheapest_below_none : (n : ℕ) (c : ℕ → ℕ → ℕ) (ranks : List ℕ) → AreCheapestBelow n c ranks 0 []
cheapest_below_none n c ranks = record { one_each = refl; each = λ s hs. absurd (omega arith) }

-- one observation more
pub cheapest_below_pushed : (n : ℕ) (c : ℕ → ℕ → ℕ) (ranks : List ℕ) (s : ℕ) (at : List ℕ) (u : ℕ) (new : List ℕ) → AreCheapestBelow n c ranks s at
    → IsCheapestRising n c ranks s u → new ≡ at ++ u ∷ [] → AreCheapestBelow n c ranks (s + 1) new
cheapest_below_pushed n c ranks s at u new so_far last is = rw is (record {
  one_each = omega (arith, length_push at u, so_far.one_each);
  each = below_more (λ v. IsCheapestRising n c ranks v (get_or (at ++ u ∷ []) v 0)) s
      (λ v hv. subst (λ w. IsCheapestRising n c ranks v w) (sym (get_or_append_left at (u ∷ []) 0 v (omega (arith, hv, so_far.one_each)))) (so_far.each v hv))
      (subst (λ w. IsCheapestRising n c ranks s w) (sym (get_or_push at u 0 s so_far.one_each)) last);
})

-- levels by ranks, without walks
pub levels_pass : (n : ℕ) (c : ℕ → ℕ → ℕ) (lack : Lack) (at ranks : List ℕ) → length ranks ≡ n → AreCheapestBelow n c ranks n at
    → LevelsFail n c (record { lack = lack; at = at; ranks = ranks; den = 1; walks = [] }) (Ok tt)
levels_pass n c Mean at ranks one_each cheapest = (
  omega arith,
  (
    (cheapest.one_each, (one_each, ((λ s hs. ((cheapest.each s hs).observed, (cheapest.each s hs).cheaper)), ((λ s hs. (cheapest.each s hs).falls), tt)))),
    ((λ k hk. absurd (omega arith)), ((λ s hs t ht strict. omega arith), tt)),
  ),
)
levels_pass n c Squares at ranks one_each cheapest = (
  omega arith,
  (
    (cheapest.one_each, (one_each, ((λ s hs. ((cheapest.each s hs).observed, (cheapest.each s hs).cheaper)), ((λ s hs. (cheapest.each s hs).falls), tt)))),
    ((λ k hk. absurd (omega arith)), ((λ s hs t ht strict. omega arith), tt)),
  ),
)

-- the same where the part's lists are equal to these
pub levels_of_lists_pass : (n : ℕ) (c : ℕ → ℕ → ℕ) (lack : Lack) (at ranks at' ranks' : List ℕ) (walks : List WeightedWalk)
    → at' ≡ at → ranks' ≡ ranks → walks ≡ [] → length ranks ≡ n → AreCheapestBelow n c ranks n at
    → LevelsFail n c (record { lack = lack; at = at'; ranks = ranks'; den = 1; walks = walks }) (Ok tt)
levels_of_lists_pass n c lack at ranks at' ranks' walks e f g one_each cheapest =
    subst (λ a. LevelsFail n c (record { lack = lack; at = a; ranks = ranks'; den = 1; walks = walks }) (Ok tt)) (sym e)
    (subst (λ r. LevelsFail n c (record { lack = lack; at = at; ranks = r; den = 1; walks = walks }) (Ok tt)) (sym f)
    (subst (λ w. LevelsFail n c (record { lack = lack; at = at; ranks = ranks; den = 1; walks = w }) (Ok tt)) (sym g)
    (levels_pass n c lack at ranks one_each cheapest)))
