-- The verdict for some costs is the verdict for all that are the same between the observations.
use Rattle.std.proofs.Common.{◌<◌, ◌⊎◌, inl, inr, ℕ, arith}
use Rattle.rp_walk.specs.ExactTotal.{ExactTotal}
use Rattle.rp_walk.proofs.SameRules.{After, Alike, cut_same, first_wide_same, none_wide_same}
use Rattle.rp_evidence.specs.Preference.{AgreeBelow}
use Rattle.rp_evidence.specs.Homothetic.{value_at}
use Rattle.rp_evidence.specs.declared.homothetic.Homothetic.{Homothetic}
use Rattle.rp_evidence.specs.declared.homothetic.Homothetic.TheVariants.{Values, Cycle, Withheld}
use Rattle.rp_evidence.proofs.SameCosts.{agree_back}
use Rattle.rp_evidence.proofs.SameProducts.{ends_below_same, least_product_same, meets_homothetic_same, products_fit_same}
use Rattle.rp_walk.specs.Products.{FitsFraction, as_total, times}
use Rattle.rp_homo.specs.HomotheticVerdict.{IsFirstFall, IsHomotheticVerdict, IsLongCycle, IsPairCycle, NoPairFalls, PairFalls}

-- ---- least products and the first product that is too wide

-- a step multiplies by the same
abbrev after : (ℕ → ℕ → ℕ) → After
after c x t s = times x (c t s) (c t t)

abbrev one : ExactTotal
one = as_total (record { num = 1; den = 1 })

same_after : (n : ℕ) (c d : ℕ → ℕ → ℕ) → AgreeBelow n c d → Alike n (after c) (after d)
same_after n c d same x t s ht hs = λ i. times x (same t s ht hs i) (same t t ht ht i)

same_falls : (n : ℕ) (c d : ℕ → ℕ → ℕ) → AgreeBelow n c d → (s t : ℕ) → s < n → t < n → PairFalls c s t → PairFalls d s t
same_falls n c d same s t hs ht h = rw (← same s t hs ht, ← same t s ht hs, ← same s s hs hs, ← same t t ht ht) h

same_no_falls : (n : ℕ) (c d : ℕ → ℕ → ℕ) → AgreeBelow n c d → NoPairFalls n c → NoPairFalls n d
same_no_falls n c d same none s t order ht falls = none s t order ht (same_falls n d c (agree_back n c d same) s t (omega (arith, order, ht)) ht falls)

same_first_fall : (n : ℕ) (c d : ℕ → ℕ → ℕ) → AgreeBelow n c d → (s t : ℕ) → IsFirstFall n c s t → IsFirstFall n d s t
same_first_fall n c d same s t first = record {
  in_order = first.in_order;
  within = first.within;
  falls = same_falls n c d same s t (omega (arith, first.in_order, first.within)) first.within first.falls;
  none_before = λ i j before order hj falls. first.none_before i j before order hj (same_falls n d c (agree_back n c d same) i j (omega (arith, order, hj)) hj falls);
}

pub verdict_same : (n : ℕ) (c d : ℕ → ℕ → ℕ) (verdict : Homothetic) → AgreeBelow n c d → IsHomotheticVerdict n c verdict → IsHomotheticVerdict n d verdict
verdict_same n c d (Values values) same h = record {
  no_pair = same_no_falls n c d same h.no_pair;
  none_too_wide = none_wide_same n one (after c) (after d) (same_after n c d same) FitsFraction h.none_too_wide;
  holds = meets_homothetic_same n c d same h.holds;
  one_each = h.one_each;
  fit = h.fit;
  least = λ s hs. least_product_same n c d same s (value_at values s) (h.least s hs);
  steps_fit = λ t s ht hs. rw (← same t s ht hs, ← same t t ht ht) (h.steps_fit t s ht hs);
}
verdict_same n c d (Cycle start walk) same h = record {
  closed = h.closed;
  simple = h.simple;
  lowest_terms = h.lowest_terms;
  fits = h.fits;
  ends_below = ends_below_same n c d same start walk h.closed h.ends_below;
  products_fit = products_fit_same n c d same start walk h.closed h.products_fit;
  comes = comes h.comes;
}
  where
    comes : IsPairCycle n c start walk ⊎ IsLongCycle n c start walk → IsPairCycle n d start walk ⊎ IsLongCycle n d start walk
    comes (inl p) = inl (record { s = p.s; t = p.t; first_pair = same_first_fall n c d same p.s p.t p.first_pair; start_is = p.start_is; walk_is = p.walk_is })
    comes (inr l) = inr (record {
      no_pair = same_no_falls n c d same l.no_pair;
      none_too_wide = none_wide_same n one (after c) (after d) (same_after n c d same) FitsFraction l.none_too_wide;
      first_part = cut_same n one (after c) (after d) (same_after n c d same) (as_total start) walk l.first_part;
    })
verdict_same n c d (Withheld k t s) same h = record {
  no_pair = same_no_falls n c d same h.no_pair;
  first = first_wide_same n one (after c) (after d) (same_after n c d same) FitsFraction k t s h.first;
}
