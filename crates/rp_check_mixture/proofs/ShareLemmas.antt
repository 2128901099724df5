-- Parts of a mixture of kinds, and what they weigh.
use Rattle.std.proofs.Common.{◌≡◌, ◌+◌, ◌*◌, ◌^◌, ◌<◌, ◌≤◌, ℕ, zero, suc, Bool, true, false, List, [], All, Result, Err, length, take, get_or, ap, arith, inl, inr, refl, subst, sym, ◌∙◌, if◌then◌else◌}
use Rattle.std.proofs.lemmas.List.{get_or_read}
use Rattle.std.proofs.lemmas.List.Sums.{sum_by_more}
use Rattle.rp_evidence.specs.declared.failure.Failure.{Failure}
use Rattle.rp_evidence.specs.declared.failure.Reason.TheVariants.{Irrational}
use Rattle.rp_evidence.specs.declared.random.Share.{Share}
use Rattle.rp_evidence.specs.Clauses.{failure}
use Rattle.rp_farkas.specs.Limits.{FitsEvidence}
use Rattle.rp_patch.specs.KindFailure.{PartFailsOf, part_at}
use Rattle.rp_patch.specs.Kinds.{Kinds, uses, weight_using}

-- the patches of a share that was read
pub patches_read : (shares : List Share) (k : ℕ) (share : Share) (patches : List ℕ) → k < length shares → share ≡ get_or shares k share
    → patches ≡ (get_or shares k share).patches → patches ≡ (part_at shares k).patches
patches_read shares k share patches within is read =
    read ∙ ap (λ (s : Share). s.patches) (sym is ∙ get_or_read shares k share within is (record { patches = []; weight = 0 }))

-- a share that is no kind
pub no_kind : (k : Kinds) (shares : List Share) (n : ℕ) (share : Share) (r : Result (Unit {0}) Failure) → share ≡ part_at shares n
    → k.IsFormed share.patches → ¬ (share.weight ≡ 0) → ¬ k.IsKind share.patches → r ≡ Err (failure Irrational (n + 1)) → PartFailsOf k shares n r
no_kind k shares n share r is formed some not found =
    let weighs : 0 < share.weight = above share.weight some in
    subst (PartFailsOf k shares n) (sym found) (inr (
      subst (λ (s : Share). k.IsFormed s.patches) is formed,
      inr (subst (λ (s : Share). 0 < s.weight) is weighs, inl (subst (λ (s : Share). ¬ k.IsKind s.patches) is not, refl)),
    ))
  where
    above : (w : ℕ) → ¬ (w ≡ 0) → 0 < w
    above zero h = absurd (h refl)
    above (suc w) h = omega arith

-- a turn of the loop that adds the weight of a share, where its kind uses the cell
pub taken_more : (k : Kinds) (shares : List Share) (i n weight : ℕ) (share : Share) (used : Bool) (new : ℕ) → n < length shares → share ≡ get_or shares n share
    → All (λ s. FitsEvidence s.weight) shares → used ≡ uses (k.used share.patches) i → (weight ≡ weight_using k (take n shares) i) × (weight ≤ n * 2 ^ 63)
    → new ≡ weight + (if used then share.weight else 0) → (new ≡ weight_using k (take (n + 1) shares) i) × (new ≤ (n + 1) * 2 ^ 63)
taken_more k shares i n weight share used new within is fit does so_far adds = (
  adds ∙ ap (λ w. w + (if used then share.weight else 0)) so_far.0
      ∙ ap (λ b. weight_using k (take n shares) i + (if b then share.weight else 0)) does
      ∙ ap (λ (s : Share). weight_using k (take n shares) i + (if uses (k.used s.patches) i then s.weight else 0)) (get_or_read shares n share within is share)
      ∙ sym (sum_by_more (λ s. if uses (k.used s.patches) i then s.weight else 0) shares n share within),
  by used adds,
)
  where
    small : share.weight ≤ 2 ^ 63
    small = let h = subst (λ (s : Share). FitsEvidence s.weight) (sym is) (fit n share within) in omega (arith, h)

    by : (b : Bool) → new ≡ weight + (if b then share.weight else 0) → new ≤ (n + 1) * 2 ^ 63
    by true e = omega (arith, e, small, so_far.1)
    by false e = omega (arith, e, so_far.1)
