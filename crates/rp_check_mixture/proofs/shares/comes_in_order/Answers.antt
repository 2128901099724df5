use Rattle.std.proofs.Common.{◌-◌, ap, arith, inl, inr, sym, ◌∙◌}
use Rattle.std.specs.Cmp.Lexicographic.{slice_cmp}
use Rattle.std.specs.Ordering.{nat_cmp}
use Rattle.rp_patch.specs.KindFailure.{part_at}
use Rattle.rp_check_mixture.proofs.ShareLemmas.{patches_read}
use Rattle.rp_check_mixture.proofs.shares.comes_in_order.Goals as goal

pub returns-else-k-eq0 : goal.returns-else-k-eq0
returns-else-k-eq0 c =
    let shares = c.args.shares.now in
    let k = c.args.k in
    let x = patches_read shares (k - 1) c.index-shares-k.result c.as_slice.result.now (omega arith) c.index-shares-k.is c.as_slice.ensures in
    let y = patches_read shares k c.index-shares-k-else-k-eq0.result c.as_slice-else-k-eq0.result.now c.requires c.index-shares-k-else-k-eq0.is c.as_slice-else-k-eq0.ensures in
    let same = ap (λ a. slice_cmp nat_cmp a c.as_slice-else-k-eq0.result.now) x ∙ ap (λ b. slice_cmp nat_cmp (part_at shares (k - 1)).patches b) y in (
      λ h. inr (sym same ∙ c.precedes.ensures.0 h),
      λ h. elim h [
        | inl e ↦ absurd (c.if-k-eq0.false e)
        | inr l ↦ c.precedes.ensures.1 (same ∙ l)
      ],
    )
