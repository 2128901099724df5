use Prim.Native.Nat.{◌∣◌}
use Rattle.std.proofs.Common.{◌≡◌, ℕ, inl, inr, sym, ap, ◌∙◌, subst, arith}
use Rattle.std.specs.Int.{w64}
use Rattle.std.specs.Int.RustNames.{unsigned_abs}
use Rattle.std.proofs.lemmas.Bool.{cases_eq}
use Rattle.std.proofs.lemmas.Nat.Gcd.{dvd_refl, dvd_trans}
use mir.Val.{to_z, of_z}
use Rattle.rp_simplex.specs.InnerStage.{exact, renewed}
use Rattle.rp_simplex.specs.InnerRows.{moved}
use Rattle.rp_simplex.proofs.Bits.{back64}
use Rattle.rp_simplex.proofs.CombinationLemmas.{all_divided, divides_each}
use Rattle.rp_simplex.proofs.divisor.common_divisor.Goals as goal

pub loop-i-init : goal.loop-i-init
loop-i-init c = record {
  positive = c.requires.positive;
  divides_den = dvd_refl c.args.den;
  divides_rows = λ i j l within. absurd (omega arith);
  greatest = λ k d _. d;
}

pub loop-i-preserved : goal.loop-i-preserved
loop-i-preserved c =
    let old = c.loop-i.invariant in
    let more = c.divisor_with_row-divisor.ensures in
    let t = c.args.t.now in
    let pivot : to_z w64 (of_z w64 c.entry-pivot.result) ≡ (exact t).at c.args.r c.args.c = back64 c.entry-pivot.result c.entry-pivot.type_inv ∙ c.entry-pivot.ensures.value in
    let factor : to_z w64 (of_z w64 c.entry.result) ≡ (exact t).at c.loop-i.i c.args.c = back64 c.entry.result c.entry.type_inv ∙ c.entry.ensures.value in
    let same : (s : ℕ) → moved t.multipliers t.den c.args.r (to_z w64 (of_z w64 c.entry-pivot.result)) c.loop-i.i (to_z w64 (of_z w64 c.entry.result)) s ≡ renewed t c.args.r c.args.c c.loop-i.i s
    = λ s k. moved t.multipliers t.den c.args.r (pivot k) c.loop-i.i (factor k) s in
    record {
      positive = more.positive;
      divides_den = dvd_trans c.divisor_with_row-divisor.result more.divides old.divides_den;
      divides_rows = λ i s l within. elim (cases_eq i c.loop-i.i) [
        | inl e ↦ subst (λ k. c.divisor_with_row-divisor.result ∣ unsigned_abs (renewed t c.args.r c.args.c k s)) (sym e) (subst (λ z. c.divisor_with_row-divisor.result ∣ unsigned_abs z) (same s) (more.divides_row s within))
        | inr ne ↦ dvd_trans c.divisor_with_row-divisor.result more.divides (old.divides_rows i s (omega arith) within)
      ];
      greatest = λ k d all. more.greatest k (old.greatest k d (λ i s l within. all i s (omega arith) within)) (λ s within. subst (λ z. k ∣ unsigned_abs z) (sym (same s)) (all c.loop-i.i s (omega arith) within));
    }

pub returns-clause-divides_all : goal.returns-clause-divides_all
returns-clause-divides_all c = all_divided c.args.t.now c.args.r c.args.c c.requires.pivot_row c.args.den c.loop-i.divisor c.requires.den c.loop-i.invariant.divides_den (λ i s l within. c.loop-i.invariant.divides_rows i s (omega arith) within)

pub returns-clause-greatest : goal.returns-clause-greatest
returns-clause-greatest c = λ k all.
    c.loop-i.invariant.greatest k (subst (λ n. k ∣ n) (sym (ap unsigned_abs c.requires.den)) all.divides_den) (λ i s l within. divides_each c.args.t.now c.args.r c.args.c c.requires.pivot_row k i s all (omega arith) within)
