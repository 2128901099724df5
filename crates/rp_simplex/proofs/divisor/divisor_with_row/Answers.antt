use Prim.Native.Nat.{◌∣◌}
use Rattle.std.proofs.Common.{◌≡◌, ℕ, sym, ◌∙◌, ap, subst, arith}
use Rattle.std.specs.Int.{w64}
use mir.Val.{to_z, of_z}
use Rattle.std.specs.Int.RustNames.{unsigned_abs}
use Rattle.std.proofs.lemmas.Nat.Gcd.{dvd_refl, dvd_trans}
use Rattle.rp_simplex.specs.InnerRows.{moved}
use Rattle.rp_simplex.proofs.Bits.{back128}
use Rattle.rp_simplex.proofs.ClearedRows.{same_moved}
use Rattle.rp_simplex.proofs.OneMore.{not_zero, one_divides, still_divides}
use Rattle.rp_simplex.proofs.divisor.divisor_with_row.Goals as goal

pub loop-s-init : goal.loop-s-init
loop-s-init c = record {
  positive = c.requires.positive;
  divides = dvd_refl c.args.so_far;
  divides_row = λ q l. absurd (omega arith);
  greatest = λ k d _. d;
}

pub loop-s-preserved : goal.loop-s-preserved
loop-s-preserved c =
    let old = c.loop-s.invariant in
    let g = c.gcd-divisor.ensures.greatest in
    let f : ℕ → ℕ = λ q. unsigned_abs (moved c.args.t.now.multipliers c.args.t.now.den c.args.r (to_z w64 (of_z w64 c.args.pivot)) c.args.i (to_z w64 (of_z w64 c.args.factor)) q) in
    let read : c.unsigned_abs.result ≡ f c.loop-s.s = c.unsigned_abs.ensures.value ∙ ap unsigned_abs (back128 c.moved_multiplier.result c.moved_multiplier.type_inv ∙ c.moved_multiplier.ensures.value) in
    record {
      positive = not_zero c.gcd-divisor.result (λ e. let zeros = c.gcd-divisor.ensures.zero.0 e in let p = old.positive in omega arith);
      divides = dvd_trans c.gcd-divisor.result g.0 old.divides;
      divides_row = still_divides c.loop-s.divisor c.gcd-divisor.result c.unsigned_abs.result c.loop-s.s f g old.divides_row read;
      greatest = λ k d all. g.2 k (old.greatest k d (λ q l. all q (omega arith))) (subst (λ n. k ∣ n) (sym read) (all c.loop-s.s (omega arith)));
    }

pub returns-then-divisor-eq1-clause-divides : goal.returns-then-divisor-eq1-clause-divides
returns-then-divisor-eq1-clause-divides c = one_divides c.args.so_far

pub returns-then-divisor-eq1-clause-divides_row : goal.returns-then-divisor-eq1-clause-divides_row
returns-then-divisor-eq1-clause-divides_row c = λ s l. one_divides (unsigned_abs (moved c.args.t.now.multipliers c.args.t.now.den c.args.r c.args.pivot c.args.i c.args.factor s))

pub returns-then-divisor-eq1-clause-greatest : goal.returns-then-divisor-eq1-clause-greatest
returns-then-divisor-eq1-clause-greatest c = λ k d all. subst (λ n. k ∣ n) c.if-divisor-eq1.true
    (c.loop-s.invariant.greatest k d (λ q l. subst (λ z. k ∣ unsigned_abs z) (sym (same_moved c.args.t.now.multipliers c.args.t.now.den c.args.r c.args.i q c.args.pivot c.args.factor c.requires.pivot c.requires.factor)) (all q (omega arith))))

pub returns-clause-divides_row : goal.returns-clause-divides_row
returns-clause-divides_row c = λ s l. subst (λ z. c.loop-s.divisor ∣ unsigned_abs z) (same_moved c.args.t.now.multipliers c.args.t.now.den c.args.r c.args.i s c.args.pivot c.args.factor c.requires.pivot c.requires.factor) (c.loop-s.invariant.divides_row s (omega arith))

pub returns-clause-greatest : goal.returns-clause-greatest
returns-clause-greatest c = λ k d all.
    c.loop-s.invariant.greatest k d (λ q l. subst (λ z. k ∣ unsigned_abs z) (sym (same_moved c.args.t.now.multipliers c.args.t.now.den c.args.r c.args.i q c.args.pivot c.args.factor c.requires.pivot c.requires.factor)) (all q (omega arith)))
