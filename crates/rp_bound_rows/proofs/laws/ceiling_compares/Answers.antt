use Rattle.std.proofs.Common.{◌≡◌, ◌<◌, ◌*◌, ◌^◌, ◌-◌, ◌+◌, ◌≤◌, arith, ap, sym, ◌∙◌}
use Rattle.std.proofs.Math.Nat.{le_of_mul-le-mul_right, mul-le-mul_right, mul_assoc, mul_comm, one-le-pow}
use Rattle.std.proofs.lemmas.Nat.{pow-add}
use Rattle.rp_bound_rows.proofs.AmountLemmas.{rounded_up}
use Rattle.rp_bound_rows.proofs.laws.ceiling_compares.Goals as goal

pub returns : goal.returns
returns c f k m positive few =
    let p = 10 ^ (6 - m) in
    let q = 10 ^ m in
    let six : m + (6 - m) ≡ 6 = omega arith in
    let whole : q * p ≡ 1000000 = sym (pow-add 10 m (6 - m)) ∙ ap (λ e. 10 ^ e) six in
    let left : f.num * q * p ≡ f.num * 1000000 = mul_assoc f.num q p ∙ ap (λ x. f.num * x) whole in
    let right : k * p * f.den ≡ k * f.den * p = mul_assoc k p f.den ∙ ap (λ x. k * x) (mul_comm p f.den) ∙ sym (mul_assoc k f.den p) in
    let above : 0 < p = one-le-pow (6 - m) 10 (omega arith) in
    let den : 0 < f.den = omega (arith, positive) in
    let up = rounded_up (f.num * 1000000) f.den (k * p) den in (
      λ at_most. let scaled : f.num * 1000000 ≤ k * p * f.den = rw (← left, right) (mul-le-mul_right p at_most) in up.1 scaled,
      λ rounded. let scaled : f.num * q * p ≤ k * f.den * p = rw (left, ← right) (up.0 rounded) in le_of_mul-le-mul_right scaled above,
    )
