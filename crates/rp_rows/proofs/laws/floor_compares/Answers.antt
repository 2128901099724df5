use Rattle.std.proofs.Common.{◌≡◌, ◌<◌, ◌*◌, ◌^◌, ◌-◌, ◌+◌, ◌≤◌, arith, ap, sym, ◌∙◌}
use Rattle.std.proofs.Math.Nat.{le-div_iff_mul-le, le_of_mul-le-mul_right, mul-le-mul_right, mul_assoc, mul_comm, one-le-pow}
use Rattle.std.proofs.lemmas.Nat.{pow-add}
use Rattle.rp_rows.proofs.laws.floor_compares.Goals as goal

pub returns : goal.returns
returns c f k m positive few =
    let p = 10 ^ (6 - m) in
    let q = 10 ^ m in
    let six : m + (6 - m) ≡ 6 = omega arith in
    let whole : q * p ≡ 1000000 = sym (pow-add 10 m (6 - m)) ∙ ap (λ e. 10 ^ e) six in
    let left : k * p * f.den ≡ k * f.den * p = mul_assoc k p f.den ∙ ap (λ x. k * x) (mul_comm p f.den) ∙ sym (mul_assoc k f.den p) in
    let right : f.num * q * p ≡ f.num * 1000000 = mul_assoc f.num q p ∙ ap (λ x. f.num * x) whole in
    let above : 0 < p = one-le-pow (6 - m) 10 (omega arith) in
    let den : 0 < f.den = omega (arith, positive) in (
      λ at_most. let scaled : k * p * f.den ≤ f.num * 1000000 = rw (left, ← right) (mul-le-mul_right p at_most) in (le-div_iff_mul-le den).1 scaled,
      λ floored. let scaled : k * f.den * p ≤ f.num * q * p = rw (← left, right) ((le-div_iff_mul-le den).0 floored) in le_of_mul-le-mul_right scaled above,
    )
