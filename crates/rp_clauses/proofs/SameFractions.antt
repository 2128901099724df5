-- Whether two fractions are one, by both parts.
use Rattle.std.proofs.Common.{◌≡◌, ◌↔◌, ◌∙◌, ◌&&◌, Bool, true, false, IsTrue, eqb, refl, sym, ap}
use Rattle.std.proofs.lemmas.Bool.{eq-eqb, eqb-true, false≢true}
use Rattle.std.specs.Cmp.Derive.{both_true}
use Rattle.rp_num.specs.Fraction.{Fraction}

left_true : (s t : Bool) → (s && t) ≡ true → s ≡ true
left_true true t h = refl
left_true false t h = absurd (false≢true h)

right_true : (s t : Bool) → (s && t) ≡ true → t ≡ true
right_true true t h = h
right_true false t h = absurd (false≢true h)

pub told_by_parts : (b : Bool) (f g : Fraction) → b ≡ (eqb f.num g.num && eqb f.den g.den) → IsTrue b ↔ (f ≡ g)
told_by_parts b f g e = (
  (λ h.
      let both = sym e ∙ h in
      let n = eqb-true f.num g.num (left_true (eqb f.num g.num) (eqb f.den g.den) both) in
      let d = eqb-true f.den g.den (right_true (eqb f.num g.num) (eqb f.den g.den) both) in
      λ i. record { num = n i; den = d i }),
  (λ same. e ∙ both_true (eq-eqb f.num g.num (ap (λ (z : Fraction). z.num) same)) (eq-eqb f.den g.den (ap (λ (z : Fraction). z.den) same))),
)
