-- The least of the numbers that meet a condition, one candidate after another.
use Rattle.std.proofs.Common.{◌≡◌, ◌<◌, ◌≤◌, ◌+◌, ◌⊎◌, inl, inr, ℕ, List, Option, None, Some, refl, sym, subst, ◌∙◌, arith, slice_index}
use Rattle.std.proofs.lemmas.Bool.{cases_eq}
use Rattle.std.proofs.lemmas.Int.{by_lt_z, clamps, ints}
use Rattle.std.specs.Prelude.{ℤ, pos, ◌≤ℤ◌, ◌<ℤ◌}
use Rattle.std.specs.Int.{int_min}
use Rattle.std.specs.Option.{unwrap_or}
use Rattle.rp_evidence.specs.Afriat.{allowed_by}
use Rattle.rp_evidence.specs.StandardNumbers.{IsClassUtilityBy}
use Rattle.rp_afriat.specs.InnerFilling.{IsAllowed, IsAllowedInClass, IsLeastOf, lesser_of, utility_of}

pub at_most_left : (x y : ℤ) → int_min x y ≤ℤ x
at_most_left x y = omega (arith, ints, clamps)

pub at_most_right : (x y : ℤ) → int_min x y ≤ℤ y
at_most_right x y = omega (arith, ints, clamps)

pub one_of : (x y : ℤ) → (int_min x y ≡ x) ⊎ (int_min x y ≡ y)
one_of x y = by_lt_z {P = (int_min x y ≡ x) ⊎ (int_min x y ≡ y)} x y (λ l. inl (left l)) (λ l. inr (right l))
  where
    left : x <ℤ y → int_min x y ≡ x
    left l = omega (arith, ints, clamps)

    right : y ≤ℤ x → int_min x y ≡ y
    right l = omega (arith, ints, clamps)

through : (x y z : ℤ) → x ≤ℤ y → y ≤ℤ z → x ≤ℤ z
through x y z a b = omega (arith, ints)

module _ (P Q R : ℤ → Type 0) (cases : (x : ℤ) → R x → P x ⊎ Q x) (left : (x : ℤ) → P x → R x) (right : (x : ℤ) → Q x → R x) where
  pub least_of_both : (a b : Option ℤ) → IsLeastOf P a → IsLeastOf Q b → IsLeastOf R (lesser_of a b)
  least_of_both None None p q = λ x r. elim (cases x r) [ inl h ↦ p x h | inr h ↦ q x h ]
  least_of_both None (Some y) p q = (right y q.0, λ x r. elim (cases x r) [ inl h ↦ absurd (p x h) | inr h ↦ q.1 x h ])
  least_of_both (Some x) None p q = (left x p.0, λ z r. elim (cases z r) [ inl h ↦ p.1 z h | inr h ↦ absurd (q z h) ])
  least_of_both (Some x) (Some y) p q = (
    elim (one_of x y) [ inl e ↦ subst R (sym e) (left x p.0) | inr e ↦ subst R (sym e) (right y q.0) ],
    λ z r. elim (cases z r) [
      | inl h ↦ through (int_min x y) x z (at_most_left x y) (p.1 z h)
      | inr h ↦ through (int_min x y) y z (at_most_right x y) (q.1 z h)
    ],
  )

-- the same least for a condition that says the same
pub least_same : (P R : ℤ → Type 0) (a : Option ℤ) → ((x : ℤ) → R x → P x) → ((x : ℤ) → P x → R x) → IsLeastOf P a → IsLeastOf R a
least_same P R None there back p = λ x r. p x (there x r)
least_same P R (Some x) there back p = (back x p.0, λ y r. p.1 y (there y r))

module _ (cost : ℕ → ℕ → ℕ) (own : ℕ → ℕ) (counts : List ℕ) (u : List ℤ) (lambda : List ℕ) (class : ℕ) where
  module _ (t s : ℕ) (least : Option ℤ) (so_far : IsLeastOf (IsAllowed s cost own counts u lambda class t) least) where
    pub allowed_one_more : (x : ℤ) → class < slice_index counts s → x ≡ allowed_by cost own (utility_of u) (slice_index lambda) s t → IsLeastOf (IsAllowed (s + 1) cost own counts u lambda class t) (lesser_of least (Some x))
    allowed_one_more x l e =
        least_of_both (IsAllowed s cost own counts u lambda class t) (λ y. y ≡ x) (IsAllowed (s + 1) cost own counts u lambda class t)
        (λ y r. elim (cases_eq r.0 s) [
          | inl k ↦ inr (r.3 ∙ (subst (λ z. allowed_by cost own (utility_of u) (slice_index lambda) z t ≡ x) (sym k) (sym e)))
          | inr d ↦ inl (r.0, omega (arith, r.1), r.2, r.3)
        ])
        (λ y p. (p.0, omega (arith, p.1), p.2, p.3))
        (λ y q. (s, omega arith, l, q ∙ e))
        least (Some x) so_far (refl, λ y q. same y x q)
      where
        same : (y x : ℤ) → y ≡ x → x ≤ℤ y
        same y x q = omega (arith, ints)

    pub allowed_no_more : slice_index counts s ≤ class → IsLeastOf (IsAllowed (s + 1) cost own counts u lambda class t) least
    allowed_no_more l =
        least_same (IsAllowed s cost own counts u lambda class t) (IsAllowed (s + 1) cost own counts u lambda class t) least
        (λ y r. elim (cases_eq r.0 s) [
          | inl k ↦ absurd (omega (arith, r.2, subst (λ z. slice_index counts z ≤ class) (sym k) l))
          | inr d ↦ (r.0, omega (arith, r.1), r.2, r.3)
        ])
        (λ y p. (p.0, omega (arith, p.1), p.2, p.3)) so_far

  module _ (n t : ℕ) (least : Option ℤ) (so_far : IsLeastOf (IsAllowedInClass t n cost own counts u lambda class) least) where
    pub class_one_more : (found : Option ℤ) → slice_index counts t ≡ class → IsLeastOf (IsAllowed n cost own counts u lambda class t) found → IsLeastOf (IsAllowedInClass (t + 1) n cost own counts u lambda class) (lesser_of least found)
    class_one_more found e is =
        least_of_both (IsAllowedInClass t n cost own counts u lambda class) (IsAllowed n cost own counts u lambda class t) (IsAllowedInClass (t + 1) n cost own counts u lambda class)
        (λ y r. elim (cases_eq r.0 t) [
          | inl k ↦ inr (subst (λ z. IsAllowed n cost own counts u lambda class z y) k r.3)
          | inr d ↦ inl (r.0, omega (arith, r.1), r.2, r.3)
        ])
        (λ y p. (p.0, omega (arith, p.1), p.2, p.3))
        (λ y q. (t, omega arith, e, q))
        least found so_far is

    pub class_no_more : ¬ (slice_index counts t ≡ class) → IsLeastOf (IsAllowedInClass (t + 1) n cost own counts u lambda class) least
    class_no_more d =
        least_same (IsAllowedInClass t n cost own counts u lambda class) (IsAllowedInClass (t + 1) n cost own counts u lambda class) least
        (λ y r. elim (cases_eq r.0 t) [
          | inl k ↦ absurd (d (subst (λ z. slice_index counts z ≡ class) k r.2))
          | inr d ↦ (r.0, omega (arith, r.1), r.2, r.3)
        ])
        (λ y p. (p.0, omega (arith, p.1), p.2, p.3)) so_far

  -- the least over the class, or 0 where there is none, is the utility of a class that is not empty
  pub least_is_utility : (n o : ℕ) (least : Option ℤ) → o < n → slice_index counts o ≡ class → IsLeastOf (IsAllowedInClass n n cost own counts u lambda class) least → IsClassUtilityBy n cost own (slice_index counts) (utility_of u) (slice_index lambda) class (unwrap_or least (pos 0))
  least_is_utility n o None a e is = record {
    highest = λ h. refl;
    least = λ s t b d l k. absurd (is _ (t, d, k, (s, b, l, refl)));
    reached = λ h b l. absurd (is _ (o, a, e, (h, b, l, refl)));
  }
  least_is_utility n o (Some x) a e is = record {
    highest = λ h. absurd (let r = is.0 in let k = h r.3.0 r.3.1 in omega (arith, r.3.2));
    least = λ s t b d l k. is.1 _ (t, d, k, (s, b, l, refl));
    reached = λ h b l. let r = is.0 in (r.3.0, r.0, r.3.1, r.1, r.3.2, r.2, r.3.3);
  }
