-- Rows of bits, seen as what bit t of row s says, take in others round by round until they have what is reached.
use Rattle.std.proofs.Common.{◌≡◌, ◌≢◌, ℕ, suc, ◌+◌, ◌<◌, ◌≤◌, ◌⊎◌, ◌↔◌, ◌||◌, ◌&&◌, Bool, true, false, IsTrue, inl, inr, refl, sym, ap, ◌∙◌, subst, arith}
use Rattle.std.proofs.lemmas.Bool.{cases_eq, false≢true}
use Rattle.rp_evidence.specs.Walk.{Reaches}
use Rattle.rp_evidence.proofs.SameCosts.{reach_same}
use Rattle.rp_evidence.specs.Through.{ReachesThrough}
use Rattle.rp_evidence.proofs.BitLemmas.{or_false}
use Rattle.rp_evidence.proofs.Throughs.{reaches_from_through, through_from_reaches}

-- ---- one round

-- The first rows have gone through observation k.
pub record HasGone (old now : ℕ → ℕ → Bool) (k end : ℕ) : Type 0 where
  pub gone : (s t : ℕ) → s < end → now s t ≡ (old s t || (old s k && old k t))
  pub left : (s t : ℕ) → end ≤ s → now s t ≡ old s t

absorbs : (x y : Bool) → (x || (y && x)) ≡ x
absorbs true y = refl
absorbs false true = refl
absorbs false false = refl

module _ (old now : ℕ → ℕ → Bool) (k s : ℕ) (so_far : HasGone old now k s) where
  row_kept : ((t : ℕ) → old s t ≡ (old s t || (old s k && old k t))) → HasGone old now k (s + 1)
  row_kept same = record {
    gone = λ a t l. elim (cases_eq a s) [
      | inl e ↦ subst (λ b. now b t ≡ (old b t || (old b k && old k t))) (sym e) (so_far.left s t (omega arith) ∙ same t)
      | inr e ↦ so_far.gone a t (omega arith)
    ];
    left = λ a t l. so_far.left a t (omega arith);
  }

  -- Row k itself stays as it is.
  pub itself_gone : s ≡ k → HasGone old now k (s + 1)
  itself_gone e = row_kept (λ t. subst (λ b. old b t ≡ (old b t || (old b k && old k t))) (sym e) (sym (absorbs (old k t) (old k k))))

  -- So does a row that does not reach k.
  pub unreached_gone : now s k ≡ false → HasGone old now k (s + 1)
  unreached_gone none =
      row_kept (λ t. sym (ap (λ b. old s t || (b && old k t)) (sym (so_far.left s k (omega arith)) ∙ none) ∙ or_false (old s t)))

  -- A row that reaches k takes in row k.
  pub reached_gone : now s k ≡ true → (new : ℕ → ℕ → Bool) → ((t : ℕ) → new s t ≡ (now s t || old k t))
      → ((a t : ℕ) → a ≢ s → new a t ≡ now a t) → HasGone old new k (s + 1)
  reached_gone reached new row others = record {
    gone = λ a t l. elim (cases_eq a s) [
      | inl e ↦ subst (λ b. new b t ≡ (old b t || (old b k && old k t))) (sym e)
          (row t ∙ ap (λ b. b || old k t) (so_far.left s t (omega arith))
          ∙ ap (λ b. old s t || (b && old k t)) (sym (sym (so_far.left s k (omega arith)) ∙ reached)))
      | inr e ↦ others a t e ∙ so_far.gone a t (omega arith)
    ];
    left = λ a t l. let apart : a ≢ s = λ e. omega arith in others a t apart ∙ so_far.left a t (omega arith);
  }

-- ---- all rounds

-- Each row below n has what walks through observations below k lead to.
abbrev pub HasClosed : ℕ → (ℕ → ℕ → Bool) → (ℕ → ℕ → Bool) → ℕ → Type 0
HasClosed n old now k = (s t : ℕ) → s < n → IsTrue (now s t) ↔ ReachesThrough k (λ a b. IsTrue (old a b)) s t

pub closed_none : (n : ℕ) (old : ℕ → ℕ → Bool) → HasClosed n old old 0
closed_none n old s t s_in = ((λ h. h), (λ h. h))

either : (a b c : Bool) (P Q R : Type 0) → IsTrue a ↔ P → IsTrue b ↔ Q → IsTrue c ↔ R → IsTrue (a || (b && c)) ↔ (P ⊎ (Q × R))
either true b c P Q R p q r = ((λ h. inl (p.0 refl)), (λ h. refl))
either false true c P Q R p q r = (
  (λ h. inr (q.0 refl, r.0 h)),
  (λ h. elim h [ inl x ↦ absurd (false≢true (p.1 x)) | inr x ↦ r.1 x.1 ]),
)
either false false c P Q R p q r = (
  (λ h. absurd (false≢true h)),
  (λ h. elim h [ inl x ↦ p.1 x | inr x ↦ q.1 x.0 ]),
)

pub closed_more : (n k : ℕ) (old now new : ℕ → ℕ → Bool) → k < n → HasClosed n old now k
    → ((s t : ℕ) → s < n → new s t ≡ (now s t || (now s k && now k t))) → HasClosed n old new (k + 1)
closed_more n k old now new k_in so_far gone s t s_in =
    let Walks : ℕ → ℕ → ℕ → Type 0 = λ m. ReachesThrough m (λ a b. IsTrue (old a b)) in
    let e : suc k ≡ k + 1 = omega arith in
    subst (λ m. IsTrue (new s t) ↔ Walks m s t) e
    (subst (λ b. IsTrue b ↔ Walks (suc k) s t) (sym (gone s t s_in))
    (either (now s t) (now s k) (now k t) (Walks k s t) (Walks k s k) (Walks k k t) (so_far s t s_in) (so_far s k s_in) (so_far k t k_in)))

-- From the steps to the closure.
pub closed_all : (n : ℕ) (step : ℕ → ℕ → Type 0) (first last : ℕ → ℕ → Bool) → ((s t : ℕ) → s < n → t < n → IsTrue (first s t) ↔ step s t) → HasClosed n first last n
    → (s t : ℕ) → s < n → t < n → IsTrue (last s t) ↔ Reaches n step s t
closed_all n step first last noted closed s t s_in t_in =
    let told = reach_same n (λ a b. IsTrue (first a b)) step noted s t in (
      (λ h. told.0 (reaches_from_through n (λ a b. IsTrue (first a b)) n s t (omega arith) s_in t_in ((closed s t s_in).0 h))),
      (λ h. (closed s t s_in).1 (through_from_reaches n (λ a b. IsTrue (first a b)) s t (told.1 h))),
    )
