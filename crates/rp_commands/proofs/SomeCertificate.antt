-- Bytes denote something as a certificate: that they denote neither one nor a refusal is impossible. Where they spell a
-- value of a certificate's shape, its first values are those of items as far as none is that of no item.
use Rattle.std.proofs.Common.{◌≡◌, ◌≢◌, ◌≤◌, ◌+◌, ◌-◌, ◌^◌, ◌++◌, inl, inr, ℕ, zero, suc, List, [], ◌∷◌, All, length, map, min, take, get_or, Some, Result, Ok, Err, refl, sym, ap, subst, ◌∙◌, arith, codes}
use Rattle.std.proofs.lemmas.Bool.{cases_lt}
use Rattle.std.proofs.lemmas.List.{map-append, take_all, take_more}
use Rattle.std.proofs.lemmas.List.Elements.{All-append}
use Rattle.rp_agreement.proofs.SameValues.{text_read_back}
use Rattle.rp_evidence.specs.declared.certificate.Certificate.{Certificate}
use Rattle.rp_evidence.specs.declared.certificate.Item.{Item}
use Rattle.rp_evidence.specs.declared.certificate.Kind.{Kind}
use Rattle.serde_json.specs.Data.{Data, null}
use Rattle.rp_json.specs.CertificateValue.{certificate_value, item_value, top_value}
use Rattle.rp_json.specs.Denoted.{FitLevels, FitsKind, HasNoShape, HasOtherVersion, IsDenoted, IsDenotedBy, IsFirstNoItem, IsReadable, Spells}
use Rattle.rp_json.proofs.ItemListLemmas.{text_spells}
use Rattle.rp_json.specs.declared.fault.JsonFault.{JsonFault}
use Rattle.rp_json.specs.declared.fault.JsonFault.TheVariants.{BadShape, BadVersion, NoMemory, NotJson}
use Rattle.rp_commands.specs.FaultLines.{file_line}
use Rattle.rp_commands.specs.FaultTexts.{json_fault_text}
use Rattle.rp_commands.specs.Readings.{CertificateIn}
use Rattle.rp_limits.specs.declared.run.TheConstants.{MOST_CERTIFICATE_BYTES}

-- a readable certificate is what its value denotes
denotes_itself : (kind : Kind) (c : Certificate) (d : Data) → IsReadable kind c → certificate_value c ≡ d → IsDenotedBy kind d (Ok c)
denotes_itself kind c d readable is =
    let back = (text_read_back kind c readable).denotes in
    subst (λ (v : Data). IsDenotedBy kind v (Ok c)) (same_value back.0 (certificate_value c) (sym back.1.1 ∙ (text_spells kind c readable).1) ∙ is) back.2
  where
    same_value : (a b : Data) → Some a ≡ Some b → a ≡ b
    same_value a b p = search

next : (k : ℕ) → k + 1 ≡ suc k
next k = omega arith

one_item : (P : Item → Type 0) (item : Item) → P item → All P (item ∷ [])
one_item P item fits zero x l = fits
one_item P item fits (suc k) x l = absurd (omega (arith, l))

module _ (kind : Kind) (bytes : List ℕ) (none : (r : Result Certificate JsonFault) → r ≢ Err NoMemory → ¬ IsDenoted kind bytes r) where
  module _ (d : Data) (spells : Spells bytes d) where
    no_other : ¬ HasOtherVersion kind d
    no_other other = none (Err BadVersion) (λ e. cc) (d, spells, other)

    module _ (version : ℕ) (levels : List ℕ) (values : List Data) (fit : FitLevels kind version levels) (is : d ≡ top_value kind version levels values) where
      whole : (items : List Item) → map item_value items ≡ values → All (FitsKind kind) items → ⊥
      whole items same each =
          let c : Certificate = record { kind = kind; version = version; levels = levels; items = items } in
          none (Ok c) (λ e. cc) (d, spells, denotes_itself kind c d (record { of_kind = refl; levels = fit; items = each }) (ap (top_value kind version levels) same ∙ sym is))

      -- the first k values are those of items
      go_on : (left k : ℕ) → k + left ≡ length values → (items : List Item) → map item_value items ≡ take k values → All (FitsKind kind) items → ⊥
      go_on zero k e items same each = whole items (same ∙ take_all k values (omega (arith, e))) each
      go_on (suc left) k e items same each =
          none (Err (BadShape (min (k + 1) (2 ^ 32 - 1)))) (λ p. cc) (d, spells, inr (version, levels, values, fit, is, (k, bad (go_on left (suc k) (omega (arith, e))), refl)))
        where
          longer : (item : Item) → item_value item ≡ get_or values k null → map item_value (items ++ item ∷ []) ≡ take (suc k) values
          longer item here =
              map-append item_value items (item ∷ []) ∙ ap (λ (xs : List Data). xs ++ item_value item ∷ []) same ∙ ap (λ (v : Data). take k values ++ v ∷ []) here
              ∙ sym (take_more values k null (omega (arith, e))) ∙ ap (λ m. take m values) (next k)

          more : (item : Item) → FitsKind kind item → All (FitsKind kind) (items ++ item ∷ [])
          more item fits = All-append (FitsKind kind) items (item ∷ []) each (one_item (FitsKind kind) item fits)

          bad : ((xs : List Item) → map item_value xs ≡ take (suc k) values → All (FitsKind kind) xs → ⊥) → IsFirstNoItem kind values k
          bad later = record {
            within = omega (arith, e);
            before = (items, same, each);
            none = λ item fits here. later (items ++ item ∷ []) (longer item here) (more item fits);
          }

    no_shape : HasNoShape kind d
    no_shape version levels values fit is = go_on version levels values fit is (length values) 0 (omega arith) [] refl (λ i x l. absurd (omega (arith, l)))

    spells_nothing : ⊥
    spells_nothing = none (Err (BadShape 0)) (λ e. cc) (d, spells, inl (refl, no_shape, no_other))

  pub denotes_nothing : ⊥
  denotes_nothing = none (Err NotJson) (λ e. cc) spells_nothing

-- nor do they with the limit on their number
pub certificate_some : (file : List ℕ) (kind : Kind) (bytes : List ℕ) → ¬ ((r : Result Certificate (List ℕ)) → ¬ CertificateIn file kind bytes r)
certificate_some file kind bytes none = elim (cases_lt MOST_CERTIFICATE_BYTES (length bytes)) [
  | inl many ↦ none (Err (file_line file (codes "TooLong"))) (inl (many, refl))
  | inr few ↦ denotes_nothing kind bytes (within few)
]
  where
    within : length bytes ≤ MOST_CERTIFICATE_BYTES → (r : Result Certificate JsonFault) → r ≢ Err NoMemory → ¬ IsDenoted kind bytes r
    within few (Ok c) other is = none (Ok c) (few, is)
    within few (Err f) other is = none (Err (file_line file (json_fault_text f))) (inr (few, (f, (λ e. other (ap Err e)), is, refl)))
