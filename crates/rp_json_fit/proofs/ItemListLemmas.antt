-- Items that are read one after another.
use Rattle.std.proofs.Common.{◌≡◌, ◌≢◌, ◌⊎◌, inl, inr, ℕ, zero, suc, ◌<◌, Bool, true, false, List, [], ◌∷◌, All, get_or, length, map, take, Some, Result, Ok, Err, refl, sym, ap, subst, ◌∙◌, arith}
use Rattle.rp_fit.specs.declared.item.FitItem.{FitItem}
use Rattle.rp_fit.specs.declared.item.FitItem.TheVariants.{Violations as ViolationsItem}
use Rattle.serde_json.specs.Data.{Data, null}
use Rattle.rp_json.specs.Denoted.{Spells}
use Rattle.rp_json.specs.declared.fault.JsonFault.{JsonFault}
use Rattle.rp_json.specs.declared.fault.JsonFault.TheVariants.{BadShape, BadVersion, NoMemory, NotJson}
use Rattle.rp_json_fit.specs.FitDenoted.{IsFirstNoItem, IsFitDenoted, IsFitDenotedBy, IsFitTop, IsSpelledSo}
use Rattle.rp_json_fit.specs.FitLimits.{FitsItem}
use Rattle.rp_json_fit.specs.FitValue.{fit_item_value, fit_text, fit_top, fit_value}
use Rattle.rp_json_fit.specs.InnerFitItems.{AreAllMembers, AreFitItems}
use Rattle.rp_json_entries.proofs.ListLemmas.{AreSoFar}
use Rattle.rp_json_fit.proofs.TopLemmas.{no_other_version, same_top}
use Rattle.rp_json_fit.proofs.ReadsBack.{fit_text_read, fit_text_utf8}

module _ {V : Type 0} (seen : V → Data) where
  length_seen : (vs : List V) → length (map seen vs) ≡ length vs
  length_seen [] = refl
  length_seen (v ∷ vs) = ap suc (length_seen vs)

  take_seen : (k : ℕ) (vs : List V) → map seen (take k vs) ≡ take k (map seen vs)
  take_seen zero vs = refl
  take_seen (suc k) [] = refl
  take_seen (suc k) (v ∷ vs) = ap (λ ds. seen v ∷ ds) (take_seen k vs)

  at_seen : (vs : List V) (k : ℕ) (v : V) → k < length vs → v ≡ get_or vs k v → get_or (map seen vs) k null ≡ seen v
  at_seen [] k v within at = absurd (omega arith)
  at_seen (w ∷ vs) zero v within at = ap seen (sym at)
  at_seen (w ∷ vs) (suc k) v within at = at_seen vs k v (omega arith) at

  pub first_no_item : (vs : List V) (k : ℕ) (v : V) (items : List FitItem) → k < length vs → v ≡ get_or vs k v
      → AreSoFar fit_item_value FitsItem (map seen (take k vs)) items → ((item : FitItem) → FitsItem item → fit_item_value item ≢ seen v)
      → IsFirstNoItem (map seen vs) k
  first_no_item vs k v items within at so none = record {
    within = omega (arith, within, length_seen vs);
    before = (items, so.0 ∙ take_seen k vs, so.1);
    none = λ item h e. none item h (e ∙ at_seen vs k v within at);
  }

pub all_items : (values : List Data) (items : List FitItem) → AreSoFar fit_item_value FitsItem values items → AreFitItems values items
all_items values items so = record { same_values = so.0; fit = so.1; only = so.2 }

-- ---- certificates

-- items of these values make the certificate of the value, and no other does
pub certificate_found : (d : Data) (values : List Data) (items : List FitItem) → d ≡ fit_top 1 values → AreFitItems values items → IsFitDenotedBy d (Ok items)
certificate_found d values items is are =
    (ap (fit_top 1) are.same_values ∙ sym is, are.fit, λ others fits e. are.only others fits (same_top (map fit_item_value others) values (e ∙ is)))

pub whole_found : (d : Data) (version : ℕ) (values : List Data) (yes : Bool) (items : List FitItem) → version ≡ 1 → IsFitTop version values d → yes ≡ true
    → AreAllMembers d yes → AreFitItems values items → IsFitDenotedBy d (Ok items)
whole_found d version values true items one top own whole are = certificate_found d values items (whole values (subst (λ n. IsFitTop n values d) one top)) are
whole_found d version values false items one top own whole are = absurd cc

-- ---- what is written is read

one_value : (bytes : List ℕ) (d e : Data) → Spells bytes d → Spells bytes e → d ≡ e
one_value bytes d e one two = some_same d e (sym one.1 ∙ two.1)
  where
    some_same : (a b : Data) → Some a ≡ Some b → a ≡ b
    some_same a b p = search

pub text_spells : (items : List FitItem) → All FitsItem items → Spells (fit_text items) (fit_value items)
text_spells items h = (fit_text_utf8 items h, fit_text_read items h)

-- every value of an item is that of one
item_there : (items : List FitItem) (values : List Data) (k : ℕ) → All FitsItem items → map fit_item_value items ≡ values → IsFirstNoItem values k → ⊥
item_there items values k fit same bad =
    let bound : k < length items = omega (arith, bad.within, ap length same, length_seen fit_item_value items) in
    let place = at_seen fit_item_value items k (get_or items k no_item) bound (get_or_read_at items k bound) in
    bad.none (get_or items k no_item) (fit k no_item bound) (sym place ∙ ap (λ ds. get_or ds k null) same)
  where
    no_item : FitItem
    no_item = ViolationsItem (record { garp = 0; weak_garp = 0; warp = 0; sarp = 0; observations = 0 })

    get_or_read_at : (xs : List FitItem) (k : ℕ) → k < length xs → get_or xs k no_item ≡ get_or xs k (get_or xs k no_item)
    get_or_read_at [] k l = absurd (omega arith)
    get_or_read_at (x ∷ xs) zero l = refl
    get_or_read_at (x ∷ xs) (suc k) l = get_or_read_at xs k (omega arith)

-- bytes that spell the value of a certificate denote that certificate
pub one_denoted : (bytes : List ℕ) (items : List FitItem) (result : Result (List FitItem) JsonFault) → All FitsItem items → Spells bytes (fit_value items)
    → IsFitDenoted bytes result → (result ≡ Ok items) ⊎ (result ≡ Err NoMemory)
one_denoted bytes items (Ok others) h spells denoted =
    let same = one_value bytes denoted.0 (fit_value items) denoted.1 spells in
    inl (ap Ok (sym (denoted.2.2 items h (sym same))))
one_denoted bytes items (Err NotJson) h spells denoted = absurd (denoted (fit_value items) spells)
one_denoted bytes items (Err BadVersion) h spells denoted = absurd (wrong denoted)
  where
    wrong : IsSpelledSo bytes (Err BadVersion) → ⊥
    wrong (d, its, other) = no_other_version (map fit_item_value items) d (one_value bytes d (fit_value items) its spells) other
one_denoted bytes items (Err (BadShape item)) h spells denoted = absurd (wrong denoted)
  where
    wrong : IsSpelledSo bytes (Err (BadShape item)) → ⊥
    wrong (d, its, inl (zero_item, no_shape, no_other)) = no_shape (map fit_item_value items) (one_value bytes d (fit_value items) its spells)
    wrong (d, its, inr (values, is, (k, bad, counted))) =
        let same = one_value bytes d (fit_value items) its spells in
        item_there items values k h (same_top (map fit_item_value items) values (sym same ∙ is)) bad
one_denoted bytes items (Err NoMemory) h spells denoted = inr refl

-- so does the text of a certificate
pub read_back : (items : List FitItem) (result : Result (List FitItem) JsonFault) → All FitsItem items → IsFitDenoted (fit_text items) result
    → (result ≡ Ok items) ⊎ (result ≡ Err NoMemory)
read_back items result h denoted = one_denoted (fit_text items) items result h (text_spells items h) denoted

-- and bytes that denote a certificate denote nothing else
pub denoted_once : (bytes : List ℕ) (items : List FitItem) (result : Result (List FitItem) JsonFault) → IsFitDenoted bytes (Ok items) → IsFitDenoted bytes result
    → (result ≡ Ok items) ⊎ (result ≡ Err NoMemory)
denoted_once bytes items result (d, spells, (value, fits, only)) denoted =
    one_denoted bytes items result fits (subst (Spells bytes) (sym value) spells) denoted
