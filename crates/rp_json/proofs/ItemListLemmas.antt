-- Items that are read one after another.
use Rattle.std.proofs.Common.{◌≡◌, ◌≢◌, ◌⊎◌, inl, inr, ℕ, zero, suc, ◌<◌, List, [], ◌∷◌, All, get_or, length, map, take, Some, Result, Ok, Err, refl, sym, ap, subst, ◌∙◌, arith}
use Rattle.rp_evidence.specs.declared.certificate.Certificate.{Certificate}
use Rattle.rp_evidence.specs.declared.certificate.Item.TheVariants.{Random as RandomItem}
use Rattle.rp_evidence.specs.declared.random.RandomPart.TheVariants.{Wide}
use Rattle.rp_evidence.specs.declared.certificate.Item.{Item}
use Rattle.rp_evidence.specs.declared.certificate.Kind.{Kind}
use Rattle.serde_json.specs.Data.{Data, null}
use Rattle.rp_json.specs.CertificateValue.{certificate_text, certificate_value, item_value, top_value}
use Rattle.rp_json.specs.Denoted.{FitLevels, FitsKind, IsDenoted, IsDenotedBy, IsFirstNoItem, IsReadable, IsSpelledSo, Spells}
use Rattle.rp_json.specs.InnerItems.{AreItems}
use Rattle.rp_json.specs.Limits.{FitsItem}
use Rattle.rp_json.specs.declared.fault.JsonFault.{JsonFault}
use Rattle.rp_json.specs.declared.fault.JsonFault.TheVariants.{BadShape, BadVersion, NoMemory, NotJson}
use Rattle.rp_json_entries.proofs.ListLemmas.{AreSoFar}
use Rattle.rp_json.proofs.TopLemmas.{no_other_version, same_top}
use Rattle.rp_json.proofs.ReadsBack.{certificate_text_read, certificate_text_utf8}

module _ {V : Type 0} (seen : V → Data) where
  length_seen : (vs : List V) → length (map seen vs) ≡ length vs
  length_seen [] = refl
  length_seen (v ∷ vs) = ap suc (length_seen vs)

  take_seen : (k : ℕ) (vs : List V) → map seen (take k vs) ≡ take k (map seen vs)
  take_seen zero vs = refl
  take_seen (suc k) [] = refl
  take_seen (suc k) (v ∷ vs) = ap (λ ds. seen v ∷ ds) (take_seen k vs)

  at_seen : (vs : List V) (k : ℕ) (v : V) → k < length vs → v ≡ get_or vs k v → get_or (map seen vs) k null ≡ seen v
  at_seen [] k v within at = absurd (omega arith)
  at_seen (w ∷ vs) zero v within at = ap seen (sym at)
  at_seen (w ∷ vs) (suc k) v within at = at_seen vs k v (omega arith) at

  pub first_no_item : (kind : Kind) (vs : List V) (k : ℕ) (v : V) (items : List Item) → k < length vs → v ≡ get_or vs k v
      → AreSoFar item_value (FitsKind kind) (map seen (take k vs)) items → ((item : Item) → FitsKind kind item → item_value item ≢ seen v)
      → IsFirstNoItem kind (map seen vs) k
  first_no_item kind vs k v items within at so none = record {
    within = omega (arith, within, length_seen vs);
    before = (items, so.0 ∙ take_seen k vs, so.1);
    none = λ item h e. none item h (e ∙ at_seen vs k v within at);
  }

pub all_items : (kind : Kind) (values : List Data) (items : List Item) → AreSoFar item_value (FitsKind kind) values items → AreItems kind values items
all_items kind values items so = record { same_values = so.0; fit = so.1; only = so.2 }

-- ---- certificates

-- items of these values make the certificate of the value, and no other does
pub certificate_found : (kind : Kind) (d : Data) (version : ℕ) (levels : List ℕ) (values : List Data) (items : List Item) → d ≡ top_value kind version levels values
    → FitLevels kind version levels → AreItems kind values items → IsDenotedBy kind d (Ok (record { kind = kind; version = version; levels = levels; items = items }))
certificate_found kind d version levels values items is fit are = (whole, record { of_kind = refl; levels = fit; items = are.fit }, only)
  where
    whole : certificate_value (record { kind = kind; version = version; levels = levels; items = items }) ≡ d
    whole = ap (top_value kind version levels) are.same_values ∙ sym is

    only : (other : Certificate) → IsReadable kind other → certificate_value other ≡ d → other ≡ record { kind = kind; version = version; levels = levels; items = items }
    only other readable e =
        let same = same_top other.kind kind other.version version other.levels levels (map item_value other.items) values
        (subst (λ k. FitLevels k other.version other.levels) (sym readable.of_kind) readable.levels) fit (e ∙ is) in
        let items_same : other.items ≡ items = are.only other.items readable.items same.2 in
        λ i. record { kind = readable.of_kind i; version = same.0 i; levels = same.1 i; items = items_same i }

-- ---- what is written is read

one_value : (bytes : List ℕ) (d e : Data) → Spells bytes d → Spells bytes e → d ≡ e
one_value bytes d e one two = some_same d e (sym one.1 ∙ two.1)
  where
    some_same : (a b : Data) → Some a ≡ Some b → a ≡ b
    some_same a b p = search

fit_items : (kind : Kind) (items : List Item) → All (FitsKind kind) items → All FitsItem items
fit_items kind items h k d l = (h k d l).1

pub text_spells : (kind : Kind) (c : Certificate) → IsReadable kind c → Spells (certificate_text c) (certificate_value c)
text_spells kind c h =
    let fit = fit_items kind c.items h.items in
    (certificate_text_utf8 kind c h.levels fit, certificate_text_read kind c h.levels fit)

-- the value of a certificate has its kind's shape
own_value : (kind : Kind) (c : Certificate) (d : Data) → IsReadable kind c → d ≡ certificate_value c → d ≡ top_value kind c.version c.levels (map item_value c.items)
own_value kind c d h same = same ∙ ap (λ k. top_value k c.version c.levels (map item_value c.items)) h.of_kind

-- every value of an item is that of one
item_there : (kind : Kind) (items : List Item) (values : List Data) (k : ℕ) → All (FitsKind kind) items → map item_value items ≡ values → IsFirstNoItem kind values k → ⊥
item_there kind items values k fit same bad =
    let bound : k < length items = omega (arith, bad.within, ap length same, length_seen item_value items) in
    let place = at_seen item_value items k (get_or items k no_item) bound (get_or_read_at items k bound) in
    bad.none (get_or items k no_item) (fit k no_item bound) (sym place ∙ ap (λ ds. get_or ds k null) same)
  where
    no_item : Item
    no_item = RandomItem 0 (Wide 0)

    get_or_read_at : (xs : List Item) (k : ℕ) → k < length xs → get_or xs k no_item ≡ get_or xs k (get_or xs k no_item)
    get_or_read_at [] k l = absurd (omega arith)
    get_or_read_at (x ∷ xs) zero l = refl
    get_or_read_at (x ∷ xs) (suc k) l = get_or_read_at xs k (omega arith)

-- bytes that spell the value of a certificate denote that certificate
pub one_denoted : (kind : Kind) (bytes : List ℕ) (c : Certificate) (result : Result Certificate JsonFault) → IsReadable kind c → Spells bytes (certificate_value c)
    → IsDenoted kind bytes result → (result ≡ Ok c) ⊎ (result ≡ Err NoMemory)
one_denoted kind bytes c (Ok other) h spells denoted =
    let same = one_value bytes denoted.0 (certificate_value c) denoted.1 spells in
    inl (ap Ok (sym (denoted.2.2 c h (sym same))))
one_denoted kind bytes c (Err NotJson) h spells denoted = absurd (denoted (certificate_value c) spells)
one_denoted kind bytes c (Err BadVersion) h spells denoted = absurd (wrong denoted)
  where
    wrong : IsSpelledSo kind bytes (Err BadVersion) → ⊥
    wrong (d, its, other) =
        let same = one_value bytes d (certificate_value c) its spells in
        no_other_version kind c.version c.levels (map item_value c.items) d h.levels (own_value kind c d h same) other
one_denoted kind bytes c (Err (BadShape item)) h spells denoted = absurd (wrong denoted)
  where
    wrong : IsSpelledSo kind bytes (Err (BadShape item)) → ⊥
    wrong (d, its, inl (zero_item, no_shape, no_other)) =
        let same = one_value bytes d (certificate_value c) its spells in
        no_shape c.version c.levels (map item_value c.items) h.levels (own_value kind c d h same)
    wrong (d, its, inr (version, levels, values, fit, is, (k, bad, counted))) =
        let same = one_value bytes d (certificate_value c) its spells in
        let tops = same_top kind kind c.version version c.levels levels (map item_value c.items) values h.levels fit (sym (own_value kind c d h same) ∙ is) in
        item_there kind c.items values k h.items tops.2 bad
one_denoted kind bytes c (Err NoMemory) h spells denoted = inr refl

-- so does the text of a certificate
pub read_back : (kind : Kind) (c : Certificate) (result : Result Certificate JsonFault) → IsReadable kind c → IsDenoted kind (certificate_text c) result
    → (result ≡ Ok c) ⊎ (result ≡ Err NoMemory)
read_back kind c result h denoted = one_denoted kind (certificate_text c) c result h (text_spells kind c h) denoted

-- and bytes that denote a certificate denote nothing else
pub denoted_once : (kind : Kind) (bytes : List ℕ) (c : Certificate) (result : Result Certificate JsonFault) → IsDenoted kind bytes (Ok c) → IsDenoted kind bytes result
    → (result ≡ Ok c) ⊎ (result ≡ Err NoMemory)
denoted_once kind bytes c result (d, spells, (value, readable, only)) denoted =
    one_denoted kind bytes c result readable (subst (Spells bytes) (sym value) spells) denoted
