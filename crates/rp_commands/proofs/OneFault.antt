-- What is refused is refused for one reason: no two faults of a certificate's bytes, of choices or of patches.
use Rattle.std.proofs.Common.{◌≡◌, ◌≢◌, ◌⊎◌, ◌<◌, ◌≤◌, ◌+◌, ◌-◌, ◌^◌, ℕ, zero, suc, Bool, true, false, Option, List, [], ◌∷◌, All, get_or, length, map, take, drop, min, Some, Err, inl, inr, refl, sym, ap, subst, ◌∙◌, arith}
use Rattle.std.proofs.lemmas.Bool.{ltb-false, ltb-true}
use Rattle.std.specs.Prelude.{nat_lt}
use Rattle.rp_evidence.specs.declared.certificate.Item.{Item}
use Rattle.rp_evidence.specs.declared.certificate.Kind.{Kind}
use Rattle.serde_json.specs.Data.{Data, null}
use Rattle.rp_json.specs.CertificateValue.{item_value}
use Rattle.rp_json.specs.Denoted.{FitsKind, HasBadItem, HasNoShape, HasOtherVersion, IsDenoted, IsFirstNoItem, IsSpelledSo, Spells}
use Rattle.rp_json.specs.declared.fault.JsonFault.{JsonFault}
use Rattle.rp_json.specs.declared.fault.JsonFault.TheVariants.{BadShape, BadVersion, NoMemory, NotJson}
use Rattle.rp_json.proofs.TopLemmas.{no_other_version, same_top}
use Rattle.rp_patch.specs.Apportionment.{GroupedCounts, IsCommonMultiple, PassesTotalAt}
use Rattle.rp_patch.specs.Choices.{RandomInput}
use Rattle.rp_patch.specs.Patches.{PatchList}
use Rattle.rp_patch.specs.Units.{PassesPatchesAt, SaysWhyWithin, all_chosen, chosen_counts}
use Rattle.rp_patch.specs.declared.fault.PatchFault.{PatchFault}
use Rattle.rp_patch.specs.declared.fault.PatchFault.TheVariants as patch_fault
use Rattle.rp_types.specs.Listed.{SaysWhy as SaysWhyNoTypes}
use Rattle.rp_types.specs.declared.fault.TypesFault.{TypesFault}
use Rattle.rp_types.specs.declared.fault.TypesFault.TheVariants as types_fault
use Rattle.rp_commands.proofs.PatchesApart.{chosen_within}

-- neither of two numbers is less
pub neither_less : (j k : ℕ) → (j < k → ⊥) → (k < j → ⊥) → j ≡ k
neither_less j k not_less not_more = go (nat_lt j k) refl (nat_lt k j) refl
  where
    go : (t : Bool) → nat_lt j k ≡ t → (u : Bool) → nat_lt k j ≡ u → j ≡ k
    go true is u also = absurd (not_less (ltb-true j k is))
    go false is true also = absurd (not_more (ltb-true k j also))
    go false is false also = omega (arith, ltb-false j k is, ltb-false k j also)

-- ---- a certificate's bytes

one_value : (bytes : List ℕ) (d e : Data) → Spells bytes d → Spells bytes e → d ≡ e
one_value bytes d e one two = some_same d e (sym one.1 ∙ two.1)
  where
    some_same : (a b : Data) → Some a ≡ Some b → a ≡ b
    some_same a b p = search

-- items that stand before a value make that value one of an item
item_before : (kind : Kind) (items : List Item) (values : List Data) (k n : ℕ) → map item_value items ≡ take n values → All (FitsKind kind) items → k < n → k < length values
    → ((item : Item) → FitsKind kind item → item_value item ≢ get_or values k null) → ⊥
item_before kind items [] k n same fit less within none = omega (arith, within)
item_before kind items (v ∷ vs) k zero same fit less within none = omega (arith, less)
item_before kind [] (v ∷ vs) k (suc n) same fit less within none = let wrong : length {A = Data} [] ≡ suc (length (take n vs)) = ap length same in omega (arith, wrong)
item_before kind (i ∷ is) (v ∷ vs) zero (suc n) same fit less within none = none i (fit 0 i (omega arith)) (ap (λ ds. get_or ds 0 null) same)
item_before kind (i ∷ is) (v ∷ vs) (suc k) (suc n) same fit less within none =
    item_before kind is vs k n (ap (drop 1) same) (λ p d l. fit (suc p) d (omega (arith, l))) (omega (arith, less)) (omega (arith, within)) none

bad_once : (kind : Kind) (values : List Data) (k n : ℕ) → IsFirstNoItem kind values k → IsFirstNoItem kind values n → k < n → ⊥
bad_once kind values k n first other less = item_before kind other.before.0 values k n other.before.1 other.before.2 less first.within first.none

bad_item_once : (kind : Kind) (d : Data) (item other : ℕ) → HasBadItem kind d item → HasBadItem kind d other → item ≡ other
bad_item_once kind d item other (version, levels, values, fit, is, (k, bad, counted)) (also_version, also_levels, also_values, also_fit, also_is, (n, also_bad, also_counted)) =
    let tops = same_top kind kind also_version version also_levels levels also_values values also_fit fit (sym also_is ∙ is) in
    let moved = subst (λ vs. IsFirstNoItem kind vs n) tops.2 also_bad in
    let one : k ≡ n = neither_less k n (bad_once kind values k n bad moved) (bad_once kind values n k moved bad) in
    counted ∙ ap (λ m. min (m + 1) (2 ^ 32 - 1)) one ∙ sym also_counted

-- no certificate as a whole, or one with this item
abbrev IsBadShape : Kind → Data → ℕ → Type 0
IsBadShape kind d item = ((item ≡ 0) × HasNoShape kind d × ¬ HasOtherVersion kind d) ⊎ HasBadItem kind d item

shape_once : (kind : Kind) (d : Data) (item other : ℕ) → IsBadShape kind d item → IsBadShape kind d other → item ≡ other
shape_once kind d item other (inl (is, no_shape, no_other)) (inl (also, too, still)) = is ∙ sym also
shape_once kind d item other (inl (is, no_shape, no_other)) (inr (version, levels, values, fit, top, bad)) = absurd (no_shape version levels values fit top)
shape_once kind d item other (inr (version, levels, values, fit, top, bad)) (inl (is, no_shape, no_other)) = absurd (no_shape version levels values fit top)
shape_once kind d item other (inr bad) (inr also) = bad_item_once kind d item other bad also

version_apart : (kind : Kind) (bytes : List ℕ) (item : ℕ) → IsSpelledSo kind bytes (Err BadVersion) → IsSpelledSo kind bytes (Err (BadShape item)) → ⊥
version_apart kind bytes item (d, its, is) (e, also, inl (zero_item, no_shape, no_other)) =
    no_other (subst (HasOtherVersion kind) (one_value bytes d e its also) is)
version_apart kind bytes item (d, its, is) (e, also, inr (version, levels, values, fit, top, bad)) =
    no_other_version kind version levels values d fit (one_value bytes d e its also ∙ top) is

pub json_fault_once : (kind : Kind) (bytes : List ℕ) (f g : JsonFault) → f ≢ NoMemory → g ≢ NoMemory → IsDenoted kind bytes (Err f) → IsDenoted kind bytes (Err g) → f ≡ g
json_fault_once kind bytes NoMemory g real also is too = absurd (real refl)
json_fault_once kind bytes NotJson NoMemory real also is too = absurd (also refl)
json_fault_once kind bytes NotJson NotJson real also is too = refl
json_fault_once kind bytes NotJson BadVersion real also is too = absurd (is too.0 too.1)
json_fault_once kind bytes NotJson (BadShape item) real also is too = absurd (is too.0 too.1)
json_fault_once kind bytes BadVersion NoMemory real also is too = absurd (also refl)
json_fault_once kind bytes BadVersion NotJson real also is too = absurd (too is.0 is.1)
json_fault_once kind bytes BadVersion BadVersion real also is too = refl
json_fault_once kind bytes BadVersion (BadShape item) real also is too = absurd (version_apart kind bytes item is too)
json_fault_once kind bytes (BadShape item) NoMemory real also is too = absurd (also refl)
json_fault_once kind bytes (BadShape item) NotJson real also is too = absurd (too is.0 is.1)
json_fault_once kind bytes (BadShape item) BadVersion real also is too = absurd (version_apart kind bytes item too is)
json_fault_once kind bytes (BadShape item) (BadShape other) real also (d, its, is) (e, theirs, too) =
    let same : e ≡ d = one_value bytes e d theirs its in
    ap BadShape (shape_once kind d item other is (subst (λ x. IsBadShape kind x other) same too))

-- ---- choices

passed_once : (input : RandomInput) (most j k : ℕ) → PassesPatchesAt input most j → PassesPatchesAt input most k → j < k → ⊥
passed_once input most j k (below, few, many) (also_below, also_few, also_many) less =
    let rise = chosen_within input (j + 1) k (omega (arith, less)) in
    omega (arith, rise, many, also_few)

-- what passes the limit first does so at one group
pub passes_once : (g : GroupedCounts) (j k : ℕ) → PassesTotalAt g j → PassesTotalAt g k → j < k → ⊥
passes_once g j k (below, fits, (m, (multiple, least), many)) (also_below, (n, (also_multiple, also_least), few), also_many) less =
    let first : IsCommonMultiple g (j + 1) n = (also_multiple.0, λ i l. also_multiple.1 i (omega (arith, less, l))) in
    omega (arith, least n first, many, few)

patches_units_apart : (input : RandomInput) (most j : ℕ) → PassesPatchesAt input most j → length (all_chosen input) ≤ most → ⊥
patches_units_apart input most j (below, few, many) all =
    let rise = chosen_within input (j + 1) input.budgets (omega (arith, below)) in
    omega (arith, rise, many, all)

pub patch_fault_once : (input : RandomInput) (asked : Option ℕ) (most : ℕ) (f g : PatchFault) → f ≢ patch_fault.NoMemory → g ≢ patch_fault.NoMemory → SaysWhyWithin input asked most f → SaysWhyWithin input asked most g → f ≡ g
patch_fault_once input asked most patch_fault.NoMemory g real also is too = absurd (real refl)
patch_fault_once input asked most (patch_fault.TooManyPatches j) patch_fault.NoMemory real also is too = absurd (also refl)
patch_fault_once input asked most (patch_fault.TooManyPatches j) (patch_fault.TooManyPatches k) real also is too =
    ap patch_fault.TooManyPatches (neither_less j k (passed_once input most j k is too) (passed_once input most k j too is))
patch_fault_once input asked most (patch_fault.TooManyPatches j) (patch_fault.NeedUnit k) real also is too = absurd (patches_units_apart input most j is too.0)
patch_fault_once input asked most (patch_fault.NeedUnit j) patch_fault.NoMemory real also is too = absurd (also refl)
patch_fault_once input asked most (patch_fault.NeedUnit j) (patch_fault.TooManyPatches k) real also is too = absurd (patches_units_apart input most k too is.0)
patch_fault_once input asked most (patch_fault.NeedUnit j) (patch_fault.NeedUnit k) real also (few, none, is) (also_few, also_none, too) =
    ap patch_fault.NeedUnit (neither_less j k (passes_once (chosen_counts input) j k is too) (passes_once (chosen_counts input) k j too is))

-- ---- patches

pub types_fault_once : (p : PatchList) (f g : TypesFault) → f ≢ types_fault.NoMemory → g ≢ types_fault.NoMemory → SaysWhyNoTypes p f → SaysWhyNoTypes p g → f ≡ g
types_fault_once p types_fault.NoMemory g real also is too = absurd (real refl)
types_fault_once p types_fault.TooManyCombinations types_fault.NoMemory real also is too = absurd (also refl)
types_fault_once p types_fault.TooManyCombinations types_fault.TooManyCombinations real also is too = refl
types_fault_once p types_fault.TooManyCombinations types_fault.TooManyTypes real also is (fits, more) = absurd (omega (arith, is, fits))
types_fault_once p types_fault.TooManyTypes types_fault.NoMemory real also is too = absurd (also refl)
types_fault_once p types_fault.TooManyTypes types_fault.TooManyCombinations real also (fits, more) too = absurd (omega (arith, too, fits))
types_fault_once p types_fault.TooManyTypes types_fault.TooManyTypes real also is too = refl
