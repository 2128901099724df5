-- Values that are read back from their compact text, also with a line feed behind it.
use Rattle.std.proofs.Common.{◌≡◌, ℕ, suc, ◌<◌, ◌≤◌, ◌^◌, Bool, true, false, ◌&&◌, List, [], ◌∷◌, ◌++◌, All, map, Option, Some, option_map, option_and_then, IsUtf8, refl, sym, ap, ◌∙◌, arith, append-nil}
use Rattle.std.specs.Prelude.{⊤}
use Rattle.std.proofs.lemmas.Bool.{and_parts}
use Rattle.std.proofs.lemmas.Fmt.{IsAscii-decimal}
use Rattle.std.proofs.lemmas.Str.{IsUtf8-append, IsUtf8-from_ascii, IsUtf8-nil}
use Rattle.json.specs.Json as json
use Rattle.json.specs.Lex.{tokens}
use Rattle.json.specs.Token.{Token}
use Rattle.json.specs.Tree.{depth, items_depth, members_depth, json_tokens, HasNumbers, ItemsHaveNumbers, MembersHaveNumbers}
use Rattle.json.proofs.Printed.Decimals.{IsNumber-decimal}
use Rattle.json.proofs.Printed.Trees.{value-json_tokens, ArePrintable-json_tokens}
use Rattle.json.proofs.Printed.Utf8.{are_ascii, IsUtf8-are_ascii, IsUtf8-quoted}
use Rattle.serde_json.specs.Data.{Data, unsigned, number, string, array, object, Items, no_items, item, Members, no_members, member, put}
use Rattle.serde_json.specs.Read.{of_json, of_items, of_members, max_depth, read}
use Rattle.serde_json.specs.View.{items_of}
use Rattle.serde_json.specs.Written.{outline, items_outline, members_outline, comma_if, compact_text, items_text, members_text}
use Rattle.serde_json.proofs.Numbers.{number_of-decimal}
use Rattle.serde_json.proofs.Texts.{print-outline}
use Rattle.rp_json.proofs.LineFeed.{tokens_of_line}
use Rattle.rp_json_entries.proofs.ListLemmas.{all_first, all_rest}
use Rattle.rp_json_entries.specs.Values.{list_value}

-- The text of the value is UTF-8, and the grammar reads it as the value, which nests at most k deep.
pub record ReadsBack (k : ℕ) (d : Data) : Type 0 where
  pub same : of_json (outline d) ≡ Some d
  pub numbers : HasNumbers (outline d)
  pub shallow : depth (outline d) ≤ k
  pub utf8 : IsUtf8 (compact_text d)

pub text_reads : (k : ℕ) (s : List ℕ) → IsUtf8 s → ReadsBack k (string s)
text_reads k s u = record { same = refl; numbers = tt; shallow = omega arith; utf8 = IsUtf8-quoted s u }

pub number_reads : (k n : ℕ) → n < 2 ^ 64 → ReadsBack k (number (unsigned n))
number_reads k n h = record {
  same = ap (option_map number) (number_of-decimal n h);
  numbers = IsNumber-decimal n h;
  shallow = omega arith;
  utf8 = IsUtf8-from_ascii _ (IsAscii-decimal n h);
}

comma_utf8 : (later : Bool) → IsUtf8 (comma_if later)
comma_utf8 true = IsUtf8-are_ascii (44 ∷ []) refl
comma_utf8 false = IsUtf8-nil

-- ---- arrays

abbrev pub EachReads : ℕ → Items → Type 0
EachReads k no_items = ⊤
EachReads k (item d ds) = ReadsBack k d × EachReads k ds

items_same : (k : ℕ) (ds : Items) → EachReads k ds → of_items (items_outline ds) ≡ Some ds
items_same k no_items h = refl
items_same k (item d ds) h = rw (h.0.same, items_same k ds h.1) refl

items_numbers : (k : ℕ) (ds : Items) → EachReads k ds → ItemsHaveNumbers (items_outline ds)
items_numbers k no_items h = tt
items_numbers k (item d ds) h = (h.0.numbers, items_numbers k ds h.1)

items_shallow : (k : ℕ) (ds : Items) → EachReads k ds → items_depth (items_outline ds) ≤ k
items_shallow k no_items h = omega arith
items_shallow k (item d ds) h = omega (arith, h.0.shallow, items_shallow k ds h.1)

items_utf8 : (k : ℕ) (later : Bool) (ds : Items) → EachReads k ds → IsUtf8 (items_text later ds)
items_utf8 k later no_items h = IsUtf8-are_ascii (93 ∷ []) refl
items_utf8 k later (item d ds) h = IsUtf8-append _ _ (comma_utf8 later) (IsUtf8-append _ _ h.0.utf8 (items_utf8 k true ds h.1))

pub array_reads : (k : ℕ) (ds : Items) → EachReads k ds → ReadsBack (suc k) (array ds)
array_reads k ds h = record {
  same = ap (option_map array) (items_same k ds h);
  numbers = items_numbers k ds h;
  shallow = omega (arith, items_shallow k ds h);
  utf8 = IsUtf8-append (91 ∷ []) _ (IsUtf8-are_ascii (91 ∷ []) refl) (items_utf8 k false ds h);
}

each_reads : {X : Type 0} (k : ℕ) (value_of : X → Data) (fits : X → Type 0) → ((x : X) → fits x → ReadsBack k (value_of x)) → (xs : List X) → All fits xs → EachReads k (items_of (map value_of xs))
each_reads k value_of fits one [] h = tt
each_reads k value_of fits one (x ∷ xs) h = (one x (all_first fits x xs h), each_reads k value_of fits one xs (all_rest fits x xs h))

pub list_reads : {X : Type 0} (k : ℕ) (value_of : X → Data) (fits : X → Type 0) → ((x : X) → fits x → ReadsBack k (value_of x)) → (xs : List X) → All fits xs → ReadsBack (suc k) (list_value value_of xs)
list_reads k value_of fits one xs h = array_reads k _ (each_reads k value_of fits one xs h)

-- ---- objects

abbrev pub MembersRead : ℕ → Members → Type 0
MembersRead k no_members = ⊤
MembersRead k (member name d ms) = ReadsBack k d × MembersRead k ms

abbrev pub names_ascii : Members → Bool
names_ascii no_members = true
names_ascii (member name d ms) = are_ascii name && names_ascii ms

-- the members put in one after another
abbrev pub all_put : Members → Members → Members
all_put no_members found = found
all_put (member name d ms) found = all_put ms (put name d found)

members_same : (k : ℕ) (ms found : Members) → MembersRead k ms → of_members (members_outline ms) found ≡ Some (all_put ms found)
members_same k no_members found h = refl
members_same k (member name d ms) found h = rw h.0.same (members_same k ms (put name d found) h.1)

members_numbers : (k : ℕ) (ms : Members) → MembersRead k ms → MembersHaveNumbers (members_outline ms)
members_numbers k no_members h = tt
members_numbers k (member name d ms) h = (h.0.numbers, members_numbers k ms h.1)

members_shallow : (k : ℕ) (ms : Members) → MembersRead k ms → members_depth (members_outline ms) ≤ k
members_shallow k no_members h = omega arith
members_shallow k (member name d ms) h = omega (arith, h.0.shallow, members_shallow k ms h.1)

members_utf8 : (k : ℕ) (later : Bool) (ms : Members) → names_ascii ms ≡ true → MembersRead k ms → IsUtf8 (members_text later ms)
members_utf8 k later no_members names h = IsUtf8-are_ascii (125 ∷ []) refl
members_utf8 k later (member name d ms) names h =
    let parts = and_parts (are_ascii name) (names_ascii ms) names in
    let value = IsUtf8-append _ _ h.0.utf8 (members_utf8 k true ms parts.1 h.1) in
    let colon = IsUtf8-append (58 ∷ []) _ (IsUtf8-are_ascii (58 ∷ []) refl) value in
    IsUtf8-append _ _ (comma_utf8 later) (IsUtf8-append _ _ (IsUtf8-quoted name (IsUtf8-are_ascii name parts.0)) colon)

pub object_reads : (k : ℕ) (ms : Members) → MembersRead k ms → names_ascii ms ≡ true → all_put ms no_members ≡ ms → ReadsBack (suc k) (object ms)
object_reads k ms h names in_order = record {
  same = ap (option_map object) (members_same k ms no_members h ∙ ap Some in_order);
  numbers = members_numbers k ms h;
  shallow = omega (arith, members_shallow k ms h);
  utf8 = IsUtf8-append (123 ∷ []) _ (IsUtf8-are_ascii (123 ∷ []) refl) (members_utf8 k false ms names h);
}

-- ---- the line

pub line_utf8 : (k : ℕ) (d : Data) → ReadsBack k d → IsUtf8 (compact_text d ++ 10 ∷ [])
line_utf8 k d h = IsUtf8-append _ _ h.utf8 (IsUtf8-are_ascii (10 ∷ []) refl)

abbrev whole : Option (json.Json × List Token) → Option Data
whole o = option_and_then of_json (option_and_then (λ p. json.if_last p.0 p.1) o)

pub line_reads : (k : ℕ) (d : Data) → k ≤ max_depth → ReadsBack k d → read (compact_text d ++ 10 ∷ []) ≡ Some d
line_reads k d within h =
    let same : tokens (compact_text d ++ 10 ∷ []) ≡ json_tokens (outline d) =
    ap (λ s. tokens (s ++ 10 ∷ [])) (sym (print-outline d)) ∙ tokens_of_line (json_tokens (outline d)) (ArePrintable-json_tokens (outline d) h.numbers) in
    ap whole (ap (json.value max_depth) (same ∙ sym (append-nil _)) ∙ value-json_tokens (outline d) max_depth [] (omega (arith, h.shallow))) ∙ h.same
