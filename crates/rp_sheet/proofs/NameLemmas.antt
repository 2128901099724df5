-- The names of goods in the headers, one column after the other.
use Rattle.std.proofs.Common.{◌≡◌, ℕ, ◌+◌, ◌<◌, ◌≤◌, Bool, true, false, not, if◌then◌else◌, cond, nat_eq, nat_le, ◌&&◌, List, [], ◌∷◌, ◌++◌, length, take, map, filter, Option, Some, None, refl, sym, ap, ◌∙◌, arith}
use Rattle.std.specs.List.{All, list_all, starts_with}
use Rattle.std.specs.Option.{option_map_or, option_or}
use Rattle.std.proofs.lemmas.Bool.Decides.{nat_tests}
use Rattle.std.proofs.lemmas.List.{map_push, append-nil}
use Rattle.std.proofs.lemmas.List.Elements.{filter_more, All-cons, All-nil}
use Rattle.std.proofs.lemmas.Bool.{and_parts}
use Rattle.rp_table.specs.Names.{IsName}
use Rattle.rp_forms.specs.Texts.{text_at}
use Rattle.rp_forms.specs.Columns.{role_of, named_role, good_role, is_name, is_price, names_with, name_in, mark_of_prices, mark_of_quantities}
use Rattle.rp_forms.specs.declared.form.Marks.{Marks}
use Rattle.rp_forms.specs.declared.form.Role.{Role}
use Rattle.rp_forms.specs.declared.form.Role.TheVariants.{Price, Quantity}
use Rattle.rp_forms.proofs.RoleLemmas.{no_good}

price_good : (named p q : Bool) → option_map_or is_price (if not named then None else if p then Some Price else if q then Some Quantity else None) false ≡ true → (named ≡ true) × (p ≡ true)
price_good true true q e = (refl, refl)
price_good true false true e = cc e
price_good true false false e = cc e
price_good false p q e = cc e

price_role : (o : Option Role) (named p q : Bool) → option_map_or is_price o false ≡ false
    → option_map_or is_price (option_or o (if not named then None else if p then Some Price else if q then Some Quantity else None)) false ≡ true
    → (named ≡ true) × (p ≡ true)
price_role None named p q none h = price_good named p q h
price_role (Some role) named p q none h = cc (sym none ∙ h)

-- a header of prices has a mark and a name
pub price_header : (marks : Marks) (header : List ℕ) → option_map_or is_price (role_of marks header) false ≡ true → (is_name (name_in header) ≡ true) × (starts_with nat_eq header (mark_of_prices marks) ≡ true)
unfolding role_of good_role
price_header marks header e =
    price_role (named_role header) (is_name (name_in header)) (starts_with nat_eq header (mark_of_prices marks)) (starts_with nat_eq header (mark_of_quantities marks)) (no_good header).0 e

printable : (name : List ℕ) → list_all (λ byte. nat_le 32 byte) name ≡ true → All (λ byte. 32 ≤ byte) name
printable [] e = All-nil (λ byte. 32 ≤ byte)
printable (byte ∷ name) e =
    let both = and_parts (nat_le 32 byte) (list_all (λ b. nat_le 32 b) name) e in
    let first = both.0 in
    All-cons (λ b. 32 ≤ b) byte name (grind (arith, nat_tests)) (printable name both.1)

-- a name by test
pub named : (name : List ℕ) → is_name name ≡ true → IsName name
named name e =
    let both = and_parts (nat_le 1 (length name) && nat_le (length name) 64) (list_all (λ byte. nat_le 32 byte) name) e in
    let sizes = and_parts (nat_le 1 (length name)) (nat_le (length name) 64) both.0 in
    let some = sizes.0 in
    let few = sizes.1 in
    (grind (arith, nat_tests), grind (arith, nat_tests), printable name both.1)

-- one more header with a name
pub names_more_yes : (marks : Marks) (test : Role → Bool) (headers : List (List ℕ)) (c : ℕ) → c < length headers → option_map_or test (role_of marks (text_at headers c)) false ≡ true
    → names_with marks test (take (c + 1) headers) ≡ names_with marks test (take c headers) ++ name_in (text_at headers c) ∷ []
names_more_yes marks test headers c within it =
    let says : List ℕ → Bool = λ (header : List ℕ). option_map_or test (role_of marks header) false in
    ap (map name_in) (filter_more says headers c [] within ∙ ap (λ (b : Bool). filter says (take c headers) ++ cond b (text_at headers c ∷ []) []) it)
    ∙ map_push name_in (filter says (take c headers)) (text_at headers c)

-- one more header without
pub names_more_no : (marks : Marks) (test : Role → Bool) (headers : List (List ℕ)) (c : ℕ) → c < length headers → option_map_or test (role_of marks (text_at headers c)) false ≡ false
    → names_with marks test (take (c + 1) headers) ≡ names_with marks test (take c headers)
names_more_no marks test headers c within other =
    let says : List ℕ → Bool = λ (header : List ℕ). option_map_or test (role_of marks header) false in
    ap (map name_in) (filter_more says headers c [] within ∙ ap (λ (b : Bool). filter says (take c headers) ++ cond b (text_at headers c ∷ []) []) other ∙ append-nil (filter says (take c headers)))
