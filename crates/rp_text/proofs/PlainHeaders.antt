-- The headers of the plain form have no fault, and they name the goods.
use Rattle.std.proofs.Common.{◌≡◌, ℕ, zero, suc, ◌+◌, ◌*◌, ◌<◌, ◌≤◌, ◌⊎◌, inl, inr, true, false, ◌&&◌, ◌==◌, nat_le, List, [], ◌∷◌, ◌++◌, length, get_or, take, drop, map, Option, Some, None, is_some, refl, sym, ap, ◌∙◌, subst, arith}
use Rattle.std.specs.Prelude.{codes}
use Rattle.std.specs.List.{All, list_all}
use Rattle.std.specs.Option.{option_map_or}
use Rattle.std.proofs.lemmas.Bool.Decides.{nat_tests}
use Rattle.std.proofs.lemmas.List.{get_or-take, length-take}
use Rattle.std.proofs.lemmas.List.Elements.{All-tail, All-cons}
use Rattle.std.proofs.lemmas.List.Sums.{list_all-from_AllPass}
use Rattle.rp_num.specs.Below.{first_of}
use Rattle.rp_forms.specs.Texts.{text_at, place_of, trimmed}
use Rattle.rp_forms.specs.Columns.{role_of, takes, is_name, is_price, name_in, names_with, price_mark, quantity_mark}
use Rattle.rp_forms.specs.Forms.{table_form}
use Rattle.rp_sheet.specs.Headers.{headers_in, has, header_fault, headers_stage, pair_fault, present_fault, goods_stage}
use Rattle.rp_text.specs.Plain.{IsPlainName, IsPlainHeader}
use Rattle.rp_forms.specs.declared.form.Role.TheVariants.{Price, Quantity, OwnLevel}
use Rattle.rp_forms.specs.declared.form.Marks.TheVariants.{Goods}
use Rattle.rp_sheet.proofs.GoodHeaders.{price_says, quantity_says}
use Rattle.rp_sheet.proofs.FixedGoods.{own_goods, no_goods_fault}
use Rattle.rp_sheet.proofs.PlaceLemmas.{present, found_at, not_listed, one_place}
use Rattle.rp_text.proofs.PlainNumbers.{trimmed_is}
use Rattle.rp_text.proofs.TableFacts.{level_says}

not_zero : (n : ℕ) → 1 ≤ n → (n == 0) ≡ false
not_zero n some = grind (arith, nat_tests)

-- nothing below a bound
pub none_of : {A : Type 0} (f : ℕ → Option A) (n : ℕ) → ((k : ℕ) → k < n → f k ≡ None) → first_of n f ≡ None
none_of f zero none = refl
none_of f (suc n) none = rw (none_of f n (λ k below. none k (omega arith)), none n (omega arith)) refl

-- a column is one of prices or one of quantities
pub column_kind : (c goods : ℕ) → c < 2 * goods → (g : ℕ) × (g < goods) × ((c ≡ 2 * g) ⊎ (c ≡ 2 * g + 1))
column_kind c zero below = absurd (omega arith)
column_kind zero (suc goods) below = (0, omega arith, inl refl)
column_kind (suc zero) (suc goods) below = (0, omega arith, inr refl)
column_kind (suc (suc c)) (suc goods) below =
    let earlier = column_kind c goods (omega arith) in
    (suc earlier.0, omega (arith, earlier.1), elim (earlier.2) [ inl even ↦ inl (omega (arith, even)) | inr odd ↦ inr (omega (arith, odd)) ])

letter_tests : (byte : ℕ) → 97 ≤ byte → nat_le 32 byte ≡ true
letter_tests byte least = grind (arith, nat_tests)

size_tests : (n : ℕ) → 1 ≤ n → n ≤ 64 → (nat_le 1 n && nat_le n 64) ≡ true
size_tests n some few =
    let least : nat_le 1 n ≡ true = grind (arith, nat_tests) in
    let most : nat_le n 64 ≡ true = grind (arith, nat_tests) in
    rw (least, most) refl

-- a plain name is one
plain_name : (name : List ℕ) → IsPlainName name → is_name name ≡ true
plain_name name plain =
    let sizes = size_tests (length name) plain.some plain.few in
    let letters : list_all (λ byte. nat_le 32 byte) name ≡ true = list_all-from_AllPass (λ byte. nat_le 32 byte) name (λ k d below. letter_tests (get_or name k d) (plain.letters k d below).0) in
    rw (sizes, letters) refl

-- no blanks stand in a marked name
marked_trimmed : (a : ℕ) (name : List ℕ) → 33 ≤ a → IsPlainName name → trimmed (a ∷ 95 ∷ name) ≡ a ∷ 95 ∷ name
marked_trimmed a name least plain =
    trimmed_is (a ∷ 95 ∷ name) (All-cons (λ byte. 33 ≤ byte) a (95 ∷ name) least (All-cons (λ byte. 33 ≤ byte) 95 name (omega arith) (λ k d below.
    let here = plain.letters k d below in
    omega (arith, here.0))))

-- p_NAME and q_NAME for each name
paired : List (List ℕ) → List (List ℕ)
paired [] = []
paired (name ∷ names) = (price_mark ++ name) ∷ (quantity_mark ++ name) ∷ paired names

paired_from : (fields names : List (List ℕ)) → length fields ≡ 2 * length names
    → ((g : ℕ) → g < length names → text_at fields (2 * g) ≡ price_mark ++ text_at names g)
    → ((g : ℕ) → g < length names → text_at fields (2 * g + 1) ≡ quantity_mark ++ text_at names g)
    → fields ≡ paired names
unfolding paired
paired_from [] [] width prices quantities = refl
paired_from [] (name ∷ names) width prices quantities = absurd (omega arith)
paired_from (a ∷ fields) [] width prices quantities = absurd (omega arith)
paired_from (a ∷ []) (name ∷ names) width prices quantities = absurd (omega arith)
paired_from (a ∷ b ∷ fields) (name ∷ names) width prices quantities =
    let first : a ≡ price_mark ++ name = prices 0 (omega arith) in
    let second : b ≡ quantity_mark ++ name = quantities 0 (omega arith) in
    let rest : fields ≡ paired names = paired_from fields names (omega arith)
    (λ g below. let place : 2 * suc g ≡ suc (suc (2 * g)) = omega arith in subst (λ (k : ℕ). text_at (a ∷ b ∷ fields) k ≡ price_mark ++ text_at names g) place (prices (suc g) (omega arith)))
    (λ g below. let place : 2 * suc g + 1 ≡ suc (suc (2 * g + 1)) = omega arith in subst (λ (k : ℕ). text_at (a ∷ b ∷ fields) k ≡ quantity_mark ++ text_at names g) place (quantities (suc g) (omega arith))) in
    rw (first, second, rest) refl

-- no blanks stand round these headers
paired_trimmed : (names : List (List ℕ)) → All IsPlainName names → map trimmed (paired names) ≡ paired names
unfolding paired
paired_trimmed [] plain = refl
paired_trimmed (name ∷ names) plain =
    let here = plain 0 [] (omega arith) in
    let first : trimmed (price_mark ++ name) ≡ price_mark ++ name = marked_trimmed 112 name (omega arith) here in
    let second : trimmed (quantity_mark ++ name) ≡ quantity_mark ++ name = marked_trimmed 113 name (omega arith) here in
    rw (first, second, paired_trimmed names (All-tail IsPlainName name names plain)) refl

-- the names are those of the prices
paired_names : (names : List (List ℕ)) → All IsPlainName names → names_with Goods is_price (paired names) ≡ names
unfolding paired
paired_names [] plain = refl
paired_names (name ∷ names) plain =
    let here = plain_name name (plain 0 [] (omega arith)) in
    let rest = paired_names names (All-tail IsPlainName name names plain) in
    rw (price_says Goods name here, quantity_says Goods name here, rest) refl

-- the headers are the fields, without a change
pub headers_are : (fields names : List (List ℕ)) → IsPlainHeader fields names → headers_in fields ≡ fields
headers_are fields names plain =
    let are = paired_from fields names plain.width plain.prices plain.quantities in
    ap (map trimmed) are ∙ paired_trimmed names plain.plain ∙ sym are

pub names_are : (headers names : List (List ℕ)) → IsPlainHeader headers names → names_with Goods is_price headers ≡ names
names_are headers names plain = ap (names_with Goods is_price) (paired_from headers names plain.width plain.prices plain.quantities) ∙ paired_names names plain.plain

module _ (headers names : List (List ℕ)) (plain : IsPlainHeader headers names) where
  name_at : (g : ℕ) → g < length names → is_name (text_at names g) ≡ true
  name_at g below = plain_name (text_at names g) (plain.plain g [] below)

  pub price_role : (g : ℕ) → g < length names → role_of Goods (text_at headers (2 * g)) ≡ Some Price
  price_role g below = ap (role_of Goods) (plain.prices g below) ∙ price_says Goods (text_at names g) (name_at g below)

  pub quantity_role : (g : ℕ) → g < length names → role_of Goods (text_at headers (2 * g + 1)) ≡ Some Quantity
  quantity_role g below = ap (role_of Goods) (plain.quantities g below) ∙ quantity_says Goods (text_at names g) (name_at g below)

  same_name : (i j : ℕ) → i < length names → j < length names → text_at names i ≡ text_at names j → i ≡ j
  same_name = one_place names (λ i j earlier within. plain.distinct i j [] earlier within)

  other_mark : (a b : List ℕ) → price_mark ++ a ≡ quantity_mark ++ b → ⊥
  other_mark a b same =
      let first : 112 ≡ 113 = ap (λ (text : List ℕ). get_or text 0 0) same in
      omega (arith, first)

  -- no header stands twice
  same_column : (c d : ℕ) → c < length headers → d < length headers → text_at headers c ≡ text_at headers d → c ≡ d
  same_column c d below_c below_d same =
      let kind_c = column_kind c (length names) (omega (arith, plain.width)) in
      let kind_d = column_kind d (length names) (omega (arith, plain.width)) in
      elim (kind_c.2) [
        | inl even ↦ elim (kind_d.2) [
          | inl other ↦
              let texts : price_mark ++ text_at names kind_c.0 ≡ price_mark ++ text_at names kind_d.0 = sym (plain.prices kind_c.0 kind_c.1) ∙ ap (text_at headers) (sym even) ∙ same ∙ ap (text_at headers) other ∙ plain.prices kind_d.0 kind_d.1 in
              let one = same_name kind_c.0 kind_d.0 kind_c.1 kind_d.1 (ap (drop 2) texts) in
              omega (arith, even, other, one)
          | inr other ↦
              let texts : price_mark ++ text_at names kind_c.0 ≡ quantity_mark ++ text_at names kind_d.0 = sym (plain.prices kind_c.0 kind_c.1) ∙ ap (text_at headers) (sym even) ∙ same ∙ ap (text_at headers) other ∙ plain.quantities kind_d.0 kind_d.1 in
              absurd (other_mark (text_at names kind_c.0) (text_at names kind_d.0) texts)
        ]
        | inr odd ↦ elim (kind_d.2) [
          | inl other ↦
              let texts : quantity_mark ++ text_at names kind_c.0 ≡ price_mark ++ text_at names kind_d.0 = sym (plain.quantities kind_c.0 kind_c.1) ∙ ap (text_at headers) (sym odd) ∙ same ∙ ap (text_at headers) other ∙ plain.prices kind_d.0 kind_d.1 in
              absurd (other_mark (text_at names kind_d.0) (text_at names kind_c.0) (sym texts))
          | inr other ↦
              let texts : quantity_mark ++ text_at names kind_c.0 ≡ quantity_mark ++ text_at names kind_d.0 = sym (plain.quantities kind_c.0 kind_c.1) ∙ ap (text_at headers) (sym odd) ∙ same ∙ ap (text_at headers) other ∙ plain.quantities kind_d.0 kind_d.1 in
              let one = same_name kind_c.0 kind_d.0 kind_c.1 kind_d.1 (ap (drop 2) texts) in
              omega (arith, odd, other, one)
        ]
      ]

  -- each header is one that a table has
  role_taken : (c : ℕ) → c < length headers → (role_of Goods (text_at headers c) ≡ Some Price) ⊎ (role_of Goods (text_at headers c) ≡ Some Quantity)
  role_taken c below =
      let kind = column_kind c (length names) (omega (arith, plain.width)) in
      elim (kind.2) [
        | inl even ↦ inl (ap (λ (k : ℕ). role_of Goods (text_at headers k)) even ∙ price_role kind.0 kind.1)
        | inr odd ↦ inr (ap (λ (k : ℕ). role_of Goods (text_at headers k)) odd ∙ quantity_role kind.0 kind.1)
      ]

  -- no header is that of own levels
  pub no_levels : has headers (codes "e") ≡ false
  no_levels = not_listed headers (codes "e") (λ c below is.
      let e_is : role_of Goods (text_at headers c) ≡ Some OwnLevel = ap (role_of Goods) is ∙ level_says in
      elim (role_taken c below) [ inl price ↦ cc (sym price ∙ e_is) | inr quantity ↦ cc (sym quantity ∙ e_is) ])

  no_header_fault : (c : ℕ) → c < length headers → header_fault table_form headers c ≡ None
  unfolding header_fault
  no_header_fault c below =
      let taken : option_map_or (takes table_form) (role_of Goods (text_at headers c)) false ≡ true = elim (role_taken c below) [ inl price ↦ rw price refl | inr quantity ↦ rw quantity refl ] in
      let new : has (take c headers) (text_at headers c) ≡ false = not_listed (take c headers) (text_at headers c) (λ k within is.
      let earlier : k < c = omega (arith, length-take c headers) in
      let same = same_column k c (omega arith) below (sym (get_or-take c headers k [] earlier) ∙ is) in
      omega (arith, same)) in
      rw (taken, new) refl

  pub no_headers_fault : headers_stage table_form headers ≡ None
  unfolding headers_stage
  no_headers_fault = none_of (header_fault table_form headers) (length headers) no_header_fault

  -- where the columns of a good stand
  pub price_place : (g : ℕ) → g < length names → place_of headers (price_mark ++ text_at names g) ≡ Some (2 * g)
  price_place g below =
      let found = present headers (price_mark ++ text_at names g) (2 * g) (omega (arith, plain.width)) (plain.prices g below) in
      let place = found_at headers (price_mark ++ text_at names g) found.0 found.1 in
      found.1 ∙ ap Some (same_column found.0 (2 * g) place.0 (omega (arith, plain.width)) (place.1 ∙ sym (plain.prices g below)))

  pub quantity_place : (g : ℕ) → g < length names → place_of headers (quantity_mark ++ text_at names g) ≡ Some (2 * g + 1)
  quantity_place g below =
      let found = present headers (quantity_mark ++ text_at names g) (2 * g + 1) (omega (arith, plain.width)) (plain.quantities g below) in
      let place = found_at headers (quantity_mark ++ text_at names g) found.0 found.1 in
      found.1 ∙ ap Some (same_column found.0 (2 * g + 1) place.0 (omega (arith, plain.width)) (place.1 ∙ sym (plain.quantities g below)))

  no_pair_fault : (c : ℕ) → c < length headers → pair_fault Goods headers c ≡ None
  unfolding pair_fault
  no_pair_fault c below =
      let kind = column_kind c (length names) (omega (arith, plain.width)) in
      elim (kind.2) [
        | inl even ↦
            let role : role_of Goods (text_at headers c) ≡ Some Price = ap (λ (k : ℕ). role_of Goods (text_at headers k)) even ∙ price_role kind.0 kind.1 in
            let name : name_in (text_at headers c) ≡ text_at names kind.0 = ap name_in (ap (text_at headers) even ∙ plain.prices kind.0 kind.1) in
            let partner : has headers (quantity_mark ++ name_in (text_at headers c)) ≡ true = ap (λ n. has headers (quantity_mark ++ n)) name ∙ ap is_some (quantity_place kind.0 kind.1) in
            rw (role, partner) refl
        | inr odd ↦
            let role : role_of Goods (text_at headers c) ≡ Some Quantity = ap (λ (k : ℕ). role_of Goods (text_at headers k)) odd ∙ quantity_role kind.0 kind.1 in
            let name : name_in (text_at headers c) ≡ text_at names kind.0 = ap name_in (ap (text_at headers) odd ∙ plain.quantities kind.0 kind.1) in
            let partner : has headers (price_mark ++ name_in (text_at headers c)) ≡ true = ap (λ n. has headers (price_mark ++ n)) name ∙ ap is_some (price_place kind.0 kind.1) in
            rw (role, partner) refl
      ]

  no_present_fault : present_fault table_form [] headers ≡ None
  unfolding present_fault
  no_present_fault = none_of (pair_fault Goods headers) (length headers) no_pair_fault

  pub no_goods_stage_fault : goods_stage table_form [] headers ≡ None
  no_goods_stage_fault =
      let count : length (names_with Goods is_price headers) ≡ length names = ap length (names_are headers names plain) in
      let some = plain.some in
      let few = plain.few in
      no_goods_fault table_form [] headers no_present_fault
      (own_goods table_form [] headers (not_zero (length (names_with Goods is_price headers)) (omega (arith, count, some))) refl refl)
      (omega (arith, count, few))
