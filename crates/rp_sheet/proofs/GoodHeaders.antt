-- The headers of a table that have no fault: each good has its two columns, once.
use Rattle.std.proofs.Common.{◌≡◌, ◌≢◌, ℕ, zero, suc, ◌<◌, ◌≤◌, Bool, true, false, not, ◌&&◌, ◌||◌, nat_eq, if◌then◌else◌, cond, List, [], ◌∷◌, ◌++◌, length, get_or, map, filter, Option, Some, None, refl, sym, ap, ◌∙◌, arith}
use Rattle.std.specs.List.{AllPairs, Contains, starts_with}
use Rattle.std.specs.Option.{option_map_or, option_or}
use Rattle.std.proofs.lemmas.Bool.Decides.{Decides-eqb}
use Rattle.std.proofs.lemmas.List.{get_or-map, get_or_default, length-map}
use Rattle.std.proofs.lemmas.List.Elements.{filter_passes, All-filter, All-contains_itself}
use Rattle.std.proofs.lemmas.List.Kept.{AllPairs-filter}
use Rattle.std.proofs.lemmas.Slice.Eq.{starts_is}
use Rattle.rp_forms.specs.Texts.{text_at, place_of}
use Rattle.rp_forms.specs.Columns.{role_of, named_role, good_role, role_at, is_name, is_price, is_quantity, name_in, names_with, mark_of_prices, mark_of_quantities}
use Rattle.rp_sheet.specs.Headers.{has, names_of, partner_of, headers_stage, pair_fault, present_fault, goods_stage}
use Rattle.rp_forms.specs.declared.form.Form.{Form}
use Rattle.rp_forms.specs.declared.form.Marks.{Marks}
use Rattle.rp_forms.specs.declared.form.Marks.TheVariants.{Goods, Inputs}
use Rattle.rp_forms.specs.declared.form.Role.{Role}
use Rattle.rp_forms.specs.declared.form.Role.TheVariants.{Observation, Price, Quantity, Expenditure, Income, Budget, Times, Output, OutputPrice, Menu, Choice, OwnLevel}
use Rattle.rp_sheet.specs.declared.fault.TableFault.{TableFault}
use Rattle.rp_forms.proofs.RoleLemmas.{no_good}
use Rattle.rp_sheet.proofs.NameLemmas.{price_header}
use Rattle.rp_sheet.proofs.PlaceLemmas.{found_at, present, none_below}
use Rattle.rp_sheet.proofs.FineHeaders.{FineHeaders, fine_goods, fine_headers, same_place, all_distinct, there_from}

-- headers without a fault, of which each good's has a partner
pub record GoodHeaders (form : Form) (headers : List (List ℕ)) : Type 0 where
  pub fine : FineHeaders form headers
  pub paired : (c : ℕ) → c < length headers → (is_price (role_at form.marks headers c) || is_quantity (role_at form.marks headers c)) ≡ true
      → has headers (partner_of form.marks (role_at form.marks headers c) (text_at headers c)) ≡ true

pair_test : (a b : Bool) (f : TableFault) → (if a && not b then Some f else None) ≡ None → a ≡ true → b ≡ true
pair_test true true f e h = refl
pair_test true false f e h = cc e
pair_test false b f e h = cc h

fine_pair : (marks : Marks) (headers : List (List ℕ)) (c : ℕ) → pair_fault marks headers c ≡ None → (is_price (role_at marks headers c) || is_quantity (role_at marks headers c)) ≡ true → has headers (partner_of marks (role_at marks headers c) (text_at headers c)) ≡ true
unfolding pair_fault
fine_pair marks headers c fine good =
    pair_test (is_price (role_at marks headers c) || is_quantity (role_at marks headers c)) (has headers (partner_of marks (role_at marks headers c) (text_at headers c))) _ fine good

-- in files that name their goods and have prices and quantities
pub good_headers : (form : Form) (headers : List (List ℕ)) → form.fixed_goods ≡ false → form.prices ≡ true → form.quantities ≡ true
    → headers_stage form headers ≡ None → goods_stage form [] headers ≡ None → GoodHeaders form headers
unfolding present_fault
good_headers form headers own priced counted fine goods =
    let present = rw (own, priced, counted) at (fine_goods form [] headers goods).0 in
    record {
      fine = fine_headers form [] headers fine goods;
      paired = λ c within. fine_pair form.marks headers c (none_below (pair_fault form.marks headers) (length headers) c present within);
    }

pub is_price_role : (o : Option Role) → option_map_or is_price o false ≡ true → o ≡ Some Price
is_price_role None e = cc e
is_price_role (Some Observation) e = cc e
is_price_role (Some Price) e = refl
is_price_role (Some Quantity) e = cc e
is_price_role (Some Expenditure) e = cc e
is_price_role (Some Income) e = cc e
is_price_role (Some Budget) e = cc e
is_price_role (Some Times) e = cc e
is_price_role (Some Output) e = cc e
is_price_role (Some OutputPrice) e = cc e
is_price_role (Some Menu) e = cc e
is_price_role (Some Choice) e = cc e
is_price_role (Some OwnLevel) e = cc e

quantity_good : (named p q : Bool) → option_map_or is_quantity (if not named then None else if p then Some Price else if q then Some Quantity else None) false ≡ true → (named ≡ true) × (q ≡ true)
quantity_good true true q e = cc e
quantity_good true false true e = (refl, refl)
quantity_good true false false e = cc e
quantity_good false p q e = cc e

quantity_role : (o : Option Role) (named p q : Bool) → option_map_or is_quantity o false ≡ false
    → option_map_or is_quantity (option_or o (if not named then None else if p then Some Price else if q then Some Quantity else None)) false ≡ true
    → (named ≡ true) × (q ≡ true)
quantity_role None named p q none h = quantity_good named p q h
quantity_role (Some role) named p q none h = cc (sym none ∙ h)

-- a header of quantities has a mark and a name
pub quantity_header : (marks : Marks) (header : List ℕ) → option_map_or is_quantity (role_of marks header) false ≡ true → (is_name (name_in header) ≡ true) × (starts_with nat_eq header (mark_of_quantities marks) ≡ true)
unfolding role_of good_role
quantity_header marks header e =
    quantity_role (named_role header) (is_name (name_in header)) (starts_with nat_eq header (mark_of_prices marks)) (starts_with nat_eq header (mark_of_quantities marks)) (no_good header).1 e

pub marked_price : (marks : Marks) (header : List ℕ) → starts_with nat_eq header (mark_of_prices marks) ≡ true → header ≡ mark_of_prices marks ++ name_in header
marked_price Goods header e = (starts_is Decides-eqb header (mark_of_prices Goods) (starts_with nat_eq header (mark_of_prices Goods)) refl).0 e
marked_price Inputs header e = (starts_is Decides-eqb header (mark_of_prices Inputs) (starts_with nat_eq header (mark_of_prices Inputs)) refl).0 e

pub marked_quantity : (marks : Marks) (header : List ℕ) → starts_with nat_eq header (mark_of_quantities marks) ≡ true → header ≡ mark_of_quantities marks ++ name_in header
marked_quantity Goods header e = (starts_is Decides-eqb header (mark_of_quantities Goods) (starts_with nat_eq header (mark_of_quantities Goods)) refl).0 e
marked_quantity Inputs header e = (starts_is Decides-eqb header (mark_of_quantities Inputs) (starts_with nat_eq header (mark_of_quantities Inputs)) refl).0 e

-- a mark is not part of the name
name_after_prices : (marks : Marks) (name : List ℕ) → name_in (mark_of_prices marks ++ name) ≡ name
name_after_prices Goods name = refl
name_after_prices Inputs name = refl

-- what a mark and a name say
pub price_says : (marks : Marks) (name : List ℕ) → is_name name ≡ true → role_of marks (mark_of_prices marks ++ name) ≡ Some Price
unfolding role_of named_role good_role
price_says Goods name e = rw e refl
price_says Inputs name e = rw e refl

pub quantity_says : (marks : Marks) (name : List ℕ) → is_name name ≡ true → role_of marks (mark_of_quantities marks ++ name) ≡ Some Quantity
unfolding role_of named_role good_role
quantity_says Goods name e = rw e refl
quantity_says Inputs name e = rw e refl

-- the column of prices of a good
pub price_column : (marks : Marks) (headers : List (List ℕ)) (g : ℕ) → g < length (names_with marks is_price headers)
    → (c : ℕ) × (c < length headers) × (place_of headers (mark_of_prices marks ++ text_at (names_with marks is_price headers) g) ≡ Some c) × (role_of marks (text_at headers c) ≡ Some Price)
price_column marks headers g within =
    let says : List ℕ → Bool = λ (header : List ℕ). option_map_or is_price (role_of marks header) false in
    let inside : g < length (filter says headers) = omega (arith, length-map (filter says headers) name_in) in
    let header = get_or (filter says headers) g [] in
    let name : text_at (names_with marks is_price headers) g ≡ name_in header = get_or-map name_in (filter says headers) g [] [] inside in
    let passes : says header ≡ true = filter_passes says headers g [] inside in
    let there : Contains headers header = All-filter says (Contains headers) headers (All-contains_itself headers) g [] inside in
    let at_place : text_at headers there.0 ≡ header = get_or_default headers there.0 [] header there.1 ∙ there.2 in
    let spelled : mark_of_prices marks ++ text_at (names_with marks is_price headers) g ≡ header = ap (λ n. mark_of_prices marks ++ n) name ∙ sym (marked_price marks header (price_header _ header passes).1) in
    let found = present headers (mark_of_prices marks ++ text_at (names_with marks is_price headers) g) there.0 there.1 (at_place ∙ sym spelled) in
    let place = found_at headers (mark_of_prices marks ++ text_at (names_with marks is_price headers) g) found.0 found.1 in
    (found.0, place.0, found.1, ap (role_of marks) (place.1 ∙ spelled) ∙ is_price_role (role_of marks header) passes)

-- a header of prices gives a good
pub named_good : (marks : Marks) (headers : List (List ℕ)) (c : ℕ) → c < length headers → option_map_or is_price (role_of marks (text_at headers c)) false ≡ true
    → (g : ℕ) × (g < length (names_with marks is_price headers)) × (text_at (names_with marks is_price headers) g ≡ name_in (text_at headers c))
named_good marks [] c within says = absurd (omega arith)
named_good marks (header ∷ headers) zero within says = rw says (0, omega arith, refl)
named_good marks (header ∷ headers) (suc c) within says = by (option_map_or is_price (role_of marks header) false) (named_good marks headers c (omega arith) says)
  where
    by : (b : Bool) → (g : ℕ) × (g < length (names_with marks is_price headers)) × (text_at (names_with marks is_price headers) g ≡ name_in (text_at headers c))
        → (g : ℕ) × (g < length (map name_in (cond b (header ∷ filter (λ h. option_map_or is_price (role_of marks h) false) headers) (filter (λ h. option_map_or is_price (role_of marks h) false) headers))))
        × (text_at (map name_in (cond b (header ∷ filter (λ h. option_map_or is_price (role_of marks h) false) headers) (filter (λ h. option_map_or is_price (role_of marks h) false) headers))) g ≡ name_in (text_at headers c))
    by true good = (suc good.0, omega (arith, good.1), good.2)
    by false good = good

-- a column of quantities is that of a good
pub quantity_good_of : {form : Form} (headers : List (List ℕ)) → GoodHeaders form headers → (c : ℕ) → c < length headers → role_of form.marks (text_at headers c) ≡ Some Quantity
    → (g : ℕ) × (g < length (names_with form.marks is_price headers)) × (place_of headers (mark_of_quantities form.marks ++ text_at (names_with form.marks is_price headers) g) ≡ Some c)
quantity_good_of {form} headers good c within says =
    let quantity : option_map_or is_quantity (role_of form.marks (text_at headers c)) false ≡ true = rw says refl in
    let name = quantity_header _ (text_at headers c) quantity in
    let is_good : (is_price (role_at form.marks headers c) || is_quantity (role_at form.marks headers c)) ≡ true = rw says refl in
    let partner : has headers (mark_of_prices form.marks ++ name_in (text_at headers c)) ≡ true = rw says at (good.paired c within is_good) in
    let found = there_from (place_of headers (mark_of_prices form.marks ++ name_in (text_at headers c))) partner in
    let place = found_at headers (mark_of_prices form.marks ++ name_in (text_at headers c)) found.0 found.1 in
    let priced : option_map_or is_price (role_of form.marks (text_at headers found.0)) false ≡ true = rw (place.1, price_says form.marks (name_in (text_at headers c)) name.0) refl in
    let named = named_good form.marks headers found.0 place.0 priced in
    let same_name : text_at (names_with form.marks is_price headers) named.0 ≡ name_in (text_at headers c) = named.2 ∙ ap name_in place.1 ∙ name_after_prices form.marks (name_in (text_at headers c)) in
    let spelled : mark_of_quantities form.marks ++ text_at (names_with form.marks is_price headers) named.0 ≡ text_at headers c = ap (λ n. mark_of_quantities form.marks ++ n) same_name ∙ sym (marked_quantity form.marks (text_at headers c) name.1) in
    let at_column = present headers (mark_of_quantities form.marks ++ text_at (names_with form.marks is_price headers) named.0) c within (sym spelled) in
    let back = found_at headers (mark_of_quantities form.marks ++ text_at (names_with form.marks is_price headers) named.0) at_column.0 at_column.1 in
    let same = same_place headers good.fine at_column.0 c back.0 within (back.1 ∙ spelled) in
    (named.0, named.1, at_column.1 ∙ ap Some same)

-- where goods have prices, they are named by them
named_some : (form : Form) (headers : List (List ℕ)) → form.prices ≡ true → 1 ≤ length (names_of form headers) → 1 ≤ length (names_with form.marks is_price headers)
named_some form headers priced some = rw priced at some

-- some column has quantities
pub some_quantity : {form : Form} (headers : List (List ℕ)) → form.prices ≡ true → GoodHeaders form headers → (c : ℕ) × (c < length headers) × (role_of form.marks (text_at headers c) ≡ Some Quantity)
some_quantity {form} headers priced_goods good =
    let price = price_column form.marks headers 0 (named_some form headers priced_goods (good.fine.some (rw priced_goods refl))) in
    let priced : option_map_or is_price (role_of form.marks (text_at headers price.0)) false ≡ true = rw price.3 refl in
    let name = price_header _ (text_at headers price.0) priced in
    let is_good : (is_price (role_at form.marks headers price.0) || is_quantity (role_at form.marks headers price.0)) ≡ true = rw price.3 refl in
    let partner : has headers (mark_of_quantities form.marks ++ name_in (text_at headers price.0)) ≡ true = rw price.3 at (good.paired price.0 price.1 is_good) in
    let found = there_from (place_of headers (mark_of_quantities form.marks ++ name_in (text_at headers price.0))) partner in
    let place = found_at headers (mark_of_quantities form.marks ++ name_in (text_at headers price.0)) found.0 found.1 in
    (found.0, place.0, ap (role_of form.marks) place.1 ∙ quantity_says form.marks (name_in (text_at headers price.0)) name.0)

-- no two goods have one name
pub distinct_names : {form : Form} (headers : List (List ℕ)) → FineHeaders form headers → AllPairs (λ a b. a ≢ b) (names_with form.marks is_price headers)
distinct_names {form} headers fine i j d earlier within same =
    let says : List ℕ → Bool = λ (header : List ℕ). option_map_or is_price (role_of form.marks header) false in
    let inside : j < length (filter says headers) = omega (arith, length-map (filter says headers) name_in) in
    let before : i < length (filter says headers) = omega arith in
    let a = get_or (filter says headers) i [] in
    let b = get_or (filter says headers) j [] in
    let names : name_in a ≡ name_in b = sym (get_or-map name_in (filter says headers) i [] d before) ∙ same ∙ get_or-map name_in (filter says headers) j [] d inside in
    let spelled_a = marked_price form.marks a (price_header _ a (filter_passes says headers i [] before)).1 in
    let spelled_b = marked_price form.marks b (price_header _ b (filter_passes says headers j [] inside)).1 in
    AllPairs-filter (λ x y. x ≢ y) says headers (all_distinct headers fine) i j [] earlier inside (spelled_a ∙ ap (λ n. mark_of_prices form.marks ++ n) names ∙ sym spelled_b)
