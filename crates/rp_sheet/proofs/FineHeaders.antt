-- Headers that have no fault in a file of any kind: each has a role that the file takes, and stands once.
use Rattle.std.proofs.Common.{◌≡◌, ◌≢◌, ℕ, ◌<◌, ◌≤◌, Bool, true, false, not, ◌&&◌, ◌||◌, ◌==◌, if◌then◌else◌, List, [], length, take, Option, Some, None, is_some, refl, ◌∙◌, arith}
use Rattle.std.specs.List.{AllPairs}
use Rattle.std.specs.Option.{option_map_or}
use Rattle.std.proofs.lemmas.Bool.Decides.{nat_tests}
use Rattle.std.proofs.lemmas.List.{get_or-take, get_or_default, length-take}
use Rattle.rp_forms.specs.Texts.{text_at, place_of}
use Rattle.rp_forms.specs.Columns.{role_of, takes}
use Rattle.rp_sheet.specs.Headers.{has, names_of, lacks_column, header_fault, headers_stage, present_fault, missing_fault, goods_count_fault, goods_stage}
use Rattle.rp_forms.specs.Columns.{has_goods}
use Rattle.rp_forms.specs.declared.form.Form.{Form}
use Rattle.rp_sheet.specs.declared.fault.TableFault.{TableFault}
use Rattle.rp_sheet.proofs.PlaceLemmas.{lt_false, absent, found_at, none_or, none_below, one_place}

-- headers without a fault
pub record FineHeaders (form : Form) (headers : List (List ℕ)) : Type 0 where
  pub taken : (c : ℕ) → c < length headers → option_map_or (takes form) (role_of form.marks (text_at headers c)) false ≡ true
  pub distinct : (i j : ℕ) → i < j → j < length headers → text_at headers i ≡ text_at headers j → ⊥
  pub columns : lacks_column form headers ≡ false
  pub some : has_goods form ≡ true → 1 ≤ length (names_of form headers)
  pub few : length (names_of form headers) ≤ 16

tests : (a b : Bool) (f g : TableFault) → (if not a then Some f else if b then Some g else None) ≡ None → (a ≡ true) × (b ≡ false)
tests true true f g e = cc e
tests true false f g e = (refl, refl)
tests false b f g e = cc e

absent_from : {A : Type 0} (o : Option A) → is_some o ≡ false → o ≡ None
absent_from None e = refl
absent_from (Some x) e = cc e

pub there_from : {A : Type 0} (o : Option A) → is_some o ≡ true → (x : A) × (o ≡ Some x)
there_from None e = cc e
there_from (Some x) e = (x, refl)

fine_header : (form : Form) (headers : List (List ℕ)) (c : ℕ) → header_fault form headers c ≡ None → (option_map_or (takes form) (role_of form.marks (text_at headers c)) false ≡ true) × (place_of (take c headers) (text_at headers c) ≡ None)
unfolding header_fault
fine_header form headers c fine =
    let both = tests (option_map_or (takes form) (role_of form.marks (text_at headers c)) false) (has (take c headers) (text_at headers c)) _ _ fine in
    (both.0, absent_from (place_of (take c headers) (text_at headers c)) both.1)

missing_test : (a b : Bool) (f : TableFault) (rest : Option TableFault) → (if a || b then Some f else rest) ≡ None → (a ≡ false) × (b ≡ false)
missing_test true b f rest e = cc e
missing_test false true f rest e = cc e
missing_test false false f rest e = (refl, refl)

not_both : (a b : Bool) → (a && b) ≡ false → a ≡ true → b ≡ false
not_both true b e h = e
not_both false b e h = cc h

few_test : (a : Bool) (f : TableFault) → (if a then Some f else None) ≡ None → a ≡ false
few_test true f e = cc e
few_test false f e = refl

pub not_zero : (n : ℕ) → (n == 0) ≡ false → 1 ≤ n
not_zero n e = grind (arith, nat_tests)

-- what the stages of the goods passed
pub fine_goods : (form : Form) (goods headers : List (List ℕ)) → goods_stage form goods headers ≡ None → (present_fault form goods headers ≡ None) × (missing_fault form goods headers ≡ None) × (goods_count_fault form headers ≡ None)
unfolding goods_stage
fine_goods form goods headers fine =
    let first = none_or (present_fault form goods headers) _ fine in
    let second = none_or (missing_fault form goods headers) _ first.1 in
    let third = none_or (goods_count_fault form headers) None second.1 in
    (first.0, second.0, third.0)

pub fine_headers : (form : Form) (goods headers : List (List ℕ)) → headers_stage form headers ≡ None → goods_stage form goods headers ≡ None → FineHeaders form headers
unfolding headers_stage missing_fault goods_count_fault
fine_headers form goods headers fine of_goods =
    let each : (c : ℕ) → c < length headers → (option_map_or (takes form) (role_of form.marks (text_at headers c)) false ≡ true) × (place_of (take c headers) (text_at headers c) ≡ None) =
    λ c within. fine_header form headers c (none_below (header_fault form headers) (length headers) c fine within) in
    let stages = fine_goods form goods headers of_goods in
    let missing = missing_test (has_goods form && (length (names_of form headers) == 0)) (lacks_column form headers) _ _ stages.1 in
    record {
      taken = λ c within. (each c within).0;
      distinct = λ i j earlier within same.
          absent (take j headers) (text_at headers j) i (each j within).1 (omega (arith, length-take j headers)) (get_or-take j headers i [] earlier ∙ same);
      columns = missing.1;
      some = λ goods. not_zero (length (names_of form headers)) (not_both (has_goods form) (length (names_of form headers) == 0) missing.0 goods);
      few = lt_false 16 (length (names_of form headers)) (few_test _ _ stages.2);
    }

-- a column that is required is there
pub required_there : (there rest : Bool) → ((true && not there) || rest) ≡ false → (there ≡ true) × (rest ≡ false)
required_there true rest e = (refl, e)
required_there false rest e = cc e

-- one place has each header
pub same_place : {form : Form} (headers : List (List ℕ)) → FineHeaders form headers → (i j : ℕ) → i < length headers → j < length headers → text_at headers i ≡ text_at headers j → i ≡ j
same_place headers fine = one_place headers fine.distinct

pub all_distinct : {form : Form} (headers : List (List ℕ)) → FineHeaders form headers → AllPairs (λ a b. a ≢ b) headers
all_distinct headers fine i j d earlier within same =
    fine.distinct i j earlier within (get_or_default headers i [] d (omega arith) ∙ same ∙ get_or_default headers j d [] within)

-- the column with a header that is there
pub column_there : (headers : List (List ℕ)) (header : List ℕ) → has headers header ≡ true → (c : ℕ) × (c < length headers) × (place_of headers header ≡ Some c) × (text_at headers c ≡ header)
column_there headers header there =
    let found = there_from (place_of headers header) there in
    let place = found_at headers header found.0 found.1 in
    (found.0, place.0, found.1, place.1)
