-- The columns of goods in any kind of file, from what was tested.
use Rattle.std.proofs.Common.{◌≡◌, ℕ, suc, ◌+◌, ◌<◌, ◌≤◌, ◌==◌, nat_lt, Bool, true, false, not, cond, ◌&&◌, ◌||◌, List, [], ◌∷◌, length, take, Some, None, is_some, refl, sym, ap, ◌∙◌, arith}
use Rattle.std.specs.List.{list_any, position_or_len}
use Rattle.std.specs.Str.{bytes_eq}
use Rattle.std.proofs.lemmas.Bool.Decides.{nat_tests}
use Rattle.std.proofs.lemmas.Cmp.{nat_list_eq_equiv}
use Rattle.std.proofs.lemmas.List.Folds.{list_any_more}
use Rattle.rp_forms.specs.Texts.{text_at, place_of}
use Rattle.rp_sheet.specs.Headers.{names_of, lacks_column, lacks_good, present_fault, missing_fault, goods_count_fault, goods_stage}
use Rattle.rp_forms.specs.Columns.{has_goods}
use Rattle.rp_forms.specs.declared.form.Form.{Form}
use Rattle.rp_sheet.specs.declared.fault.TableFault.{TableFault}
use Rattle.rp_sheet.specs.declared.fault.TableFault.TheVariants as fault

-- whether a name is among others, by a test of each
pub found_any : (name : List ℕ) (names : List (List ℕ)) → list_any (bytes_eq name) names ≡ is_some (place_of names name)
found_any name [] = refl
found_any name (first ∷ names) = by (bytes_eq name first) (found_any name names)
  where
    both : (a b : Bool) (n : ℕ) → a ≡ b → is_some (cond a (Some n) None) ≡ is_some (cond b (Some (1 + n)) None)
    both true true n e = refl
    both true false n e = cc e
    both false true n e = cc e
    both false false n e = refl

    first_place : (m : ℕ) → nat_lt 0 (suc m) ≡ true
    first_place m = grind (arith, nat_tests)

    later : (n m : ℕ) → nat_lt n m ≡ nat_lt (1 + n) (suc m)
    later n m = grind (arith, nat_tests)

    by : (b : Bool) → list_any (bytes_eq name) names ≡ is_some (place_of names name)
        → (b || list_any (bytes_eq name) names) ≡ is_some (cond (nat_lt (cond (not b) (1 + position_or_len (bytes_eq name) names) 0) (suc (length names))) (Some (cond (not b) (1 + position_or_len (bytes_eq name) names) 0)) None)
    by true rest = ap (λ (b : Bool). is_some {T = ℕ} (cond b (Some 0) None)) (sym (first_place (length names)))
    by false rest = rest ∙ both _ _ (position_or_len (bytes_eq name) names) (later (position_or_len (bytes_eq name) names) (length names))

-- one more name is found
pub one_more_found : (names : List (List ℕ)) (i : ℕ) (name text : List ℕ) (before after : Bool) → i < length names → text ≡ text_at names i → before ≡ list_any (bytes_eq name) (take i names)
    → after ≡ cond (bytes_eq text name) true before → after ≡ list_any (bytes_eq name) (take (i + 1) names)
one_more_found names i name text before after within is earlier here =
    here ∙ ap (λ (b : Bool). cond (bytes_eq text name) true b) earlier ∙ turned (bytes_eq text name) (list_any (bytes_eq name) (take i names))
    ∙ ap (λ (b : Bool). list_any (bytes_eq name) (take i names) || b) (nat_list_eq_equiv.symm text name ∙ ap (bytes_eq name) is)
    ∙ sym (list_any_more (bytes_eq name) names i [] within)
  where
    turned : (a b : Bool) → cond a true b ≡ (b || a)
    turned true true = refl
    turned true false = refl
    turned false true = refl
    turned false false = refl

pub no_goods_at_all : (form : Form) (goods headers : List (List ℕ)) → (has_goods form && (length (names_of form headers) == 0)) ≡ true → missing_fault form goods headers ≡ Some (fault.Unpaired 0)
unfolding missing_fault
no_goods_at_all form goods headers none = rw none refl

pub column_missing : (form : Form) (goods headers : List (List ℕ)) → lacks_column form headers ≡ true → missing_fault form goods headers ≡ Some (fault.Unpaired 0)
unfolding missing_fault
column_missing form goods headers lacks =
    let test : ((has_goods form && (length (names_of form headers) == 0)) || lacks_column form headers) ≡ true = missing_test (has_goods form && (length (names_of form headers) == 0)) (lacks_column form headers) lacks in
    rw test refl
  where
    missing_test : (a b : Bool) → b ≡ true → (a || b) ≡ true
    missing_test true b e = refl
    missing_test false b e = e

neither : (a b : Bool) → a ≡ false → b ≡ false → (a || b) ≡ false
neither true b e f = e
neither false b e f = f

pub own_goods : (form : Form) (goods headers : List (List ℕ)) → (has_goods form && (length (names_of form headers) == 0)) ≡ false → lacks_column form headers ≡ false → form.fixed_goods ≡ false → missing_fault form goods headers ≡ None
unfolding missing_fault
own_goods form goods headers some all own =
    let test = neither (has_goods form && (length (names_of form headers) == 0)) (lacks_column form headers) some all in
    rw (test, own) refl

pub good_missing : (form : Form) (goods headers : List (List ℕ)) → (has_goods form && (length (names_of form headers) == 0)) ≡ false → lacks_column form headers ≡ false → form.fixed_goods ≡ true → lacks_good form goods headers ≡ true → missing_fault form goods headers ≡ Some (fault.OtherGoods 0)
unfolding missing_fault
good_missing form goods headers some all given lacks =
    let test = neither (has_goods form && (length (names_of form headers) == 0)) (lacks_column form headers) some all in
    rw (test, given, lacks) refl

pub all_goods : (form : Form) (goods headers : List (List ℕ)) → (has_goods form && (length (names_of form headers) == 0)) ≡ false → lacks_column form headers ≡ false → form.fixed_goods ≡ true → lacks_good form goods headers ≡ false → missing_fault form goods headers ≡ None
unfolding missing_fault
all_goods form goods headers some all given none =
    let test = neither (has_goods form && (length (names_of form headers) == 0)) (lacks_column form headers) some all in
    rw (test, given, none) refl

pub in_present : (form : Form) (goods headers : List (List ℕ)) (e : TableFault) → present_fault form goods headers ≡ Some e → goods_stage form goods headers ≡ Some e
unfolding goods_stage
in_present form goods headers e a = rw a refl

pub in_missing : (form : Form) (goods headers : List (List ℕ)) (e : TableFault) → present_fault form goods headers ≡ None → missing_fault form goods headers ≡ Some e → goods_stage form goods headers ≡ Some e
unfolding goods_stage
in_missing form goods headers e a b = rw (a, b) refl

pub in_number : (form : Form) (goods headers : List (List ℕ)) → present_fault form goods headers ≡ None → missing_fault form goods headers ≡ None → 16 < length (names_of form headers) → goods_stage form goods headers ≡ Some fault.TooManyGoods
unfolding goods_stage goods_count_fault
in_number form goods headers a b many =
    let more : nat_lt 16 (length (names_of form headers)) ≡ true = grind (arith, nat_tests) in
    rw (a, b, more) refl

pub no_goods_fault : (form : Form) (goods headers : List (List ℕ)) → present_fault form goods headers ≡ None → missing_fault form goods headers ≡ None → length (names_of form headers) ≤ 16 → goods_stage form goods headers ≡ None
unfolding goods_stage goods_count_fault
no_goods_fault form goods headers a b few =
    let fewer : nat_lt 16 (length (names_of form headers)) ≡ false = grind (arith, nat_tests) in
    rw (a, b, fewer) refl
