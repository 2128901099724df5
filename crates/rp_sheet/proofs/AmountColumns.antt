-- A column of amounts that is the only one that says how much is bought.
use Rattle.std.proofs.Common.{◌≡◌, ℕ, ◌<◌, ◌≤◌, Bool, true, false, not, nat_eq, if◌then◌else◌, List, length, slice_index, Option, Some, None, refl, sym, ap, ◌∙◌, subst}
use Rattle.std.specs.Prelude.{codes, unwrap_or}
use Rattle.std.specs.List.{starts_with}
use Rattle.std.specs.Option.{option_or}
use Rattle.std.specs.Str.{bytes_eq}
use Rattle.std.proofs.lemmas.Slice.Eq.{bytes_eq-Decides}
use Rattle.rp_forms.specs.Texts.{text_at}
use Rattle.rp_forms.specs.Columns.{role_of, named_role, good_role, role_at, measures, is_name, name_in, mark_of_prices, mark_of_quantities}
use Rattle.rp_sheet.specs.Headers.{has}
use Rattle.rp_sheet.specs.Fields.{figures_of, rows_in, fields_stage}
use Rattle.rp_sheet.specs.Sizes.{sizes_stage}
use Rattle.rp_forms.specs.Columns.{limit_of}
use Rattle.rp_sheet.specs.ChoiceCounts.{column_named}
use Rattle.rp_forms.specs.declared.form.Form.{Form}
use Rattle.rp_forms.specs.declared.form.Marks.{Marks}
use Rattle.rp_forms.specs.declared.form.Role.{Role}
use Rattle.rp_forms.specs.declared.form.Role.TheVariants.{Observation, Price, Quantity, Expenditure, Income, Budget, Times, Output, OutputPrice, Menu, Choice, OwnLevel}
use Rattle.rp_sheet.proofs.FieldFaults.{role_is}
use Rattle.rp_sheet.proofs.FineHeaders.{FineHeaders, same_place, column_there}
use Rattle.rp_sheet.proofs.ColumnSizes.{sizes_in, within_limit, bought_at}

amount_tests : (a b c d e f g m k l named p q : Bool) (o : Option Role)
    → option_or (if a then Some Observation else if b then Some Expenditure else if c then Some Income else if d then Some Budget else if e then Some Times
    else if f then Some Output else if g then Some OutputPrice else if m then Some Menu else if k then Some Choice else if l then Some OwnLevel else None)
    (if not named then None else if p then Some Price else if q then Some Quantity else None) ≡ o
    → (o ≡ Some Expenditure → b ≡ true) × (o ≡ Some Income → c ≡ true)
amount_tests true b c d e f g m k l named p q o h = (λ x. cc (h ∙ x), λ x. cc (h ∙ x))
amount_tests false true c d e f g m k l named p q o h = (λ x. refl, λ x. cc (h ∙ x))
amount_tests false false true d e f g m k l named p q o h = (λ x. cc (h ∙ x), λ x. refl)
amount_tests false false false true e f g m k l named p q o h = (λ x. cc (h ∙ x), λ x. cc (h ∙ x))
amount_tests false false false false true f g m k l named p q o h = (λ x. cc (h ∙ x), λ x. cc (h ∙ x))
amount_tests false false false false false true g m k l named p q o h = (λ x. cc (h ∙ x), λ x. cc (h ∙ x))
amount_tests false false false false false false true m k l named p q o h = (λ x. cc (h ∙ x), λ x. cc (h ∙ x))
amount_tests false false false false false false false true k l named p q o h = (λ x. cc (h ∙ x), λ x. cc (h ∙ x))
amount_tests false false false false false false false false true l named p q o h = (λ x. cc (h ∙ x), λ x. cc (h ∙ x))
amount_tests false false false false false false false false false true named p q o h = (λ x. cc (h ∙ x), λ x. cc (h ∙ x))
amount_tests false false false false false false false false false false true true q o h = (λ x. cc (h ∙ x), λ x. cc (h ∙ x))
amount_tests false false false false false false false false false false true false true o h = (λ x. cc (h ∙ x), λ x. cc (h ∙ x))
amount_tests false false false false false false false false false false true false false o h = (λ x. cc (h ∙ x), λ x. cc (h ∙ x))
amount_tests false false false false false false false false false false false p q o h = (λ x. cc (h ∙ x), λ x. cc (h ∙ x))

-- the header of an expenditure, and that of an income
amount_headers : (marks : Marks) (header : List ℕ) → (role_of marks header ≡ Some Expenditure → bytes_eq header (codes "m") ≡ true) × (role_of marks header ≡ Some Income → bytes_eq header (codes "w") ≡ true)
unfolding role_of named_role good_role
amount_headers marks header =
    amount_tests (bytes_eq header (codes "obs")) (bytes_eq header (codes "m")) (bytes_eq header (codes "w")) (bytes_eq header (codes "budget")) (bytes_eq header (codes "n"))
    (bytes_eq header (codes "y")) (bytes_eq header (codes "p")) (bytes_eq header (codes "menu")) (bytes_eq header (codes "choice")) (bytes_eq header (codes "e"))
    (is_name (name_in header)) (starts_with nat_eq header (mark_of_prices marks)) (starts_with nat_eq header (mark_of_quantities marks)) (role_of marks header) refl

-- expenditures have one header
pub expenditure_header : (marks : Marks) (header : List ℕ) → role_of marks header ≡ Some Expenditure → header ≡ codes "m"
expenditure_header marks header e = (bytes_eq-Decides header (codes "m")).0 ((amount_headers marks header).0 e)

-- incomes have one header
pub income_header : (marks : Marks) (header : List ℕ) → role_of marks header ≡ Some Income → header ≡ codes "w"
income_header marks header e = (bytes_eq-Decides header (codes "w")).0 ((amount_headers marks header).1 e)

pub expenditure_says : (marks : Marks) → role_of marks (codes "m") ≡ Some Expenditure
unfolding role_of named_role
expenditure_says marks = refl

pub income_says : (marks : Marks) → role_of marks (codes "w") ≡ Some Income
unfolding role_of named_role
income_says marks = refl

-- where no other column says how much is bought, each amount is above 0
pub amount_within : (form : Form) (headers : List (List ℕ)) (records : List (List (List ℕ))) → FineHeaders form headers → fields_stage form headers records ≡ None → sizes_stage form headers (figures_of form headers records) ≡ None
    → (header : List ℕ) (role : Role) → has headers header ≡ true → role_of form.marks header ≡ Some role → measures role ≡ true → ((c : ℕ) → c < length headers → measures (role_at form.marks headers c) ≡ true → text_at headers c ≡ header)
    → (t : ℕ) → t < rows_in records
    → (1 ≤ slice_index (text_at (sizes_in form headers records) t) (column_named header headers)) × (slice_index (text_at (sizes_in form headers records) t) (column_named header headers) ≤ limit_of role)
amount_within form headers records fine fine_fields fine_sizes header role there says measured only t row =
    let column = column_there headers header there in
    let here : role_at form.marks headers column.0 ≡ role = role_is _ headers column.0 role (ap (role_of form.marks) column.3 ∙ says) in
    let bought = bought_at form headers records fine_fields fine_sizes t column.0 row column.1 (ap measures here ∙ measured) in
    let same = same_place headers fine bought.0 column.0 bought.1 column.1 (only bought.0 bought.1 bought.2 ∙ sym column.3) in
    let at_column : column_named header headers ≡ column.0 = ap (λ o. unwrap_or o 0) column.2 in
    let some = subst (λ (k : ℕ). 1 ≤ slice_index (text_at (sizes_in form headers records) t) k) same bought.3 in
    let most = subst (λ (r : Role). slice_index (text_at (sizes_in form headers records) t) column.0 ≤ limit_of r) here (within_limit form headers records fine_fields fine_sizes t column.0 row column.1) in
    rw at_column (some, most)
