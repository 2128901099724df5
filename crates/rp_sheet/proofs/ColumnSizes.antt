-- The scaled numbers in a column of a file of any kind that has no fault.
use Rattle.std.proofs.Common.{◌≡◌, ℕ, ◌-◌, ◌*◌, ◌^◌, ◌<◌, ◌≤◌, Bool, true, false, not, ◌&&◌, nat_lt, List, length, slice_index, Some, None, refl, ap, ◌∙◌, arith}
use Rattle.std.proofs.lemmas.Bool.Decides.{nat_tests}
use Rattle.std.proofs.lemmas.Bool.{and_parts}
use Rattle.rp_num.specs.Below.{any_below}
use Rattle.rp_forms.specs.Texts.{text_at}
use Rattle.rp_forms.specs.Columns.{role_of, role_at, measures}
use Rattle.rp_sheet.specs.Fields.{figure, figures_of, rows_in, fields_stage}
use Rattle.rp_sheet.specs.Sizes.{figure_at, places_of, sizes_of, sizes_stage}
use Rattle.rp_forms.specs.Columns.{limit_of}
use Rattle.rp_forms.specs.declared.form.Form.{Form}
use Rattle.rp_forms.specs.declared.form.Role.{Role}
use Rattle.rp_forms.specs.declared.form.Role.TheVariants.{Price, Budget, OwnLevel}
use Rattle.rp_num.proofs.BelowLemmas.{length-listed, one_holds}
use Rattle.rp_sheet.proofs.PlaceLemmas.{one_below}
use Rattle.rp_sheet.proofs.FieldFaults.{role_is}
use Rattle.rp_sheet.proofs.FigureLemmas.{figure_there, rows_are, good_record, price_units, budget_units, level_units, good_size, some_size, size_listed}

-- the scaled numbers of a file
abbrev pub sizes_in : Form → List (List ℕ) → List (List (List ℕ)) → List (List ℕ)
sizes_in form headers records = sizes_of form headers (figures_of form headers records)

-- how many rows of scaled numbers there are
pub sizes_are : (form : Form) (headers : List (List ℕ)) (records : List (List (List ℕ))) → length (sizes_in form headers records) ≡ rows_in records
sizes_are form headers records = length-listed _ (length (figures_of form headers records)) ∙ rows_are form headers records

bought_test : (a b : Bool) → (a && not b) ≡ false → a ≡ true → b ≡ true
bought_test true true e h = refl
bought_test true false e h = cc e
bought_test false b e h = cc h

over_zero : (n : ℕ) → nat_lt 0 n ≡ true → 1 ≤ n
over_zero n e = grind (arith, nat_tests)

module _ (form : Form) (headers : List (List ℕ)) (records : List (List (List ℕ))) (fine_fields : fields_stage form headers records ≡ None) (fine_sizes : sizes_stage form headers (figures_of form headers records) ≡ None) where
  -- a scaled number is within the limit of its role
  pub within_limit : (t c : ℕ) → t < rows_in records → c < length headers → slice_index (text_at (sizes_in form headers records) t) c ≤ limit_of (role_at form.marks headers c)
  within_limit t c row column =
      let inside : t < length (figures_of form headers records) = omega (arith, rows_are form headers records) in
      rw (size_listed form headers (figures_of form headers records) t c inside column) (good_size form headers (figures_of form headers records) t c inside column fine_sizes).1

  -- units that are not 0 give a scaled number that is not
  pub some_at : (t c : ℕ) → t < rows_in records → c < length headers → 1 ≤ (figure_at (figures_of form headers records) t c).units → 1 ≤ slice_index (text_at (sizes_in form headers records) t) c
  some_at t c row column units =
      let inside : t < length (figures_of form headers records) = omega (arith, rows_are form headers records) in
      rw (size_listed form headers (figures_of form headers records) t c inside column) (some_size form headers (figures_of form headers records) t c inside column fine_sizes units)

  -- a scaled price is not 0 and within the limit
  pub price_at : (t c : ℕ) → t < rows_in records → c < length headers → role_of form.marks (text_at headers c) ≡ Some Price
      → (1 ≤ slice_index (text_at (sizes_in form headers records) t) c) × (slice_index (text_at (sizes_in form headers records) t) c ≤ 9999999)
  price_at t c row column says =
      let limit : limit_of (role_at form.marks headers c) ≡ 9999999 = ap limit_of (role_is _ headers c Price says) in
      (some_at t c row column (price_units form headers records t c row column fine_fields says), rw (← limit) (within_limit t c row column))

  -- a number of a role without places is what was written
  pub unscaled : (t c : ℕ) (role : Role) → t < rows_in records → c < length headers → role_of form.marks (text_at headers c) ≡ Some role → places_of form headers (figures_of form headers records) role ≡ 0
      → slice_index (text_at (sizes_in form headers records) t) c ≡ (figure_at (figures_of form headers records) t c).units
  unscaled t c role row column says whole =
      let figures = figures_of form headers records in
      let inside : t < length figures = omega (arith, rows_are form headers records) in
      let size = (good_size form headers figures t c inside column fine_sizes).0 in
      let places : places_of form headers figures (role_at form.marks headers c) ≡ 0 = ap (λ (r : Role). places_of form headers figures r) (role_is _ headers c role says) ∙ whole in
      let none : places_of form headers figures (role_at form.marks headers c) - (figure_at figures t c).places ≡ 0 = omega (arith, places) in
      let one = ap (λ (k : ℕ). (figure_at figures t c).units * 10 ^ k) none in
      let units : (figure_at figures t c).units * 10 ^ 0 ≡ (figure_at figures t c).units = omega arith in
      size_listed form headers figures t c inside column ∙ size ∙ one ∙ units

  -- the number of a budget is that of one there is
  pub budget_at : (t c : ℕ) → t < rows_in records → c < length headers → role_of form.marks (text_at headers c) ≡ Some Budget → slice_index (text_at (sizes_in form headers records) t) c ≤ form.budgets
  unfolding places_of
  budget_at t c row column says = rw (unscaled t c Budget row column says refl) (budget_units form headers records t c row column fine_fields says)

  -- an own level is from 1 to 1,000 thousandths
  pub level_at : (t c : ℕ) → t < rows_in records → c < length headers → role_of form.marks (text_at headers c) ≡ Some OwnLevel
      → (1 ≤ slice_index (text_at (sizes_in form headers records) t) c) × (slice_index (text_at (sizes_in form headers records) t) c ≤ 1000)
  unfolding places_of
  level_at t c row column says = rw (unscaled t c OwnLevel row column says refl) (level_units form headers records t c row column fine_fields says)

  -- where a column says how much is bought, some such number is not 0
  pub bought_at : (t c : ℕ) → t < rows_in records → c < length headers → measures (role_at form.marks headers c) ≡ true
      → (k : ℕ) × (k < length headers) × (measures (role_at form.marks headers k) ≡ true) × (1 ≤ slice_index (text_at (sizes_in form headers records) t) k)
  bought_at t c row column measured =
      let says : any_below (length headers) (λ k. measures (role_at form.marks headers k)) ≡ true = one_holds (λ k. measures (role_at form.marks headers k)) c (length headers) column measured in
      let bought = bought_test _ _ (good_record form headers records t row fine_fields).1 says in
      let found = one_below (λ k. measures (role_at form.marks headers k) && nat_lt 0 (figure form headers records t k).units) (length headers) bought in
      let both = and_parts (measures (role_at form.marks headers found.0)) _ found.2 in
      let some = over_zero (figure form headers records t found.0).units both.1 in
      let units : 1 ≤ (figure_at (figures_of form headers records) t found.0).units = rw (figure_there form headers records t found.0 row found.1) some in
      (found.0, found.1, both.0, some_at t found.0 row found.1 units)
