-- The records of the plain form have no fault, and their numbers are those that they list.
use Rattle.std.proofs.Common.{◌≡◌, ℕ, zero, suc, ◌+◌, ◌*◌, ◌<◌, ◌≤◌, ◌⊎◌, inl, inr, Bool, true, false, ◌&&◌, ◌==◌, nat_lt, if◌then◌else◌, List, length, get_or, None, Ok, refl, ap, ◌∙◌, arith}
use Rattle.std.specs.Result.{result_err, result_unwrap_or}
use Rattle.std.proofs.lemmas.Bool.Decides.{nat_tests}
use Rattle.std.proofs.Math.Nat.{mul-one}
use Rattle.rp_num.specs.Decimal.{decimal_of}
use Rattle.rp_num.specs.declared.decimal.Decimal.{Decimal}
use Rattle.rp_table.specs.Sums.{sum_below}
use Rattle.rp_num.specs.Below.{first_of}
use Rattle.rp_forms.specs.Texts.{text_at, trimmed, number_of}
use Rattle.rp_forms.specs.Columns.{role_at, measures}
use Rattle.rp_forms.specs.Forms.{table_form}
use Rattle.rp_sheet.specs.Fields.{nothing, field_of, field_at, figure, figures_of, rows_in, row_at, buys_nothing, record_fault, fields_stage}
use Rattle.rp_sheet.specs.Sizes.{figure_at, greatest_places, places_of, size_of, size_at, sizes_of, sizes_stage}
use Rattle.rp_forms.specs.Columns.{shares_scale}
use Rattle.rp_text.specs.Plain.{IsPlainHeader, IsPlainRecord, IsNumeral}
use Rattle.rp_forms.specs.declared.form.Role.{Role}
use Rattle.rp_forms.specs.declared.form.Role.TheVariants.{Price, Quantity}
use Rattle.rp_num.proofs.BelowLemmas.{one_holds}
use Rattle.rp_forms.specs.declared.form.Marks.TheVariants.{Goods}
use Rattle.rp_sheet.proofs.FigureLemmas.{figure_there, rows_are, size_listed}
use Rattle.rp_sheet.proofs.PlaceLemmas.{greatest_at_most}
use Rattle.rp_text.proofs.PlainNumbers.{numeral_decimal, numeral_trimmed}
use Rattle.rp_text.proofs.PlainHeaders.{none_of, column_kind, price_role, quantity_role}

abbrev whole_number : ℕ → Decimal
whole_number n = record { units = n; places = 0 }

-- a sum above 0 has a term above 0
some_term : (f : ℕ → ℕ) (n : ℕ) → 1 ≤ sum_below n f → (k : ℕ) × (k < n) × (1 ≤ f k)
some_term f zero some = absurd (omega arith)
some_term f (suc n) some = by (f n) refl (some_term f n)
  where
    by : (v : ℕ) → f n ≡ v → (1 ≤ sum_below n f → (k : ℕ) × (k < n) × (1 ≤ f k)) → (k : ℕ) × (k < suc n) × (1 ≤ f k)
    by zero is earlier =
        let found = earlier (omega (arith, is, some)) in
        (found.0, omega (arith, found.1), found.2)
    by (suc v) is earlier = (n, omega arith, omega (arith, is))

-- the text of a numeral denotes its number
field_number : (text : List ℕ) (number : ℕ) → IsNumeral text number → number ≤ 9999999 → decimal_of (trimmed text) ≡ Ok (whole_number number)
field_number text number is few = ap decimal_of (numeral_trimmed text number is) ∙ numeral_decimal text number is few

not_zero : (n : ℕ) → 1 ≤ n → (n == 0) ≡ false
not_zero n some = grind (arith, nat_tests)

equal_tests : (a b : ℕ) → a ≡ b → (a == b) ≡ true
equal_tests a b is = grind (arith, nat_tests)

over_zero : (n : ℕ) → 1 ≤ n → nat_lt 0 n ≡ true
over_zero n some = grind (arith, nat_tests)

within_limit : (limit n : ℕ) → n ≤ limit → nat_lt limit n ≡ false
within_limit limit n few = grind (arith, nat_tests)

-- the size of a whole number at a scale without places
size_whole : (n limit row column : ℕ) → n ≤ limit → size_of (whole_number n) 0 limit row column ≡ Ok n
size_whole n limit row column few =
    let same : n * 1 ≡ n = mul-one n in
    let fits = within_limit limit n few in
    rw (same, fits) refl

module _ (headers names : List (List ℕ)) (plain : IsPlainHeader headers names) (records : List (List (List ℕ))) (rows : ℕ) (price quantity : ℕ → ℕ → ℕ)
    (all : rows_in records ≡ rows)
    (each : (t : ℕ) → t < rows → IsPlainRecord (row_at records t) (length names) (price t) (quantity t))
    (price_most : (t g : ℕ) → t < rows → g < length names → price t g ≤ 9999999)
    (quantity_most : (t g : ℕ) → t < rows → g < length names → quantity t g ≤ 9999999) where
  price_field : (t g : ℕ) → t < rows → g < length names → field_at table_form headers records t (2 * g) ≡ Ok (whole_number (price t g))
  unfolding field_at field_of
  price_field t g row good =
      let number = field_number (text_at (row_at records t) (2 * g)) (price t g) ((each t row).prices g good) (price_most t g row good) in
      let some = not_zero (price t g) ((each t row).priced g good) in
      rw (price_role headers names plain g good, number, some) refl

  quantity_field : (t g : ℕ) → t < rows → g < length names → field_at table_form headers records t (2 * g + 1) ≡ Ok (whole_number (quantity t g))
  unfolding field_at field_of
  quantity_field t g row good =
      let number = field_number (text_at (row_at records t) (2 * g + 1)) (quantity t g) ((each t row).quantities g good) (quantity_most t g row good) in
      rw (quantity_role headers names plain g good, number) refl

  -- each field has a number without places
  field_there : (t c : ℕ) → t < rows → c < length headers → (n : ℕ) × (n ≤ 9999999) × (field_at table_form headers records t c ≡ Ok (whole_number n))
  field_there t c row column =
      let kind = column_kind c (length names) (omega (arith, plain.width)) in
      elim (kind.2) [
        | inl even ↦ (price t kind.0, price_most t kind.0 row kind.1, ap (field_at table_form headers records t) even ∙ price_field t kind.0 row kind.1)
        | inr odd ↦ (quantity t kind.0, quantity_most t kind.0 row kind.1, ap (field_at table_form headers records t) odd ∙ quantity_field t kind.0 row kind.1)
      ]

  buys_something : (t : ℕ) → t < rows → buys_nothing Goods headers (figure table_form headers records t) ≡ false
  buys_something t row =
      let some = some_term (quantity t) (length names) ((each t row).bought) in
      let column : 2 * some.0 + 1 < length headers = omega (arith, plain.width, some.1) in
      let role = quantity_role headers names plain some.0 some.1 in
      let field = quantity_field t some.0 row some.1 in
      let positive = over_zero (quantity t some.0) some.2 in
      let says : measures (role_at Goods headers (2 * some.0 + 1)) ≡ true = rw role refl in
      let number : nat_lt 0 (figure table_form headers records t (2 * some.0 + 1)).units ≡ true = rw field positive in
      let measured = one_holds (λ c. measures (role_at Goods headers c)) (2 * some.0 + 1) (length headers) column says in
      let bought = one_holds (λ c. measures (role_at Goods headers c) && nat_lt 0 (figure table_form headers records t c).units) (2 * some.0 + 1) (length headers) column (rw (says, number) refl) in
      rw (measured, bought) refl

  no_record_fault : (t : ℕ) → t < rows → record_fault table_form headers records t ≡ None
  unfolding record_fault
  no_record_fault t row =
      let width : (length (row_at records t) == length headers) ≡ true = equal_tests (length (row_at records t)) (length headers) (omega (arith, plain.width, (each t row).width)) in
      let fields : first_of (length headers) (λ c. result_err (field_at table_form headers records t c)) ≡ None =
      none_of (λ c. result_err (field_at table_form headers records t c)) (length headers) (λ c column. ap result_err (field_there t c row column).2) in
      rw (width, fields, buys_something t row) refl

  pub no_fields_fault : fields_stage table_form headers records ≡ None
  unfolding fields_stage
  no_fields_fault = none_of (record_fault table_form headers records) (rows_in records) (λ t below. no_record_fault t (omega (arith, all)))

  figure_is : (t c n : ℕ) → t < rows → c < length headers → field_at table_form headers records t c ≡ Ok (whole_number n) → figure_at (figures_of table_form headers records) t c ≡ whole_number n
  figure_is t c n row column is =
      figure_there table_form headers records t c (omega (arith, all)) column ∙ ap (λ r. result_unwrap_or r nothing) is

  no_places_at : (role : Role) → greatest_places Goods headers (figures_of table_form headers records) role ≡ 0
  unfolding greatest_places
  no_places_at role =
      let least = greatest_at_most _ (length (figures_of table_form headers records)) 0 (λ t row.
      greatest_at_most _ (length headers) 0 (λ c column.
      let inside : t < rows = omega (arith, all, rows_are table_form headers records) in
      let field = field_there t c inside column in
      let none : (figure_at (figures_of table_form headers records) t c).places ≤ 0 = rw (figure_is t c field.0 inside column field.2) (omega arith) in
      chosen (shares_scale role (role_at Goods headers c)) (figure_at (figures_of table_form headers records) t c).places none)) in
      omega (arith, least)
    where
      chosen : (b : Bool) (n : ℕ) → n ≤ 0 → (if b then n else 0) ≤ 0
      chosen true n h = h
      chosen false n h = omega arith

  -- a scale has no places
  pub no_places : (role : Role) → (role ≡ Price) ⊎ (role ≡ Quantity) → places_of table_form headers (figures_of table_form headers records) role ≡ 0
  unfolding places_of
  no_places role (inl is) = rw (is, no_places_at Price) refl
  no_places role (inr is) = rw (is, no_places_at Quantity) refl

  price_size : (t g : ℕ) → t < rows → g < length names → size_at table_form headers (figures_of table_form headers records) t (2 * g) ≡ Ok (price t g)
  unfolding size_at
  price_size t g row good =
      let role = price_role headers names plain g good in
      let number = figure_is t (2 * g) (price t g) row (omega (arith, plain.width)) (price_field t g row good) in
      let places = no_places Price (inl refl) in
      rw (role, number, places) (size_whole (price t g) 9999999 (number_of t) (number_of (2 * g)) (price_most t g row good))

  quantity_size : (t g : ℕ) → t < rows → g < length names → size_at table_form headers (figures_of table_form headers records) t (2 * g + 1) ≡ Ok (quantity t g)
  unfolding size_at
  quantity_size t g row good =
      let role = quantity_role headers names plain g good in
      let number = figure_is t (2 * g + 1) (quantity t g) row (omega (arith, plain.width)) (quantity_field t g row good) in
      let places = no_places Quantity (inr refl) in
      rw (role, number, places) (size_whole (quantity t g) 9999999 (number_of t) (number_of (2 * g + 1)) (quantity_most t g row good))

  size_there : (t c : ℕ) → t < rows → c < length headers → result_err (size_at table_form headers (figures_of table_form headers records) t c) ≡ None
  size_there t c row column =
      let kind = column_kind c (length names) (omega (arith, plain.width)) in
      elim (kind.2) [
        | inl even ↦ ap (λ (k : ℕ). result_err (size_at table_form headers (figures_of table_form headers records) t k)) even ∙ ap result_err (price_size t kind.0 row kind.1)
        | inr odd ↦ ap (λ (k : ℕ). result_err (size_at table_form headers (figures_of table_form headers records) t k)) odd ∙ ap result_err (quantity_size t kind.0 row kind.1)
      ]

  pub no_sizes_fault : sizes_stage table_form headers (figures_of table_form headers records) ≡ None
  unfolding sizes_stage
  no_sizes_fault =
      none_of _ (length (figures_of table_form headers records)) (λ t row.
      none_of (λ c. result_err (size_at table_form headers (figures_of table_form headers records) t c)) (length headers) (λ c column.
      size_there t c (omega (arith, all, rows_are table_form headers records)) column))

  -- the numbers of the columns of a good
  pub price_listed : (t g : ℕ) → t < rows → g < length names → get_or (text_at (sizes_of table_form headers (figures_of table_form headers records)) t) (2 * g) 0 ≡ price t g
  price_listed t g row good =
      size_listed table_form headers (figures_of table_form headers records) t (2 * g) (omega (arith, all, rows_are table_form headers records)) (omega (arith, plain.width))
      ∙ ap (λ r. result_unwrap_or r 0) (price_size t g row good)

  pub quantity_listed : (t g : ℕ) → t < rows → g < length names → get_or (text_at (sizes_of table_form headers (figures_of table_form headers records)) t) (2 * g + 1) 0 ≡ quantity t g
  quantity_listed t g row good =
      size_listed table_form headers (figures_of table_form headers records) t (2 * g + 1) (omega (arith, all, rows_are table_form headers records)) (omega (arith, plain.width))
      ∙ ap (λ r. result_unwrap_or r 0) (quantity_size t g row good)
