-- Records without a fault make a table within the limits.
use Rattle.std.proofs.Common.{◌≡◌, ◌≢◌, ℕ, zero, suc, ◌*◌, ◌<◌, ◌≤◌, inl, inr, Bool, true, false, if◌then◌else◌, [], List, length, slice_index, Option, Some, None, refl, sym, ap, ◌∙◌, subst, arith}
use Rattle.std.specs.Prelude.{codes, unwrap_or, Vec, IfSome}
use Rattle.std.specs.List.{All}
use Rattle.std.specs.declared.alloc.Global.{Global}
use Rattle.std.proofs.lemmas.List.Elements.{All-nil}
use Rattle.std.proofs.lemmas.Nat.{mul-le}
use Rattle.rp_num.specs.declared.decimal.Decimal.{Decimal}
use Rattle.rp_table.specs.OwnLevels.{IsOwnLevel, AreOwnLevels}
use Rattle.rp_table.specs.Tables.{IsTable, records_of}
use Rattle.rp_forms.specs.Texts.{text_at}
use Rattle.rp_forms.specs.Columns.{role_of, named_role, names_with, is_price}
use Rattle.rp_forms.specs.Forms.{table_form}
use Rattle.rp_sheet.specs.Fields.{figures_of, rows_in, fields_stage}
use Rattle.rp_sheet.specs.Sizes.{sizes_of, sizes_stage}
use Rattle.rp_sheet.specs.Headers.{has}
use Rattle.rp_sheet.specs.ChoiceCounts.{column_named}
use Rattle.rp_text.specs.Denotation.{own_levels, priced_table, table_of}
use Rattle.rp_text.proofs.PricedTables.{IsPriced, priced_is}
use Rattle.rp_sheet.specs.Sheets.{column_numbers}
use Rattle.rp_forms.specs.declared.form.Form.{Form}
use Rattle.rp_forms.specs.declared.form.Role.TheVariants.{OwnLevel}
use Rattle.rp_forms.specs.declared.form.Marks.TheVariants.{Goods}
use Rattle.rp_num.proofs.BelowLemmas.{length-listed}
use Rattle.rp_sheet.proofs.FineHeaders.{column_there}
use Rattle.rp_num.proofs.RowsBelow.{length-rows, all_listed}
use Rattle.rp_sheet.proofs.GoodHeaders.{GoodHeaders}
use Rattle.rp_sheet.proofs.ColumnSizes.{sizes_in, sizes_are, level_at}

-- what the header of own levels says
pub level_says : role_of Goods (codes "e") ≡ Some OwnLevel
unfolding role_of named_role
level_says = refl

table_priced : IsPriced table_form
table_priced = record { priced = refl; own_scale = refl; no_expenditure = refl; no_income = refl }

module _ (headers : List (List ℕ)) (records : List (List (List ℕ))) (good : GoodHeaders table_form headers) (fine_fields : fields_stage table_form headers records ≡ None) (fine_sizes : sizes_stage table_form headers (figures_of table_form headers records) ≡ None) where
  -- each observation has an own level, where there is a column of them
  levels_are : AreOwnLevels (rows_in records) (own_levels headers (sizes_in table_form headers records))
  levels_are = by (has headers (codes "e")) refl
    where
      level_within : has headers (codes "e") ≡ true → (t : ℕ) → t < rows_in records → IsOwnLevel (slice_index (text_at (sizes_in table_form headers records) t) (column_named (codes "e") headers))
      level_within there t row =
          let column = column_there headers (codes "e") there in
          let at_column : column_named (codes "e") headers ≡ column.0 = ap (λ o. unwrap_or o 0) column.2 in
          rw at_column (level_at table_form headers records fine_fields fine_sizes t column.0 row column.1 (ap (role_of Goods) column.3 ∙ level_says))

      by : (b : Bool) → has headers (codes "e") ≡ b → AreOwnLevels (rows_in records) (if b then column_numbers (codes "e") headers (sizes_in table_form headers records) else [])
      by false none = inl refl
      by true there = inr (
        length-listed _ (length (sizes_in table_form headers records)) ∙ sizes_are table_form headers records,
        all_listed IsOwnLevel (length (sizes_in table_form headers records)) _ (λ t row. let inside : t < rows_in records = omega (arith, sizes_are table_form headers records) in level_within there t inside),
      )

  -- the table is within the limits
  pub table_is : 1 ≤ rows_in records → rows_in records ≤ 512 → IsTable (table_of headers (figures_of table_form headers records))
  unfolding table_of
  table_is = priced_is table_form headers records table_priced good fine_fields fine_sizes _ levels_are

-- levels within the limits are within those of other numbers
pub levels_small : (n : ℕ) (levels : List ℕ) → AreOwnLevels n levels → All (λ e. e ≤ 9999999) levels
levels_small n levels (inl none) = subst (All (λ e. e ≤ 9999999)) (sym none) (All-nil (λ e. e ≤ 9999999))
levels_small n levels (inr each) = λ k d within. let level = each.1 k d within in omega (arith, level.1)

some_rows : (n goods records long : ℕ) → long ≡ n * goods → long ≡ records * goods → 1 ≤ records → 1 ≤ goods → 1 ≤ n
some_rows zero goods records long none all some some_goods = let product = mul-le 1 1 records goods some some_goods in absurd (omega (arith, none, all, product))
some_rows (suc n) goods records long these all some some_goods = omega arith

-- a table within the limits has records
pub some_sizes : (headers : List (List ℕ)) (figures : List (List Decimal)) → IsTable (table_of headers figures) → 1 ≤ length (sizes_of table_form headers figures)
unfolding table_of
some_sizes headers figures within =
    some_rows (length (sizes_of table_form headers figures)) (length (names_with Goods is_price headers)) (records_of (table_of headers figures)) _ (length-rows (length (sizes_of table_form headers figures)) (length (names_with Goods is_price headers)) _) within.all_prices within.some_records within.some_goods

-- levels that are given are some
pub levels_some : (levels : Option (Vec ℕ Global)) (n : ℕ) → 1 ≤ n → IfSome levels (λ given. length given.items ≡ n) → IfSome levels (λ given. given.items ≢ [])
levels_some None n some each = tt
levels_some (Some given) n some each = λ empty. let none : length given.items ≡ 0 = ap length empty in omega (arith, each, none, some)

-- the table from its parts
pub table_made : (form : Form) (headers : List (List ℕ)) (figures : List (List Decimal)) (sizes : List (List ℕ)) (levels : List ℕ) → form ≡ table_form → sizes ≡ sizes_of table_form headers figures → levels ≡ own_levels headers sizes
    → priced_table form headers figures levels ≡ table_of headers figures
unfolding table_of
table_made form headers figures sizes levels is sized levelled =
    ap (λ (kind : Form). priced_table kind headers figures levels) is ∙ ap (priced_table table_form headers figures) (levelled ∙ ap (own_levels headers) sized)
