-- Rows of households, one after another.
use Rattle.std.proofs.Common.{◌≡◌, ◌<◌, ◌+◌, ◌++◌, ◌∷◌, [], ℕ, List, Option, arith, inl, inr, length, sym, subst}
use Rattle.std.specs.Prelude.{slice_index_or}
use Rattle.std.proofs.lemmas.Bool.{cases_eq}
use Rattle.std.proofs.lemmas.List.{get_or_append_left, get_or_push}
use Rattle.rp_evidence.specs.declared.homothetic.Homothetic.{Homothetic}
use Rattle.rp_long.specs.Panels.{Panel, household_at}
use Rattle.rp_offered.specs.declared.offered.Places.{Places}
use Rattle.rp_panel.specs.PanelText.{IsRowOfHousehold}
use Rattle.rp_rows.specs.declared.asked.Asked.{Asked}
use Rattle.rp_rows.specs.declared.row.Row.{Row}
use Rattle.rp_table.specs.Tables.{Observations}

module _ (given : Observations → Homothetic → Type 0) (asked : Asked) (offered : Option Places) (panel : Panel) where
  -- one row more
  pub one_more : (n : ℕ) (rows more : List Row) (last : Row) → length rows ≡ n → more ≡ rows ++ last ∷ [] → IsRowOfHousehold given asked offered (household_at panel n) last
      → ((h : ℕ) (row : Row) → h < n → IsRowOfHousehold given asked offered (household_at panel h) (slice_index_or rows h row))
      → (h : ℕ) (row : Row) → h < n + 1 → IsRowOfHousehold given asked offered (household_at panel h) (slice_index_or more h row)
  one_more n rows more last long pushed is each h row within =
      subst (λ (zs : List Row). IsRowOfHousehold given asked offered (household_at panel h) (slice_index_or zs h row)) (sym pushed) (elim (cases_eq h n) [
        | inl at ↦
            subst (λ (r : Row). IsRowOfHousehold given asked offered (household_at panel h) r) (sym (get_or_push rows last row h (omega (arith, at, long))))
            (subst (λ (j : ℕ). IsRowOfHousehold given asked offered (household_at panel j) last) (sym at) is)
        | inr other ↦
            let before : h < n = omega (arith, within, other) in
            subst (λ (r : Row). IsRowOfHousehold given asked offered (household_at panel h) r) (sym (get_or_append_left rows (last ∷ []) row h (omega (arith, before, long)))) (each h row before)
      ])
