-- What the groups of a long file's records say of its households.
use Rattle.std.proofs.Common.{◌≡◌, ◌≢◌, ℕ, zero, suc, ◌+◌, ◌<◌, ◌≤◌, Bool, true, false, if◌then◌else◌, List, [], ◌∷◌, ◌++◌, length, map, get_or, None, Ok, Err, refl, sym, ap, ◌∙◌, subst, arith}
use Rattle.std.specs.List.{All}
use Rattle.std.specs.Str.{bytes_eq}
use Rattle.std.proofs.lemmas.List.{get_or-map, length-map}
use Rattle.std.proofs.lemmas.List.Elements.{All-push}
use Rattle.rp_limits.specs.declared.table.TheConstants.{RECORDS}
use Rattle.rp_table.specs.Tables.{Observations}
use Rattle.rp_forms.specs.Texts.{text_at}
use Rattle.rp_sheet.specs.Fields.{rows_in}
use Rattle.rp_sheet.specs.Selections.{selected_records}
use Rattle.rp_sheet.specs.declared.fault.TableFault.{TableFault}
use Rattle.rp_sheet.specs.declared.fault.TableFault.TheVariants as fault
use Rattle.rp_text.specs.Denotation.{denoted_table}
use Rattle.rp_long.specs.Ids.{Grouped, grouped_below, ids_below, records_with}
use Rattle.rp_long.specs.InLongFile.{denoted_in_long_file, in_long_file}
use Rattle.rp_long.specs.LongColumns.{Uses}
use Rattle.rp_long.specs.LongFaults.{goods_fault}
use Rattle.rp_long.specs.Panels.{Panel, Household, household_at, household_of, household_with, id_text, nobody, panel_with}
use Rattle.rp_long.specs.Places.{places_below}
use Rattle.rp_long.proofs.CountLemmas.{told_many}

-- the numbers below a bound that pass a test are below it
places_within : (n m : ℕ) (test : ℕ → Bool) → n ≤ m → All (λ t. t < m) (places_below n test)
places_within zero m test few = λ k d within. absurd (omega (arith, within))
places_within (suc n) m test few = by (test n) (places_within n m test (omega (arith, few)))
  where
    by : (b : Bool) → All (λ t. t < m) (places_below n test) → All (λ t. t < m) (if b then places_below n test ++ n ∷ [] else places_below n test)
    by true before = All-push (λ (t : ℕ). t < m) (places_below n test) n before (omega (arith, few))
    by false before = before

-- the first of some records, or the first of all
pub first_within : (rows : List ℕ) (n : ℕ) → 1 < n → All (λ t. t + 1 < n) rows → get_or rows 0 0 + 1 < n
first_within [] n some within = some
first_within (t ∷ rows) n some within = within 0 0 (omega arith)

module _ (uses : Uses) (records : List (List (List ℕ))) (groups : Grouped) (panel : Panel) (grouped : groups ≡ grouped_below (id_text uses.id records) (rows_in records)) (is : panel_with uses records ≡ panel) where
  same_ids : groups.ids ≡ ids_below (id_text uses.id records) (rows_in records)
  same_ids = ap (λ (g : Grouped). g.ids) grouped

  same_members : groups.members ≡ map (records_with (id_text uses.id records) (rows_in records)) (ids_below (id_text uses.id records) (rows_in records))
  same_members = ap (λ (g : Grouped). g.members) grouped

  -- a group for each household
  pub count : length groups.ids ≡ length panel.households
  count = ap length same_ids ∙ sym (length-map (ids_below (id_text uses.id records) (rows_in records)) (household_of uses records)) ∙ ap (λ (p : Panel). length p.households) is

  pub member_count : length groups.members ≡ length panel.households
  member_count =
      ap length same_members ∙ length-map (ids_below (id_text uses.id records) (rows_in records)) (records_with (id_text uses.id records) (rows_in records))
      ∙ sym (length-map (ids_below (id_text uses.id records) (rows_in records)) (household_of uses records)) ∙ ap (λ (p : Panel). length p.households) is

  pub same_unnamed : groups.unnamed ≡ panel.unnamed
  same_unnamed = ap (λ (g : Grouped). g.unnamed) grouped ∙ ap (λ (p : Panel). p.unnamed) is

  within_ids : (h : ℕ) → h < length panel.households → h < length (ids_below (id_text uses.id records) (rows_in records))
  within_ids h within = omega (arith, within, count, ap length same_ids)

  members_at : (h : ℕ) → h < length panel.households
      → text_at groups.members h ≡ records_with (id_text uses.id records) (rows_in records) (text_at (ids_below (id_text uses.id records) (rows_in records)) h)
  members_at h within =
      ap (λ (members : List (List ℕ)). text_at members h) same_members
      ∙ get_or-map (records_with (id_text uses.id records) (rows_in records)) (ids_below (id_text uses.id records) (rows_in records)) h [] [] (within_ids h within)

  -- a household has the id and the records of its group
  pub household_there : (h : ℕ) → h < length panel.households → household_at panel h ≡ household_with uses records (text_at groups.ids h) (text_at groups.members h)
  household_there h within =
      sym (ap (λ (p : Panel). household_at p h) is) ∙ get_or-map (household_of uses records) (ids_below (id_text uses.id records) (rows_in records)) h [] nobody (within_ids h within)
      ∙ ap (household_with uses records (text_at (ids_below (id_text uses.id records) (rows_in records)) h)) (sym (members_at h within))
      ∙ ap (λ (ids : List (List ℕ)). household_with uses records (text_at ids h) (text_at groups.members h)) (sym same_ids)

  -- its records are there
  pub members_within : (h : ℕ) → h < length panel.households → All (λ t. t + 1 < length records) (text_at groups.members h)
  members_within h within = subst (λ (rows : List ℕ). All (λ t. t + 1 < length records) rows) (sym (members_at h within)) (λ k d inside.
      let below = places_within (rows_in records) (rows_in records) (λ t. bytes_eq (id_text uses.id records t) (text_at (ids_below (id_text uses.id records) (rows_in records)) h)) (omega arith) k d inside in
      omega (arith, below))

  module _ (h : ℕ) (within : h < length panel.households) (rows columns : List ℕ) (read : List (List (List ℕ)))
      (of_group : rows ≡ text_at groups.members h) (of_table : columns ≡ uses.table) (selected : read ≡ selected_records records rows columns) where
    its_table : (household_at panel h).table ≡ denoted_in_long_file rows columns (denoted_table read)
    its_table =
        ap (λ (household : Household). household.table) (household_there h within)
        ∙ ap (λ (rs : List ℕ). denoted_in_long_file rs uses.table (denoted_table (selected_records records rs uses.table))) (sym of_group)
        ∙ ap (λ (cs : List ℕ). denoted_in_long_file rows cs (denoted_table (selected_records records rows cs))) (sym of_table)
        ∙ ap (λ (rs : List (List (List ℕ))). denoted_in_long_file rows columns (denoted_table rs)) (sym selected)

    pub table_there : (table : Observations) → denoted_table read ≡ Ok table → (household_at panel h).table ≡ Ok table
    table_there table denoted = its_table ∙ ap (denoted_in_long_file rows columns) denoted

    pub table_many : goods_fault columns records ≡ None → RECORDS < length rows → (household_at panel h).table ≡ Err fault.TooManyRecords
    table_many fine many =
        its_table ∙ ap (λ (rs : List (List (List ℕ))). denoted_in_long_file rows columns (denoted_table rs)) selected ∙ told_many records columns rows fine many

    -- the household has as many records as its group
    pub same_length : length (household_at panel h).records ≡ length rows
    same_length = ap (λ (household : Household). length household.records) (household_there h within) ∙ ap length (sym of_group)

    pub table_refused : (e told : TableFault) → denoted_table read ≡ Err e → told ≡ in_long_file rows columns e → (household_at panel h).table ≡ Err told
    table_refused e told denoted is = its_table ∙ ap (denoted_in_long_file rows columns) denoted ∙ ap Err (sym is)

-- want of memory is told as such
pub told_of_memory : (rows columns : List ℕ) (e told : TableFault) → told ≡ in_long_file rows columns e → told ≢ fault.NoMemory → e ≢ fault.NoMemory
unfolding in_long_file
told_of_memory rows columns e told is other same = other (is ∙ ap (in_long_file rows columns) same)
