-- Programs that take columns: which column enters, and where no pivot is made.
use Rattle.std.proofs.Common.{◌≡◌, ◌+◌, ◌<◌, ◌∙◌, inl, inr, ℕ, zero, suc, ℤ, pos, ◌<ℤ◌, ◌≤ℤ◌, Bool, true, false, List, [], ◌∷◌, length, get_or, Vec, Option, Some, None, ap, subst, sym, arith, add-one}
use Rattle.std.proofs.lemmas.Bool.{cases_lt, false≢true}
use Rattle.std.proofs.lemmas.Int.{ints}
use Rattle.std.specs.Prelude.{Result, Ok, Err, IfOk, MatchBool, MatchOption}
use Rattle.std.specs.declared.alloc.Global.{Global}
use Rattle.rp_whole_tableau.specs.Pivots.{PivotPasses, entry_in, number_at}
use Rattle.rp_whole_tableau.specs.Programs.{AreEntriesOf, ColumnPasses, LeadsIn, Turns, EntryPasses, IsEntering, IsWrittenOut, PassesSomewhere, Stops, entry_of, objective_of, rows_in, rows_of, width_of}
use Rattle.rp_whole_tableau.specs.InnerPivots.{HasColumn, IsLowerOf, IsLowestBelow}
use Rattle.rp_whole_tableau.specs.declared.grown.Grown.{Grown}
use Rattle.rp_whole_tableau.specs.declared.grown.Lowest.{Lowest}

-- ---- columns that were added

pub rows_read : (columns : List (Vec ℕ Global)) (n : ℕ) (column : Vec ℕ Global) → n < length columns → column ≡ get_or columns n column → column.items ≡ rows_in columns n
rows_read [] n column l e = absurd (omega (arith, l))
rows_read (first ∷ columns) zero column l e = ap (λ (v : Vec ℕ Global). v.items) e
rows_read (first ∷ columns) (suc n) column l e = rows_read columns n column (omega (arith, l)) e

pub column_passes : (g : Grown) (n : ℕ) (taken : List ℕ) → n < length g.columns.items → taken ≡ rows_of g n → EntryPasses g.tableau (objective_of g.tableau) taken → ColumnPasses g
column_passes g n taken inside same passes = (n, inside, (objective_of g.tableau, subst (λ (rows : List ℕ). EntryPasses g.tableau (objective_of g.tableau) rows) same passes))

pub entries_written : {E : Type 0} (g : Grown) (c n : ℕ) (taken : List ℕ) (r : Result (Option (Vec ℤ Global)) E) → n < length g.columns.items → c ≡ width_of g.tableau + n → taken ≡ rows_of g n
    → IfOk r (λ found. MatchOption found (PassesSomewhere g.tableau taken) (λ column. IsWrittenOut g.tableau taken column.items))
    → IfOk r (λ found. MatchOption found (ColumnPasses g) (λ entries. AreEntriesOf g c entries.items))
entries_written g c n taken (Ok (Some column)) inside at same is = inr (n, inside, at, subst (λ (rows : List ℕ). IsWrittenOut g.tableau rows column.items) same is)
entries_written g c n taken (Ok None) inside at same passes = (n, inside, subst (λ (rows : List ℕ). PassesSomewhere g.tableau rows) same passes)
entries_written g c n taken (Err e) inside at same is = tt

-- ---- the column that enters

lowest_kept : (g : Grown) (w n : ℕ) (lowest : Lowest) → IsLowestBelow g w n lowest → lowest.price ≤ℤ entry_of g.tableau (objective_of g.tableau) (rows_of g n) → IsLowestBelow g w (n + 1) lowest
lowest_kept g w n lowest so_far above = record {
  is = so_far.is;
  slacks = so_far.slacks;
  columns = λ k l. elim (cases_lt k n) [
    | inl below ↦ so_far.columns k below
    | inr over ↦ (let same : n ≡ k = omega (arith, l, over) in subst (λ (m : ℕ). lowest.price ≤ℤ entry_of g.tableau (objective_of g.tableau) (rows_of g m)) same above)
  ];
}

pub at_most_trans : (a b c : ℤ) → a <ℤ b → b ≤ℤ c → a ≤ℤ c
at_most_trans a b c l m = omega (arith, ints, l, m)

same_at_most : (a b : ℤ) → a ≡ b → a ≤ℤ b
same_at_most a b e = omega (arith, ints, e)

below_none : (lowest : ℤ) (g : Grown) (column : Option ℕ) → HasColumn g column lowest → (price : ℤ) → price <ℤ lowest → price <ℤ pos 0
below_none lowest g None is price l = omega (arith, ints, is, l)
below_none lowest g (Some c) is price l = (let m = is.1 in omega (arith, ints, m, l))

lowest_taken : (g : Grown) (n c : ℕ) (lowest after : Lowest) (price : ℤ) → n < length g.columns.items → c ≡ width_of g.tableau + n → IsLowestBelow g (width_of g.tableau) n lowest → price ≡ entry_of g.tableau (objective_of g.tableau) (rows_of g n)
    → price <ℤ lowest.price → after.column ≡ Some c → after.price ≡ price → IsLowestBelow g (width_of g.tableau) (n + 1) after
lowest_taken g n c lowest after price inside at so_far is lower column_is price_is = record {
  is = subst (λ (o : Option ℕ). HasColumn g o after.price) (sym column_is) (subst (λ (z : ℤ). HasColumn g (Some c) z) (sym price_is)
      (inr (n, inside, at, is), below_none lowest.price g lowest.column so_far.is price lower));
  slacks = λ k some l. (let slack = entry_in g.tableau.rows.items (objective_of g.tableau) k in subst (λ (z : ℤ). z ≤ℤ slack) (sym price_is) (at_most_trans price lowest.price slack lower (so_far.slacks k some l)));
  columns = λ k l. subst (λ (z : ℤ). z ≤ℤ entry_of g.tableau (objective_of g.tableau) (rows_of g k)) (sym price_is) (elim (cases_lt k n) [
    | inl below ↦ at_most_trans price lowest.price _ lower (so_far.columns k below)
    | inr over ↦ (let same : n ≡ k = omega (arith, l, over) in subst (λ (m : ℕ). price ≤ℤ entry_of g.tableau (objective_of g.tableau) (rows_of g m)) same (same_at_most _ _ is))
  ]);
}

pub next_lowest : (g : Grown) (n c : ℕ) (taken : List ℕ) (lowest after : Lowest) (price : ℤ) → n < length g.columns.items → c ≡ width_of g.tableau + n → taken ≡ rows_of g n → IsLowestBelow g (width_of g.tableau) n lowest → price ≡ entry_of g.tableau (objective_of g.tableau) taken
    → IsLowerOf lowest c price after → IsLowestBelow g (width_of g.tableau) (n + 1) after
next_lowest g n c taken lowest after price inside at same so_far is how =
    let price_is : price ≡ entry_of g.tableau (objective_of g.tableau) (rows_of g n) = is ∙ ap (λ (rows : List ℕ). entry_of g.tableau (objective_of g.tableau) rows) same in
    elim how [
      | inl taken ↦ lowest_taken g n c lowest after price inside at so_far price_is taken.0 taken.1 taken.2
      | inr kept ↦ subst (λ (l : Lowest). IsLowestBelow g (width_of g.tableau) (n + 1) l) (sym kept.1) (lowest_kept g (width_of g.tableau) n lowest so_far (subst (λ (z : ℤ). lowest.price ≤ℤ z) price_is kept.0))
    ]

-- ---- no pivot

pub stops_after : (A : Type 0) (g : Grown) (c : ℕ) (entries seen again : List ℤ) (row : ℕ) (fits : Bool) → seen ≡ entries → again ≡ entries → IsEntering g c → AreEntriesOf g c entries → row < objective_of g.tableau → pos 0 <ℤ number_at seen row
    → fits ≡ false → MatchBool fits A (PivotPasses g.tableau.den g.tableau.rows.items again row) → Stops g
stops_after A g c entries seen again row true same same_again enters are inside positive fails fits = absurd (false≢true (sym fails))
stops_after A g c entries seen again row false same same_again enters are inside positive fails passes = inr (
  c,
  enters,
  inr (record {
    entries = entries;
    written = are;
    row = row;
    inside = inside;
    positive = subst (λ (xs : List ℤ). pos 0 <ℤ number_at xs row) same positive;
    passes = subst (λ (xs : List ℤ). PivotPasses g.tableau.den g.tableau.rows.items xs row) same_again passes;
  }),
)

-- ---- pivots

pub leads_more : (B : Type 0) (n : ℕ) (g before next : Grown) (made : Bool) → LeadsIn n g before → made ≡ true → MatchBool made (Turns before next) B → LeadsIn (n + 1) g next
leads_more B n g before next true leads is turns = rw add-one (before, leads, turns)
leads_more B n g before next false leads is turns = absurd (false≢true is)

pub stopped : (A : Type 0) (before : Grown) (made : Bool) → made ≡ false → MatchBool made A (Stops before) → Stops before
stopped A before true is stops = absurd (false≢true (sym is))
stopped A before false is stops = stops
