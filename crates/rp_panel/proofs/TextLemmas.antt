-- The names of columns, and the text of all rows.
use Rattle.std.proofs.Common.{◌≡◌, ◌++◌, ◌∷◌, [], ℕ, Bool, List, Option, length, map, refl, ap, subst}
use Rattle.rp_evidence.specs.declared.homothetic.Homothetic.{Homothetic}
use Rattle.rp_long.specs.Panels.{Panel}
use Rattle.rp_long.specs.declared.fault.Unnamed.{Unnamed}
use Rattle.rp_offered.specs.declared.offered.Places.{Places}
use Rattle.rp_panel.specs.OfferedText.{columns_after, places_asked}
use Rattle.rp_panel.specs.PanelText.{AreRowsOf, IsPanelText, unnamed_row}
use Rattle.rp_rows.specs.RowText.{rows_text}
use Rattle.rp_rows.specs.declared.asked.Asked.{Asked}
use Rattle.rp_rows.specs.declared.row.Row.{Row}
use Rattle.rp_table.specs.Tables.{Observations}

joined : {A : Type 0} (f : A → List ℕ) (xs : List A) (a b c : A) → map f (((xs ++ a ∷ []) ++ b ∷ []) ++ c ∷ []) ≡ map f xs ++ f a ∷ f b ∷ f c ∷ []
joined f [] a b c = refl
joined f (x ∷ xs) a b c = ap (λ (rest : List (List ℕ)). f x ∷ rest) (joined f xs a b c)

-- three names more
pub three_more : {A : Type 0} (f : A → List ℕ) (xs one two three : List A) (a b c : A) → one ≡ xs ++ a ∷ [] → two ≡ one ++ b ∷ [] → three ≡ two ++ c ∷ []
    → map f three ≡ map f xs ++ f a ∷ f b ∷ f c ∷ []
three_more f xs one two three a b c first second third = rw (third, second, first) (joined f xs a b c)

-- the text of the rows of households and of the records that are refused for their ids
pub written : (given : Observations → Homothetic → Type 0) (asked : Asked) (offered : Bool) (kept : List (List ℕ)) (panel : Panel) (places : Option Places) (columns : List (List ℕ))
    (rows all : List Row) (unnamed : List Unnamed) (width : ℕ) (text : List ℕ)
    → columns ≡ columns_after offered kept → places ≡ places_asked offered panel.households → AreRowsOf given asked places panel.households rows
    → unnamed ≡ panel.unnamed → width ≡ length columns → all ≡ rows ++ map (unnamed_row width) unnamed → text ≡ rows_text columns all
    → IsPanelText given asked offered kept panel text
written given asked offered kept panel places columns rows all unnamed width text columns_are places_are each unnamed_are wide all_are text_is = record {
  rows = rows;
  of_households = subst (λ (p : Option Places). AreRowsOf given asked p panel.households rows) places_are each;
  text_is = rw (text_is, all_are, wide, unnamed_are, columns_are) refl;
}
