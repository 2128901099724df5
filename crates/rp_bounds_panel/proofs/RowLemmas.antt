-- Rows of households that are written, one after another.
use Rattle.std.proofs.Common.{◌≡◌, ◌<◌, ◌+◌, ◌++◌, ◌∷◌, [], ℕ, List, ap, sym, refl, ◌∙◌, subst, append_assoc, append-nil, arith, get_or, length, map, take}
use Rattle.std.specs.List.{flat_map}
use Rattle.std.proofs.lemmas.Grind.{flat_map-append}
use Rattle.std.proofs.lemmas.List.{length_push, map-append, take_more}
use Rattle.rp_support.proofs.ListSteps.{entry_more}
use Rattle.rp_bound_rows.specs.BoundRows.{GivenDemand, GivenWelfare}
use Rattle.rp_bound_rows.specs.RowText.{header_text, text_of_row}
use Rattle.rp_bound_rows.specs.Writing.{HasWritten}
use Rattle.rp_bound_rows.specs.declared.asked.BoundsAsked.{BoundsAsked}
use Rattle.rp_bound_rows.specs.declared.row.BoundRow.{BoundRow}
use Rattle.rp_bound_rows.specs.declared.writer.RowWriter.{RowWriter}
use Rattle.rp_bounds_panel.specs.BoundsText.{IsBoundsText, IsRowOfHousehold, unnamed_row}
use Rattle.rp_bounds_panel.specs.InnerRows.{WritesHouseholds}
use Rattle.rp_long.specs.Panels.{Panel, household_at}
use Rattle.rp_long.specs.declared.fault.Unnamed.{Unnamed}

-- the text of one row more
text_more : (text : List ℕ) (rows : List BoundRow) (last : BoundRow) → (text ++ flat_map text_of_row rows) ++ text_of_row last ≡ text ++ flat_map text_of_row (rows ++ last ∷ [])
text_more text rows last =
    append_assoc text (flat_map text_of_row rows) (text_of_row last)
    ∙ ap (λ t. text ++ t) (sym (flat_map-append text_of_row rows (last ∷ []) ∙ ap (λ t. flat_map text_of_row rows ++ t) (append-nil (text_of_row last))))

-- one refused record more
pub refused_more : (writer : RowWriter) (text : List ℕ) (kept : ℕ) (unnamed : List Unnamed) (i : ℕ) (d : Unnamed) (row : BoundRow) → i < length unnamed → row ≡ unnamed_row kept (get_or unnamed i d)
    → HasWritten writer ((text ++ flat_map text_of_row (map (unnamed_row kept) (take i unnamed))) ++ text_of_row row)
    → HasWritten writer (text ++ flat_map text_of_row (map (unnamed_row kept) (take (i + 1) unnamed)))
refused_more writer text kept unnamed i d row within made written =
    let more = ap (map (unnamed_row kept)) (take_more unnamed i d within) ∙ map-append (unnamed_row kept) (take i unnamed) (get_or unnamed i d ∷ []) in
    subst (HasWritten writer)
    (ap (λ (r : BoundRow). (text ++ flat_map text_of_row (map (unnamed_row kept) (take i unnamed))) ++ text_of_row r) made
    ∙ text_more text (map (unnamed_row kept) (take i unnamed)) (unnamed_row kept (get_or unnamed i d))
    ∙ ap (λ (rows : List BoundRow). text ++ flat_map text_of_row rows) (sym more)) written

module _ (of_demand : GivenDemand) (of_welfare : GivenWelfare) (asked : BoundsAsked) (new : List ℕ) (panel : Panel) (before : RowWriter) where
  -- none yet
  pub none_written : WritesHouseholds of_demand of_welfare asked new panel 0 before before
  none_written = record {
    rows = [];
    one_each = refl;
    each = λ h row within. absurd (omega (arith, within));
    written = λ text has. subst (HasWritten before) (sym (append-nil text)) has;
  }

  -- one household more
  pub one_more : (n : ℕ) (writer after : RowWriter) (last : BoundRow) → WritesHouseholds of_demand of_welfare asked new panel n before writer → IsRowOfHousehold of_demand of_welfare asked new (household_at panel n) last
      → ((text : List ℕ) → HasWritten writer text → HasWritten after (text ++ text_of_row last)) → WritesHouseholds of_demand of_welfare asked new panel (n + 1) before after
  one_more n writer after last so_far is writes = record {
    rows = so_far.rows ++ last ∷ [];
    one_each = length_push so_far.rows last ∙ ap (λ k. k + 1) so_far.one_each;
    each = entry_more (λ h row. IsRowOfHousehold of_demand of_welfare asked new (household_at panel h) row) so_far.rows n last so_far.one_each so_far.each is (so_far.rows ++ last ∷ []) refl;
    written = λ text has. subst (HasWritten after) (text_more text so_far.rows last) (writes (text ++ flat_map text_of_row so_far.rows) (so_far.written text has));
  }

  -- all of them, and the refused records
  pub whole_text : (kept : List (List ℕ)) (count : ℕ) (unnamed : List Unnamed) (middle after : RowWriter) (text : List ℕ) → HasWritten before (header_text asked kept)
      → WritesHouseholds of_demand of_welfare asked new panel (length panel.households) before middle
      → ((t : List ℕ) → HasWritten middle t → HasWritten after (t ++ flat_map text_of_row (map (unnamed_row count) unnamed)))
      → ((t : List ℕ) → HasWritten after t → text ≡ t) → count ≡ length kept → unnamed ≡ panel.unnamed → IsBoundsText of_demand of_welfare asked new kept panel text
  whole_text kept count unnamed middle after text started households others finished counted same = record {
    rows = households.rows;
    of_households = record { one_each = households.one_each; each = households.each };
    text_is =
        finished _ (others _ (households.written _ started))
        ∙ append_assoc (header_text asked kept) (flat_map text_of_row households.rows) (flat_map text_of_row (map (unnamed_row count) unnamed))
        ∙ ap (λ t. header_text asked kept ++ t) (sym (flat_map-append text_of_row households.rows (map (unnamed_row count) unnamed)))
        ∙ ap (λ (n : ℕ). header_text asked kept ++ flat_map text_of_row (households.rows ++ map (unnamed_row n) unnamed)) counted
        ∙ ap (λ (us : List Unnamed). header_text asked kept ++ flat_map text_of_row (households.rows ++ map (unnamed_row (length kept)) us)) same;
  }
