-- A writer to which rows are written, one after another.
use Rattle.std.proofs.Common.{◌≡◌, ◌<◌, ◌+◌, ◌++◌, ◌∷◌, [], ℕ, List, ap, sym, ◌∙◌, subst, append_assoc, append-nil, get_or, length, take, take_all, ◌≤◌}
use Rattle.std.proofs.lemmas.List.{take_more}
use Rattle.std.proofs.lemmas.Grind.{flat_map-append}
use Rattle.std.specs.List.{flat_map}
use Rattle.csv.specs.Writing.{row_text}
use Rattle.rp_rows.specs.RowText.{panel_writer}
use Rattle.rp_bound_rows.specs.RowText.{fault_fields, found_text, lines_text, text_of_row}
use Rattle.rp_bound_rows.specs.Writing.{HasWritten}
use Rattle.rp_bound_rows.specs.declared.fault.BoundFault.{BoundFault}
use Rattle.rp_bound_rows.specs.declared.line.Line.{Line}
use Rattle.rp_bound_rows.specs.declared.row.BoundRow.{BoundRow}
use Rattle.rp_bound_rows.specs.declared.row.Bounds.{Bounds}
use Rattle.rp_bound_rows.specs.declared.row.FoundBounds.TheVariants.{Bounds as BoundsFound, Fault as FaultFound}
use Rattle.rp_bound_rows.specs.declared.writer.RowWriter.{RowWriter}

module _ {A : Type 0} (text_of : A → List ℕ) where
  -- one piece more
  pub pieces_more : (pieces : List A) (i : ℕ) (d : A) → i < length pieces → flat_map text_of (take (i + 1) pieces) ≡ flat_map text_of (take i pieces) ++ text_of (get_or pieces i d)
  pieces_more pieces i d within =
      ap (flat_map text_of) (take_more pieces i d within)
      ∙ flat_map-append text_of (take i pieces) (get_or pieces i d ∷ [])
      ∙ ap (λ t. flat_map text_of (take i pieces) ++ t) (append-nil (text_of (get_or pieces i d)))

  -- a writer to which the next piece is written
  pub next_piece : (writer : RowWriter) (before last : List ℕ) (pieces : List A) (i : ℕ) (piece : A) → i < length pieces → piece ≡ get_or pieces i piece → last ≡ text_of piece
      → HasWritten writer ((before ++ flat_map text_of (take i pieces)) ++ last) → HasWritten writer (before ++ flat_map text_of (take (i + 1) pieces))
  next_piece writer before last pieces i piece within is texts writing =
      let at : last ≡ text_of (get_or pieces i piece) = texts ∙ ap text_of is in
      let same = ap (λ t. (before ++ flat_map text_of (take i pieces)) ++ t) at ∙ append_assoc before (flat_map text_of (take i pieces)) (text_of (get_or pieces i piece)) ∙ ap (λ t. before ++ t) (sym (pieces_more pieces i piece within)) in
      subst (HasWritten writer) same writing

  -- a writer to which all pieces are written
  pub all_pieces : (writer : RowWriter) (before : List ℕ) (pieces : List A) (i : ℕ) → length pieces ≤ i → HasWritten writer (before ++ flat_map text_of (take i pieces)) → HasWritten writer (before ++ flat_map text_of pieces)
  all_pieces writer before pieces i past writing = subst (λ (ps : List A). HasWritten writer (before ++ flat_map text_of ps)) (take_all i pieces past) writing

-- the text of a row with bounds
pub of_bounds : (row : BoundRow) (bounds : Bounds) (at : List (List Line)) → row.found ≡ BoundsFound bounds → at ≡ bounds.at → flat_map (lines_text row bounds) at ≡ text_of_row row
of_bounds row bounds at is same = ap (flat_map (lines_text row bounds)) same ∙ sym (ap (found_text row) is)

-- the text of a row with a fault
pub of_fault : (row : BoundRow) (fault : BoundFault) (fields : List (List ℕ)) → row.found ≡ FaultFound fault → fields ≡ fault_fields row fault → row_text panel_writer fields ≡ text_of_row row
of_fault row fault fields is same = ap (row_text panel_writer) same ∙ sym (ap (found_text row) is)
