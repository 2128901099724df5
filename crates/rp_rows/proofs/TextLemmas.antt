-- A writer to which records are written.
use Rattle.std.proofs.Common.{◌≡◌, ◌<◌, ◌+◌, ◌++◌, ◌∷◌, [], ℕ, List, ap, sym, ◌∙◌, subst, append_assoc, append-nil, get_or, length, take}
use Rattle.std.proofs.lemmas.List.{take_more}
use Rattle.std.proofs.lemmas.Grind.{flat_map-append}
use Rattle.std.specs.List.{flat_map}
use Rattle.std.specs.Prelude.{Vec}
use Rattle.std.specs.declared.alloc.Global.{Global}
use Rattle.csv.specs.Writing.{row_text}
use Rattle.csv.specs.declared.writer.Writer.{Writer}
use Rattle.rp_rows.specs.InnerWriting.{IsWriting}
use Rattle.rp_rows.specs.RowText.{line_of_row, panel_writer, row_fields}
use Rattle.rp_rows.specs.declared.row.Row.{Row}

-- one row more
rows_more : (rows : List Row) (i : ℕ) (d : Row) → i < length rows → flat_map line_of_row (take (i + 1) rows) ≡ flat_map line_of_row (take i rows) ++ line_of_row (get_or rows i d)
rows_more rows i d within =
    ap (flat_map line_of_row) (take_more rows i d within)
    ∙ flat_map-append line_of_row (take i rows) (get_or rows i d ∷ [])
    ∙ ap (λ t. flat_map line_of_row (take i rows) ++ t) (append-nil (line_of_row (get_or rows i d)))

-- a writer to which the next row is written
pub next_row : (writer : Writer (Vec ℕ Global)) (header : List ℕ) (rows : List Row) (i : ℕ) (row : Row) (fields : List (List ℕ)) → i < length rows → row ≡ get_or rows i row → fields ≡ row_fields row
    → IsWriting writer ((header ++ flat_map line_of_row (take i rows)) ++ row_text panel_writer fields) → IsWriting writer (header ++ flat_map line_of_row (take (i + 1) rows))
next_row writer header rows i row fields within is are writing =
    let last : row_text panel_writer fields ≡ line_of_row (get_or rows i row) = ap (row_text panel_writer) are ∙ ap line_of_row is in
    let same = ap (λ t. (header ++ flat_map line_of_row (take i rows)) ++ t) last ∙ append_assoc header (flat_map line_of_row (take i rows)) (line_of_row (get_or rows i row)) ∙ ap (λ t. header ++ t) (sym (rows_more rows i row within)) in
    subst (IsWriting writer) same writing
