-- That an answer and a refusal exclude each other, and what neither of them can be.
use Rattle.std.proofs.Common.{◌≡◌, ℕ, List, [], ◌∷◌, ◌++◌, if◌then◌else◌, Option, None, Some, inl, inr, length, sym, ap, ◌∙◌, arith}
use Rattle.std.specs.Prelude.{codes, map, slice_index_or}
use Rattle.std.specs.List.{flat_map}
use Rattle.std.proofs.lemmas.List.{length-append}
use Rattle.csv.specs.Writing.{is_blank, row_body, row_text}
use Rattle.rp_bound_rows.specs.RowText.{header_fields as bound_header, text_of_row}
use Rattle.rp_bound_rows.specs.declared.asked.BoundsAsked.{BoundsAsked}
use Rattle.rp_bounds_panel.specs.BoundsText.{unnamed_row as bound_unnamed}
use Rattle.rp_long.specs.Panels.{Panel}
use Rattle.rp_long.specs.declared.fault.LongFault.{LongFault}
use Rattle.rp_panel.specs.OfferedText.{columns_after}
use Rattle.rp_panel.specs.PanelText.{unnamed_row}
use Rattle.rp_rows.specs.RowText.{header_fields, line_of_row, panel_writer}
use Rattle.rp_panel_run.specs.Endings.{AnswersWith, Contents, Files, IsRefusal, IsTextBy, IsTextOf, RefusesWith}
use Rattle.rp_panel_run.specs.Laws.{few_new}
use Rattle.rp_panel_run.specs.Questions.{Asking}
use Rattle.rp_panel_run.specs.Told.{file_line, left_out_lines, long_fault_text}

pub text_refused : (a : Asking) (held : Contents) (text told line : List ℕ) → IsTextOf a held text told → IsRefusal a held line → ⊥
text_refused a held text told line is (inl (inl long)) = omega (arith, is.few, long.many)
text_refused a held text told line is (inl (inr fault)) = let denoted = is.denoted in let refused = fault.denoted in cc
text_refused a held text told line is (inr new) = omega (arith, few_new a.bounds a held.new is.panel text is.answers.is_text new.asked, new.many)

pub one_telling : (a : Asking) (held : Contents) (text told other_text other : List ℕ) → IsTextOf a held text told → IsTextOf a held other_text other → told ≡ other
one_telling a held text told other_text other is also =
    let denoted = is.denoted in
    let again = also.denoted in
    let same : is.panel ≡ also.panel = cc in
    is.answers.is_told ∙ ap (λ (p : Panel). left_out_lines p.left_out) same ∙ sym also.answers.is_told

pub one_line : (a : Asking) (held : Contents) (line other : List ℕ) → IsRefusal a held line → IsRefusal a held other → line ≡ other
one_line a held line other (inl (inl long)) (inl (inl also)) = long.tells ∙ sym also.tells
one_line a held line other (inl (inl long)) (inl (inr fault)) = absurd (omega (arith, long.many, fault.few))
one_line a held line other (inl (inl long)) (inr new) = absurd (omega (arith, long.many, new.accepted.few))
one_line a held line other (inl (inr fault)) (inl (inl long)) = absurd (omega (arith, long.many, fault.few))
one_line a held line other (inl (inr fault)) (inl (inr also)) =
    let denoted = fault.denoted in
    let again = also.denoted in
    let same : fault.fault ≡ also.fault = cc in
    fault.tells ∙ ap (λ (f : LongFault). file_line a.file (long_fault_text f)) same ∙ sym also.tells
one_line a held line other (inl (inr fault)) (inr new) = let denoted = fault.denoted in let accepted = new.accepted.denoted in cc
one_line a held line other (inr new) (inl (inl long)) = absurd (omega (arith, long.many, new.accepted.few))
one_line a held line other (inr new) (inl (inr fault)) = let denoted = fault.denoted in let accepted = new.accepted.denoted in cc
one_line a held line other (inr new) (inr also) = new.tells ∙ sym also.tells

-- ---- what is no answer, and no refusal

-- the line of a record is not empty
no_empty_record : (fields : List (List ℕ)) (rest : List ℕ) → [] ≡ row_text panel_writer fields ++ rest → ⊥
no_empty_record fields rest none =
    let all : length ((row_body panel_writer fields ++ ((if is_blank panel_writer fields then 34 ∷ 34 ∷ [] else []) ++ 10 ∷ [])) ++ rest) ≡ 0 = sym (ap length none) in
    omega (
      arith,
      all,
      length-append {A = ℕ} (row_body panel_writer fields ++ ((if is_blank panel_writer fields then 34 ∷ 34 ∷ [] else []) ++ 10 ∷ [])) rest,
      length-append {A = ℕ} (row_body panel_writer fields) ((if is_blank panel_writer fields then 34 ∷ 34 ∷ [] else []) ++ 10 ∷ []),
      length-append {A = ℕ} (if is_blank panel_writer fields then 34 ∷ 34 ∷ [] else []) (10 ∷ []),
    )

no_empty_by : (bounds : Option BoundsAsked) (a : Asking) (new : List ℕ) (panel : Panel) → IsTextBy bounds a new panel [] → ⊥
no_empty_by None a new panel is =
    no_empty_record (header_fields (columns_after a.offered a.kept)) (flat_map line_of_row (is.rows ++ map (unnamed_row (length (columns_after a.offered a.kept))) panel.unnamed)) is.text_is
no_empty_by (Some asked) a new panel is =
    no_empty_record (bound_header asked a.kept) (flat_map text_of_row (is.is_text.rows ++ map (bound_unnamed (length a.kept)) panel.unnamed)) is.is_text.text_is

pub no_empty_text : (a : Asking) (files : Files) (told : List ℕ) → AnswersWith a files [] told → ⊥
no_empty_text a files told (held, contents, is) = no_empty_by a.bounds a held.new is.panel is.answers.is_text

begins : (columns : List (List ℕ)) (byte : ℕ) (told : List ℕ) → (byte ≡ 114 → ⊥) → byte ∷ told ≡ left_out_lines columns → ⊥
begins [] byte told other is = cc is
begins (column ∷ columns) byte told other is = other (ap (λ (line : List ℕ). slice_index_or line 0 0) is)

pub no_other_telling : (a : Asking) (files : Files) (text told : List ℕ) (byte : ℕ) → (byte ≡ 114 → ⊥) → AnswersWith a files text (byte ∷ told) → ⊥
no_other_telling a files text told byte other (held, contents, is) = begins is.panel.left_out byte told other is.answers.is_told

no_line : (file text : List ℕ) → [] ≡ file_line file text → ⊥
no_line file text is =
    let first : ◌≡◌ {A = ℕ} 0 114 = ap (λ (line : List ℕ). slice_index_or line 0 0) is in
    omega (arith, first)

pub no_empty_line : (a : Asking) (files : Files) → RefusesWith a files [] → ⊥
no_empty_line a files (held, contents, inl (inl long)) = no_line a.file (codes "TooLong") long.tells
no_empty_line a files (held, contents, inl (inr fault)) = no_line a.file (long_fault_text fault.fault) fault.tells
no_empty_line a files (held, contents, inr new) = no_line a.new_prices (codes "TooLong") new.tells
