-- What a frame holds, from what its parts hold.
use Rattle.std.proofs.Common.{ℕ, ◌≡◌, List, All, IsUtf8, length, Some, None, refl, sym, subst}
use Rattle.rp_frame.specs.Frames.{Frame, Request, named_parts, parts_in, pieces_in, request_in}
use Rattle.rp_frame.specs.Handed.{IsText}
use Rattle.rp_frame.proofs.FileLemmas.{names_of, not_paired, paired}

abbrev pub request_of : List (List ℕ) → List (List ℕ × List ℕ) → Request
request_of words files = record { words = words; files = files }

-- the pieces and parts of a frame
pub record IsCut (frame : Frame) (ws ns ps : List (List ℕ)) : Type 0 where
  pub words : pieces_in frame.words ≡ Some ws
  pub names : pieces_in frame.names ≡ Some ns
  pub parts : parts_in frame.sizes frame.bytes ≡ Some ps

pub made : (frame : Frame) (words names parts : List (List ℕ)) (files : List (List ℕ × List ℕ)) → IsCut frame words names parts
    → named_parts names parts ≡ Some files → request_in frame ≡ Some (request_of words files)
made frame words names parts files cut named = rw (cut.words, cut.names, cut.parts, named) refl

pub uneven : (frame : Frame) (words names parts : List (List ℕ)) → IsCut frame words names parts
    → (length names ≡ length parts → ⊥) → request_in frame ≡ None
uneven frame words names parts cut other = rw (cut.words, cut.names, cut.parts, not_paired names parts other) refl

pub is_text : (words names parts : List (List ℕ)) (files : List (List ℕ × List ℕ)) → named_parts names parts ≡ Some files
    → All IsUtf8 words → All IsUtf8 names → IsText (request_of words files)
is_text words names parts files named all all' =
    record { words = all; names = subst (All IsUtf8) (sym (names_of names parts files named)) all' }

-- a request of which some piece is no text
pub no_text : (frame : Frame) (words names parts : List (List ℕ)) → IsCut frame words names parts → length names ≡ length parts
    → (All IsUtf8 words → All IsUtf8 names → ⊥)
    → (request : Request) × (IsText request → ⊥) × (request_in frame ≡ Some request)
no_text frame words names parts cut same other =
    let files = paired names parts same in (
      request_of words files.0,
      λ text. other text.words (subst (All IsUtf8) (names_of names parts files.0 files.1) text.names),
      made frame words names parts files.0 cut files.1,
    )
