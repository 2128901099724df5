-- The faults of headers, one column after the other.
use Rattle.std.proofs.Common.{◌≡◌, ℕ, ◌+◌, ◌<◌, true, false, List, length, take, Some, None, is_some, [], refl}
use Rattle.std.specs.Option.{option_map_or}
use Rattle.std.proofs.lemmas.List.{get_or-map, length-map}
use Rattle.rp_num.specs.Below.{first_of}
use Rattle.rp_forms.specs.Texts.{trimmed, text_at, place_of, number_of}
use Rattle.rp_forms.specs.Columns.{role_of, takes}
use Rattle.rp_sheet.specs.Headers.{headers_in, header_fault, headers_stage}
use Rattle.rp_forms.specs.declared.form.Form.{Form}
use Rattle.rp_sheet.specs.declared.fault.TableFault.TheVariants as fault
use Rattle.rp_num.proofs.BelowLemmas.{none_so_far, first_at}

-- the header of a column
pub header_at : (fields : List (List ℕ)) (c : ℕ) → c < length fields → text_at (headers_in fields) c ≡ trimmed (text_at fields c)
header_at fields c within = get_or-map trimmed fields c [] [] within

-- a header that such files do not take
pub bad_header : (form : Form) (fields : List (List ℕ)) (header : List ℕ) (c number : ℕ) → c < length fields → header ≡ trimmed (text_at fields c) → number ≡ number_of c
    → first_of c (header_fault form (headers_in fields)) ≡ None → option_map_or (takes form) (role_of form.marks header) false ≡ false
    → headers_stage form (headers_in fields) ≡ Some (fault.BadHeader number)
unfolding headers_stage header_fault
bad_header form fields header c number within is told before bad =
    let inside : c < length (headers_in fields) = rw (length-map fields trimmed) within in
    first_at (header_fault form (headers_in fields)) c (length (headers_in fields)) (fault.BadHeader number) inside before
    (rw (header_at fields c within, ← is, bad, told) refl)

-- a header that stands before
pub named_before : (form : Form) (fields : List (List ℕ)) (header : List ℕ) (c number : ℕ) → c < length fields → header ≡ trimmed (text_at fields c) → number ≡ number_of c
    → first_of c (header_fault form (headers_in fields)) ≡ None → option_map_or (takes form) (role_of form.marks header) false ≡ true → is_some (place_of (take c (headers_in fields)) header) ≡ true
    → headers_stage form (headers_in fields) ≡ Some (fault.TwiceNamed number)
unfolding headers_stage header_fault
named_before form fields header c number within is told before has there =
    let inside : c < length (headers_in fields) = rw (length-map fields trimmed) within in
    first_at (header_fault form (headers_in fields)) c (length (headers_in fields)) (fault.TwiceNamed number) inside before
    (rw (header_at fields c within, ← is, has, there, told) refl)

-- one more header without a fault
pub good_header : (form : Form) (fields : List (List ℕ)) (header : List ℕ) (c : ℕ) → c < length fields → header ≡ trimmed (text_at fields c)
    → first_of c (header_fault form (headers_in fields)) ≡ None → option_map_or (takes form) (role_of form.marks header) false ≡ true → is_some (place_of (take c (headers_in fields)) header) ≡ false
    → first_of (c + 1) (header_fault form (headers_in fields)) ≡ None
unfolding header_fault
good_header form fields header c within is before has new =
    none_so_far (header_fault form (headers_in fields)) c before (rw (header_at fields c within, ← is, has, new) refl)
