-- What the reading of a text's records gives where no byte is a quote and each line ends with a line feed.
use Rattle.std.proofs.Common.{◌≡◌, ◌≢◌, ℕ, zero, suc, ◌+◌, ◌<◌, ◌≤◌, ◌==◌, true, false, List, [], ◌∷◌, ◌++◌, length, Some, ◌⊎◌, inl, inr, refl, sym, ap, subst, ◌∙◌, arith, append_assoc}
use Rattle.std.specs.List.{All, slice_split, onto_first}
use Rattle.std.proofs.lemmas.Bool.{cases_Bool, ne_eqb, eqb-true}
use Rattle.std.proofs.lemmas.List.{append-nil}
use Rattle.std.proofs.lemmas.List.Elements.{All-nil, All-cons, All-head, All-tail}
use Rattle.std.proofs.lemmas.List.Splits.{length-slice_split, slice_split-cons_yes, slice_split-cons_no}
use Rattle.std.proofs.lemmas.List.Sums.{count_by-le-length}
use Rattle.csv.specs.Machine.{next_record}
use Rattle.csv.specs.Reading.{default_config, records_from, strip_bom}
use Rattle.csv.specs.declared.parser.State.TheVariants as st
use Rattle.rp_num.specs.Below.{listed}
use Rattle.rp_text.specs.Plain.{lines_of, fields_in}
use Rattle.rp_sheet.specs.Records.{records_in}
use Rattle.rp_forms.specs.Texts.{text_at}

-- no carriage return, no quote, and no first byte of a byte order mark
abbrev pub Ordinary : ℕ → Type 0
Ordinary byte = (byte ≢ 13) × (byte ≢ 34) × (byte < 239)

-- a byte inside a line
abbrev Inside : ℕ → Type 0
Inside byte = (byte == 10) ≡ false

-- the parts, where the first one begins with this text
grown : List ℕ → List (List ℕ) → List (List ℕ)
grown field [] = field ∷ []
grown field (part ∷ parts) = (field ++ part) ∷ parts

-- a byte joins the text, or the first part
grown-onto : (field : List ℕ) (byte : ℕ) (parts : List (List ℕ)) → grown (field ++ byte ∷ []) parts ≡ grown field (onto_first byte parts)
unfolding grown
grown-onto field byte [] = refl
grown-onto field byte (part ∷ parts) = rw (append_assoc field (byte ∷ []) part) refl

-- no text at all
grown-nil : (parts : List (List ℕ)) → 0 < length parts → grown [] parts ≡ parts
unfolding grown
grown-nil [] some = absurd (omega arith)
grown-nil (part ∷ parts) some = refl

-- a text has at least one part, and no more than one for each byte and one
some_parts : (bytes : List ℕ) (mark : ℕ) → 0 < length (slice_split (λ byte. byte == mark) bytes)
some_parts bytes mark = omega (arith, length-slice_split (λ byte. byte == mark) bytes)

few_parts : (bytes : List ℕ) (mark : ℕ) → length (slice_split (λ byte. byte == mark) bytes) ≤ length bytes + 1
few_parts bytes mark = omega (arith, length-slice_split (λ byte. byte == mark) bytes, count_by-le-length (λ byte. byte == mark) bytes)

-- the start of a field is read as the field is
start_same : (line rest : List ℕ) (fields : List (List ℕ)) → All Ordinary line
    → next_record default_config st.StartField fields [] (line ++ 10 ∷ rest) ≡ next_record default_config st.InField fields [] (line ++ 10 ∷ rest)
unfolding next_record
start_same [] rest fields ordinary = refl
start_same (byte ∷ line) rest fields ordinary = rw (ne_eqb byte 34 (All-head Ordinary byte line ordinary).1) refl

-- a field ends, and the others of the line come after it
one_more : (fields : List (List ℕ)) (field line : List ℕ) → (fields ++ field ∷ []) ++ grown [] (fields_in line) ≡ fields ++ grown field ([] ∷ fields_in line)
unfolding grown
one_more fields field line = rw (grown-nil (fields_in line) (some_parts line 44), append-nil field) (append_assoc fields (field ∷ []) (fields_in line))

-- the rest of a line, inside a field
in_line : (line rest : List ℕ) (fields : List (List ℕ)) (field : List ℕ) → All Ordinary line → All Inside line
    → next_record default_config st.InField fields field (line ++ 10 ∷ rest) ≡ Some (fields ++ grown field (fields_in line), st.StartRecord, rest)
unfolding next_record grown
in_line [] rest fields field ordinary inside = rw (append-nil field) refl
in_line (byte ∷ line) rest fields field ordinary inside =
    let others = All-tail Ordinary byte line ordinary in
    let within = All-tail Inside byte line inside in
    elim (cases_Bool (byte == 44)) [
      | inl comma ↦
          rw comma (start_same line rest (fields ++ field ∷ []) others ∙ in_line line rest (fields ++ field ∷ []) [] others within
          ∙ ap (λ (all : List (List ℕ)). Some (all, st.StartRecord, rest)) (one_more fields field line))
      | inr other ↦
          rw (other, ne_eqb byte 13 (All-head Ordinary byte line ordinary).0, All-head Inside byte line inside)
          (in_line line rest fields (field ++ byte ∷ []) others within
          ∙ ap (λ (all : List (List ℕ)). Some (fields ++ all, st.StartRecord, rest)) (grown-onto field byte (fields_in line)))
    ]

-- the start of a record is read as its first field is
begin_same : (line rest : List ℕ) → line ≢ [] → All Ordinary line → All Inside line
    → next_record default_config st.StartRecord [] [] (line ++ 10 ∷ rest) ≡ next_record default_config st.StartField [] [] (line ++ 10 ∷ rest)
unfolding next_record
begin_same [] rest some ordinary inside = absurd (some refl)
begin_same (byte ∷ line) rest some ordinary inside = rw (ne_eqb byte 13 (All-head Ordinary byte line ordinary).0, All-head Inside byte line inside) refl

-- a line that is not empty is a record of its parts
one_line : (line rest : List ℕ) → line ≢ [] → All Ordinary line → All Inside line
    → next_record default_config st.StartRecord [] [] (line ++ 10 ∷ rest) ≡ Some (fields_in line, st.StartRecord, rest)
one_line line rest some ordinary inside =
    begin_same line rest some ordinary inside ∙ start_same line rest [] ordinary ∙ in_line line rest [] [] ordinary inside
    ∙ ap (λ (all : List (List ℕ)). Some (all, st.StartRecord, rest)) (grown-nil (fields_in line) (some_parts line 44))

-- a first line, the line feed at its end, and what comes after it
record FirstLine (bytes : List ℕ) : Type 0 where
  first : List ℕ
  rest : List ℕ
  whole : bytes ≡ first ++ 10 ∷ rest
  inside : All Inside first
  parts : lines_of bytes ≡ first ∷ lines_of rest

-- a byte before the first line
longer_line : (byte : ℕ) (bytes : List ℕ) → Inside byte → FirstLine bytes → FirstLine (byte ∷ bytes)
longer_line byte bytes other cut =
    record {
      first = byte ∷ cut.first;
      rest = cut.rest;
      whole = ap (λ (l : List ℕ). byte ∷ l) cut.whole;
      inside = All-cons Inside byte cut.first other cut.inside;
      parts = slice_split-cons_no (λ b. b == 10) byte bytes other ∙ ap (onto_first byte) cut.parts;
    }

-- a line feed at the start of a text
empty_line : (byte : ℕ) (bytes : List ℕ) → (byte == 10) ≡ true → FirstLine (byte ∷ bytes)
empty_line byte bytes feed =
    record {
      first = [];
      rest = bytes;
      whole = ap (λ (b : ℕ). b ∷ bytes) (eqb-true byte 10 feed);
      inside = All-nil Inside;
      parts = slice_split-cons_yes (λ b. b == 10) byte bytes feed;
    }

-- a text is one part, or it has a first line
first_line : (bytes : List ℕ) → (lines_of bytes ≡ bytes ∷ []) ⊎ FirstLine bytes
first_line [] = inl refl
first_line (byte ∷ bytes) = elim (cases_Bool (byte == 10)) [
  | inl feed ↦ inr (empty_line byte bytes feed)
  | inr other ↦ elim (first_line bytes) [
    | inl whole ↦ inl (slice_split-cons_no (λ b. b == 10) byte bytes other ∙ ap (onto_first byte) whole)
    | inr cut ↦ inr (longer_line byte bytes other cut)
  ]
]

-- the front of a list, and what comes after a place
front_all : (P : ℕ → Type 0) (front : List ℕ) (byte : ℕ) (rest : List ℕ) → All P (front ++ byte ∷ rest) → All P front × All P rest
front_all P [] byte rest all = (All-nil P, All-tail P byte rest all)
front_all P (first ∷ front) byte rest all =
    let others = front_all P front byte rest (All-tail P first (front ++ byte ∷ rest) all) in
    (All-cons P first front (All-head P first (front ++ byte ∷ rest) all) others.0, others.1)

-- the first of a list, and then the others
listed_first : {A : Type 0} (n : ℕ) (f : ℕ → A) → listed (suc n) f ≡ f 0 ∷ listed n (λ k. f (suc k))
listed_first zero f = refl
listed_first (suc n) f = rw (listed_first n f) refl

-- an empty text has no record
nothing_left : (m : ℕ) → records_from default_config m st.StartRecord [] ≡ []
unfolding records_from next_record
nothing_left zero = refl
nothing_left (suc m) = refl

-- the first record, and then the others
next_line : (m : ℕ) (bytes line rest : List ℕ) → bytes ≡ line ++ 10 ∷ rest → line ≢ [] → All Ordinary line → All Inside line
    → records_from default_config (suc m) st.StartRecord bytes ≡ fields_in line ∷ records_from default_config m st.StartRecord rest
unfolding records_from
next_line m bytes line rest whole some ordinary inside = rw (whole, one_line line rest some ordinary inside) refl

-- parts of which the last is empty, and no other one is
abbrev AreEnded : List (List ℕ) → ℕ → Type 0
AreEnded parts n = (length parts ≡ n + 1) × (text_at parts n ≡ []) × ((k : ℕ) → k < n → text_at parts k ≢ [])

-- the lines of a text, with steps enough
lines_from : (n m : ℕ) (bytes : List ℕ) → n ≤ m → All Ordinary bytes → AreEnded (lines_of bytes) n
    → records_from default_config m st.StartRecord bytes ≡ listed n (λ k. fields_in (text_at (lines_of bytes) k))
lines_from zero m bytes enough ordinary ended = elim (first_line bytes) [
  | inl whole ↦
      let empty : bytes ≡ [] = ap (λ (parts : List (List ℕ)). text_at parts 0) (sym whole) ∙ ended.1 in
      rw empty (nothing_left m)
  | inr cut ↦
      let more : length (lines_of bytes) ≡ suc (length (lines_of cut.rest)) = ap (λ (parts : List (List ℕ)). length parts) cut.parts in
      absurd (omega (arith, more, ended.0, some_parts cut.rest 10))
]
lines_from (suc n) zero bytes enough ordinary ended = absurd (omega arith)
lines_from (suc n) (suc m) bytes enough ordinary ended = elim (first_line bytes) [
  | inl whole ↦
      let one : length (lines_of bytes) ≡ 1 = ap (λ (parts : List (List ℕ)). length parts) whole in
      absurd (omega (arith, one, ended.0))
  | inr cut ↦
      let parts : AreEnded (cut.first ∷ lines_of cut.rest) (suc n) = subst (λ (all : List (List ℕ)). AreEnded all (suc n)) cut.parts ended in
      let plain = front_all Ordinary cut.first 10 cut.rest (subst (λ (all : List ℕ). All Ordinary all) cut.whole ordinary) in
      let others : AreEnded (lines_of cut.rest) n = (omega (arith, parts.0), parts.1, λ k within. parts.2 (suc k) (omega arith)) in
      rw (next_line m bytes cut.first cut.rest cut.whole (parts.2 0 (omega arith)) plain.0 cut.inside, lines_from n m cut.rest (omega arith) plain.1 others, cut.parts)
      (sym (listed_first n (λ k. fields_in (text_at (cut.first ∷ lines_of cut.rest) k))))
]

-- no byte order mark comes first
no_mark : (bytes : List ℕ) → All Ordinary bytes → strip_bom bytes ≡ bytes
unfolding strip_bom
no_mark [] ordinary = refl
no_mark (a ∷ []) ordinary = refl
no_mark (a ∷ b ∷ []) ordinary = refl
no_mark (a ∷ b ∷ c ∷ rest) ordinary =
    let low = (All-head Ordinary a (b ∷ c ∷ rest) ordinary).2 in
    rw (ne_eqb a 239 (λ same. absurd (omega (arith, same, low)))) refl

-- each line that ends with a line feed is a record of its parts, where none is empty and nothing comes after the last one
pub plain_records : (bytes : List ℕ) (n : ℕ) → All Ordinary bytes → length (lines_of bytes) ≡ n + 1 → text_at (lines_of bytes) n ≡ []
    → ((k : ℕ) → k < n → text_at (lines_of bytes) k ≢ []) → records_in bytes ≡ listed n (λ k. fields_in (text_at (lines_of bytes) k))
unfolding records_in
plain_records bytes n ordinary counted last some =
    let enough : n ≤ length bytes + 1 = omega (arith, counted, few_parts bytes 10) in
    rw (no_mark bytes ordinary) (lines_from n (length bytes + 1) bytes enough ordinary (counted, last, some))

-- P holds of each byte of each part
abbrev AllIn : (ℕ → Type 0) → List (List ℕ) → Type 0
AllIn P parts = (k : ℕ) → k < length parts → All P (text_at parts k)

-- what holds of a byte before the first part
onto_all : (P : ℕ → Type 0) (byte : ℕ) (parts : List (List ℕ)) → AllIn P (onto_first byte parts) → P byte × AllIn P parts
onto_all P byte [] each = (All-head P byte [] (each 0 (omega arith)), λ k within. absurd (omega arith))
onto_all P byte (part ∷ parts) each = (All-head P byte part (each 0 (omega arith)), others)
  where
    others : AllIn P (part ∷ parts)
    others zero within = All-tail P byte part (each 0 (omega arith))
    others (suc k) within = each (suc k) within

-- what holds of a separator and of each byte of each part holds of each byte
pub all_of_parts : (P : ℕ → Type 0) (bytes : List ℕ) (mark : ℕ) → P mark
    → ((k : ℕ) → k < length (slice_split (λ b. b == mark) bytes) → All P (text_at (slice_split (λ b. b == mark) bytes) k)) → All P bytes
all_of_parts P [] mark marked each = All-nil P
all_of_parts P (byte ∷ bytes) mark marked each = elim (cases_Bool (byte == mark)) [
  | inl same ↦
      let parts : AllIn P ([] ∷ slice_split (λ b. b == mark) bytes) = subst (λ (all : List (List ℕ)). AllIn P all) (slice_split-cons_yes (λ b. b == mark) byte bytes same) each in
      All-cons P byte bytes (subst P (sym (eqb-true byte mark same)) marked) (all_of_parts P bytes mark marked (λ k within. parts (suc k) (omega arith)))
  | inr other ↦
      let parts = subst (λ (all : List (List ℕ)). AllIn P all) (slice_split-cons_no (λ b. b == mark) byte bytes other) each in
      let both = onto_all P byte (slice_split (λ b. b == mark) bytes) parts in
      All-cons P byte bytes both.0 (all_of_parts P bytes mark marked both.1)
]

-- a line with a part that is not empty is not empty
pub parts_some : (line : List ℕ) (k : ℕ) → text_at (fields_in line) k ≢ [] → line ≢ []
parts_some line k some empty = some (rw empty (no_part k))
  where
    no_part : (k : ℕ) → text_at (fields_in []) k ≡ []
    no_part zero = refl
    no_part (suc k) = refl
