-- The records that a reader gave in turn are those of the text.
use Rattle.std.proofs.Common.{◌≡◌, ℕ, zero, suc, ◌+◌, ◌-◌, ◌<◌, ◌≤◌, Bool, true, false, if◌then◌else◌, List, [], ◌∷◌, ◌++◌, length, take, Option, Some, None, refl, sym, ap, arith, ◌∙◌}
use Rattle.std.proofs.lemmas.List.{append-nil, take_at, take_all}
use Rattle.csv.specs.Machine.{Read, next_record, step, is_end, ends_at_end, fields_after, field_after}
use Rattle.csv.specs.Reading.{Reached, records_from, default_config, records}
use Rattle.csv.specs.declared.parser.Config.{Config}
use Rattle.csv.specs.declared.parser.State.{State}
use Rattle.csv.specs.declared.parser.State.TheVariants as st

rest_len : Option Read → ℕ
rest_len None = 0
rest_len (Some p) = length p.2

-- a record takes at least one byte
takes_some : (cfg : Config) (s : State) (fields : List (List ℕ)) (field text : List ℕ) → rest_len (next_record cfg s fields field text) ≤ length text - 1
unfolding next_record rest_len
takes_some cfg s fields field [] = by (ends_at_end s)
  where
    by : (b : Bool) → rest_len (if b then Some (fields ++ (field ∷ []), st.StartRecord, []) else None) ≤ 0
    by true = omega arith
    by false = omega arith
takes_some cfg s fields field (c ∷ rest) = by (is_end (step cfg s c).1) (takes_some cfg (step cfg s c).0 (fields_after (step cfg s c).1 fields field) (field_after (step cfg s c).1 c field) rest)
  where
    by : (b : Bool) → rest_len (next_record cfg (step cfg s c).0 (fields_after (step cfg s c).1 fields field) (field_after (step cfg s c).1 c field) rest) ≤ length rest - 1
        → rest_len (if b then Some (fields_after (step cfg s c).1 fields field, (step cfg s c).0, rest) else next_record cfg (step cfg s c).0 (fields_after (step cfg s c).1 fields field) (field_after (step cfg s c).1 c field) rest) ≤ suc (length rest) - 1
    by true h = omega arith
    by false h = omega (arith, h)

left_by : Option Read → State × List ℕ
left_by None = (st.StartRecord, [])
left_by (Some p) = (p.1, p.2)

-- what stands after a record that the end of the text ends
left_at_end : (cfg : Config) (s : State) → left_by (next_record cfg s [] [] []) ≡ (st.StartRecord, [])
unfolding next_record left_by
left_at_end cfg s = by (ends_at_end s)
  where
    by : (b : Bool) → left_by (if b then Some ([] ++ ([] ∷ []), st.StartRecord, []) else None) ≡ (st.StartRecord, [])
    by true = refl
    by false = refl

nothing_left : (cfg : Config) (n : ℕ) → records_from cfg n st.StartRecord [] ≡ []
unfolding records_from next_record
nothing_left cfg zero = refl
nothing_left cfg (suc n) = refl

none_reached : (cfg : Config) (s2 : State) (ys : List ℕ) (rows : List (List (List ℕ))) → Reached cfg st.StartRecord [] rows s2 ys → rows ≡ []
unfolding Reached next_record
none_reached cfg s2 ys [] h = refl
none_reached cfg s2 ys (r ∷ rs) h = cc h.1

-- the records that were reached, and then those after them
records_split : (cfg : Config) (s s2 : State) (text ys : List ℕ) (rows : List (List (List ℕ))) (n : ℕ) → Reached cfg s text rows s2 ys → length text < n
    → (m : ℕ) × (records_from cfg n s text ≡ rows ++ records_from cfg m s2 ys)
unfolding Reached records_from rest_len left_by
records_split cfg s s2 text ys [] n h more = (n, rw (h.0, h.1) refl)
records_split cfg s s2 text ys (r ∷ rs) zero h more = absurd (omega arith)
records_split cfg s s2 [] ys (r ∷ rs) (suc n) h more =
    let left = sym (ap left_by h.1) ∙ left_at_end cfg s in
    let state : h.0.1 ≡ st.StartRecord = ap (λ (p : State × List ℕ). p.0) left in
    let rest : h.0.2 ≡ [] = ap (λ (p : State × List ℕ). p.1) left in
    let last : rs ≡ [] = none_reached cfg s2 ys rs (rw (state, rest) at h.3) in
    (0, rw (h.1, last, state, rest, h.2, nothing_left cfg n) refl)
records_split cfg s s2 (c ∷ text) ys (r ∷ rs) (suc n) h more =
    let fewer = rw h.1 at (takes_some cfg s [] [] (c ∷ text)) in
    let within : length h.0.2 < n = omega (arith, fewer) in
    let others = records_split cfg h.0.1 s2 h.0.2 ys rs n h.3 within in
    (others.0, rw (h.1, h.2, others.1) refl)

none_after : (cfg : Config) (s : State) (text : List ℕ) (m : ℕ) → next_record cfg s [] [] text ≡ None → records_from cfg m s text ≡ []
unfolding records_from
none_after cfg s text zero none = refl
none_after cfg s text (suc m) none = rw none refl

-- as many records as were asked for
pub read_some : (s2 : State) (text ys : List ℕ) (rows : List (List (List ℕ))) (most : ℕ) → Reached default_config st.StartRecord text rows s2 ys → length rows ≡ most → rows ≡ take most (records default_config text)
read_some s2 text ys rows most reached counted =
    let split = records_split default_config st.StartRecord s2 text ys rows (length text + 1) reached (omega arith) in
    sym (ap (take most) split.1 ∙ take_at rows (records_from default_config split.0 s2 ys) most counted)

-- all the records that there are
pub read_all : (s2 : State) (text ys : List ℕ) (rows : List (List (List ℕ))) (most : ℕ) → Reached default_config st.StartRecord text rows s2 ys → next_record default_config s2 [] [] ys ≡ None → length rows ≤ most → rows ≡ take most (records default_config text)
read_all s2 text ys rows most reached ended few =
    let split = records_split default_config st.StartRecord s2 text ys rows (length text + 1) reached (omega arith) in
    let all = split.1 ∙ ap (λ more. rows ++ more) (none_after default_config s2 ys split.0 ended) ∙ append-nil rows in
    sym (ap (take most) all ∙ take_all most rows few)
