-- Each record of a long file stands once among those of its households and those that are refused for their ids: one
-- record after the other joins one of them.
use Rattle.std.proofs.Common.{◌≡◌, ◌≢◌, ℕ, zero, suc, ◌+◌, ◌-◌, ◌<◌, ◌≤◌, ◌==◌, ◌||◌, Bool, true, false, if◌then◌else◌, List, [], ◌∷◌, ◌++◌, map, Option, Some, None, Ok, Err, refl, sym, ap, ◌∙◌, subst, arith}
use Rattle.std.specs.List.{flat_map, list_any}
use Rattle.std.specs.Option.{option_or}
use Rattle.std.specs.Str.{bytes_eq}
use Rattle.std.proofs.lemmas.Bool.Decides.{Decides-eqb}
use Rattle.std.proofs.lemmas.Cmp.{nat_list_eq_equiv}
use Rattle.std.proofs.lemmas.Grind.{flat_map-append}
use Rattle.std.proofs.lemmas.List.{append-nil, map_push}
use Rattle.std.proofs.lemmas.List.Folds.{flat_map-map}
use Rattle.rp_forms.specs.Texts.{number_of}
use Rattle.rp_sheet.specs.Fields.{rows_in}
use Rattle.rp_sheet.specs.Headers.{headers_in, headers_of}
use Rattle.rp_num.specs.Below.{first_of}
use Rattle.rp_long.specs.EachOnce.{EachStandsOnce, times_in, told_records}
use Rattle.rp_long.specs.Ids.{id_fault, ids_below, records_with, unnamed_below}
use Rattle.rp_long.specs.LongColumns.{uses_of}
use Rattle.rp_long.specs.LongFaults.{columns_fault, count_fault, fault_under, first_fault, goods_fault, ragged_fault}
use Rattle.rp_long.specs.Panels.{Household, Panel, denoted_panel, household_of, id_text, panel_with, unless_fault}
use Rattle.rp_long.specs.declared.fault.IdFault.{IdFault}
use Rattle.rp_long.specs.declared.fault.LongFault.{LongFault}
use Rattle.rp_long.specs.declared.fault.Unnamed.{Unnamed}
use Rattle.rp_long.proofs.GroupLemmas.{AreDistinct, ids_distinct, left_none, no_id, none_with, right_none, same_text}
use Rattle.rp_long.proofs.StageLemmas.{few_rows}

abbrev once_at : ℕ → ℕ → ℕ
once_at n t = if n == t then 1 else 0

times_append : (t : ℕ) (xs ys : List ℕ) → times_in t (xs ++ ys) ≡ times_in t xs + times_in t ys
times_append t [] ys = omega arith
times_append t (x ∷ xs) ys = let rest = times_append t xs ys in omega (arith, rest)

-- one number more
times_push : (t : ℕ) (xs : List ℕ) (n : ℕ) → times_in t (xs ++ n ∷ []) ≡ once_at n t + times_in t xs
times_push t xs n = let both = times_append t xs (n ∷ []) in omega (arith, both)

abbrev record_of : Unnamed → ℕ
record_of refused = refused.row - 1

module _ (text : ℕ → List ℕ) where
  -- the ids that the next record does not have keep their records
  others_keep : (n : ℕ) (ids : List (List ℕ)) → list_any (bytes_eq (text n)) ids ≡ false → flat_map (records_with text (suc n)) ids ≡ flat_map (records_with text n) ids
  others_keep n [] none = refl
  others_keep n (id ∷ ids) none =
      rw (left_none (bytes_eq (text n) id) (list_any (bytes_eq (text n)) ids) none, others_keep n ids (right_none (bytes_eq (text n) id) (list_any (bytes_eq (text n)) ids) none)) refl

  -- the one id that it has gets it
  one_gains : (n t : ℕ) (ids : List (List ℕ)) → AreDistinct ids → list_any (bytes_eq (text n)) ids ≡ true
      → times_in t (flat_map (records_with text (suc n)) ids) ≡ once_at n t + times_in t (flat_map (records_with text n) ids)
  one_gains n t [] distinct there = cc there
  one_gains n t (id ∷ ids) distinct there = by (one_gains n t ids distinct.1) (bytes_eq (text n) id) refl
    where
      later : (b : Bool) → b ≡ false → (b || list_any (bytes_eq (text n)) ids) ≡ true → list_any (bytes_eq (text n)) ids ≡ true
      later true e h = cc e
      later false e h = h

      gained : (old rest : List ℕ) → times_in t ((old ++ n ∷ []) ++ rest) ≡ once_at n t + times_in t (old ++ rest)
      gained old rest =
          let first = times_append t (old ++ n ∷ []) rest in
          let push = times_push t old n in
          let before = times_append t old rest in
          omega (arith, first, push, before)

      passed : (old more rest : List ℕ) → times_in t more ≡ once_at n t + times_in t rest → times_in t (old ++ more) ≡ once_at n t + times_in t (old ++ rest)
      passed old more rest is =
          let first = times_append t old more in
          let before = times_append t old rest in
          omega (arith, first, before, is)

      by : (list_any (bytes_eq (text n)) ids ≡ true → times_in t (flat_map (records_with text (suc n)) ids) ≡ once_at n t + times_in t (flat_map (records_with text n) ids))
          → (b : Bool) → bytes_eq (text n) id ≡ b
          → times_in t (flat_map (records_with text (suc n)) (id ∷ ids)) ≡ once_at n t + times_in t (flat_map (records_with text n) (id ∷ ids))
      by rest true e =
          let same = same_text (text n) id e in
          let none : list_any (bytes_eq (text n)) ids ≡ false = subst (λ (i : List ℕ). list_any (bytes_eq i) ids ≡ false) (sym same) distinct.0 in
          rw (e, others_keep n ids none) (gained (records_with text n id) (flat_map (records_with text n) ids))
      by rest false e =
          rw e (passed (records_with text n id) (flat_map (records_with text (suc n)) ids) (flat_map (records_with text n) ids) (rest (later (bytes_eq (text n) id) e there)))

  abbrev of_ids : ℕ → List ℕ
  of_ids n = flat_map (records_with text n) (ids_below text n)

  abbrev of_refused : ℕ → List ℕ
  of_refused n = map record_of (unnamed_below text n)

  -- a record with an id joins the records of the ids
  joins_ids : (n t : ℕ) → id_fault (text n) ≡ None → times_in t (of_ids (suc n)) ≡ once_at n t + times_in t (of_ids n)
  joins_ids n t fine = by (list_any (bytes_eq (text n)) (ids_below text n)) refl
    where
      new : list_any (bytes_eq (text n)) (ids_below text n) ≡ false
          → times_in t (flat_map (records_with text (suc n)) (ids_below text n ++ text n ∷ [])) ≡ once_at n t + times_in t (of_ids n)
      new none =
          let own : records_with text (suc n) (text n) ≡ n ∷ [] = rw (nat_list_eq_equiv.refl (text n), none_with text n (text n) fine none) refl in
          ap (times_in t) (flat_map-append (records_with text (suc n)) (ids_below text n) (text n ∷ [])
          ∙ ap (λ (rows : List ℕ). flat_map (records_with text (suc n)) (ids_below text n) ++ (rows ++ [])) own
          ∙ ap (λ (rows : List ℕ). rows ++ n ∷ []) (others_keep n (ids_below text n) none))
          ∙ times_push t (of_ids n) n

      by : (b : Bool) → list_any (bytes_eq (text n)) (ids_below text n) ≡ b → times_in t (of_ids (suc n)) ≡ once_at n t + times_in t (of_ids n)
      by true e = rw (fine, e) (one_gains n t (ids_below text n) (ids_distinct text n) e)
      by false e = rw (fine, e) (new e)

  same_refused : (n : ℕ) → id_fault (text n) ≡ None → of_refused (suc n) ≡ of_refused n
  same_refused n fine = rw (fine, append-nil {A = Unnamed}) refl

  -- one without an id joins those that are refused
  same_ids : (n : ℕ) (why : IdFault) → id_fault (text n) ≡ Some why → of_ids (suc n) ≡ of_ids n
  same_ids n why bad = rw bad (others_keep n (ids_below text n) (no_id text n (text n) why bad))

  number_back : (n : ℕ) (why : IdFault) → n < 4294967295 → record_of (record { row = number_of n; fault = why }) ≡ n
  number_back n why few = omega (arith, few)

  joins_refused : (n t : ℕ) (why : IdFault) → n < 4294967295 → id_fault (text n) ≡ Some why → times_in t (of_refused (suc n)) ≡ once_at n t + times_in t (of_refused n)
  joins_refused n t why few bad =
      rw (bad, map_push record_of (unnamed_below text n) (record { row = number_of n; fault = why }), number_back n why few) (times_push t (of_refused n) n)

  abbrev told : ℕ → List ℕ
  told n = of_ids n ++ of_refused n

  one_more : (n t : ℕ) → n < 4294967295 → times_in t (told (suc n)) ≡ once_at n t + times_in t (told n)
  one_more n t few = by (id_fault (text n)) refl
    where
      after : times_in t (told (suc n)) ≡ times_in t (of_ids (suc n)) + times_in t (of_refused (suc n))
      after = times_append t (of_ids (suc n)) (of_refused (suc n))

      before : times_in t (told n) ≡ times_in t (of_ids n) + times_in t (of_refused n)
      before = times_append t (of_ids n) (of_refused n)

      by : (o : Option IdFault) → id_fault (text n) ≡ o → times_in t (told (suc n)) ≡ once_at n t + times_in t (told n)
      by None fine =
          let ids = joins_ids n t fine in
          let refused = ap (times_in t) (same_refused n fine) in
          omega (arith, after, before, ids, refused)
      by (Some why) bad =
          let ids = ap (times_in t) (same_ids n why bad) in
          let refused = joins_refused n t why few bad in
          omega (arith, after, before, ids, refused)

  stands_once : (n t : ℕ) → n ≤ 4294967295 → (t < n → times_in t (told n) ≡ 1) × (n ≤ t → times_in t (told n) ≡ 0)
  stands_once zero t few = (λ less. absurd (omega (arith, less)), λ past. refl)
  stands_once (suc n) t few = by (n == t) refl (stands_once n t (omega (arith, few)))
    where
      more : times_in t (told (suc n)) ≡ once_at n t + times_in t (told n)
      more = one_more n t (omega (arith, few))

      by : (b : Bool) → (n == t) ≡ b → (t < n → times_in t (told n) ≡ 1) × (n ≤ t → times_in t (told n) ≡ 0)
          → (t < suc n → times_in t (told (suc n)) ≡ 1) × (suc n ≤ t → times_in t (told (suc n)) ≡ 0)
      by true e before =
          let same = (Decides-eqb n t).0 e in
          let gains : times_in t (told (suc n)) ≡ 1 + times_in t (told n) = rw e at more in
          (λ less. (let none = before.1 (omega (arith, same)) in omega (arith, gains, none)), λ past. absurd (omega (arith, past, same)))
      by false e before =
          let other : n ≢ t = λ same. cc (sym e ∙ (Decides-eqb n t).1 same) in
          let gains : times_in t (told (suc n)) ≡ 0 + times_in t (told n) = rw e at more in (
            λ less. (let one = before.0 (omega (arith, less, other)) in omega (arith, gains, one)),
            λ past. (let none = before.1 (omega (arith, past)) in omega (arith, gains, none)),
          )

-- ---- what records that denote a panel are

none_first : {A : Type 0} (o p : Option A) → option_or o p ≡ None → o ≡ None
none_first None p none = refl
none_first (Some x) p none = cc none

none_rest : {A : Type 0} (o p : Option A) → option_or o p ≡ None → p ≡ None
none_rest None p none = none
none_rest (Some x) p none = cc none

no_fault : (o : Option LongFault) (held panel : Panel) → unless_fault o held ≡ Ok panel → (o ≡ None) × (held ≡ panel)
no_fault None held panel is = (refl, cc is)
no_fault (Some f) held panel is = cc is

fine_count : (id : List ℕ) (kept : List (List ℕ)) (records : List (List (List ℕ))) → first_fault id kept records ≡ None → count_fault records ≡ None
unfolding first_fault fault_under
fine_count id kept [] none = cc none
fine_count id kept (header ∷ rows) none =
    let records = header ∷ rows in
    let headers = headers_in header in
    let lengths = option_or (first_of (rows_in records) (ragged_fault headers records)) None in
    let later = none_rest (goods_fault (uses_of id kept headers).table records) (option_or (count_fault records) lengths)
    (none_rest (columns_fault id kept headers) (option_or (goods_fault (uses_of id kept headers).table records) (option_or (count_fault records) lengths)) none) in
    none_first (count_fault records) lengths later

pub each_once : (id : List ℕ) (kept : List (List ℕ)) (records : List (List (List ℕ))) (panel : Panel) → denoted_panel id kept records ≡ Ok panel
    → EachStandsOnce (rows_in records) (told_records panel)
unfolding denoted_panel
each_once id kept records panel denoted =
    let uses = uses_of id kept (headers_of records) in
    let held = no_fault (first_fault id kept records) (panel_with uses records) panel denoted in
    let text = id_text uses.id records in
    let few = few_rows records (fine_count id kept records held.0) in
    let same : told text (rows_in records) ≡ told_records panel =
    ap (λ (rows : List ℕ). rows ++ of_refused text (rows_in records)) (sym (flat_map-map (λ (h : Household). h.records) (household_of uses records) (ids_below text (rows_in records))))
    ∙ ap told_records held.1 in
    record {
      once = λ t less. ap (times_in t) (sym same) ∙ (stands_once text (rows_in records) t (omega (arith, few))).0 less;
      no_other = λ t past. ap (times_in t) (sym same) ∙ (stands_once text (rows_in records) t (omega (arith, few))).1 past;
    }
