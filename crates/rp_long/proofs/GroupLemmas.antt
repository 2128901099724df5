-- The records of the ids, one record after the other.
use Rattle.std.proofs.Common.{◌≡◌, ℕ, zero, suc, ◌+◌, Bool, true, false, not, ◌&&◌, ◌||◌, if◌then◌else◌, List, [], ◌∷◌, ◌++◌, map, Option, Some, None, is_none, refl, sym, ap, ◌∙◌, subst, arith}
use Rattle.std.specs.Bool.{⊤}
use Rattle.std.specs.List.{list_any, position_or_len}
use Rattle.std.specs.Str.{bytes_eq}
use Rattle.std.proofs.lemmas.Cmp.{nat_list_eq_equiv}
use Rattle.std.proofs.lemmas.List.{append-nil, map_push}
use Rattle.std.proofs.lemmas.List.Folds.{list_any-append}
use Rattle.std.proofs.lemmas.Slice.Eq.{bytes_eq-Decides}
use Rattle.rp_long.specs.Ids.{grouped_below, id_fault, ids_below, joined_at, records_with, refusing, with_member}
use Rattle.rp_long.specs.declared.fault.IdFault.{IdFault}
use Rattle.rp_long.specs.declared.fault.Unnamed.{Unnamed}

pub left_none : (a b : Bool) → (a || b) ≡ false → a ≡ false
left_none true b e = e
left_none false b e = refl

pub right_none : (a b : Bool) → (a || b) ≡ false → b ≡ false
right_none true b e = cc e
right_none false b e = e

pub same_text : (a b : List ℕ) → bytes_eq a b ≡ true → a ≡ b
same_text a b e = (bytes_eq-Decides a b).0 e

more : (n : ℕ) → 1 + n ≡ suc n
more n = omega arith

-- each id stands once
abbrev pub AreDistinct : List (List ℕ) → Type 0
AreDistinct [] = ⊤
AreDistinct (id ∷ ids) = (list_any (bytes_eq id) ids ≡ false) × AreDistinct ids

distinct_push : (ids : List (List ℕ)) (id : List ℕ) → AreDistinct ids → list_any (bytes_eq id) ids ≡ false → AreDistinct (ids ++ id ∷ [])
distinct_push [] id distinct new = (refl, tt)
distinct_push (first ∷ ids) id distinct new =
    let other : bytes_eq first id ≡ false = nat_list_eq_equiv.symm first id ∙ left_none (bytes_eq id first) (list_any (bytes_eq id) ids) new in
    let none : list_any (bytes_eq first) (ids ++ id ∷ []) ≡ false = list_any-append (bytes_eq first) ids (id ∷ []) ∙ rw (distinct.0, other) refl in
    (none, distinct_push ids id distinct.1 (right_none (bytes_eq id first) (list_any (bytes_eq id) ids) new))

module _ (text : ℕ → List ℕ) where
  pub ids_distinct : (n : ℕ) → AreDistinct (ids_below text n)
  ids_distinct zero = tt
  ids_distinct (suc n) = by (is_none (id_fault (text n))) (list_any (bytes_eq (text n)) (ids_below text n)) refl (ids_distinct n)
    where
      by : (a b : Bool) → list_any (bytes_eq (text n)) (ids_below text n) ≡ b → AreDistinct (ids_below text n)
          → AreDistinct (if a && not b then ids_below text n ++ text n ∷ [] else ids_below text n)
      by true true e distinct = distinct
      by true false e distinct = distinct_push (ids_below text n) (text n) distinct e
      by false b e distinct = distinct

  -- the ids that the next record does not have keep their records
  others_stay : (n : ℕ) (ids : List (List ℕ)) → list_any (bytes_eq (text n)) ids ≡ false → map (records_with text (suc n)) ids ≡ map (records_with text n) ids
  others_stay n [] none = refl
  others_stay n (id ∷ ids) none =
      rw (left_none (bytes_eq (text n) id) (list_any (bytes_eq (text n)) ids) none, others_stay n ids (right_none (bytes_eq (text n) id) (list_any (bytes_eq (text n)) ids) none)) refl

  -- the id that it has gets it
  member_joins : (n : ℕ) (ids : List (List ℕ)) → AreDistinct ids → list_any (bytes_eq (text n)) ids ≡ true
      → joined_at (map (records_with text n) ids) (position_or_len (bytes_eq (text n)) ids) n ≡ map (records_with text (suc n)) ids
  member_joins n [] distinct there = cc there
  member_joins n (id ∷ ids) distinct there = by (member_joins n ids distinct.1) (bytes_eq (text n) id) refl
    where
      later : (b : Bool) → b ≡ false → (b || list_any (bytes_eq (text n)) ids) ≡ true → list_any (bytes_eq (text n)) ids ≡ true
      later true e h = cc e
      later false e h = h

      by : (list_any (bytes_eq (text n)) ids ≡ true → joined_at (map (records_with text n) ids) (position_or_len (bytes_eq (text n)) ids) n ≡ map (records_with text (suc n)) ids)
          → (b : Bool) → bytes_eq (text n) id ≡ b → joined_at (map (records_with text n) (id ∷ ids)) (position_or_len (bytes_eq (text n)) (id ∷ ids)) n ≡ map (records_with text (suc n)) (id ∷ ids)
      by rest true e =
          let same = same_text (text n) id e in
          let none : list_any (bytes_eq (text n)) ids ≡ false = subst (λ (i : List ℕ). list_any (bytes_eq i) ids ≡ false) (sym same) distinct.0 in
          rw (e, others_stay n ids none) refl
      by rest false e =
          rw (e, more (position_or_len (bytes_eq (text n)) ids)) (ap (λ (members : List (List ℕ)). records_with text n id ∷ members) (rest (later (bytes_eq (text n) id) e there)))

  -- what is among the ids so far, or is none of them after one more
  not_yet : (n : ℕ) (id : List ℕ) → list_any (bytes_eq id) (ids_below text (suc n)) ≡ false → list_any (bytes_eq id) (ids_below text n) ≡ false
  not_yet n id none = by (is_none (id_fault (text n))) (list_any (bytes_eq (text n)) (ids_below text n)) none
    where
      by : (a b : Bool) → list_any (bytes_eq id) (if a && not b then ids_below text n ++ text n ∷ [] else ids_below text n) ≡ false → list_any (bytes_eq id) (ids_below text n) ≡ false
      by true true h = h
      by true false h = left_none (list_any (bytes_eq id) (ids_below text n)) (list_any (bytes_eq id) (text n ∷ [])) (sym (list_any-append (bytes_eq id) (ids_below text n) (text n ∷ [])) ∙ h)
      by false b h = h

  -- the text of a record is among the ids after it, where it is an id
  is_there : (n : ℕ) → id_fault (text n) ≡ None → list_any (bytes_eq (text n)) (ids_below text (suc n)) ≡ true
  is_there n fine = by (list_any (bytes_eq (text n)) (ids_below text n)) refl
    where
      by : (b : Bool) → list_any (bytes_eq (text n)) (ids_below text n) ≡ b → list_any (bytes_eq (text n)) (ids_below text (suc n)) ≡ true
      by true e = rw (fine, e) e
      by false e = rw (fine, e) (list_any-append (bytes_eq (text n)) (ids_below text n) (text n ∷ []) ∙ rw (e, nat_list_eq_equiv.refl (text n)) refl)

  -- an id that no record had has no records
  pub none_with : (n : ℕ) (id : List ℕ) → id_fault id ≡ None → list_any (bytes_eq id) (ids_below text n) ≡ false → records_with text n id ≡ []
  none_with zero id fine none = refl
  none_with (suc n) id fine none = by (none_with n id fine (not_yet n id none)) (bytes_eq (text n) id) refl
    where
      by : records_with text n id ≡ [] → (b : Bool) → bytes_eq (text n) id ≡ b → records_with text (suc n) id ≡ []
      by before true e =
          let same = same_text (text n) id e in
          let there = is_there n (subst (λ (i : List ℕ). id_fault i ≡ None) (sym same) fine) in
          let missing : list_any (bytes_eq (text n)) (ids_below text (suc n)) ≡ false = subst (λ (i : List ℕ). list_any (bytes_eq i) (ids_below text (suc n)) ≡ false) (sym same) none in
          cc (sym there ∙ missing)
      by before false e = rw e before

  -- what is no id is none of the ids
  pub no_id : (n : ℕ) (id : List ℕ) (why : IdFault) → id_fault id ≡ Some why → list_any (bytes_eq id) (ids_below text n) ≡ false
  no_id zero id why bad = refl
  no_id (suc n) id why bad = by (id_fault (text n)) refl (list_any (bytes_eq (text n)) (ids_below text n)) (no_id n id why bad)
    where
      other : id_fault (text n) ≡ None → bytes_eq id (text n) ≡ false
      other fine = which (bytes_eq id (text n)) refl
        where
          which : (b : Bool) → bytes_eq id (text n) ≡ b → b ≡ false
          which true e = cc (sym bad ∙ ap id_fault (same_text id (text n) e) ∙ fine)
          which false e = refl

      by : (o : Option IdFault) → id_fault (text n) ≡ o → (b : Bool) → list_any (bytes_eq id) (ids_below text n) ≡ false
          → list_any (bytes_eq id) (if is_none o && not b then ids_below text n ++ text n ∷ [] else ids_below text n) ≡ false
      by None e true none = none
      by None e false none = list_any-append (bytes_eq id) (ids_below text n) (text n ∷ []) ∙ rw (none, other e) refl
      by (Some reason) e b none = none

  -- one more record with an id
  pub put_next : (n : ℕ) → id_fault (text n) ≡ None → with_member (grouped_below text n) (text n) n ≡ grouped_below text (suc n)
  unfolding with_member
  put_next n fine = by (list_any (bytes_eq (text n)) (ids_below text n)) refl
    where
      by : (b : Bool) → list_any (bytes_eq (text n)) (ids_below text n) ≡ b → with_member (grouped_below text n) (text n) n ≡ grouped_below text (suc n)
      by true e = rw (e, fine, append-nil {A = Unnamed}, member_joins n (ids_below text n) (ids_distinct n) e) refl
      by false e =
          let first : records_with text (suc n) (text n) ≡ n ∷ [] = rw (nat_list_eq_equiv.refl (text n), none_with n (text n) fine e) refl in
          rw (e, fine, append-nil {A = Unnamed}, map_push (records_with text (suc n)) (ids_below text n) (text n), others_stay n (ids_below text n) e, first) refl

  -- one more record that is refused
  pub refuse_next : (n : ℕ) (why : IdFault) → id_fault (text n) ≡ Some why → refusing (grouped_below text n) n why ≡ grouped_below text (suc n)
  refuse_next n why bad = rw (bad, others_stay n (ids_below text n) (no_id n (text n) why bad)) refl
