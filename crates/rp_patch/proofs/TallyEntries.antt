-- What a tally holds: an entry for the signs of each choice that counts, by the first that has them, with the times of all that
-- have them.
use Rattle.std.proofs.Common.{◌≡◌, ◌≢◌, ℕ, zero, suc, ◌+◌, ◌<◌, ◌≤◌, ◌&&◌, ◌⊎◌, inl, inr, Bool, true, false, ℤ, List, [], ◌∷◌, get_or, length, refl, sym, ap, subst, ◌∙◌, arith, if◌then◌else◌}
use Rattle.std.specs.Cmp.Lexicographic.{pointwise}
use Rattle.std.specs.Cmp.Rules.{signed_items}
use Rattle.std.specs.Ordering.{int_eq}
use Rattle.std.proofs.lemmas.Bool.{cases_eq, cases_lt, false≢true}
use Rattle.rp_table.specs.Sums.{sum_below}
use Rattle.rp_table.proofs.SumsBelow.{sum_none}
use Rattle.rp_patch.specs.Units.{counted, tally_by}

abbrev pub signs_at : List (List ℤ × ℕ) → ℕ → List ℤ
signs_at entries k = (get_or entries k ([], 0)).0

abbrev pub times_at : List (List ℤ × ℕ) → ℕ → ℕ
times_at entries k = (get_or entries k ([], 0)).1

-- ---- one more choice

-- it joins entry k, which has its signs
pub record Joins (old new : List (List ℤ × ℕ)) (signs : List ℤ) (times k : ℕ) : Type 0 where
  pub within : k < length old
  pub alike : signs_at old k ≡ signs
  pub count : length new ≡ length old
  pub kept : (h : ℕ) → signs_at new h ≡ signs_at old h
  pub more : times_at new k ≡ times_at old k + times
  pub others : (h : ℕ) → h ≢ k → times_at new h ≡ times_at old h

-- or no entry has its signs, and it is a new last one
pub record Begins (old new : List (List ℤ × ℕ)) (signs : List ℤ) (times : ℕ) : Type 0 where
  pub unlike : (h : ℕ) → h < length old → signs_at old h ≢ signs
  pub count : length new ≡ length old + 1
  pub kept : (h : ℕ) → h < length old → signs_at new h ≡ signs_at old h
  pub times_kept : (h : ℕ) → h < length old → times_at new h ≡ times_at old h
  pub its_signs : signs_at new (length old) ≡ signs
  pub its_times : times_at new (length old) ≡ times

abbrev Counts : List (List ℤ × ℕ) → List (List ℤ × ℕ) → List ℤ → ℕ → Type 0
Counts old new signs times = ((k : ℕ) × Joins old new signs times k) ⊎ Begins old new signs times

one_counted : (entries : List (List ℤ × ℕ)) (signs : List ℤ) (times : ℕ) → Counts entries (counted entries signs times) signs times
one_counted [] signs times = inr (record {
  unlike = λ h l. absurd (omega (arith, l));
  count = omega arith;
  kept = λ h l. absurd (omega (arith, l));
  times_kept = λ h l. absurd (omega (arith, l));
  its_signs = refl;
  its_times = refl;
})
one_counted (e ∷ es) signs times = by (pointwise int_eq signs e.0) refl (one_counted es signs times)
  where
    first_kept : (h : ℕ) → signs_at ((e.0, e.1 + times) ∷ es) h ≡ signs_at (e ∷ es) h
    first_kept zero = refl
    first_kept (suc h) = refl

    first_others : (h : ℕ) → h ≢ 0 → times_at ((e.0, e.1 + times) ∷ es) h ≡ times_at (e ∷ es) h
    first_others zero ne = absurd (ne refl)
    first_others (suc h) ne = refl

    later_kept : (new : List (List ℤ × ℕ)) → ((h : ℕ) → signs_at new h ≡ signs_at es h) → (h : ℕ) → signs_at (e ∷ new) h ≡ signs_at (e ∷ es) h
    later_kept new kept zero = refl
    later_kept new kept (suc h) = kept h

    later_others : (new : List (List ℤ × ℕ)) (k : ℕ) → ((h : ℕ) → h ≢ k → times_at new h ≡ times_at es h)
        → (h : ℕ) → h ≢ suc k → times_at (e ∷ new) h ≡ times_at (e ∷ es) h
    later_others new k others zero ne = refl
    later_others new k others (suc h) ne = others h (λ same. ne (ap suc same))

    unlike_all : pointwise int_eq signs e.0 ≡ false → ((h : ℕ) → h < length es → signs_at es h ≢ signs) → (h : ℕ) → h < length (e ∷ es) → signs_at (e ∷ es) h ≢ signs
    unlike_all not_first unlike zero l same = false≢true (sym not_first ∙ (signed_items signs e.0).1 (sym same))
    unlike_all not_first unlike (suc h) l same = unlike h (omega (arith, l)) same

    signs_below : (new : List (List ℤ × ℕ)) → ((h : ℕ) → h < length es → signs_at new h ≡ signs_at es h) → (h : ℕ) → h < length (e ∷ es) → signs_at (e ∷ new) h ≡ signs_at (e ∷ es) h
    signs_below new kept zero l = refl
    signs_below new kept (suc h) l = kept h (omega (arith, l))

    times_below : (new : List (List ℤ × ℕ)) → ((h : ℕ) → h < length es → times_at new h ≡ times_at es h) → (h : ℕ) → h < length (e ∷ es) → times_at (e ∷ new) h ≡ times_at (e ∷ es) h
    times_below new kept zero l = refl
    times_below new kept (suc h) l = kept h (omega (arith, l))

    by : (b : Bool) → pointwise int_eq signs e.0 ≡ b → Counts es (counted es signs times) signs times
        → Counts (e ∷ es) (if b then (e.0, e.1 + times) ∷ es else e ∷ counted es signs times) signs times
    by true is rest = inl (
      0,
      record {
        within = omega arith;
        alike = sym ((signed_items signs e.0).0 is);
        count = refl;
        kept = first_kept;
        more = refl;
        others = first_others;
      },
    )
    by false is (inl (k, rest)) = inl (
      suc k,
      record {
        within = omega (arith, rest.within);
        alike = rest.alike;
        count = ap suc rest.count;
        kept = later_kept (counted es signs times) rest.kept;
        more = rest.more;
        others = later_others (counted es signs times) k rest.others;
      },
    )
    by false is (inr rest) = inr (record {
      unlike = unlike_all is rest.unlike;
      count = omega (arith, rest.count);
      kept = signs_below (counted es signs times) rest.kept;
      times_kept = times_below (counted es signs times) rest.times_kept;
      its_signs = rest.its_signs;
      its_times = rest.its_times;
    })

-- ---- all choices below n

-- c is the first of those below n that count and have these signs
pub record IsFirstOf (signs : ℕ → List ℤ) (counts : ℕ → Bool) (n : ℕ) (s : List ℤ) (c : ℕ) : Type 0 where
  pub within : c < n
  pub counting : counts c ≡ true
  pub alike : signs c ≡ s
  pub first : (d : ℕ) → d < n → counts d ≡ true → signs d ≡ s → c ≤ d

-- how many times those below n were made that count and have these signs
abbrev pub sum_alike : (ℕ → List ℤ) → (ℕ → Bool) → (ℕ → ℕ) → ℕ → List ℤ → ℕ
sum_alike signs counts times n s = sum_below n (λ c. if counts c && pointwise int_eq (signs c) s then times c else 0)

pub record IsTally (signs : ℕ → List ℤ) (counts : ℕ → Bool) (times : ℕ → ℕ) (n : ℕ) (entries : List (List ℤ × ℕ)) : Type 0 where
  pub each : (k : ℕ) → k < length entries → (c : ℕ) × IsFirstOf signs counts n (signs_at entries k) c
  pub all : (c : ℕ) → c < n → counts c ≡ true → (k : ℕ) × (k < length entries) × (signs_at entries k ≡ signs c)
  pub in_order : (h k c d : ℕ) → h < k → k < length entries
      → IsFirstOf signs counts n (signs_at entries h) c → IsFirstOf signs counts n (signs_at entries k) d → c < d
  pub together : (k : ℕ) → k < length entries → times_at entries k ≡ sum_alike signs counts times n (signs_at entries k)

module _ (signs : ℕ → List ℤ) (counts : ℕ → Bool) (times : ℕ → ℕ) where
  abbrev term : List ℤ → ℕ → ℕ
  term s c = if counts c && pointwise int_eq (signs c) s then times c else 0

  term_of : (s : List ℤ) (c : ℕ) → counts c ≡ true → signs c ≡ s → term s c ≡ times c
  term_of s c counting alike = ap (λ b. if b && pointwise int_eq (signs c) s then times c else 0) counting
      ∙ ap (λ b. if b then times c else 0) ((signed_items (signs c) s).1 alike)

  no_term : (s : List ℤ) (c : ℕ) → (counts c ≡ true → signs c ≡ s → ⊥) → term s c ≡ 0
  no_term s c not = by (counts c) (pointwise int_eq (signs c) s) refl refl
    where
      by : (a b : Bool) → counts c ≡ a → pointwise int_eq (signs c) s ≡ b → (if a && b then times c else 0) ≡ 0
      by true true counting alike = absurd (not counting ((signed_items (signs c) s).0 alike))
      by true false counting alike = refl
      by false b counting alike = refl

  below_or_last : (d n : ℕ) → d < suc n → (d < n) ⊎ (d ≡ n)
  below_or_last d n l = elim (cases_eq d n) [ inl e ↦ inr e | inr ne ↦ inl (omega (arith, l, ne)) ]

  -- the first of those below n is the first below n + 1
  still_first : (n : ℕ) (s : List ℤ) (c : ℕ) → IsFirstOf signs counts n s c → IsFirstOf signs counts (suc n) s c
  still_first n s c f = record {
    within = omega (arith, f.within);
    counting = f.counting;
    alike = f.alike;
    first = λ d l counting alike. elim (below_or_last d n l) [
      | inl below ↦ f.first d below counting alike
      | inr is ↦ omega (arith, f.within, is)
    ];
  }

  -- and the other way round, where there is one below n
  was_first : (n : ℕ) (s : List ℤ) (b c : ℕ) → IsFirstOf signs counts n s b → IsFirstOf signs counts (suc n) s c → IsFirstOf signs counts n s c
  was_first n s b c g f = record {
    within = let least = f.first b (omega (arith, g.within)) g.counting g.alike in omega (arith, least, g.within);
    counting = f.counting;
    alike = f.alike;
    first = λ d l counting alike. f.first d (omega (arith, l)) counting alike;
  }

  -- no two entries have the same signs
  apart : (n : ℕ) (entries : List (List ℤ × ℕ)) → IsTally signs counts times n entries → (h k : ℕ) → h < length entries → k < length entries → h ≢ k → signs_at entries h ≢ signs_at entries k
  apart n entries t h k lh lk ne same = by (cases_lt h k)
    where
      by : (h < k) ⊎ (k ≤ h) → ⊥
      by (inl l) =
          let found = t.each h lh in
          let less : found.0 < found.0 = t.in_order h k found.0 found.0 l lk found.1 (subst (λ s. IsFirstOf signs counts n s found.0) same found.1) in
          omega (arith, less)
      by (inr l) =
          let found = t.each k lk in
          let less : found.0 < found.0 = t.in_order k h found.0 found.0 (omega (arith, l, ne)) lh found.1 (subst (λ s. IsFirstOf signs counts n s found.0) (sym same) found.1) in
          omega (arith, less)

  -- ---- one that does not count

  not_counted : (n : ℕ) (entries : List (List ℤ × ℕ)) → counts n ≡ false → IsTally signs counts times n entries → IsTally signs counts times (suc n) entries
  not_counted n entries not t = record {
    each = λ k l. let found = t.each k l in (found.0, still_first n (signs_at entries k) found.0 found.1);
    all = λ c l counting. elim (below_or_last c n l) [
      | inl below ↦ t.all c below counting
      | inr is ↦ absurd (false≢true (sym not ∙ ap counts (sym is) ∙ counting))
    ];
    in_order = λ h k c d l lk f g.
        let a = t.each h (omega (arith, l, lk)) in
        let b = t.each k lk in
        t.in_order h k c d l lk (was_first n (signs_at entries h) a.0 c a.1 f) (was_first n (signs_at entries k) b.0 d b.1 g);
    together = λ k l.
        let none = no_term (signs_at entries k) n (λ counting alike. false≢true (sym not ∙ counting)) in
        omega (arith, t.together k l, none);
  }

  -- ---- one that joins

  joined : (n : ℕ) (old new : List (List ℤ × ℕ)) (k : ℕ) → counts n ≡ true → IsTally signs counts times n old → Joins old new (signs n) (times n) k
      → IsTally signs counts times (suc n) new
  joined n old new k counting t j = record {
    each = λ h l.
        let found = t.each h (omega (arith, l, j.count)) in
        (found.0, subst (λ s. IsFirstOf signs counts (suc n) s found.0) (sym (j.kept h)) (still_first n (signs_at old h) found.0 found.1));
    all = λ c l counts_too. elim (below_or_last c n l) [
      | inl below ↦
          let found = t.all c below counts_too in
          (found.0, omega (arith, found.1, j.count), j.kept found.0 ∙ found.2)
      | inr is ↦ (k, omega (arith, j.within, j.count), j.kept k ∙ j.alike ∙ ap signs (sym is))
    ];
    in_order = λ h i c d l li f g.
        let a = t.each h (omega (arith, l, li, j.count)) in
        let b = t.each i (omega (arith, li, j.count)) in
        t.in_order h i c d l (omega (arith, li, j.count))
        (was_first n (signs_at old h) a.0 c a.1 (subst (λ s. IsFirstOf signs counts (suc n) s c) (j.kept h) f))
        (was_first n (signs_at old i) b.0 d b.1 (subst (λ s. IsFirstOf signs counts (suc n) s d) (j.kept i) g));
    together = λ h l. subst (λ s. times_at new h ≡ sum_alike signs counts times (suc n) s) (sym (j.kept h)) (sum h (omega (arith, l, j.count)));
  }
    where
      sum : (h : ℕ) → h < length old → times_at new h ≡ sum_alike signs counts times (suc n) (signs_at old h)
      sum h l = elim (cases_eq h k) [
        | inl is ↦
            let here = term_of (signs_at old h) n counting (sym j.alike ∙ ap (signs_at old) (sym is)) in
            ap (times_at new) is ∙ j.more ∙ ap (λ i. times_at old i + times n) (sym is) ∙ omega (arith, t.together h l, here)
        | inr ne ↦
            let here = no_term (signs_at old h) n (λ counted_too alike. apart n old t h k l j.within ne (sym alike ∙ sym j.alike)) in
            omega (arith, j.others h ne, t.together h l, here)
      ]

  -- ---- one that is the first of a new entry

  begun : (n : ℕ) (old new : List (List ℤ × ℕ)) → counts n ≡ true → IsTally signs counts times n old → Begins old new (signs n) (times n)
      → IsTally signs counts times (suc n) new
  begun n old new counting t b = record {
    each = λ h l. elim (at_place h l) [
      | inl below ↦
          let found = t.each h below in
          (found.0, subst (λ s. IsFirstOf signs counts (suc n) s found.0) (sym (b.kept h below)) (still_first n (signs_at old h) found.0 found.1))
      | inr is ↦ (n, subst (λ s. IsFirstOf signs counts (suc n) s n) (sym (last_signs h is)) itself)
    ];
    all = λ c l counts_too. elim (below_or_last c n l) [
      | inl below ↦
          let found = t.all c below counts_too in
          (found.0, omega (arith, found.1, b.count), b.kept found.0 found.1 ∙ found.2)
      | inr is ↦ (length old, omega (arith, b.count), b.its_signs ∙ ap signs (sym is))
    ];
    in_order = λ h i c d l li f g. elim (at_place i li) [
      | inl below ↦
          let lh : h < length old = omega (arith, l, below) in
          let x = t.each h lh in
          let y = t.each i below in
          t.in_order h i c d l below
          (was_first n (signs_at old h) x.0 c x.1 (subst (λ s. IsFirstOf signs counts (suc n) s c) (b.kept h lh) f))
          (was_first n (signs_at old i) y.0 d y.1 (subst (λ s. IsFirstOf signs counts (suc n) s d) (b.kept i below) g))
      | inr is ↦
          let lh : h < length old = omega (arith, l, is) in
          let x = t.each h lh in
          let before = was_first n (signs_at old h) x.0 c x.1 (subst (λ s. IsFirstOf signs counts (suc n) s c) (b.kept h lh) f) in
          let not_before = none_before d g.counting (g.alike ∙ last_signs i is) in
          omega (arith, before.within, not_before)
    ];
    together = λ h l. elim (at_place h l) [
      | inl below ↦ subst (λ s. times_at new h ≡ sum_alike signs counts times (suc n) s) (sym (b.kept h below)) (old_sum h below)
      | inr is ↦ subst (λ s. times_at new h ≡ sum_alike signs counts times (suc n) s) (sym (last_signs h is)) (new_sum h is)
    ];
  }
    where
      at_place : (h : ℕ) → h < length new → (h < length old) ⊎ (h ≡ length old)
      at_place h l = below_or_last h (length old) (omega (arith, l, b.count))

      last_signs : (h : ℕ) → h ≡ length old → signs_at new h ≡ signs n
      last_signs h is = ap (signs_at new) is ∙ b.its_signs

      -- none before has these signs
      none_alike : (c : ℕ) → c < n → counts c ≡ true → signs c ≡ signs n → ⊥
      none_alike c l counted_too alike = let found = t.all c l counted_too in b.unlike found.0 found.1 (found.2 ∙ alike)

      none_before : (d : ℕ) → counts d ≡ true → signs d ≡ signs n → n ≤ d
      none_before d counted_too alike = by (cases_lt d n)
        where
          by : (d < n) ⊎ (n ≤ d) → n ≤ d
          by (inl l) = absurd (none_alike d l counted_too alike)
          by (inr l) = l

      itself : IsFirstOf signs counts (suc n) (signs n) n
      itself = record {
        within = omega arith;
        counting = counting;
        alike = refl;
        first = λ d l counted_too alike. none_before d counted_too alike;
      }

      old_sum : (h : ℕ) → h < length old → times_at new h ≡ sum_alike signs counts times (suc n) (signs_at old h)
      old_sum h l =
          let here = no_term (signs_at old h) n (λ counted_too alike. b.unlike h l (sym alike)) in
          omega (arith, b.times_kept h l, t.together h l, here)

      new_sum : (h : ℕ) → h ≡ length old → times_at new h ≡ sum_alike signs counts times (suc n) (signs n)
      new_sum h is =
          let here = term_of (signs n) n counting refl in
          let none = sum_none (term (signs n)) n (λ c l. no_term (signs n) c (none_alike c l)) in
          let its : times_at new h ≡ times n = ap (times_at new) is ∙ b.its_times in
          omega (arith, its, here, none)

  -- ---- all of them

  pub tallies : (n : ℕ) → IsTally signs counts times n (tally_by signs counts times n)
  tallies zero = record {
    each = λ k l. absurd (omega (arith, l));
    all = λ c l counting. absurd (omega (arith, l));
    in_order = λ h k c d l lk f g. absurd (omega (arith, lk));
    together = λ k l. absurd (omega (arith, l));
  }
  tallies (suc n) = by (counts n) refl (tallies n)
    where
      by : (b : Bool) → counts n ≡ b → IsTally signs counts times n (tally_by signs counts times n)
          → IsTally signs counts times (suc n)
          (if b then counted (tally_by signs counts times n) (signs n) (times n) else tally_by signs counts times n)
      by false not t = not_counted n (tally_by signs counts times n) not t
      by true counting t = one (one_counted (tally_by signs counts times n) (signs n) (times n))
        where
          one : Counts (tally_by signs counts times n) (counted (tally_by signs counts times n) (signs n) (times n)) (signs n) (times n)
              → IsTally signs counts times (suc n) (counted (tally_by signs counts times n) (signs n) (times n))
          one (inl (k, j)) = joined n (tally_by signs counts times n) _ k counting t j
          one (inr b) = begun n (tally_by signs counts times n) _ counting t b
