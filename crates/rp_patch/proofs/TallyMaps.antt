-- Laws of a map from signs to a number of times.
use Rattle.std.proofs.Common.{◌≡◌, ℕ, suc, ◌+◌, ◌*◌, ◌≤◌, ◌==◌, ◌&&◌, Bool, true, false, cond, ℤ, List, [], ◌∷◌, get_or, Some, Bor, refl, ap, ◌∙◌, arith, if◌then◌else◌, nat_lt, unwrap_or, slice_index, add-one}
use Rattle.std.specs.Map.{lookup}
use Rattle.std.specs.Cmp.Lexicographic.{pointwise}
use Rattle.std.specs.Ordering.{int_eq}
use Rattle.std.proofs.lemmas.List.Elements.{All-nil, All-cons}
use Rattle.indexmap.specs.IndexMap.{insert_entry}
use Rattle.rp_table.specs.ChoiceLists.{ChoiceList}
use Rattle.rp_patch.specs.InnerTallies.{AtMost, tallied, tally_of}
use Rattle.rp_patch.specs.Units.{counted}

abbrev pub same : Bor (List ℤ) → Bor (List ℤ) → Bool
same a b = pointwise int_eq a.now b.now

abbrev pub before : Bor (List ℤ) → List (Bor (List ℤ) × ℕ) → ℕ
before key entries = unwrap_or (lookup (same key) entries) 0

-- an entry with so many more is one that counts so many more choices
pub one_more : (entries : List (Bor (List ℤ) × ℕ)) (key : Bor (List ℤ)) (times : ℕ)
    → tallied (insert_entry same entries key (before key entries + times)) ≡ counted (tallied entries) key.now times
one_more [] key times = ap (λ n. (key.now, n) ∷ []) (omega arith)
one_more (e ∷ es) key times = by (same key e.0) (one_more es key times)
  where
    by : (b : Bool)
        → tallied (insert_entry same es key (before key es + times)) ≡ counted (tallied es) key.now times
        → tallied (if b then (e.0, unwrap_or (cond b (Some e.1) (lookup (same key) es)) 0 + times) ∷ es
        else e ∷ insert_entry same es key (unwrap_or (cond b (Some e.1) (lookup (same key) es)) 0 + times))
        ≡ (if b then (e.0.now, e.1 + times) ∷ tallied es else (e.0.now, e.1) ∷ counted (tallied es) key.now times)
    by true rest = refl
    by false rest = ap (λ entries. (e.0.now, e.1) ∷ entries) rest

-- what is found is no more than the most
pub found_at_most : (most : ℕ) (entries : List (Bor (List ℤ) × ℕ)) (key : Bor (List ℤ)) → AtMost most (tallied entries) → before key entries ≤ most
found_at_most most [] key small = omega arith
found_at_most most (e ∷ es) key small = by (same key e.0) (found_at_most most es key (λ k d within. small (suc k) d (omega arith)))
  where
    by : (b : Bool) → before key es ≤ most → unwrap_or (cond b (Some e.1) (lookup (same key) es)) 0 ≤ most
    by true rest = small 0 (e.0.now, e.1) (omega arith)
    by false rest = rest

-- counting so many more raises the most by as much
pub counted_at_most : (most : ℕ) (entries : List (List ℤ × ℕ)) (signs : List ℤ) (times : ℕ) → AtMost most entries → AtMost (most + times) (counted entries signs times)
counted_at_most most [] signs times small =
    All-cons (λ (e : List ℤ × ℕ). e.1 ≤ most + times) (signs, times) [] (omega arith) (All-nil (λ (e : List ℤ × ℕ). e.1 ≤ most + times))
counted_at_most most (e ∷ es) signs times small =
    by (pointwise int_eq signs e.0) (counted_at_most most es signs times (λ k d within. small (suc k) d (omega arith)))
  where
    first : e.1 ≤ most
    first = small 0 e (omega arith)

    raised : AtMost (most + times) es
    raised = λ k d within. let here = small (suc k) d (omega arith) in omega (arith, here)

    by : (b : Bool) → AtMost (most + times) (counted es signs times) → AtMost (most + times) (if b then (e.0, e.1 + times) ∷ es else e ∷ counted es signs times)
    by true rest = All-cons (λ (x : List ℤ × ℕ). x.1 ≤ most + times) (e.0, e.1 + times) es (omega (arith, first)) raised
    by false rest = All-cons (λ (x : List ℤ × ℕ). x.1 ≤ most + times) e (counted es signs times) (omega (arith, first)) rest

-- one more choice
pub tally_more : (signs : List (List ℤ)) (choices : ChoiceList) (j n : ℕ) (counts : Bool) (old new : List (Bor (List ℤ) × ℕ))
    → counts ≡ ((slice_index choices.budget n == j) && nat_lt 0 (slice_index choices.times n))
    → tallied old ≡ tally_of signs choices j n → AtMost (n * 9999999) (tallied old) → (counts ≡ true → slice_index choices.times n ≤ 9999999)
    → tallied new ≡ (if counts then counted (tallied old) (get_or signs n []) (slice_index choices.times n) else tallied old)
    → (tallied new ≡ tally_of signs choices j (n + 1)) × AtMost ((n + 1) * 9999999) (tallied new)
tally_more signs choices j n counts old new is so_far small fits after = (same_tally, bound counts fits after)
  where
    same_tally : tallied new ≡ tally_of signs choices j (n + 1)
    same_tally = after ∙ rw (so_far, is, add-one) refl

    bound : (b : Bool) → (b ≡ true → slice_index choices.times n ≤ 9999999) → tallied new ≡ (if b then counted (tallied old) (get_or signs n []) (slice_index choices.times n) else tallied old)
        → AtMost ((n + 1) * 9999999) (tallied new)
    bound true fits e = let few : slice_index choices.times n ≤ 9999999 = fits refl in rw e (λ k d within. let here = counted_at_most (n * 9999999) (tallied old) (get_or signs n []) (slice_index choices.times n) small k d within in omega (arith, here, few))
    bound false fits e = rw e (λ k d within. let here = small k d within in omega (arith, here))
