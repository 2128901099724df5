-- The definitions at worked values.
use Rattle.std.proofs.Common.{◌≡◌, ℕ, ◌-◌, ◌^◌, List, [], ◌∷◌, Some, None, map, sum, take, refl, ap, arith, inr, ⊎_elim}
use Rattle.rp_outside.specs.Asked.{IsReadOnce}
use Rattle.rp_outside.specs.Faults.{next_count, HasRisen}
use Rattle.rp_outside.specs.Files.{bytes_under, ReadsAll}
use Rattle.rp_outside.specs.SystemSink.{flushed_of}

-- a count rises by one, and stands still at its last value, where it counts as risen
counts_up : next_count 6 ≡ 7
counts_up = refl

stands_still : next_count (2 ^ 64 - 1) ≡ 2 ^ 64 - 1
stands_still = refl

same_count_has_not_risen : HasRisen 6 6 → ⊥
same_count_has_not_risen = ⊎_elim (λ h. omega arith) (λ h. omega arith)

last_count_has_risen : HasRisen (2 ^ 64 - 1) (2 ^ 64 - 1)
last_count_has_risen = inr (omega arith)

-- of two files named "a" the first counts, and there is no file "b"
two_files : List (List ℕ × List ℕ)
two_files = (97 ∷ [], 5 ∷ 6 ∷ []) ∷ (97 ∷ [], 7 ∷ []) ∷ []

first_counts : bytes_under two_files (97 ∷ []) ≡ Some (5 ∷ 6 ∷ [])
unfolding two_files
first_counts = refl

no_such_file : bytes_under two_files (98 ∷ []) ≡ None
unfolding two_files
no_such_file = refl

-- from the place 1 there is one byte, however much room there is
reads_the_rest : ReadsAll (5 ∷ 6 ∷ []) 1 (6 ∷ 0 ∷ 0 ∷ []) 1
reads_the_rest = (refl, refl)

-- a file is read once at rising places from its beginning on, not at one place twice, and not from its middle on
read_on : IsReadOnce (97 ∷ []) ((97 ∷ [], 0) ∷ (97 ∷ [], 4) ∷ [])
read_on = (4 ∷ [], refl, (omega arith, tt))

read_twice : IsReadOnce (97 ∷ []) ((97 ∷ [], 0) ∷ (97 ∷ [], 0) ∷ []) → ⊥
read_twice ([], is, rises) = cc
read_twice (place ∷ [], is, rises) =
    let both : 0 ∷ 0 ∷ [] ≡ 0 ∷ place ∷ [] = ap (map (λ read. read.1)) is in
    let first : 0 ≡ place = cc in
    omega (arith, first, rises.0)
read_twice (place ∷ next ∷ places, is, rises) = cc

read_from_the_middle : IsReadOnce (97 ∷ []) ((97 ∷ [], 4) ∷ []) → ⊥
read_from_the_middle (places, is, rises) =
    let first : 4 ≡ 0 = ap (λ reads. sum (take 1 (map (λ read. read.1) reads))) is in
    omega (arith, first)

-- of three bytes that a writer holds, two of them unflushed, one is written
one_is_out : flushed_of (Some (1 ∷ 2 ∷ 3 ∷ [])) 2 ≡ Some (1 ∷ [])
one_is_out = refl
