-- Two lists in strictly rising order with the same members are one list, so patches have one list of rational types.
use Rattle.std.proofs.Common.{◌≡◌, ◌↔◌, ℕ, Bool, true, false, List, Contains, refl, sym}
use Rattle.std.specs.Bool.{IsTrue}
use Rattle.std.specs.BTreeSet.{BTreeSet, contains}
use Rattle.std.specs.Cmp.Lexicographic.{slice_cmp}
use Rattle.std.specs.List.Sorted.{IsStrictlySortedBy}
use Rattle.std.specs.Ordering.{nat_cmp}
use Rattle.std.proofs.lemmas.Cmp.{nat_list_cmp_total}
use Rattle.std.proofs.lemmas.Map.Lookups.{btree_set_from_contains, exact_bytes}
use Rattle.std.proofs.lemmas.Map.Views.{btree_set_contains_iff}
use Rattle.rp_patch.specs.Patches.{PatchList}
use Rattle.rp_patch.specs.Types.{AreRationalTypes}

same_truth : (a b : Bool) → IsTrue a ↔ IsTrue b → a ≡ b
same_truth true b same = sym (same.0 refl)
same_truth false true same = same.1 refl
same_truth false false same = refl

-- a list as the set of its members
abbrev set_of : List (List ℕ) → BTreeSet (List ℕ)
set_of types = record { keys = types }

pub rising_once : (one other : List (List ℕ))
    → IsStrictlySortedBy (slice_cmp nat_cmp) one → IsStrictlySortedBy (slice_cmp nat_cmp) other
    → ((type : List ℕ) → Contains one type ↔ Contains other type) → one ≡ other
rising_once one other rising also same =
    btree_set_from_contains nat_list_cmp_total (set_of one) (set_of other) rising also alike exact_bytes
  where
    has : (types : List (List ℕ)) (type : List ℕ)
        → IsTrue (contains (slice_cmp nat_cmp) (set_of types) type) ↔ Contains types type
    has types type = btree_set_contains_iff nat_list_cmp_total exact_bytes (set_of types) type

    alike : (type : List ℕ)
        → contains (slice_cmp nat_cmp) (set_of one) type ≡ contains (slice_cmp nat_cmp) (set_of other) type
    alike type = same_truth _ _ (
      λ h. (has other type).1 ((same type).0 ((has one type).0 h)),
      λ h. (has one type).1 ((same type).1 ((has other type).0 h)),
    )

pub types_once : (p : PatchList) (one other : List (List ℕ))
    → AreRationalTypes p one → AreRationalTypes p other → one ≡ other
types_once p one other are also =
    rising_once one other are.rising also.rising (λ type. (
      λ h. (also.just_these type).1 ((are.just_these type).0 h),
      λ h. (are.just_these type).1 ((also.just_these type).0 h),
    ))
