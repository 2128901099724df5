-- The light fronts that a search goes through: it comes to each of them, and once, since its patches, read as the digits
-- of a number, rise.
use Rattle.std.proofs.Common.{◌≡◌, ◌≢◌, ◌<◌, ◌≤◌, ◌+◌, ◌++◌, ◌⊎◌, inl, inr, ℕ, zero, suc, List, [], ◌∷◌, All, AllPairs, Contains, Option, None, Some, IfSome, IsSomeAnd, nat_eq, length, length-append, slice_index, refl, subst, sym, arith}
use Rattle.std.proofs.lemmas.List.{get_or_append_left, get_or-append-add}
use Rattle.std.proofs.lemmas.List.Elements.{All-cons, All-contains, All-nil, All-weaker}
use Rattle.std.proofs.lemmas.List.Kept.{AllPairs-cons}
use Rattle.std.proofs.lemmas.Cmp.{nat_list_eq_equiv}
use Rattle.std.proofs.lemmas.Bool.Decides.{Decides-eqb}
use Rattle.std.proofs.lemmas.Map.Made.{is_member-Decides, length-le_from_is_member, IsDistinct-from_AllPairs}
use Rattle.std.proofs.lemmas.Slice.Eq.{slice_eq-Decides}
use Rattle.std.specs.Bool.{Decides}
use Rattle.std.specs.Cmp.Lexicographic.{pointwise}
use Rattle.rp_patch.specs.Kinds.{cells_weight}
use Rattle.rp_patch.specs.PartialTypes.{Before, Begins, IsPartialType, taken_in}
use Rattle.rp_patch.specs.Patches.{PatchList, budget_at}
use Rattle.rp_patch.specs.Types.{IsRationalType, IsType}
use Rattle.rp_patch.specs.declared.partial_type.PartialType.{PartialType}
use Rattle.rp_check_mixture.specs.InnerSearch.{Earlier, HasMet, IsRestOf, place_in}
use Rattle.rp_check_mixture.specs.LightFronts.{IsLightFront, PassesLimit}
use Rattle.rp_check_mixture.proofs.ToCome.{weight_append}

-- ---- a front with patches of the other budgets

begins_append : (front rest : List ℕ) → Begins (front ++ rest) front
begins_append [] rest = tt
begins_append (x ∷ front) rest = (refl, begins_append front rest)

less_or_more : (j n : ℕ) → (j < n) ⊎ ((k : ℕ) × (n + k ≡ j))
less_or_more j zero = inr (j, omega arith)
less_or_more zero (suc n) = inl (omega arith)
less_or_more (suc j) (suc n) = elim (less_or_more j n) [ inl l ↦ inl (omega (arith, l)) | inr h ↦ inr (h.0, omega (arith, h.1)) ]

-- the patches of a part, and some of the budgets after it
module _ (p : PatchList) (part : PartialType) (is : IsPartialType p part) (rest : List ℕ) (others : IsRestOf p part.taken rest) where
  abbrev front : List ℕ
  front = taken_in part

  abbrev IsRightAt : ℕ → Type 0
  IsRightAt j = (slice_index (front ++ rest) j < length p.patches) × (budget_at p (slice_index (front ++ rest) j) ≡ j)

  in_front : (j : ℕ) → j < part.taken → IsRightAt j
  in_front j below =
      let e : slice_index front j ≡ slice_index (front ++ rest) j = sym (get_or_append_left front rest 0 j (omega (arith, below, is.0.count))) in
      subst (λ i. (i < length p.patches) × (budget_at p i ≡ j)) e (is.0.patch j below, is.0.on_its_budget j below)

  in_rest : (j : ℕ) → j < length rest → IsRightAt (part.taken + j)
  in_rest j below =
      let e : slice_index rest j ≡ slice_index (front ++ rest) (part.taken + j) =
      subst (λ n. slice_index rest j ≡ slice_index (front ++ rest) (n + j)) is.0.count (sym (get_or-append-add front rest j 0)) in
      subst (λ i. (i < length p.patches) × (budget_at p i ≡ part.taken + j)) e (others.patch j below, others.on_its_budget j below)

  right_at : (j : ℕ) → j < p.budgets → IsRightAt j
  right_at j below = by (less_or_more j part.taken)
    where
      by : (j < part.taken) ⊎ ((k : ℕ) × (part.taken + k ≡ j)) → IsRightAt j
      by (inl l) = in_front j l
      by (inr (k, e)) = subst IsRightAt e (in_rest k (omega (arith, e, below, others.one_each)))

  completed : IsType p (front ++ rest)
  completed = record {
    one_each = omega (arith, length-append front rest, is.0.count, others.one_each);
    patch = λ j below. (right_at j below).0;
    on_its_budget = λ j below. (right_at j below).1;
  }

  pub light_front : (weights : List ℕ) (least weight : ℕ) → 0 < part.taken → part.taken < p.budgets → ((type : List ℕ) → IsRationalType p type → Before type front → least ≤ cells_weight weights type)
      → cells_weight weights rest ≡ weight → cells_weight weights front + weight < least → IsLightFront p weights least front
  light_front weights least weight some short first weighs light = record {
    some = omega (arith, some, is.0.count);
    short = omega (arith, short, is.0.count);
    rational = is.1;
    lighter = (front ++ rest, completed, begins_append front rest, omega (arith, light, weighs, weight_append weights front rest));
    first = first;
  }

-- ---- which there were

none_twice_is_shorter : (xs ys : List (List ℕ)) → AllPairs (λ a b. a ≢ b) xs → ((x : List ℕ) → Contains xs x → Contains ys x) → length xs ≤ length ys
none_twice_is_shorter xs ys apart inside =
    length-le_from_is_member nat_list_eq_equiv xs ys (IsDistinct-from_AllPairs same xs apart)
    (λ q h. (is_member-Decides same ys q).1 (inside q ((is_member-Decides same xs q).0 h)))
  where
    same : (a b : List ℕ) → Decides (pointwise nat_eq a b) (a ≡ b)
    same a b = slice_eq-Decides Decides-eqb a b (pointwise nat_eq a b) refl

contains_more : (here x : List ℕ) (fronts : List (List ℕ)) → Contains fronts x → Contains (here ∷ fronts) x
contains_more here x fronts (k, below, is) = (suc k, omega (arith, below), is)

counted_more : (limit : Option ℕ) (counted more n : ℕ) → IfSome limit (λ steps. (counted ≡ n) × (counted ≤ steps)) → IfSome limit (λ steps. (more ≡ counted + 1) × (more ≤ steps))
    → IfSome limit (λ steps. (more ≡ suc n) × (more ≤ steps))
counted_more None counted more n exact one = tt
counted_more (Some steps) counted more n exact one = (omega (arith, exact.0, one.0), one.1)

none_counted : (limit : Option ℕ) → IfSome limit (λ steps. (◌≡◌ {A = ℕ} 0 0) × (0 ≤ steps))
none_counted None = tt
none_counted (Some steps) = (refl, omega arith)

module _ (p : PatchList) (weights : List ℕ) (least : ℕ) (limit : Option ℕ) where
  pub met_none : (here : List ℕ) → ((front : List ℕ) → Earlier front here → length front ≡ 0) → HasMet p weights least limit here 0
  met_none here first = record {
    fronts = [];
    apart = λ i j d before below. absurd (omega (arith, below));
    light = All-nil (IsLightFront p weights least);
    lower = All-nil (λ front. place_in p front < place_in p here);
    all = λ front light earlier. absurd (omega (arith, first front earlier, light.some));
    exact = none_counted limit;
  }

  module _ (here : List ℕ) (counted : ℕ) (s : HasMet p weights least limit here counted) where
    all_lower : (next : List ℕ) → place_in p here < place_in p next → All (λ front. place_in p front < place_in p next) s.fronts
    all_lower next rises = All-weaker (λ front. place_in p front < place_in p here) (λ front. place_in p front < place_in p next) (λ front less. omega (arith, less, rises)) s.fronts s.lower

    pub met_on : (next : List ℕ) → place_in p here < place_in p next → ((front : List ℕ) → IsLightFront p weights least front → Earlier front next → Earlier front here)
        → HasMet p weights least limit next counted
    met_on next rises no_more = record {
      fronts = s.fronts;
      apart = s.apart;
      light = s.light;
      lower = all_lower next rises;
      all = λ front light earlier. s.all front light (no_more front light earlier);
      exact = s.exact;
    }

    -- where all light fronts were gone through
    pub within_limit : ((front : List ℕ) → IsLightFront p weights least front → Earlier front here) → ¬ PassesLimit p weights least limit
    within_limit earlier = by limit s.exact
      where
        by : (o : Option ℕ) → IfSome o (λ steps. (counted ≡ length s.fronts) × (counted ≤ steps)) → ¬ PassesLimit p weights least o
        by None exact h = h
        by (Some steps) exact (others, apart, light, more) =
            let few = none_twice_is_shorter others s.fronts apart (λ front has. let is = All-contains (IsLightFront p weights least) others front light has in s.all front is (earlier front is)) in
            omega (arith, few, more, exact.0, exact.1)

    module _ (light : IsLightFront p weights least here) where
      apart_more : AllPairs (λ a b. a ≢ b) (here ∷ s.fronts)
      apart_more = AllPairs-cons (λ a b. a ≢ b) here s.fronts
          (All-weaker (λ front. place_in p front < place_in p here) (λ front. here ≢ front)
          (λ front less same. omega (arith, subst (λ x. place_in p x < place_in p here) (sym same) less)) s.fronts s.lower)
          s.apart

      pub met_more : (next : List ℕ) (more : ℕ) → place_in p here < place_in p next → ((front : List ℕ) → Earlier front next → Earlier front here ⊎ (front ≡ here))
          → IfSome limit (λ steps. (more ≡ counted + 1) × (more ≤ steps)) → HasMet p weights least limit next more
      met_more next more rises here_too one = record {
        fronts = here ∷ s.fronts;
        apart = apart_more;
        light = All-cons (IsLightFront p weights least) here s.fronts light s.light;
        lower = All-cons (λ front. place_in p front < place_in p next) here s.fronts rises (all_lower next rises);
        all = λ front is earlier. elim (here_too front earlier) [
          | inl before ↦ contains_more here front s.fronts (s.all front is before)
          | inr same ↦ (0, omega arith, sym same)
        ];
        exact = counted_more limit counted more (length s.fronts) s.exact one;
      }

      pub met_too_many : IsSomeAnd limit (λ steps. steps ≤ counted) → PassesLimit p weights least limit
      met_too_many = by limit s.exact
        where
          by : (o : Option ℕ) → IfSome o (λ steps. (counted ≡ length s.fronts) × (counted ≤ steps)) → IsSomeAnd o (λ steps. steps ≤ counted) → PassesLimit p weights least o
          by None exact reached = reached
          by (Some steps) exact reached = (
            here ∷ s.fronts,
            apart_more,
            All-cons (IsLightFront p weights least) here s.fronts light s.light,
            omega (arith, exact.0, reached),
          )
