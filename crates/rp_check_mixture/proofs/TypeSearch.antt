-- How the search for a type that weighs too little goes on, what it has shown in the end, and that it ends. The parts
-- on the way stand in an array, with a depth and the patch that is tried next; each rational type before the patches at
-- hand weighs enough (`IsSearching`). A turn passes a patch (`passed`), goes deeper by it (`deeper`) or goes back
-- (`back`), each of which gives that record anew. The patches at hand, read as the digits of a number (`place_of`),
-- rise by a greater last digit, by one digit more, or by a greater last digit but one; what is left below a power
-- falls, and no front is met twice (`MetFronts`).
use Rattle.std.proofs.Common.{◌≡◌, ◌≢◌, ◌<◌, ◌≤◌, ◌⊎◌, ◌+◌, ◌-◌, ◌^◌, ◌++◌, inl, inr, ℕ, zero, suc, List, [], ◌∷◌, length, length-append, length-set, get_or-set_same, get_or-set_other, set, slice_index, Option, IfSome, IsSomeAnd, sym, ap, subst, ◌∙◌, arith, below_more}
use Rattle.std.proofs.Math.Nat.{mul-le-mul_right, pow-succ', pow-zero}
use Rattle.rp_limits.specs.declared.table.TheConstants.{BUDGETS}
use Rattle.rp_patch.specs.Kinds.{cells_weight}
use Rattle.rp_patch.specs.PartialTypes.{Before, Begins, IsPartialType, IsRationalBelow, taken_in}
use Rattle.rp_patch.specs.Patches.{PatchList, budget_at}
use Rattle.rp_patch.specs.Types.{IsRationalType}
use Rattle.rp_patch.specs.declared.partial_type.PartialType.{PartialType}
use Rattle.rp_patch.proofs.SearchLaws.{before_first, before_last, before_next, begins_length, whole_type}
use Rattle.rp_check_mixture.specs.InnerSearch.{AreLeastToCome, Earlier, IsRestOf, IsSearching, first_weigh, front_of, no_patches, place_in, place_of, type_of_depth}
use Rattle.rp_check_mixture.specs.LightFronts.{IsLightFront, PassesLimit}
use Rattle.rp_check_mixture.proofs.EarlierFronts.{as_heavy, earlier_deeper, earlier_last, earlier_next, last_digit, light_digit, none_earlier, not_begun, not_so_light, three_ways}
use Rattle.rp_check_mixture.proofs.MetFronts.{light_front, met_more, met_none, met_on, met_too_many, within_limit}

-- ---- patches as the digits of a number

pow_positive : (base k : ℕ) → 0 < base → 0 < base ^ k
pow_positive base zero some = omega (arith, pow-zero base)
pow_positive base (suc k) some =
    let rest = mul-le-mul_right {m = 1} {n = base} (base ^ k) (omega (arith, some)) in
    omega (arith, rest, pow_positive base k some, pow-succ' base k)

place_below : (base left : ℕ) (xs : List ℕ) → 0 < base → ((j : ℕ) → j < length xs → slice_index xs j + 2 ≤ base) → length xs ≤ left → place_of base left xs < base ^ left
place_below base left [] some small fits = pow_positive base left some
place_below base zero (x ∷ xs) some small fits = absurd (omega (arith, fits))
place_below base (suc left) (x ∷ xs) some small fits =
    let rest = place_below base left xs some (λ j l. small (suc j) (omega (arith, l))) (omega (arith, fits)) in
    let here = mul-le-mul_right {m = x + 2} {n = base} (base ^ left) (small 0 (omega arith)) in
    omega (arith, rest, here, pow-succ' base left)

-- one digit more
place_longer : (base left : ℕ) (xs : List ℕ) (x : ℕ) → 0 < base → length xs < left → place_of base left xs < place_of base left (xs ++ x ∷ [])
place_longer base zero xs x some room = absurd (omega (arith, room))
place_longer base (suc left) [] x some room =
    let here = mul-le-mul_right {m = 1} {n = x + 1} (base ^ left) (omega arith) in
    omega (arith, here, pow_positive base left some)
place_longer base (suc left) (y ∷ xs) x some room = omega (arith, place_longer base left xs x some (omega (arith, room)))

-- a greater last digit
place_next : (base left : ℕ) (xs : List ℕ) (x : ℕ) → 0 < base → length xs < left → place_of base left (xs ++ x ∷ []) < place_of base left (xs ++ (x + 1) ∷ [])
place_next base zero xs x some room = absurd (omega (arith, room))
place_next base (suc left) [] x some room = omega (arith, pow_positive base left some)
place_next base (suc left) (y ∷ xs) x some room = omega (arith, place_next base left xs x some (omega (arith, room)))

-- a greater digit in place of the last but one, and none for the last
place_back : (base left : ℕ) (xs : List ℕ) (x y : ℕ) → y + 2 ≤ base → length xs + 1 < left
    → place_of base left ((xs ++ x ∷ []) ++ y ∷ []) < place_of base left (xs ++ (x + 1) ∷ [])
place_back base zero xs x y small room = absurd (omega (arith, room))
place_back base (suc zero) xs x y small room = absurd (omega (arith, room))
place_back base (suc (suc left)) [] x y small room =
    let here = mul-le-mul_right {m = y + 2} {n = base} (base ^ left) small in
    omega (arith, here, pow-succ' base left, pow_positive base left (omega (arith, small)))
place_back base (suc (suc left)) (z ∷ xs) x y small room = omega (arith, place_back base (suc left) xs x y small (omega (arith, room)))

falls : (top old new : ℕ) → old < new → new < top → top - new < top - old
falls top old new less within = omega (arith, less, within)

-- ---- the patches at hand

small_digits : (xs : List ℕ) (i count : ℕ) → ((j : ℕ) → j < length xs → slice_index xs j < count) → i ≤ count
    → (j : ℕ) → j < length (xs ++ i ∷ []) → slice_index (xs ++ i ∷ []) j + 2 ≤ count + 2
small_digits [] i count small within zero l = omega (arith, within)
small_digits [] i count small within (suc j) l = absurd (omega (arith, l))
small_digits (x ∷ xs) i count small within zero l = omega (arith, small 0 (omega arith))
small_digits (x ∷ xs) i count small within (suc j) l = small_digits xs i count (λ k m. small (suc k) (omega (arith, m))) within j (omega (arith, l))

begins_none : (type xs : List ℕ) → length xs ≡ 0 → Begins type xs
begins_none type [] none = tt
begins_none type (x ∷ xs) none = absurd (omega (arith, none))

none_before : (type : List ℕ) → ¬ Before type (0 ∷ [])
none_before [] h = h
none_before (y ∷ type) h = elim h [ inl l ↦ omega (arith, l) | inr e ↦ e.1 ]

module _ (p : PatchList) (weights : List ℕ) (least : ℕ) (limit : Option ℕ) where
  size : (parts : List PartialType) (depth i counted : ℕ) → IsSearching p weights least limit parts depth i counted → length (taken_in (type_of_depth parts depth)) ≡ depth
  size parts depth i counted s = (s.each depth (omega arith)).0.0.count ∙ (s.each depth (omega arith)).1

  in_patches : (parts : List PartialType) (depth i counted : ℕ) → IsSearching p weights least limit parts depth i counted → (j : ℕ) → j < depth
      → slice_index (taken_in (type_of_depth parts depth)) j < length p.patches
  in_patches parts depth i counted s j below = (s.each depth (omega arith)).0.0.patch j (omega (arith, below, (s.each depth (omega arith)).1))

  -- what is left to search falls where the number of the patches rises
  abbrev number : List ℕ → ℕ
  number = place_in p

  abbrev left : List PartialType → ℕ → ℕ → ℕ
  left parts depth i = (length p.patches + 2) ^ p.budgets - number (front_of parts depth i)

  number_falls : (old : ℕ) (front : List ℕ) (d j : ℕ) → length front ≡ d → d < p.budgets → ((k : ℕ) → k < d → slice_index front k < length p.patches) → j ≤ length p.patches
      → old < number (front ++ j ∷ []) → (length p.patches + 2) ^ p.budgets - number (front ++ j ∷ []) < (length p.patches + 2) ^ p.budgets - old
  number_falls old front d j long deep digits within less =
      falls ((length p.patches + 2) ^ p.budgets) _ _ less
      (place_below (length p.patches + 2) p.budgets (front ++ j ∷ []) (omega arith)
      (small_digits front j (length p.patches) (λ k l. digits k (omega (arith, l, long))) within)
      (omega (arith, length-append front (j ∷ []), long, deep)))

  left_falls : (parts now : List PartialType) (depth i d j counted : ℕ) → IsSearching p weights least limit now d j counted
      → number (front_of parts depth i) < number (front_of now d j) → left now d j < left parts depth i
  left_falls parts now depth i d j counted s less =
      number_falls (number (front_of parts depth i)) (taken_in (type_of_depth now d)) d j (size now d j counted s) s.deep (in_patches now d j counted s) s.within less

  -- no patch is taken yet
  pub none_taken : (parts : List PartialType) (part : PartialType) → length parts ≡ BUDGETS → 1 ≤ p.budgets → IsPartialType p part → taken_in part ≡ []
      → IsSearching p weights least limit (set parts 0 part) 0 0 0
  none_taken parts part room some is none = record {
    room = length-set parts 0 part ∙ room;
    deep = omega (arith, some);
    within = omega arith;
    each = λ k l.
        let zeroth : 0 ≡ k = omega (arith, l) in
        subst (λ k. IsPartialType p (type_of_depth (set parts 0 part) k) × ((type_of_depth (set parts 0 part) k).taken ≡ k)) zeroth
        (subst (λ (x : PartialType). IsPartialType p x × (x.taken ≡ 0)) (sym here) (is, sym is.0.count ∙ ap (λ (xs : List ℕ). length xs) none));
    grown = λ k l. absurd (omega (arith, l));
    weighed = λ type rational b. absurd (none_before type (subst (λ xs. Before type (xs ++ 0 ∷ [])) none (subst (λ (x : PartialType). Before type (taken_in x ++ 0 ∷ [])) here b)));
    met = met_none p weights least limit (front_of (set parts 0 part) 0 0) (λ f e. none_earlier f (subst (λ xs. Earlier f (xs ++ 0 ∷ [])) none (subst (λ (x : PartialType). Earlier f (taken_in x ++ 0 ∷ [])) here e)));
  }
    where
      here : type_of_depth (set parts 0 part) 0 ≡ part
      here = get_or-set_same parts 0 part no_patches (omega (arith, room))

  module _ (parts : List PartialType) (depth i counted : ℕ) (s : IsSearching p weights least limit parts depth i counted) where
    abbrev front : List ℕ
    front = taken_in (type_of_depth parts depth)

    type_longer : (type : List ℕ) → IsRationalType p type → length front < length type
    type_longer type rational = omega (arith, size parts depth i counted s, s.deep, rational.0.one_each)

    -- no patch is left for the first budget
    pub all_weigh : depth ≡ 0 → i ≡ length p.patches → (type : List ℕ) → IsRationalType p type → least ≤ cells_weight weights type
    all_weigh first last type rational =
        let long = type_longer type rational in
        let count = size parts depth i counted s in
        s.weighed type rational ((before_last type front i long (omega (arith, last, rational.0.patch (length front) (omega (arith, long, rational.0.one_each))))).1
        (inr (begins_none type front (omega (arith, count, first)))))

    -- then no light front is left either
    pub all_met : depth ≡ 0 → i ≡ length p.patches → ¬ PassesLimit p weights least limit
    all_met first last = within_limit p weights least limit (front ++ i ∷ []) counted s.met (λ f light.
        earlier_last f front i (λ j l. omega (arith, light_digit p weights least f light j l, last)) (inr (begins_none f front (omega (arith, size parts depth i counted s, first)))))

    passed_rises : number (front ++ i ∷ []) < number (front ++ (i + 1) ∷ [])
    passed_rises = place_next (length p.patches + 2) p.budgets front i (omega arith) (omega (arith, size parts depth i counted s, s.deep))

    -- every rational type that begins with the patch weighs enough, or there is none; and no front that does is light
    pub passed : i < length p.patches → ((type : List ℕ) → IsRationalType p type → Begins type (front ++ i ∷ []) → least ≤ cells_weight weights type)
        → ((f : List ℕ) → IsLightFront p weights least f → ¬ Begins f (front ++ i ∷ []))
        → IsSearching p weights least limit parts depth (i + 1) counted
    passed below enough none_light = record {
      room = s.room;
      deep = s.deep;
      within = omega (arith, below);
      each = s.each;
      grown = s.grown;
      weighed = λ type rational before. elim ((before_next type front i).0 before) [
        | inl a ↦ s.weighed type rational a
        | inr b ↦ enough type rational b
      ];
      met = met_on p weights least limit (front ++ i ∷ []) counted s.met (front ++ (i + 1) ∷ []) passed_rises
          (λ f light e. elim (earlier_next f front i e) [ inl a ↦ a | inr b ↦ absurd (none_light f light b) ]);
    }

    pub passed_falls : i < length p.patches → left parts depth (i + 1) < left parts depth i
    passed_falls below = number_falls (number (front ++ i ∷ [])) front depth (i + 1) (size parts depth i counted s) s.deep (in_patches parts depth i counted s) (omega (arith, below)) passed_rises

    -- the patches weigh enough with the lightest of the budgets to come
    pub weigh_enough : (to_come : List ℕ) → AreLeastToCome p weights to_come → (longer : PartialType) → taken_in longer ≡ front ++ i ∷ []
        → least ≤ cells_weight weights (taken_in longer) + slice_index to_come depth
        → (type : List ℕ) → IsRationalType p type → Begins type (front ++ i ∷ []) → least ≤ cells_weight weights type
    weigh_enough to_come at_least longer takes enough type rational begins =
        let least_by : least ≤ cells_weight weights (front ++ i ∷ []) + slice_index to_come depth = subst (λ xs. least ≤ cells_weight weights xs + slice_index to_come depth) takes enough in
        let count : length (front ++ i ∷ []) ≡ depth + 1 = omega (arith, length-append front (i ∷ []), size parts depth i counted s) in
        let heavy : cells_weight weights (front ++ i ∷ []) ≡ first_weigh weights type (depth + 1) = as_heavy weights type (front ++ i ∷ []) begins ∙ ap (first_weigh weights type) count in
        omega (arith, least_by, heavy, at_least.no_less depth s.deep type rational.0)

    -- then no front that begins with them is light
    pub weigh_enough_for_all : (to_come : List ℕ) → AreLeastToCome p weights to_come → (longer : PartialType) → taken_in longer ≡ front ++ i ∷ []
        → least ≤ cells_weight weights (taken_in longer) + slice_index to_come depth
        → (f : List ℕ) → IsLightFront p weights least f → ¬ Begins f (front ++ i ∷ [])
    weigh_enough_for_all to_come at_least longer takes enough f light begins =
        not_so_light p weights least f light front i depth (size parts depth i counted s) begins to_come at_least s.deep
        (subst (λ xs. least ≤ cells_weight weights xs + slice_index to_come depth) takes enough)

    -- a patch with which no rational type begins, for a reason that holds of fronts too
    pub unfit_for_all : (budget_at p i ≢ (type_of_depth parts depth).taken) ⊎ (¬ IsRationalBelow p (front ++ i ∷ []))
        → (f : List ℕ) → IsLightFront p weights least f → ¬ Begins f (front ++ i ∷ [])
    unfit_for_all why f light begins =
        not_begun p weights least f light front i (type_of_depth parts depth).taken (s.each depth (omega arith)).0.0.count begins why

    -- a type that weighs too little
    pub too_light : (longer : PartialType) → IsPartialType p longer → longer.taken ≡ p.budgets → cells_weight weights (taken_in longer) < least
        → ¬ ((type : List ℕ) → IsRationalType p type → least ≤ cells_weight weights type)
    too_light longer is whole light all = omega (arith, light, all (taken_in longer) (whole_type p longer is whole is.0.count))

    -- no light front comes after it
    pub met_all_before : (longer : PartialType) → IsPartialType p longer → longer.taken ≡ p.budgets → taken_in longer ≡ front ++ i ∷ [] → cells_weight weights (taken_in longer) < least
        → ¬ PassesLimit p weights least limit
    met_all_before longer is whole takes light = within_limit p weights least limit (front ++ i ∷ []) counted s.met (λ f lf.
        subst (Earlier f) takes (elim (three_ways f (taken_in longer)) [
          | inl earlier ↦ earlier
          | inr later ↦ elim later [
            | inl begins ↦ absurd (omega (arith, begins_length f (taken_in longer) begins, is.0.count, whole, lf.short))
            | inr before ↦ absurd (omega (arith, light, lf.first (taken_in longer) (whole_type p longer is whole is.0.count) before))
          ]
        ]))

    -- the patches with one of the next budget are light, and not of every budget
    module _ (longer : PartialType) (is : IsPartialType p longer) (more : longer.taken ≡ depth + 1) (takes : taken_in longer ≡ front ++ i ∷ [])
        (other : longer.taken ≢ p.budgets) (to_come : List ℕ) (at_least : AreLeastToCome p weights to_come)
        (light : cells_weight weights (taken_in longer) + slice_index to_come depth < least) where
      deep : depth + 1 < p.budgets
      deep = omega (arith, is.0.few, more, other)

      is_light : IsLightFront p weights least (front ++ i ∷ [])
      is_light =
          let h = at_least.reached depth s.deep in
          subst (IsLightFront p weights least) takes
          (light_front p longer is h.0 (subst (λ n. IsRestOf p n h.0) (sym more) h.1) weights least (slice_index to_come depth) (omega (arith, more)) (omega (arith, more, deep))
          (λ type rational b. s.weighed type rational (subst (λ xs. Before type xs) takes b)) h.2 light)

      pub given_up : IsSomeAnd limit (λ steps. steps ≤ counted) → PassesLimit p weights least limit
      given_up reached = met_too_many p weights least limit (front ++ i ∷ []) counted s.met is_light reached

      module _ (few : p.budgets ≤ 48) (more_counted : ℕ) (one_more : IfSome limit (λ steps. (more_counted ≡ counted + 1) × (more_counted ≤ steps))) where
        abbrev now : List PartialType
        now = set parts (depth + 1) longer

        before : (k : ℕ) → k ≤ depth → type_of_depth now k ≡ type_of_depth parts k
        before k l = get_or-set_other parts (depth + 1) k longer no_patches (λ e. omega (arith, e, l))

        here : type_of_depth now (depth + 1) ≡ longer
        here = get_or-set_same parts (depth + 1) longer no_patches (omega (arith, deep, few, s.room))

        last_grown : taken_in longer ≡ front ++ slice_index (taken_in longer) depth ∷ []
        last_grown = takes ∙ ap (λ j. front ++ j ∷ []) (sym (ap (λ xs. slice_index xs depth) takes ∙ last_digit front i depth (size parts depth i counted s)))

        deeper_rises : number (front ++ i ∷ []) < number (front_of now (depth + 1) 0)
        deeper_rises =
            subst (λ (x : PartialType). number (front ++ i ∷ []) < number (taken_in x ++ 0 ∷ [])) (sym here)
            (subst (λ xs. number (front ++ i ∷ []) < number (xs ++ 0 ∷ [])) (sym takes)
            (place_longer (length p.patches + 2) p.budgets (front ++ i ∷ []) 0 (omega arith) (omega (arith, length-append front (i ∷ []), size parts depth i counted s, deep))))

        pub deeper : IsSearching p weights least limit now (depth + 1) 0 more_counted
        deeper = record {
          room = length-set parts (depth + 1) longer ∙ s.room;
          deep = deep;
          within = omega arith;
          each = λ k l. below_more (λ k. IsPartialType p (type_of_depth now k) × ((type_of_depth now k).taken ≡ k)) (depth + 1)
              (λ k l. subst (λ (x : PartialType). IsPartialType p x × (x.taken ≡ k)) (sym (before k (omega (arith, l)))) (s.each k (omega (arith, l))))
              (subst (λ (x : PartialType). IsPartialType p x × (x.taken ≡ depth + 1)) (sym here) (is, more)) k (omega (arith, l));
          grown = λ k l. below_more (λ k. taken_in (type_of_depth now (k + 1)) ≡ taken_in (type_of_depth now k) ++ slice_index (taken_in (type_of_depth now (k + 1))) k ∷ []) depth
              (λ k l. subst (λ (x : PartialType). taken_in x ≡ taken_in (type_of_depth now k) ++ slice_index (taken_in x) k ∷ []) (sym (before (k + 1) (omega (arith, l))))
              (subst (λ (x : PartialType). taken_in (type_of_depth parts (k + 1)) ≡ taken_in x ++ slice_index (taken_in (type_of_depth parts (k + 1))) k ∷ []) (sym (before k (omega (arith, l)))) (s.grown k l)))
              (subst (λ (x : PartialType). taken_in x ≡ taken_in (type_of_depth now depth) ++ slice_index (taken_in x) depth ∷ []) (sym here)
              (subst (λ (x : PartialType). taken_in longer ≡ taken_in x ++ slice_index (taken_in longer) depth ∷ []) (sym (before depth (omega arith))) last_grown)) k l;
          weighed = λ type rational b. s.weighed type rational
              (subst (λ xs. Before type xs) takes ((before_first type (taken_in longer)).0 (subst (λ (x : PartialType). Before type (taken_in x ++ 0 ∷ [])) here b)));
          met = met_more p weights least limit (front ++ i ∷ []) counted s.met is_light (front_of now (depth + 1) 0) more_counted deeper_rises
              (λ f e. earlier_deeper f (front ++ i ∷ []) (subst (λ xs. Earlier f (xs ++ 0 ∷ [])) takes (subst (λ (x : PartialType). Earlier f (taken_in x ++ 0 ∷ [])) here e))) one_more;
        }

        pub deeper_falls : left now (depth + 1) 0 < left parts depth i
        deeper_falls = left_falls parts now depth i (depth + 1) 0 more_counted deeper deeper_rises

    -- no patch is left: back to the budget before, whose patch was j
    module _ (d : ℕ) (up : depth ≡ d + 1) (last : i ≡ length p.patches) (j : ℕ) (was : j ≡ slice_index front d) where
      abbrev front_before : List ℕ
      front_before = taken_in (type_of_depth parts d)

      grown : front ≡ front_before ++ j ∷ []
      grown =
          subst (λ k. taken_in (type_of_depth parts k) ≡ front_before ++ slice_index (taken_in (type_of_depth parts k)) d ∷ []) (sym up) (s.grown d (omega (arith, up)))
          ∙ ap (λ k. front_before ++ k ∷ []) (sym was)

      back_rises : number (front ++ i ∷ []) < number (front_before ++ (j + 1) ∷ [])
      back_rises =
          subst (λ xs. number (xs ++ i ∷ []) < number (front_before ++ (j + 1) ∷ [])) (sym grown)
          (place_back (length p.patches + 2) p.budgets front_before j i (omega (arith, last))
          (omega (arith, (s.each d (omega (arith, up))).0.0.count, (s.each d (omega (arith, up))).1, up, s.deep)))

      pub back : IsSearching p weights least limit parts d (j + 1) counted
      back = record {
        room = s.room;
        deep = omega (arith, s.deep, up);
        within = omega (arith, in_patches parts depth i counted s d (omega (arith, up)), was);
        each = λ k l. s.each k (omega (arith, l, up));
        grown = λ k l. s.grown k (omega (arith, l, up));
        weighed = λ type rational b.
            let long = type_longer type rational in
            s.weighed type rational ((before_last type front i long (omega (arith, last, rational.0.patch (length front) (omega (arith, long, rational.0.one_each))))).1
            (subst (λ xs. Before type xs ⊎ Begins type xs) (sym grown) ((before_next type front_before j).0 b)));
        met = met_on p weights least limit (front ++ i ∷ []) counted s.met (front_before ++ (j + 1) ∷ []) back_rises
            (λ f light e. earlier_last f front i (λ k l. omega (arith, light_digit p weights least f light k l, last))
            (subst (λ xs. Earlier f xs ⊎ Begins f xs) (sym grown) (earlier_next f front_before j e)));
      }

      pub back_falls : left parts d (j + 1) < left parts depth i
      back_falls = left_falls parts parts depth i d (j + 1) counted back back_rises
