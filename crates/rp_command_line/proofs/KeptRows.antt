-- What a use of an argument leaves among the matches, where `clap` takes it: a row with values, which its parser takes.
use Rattle.std.proofs.Common.{◌≡◌, ◌&&◌, ◌||◌, ◌++◌, Bool, true, false, not, cond, ℕ, List, [], ◌∷◌, Some, length, nat_lt, refl, sym, ap, subst, ◌∙◌, if◌then◌else◌}
use Rattle.std.specs.List.{AllByRecursion, find, list_all, list_any}
use Rattle.std.specs.Str.{bytes_eq}
use Rattle.std.proofs.lemmas.Slice.Eq.{bytes_eq-Decides}
use Rattle.clap.proofs.WalkLemmas.{both}
use Rattle.clap.specs.Facts.{parser_of_value, unwrap_or_range}
use Rattle.clap.specs.Faults.{action_fault, set_fault, use_fault, values_fault}
use Rattle.clap.specs.Kinds.{Kinds, or_else, range_kinds, value_kinds}
use Rattle.clap.specs.Walk.{Row, Rule, Text, action_of, arg_by_id, more_values, most_values, reading_by, stronger, used, used_as, values_or_missing, with_values, without}
use Rattle.clap.specs.declared.builder.action.ArgAction.{ArgAction}
use Rattle.clap.specs.declared.builder.action.ArgAction.TheVariants.{Set, Append, SetTrue, SetFalse, Count, Help, HelpShort, HelpLong, Version}
use Rattle.clap.specs.declared.parser.matches.ValueSource.{ValueSource}
use Rattle.clap.specs.declared.parser.matches.ValueSource.TheVariants.{CommandLine}

-- where neither of two steps fails, the first does not, and the second does not
pub first_free : (x y : Kinds) → or_else x y ≡ [] → x ≡ []
first_free [] y free = refl
first_free (k ∷ ks) y free = cc

pub second_free : (x y : Kinds) → or_else x y ≡ [] → y ≡ []
second_free [] y free = free
second_free (k ∷ ks) y free = cc

-- what holds of each of a list holds of the one that is found
pub all_found : {X : Type 0} (P : X → Type 0) (p : X → Bool) (x : X) (xs : List X) → AllByRecursion P xs → find p xs ≡ Some x → P x
all_found P p x [] all is = cc
all_found P p x (y ∷ ys) all is = let later = all_found P p x ys all.1 in go later (p y) is
  where
    go : (find p ys ≡ Some x → P x) → (b : Bool) → cond b (Some y) (find p ys) ≡ Some x → P x
    go later true is = let same : y ≡ x = cc in subst P same all.0
    go later false is = later is

-- what a test finds of a whole list holds of each
pub every : {X : Type 0} (p : X → Bool) (xs : List X) → list_all p xs ≡ true → AllByRecursion (λ x. p x ≡ true) xs
every p [] passes = tt
every p (x ∷ xs) passes = let parts = both _ _ passes in (parts.0, every p xs parts.1)

-- a list of values with one at least
abbrev pub IsFilled : List Text → Type 0
IsFilled [] = ⊥
IsFilled (v ∷ vs) = Unit {0}

filled_more : (xs ys : List Text) → IsFilled xs → IsFilled (xs ++ ys)
filled_more [] ys filled = absurd filled
filled_more (x ∷ xs) ys filled = tt

taken_more : (a : Rule) (xs ys : List Text) → values_fault a xs ≡ [] → values_fault a ys ≡ [] → values_fault a (xs ++ ys) ≡ []
taken_more a [] ys x y = y
taken_more a (v ∷ xs) ys x y =
    let first = first_free (value_kinds a.ignore_case (parser_of_value a.parser) v) (values_fault a xs) x in
    let rest = second_free (value_kinds a.ignore_case (parser_of_value a.parser) v) (values_fault a xs) x in
    rw first (taken_more a xs ys rest y)

-- a use of the argument is kept as a row, with its values or with what stands for them
abbrev pub is_set : ArgAction → Bool
is_set Set = true
is_set SetTrue = true
is_set SetFalse = true
is_set _ = false

abbrev pub keeps_values : Rule → Bool
keeps_values a = is_set (action_of a) && (nat_lt 0 (unwrap_or_range a.range).start_inclusive || nat_lt 0 (length a.missing))

-- a use with no value, where one at least is wanted, is a fault
none_wanted : (least most : ℕ) → range_kinds least most 0 ≡ [] → nat_lt 0 least ≡ true → ⊥
none_wanted least most free some = let wrong = rw some at free in cc

filled_use : (a : Rule) (values : List Text) → (nat_lt 0 (unwrap_or_range a.range).start_inclusive || nat_lt 0 (length a.missing)) ≡ true
    → range_kinds (unwrap_or_range a.range).start_inclusive (most_values a) (length values) ≡ [] → IsFilled (values_or_missing a values)
filled_use a (v ∷ vs) some free = tt
filled_use a [] some free = go (nat_lt 0 (unwrap_or_range a.range).start_inclusive) (none_wanted (unwrap_or_range a.range).start_inclusive (most_values a) free) a.missing some
  where
    go : (b : Bool) → (b ≡ true → ⊥) → (missing : List Text) → (b || nat_lt 0 (length missing)) ≡ true → IsFilled missing
    go true none missing some = absurd (none refl)
    go false none [] some = cc
    go false none (v ∷ vs) some = tt

module _ (c : List Rule) where
  -- the row is that of an argument, which has values, and its parser takes them
  pub record IsGood (r : Row) : Type 0 where
    pub rule : Rule
    pub found : arg_by_id c r.id ≡ Some rule
    pub filled : IsFilled r.values
    pub taken : values_fault rule r.values ≡ []
    pub read : r.reading ≡ reading_by rule

  abbrev pub AreGood : List Row → Type 0
  AreGood = AllByRecursion IsGood

  -- the argument keeps its values, and no argument before it has its id
  pub record IsKept (a : Rule) : Type 0 where
    pub own : arg_by_id c a.id ≡ Some a
    pub kept : keeps_values a ≡ true

  without_good : (id : Text) (rows : List Row) → AreGood rows → AreGood (without id rows)
  without_good id [] good = tt
  without_good id (r ∷ rs) good = let later = without_good id rs good.1 in go later (bytes_eq r.id id)
    where
      go : AreGood (without id rs) → (b : Bool) → AreGood (if b then [] ++ rs else r ∷ without id rs)
      go later true = good.1
      go later false = (good.0, later)

  module _ (a : Rule) (kept : IsKept a) where
    some_same : (other : Rule) → Some other ≡ Some a → other ≡ a
    some_same other is = cc

    -- values that are given to the argument
    module _ (values : List Text) (filled : IsFilled values) (taken : values_fault a values ≡ []) where
      more_good : (source : ValueSource) (r : Row) → bytes_eq r.id a.id ≡ true → IsGood r → IsGood (record r { values = r.values ++ values; source = Some (stronger r.source source) })
      more_good source r same good =
          let is : r.id ≡ a.id = (bytes_eq-Decides r.id a.id).0 same in
          let rule : good.rule ≡ a = some_same good.rule (sym good.found ∙ ap (arg_by_id c) is ∙ kept.own) in
          record {
            rule = good.rule;
            found = good.found;
            filled = filled_more r.values values good.filled;
            taken = taken_more good.rule r.values values good.taken (subst (λ (b : Rule). values_fault b values ≡ []) (sym rule) taken);
            read = good.read;
          }

      pub given_good : (source : ValueSource) (rows : List Row) → AreGood rows → AreGood (with_values a.id (reading_by a) source values rows)
      given_good source [] good = (record { rule = a; found = kept.own; filled = filled; taken = taken; read = refl }, tt)
      given_good source (r ∷ rs) good = let later = given_good source rs good.1 in go later (bytes_eq r.id a.id) refl
        where
          go : AreGood (with_values a.id (reading_by a) source values rs) → (b : Bool) → bytes_eq r.id a.id ≡ b
              → AreGood (if b then more_values source values r ++ rs else r ∷ with_values a.id (reading_by a) source values rs)
          go later true same = (more_good source r same good.0, good.1)
          go later false other = (good.0, later)

    module _ (again : Bool) where
      set_good : (values : List Text) (rows : List Row) → IsFilled values → set_fault again a values rows ≡ [] → AreGood rows → AreGood (with_values a.id (reading_by a) CommandLine values (without a.id rows))
      set_good values rows filled free good = given_good values filled (second_free _ (values_fault a values) free) CommandLine (without a.id rows) (without_good a.id rows good)

      action_good : (action : ArgAction) (values : List Text) (rows : List Row) → is_set action ≡ true → IsFilled values → action_fault action again a values rows ≡ [] → AreGood rows
          → AreGood (used_as action a.id (reading_by a) values rows)
      action_good Set values rows is filled free good = set_good values rows filled free good
      action_good SetTrue values rows is filled free good = set_good values rows filled free good
      action_good SetFalse values rows is filled free good = set_good values rows filled free good
      action_good Append values rows is filled free good = cc
      action_good Count values rows is filled free good = cc
      action_good Help values rows is filled free good = cc
      action_good HelpShort values rows is filled free good = cc
      action_good HelpLong values rows is filled free good = cc
      action_good Version values rows is filled free good = cc

      -- one use
      pub used_good : (values : List Text) (rows : List Row) → use_fault again a values rows ≡ [] → AreGood rows → AreGood (used a values rows)
      used_good values rows free good =
          let is = both _ _ kept.kept in
          let least = (unwrap_or_range a.range).start_inclusive in
          let ranged = first_free (range_kinds least (most_values a) (length values)) _ free in
          let acted = second_free (range_kinds least (most_values a) (length values)) _ free in
          action_good (action_of a) (values_or_missing a values) rows is.0 (filled_use a values is.1 ranged) acted good

-- no two arguments have one id
abbrev pub has_own_ids : List Rule → Bool
has_own_ids [] = true
has_own_ids (a ∷ rest) = not (list_any (λ b. bytes_eq a.id b.id) rest) && has_own_ids rest

pub neither : (x y : Bool) → (x || y) ≡ false → (x ≡ false) × (y ≡ false)
neither true y e = cc
neither false y e = (refl, e)

pub not_true : (b : Bool) → not b ≡ true → b ≡ false
not_true true e = cc
not_true false e = refl

own_below : (a : Rule) (rest rules : List Rule) → list_any (λ b. bytes_eq a.id b.id) rules ≡ false → AllByRecursion (λ b. arg_by_id rest b.id ≡ Some b) rules
    → AllByRecursion (λ b. arg_by_id (a ∷ rest) b.id ≡ Some b) rules
own_below a rest [] other own = tt
own_below a rest (b ∷ bs) other own =
    let apart = neither (bytes_eq a.id b.id) (list_any (λ x. bytes_eq a.id x.id) bs) other in
    (rw apart.0 own.0, own_below a rest bs apart.1 own.1)

each_own : (rules : List Rule) → has_own_ids rules ≡ true → AllByRecursion (λ b. arg_by_id rules b.id ≡ Some b) rules
each_own [] apart = tt
each_own (a ∷ rest) apart =
    let parts = both _ _ apart in
    let same : bytes_eq a.id a.id ≡ true = (bytes_eq-Decides a.id a.id).1 refl in
    (rw same refl, own_below a rest rest (not_true _ parts.0) (each_own rest parts.1))

each_kept : (c rules : List Rule) → AllByRecursion (λ b. arg_by_id c b.id ≡ Some b) rules → list_all keeps_values rules ≡ true → AllByRecursion (IsKept c) rules
each_kept c [] own kept = tt
each_kept c (a ∷ rest) own kept = let parts = both _ _ kept in (record { own = own.0; kept = parts.0 }, each_kept c rest own.1 parts.1)

-- what is found by the mark of each is itself
module _ {X : Type 0} (same : X → X → Bool) where
  abbrev pub is_own : List X → Bool
  is_own [] = true
  is_own (a ∷ rest) = same a a && (not (list_any (λ b. same b a) rest) && is_own rest)

  found_below : (a : X) (rest xs : List X) → list_any (λ b. same b a) xs ≡ false → AllByRecursion (λ b. find (same b) rest ≡ Some b) xs
      → AllByRecursion (λ b. find (same b) (a ∷ rest) ≡ Some b) xs
  found_below a rest [] other own = tt
  found_below a rest (b ∷ bs) other own =
      let apart = neither (same b a) (list_any (λ x. same x a) bs) other in
      (rw apart.0 own.0, found_below a rest bs apart.1 own.1)

  pub each_found : (xs : List X) → is_own xs ≡ true → AllByRecursion (λ b. find (same b) xs ≡ Some b) xs
  each_found [] own = tt
  each_found (a ∷ rest) own =
      let parts = both (same a a) (not (list_any (λ b. same b a) rest) && is_own rest) own in
      let more = both (not (list_any (λ b. same b a) rest)) (is_own rest) parts.1 in
      (rw parts.0 refl, found_below a rest rest (not_true _ more.0) (each_found rest more.1))

-- the test of what the lemmas above ask of the arguments
abbrev pub are_kept : List Rule → Bool
are_kept rules = has_own_ids rules && list_all keeps_values rules

pub kept_from : (rules : List Rule) → are_kept rules ≡ true → AllByRecursion (IsKept rules) rules
kept_from rules kept = let parts = both _ _ kept in each_kept rules rules (each_own rules parts.0) parts.1
