-- No choices both have patches within the limits and are refused, and the patches that they have are the same but for their units.
use Rattle.std.proofs.Common.{◌≡◌, ◌≢◌, ◌≤◌, ◌==◌, ◌*◌, ◌+◌, ℕ, zero, suc, true, false, pos, ◌≤ℤ◌, ◌<ℤ◌, List, Option, None, Some, length, map, slice_index, length-append, if◌then◌else◌, refl, sym, ap, subst, ◌∙◌, arith}
use Rattle.std.proofs.lemmas.Bool.{ltb-false, ltb-true}
use Rattle.std.specs.Prelude.{nat_lt}
use Rattle.rp_evidence.specs.Garp.{HasNoViolation}
use Rattle.rp_table.specs.Sums.{sum_below}
use Rattle.rp_patch.specs.Apportionment.{GroupedCounts, HasExactShares, HasShares, IsCommonMultiple, PassesTotalAt}
use Rattle.rp_patch.specs.Choices.{RandomInput}
use Rattle.rp_patch.specs.Patches.{IsPatchList, PatchList, budget_at, sign_at, units_at}
use Rattle.rp_patch.specs.Types.{AreRationalTypes, IsRationalType, IsType, combinations, patches_on}
use Rattle.rp_patch.specs.Units.{ArePatchesOf, SaysWhyWithin, chosen_as, chosen_below, chosen_counts, tally_on}
use Rattle.rp_patch.specs.declared.fault.PatchFault.{PatchFault}
use Rattle.rp_patch.specs.declared.fault.PatchFault.TheVariants as patch_fault
use Rattle.rp_types.specs.Listed.{SaysWhy as SaysWhyNoTypes}
use Rattle.rp_limits.specs.declared.types.TheConstants.{COMBINATIONS, TYPES}
use Rattle.rp_types.specs.declared.fault.TypesFault.{TypesFault}
use Rattle.rp_types.specs.declared.fault.TypesFault.TheVariants as types_fault
use Rattle.rp_commands.proofs.Pigeons.{no_longer}

-- ---- patches

-- more budgets have more patches
pub chosen_within : (input : RandomInput) (j n : ℕ) → j ≤ n → length (chosen_below input j) ≤ length (chosen_below input n)
chosen_within input j zero le =
    let none : j ≡ 0 = omega (arith, le) in
    subst (λ m. length (chosen_below input m) ≤ length (chosen_below input 0)) (sym none) (omega arith)
chosen_within input j (suc n) le = go (λ l. chosen_within input j n l) (nat_lt j (suc n)) refl
  where
    go : (j ≤ n → length (chosen_below input j) ≤ length (chosen_below input n)) → (t : _) → nat_lt j (suc n) ≡ t → length (chosen_below input j) ≤ length (chosen_below input (suc n))
    go earlier true is =
        let l = ltb-true j (suc n) is in
        let less = earlier (omega (arith, l)) in
        omega (arith, less, length-append (chosen_below input n) (map (chosen_as n) (tally_on input n)))
    go earlier false is =
        let past = ltb-false j (suc n) is in
        let same : suc n ≡ j = omega (arith, past, le) in
        subst (λ m. length (chosen_below input j) ≤ length (chosen_below input m)) (sym same) (omega arith)

-- what passes the limit has no shares without a number that is asked for
pub passes_apart : (g : GroupedCounts) (asked : Option ℕ) (all : ℕ) (units : ℕ → ℕ) (j : ℕ) → HasShares g asked all units → all ≤ 1000000000 → asked ≡ None → PassesTotalAt g j → ⊥
passes_apart g None all units j shares few none (below, fits, (m, (multiple, least), many)) =
    let exact : HasExactShares g all units = shares in
    let first : IsCommonMultiple g (j + 1) all = (exact.total.0.0, λ i l. exact.total.0.1 i (omega (arith, below, l))) in
    omega (arith, least all first, many, few)
passes_apart g (Some unit) all units j shares few none passes = cc

pub patches_apart : (input : RandomInput) (asked : Option ℕ) (most : ℕ) (p : PatchList) (fault : PatchFault) → ArePatchesOf input asked p → IsPatchList p → length p.patches ≤ most → fault ≢ patch_fault.NoMemory
    → SaysWhyWithin input asked most fault → ⊥
patches_apart input asked most p (patch_fault.TooManyPatches j) are valid few_patches other (below, few, many) =
    let rise = chosen_within input (j + 1) input.budgets (omega (arith, below)) in
    omega (arith, rise, many, are.count, few_patches)
patches_apart input asked most p (patch_fault.NeedUnit j) are valid few_patches other (few, none, passes) =
    passes_apart (chosen_counts input) asked p.total (units_at p) j are.units valid.few_units none passes
patches_apart input asked most p patch_fault.NoMemory are valid few_patches other why = other refl

-- ---- types

-- two lists of patches that are the same but for their units
pub record AreAlike (p q : PatchList) : Type 0 where
  pub budgets : p.budgets ≡ q.budgets
  pub count : length p.patches ≡ length q.patches
  pub budget : (i : ℕ) → budget_at p i ≡ budget_at q i
  pub sign : (i k : ℕ) → sign_at p i k ≡ sign_at q i k

same_on : (p q : PatchList) → AreAlike p q → (j : ℕ) → patches_on p j ≡ patches_on q j
same_on p q like j = λ k. sum_below (like.count k) (λ i. if like.budget i k == j then 1 else 0)

same_ways : (p q : PatchList) → AreAlike p q → (n : ℕ) → combinations p n ≡ combinations q n
same_ways p q like zero = refl
same_ways p q like (suc j) = λ k. same_ways p q like j k * same_on p q like j k

-- the same types are rational
same_type : (p q : PatchList) → AreAlike p q → (type : List ℕ) → IsType p type → IsType q type
same_type p q like type t = record {
  one_each = t.one_each ∙ like.budgets;
  patch = λ j l. omega (arith, like.count, t.patch j (omega (arith, like.budgets, l)));
  on_its_budget = λ j l. sym (like.budget (slice_index type j)) ∙ t.on_its_budget j (omega (arith, like.budgets, l));
}

pub same_rational : (p q : PatchList) → AreAlike p q → (type : List ℕ) → IsRationalType p type → IsRationalType q type
same_rational p q like type (t, none) = (
  same_type p q like type t,
  subst (λ (claim : Type 0). claim)
      (λ i. HasNoViolation (like.budgets i) (λ k j. like.sign (slice_index type j) k i ≤ℤ pos 0) (λ k j. like.sign (slice_index type j) k i <ℤ pos 0)) none,
)

pub types_apart : (p q : PatchList) (types : List (List ℕ)) (fault : TypesFault) → AreAlike q p → AreRationalTypes p types → length types ≤ TYPES → combinations p p.budgets ≤ COMBINATIONS
    → fault ≢ types_fault.NoMemory → SaysWhyNoTypes q fault → ⊥
types_apart p q types types_fault.TooManyCombinations like all few within other many =
    let same : combinations q q.budgets ≡ combinations p p.budgets = same_ways q p like q.budgets ∙ ap (combinations p) like.budgets in
    omega (arith, same, many, within)
types_apart p q types types_fault.TooManyTypes like all few within other (fits, (more, apart, rational, many)) =
    let inside = no_longer more types apart (λ type has. (all.just_these type).1 (same_rational q p like type (rational type has))) in
    omega (arith, inside, many, few)
types_apart p q types types_fault.NoMemory like all few within other why = other refl
