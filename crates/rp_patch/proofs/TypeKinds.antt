-- Rational types as kinds: each uses a patch of every budget, and the patches of each budget have the total.
use Rattle.std.proofs.Common.{ℕ, List}
use Rattle.rp_patch.specs.Kinds.{AreWhole, UsesOneOfEach}
use Rattle.rp_patch.specs.Mixtures.{types_on}
use Rattle.rp_patch.specs.Patches.{IsPatchList, PatchList}
use Rattle.rp_patch.specs.Types.{IsType}

pub one_of_each : (p : PatchList) (type : List ℕ) → IsType p type → UsesOneOfEach (types_on p) type
one_of_each p type is = record {
  one_each = is.one_each;
  cell = is.patch;
  in_its_group = is.on_its_budget;
}

pub are_whole : (p : PatchList) → IsPatchList p → AreWhole (types_on p)
are_whole p is = record {
  some_groups = is.some_budgets;
  in_groups = is.on_budgets;
  filled = is.filled;
  one_of_each = λ type rational. one_of_each p type rational.0;
}
