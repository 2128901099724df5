use Rattle.std.proofs.Common.{subst, sym, List}
use Rattle.rp_patch.specs.Types.{AreRationalTypes}
use Rattle.rp_types.specs.Listed.{types_of}
use Rattle.rp_types.specs.declared.types.Rational.{Rational}
use Rattle.rp_types.proofs.ListedTypes.{all_listed, none_listed}
use Rattle.rp_types.proofs.search.rational_types.Goals as goal

pub extend-requires-clause-so_far : goal.extend-requires-clause-so_far
extend-requires-clause-so_far c = none_listed c.args.patches.now _ _ c.new-partial.ensures.none c.new-types.ensures.items

pub returns-clause-all : goal.returns-clause-all
returns-clause-all c =
    subst (λ (ts : List Rational). AreRationalTypes c.args.patches.now (types_of ts)) (sym c.from_vec.ensures)
    (all_listed c.args.patches.now _ _ c.new-partial.ensures.none c.in_ok-extend.ensures.listed)
