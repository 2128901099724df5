use Rattle.std.proofs.Common.{◌≡◌, arith, refl, subst}
use Rattle.rp_evidence.specs.Input.{input_of_table}
use Rattle.rp_table.specs.Tables.{records_of}
use Rattle.rp_check_fit.specs.Axioms.{IsPairOf}
use Rattle.rp_check_fit.proofs.CountedPairs.{PairsBelow, all_pairs_counted, counted_more, no_pairs_below}
use Rattle.rp_check_fit.proofs.pair_counts.count_pairs.Goals as goal

pub loop-s-init : goal.loop-s-init
loop-s-init c =
    let table = c.args.input.now.table.now in
    (no_pairs_below (records_of table) (IsPairOf (input_of_table table) c.args.which), omega arith)

pub loop-s-preserved : goal.loop-s-preserved
loop-s-preserved c =
    let table = c.args.input.now.table.now in
    counted_more c.loop-s.s (records_of table) (IsPairOf (input_of_table table) c.args.which) c.loop-s.count c.count_seconds-count.result _ c.loop-s.invariant c.count_seconds-count.ensures.number
    c.count_seconds-count.ensures.few refl

pub returns : goal.returns
returns c =
    let table = c.args.input.now.table.now in
    let relation = IsPairOf (input_of_table table) c.args.which in
    let e : c.loop-s.s ≡ records_of table = omega arith in
    all_pairs_counted (records_of table) relation c.loop-s.count (subst (λ k. PairsBelow k (records_of table) relation c.loop-s.count) e c.loop-s.invariant.0)
