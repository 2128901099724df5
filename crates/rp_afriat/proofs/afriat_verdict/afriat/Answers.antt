use Rattle.std.proofs.Common.{[], rules, ◌≡◌}
use Rattle.rp_evidence.specs.AfriatEvidence.{ProvesAfriat, ProvesOwnAfriat}
use Rattle.rp_evidence.specs.declared.afriat.AfriatPart.TheVariants.{NoModel}
use Rattle.rp_people.specs.Says.{SaysAfriat}
use Rattle.rp_people.specs.TablesOfCosts.{OfEachTable}
use Rattle.rp_people.proofs.TablesOfCosts.{afriat_of_each}
use Rattle.rp_table.specs.Cost.{cost_at}
use Rattle.rp_garp.proofs.MeetingLemmas.{if_ok, ok_with}
use Rattle.rp_afriat.proofs.SameVerdicts.{proves_at_one}
use Rattle.rp_afriat.proofs.afriat_verdict.afriat.Goals as goal

pub returns-in-Ranks-clause-proves_without_levels : goal.returns-in-Ranks-clause-proves_without_levels
returns-in-Ranks-clause-proves_without_levels c =
    let k = c.args.tested.now.costs in
    if_ok (ProvesOwnAfriat k.n k.levels (cost_at k)) (ProvesAfriat k.n (cost_at k)) (k.levels ≡ []) (proves_at_one k.n k.levels (cost_at k))
    c.standard.result c.standard.ensures.proves

pub returns-in_ok-walk-in-Cycle-clause-proves_without_levels :
    goal.returns-in_ok-walk-in-Cycle-clause-proves_without_levels
returns-in_ok-walk-in-Cycle-clause-proves_without_levels c =
    let k = c.args.tested.now.costs in
    let own : ProvesOwnAfriat k.n k.levels (cost_at k) (NoModel c.from_vec.result) = search rules in
    λ none. proves_at_one k.n k.levels (cost_at k) none (NoModel c.from_vec.result) own

pub returns-in-Ranks-clause-says : goal.returns-in-Ranks-clause-says
returns-in-Ranks-clause-says c =
    let k = c.args.tested.now.costs in
    ok_with (ProvesOwnAfriat k.n k.levels (cost_at k)) (λ part. OfEachTable k (λ input. SaysAfriat input part)) (afriat_of_each k)
    c.standard.result c.standard.ensures.proves

pub returns-in_ok-walk-in-Cycle-clause-says : goal.returns-in_ok-walk-in-Cycle-clause-says
returns-in_ok-walk-in-Cycle-clause-says c =
    let k = c.args.tested.now.costs in
    let own : ProvesOwnAfriat k.n k.levels (cost_at k) (NoModel c.from_vec.result) = search rules in
    afriat_of_each k (NoModel c.from_vec.result) own
