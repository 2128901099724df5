use Rattle.std.proofs.Common.{◌≡◌, []}
use Rattle.rp_evidence.specs.Garp.{ProvesGarp, ProvesOfPreference}
use Rattle.rp_people.specs.Says.{SaysOfChoices}
use Rattle.rp_people.specs.TableChoices.{choices_of}
use Rattle.rp_people.specs.TablesOfCosts.{OfEachTable}
use Rattle.rp_people.proofs.TablesOfCosts.{garp_of_each}
use Rattle.rp_pref.specs.Steps.{OwnStrict, OwnWeak}
use Rattle.rp_pref.specs.Violation.{IsVerdictOfPreference}
use Rattle.rp_table.specs.Cost.{cost_at}
use Rattle.rp_garp.specs.GarpVerdict.{IsGarpVerdict}
use Rattle.rp_garp.proofs.MeetingLemmas.{if_ok, ok_with}
use Rattle.rp_garp.proofs.SameVerdicts.{given_at_one, proves_at_one}
use Rattle.rp_garp.proofs.garp_verdict.garp.Goals as goal

pub returns-clause-proves_without_levels : goal.returns-clause-proves_without_levels
returns-clause-proves_without_levels c =
    let k = c.args.costs.now in
    if_ok (ProvesOfPreference k.n (OwnWeak k) (OwnStrict k)) (ProvesGarp k.n (cost_at k)) (k.levels ≡ []) (proves_at_one k.n k.levels (cost_at k))
    c.own_verdict.result c.own_verdict.ensures.proves

pub returns-clause-given_without_levels : goal.returns-clause-given_without_levels
returns-clause-given_without_levels c =
    let k = c.args.costs.now in
    if_ok (IsVerdictOfPreference k.n (OwnWeak k) (OwnStrict k)) (IsGarpVerdict k.n (cost_at k)) (k.levels ≡ []) (given_at_one k.n k.levels (cost_at k))
    c.own_verdict.result c.own_verdict.ensures.given

pub returns-clause-says : goal.returns-clause-says
returns-clause-says c =
    let k = c.args.costs.now in
    ok_with (ProvesOfPreference k.n (OwnWeak k) (OwnStrict k)) (λ verdict. OfEachTable k (λ input. SaysOfChoices (choices_of input) verdict)) (garp_of_each k)
    c.own_verdict.result c.own_verdict.ensures.proves
