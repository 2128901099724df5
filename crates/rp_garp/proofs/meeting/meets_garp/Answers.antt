use Rattle.std.proofs.Common.{◌≡◌, ◌↔◌, [], IsTrue}
use Rattle.rp_evidence.specs.Garp.{HasNoViolation, MeetsGarp}
use Rattle.rp_pref.specs.Steps.{OwnStrict, OwnWeak}
use Rattle.rp_table.specs.Cost.{cost_at}
use Rattle.rp_garp.proofs.MeetingLemmas.{if_ok, meets_at_one}
use Rattle.rp_garp.proofs.meeting.meets_garp.Goals as goal

pub returns-clause-without_levels : goal.returns-clause-without_levels
returns-clause-without_levels c =
    let k = c.args.costs.now in
    if_ok (λ holds. IsTrue holds ↔ HasNoViolation k.n (OwnWeak k) (OwnStrict k)) (λ holds. IsTrue holds ↔ MeetsGarp k.n (cost_at k)) (k.levels ≡ [])
    (λ none holds told. let same = meets_at_one k.n (cost_at k) k.levels none in (λ h. same.0 (told.0 h), λ h. told.1 (same.1 h)))
    c.meets_garp_over.result c.meets_garp_over.ensures.holds
