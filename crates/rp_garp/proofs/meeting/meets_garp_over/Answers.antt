use Rattle.rp_garp.proofs.MeetingLemmas.{holds_where_told, violated_where_told}
use Rattle.rp_garp.proofs.meeting.meets_garp_over.Goals as goal

pub returns-clause-holds : goal.returns-clause-holds
returns-clause-holds g c =
    let p = c.args.preference.now in
    holds_where_told (g.P.Revealed.count p) (g.P.Revealed.weak p) (g.P.Revealed.strict p) c.requires.strict_is_weak c.is_violated.result c.is_violated.ensures

pub returns-clause-violated : goal.returns-clause-violated
returns-clause-violated g c =
    let p = c.args.preference.now in
    violated_where_told (g.P.Revealed.count p) (g.P.Revealed.weak p) (g.P.Revealed.strict p) c.requires.strict_is_weak c.is_violated.result c.is_violated.ensures
