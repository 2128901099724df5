use Rattle.std.proofs.Common.{IfSome, subst}
use Rattle.serde_json.specs.View.{members_view}
use Rattle.rp_json_entries.specs.InnerMembers.{AreNamed, views}
use Rattle.rp_json.proofs.TopLemmas.{not_without_levels, three_names, without_levels}
use Rattle.rp_json.proofs.reading.read_no_levels.Goals.{in-Some, in-None}
use Rattle.rp_json.proofs.reading.read_no_levels.Goals as goal

pub returns : goal.returns
returns c = λ kind.
    let members = members_view c.args.members.now.entries in
    elim c.match-branch-2.branch [
      | in-Some w ↦ rw (w.result-is, w.no_levels.ensures) (without_levels kind members _
          (subst (λ o. IfSome o (λ values. AreNamed three_names members (views values.items))) w.in-Some.is c.in_ok-values_of.ensures.some))
      | in-None w ↦ rw w.result-is (not_without_levels kind members (c.in_ok-values_of.ensures.none w.in-None.is))
    ]
