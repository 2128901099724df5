use Rattle.std.proofs.Common.{IfSome, subst}
use Rattle.serde_json.specs.View.{members_view}
use Rattle.rp_json_entries.specs.InnerMembers.{AreNamed, views}
use Rattle.rp_json_fit.proofs.TopLemmas.{just_three, not_three, three_names}
use Rattle.rp_json_fit.proofs.reading.are_its_members.Goals.{in-Some, in-None}
use Rattle.rp_json_fit.proofs.reading.are_its_members.Goals as goal

pub returns : goal.returns
returns c =
    let members = members_view c.args.members.now.entries in
    elim c.match-branch-2.branch [
      | in-Some w ↦ rw w.result-is (just_three members _
          (subst (λ o. IfSome o (λ values. AreNamed three_names members (views values.items))) w.in-Some.is c.in_ok-values_of.ensures.some))
      | in-None w ↦ rw w.result-is (not_three members (c.in_ok-values_of.ensures.none w.in-None.is))
    ]
