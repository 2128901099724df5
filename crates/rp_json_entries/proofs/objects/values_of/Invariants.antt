use Rattle.serde_json.specs.View.{members_view}
use Rattle.rp_json_entries.specs.InnerMembers.{texts, views}
use Rattle.rp_json_entries.proofs.MemberLemmas.{AreSeen}
use Rattle.rp_json_entries.proofs.objects.values_of.Given as goal

abbrev pub invariant-loop-name : goal.invariant-loop-name
invariant-loop-name l = AreSeen (texts l.names) (members_view l.fn.members.entries) (members_view l.name-iterator) (views l.values.items)
