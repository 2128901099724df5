use Rattle.std.proofs.Common.{rules, subst, sym, ◌∙◌, IfOk, IfSome}
use Rattle.serde_json.specs.View.{members_view, view}
use Rattle.rp_json_entries.specs.InnerMembers.{AreNamed, texts, views}
use Rattle.rp_json_entries.specs.Reading.{IsFound}
use Rattle.rp_json_entries.proofs.MemberLemmas.{if_object, length_texts}
use Rattle.rp_json_entries.proofs.objects.read_object.Goals as goal

pub returns-in-Some-2 : goal.returns-in-Some-2
returns-in-Some-2 g c =
    if_object g.F.Fields.listed g.F.Fields.fit (texts c.args.names.now) (view c.args.value.now) (members_view c.in-Some.members.now.entries) (views c.in-Some-2.values.items) c.read.result
    (λ x. c.requires x ∙ sym (length_texts c.args.names.now)) (search rules)
    (subst (λ o. IfSome o (λ values. AreNamed (texts c.args.names.now) (members_view c.in-Some.members.now.entries) (views values.items))) c.in-Some-2.is c.in_ok-values.ensures.some)
    (subst (λ vs. IfOk c.read.result (λ o. IsFound g.F.Fields.listed g.F.Fields.fit (views vs) o)) c.as_slice.ensures.value c.read.ensures)
