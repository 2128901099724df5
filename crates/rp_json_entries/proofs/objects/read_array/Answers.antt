use Rattle.std.proofs.Common.{rules, subst, IfOk, map, ◌∙◌, ap}
use Rattle.std.proofs.lemmas.List.{take_all}
use Rattle.serde_json.specs.View.{view}
use Rattle.rp_json_entries.specs.InnerMembers.{views}
use Rattle.rp_json_entries.specs.Reading.{IsFound}
use Rattle.rp_json_entries.proofs.MemberLemmas.{if_items}
use Rattle.rp_json_entries.proofs.objects.read_array.Goals as goal

pub returns : goal.returns
returns g c =
    if_items g.F.Fields.listed g.F.Fields.fit (view c.args.value.now) (map view c.in-Some.items.now.items) c.read.result (search rules)
    (subst (λ vs. IfOk c.read.result (λ o. IsFound g.F.Fields.listed g.F.Fields.fit vs o))
    (ap views c.as_slice.ensures.value ∙ c.loop-item.invariant ∙ ap (map view) (take_all c.loop-item.item-index c.deref-item-items.result.now c.loop-item-test.false ∙ c.deref-item-items.ensures.value))
    c.read.ensures)
