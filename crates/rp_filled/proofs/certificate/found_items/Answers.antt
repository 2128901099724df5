use Rattle.std.proofs.Common.{ℕ, rules, length, subst, sym, map-id}
use Rattle.std.proofs.lemmas.Iterator.Consumers.{YieldsList-end, YieldsList-turn}
use Rattle.std.proofs.lemmas.Iterator.Adapters.{YieldsList-from_vec}
use Rattle.rp_evidence.specs.Input.{input_of_table}
use Rattle.rp_evidence.specs.declared.certificate.Item.{Item}
use Rattle.rp_table.specs.Tables.{Observations}
use Rattle.rp_filled.specs.InnerFound.{IsFoundItem, ItemPasses}
use Rattle.rp_filled.proofs.FoundLemmas.{none_paired, paired_more}
use Rattle.rp_filled.proofs.certificate.found_items.Goals as goal

pub loop-item-init : goal.loop-item-init
loop-item-init c = none_paired _ _ c.new-all.ensures.items

pub found_item-requires-clause-passes : goal.found_item-requires-clause-passes
found_item-requires-clause-passes c =
    let turn = YieldsList-turn (YieldsList-from_vec {s = c.into_iter-item-iterator.result} c.args.stated.items (search rules) (search rules))
    c.loop-item.yielded c.loop-item.item-iterator c.loop-item.yielded_by c.next.result c.next.new.self c.in-Some.item c.in-Some.is c.next.ensures.steps in
    subst (λ (table : Observations). ItemPasses (input_of_table table) c.in-Some.item) (sym c.new-input.ensures.of)
    (subst (λ (item : Item). ItemPasses (input_of_table c.args.table.now) item) (sym turn.1) (c.requires.pass (length c.loop-item.yielded) c.in-Some.item turn.0))

pub loop-item-preserved : goal.loop-item-preserved
loop-item-preserved c =
    let l = c.loop-item in
    paired_more (λ (k : ℕ). IsFoundItem (input_of_table c.args.table.now)) l.yielded l.all.items c.in-Some.item c.in_ok-found.found l.invariant
    (subst (λ (table : Observations). IsFoundItem (input_of_table table) c.in-Some.item c.in_ok-found.found) c.new-input.ensures.of c.in_ok-found.ensures) c.push.new.self.items c.in_ok-push.ensures.items

pub returns : goal.returns
returns c =
    let end = YieldsList-end (YieldsList-from_vec {s = c.into_iter-item-iterator.result} c.args.stated.items (search rules) (search rules))
    c.loop-item.yielded c.loop-item.item-iterator c.loop-item.yielded_by c.next.result c.next.new.self c.in-None.is c.next.ensures.steps in
    rw (← end.0, map-id) c.loop-item.invariant
