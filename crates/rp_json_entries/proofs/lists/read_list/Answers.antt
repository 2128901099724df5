use Rattle.std.proofs.Common.{subst}
use Rattle.serde_json.specs.View.{view}
use Rattle.rp_json_entries.specs.Reading.{IsFound}
use Rattle.rp_json_entries.proofs.ListLemmas.{none_read, none_yet, one_read}
use Rattle.rp_json_entries.proofs.lists.read_list.Goals as goal

pub loop-value-init : goal.loop-value-init
loop-value-init g c = rw c.in_ok-entries.ensures.items (none_yet g.N.Notation.value_of g.N.Notation.fits)

pub returns-in-None : goal.returns-in-None
returns-in-None g c =
    none_read g.N.Notation.value_of g.N.Notation.fits view c.args.values.now c.loop-value.value-index c.value-item.result c.loop-value-test.true c.value-item.is
    (subst (IsFound g.N.Notation.value_of g.N.Notation.fits (view c.value-item.result)) c.in-None.is c.in_ok-entry.ensures)

pub loop-value-preserved : goal.loop-value-preserved
loop-value-preserved g c =
    one_read g.N.Notation.value_of g.N.Notation.fits view c.args.values.now c.loop-value.value-index c.value-item.result c.loop-value.entries.items c.push.new.self.items c.in-Some.entry
    c.loop-value-test.true c.value-item.is c.loop-value.invariant
    (subst (IsFound g.N.Notation.value_of g.N.Notation.fits (view c.value-item.result)) c.in-Some.is c.in_ok-entry.ensures)
    (c.in_ok-push-in-Some.ensures.items)
