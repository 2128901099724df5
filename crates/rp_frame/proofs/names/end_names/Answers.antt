use Rattle.rp_frame.proofs.NameLemmas.{ended_all, ended_more}
use Rattle.rp_frame.proofs.names.end_names.Goals as goal

pub loop-name-preserved : goal.loop-name-preserved
loop-name-preserved c = record {
  rest = ended_more c.args.names.now c.loop-name.name-index _ c.loop-name.text.items _ _ _ c.loop-name-test.true c.loop-name.invariant.rest
      c.as_bytes.ensures.value c.in_ok-extend_from_slice.ensures.items c.in_ok-push.ensures.items;
}

pub returns : goal.returns
returns c = ended_all c.args.names.now c.loop-name.name-index c.loop-name.text.items c.loop-name-test.false c.loop-name.invariant.rest
