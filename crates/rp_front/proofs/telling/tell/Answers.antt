use Rattle.std.proofs.Common.{rules, arith, ◌≤◌, [], length}
use Rattle.std.proofs.lemmas.List.{take_all}
use Rattle.rp_front.proofs.GainsLemmas.{grows_then, grows_then_part, at_piece, flat_map-more, rises_later}
use Rattle.rp_front.proofs.telling.tell.Goals as goal

pub returns-in_default-clause-part : goal.returns-in_default-clause-part
returns-in_default-clause-part g c = λ _. (
  rw (at_piece (λ piece. piece.now) c.args.pieces.now c.loop-piece.piece-index (record { ref_ptr = (0, 0); now = [] }) c.loop-piece-test.true)
      (grows_then_part _ _ _ _ _ _ c.loop-piece.invariant.grown c.in_default.ensures.prefix),
  rises_later _ _ _ c.loop-piece.invariant.never_falls c.in_default.ensures.fault_counted,
)

pub loop-piece-preserved : goal.loop-piece-preserved
loop-piece-preserved g c = record {
  grown = rw (flat_map-more (λ piece. piece.now) c.args.pieces.now c.loop-piece.piece-index (record { ref_ptr = (0, 0); now = [] }) c.loop-piece-test.true)
      (grows_then _ _ _ _ _ c.loop-piece.invariant.grown c.in-Ok.ensures.whole);
  never_falls = search rules;
}

pub returns-clause-whole : goal.returns-clause-whole
returns-clause-whole g c = λ _.
    let all : length c.args.pieces.now ≤ c.loop-piece.piece-index = omega arith in
    let grown = c.loop-piece.invariant.grown in
    rw (take_all c.loop-piece.piece-index c.args.pieces.now all) at grown
