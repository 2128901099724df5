use Rattle.std.proofs.Common.{arith}
use Rattle.std.proofs.lemmas.Bool.{eqb-true}
use Rattle.rp_power.proofs.Contradictions.{contradicts_back, own_at, own_count}
use Rattle.rp_power.proofs.contradiction.contradict.Goals as goal

pub bounds-own-s : goal.bounds-own-s
bounds-own-s c = omega (arith, own_count c.args.table.now c.args.quantities.now c.args.own.now c.requires.own, c.requires.first)

pub bounds-own-t : goal.bounds-own-t
bounds-own-t c = omega (arith, own_count c.args.table.now c.args.quantities.now c.args.own.now c.requires.own, c.requires.second)

pub bounds-own-t-then-other-spent-2 : goal.bounds-own-t-then-other-spent-2
bounds-own-t-then-other-spent-2 c = omega (arith, own_count c.args.table.now c.args.quantities.now c.args.own.now c.requires.own, c.requires.second)

pub returns-then-back-own : goal.returns-then-back-own
returns-then-back-own c told =
    let at_s = own_at c.args.table.now c.args.quantities.now c.args.own.now c.requires.own c.args.s c.requires.first in
    let at_t = own_at c.args.table.now c.args.quantities.now c.args.own.now c.requires.own c.args.t c.requires.second in
    contradicts_back c.args.table.now c.args.quantities.now c.args.s c.args.t c.requires.first c.requires.second
    (omega (arith, at_s, c.drawn_cost-other.ensures, c.if-other-spent.false))
    (omega (arith, at_t, c.drawn_cost-back.ensures, c.if-back-own.true))

pub returns-then-other-spent-2 : goal.returns-then-other-spent-2
returns-then-other-spent-2 c told =
    let at_s = own_at c.args.table.now c.args.quantities.now c.args.own.now c.requires.own c.args.s c.requires.first in
    let at_t = own_at c.args.table.now c.args.quantities.now c.args.own.now c.requires.own c.args.t c.requires.second in
    let same = eqb-true _ _ told in
    contradicts_back c.args.table.now c.args.quantities.now c.args.t c.args.s c.requires.second c.requires.first
    (omega (arith, at_t, c.drawn_cost-back.ensures, same))
    (omega (arith, at_s, c.drawn_cost-other.ensures, c.if-other-spent-2.true))
