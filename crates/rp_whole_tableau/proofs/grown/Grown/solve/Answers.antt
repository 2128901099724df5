use Rattle.std.proofs.Common.{◌≡◌, ◌<◌, inl, inr, rules}
use Rattle.rp_whole_tableau.proofs.GrownPrograms.{leads_more, stopped}
use Rattle.rp_whole_tableau.specs.Programs.{ColumnPasses}
use Rattle.rp_whole_tableau.proofs.grown.Grown.solve.Goals as goal

pub returns-in_default : goal.returns-in_default
returns-in_default c =
    let passes : ColumnPasses c.loop-pivot.self = search rules in
    let few : c.loop-pivot._pivot < 8192 = search rules in
    (c.loop-pivot._pivot, c.loop-pivot.self, c.loop-pivot.invariant, inr (few, inl passes))

pub returns-then-not-branch : goal.returns-then-not-branch
returns-then-not-branch c =
    let few : c.loop-pivot._pivot < 8192 = search rules in
    (c.loop-pivot._pivot, c.loop-pivot.self, c.loop-pivot.invariant, inr (few, stopped _ c.loop-pivot.self c.in_ok-enter.field-0 c.if-not-branch.true c.in_ok-enter.ensures))

pub loop-pivot-preserved : goal.loop-pivot-preserved
loop-pivot-preserved c = leads_more _ c.loop-pivot._pivot c.args.self.now c.loop-pivot.self c.enter.new.self c.in_ok-enter.field-0 c.loop-pivot.invariant c.if-not-branch.false c.in_ok-enter.ensures

pub returns : goal.returns
returns c =
    let all : c.loop-pivot._pivot ≡ 8192 = search rules in
    (c.loop-pivot._pivot, c.loop-pivot.self, c.loop-pivot.invariant, inl all)
