use Rattle.std.proofs.Common.{◌≡◌, ◌<◌, length, rules, subst, ℕ}
use Rattle.rp_generated.specs.InnerRounds.{AddsFirst}
use Rattle.rp_generated.proofs.RoundLaws.{adds_more}
use Rattle.rp_generated.proofs.rounds.add_all.Goals as goal

pub loop-k-preserved : goal.loop-k-preserved
loop-k-preserved c = λ p by are.
    let types = c.args.types.now in
    let k = c.loop-k.k in
    let inside : k < length types = search rules in
    adds_more p by types k c.args.program.now c.loop-k.program c.add.new.self c.index-types-k.result c.as_slice.result.now inside c.index-types-k.is c.as_slice.ensures.value c.in_ok-add.ensures.tableau c.in_ok-add.ensures.columns are (c.loop-k.invariant p by are)

pub returns : goal.returns
returns c = λ p by are.
    let all : c.loop-k.k ≡ length c.args.types.now = search rules in
    subst (λ (n : ℕ). AddsFirst p by n c.args.program.now c.loop-k.program) all (c.loop-k.invariant p by are)
