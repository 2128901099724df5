use Rattle.std.proofs.Common.{◌≤◌, arith}
use Rattle.rp_pref.specs.Steps.{StepOf}
use Rattle.rp_pref.proofs.Noted.{made_closure}
use Rattle.rp_pref.proofs.closure.Closure.over.Goals as goal

pub invariant_of-result : goal.invariant_of-result
invariant_of-result g c =
    let p = c.args.preference.now in let words = c.words_for.ensures in let noted = c.note_steps.ensures in let closed = c.close.ensures in
    let small : c.words_for.result ≤ 1024 = omega (arith, words.few, c.n-n.ensures.count, c.n-n.ensures.few) in
    (made_closure c.n-n.result (g.P.Revealed.count p) c.words_for.result c.in_ok-bits.bits c.note_steps.new.bits c.close.new.bits (StepOf c.args.steps (g.P.Revealed.weak p) (g.P.Revealed.strict p))
    c.n-n.ensures.count words.enough small c.in_ok-bits.ensures noted.count noted.cols closed.count closed.cols noted.exact closed.rows).0

pub returns : goal.returns
returns g c =
    let p = c.args.preference.now in let words = c.words_for.ensures in let noted = c.note_steps.ensures in let closed = c.close.ensures in
    let small : c.words_for.result ≤ 1024 = omega (arith, words.few, c.n-n.ensures.count, c.n-n.ensures.few) in
    (made_closure c.n-n.result (g.P.Revealed.count p) c.words_for.result c.in_ok-bits.bits c.note_steps.new.bits c.close.new.bits (StepOf c.args.steps (g.P.Revealed.weak p) (g.P.Revealed.strict p))
    c.n-n.ensures.count words.enough small c.in_ok-bits.ensures noted.count noted.cols closed.count closed.cols noted.exact closed.rows).1
