use Rattle.std.proofs.Common.{◌∙◌, ap, List, ℕ, ◌++◌}
use Rattle.rp_answers.specs.TrialLines.{verdict_lines}
use Rattle.rp_answers.proofs.trial.report_trial.Goals as goal

pub returns : goal.returns
returns c =
    let v = c.args.verdicts.now in
    c.in_ok-push_verdicts.ensures ∙ ap (λ (t : List ℕ). t ++ verdict_lines v.garp v.efficiency v.homothetic v.quasilinear) c.in_ok-text.ensures
