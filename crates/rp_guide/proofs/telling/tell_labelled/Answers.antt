use Rattle.std.proofs.Common.{rules, ◌≤◌, ◌++◌, ◌∷◌, [], ◌≡◌, ℕ, List, length, ap, sym, ◌∙◌}
use Rattle.rp_guide.specs.Gains.{Gains}
use Rattle.rp_guide.specs.Hints.{hint_text, labelled}
use Rattle.rp_guide.proofs.WordLemmas.{told_behind}
use Rattle.rp_guide.proofs.telling.tell_labelled.Goals as goal

pub returns-clause-gains : goal.returns-clause-gains
returns-clause-gains g c =
    let behind = told_behind c.args.text.now c.args.label.now c.hint_text-hint.result.now (sym c.is_empty.ensures ∙ c.if-is_empty.false) in
    rw (← c.hint_text-hint.ensures, ← behind) c.tell_line.ensures.gains
