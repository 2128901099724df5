use Rattle.std.proofs.Common.{◌∙◌, Bool, Some, ap, subst, sym}
use Rattle.rp_report.specs.RandomText.{random_report_text}
use Rattle.rp_answers.proofs.ResultLemmas.{if_ok}
use Rattle.rp_answers.specs.RandomText.{IsRandomText}
use Rattle.rp_answers.specs.Typed.{typed}
use Rattle.rp_answers.proofs.random.listed_text.Goals as goal

pub returns-then-json : goal.returns-then-json
returns-then-json c =
    if_ok c.write.result (λ text same. subst (λ (json : Bool). IsRandomText json (typed c.args.patches.now c.args.types.now) text.items) (sym c.if-json.true)
    (c.in_ok-certificate.certificate, c.in_ok-certificate.ensures, same)) c.write.ensures

pub returns : goal.returns
returns c =
    let made = c.in_ok-certificate.certificate in
    if_ok c.report_random.result (λ text same. subst (λ (json : Bool). IsRandomText json (typed c.args.patches.now c.args.types.now) text.items) (sym c.if-json.false)
    (made, c.in_ok-certificate.ensures, same ∙ ap (λ n. random_report_text c.args.patches.now (Some n) made.items) c.count_of-count.ensures)) c.report_random.ensures
