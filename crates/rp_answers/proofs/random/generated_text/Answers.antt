use Rattle.std.proofs.Common.{Bool, slice_index_or, subst, sym}
use Rattle.rp_answers.proofs.OneWithinFinding.{item_passes_without_limit}
use Rattle.rp_answers.proofs.ResultLemmas.{if_ok}
use Rattle.rp_answers.specs.GeneratedText.{IsGeneratedText}
use Rattle.rp_limits.specs.declared.generated.TheConstants.{STEPS}
use Rattle.rp_answers.proofs.random.generated_text.Goals as goal

pub report_random-requires-clause-nothing_wrong : goal.report_random-requires-clause-nothing_wrong
report_random-requires-clause-nothing_wrong c = λ k d within.
    item_passes_without_limit c.args.patches.now STEPS (slice_index_or c.in_ok-certificate.certificate.items k d) (c.in_ok-certificate.ensures.accepted k within d)

pub returns-then-json : goal.returns-then-json
returns-then-json c =
    if_ok c.write.result (λ text same. subst (λ (json : Bool). IsGeneratedText json c.args.most c.args.patches.now text.items) (sym c.if-json.true)
    (c.in_ok-certificate.certificate, c.in_ok-certificate.ensures, same)) c.write.ensures

pub returns : goal.returns
returns c =
    if_ok c.report_random.result (λ text same. subst (λ (json : Bool). IsGeneratedText json c.args.most c.args.patches.now text.items) (sym c.if-json.false)
    (c.in_ok-certificate.certificate, c.in_ok-certificate.ensures, same)) c.report_random.ensures
