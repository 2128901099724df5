use Rattle.std.proofs.Common.{◌≡◌, ◌++◌, ℕ, List, subst}
use Rattle.rp_check.specs.declared.verdict.Verdict.{Verdict}
use Rattle.rp_check.specs.declared.verdict.Verdict.TheVariants.{Accepted}
use Rattle.rp_report.specs.ReportText.{report_text}
use Rattle.rp_table.specs.Tables.{Observations}
use Rattle.example_verdict.specs.Answered.{check_line}
use Rattle.example_verdict.specs.Certified.{IsCertifiedBy}
use Rattle.example_verdict.specs.Purchases.{purchases}
use Rattle.example_verdict.proofs.answer.Goals as goal

-- a text made of two parts
two_parts : (R : Observations → List ℕ) (L : Verdict → List ℕ) (table known : Observations) (outcome v : Verdict) (whole text line : List ℕ)
    → whole ≡ text ++ line → text ≡ R table → line ≡ L outcome → table ≡ known → outcome ≡ v → whole ≡ R known ++ L v
two_parts R L table known outcome v whole text line a b d e f = cc

pub returns : goal.returns
returns c =
    let certificate = c.in_ok-made.made.certificate in (
      certificate,
      subst (λ t. IsCertifiedBy t certificate) c.in_ok-table.ensures c.in_ok-made.ensures.proves,
      two_parts (λ t. report_text t certificate.items) check_line c.in_ok-table.table purchases c.in_ok-made.made.outcome Accepted
          c.extend_from_slice.new.self.items c.in_ok-text.text.items c.check_line.result.now
          c.in_ok-extend_from_slice.ensures.items c.in_ok-text.ensures c.check_line.ensures c.in_ok-table.ensures c.in_ok-made.ensures.accepted,
    )
