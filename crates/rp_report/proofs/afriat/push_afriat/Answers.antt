use Rattle.std.proofs.Common.{◌≡◌, ℕ, List, ◌++◌, OnOk, ap, sym, subst, ◌∙◌}
use Rattle.std.specs.Prelude.{codes}
use Rattle.rp_evidence.specs.declared.afriat.AfriatPart.{AfriatPart}
use Rattle.rp_report.specs.AfriatText.{afriat_text}
use Rattle.rp_print.specs.ListText.{line_of, numbers_text, sums_text}
use Rattle.rp_print.proofs.Texts.{on_ok, three_pieces}
use Rattle.rp_report.proofs.afriat.push_afriat.Goals as goal

pub returns-in_ok-push_line-in-Model : goal.returns-in_ok-push_line-in-Model
returns-in_ok-push_line-in-Model c =
    let old = c.args.out.now.items in
    let new = c.push_model.new.out.items in
    let a : List ℕ = line_of (codes "afriat model") in
    let u : List ℕ = line_of (codes "utility " ++ sums_text c.in-Model.numbers.u) in
    let l : List ℕ = line_of (codes "lambda " ++ numbers_text c.in-Model.numbers.lambda) in
    subst (λ (p : AfriatPart). OnOk c.push_model.result (new ≡ old ++ afriat_text p)) (sym c.in-Model.is)
    (on_ok (new ≡ (c.push_line.new.out.items ++ u) ++ l) (new ≡ old ++ ((a ++ u) ++ l))
    (λ e. e ∙ (ap (λ (x : List ℕ). (x ++ u) ++ l) c.in_ok-push_line-in-Model.ensures ∙ three_pieces old a u l)) c.push_model.result c.push_model.ensures)
