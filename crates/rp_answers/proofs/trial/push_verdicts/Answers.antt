use Rattle.std.proofs.Common.{◌≡◌, List, ℕ, ◌++◌, ◌∙◌, ap, codes, append_assoc}
use Rattle.rp_report.specs.EfficiencyText.{index_text}
use Rattle.rp_print.specs.ListText.{line_of}
use Rattle.rp_answers.specs.TrialLines.{garp_word, homothetic_word, quasilinear_word}
use Rattle.rp_answers.proofs.trial.push_verdicts.Goals as goal

-- four lines, one after another
four : (old o1 o2 o3 o4 a b c d : List ℕ) → o1 ≡ old ++ a → o2 ≡ o1 ++ b → o3 ≡ o2 ++ c → o4 ≡ o3 ++ d → o4 ≡ old ++ (((a ++ b) ++ c) ++ d)
four old o1 o2 o3 o4 a b c d one two three last =
    last ∙ ap (λ (t : List ℕ). t ++ d) (three ∙ ap (λ (t : List ℕ). t ++ c) (two ∙ ap (λ (t : List ℕ). t ++ b) one)) ∙ joined old a b c d
  where
    joined : (old a b c d : List ℕ) → (((old ++ a) ++ b) ++ c) ++ d ≡ old ++ (((a ++ b) ++ c) ++ d)
    joined old a b c d = simp append_assoc

pub returns : goal.returns
returns c =
    let v = c.args.verdicts.now in
    let o1 = c.push_verdict.new.out.items in
    let o2 = c.push_index.new.out.items in
    let o3 = c.push_verdict-2.new.out.items in
    four c.args.out.now.items o1 o2 o3 c.push_verdict-3.new.out.items
    (line_of (codes "garp " ++ garp_word v.garp)) (index_text v.efficiency) (line_of (codes "homothetic " ++ homothetic_word v.homothetic)) (line_of (codes "quasilinear " ++ quasilinear_word v.quasilinear))
    (c.in_ok-push_verdict.ensures ∙ ap (λ (w : List ℕ). c.args.out.now.items ++ line_of (codes "garp " ++ w)) c.garp_word.ensures)
    c.in_ok-push_index.ensures
    (c.in_ok-push_verdict-2.ensures ∙ ap (λ (w : List ℕ). o2 ++ line_of (codes "homothetic " ++ w)) c.homothetic_word.ensures)
    (c.in_ok-push_verdict-3.ensures ∙ ap (λ (w : List ℕ). o3 ++ line_of (codes "quasilinear " ++ w)) c.quasilinear_word.ensures)
