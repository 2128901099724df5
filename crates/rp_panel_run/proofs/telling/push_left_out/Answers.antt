use Rattle.std.proofs.Common.{◌≡◌, ◌++◌, ◌∷◌, ℕ, List, [], append_assoc}
use Rattle.std.specs.Prelude.{codes}
use Rattle.rp_panel_run.proofs.telling.push_left_out.Goals as goal

pieces : (old a b c d first second third : List ℕ) → first ≡ old ++ a → second ≡ first ++ b → third ≡ second ++ (c ++ d) → third ≡ old ++ (((a ++ b) ++ c) ++ d)
pieces old a b c d first second third is also last = rw (last, also, is) (simp append_assoc)

pub returns : goal.returns
returns c =
    pieces c.args.lines.now.items (codes "rp-panel: column ") c.args.column.now (codes " is left out") (10 ∷ []) _ _ _
    c.in_ok-extend_from_slice.ensures.items c.in_ok-extend_from_slice-2.ensures.items c.in_ok-push_line.ensures
