use Rattle.std.proofs.Common.{add-one, ap, ◌∙◌, ◌++◌}
use Rattle.rp_answers.proofs.utility.utility_lines.Goals as goal

pub loop-k-preserved : goal.loop-k-preserved
loop-k-preserved c =
    rw add-one (
      c.loop-k.text.items,
      c.in_ok-line.line.items,
      c.loop-k.invariant,
      rw c.row.ensures.exact at c.in_ok-line.ensures,
      c.in_ok-extend_from_slice.ensures.items ∙ ap (λ l. c.loop-k.text.items ++ l) c.as_slice.ensures.value,
    )
