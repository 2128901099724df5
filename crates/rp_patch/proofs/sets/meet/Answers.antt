use Rattle.std.proofs.Common.{rules}
use Rattle.rp_patch.proofs.SetLaws.{none_in_both, some_in_both}
use Rattle.rp_patch.proofs.sets.meet.Goals as goal

pub returns : goal.returns
returns c = (
  λ h. some_in_both c.args.a c.args.b (search rules) (λ none. absurd (search (h, none, rules))),
  λ h. search (none_in_both c.args.a c.args.b h.0 h.1 h.2, rules),
)
