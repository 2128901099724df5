use Rattle.std.proofs.Common.{◌≡◌, ◌++◌, take}
use Rattle.rp_print.specs.MixtureText.{parts_text}
use Rattle.rp_print.proofs.mixture.push_parts.Given as goal

abbrev pub invariant-loop-part : goal.invariant-loop-part
invariant-loop-part g l = l.out.items ≡ l.fn.out.items ++ parts_text g.P.Print.text (take l.part-index l.parts)
