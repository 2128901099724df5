use Rattle.std.proofs.Common.{arith}
use Rattle.rp_menu.proofs.MenuLetters.{no_letter}
use Rattle.rp_menu.proofs.menu_texts.has_letter.Goals as goal

pub returns-else-x-lt-BITS : goal.returns-else-x-lt-BITS
returns-else-x-lt-BITS c = no_letter c.args.menu 32 c.args.x (omega (arith, c.ranges)) (λ h. omega (arith, h, c.if-x-lt-BITS.false))
