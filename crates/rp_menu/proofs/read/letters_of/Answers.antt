use Rattle.std.proofs.Common.{◌≡◌, max}
use Rattle.std.proofs.lemmas.Grind.{common_steps}
use Rattle.std.proofs.Common.{arith}
use Rattle.rp_sheet.proofs.SizeLemmas.{greatest_more}
use Rattle.rp_menu.specs.Cells.{menu_row_at, top_of}
use Rattle.rp_menu.proofs.read.letters_of.Goals as goal

pub loop-t-preserved : goal.loop-t-preserved
loop-t-preserved c =
    let most : c.max-letters.result ≡ max c.loop-t.letters c.top_of.result = grind (arith, common_steps) in
    greatest_more (λ t. top_of (menu_row_at c.args.menu_rows.now t).menu) c.loop-t.t c.loop-t.letters c.top_of.result c.max-letters.result c.loop-t.invariant c.top_of.ensures.exact most
