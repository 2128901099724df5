use Rattle.std.proofs.Common.{◌≡◌, true, ◌&&◌, Bool, false, not, length, nat_lt, refl, sym, ◌∙◌}
use Rattle.rp_num.specs.Below.{any_below}
use Rattle.rp_num.proofs.BelowLemmas.{one_holds}
use Rattle.rp_menu.specs.MenuTexts.{is_wrong_at}
use Rattle.rp_menu.proofs.menu_texts.is_menu.Goals as goal

none : (a b : Bool) → b ≡ true → false ≡ (a && not b)
none true true e = refl
none true false e = cc e
none false b e = refl

pub returns-then-is_wrong_at : goal.returns-then-is_wrong_at
returns-then-is_wrong_at c =
    let text = c.args.text.now in
    none (nat_lt 0 (length text)) (any_below (length text) (is_wrong_at text))
    (one_holds (is_wrong_at text) c.loop-k.k (length text) c.loop-k-test.true (sym c.is_wrong_at.ensures ∙ c.if-is_wrong_at.true))
