use Rattle.std.proofs.Common.{ℕ, List, Bor, map, arith, ap, ◌∙◌}
use Rattle.std.proofs.lemmas.List.{length-map}
use Rattle.rp_panel.proofs.TextLemmas.{written}
use Rattle.rp_panel.proofs.rows.write_panel.Goals as goal

pub returns : goal.returns
returns g c =
    let f = λ (name : Bor (List ℕ)). name.now in
    written g.T.HomotheticTest.given c.args.asked c.args.offered (map f c.args.kept.now) c.args.panel.now c.in_ok-places.places (map f c.as_slice.result.now)
    c.in_ok-rows.rows.items c.as_slice-2.result.now c.unnamed.result.now c.len.result c.in_ok-text.text.items
    (ap (map f) c.as_slice.ensures.value ∙ c.in_ok-columns.ensures) c.in_ok-places.ensures.exact c.in_ok-rows.ensures
    c.unnamed.ensures (omega (arith, c.len.ensures, c.as_slice.ensures.len, length-map c.as_slice.result.now f)) (c.as_slice-2.ensures.value ∙ c.in_ok-push_unnamed.ensures) c.in_ok-text.ensures
