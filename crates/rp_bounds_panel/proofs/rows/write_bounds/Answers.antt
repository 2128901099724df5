use Rattle.std.proofs.Common.{map, rules, sym}
use Rattle.std.proofs.lemmas.List.{length-map}
use Rattle.rp_bounds_panel.proofs.RowLemmas.{whole_text}
use Rattle.rp_bounds_panel.proofs.rows.write_bounds.Goals as goal

pub returns : goal.returns
returns g c =
    whole_text g.S.BoundSearch.of_demand g.S.BoundSearch.of_welfare c.args.asked c.args.new.now c.args.panel.now _ (map (λ name. name.now) c.args.kept.now) _ _ _ _ c.in_ok-text.text.items c.in_ok-rows.ensures c.in_ok-write_households.ensures c.in_ok-write_unnamed.ensures c.in_ok-text.ensures (sym (length-map c.args.kept.now (λ name. name.now))) (search rules)
