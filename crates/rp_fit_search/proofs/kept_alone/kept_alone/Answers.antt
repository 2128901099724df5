use Rattle.std.proofs.Common.{◌≡◌, ◌∷◌, ◌∙◌, [], arith, rules}
use Rattle.rp_fit_search.proofs.Alone.{alone_of_lists_passes}
use Rattle.rp_fit_search.specs.InnerAlone.{groups_below}
use Rattle.rp_table.specs.Cost.{cost_of}
use Rattle.rp_table.specs.Tables.{records_of}
use Rattle.rp_fit_search.proofs.kept_alone.kept_alone.Goals as goal

pub returns : goal.returns
returns c =
    let table = c.args.input.now.table.now in
    let kept : c.from_vec.result ≡ 0 ∷ [] = search rules in
    let ranks : c.from_vec-2.result ≡ 0 ∷ [] = search rules in
    let alone = c.from_vec-3.ensures ∙ c.in_ok-groups.ensures in
    let groups : c.from_vec-3.result ≡ groups_below (records_of table) = rw c.n-n.ensures.count at alone in
    alone_of_lists_passes (records_of table) (cost_of table) c.from_vec.result c.from_vec-2.result c.from_vec-3.result c.n-n.result
    (omega (arith, c.n-n.ensures.count, c.n-n.ensures.some)) kept ranks groups c.n-n.ensures.count
