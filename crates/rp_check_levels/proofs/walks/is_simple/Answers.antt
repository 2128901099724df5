use Rattle.rp_check_levels.proofs.StrictWalks.{places_of_simple, simple_by_places}
use Rattle.rp_table.specs.Cost.{cost_of}
use Rattle.rp_table.specs.Tables.{records_of}
use Rattle.rp_check_levels.proofs.walks.is_simple.Goals as goal

pub returns : goal.returns
returns c =
    let table = c.args.input.now.table.now in
    let walk = c.args.walk.now in (
      λ h. let p = c.is_simple_by_places.ensures.0 h in simple_by_places (records_of table) (cost_of table) walk p.0 p.1,
      λ simple. c.is_simple_by_places.ensures.1 (places_of_simple (records_of table) (cost_of table) walk simple, simple.distinct),
    )
