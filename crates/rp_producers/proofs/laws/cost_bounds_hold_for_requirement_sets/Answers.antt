use Rattle.rp_producers.proofs.Producers.{enough_suffices, sufficing_is_outer}
use Rattle.rp_producers.proofs.laws.cost_bounds_hold_for_requirement_sets.Goals as goal

pub returns-clause-lower : goal.returns-clause-lower
returns-clause-lower g c input y y0 num den prices x sets rationalize is ix there = is.none_less x (sufficing_is_outer input y g.S.InputSets.has sets rationalize y0 x ix there)

pub returns-clause-upper : goal.returns-clause-upper
returns-clause-upper g c input y y0 at cost prices sets rationalize is = enough_suffices input y g.S.InputSets.has sets rationalize y0 at is.observed is.enough
