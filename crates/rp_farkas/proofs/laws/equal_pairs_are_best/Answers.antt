use Rattle.rp_farkas.proofs.Duality.{best_point, best_prices}
use Rattle.rp_farkas.proofs.laws.equal_pairs_are_best.Goals as goal

pub returns : goal.returns
returns c = record { point = best_point; prices = best_prices }
