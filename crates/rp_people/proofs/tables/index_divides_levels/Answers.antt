use Rattle.rp_people.proofs.SaysOfItems.{divides}
use Rattle.rp_people.proofs.tables.index_divides_levels.Goals as goal

pub returns : goal.returns
returns c input num den full = divides input full num den
