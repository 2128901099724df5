use Rattle.rp_people.proofs.TableLaws.{own_model_utility}
use Rattle.rp_people.proofs.tables.models_of_tables_give_utilities.Goals as goal

pub returns : goal.returns
returns c input number multiplier full = own_model_utility input full number multiplier
