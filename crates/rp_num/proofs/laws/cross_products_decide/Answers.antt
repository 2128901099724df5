use Rattle.rp_num.proofs.Lowest.{same_lowest}
use Rattle.rp_num.proofs.laws.cross_products_decide.Goals as goal

pub returns : goal.returns
returns c f g hf hg = (λ e. cc, λ e. same_lowest f g hf.positive hg.positive hf.coprime hg.coprime e)
