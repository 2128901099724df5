use Rattle.rp_num.proofs.Lowest.{not_PassesWidth}
use Rattle.rp_num.proofs.laws.lowest_terms_decide_width.Goals as goal

pub returns : goal.returns
returns c n d f hd h = (λ w fits. not_PassesWidth n d f hd h fits w, λ no. (f, h, no))
