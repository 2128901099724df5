use Rattle.rp_evidence.proofs.DemandMixtures.{mixture_supports}
use Rattle.rp_evidence.proofs.demand_laws.mixtures_support.Goals as goal

pub returns : goal.returns
returns c = λ input budget bundle inner k sound some. mixture_supports input budget bundle inner k some sound
