use Rattle.rp_evidence.proofs.WelfareLaws.{as_well_off_in_region, reaching_is_as_well_off}
use Rattle.rp_evidence.proofs.welfare_laws.welfare_bounds_hold.Goals as goal

pub returns : goal.returns
returns c = record {
  region = λ input utility multiplier t bundle value model some is high. as_well_off_in_region input utility multiplier model t bundle value some is high;
  reaching = λ input utility multiplier s t model r. reaching_is_as_well_off input utility multiplier model s t r;
}
