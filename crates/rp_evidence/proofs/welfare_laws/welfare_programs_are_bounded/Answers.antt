use Rattle.rp_evidence.proofs.WelfarePrograms.{no_ray, none_worth_more}
use Rattle.rp_evidence.proofs.welfare_laws.welfare_programs_are_bounded.Goals as goal

pub returns : goal.returns
returns c = record {
  value = λ input prices s t reached sound leads lists. none_worth_more input prices t reached lists sound s leads;
  no_ray = λ input prices ray t reached sound t_in lists. no_ray input prices t reached lists sound t_in ray;
}
