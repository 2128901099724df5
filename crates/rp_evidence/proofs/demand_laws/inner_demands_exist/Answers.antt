use Rattle.rp_evidence.proofs.InnerExists.{has_inner_support, table_has_inner_support}
use Rattle.rp_evidence.proofs.demand_laws.inner_demands_exist.Goals as goal

pub returns : goal.returns
returns c = record {
  inner = λ input budget sound goods new old. has_inner_support input budget sound goods new old;
  of_tables = λ table prices m valid sound each positive. table_has_inner_support table prices m valid each positive sound;
  never_empty = λ table prices m valid sound each positive. let r = table_has_inner_support table prices m valid each positive sound in (r.0, r.2);
}
