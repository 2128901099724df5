use Rattle.std.proofs.Common.{refl, ◌∙◌}
use Rattle.rp_sheet.proofs.FileLemmas.{read_as, whole_sheet}
use Rattle.rp_cost.proofs.TechFacts.{technology_limits, technology_made}
use Rattle.rp_cost.proofs.tech_file.TechFileFileKind.make.Goals as goal

pub priced_table-requires-clause-whole : goal.priced_table-requires-clause-whole
priced_table-requires-clause-whole c = whole_sheet (read_as refl c.as_slice.ensures.value refl c.requires.1)

pub priced_table-requires-clause-within : goal.priced_table-requires-clause-within
priced_table-requires-clause-within c = (technology_limits c.requires.1 c.as_slice.ensures.value c.as_slice-sizes.ensures.value).0

pub outputs-requires : goal.outputs-requires
outputs-requires c = (technology_limits c.requires.1 c.as_slice.ensures.value c.as_slice-sizes.ensures.value).1

pub output_prices-requires : goal.output_prices-requires
output_prices-requires c = (technology_limits c.requires.1 c.as_slice.ensures.value c.as_slice-sizes.ensures.value).2

pub make-requires : goal.make-requires
make-requires c = (technology_made c.requires.1 c.as_slice.ensures.value c.as_slice-sizes.ensures.value _ _ _ c.in_ok-table.ensures c.in_ok-outputs.ensures c.in_ok-output_prices.ensures).0

pub returns-clause-exact : goal.returns-clause-exact
returns-clause-exact c =
    c.make.ensures ∙ (technology_made c.requires.1 c.as_slice.ensures.value c.as_slice-sizes.ensures.value _ _ _ c.in_ok-table.ensures c.in_ok-outputs.ensures c.in_ok-output_prices.ensures).1
