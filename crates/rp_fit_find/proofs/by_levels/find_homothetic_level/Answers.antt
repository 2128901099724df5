use Rattle.rp_evidence.specs.Input.{input_of_table}
use Rattle.rp_fit.specs.declared.item.FitItem.TheVariants as item
use Rattle.rp_fit_find.proofs.Certificates.{found_ready}
use Rattle.rp_fit_find.proofs.by_levels.find_homothetic_level.Goals as goal

pub returns : goal.returns
returns c =
    found_ready (input_of_table c.args.input.now.table.now) item.HomotheticLevel c.in_ok-found.found c.in_ok-found.ensures.accepted c.in_ok-found.ensures.proves
    c.in_ok-found.ensures.fits
