use Rattle.std.proofs.Common.{◌≤◌, ap, arith, sym}
use Rattle.rp_evidence.specs.Homothetic.{withheld_homothetic}
use Rattle.rp_evidence.specs.Input.{input_of_table}
use Rattle.rp_table.specs.Cost.{cost_of}
use Rattle.rp_table.specs.Tables.{records_of}
use Rattle.rp_limits.specs.declared.table.TheConstants.{RECORDS}
use Rattle.rp_filled.proofs.FoundLemmas.{homothetic_fits, homothetic_given, homothetic_stays}
use Rattle.rp_filled.proofs.found.found_homothetic.Goals as goal

pub returns-in-Some : goal.returns-in-Some
returns-in-Some c =
    let table = c.args.input.now.table.now in
    let few : records_of table ≤ RECORDS = omega (arith, c.n.ensures.count, c.n.ensures.few) in
    let found = c.in-Some.found in
    let none = rw c.in-Some.is at c.in_ok-found-in-Withheld.ensures.given in
    let passes = rw c.in-Some.is at c.in_ok-found-in-Withheld.ensures.passes in
    let reduced = rw c.in-Some.is at c.in_ok-found-in-Withheld.ensures.reduced in
    homothetic_given (input_of_table table) c.args.stated found (ap withheld_homothetic c.in-Withheld.is) none passes
    (homothetic_fits (records_of table) (cost_of table) found few none passes reduced)

pub returns-in-None : goal.returns-in-None
returns-in-None c = homothetic_stays (input_of_table c.args.input.now.table.now) c.args.stated _ (sym c.in-Withheld.is)

pub returns-in-Values : goal.returns-in-Values
returns-in-Values c = homothetic_stays (input_of_table c.args.input.now.table.now) c.args.stated _ (sym c.in-Values.is)

pub returns-in-Cycle : goal.returns-in-Cycle
returns-in-Cycle c = homothetic_stays (input_of_table c.args.input.now.table.now) c.args.stated _ (sym c.in-Cycle.is)
