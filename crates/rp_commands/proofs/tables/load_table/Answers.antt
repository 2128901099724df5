use Rattle.std.proofs.Common.{IfOk}
use Rattle.rp_outside.specs.Asked.{AsksOnce}
use Rattle.rp_text.specs.Denotation.{denoted_table}
use Rattle.rp_commands.specs.Endings.{Rose}
use Rattle.rp_commands.specs.Readings.{TakenTable}
use Rattle.rp_commands.proofs.AskedLemmas.{any_ok}
use Rattle.rp_commands.proofs.FileLemmas.{passed_loaded, table_loaded, untaken_cause}
use Rattle.rp_commands.proofs.LoadLemmas.{failed_on}
use Rattle.rp_commands.proofs.tables.load_table.Goals as goal

pub returns-in_err-table-clause-loads : goal.returns-in_err-table-clause-loads
unfolding denoted_table
returns-in_err-table-clause-loads g c =
    let files = g.D.Desk.bytes c.args.desk.now in
    let rose = Rose (g.D.Desk.faults c.args.desk.now) (g.D.Desk.faults c.load_numbers.new.desk) in
    let loads = c.in_err-table.ensures.loads in
    record {
      loaded = passed_loaded files rose c.args.file.now (TakenTable c.args.takes_levels c.args.file.now) c.from_residual.result c.in_err-table.field-0.0 c.from_residual.ensures
          (untaken_cause files rose c.args.takes_levels c.args.file.now c.in_err-table.field-0.0 loads.loaded);
      read_through = loads.read_through;
      asks_once = failed_on c.from_residual.result c.in_err-table.field-0.0 (λ r. IfOk r (λ _. AsksOnce (g.D.Desk.asked c.args.desk.now) (g.D.Desk.asked c.load_numbers.new.desk) c.args.file.now)) c.from_residual.ensures tt;
      asks_at_most_once = loads.asks_at_most_once;
      bytes_stay = loads.bytes_stay;
      never_falls = loads.never_falls;
    }

pub returns-clause-loads : goal.returns-clause-loads
unfolding denoted_table
returns-clause-loads g c =
    let files = g.D.Desk.bytes c.args.desk.now in
    let rose = Rose (g.D.Desk.faults c.args.desk.now) (g.D.Desk.faults c.load_numbers.new.desk) in
    let loads = c.in_ok-table.ensures.loads in
    record {
      loaded = table_loaded files rose c.args.takes_levels c.args.file.now c.in_ok-table.table c.unless_levelled.result
          loads.loaded c.unless_levelled.ensures.taken c.unless_levelled.ensures.refused;
      read_through = loads.read_through;
      asks_once = any_ok c.unless_levelled.result loads.asks_once;
      asks_at_most_once = loads.asks_at_most_once;
      bytes_stay = loads.bytes_stay;
      never_falls = loads.never_falls;
    }
