use Rattle.rp_fit_answers.proofs.LoadLemmas.{one_loads}
use Rattle.rp_fit_answers.proofs.loading.load_asked_table.Goals as goal

pub returns : goal.returns
returns g c = one_loads c.args.desk.now _ c.args.table.now c.args.json c.load_table.result c.load_table.ensures
