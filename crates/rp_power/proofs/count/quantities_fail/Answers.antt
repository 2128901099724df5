use Rattle.std.proofs.Common.{◌↔◌, ◌∙◌, IsTrue}
use Rattle.rp_evidence.specs.Garp.{HasSomeViolation}
use Rattle.rp_evidence.specs.Preference.{IsStrict, IsWeak}
use Rattle.rp_garp.proofs.MeetingLemmas.{ok_with}
use Rattle.rp_table.specs.Tables.{records_of}
use Rattle.rp_power.specs.InnerSpent.{cost_among, cost_in}
use Rattle.rp_power.proofs.SpentLemmas.{both, costs_count, some_listed}
use Rattle.rp_power.proofs.count.quantities_fail.Goals as goal

pub fails-requires : goal.fails-requires
fails-requires c =
    costs_count c.args.table.now c.args.quantities.now c.as_slice-2.result.now (c.as_slice-2.ensures.value ∙ c.in_ok-fill_costs.ensures)

pub returns : goal.returns
returns c =
    let table = c.args.table.now in
    let n = records_of table in
    let listed = cost_in n c.as_slice-2.result.now in
    let among = cost_among table c.args.quantities.now in
    ok_with (λ failed. IsTrue failed ↔ HasSomeViolation n (IsWeak listed) (IsStrict listed)) (λ failed. IsTrue failed ↔ HasSomeViolation n (IsWeak among) (IsStrict among))
    (λ failed is. both is (some_listed table c.args.quantities.now c.as_slice-2.result.now (c.as_slice-2.ensures.value ∙ c.in_ok-fill_costs.ensures)))
    c.fails.result c.fails.ensures
