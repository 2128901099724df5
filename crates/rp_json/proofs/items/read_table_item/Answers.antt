use Rattle.std.proofs.Common.{subst}
use Rattle.serde_json.specs.View.{view}
use Rattle.rp_json_tests.specs.AfriatValue.{afriat_value}
use Rattle.rp_json_tests.specs.EfficiencyValue.{efficiency_value}
use Rattle.rp_json_tests.specs.GarpValue.{garp_value}
use Rattle.rp_json_tests.specs.HomotheticValue.{homothetic_value}
use Rattle.rp_json_tests.specs.Limits.{FitsAfriat, FitsEfficiency, FitsGarp, FitsHomothetic, FitsQuasilinear}
use Rattle.rp_json_tests.specs.QuasilinearValue.{quasilinear_value}
use Rattle.rp_json_entries.specs.Reading.{IsFound}
use Rattle.rp_json_programs.proofs.DemandReads.{FitsDemandOf, demand_of}
use Rattle.rp_json_programs.proofs.WelfareReads.{FitsWelfareOf, welfare_of}
use Rattle.rp_json.proofs.ItemReads.{found_afriat, found_demand, found_efficiency, found_garp, found_homothetic, found_quasilinear, found_welfare, no_table_item}
use Rattle.rp_json.proofs.items.read_table_item.Goals as goal

pub returns-in-Some : goal.returns-in-Some
returns-in-Some c = found_garp (view c.args.value.now) _ (subst (IsFound garp_value FitsGarp (view c.args.value.now)) c.in-Some.is c.in_ok-garp.ensures)

pub returns-in-Some-2 : goal.returns-in-Some-2
returns-in-Some-2 c = found_afriat (view c.args.value.now) _ (subst (IsFound afriat_value FitsAfriat (view c.args.value.now)) c.in-Some-2.is c.in_ok-afriat.ensures)

pub returns-in-Some-3 : goal.returns-in-Some-3
returns-in-Some-3 c = found_efficiency (view c.args.value.now) _ (subst (IsFound efficiency_value FitsEfficiency (view c.args.value.now)) c.in-Some-3.is c.in_ok-efficiency.ensures)

pub returns-in-Some-4 : goal.returns-in-Some-4
returns-in-Some-4 c = found_homothetic (view c.args.value.now) _ (subst (IsFound homothetic_value FitsHomothetic (view c.args.value.now)) c.in-Some-4.is c.in_ok-homothetic.ensures)

pub returns-in-Some-5 : goal.returns-in-Some-5
returns-in-Some-5 c = found_quasilinear (view c.args.value.now) _ (subst (IsFound quasilinear_value FitsQuasilinear (view c.args.value.now)) c.in-Some-5.is c.in_ok-quasilinear.ensures)

pub returns-in-Some-6 : goal.returns-in-Some-6
returns-in-Some-6 c = rw c.demand.ensures (found_demand (view c.args.value.now) _ (subst (IsFound demand_of FitsDemandOf (view c.args.value.now)) c.in-Some-6.is c.in_ok-entries.ensures))

pub returns-in-Some-7 : goal.returns-in-Some-7
returns-in-Some-7 c = rw c.welfare.ensures (found_welfare (view c.args.value.now) _ (subst (IsFound welfare_of FitsWelfareOf (view c.args.value.now)) c.in-Some-7.is c.in_ok-entries-2.ensures))

pub returns-in-None-7 : goal.returns-in-None-7
returns-in-None-7 c =
    no_table_item (view c.args.value.now)
    (subst (IsFound garp_value FitsGarp (view c.args.value.now)) c.in-None.is c.in_ok-garp.ensures)
    (subst (IsFound afriat_value FitsAfriat (view c.args.value.now)) c.in-None-2.is c.in_ok-afriat.ensures)
    (subst (IsFound efficiency_value FitsEfficiency (view c.args.value.now)) c.in-None-3.is c.in_ok-efficiency.ensures)
    (subst (IsFound homothetic_value FitsHomothetic (view c.args.value.now)) c.in-None-4.is c.in_ok-homothetic.ensures)
    (subst (IsFound quasilinear_value FitsQuasilinear (view c.args.value.now)) c.in-None-5.is c.in_ok-quasilinear.ensures)
    (subst (IsFound demand_of FitsDemandOf (view c.args.value.now)) c.in-None-6.is c.in_ok-entries.ensures)
    (subst (IsFound welfare_of FitsWelfareOf (view c.args.value.now)) c.in-None-7.is c.in_ok-entries-2.ensures)
