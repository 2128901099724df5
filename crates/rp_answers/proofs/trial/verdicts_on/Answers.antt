use Rattle.std.proofs.Common.{◌∙◌, [], ◌∷◌}
use Rattle.rp_evidence.specs.Input.{input_of_table}
use Rattle.rp_evidence.specs.Proves.{Proves}
use Rattle.rp_evidence.specs.declared.certificate.Item.TheVariants.{Garp as GarpItem, Efficiency as EfficiencyItem, Homothetic as HomotheticItem, Quasi as QuasiItem}
use Rattle.rp_evidence.specs.Preference.{AgreeBelow}
use Rattle.rp_evidence.proofs.SameIndex.{efficiency_same}
use Rattle.rp_evidence.proofs.SameProducts.{homothetic_same}
use Rattle.rp_evidence.proofs.SameSums.{quasilinear_same}
use Rattle.rp_effic.proofs.SameVerdicts.{verdict_same as efficiency_verdict_same}
use Rattle.rp_garp.proofs.SameVerdicts.{garp_verdict_same}
use Rattle.rp_homo.proofs.SameVerdicts.{verdict_same as homothetic_verdict_same}
use Rattle.rp_quasi.proofs.SameVerdicts.{verdict_same as quasilinear_verdict_same}
use Rattle.rp_table.specs.Cost.{cost_at, cost_of}
use Rattle.rp_answers.proofs.GarpFirstLemmas.{garp_there}
use Rattle.rp_answers.proofs.SaysLemmas.{none_says, says_too}
use Rattle.rp_answers.proofs.trial.verdicts_on.Goals as goal

pub returns : goal.returns
returns c =
    let costs = c.in_ok-costs.costs in
    let is = c.in_ok-costs.ensures in
    let none = is.levels ∙ c.requires in
    let n = costs.n in
    let here = cost_at costs in
    let there = cost_of c.args.table.now in
    let same : AgreeBelow n here there = λ s t s_in t_in. is.each s t (rw is.size at s_in) (rw is.size at t_in) in
    let table = c.args.table.now in
    let input = input_of_table table in
    let garp = c.in_ok-garp.garp in
    let efficiency = c.in_ok-others.others.efficiency in
    let homothetic = c.in_ok-others.others.homothetic in
    let quasilinear = c.in_ok-others.others.quasilinear in
    let garp_proves : Proves input (GarpItem garp) = garp_there costs table is garp c.in_ok-garp.ensures.proves in
    let efficiency_proves : Proves input (EfficiencyItem efficiency) = rw (← is.size) (efficiency_same n here there efficiency same c.in_ok-others.ensures.efficiency_proves) in
    let homothetic_proves : Proves input (HomotheticItem homothetic) = rw (← is.size) (homothetic_same n here there homothetic same c.in_ok-others.ensures.homothetic_proves) in
    let quasilinear_proves : Proves input (QuasiItem quasilinear) = rw (← is.size) (quasilinear_same n here there quasilinear same c.in_ok-others.ensures.quasilinear_proves) in
    record {
      garp_proves = garp_proves;
      garp_given = rw (← is.size) (garp_verdict_same n here there same c.in_ok-garp.garp (c.in_ok-garp.ensures.given_without_levels none));
      efficiency_proves = efficiency_proves;
      efficiency_given = rw (← is.size) (efficiency_verdict_same n here there c.in_ok-others.others.efficiency same c.in_ok-others.ensures.efficiency_given);
      homothetic_proves = homothetic_proves;
      homothetic_given = rw (← is.size) (homothetic_verdict_same n here there c.in_ok-others.others.homothetic same c.in_ok-others.ensures.homothetic_given);
      quasilinear_proves = quasilinear_proves;
      quasilinear_given = rw (← is.size) (quasilinear_verdict_same n here there c.in_ok-others.others.quasilinear same c.in_ok-others.ensures.quasilinear_given);
      says =
          says_too table c.n.ensures.valid (GarpItem garp) (EfficiencyItem efficiency ∷ HomotheticItem homothetic ∷ QuasiItem quasilinear ∷ []) garp_proves
          (says_too table c.n.ensures.valid (EfficiencyItem efficiency) (HomotheticItem homothetic ∷ QuasiItem quasilinear ∷ []) efficiency_proves
          (says_too table c.n.ensures.valid (HomotheticItem homothetic) (QuasiItem quasilinear ∷ []) homothetic_proves
          (says_too table c.n.ensures.valid (QuasiItem quasilinear) [] quasilinear_proves (none_says table c.n.ensures.valid))));
    }
