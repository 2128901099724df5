use Rattle.std.proofs.Common.{◌∙◌, ap, subst, sym, [], ◌∷◌}
use Rattle.rp_afriat.specs.AfriatVerdict.{IsOwnAfriatVerdict}
use Rattle.rp_effic.specs.EfficiencyVerdict.{IsEfficiencyVerdict}
use Rattle.rp_evidence.specs.Certificates.{table_certificate}
use Rattle.rp_evidence.specs.Input.{input_of_table}
use Rattle.rp_evidence.specs.Proves.{Proves}
use Rattle.rp_evidence.specs.declared.certificate.Item.TheVariants.{Garp as GarpItem, Afriat as AfriatItem, Efficiency as EfficiencyItem, Homothetic as HomotheticItem, Quasi as QuasiItem}
use Rattle.rp_garp.specs.GarpVerdict.{IsOwnGarpVerdict}
use Rattle.rp_homo.specs.HomotheticVerdict.{IsHomotheticVerdict}
use Rattle.rp_quasi.specs.QuasilinearVerdict.{IsQuasilinearVerdict}
use Rattle.rp_answers.specs.Accepted.{IsAcceptedOn}
use Rattle.rp_answers.proofs.AcceptedLemmas.{analysis_accepted}
use Rattle.rp_answers.proofs.GarpFirstLemmas.{afriat_given_there, afriat_there, garp_given_there, garp_there}
use Rattle.rp_evidence.specs.Preference.{AgreeBelow}
use Rattle.rp_evidence.proofs.SameIndex.{efficiency_same}
use Rattle.rp_evidence.proofs.SameProducts.{homothetic_same}
use Rattle.rp_evidence.proofs.SameSums.{quasilinear_same}
use Rattle.rp_effic.proofs.SameVerdicts.{verdict_same as efficiency_verdict_same}
use Rattle.rp_homo.proofs.SameVerdicts.{verdict_same as homothetic_verdict_same}
use Rattle.rp_quasi.proofs.SameVerdicts.{verdict_same as quasilinear_verdict_same}
use Rattle.rp_table.specs.Cost.{cost_at, cost_of}
use Rattle.rp_evidence.specs.declared.certificate.Kind.TheVariants.{Table}
use Rattle.rp_agreement.specs.ReadBack.{IsReadBack}
use Rattle.rp_agreement.proofs.ItemsFit.{analysis_readable, table_limited}
use Rattle.rp_agreement.proofs.SameValues.{text_read_back}
use Rattle.rp_answers.specs.AnalysisText.{certificate_of}
use Rattle.rp_answers.proofs.SaysLemmas.{none_says, says_too}
use Rattle.rp_answers.proofs.analysis.analyse.Goals as goal

pub returns : goal.returns
returns c =
    let is_test = c.in_ok-tested.ensures.is_test in
    let is = is_test.of_table in
    let costs = c.in_ok-tested.tested.costs in
    let n = costs.n in
    let here = cost_at costs in
    let there = cost_of c.args.table.now in
    let same : AgreeBelow n here there = λ s t s_in t_in. is.each s t (rw is.size at s_in) (rw is.size at t_in) in
    let table = c.args.table.now in
    let input = input_of_table table in
    let garp = c.in_ok-tested.tested.garp in
    let afriat = c.in_ok-afriat.afriat in
    let efficiency = c.in_ok-others.others.efficiency in
    let homothetic = c.in_ok-others.others.homothetic in
    let quasilinear = c.in_ok-others.others.quasilinear in
    let garp_proves : Proves input (GarpItem garp) = garp_there costs table is garp is_test.is_test.proves in
    let garp_given : IsOwnGarpVerdict input.n input.levels input.cost garp = garp_given_there costs table is garp c.in_ok-tested.ensures.given in
    let afriat_proves : Proves input (AfriatItem afriat) = afriat_there costs table is afriat c.in_ok-afriat.ensures.proves in
    let afriat_given : IsOwnAfriatVerdict input.n input.levels input.cost afriat = afriat_given_there costs table is afriat c.in_ok-afriat.ensures.given in
    let efficiency_proves : Proves input (EfficiencyItem efficiency) = rw (← is.size) (efficiency_same n here there efficiency same c.in_ok-others.ensures.efficiency_proves) in
    let efficiency_given : IsEfficiencyVerdict input.n input.cost efficiency = rw (← is.size) (efficiency_verdict_same n here there efficiency same c.in_ok-others.ensures.efficiency_given) in
    let homothetic_proves : Proves input (HomotheticItem homothetic) = rw (← is.size) (homothetic_same n here there homothetic same c.in_ok-others.ensures.homothetic_proves) in
    let homothetic_given : IsHomotheticVerdict input.n input.cost homothetic = rw (← is.size) (homothetic_verdict_same n here there homothetic same c.in_ok-others.ensures.homothetic_given) in
    let quasilinear_proves : Proves input (QuasiItem quasilinear) = rw (← is.size) (quasilinear_same n here there quasilinear same c.in_ok-others.ensures.quasilinear_proves) in
    let quasilinear_given : IsQuasilinearVerdict input.n input.cost quasilinear = rw (← is.size) (quasilinear_verdict_same n here there quasilinear same c.in_ok-others.ensures.quasilinear_given) in
    let made = c.in_ok-certificate.ensures ∙ ap (λ levels. table_certificate levels c.in_ok-items.items.items) c.levels.ensures.same ∙ ap (table_certificate input.levels) c.in_ok-items.ensures in
    record {
      garp = garp;
      afriat = afriat;
      efficiency = efficiency;
      homothetic = homothetic;
      quasilinear = quasilinear;
      items = made;
      garp_proves = garp_proves;
      garp_given = garp_given;
      afriat_proves = afriat_proves;
      afriat_given = afriat_given;
      efficiency_proves = efficiency_proves;
      efficiency_given = efficiency_given;
      homothetic_proves = homothetic_proves;
      homothetic_given = homothetic_given;
      quasilinear_proves = quasilinear_proves;
      quasilinear_given = quasilinear_given;
      says =
          says_too table is_test.valid (GarpItem garp) (AfriatItem afriat ∷ EfficiencyItem efficiency ∷ HomotheticItem homothetic ∷ QuasiItem quasilinear ∷ []) garp_proves
          (says_too table is_test.valid (AfriatItem afriat) (EfficiencyItem efficiency ∷ HomotheticItem homothetic ∷ QuasiItem quasilinear ∷ []) afriat_proves
          (says_too table is_test.valid (EfficiencyItem efficiency) (HomotheticItem homothetic ∷ QuasiItem quasilinear ∷ []) efficiency_proves
          (says_too table is_test.valid (HomotheticItem homothetic) (QuasiItem quasilinear ∷ []) homothetic_proves
          (says_too table is_test.valid (QuasiItem quasilinear) [] quasilinear_proves (none_says table is_test.valid)))));
      accepted = subst (IsAcceptedOn input) (sym made)
          (analysis_accepted input garp garp_proves afriat afriat_proves afriat_given efficiency homothetic quasilinear efficiency_proves efficiency_given homothetic_proves homothetic_given quasilinear_proves quasilinear_given);
      read_back = subst (IsReadBack Table) (sym made)
          (text_read_back Table (certificate_of input.levels garp afriat efficiency homothetic quasilinear)
          (analysis_readable input (table_limited c.args.table.now is_test.valid) garp afriat efficiency homothetic quasilinear
          (garp_proves, garp_given) (afriat_proves, afriat_given) (efficiency_proves, efficiency_given) (homothetic_proves, homothetic_given) (quasilinear_proves, quasilinear_given)));
    }
