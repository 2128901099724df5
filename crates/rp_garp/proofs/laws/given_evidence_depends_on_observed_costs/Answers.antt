use Rattle.rp_evidence.specs.Preference.{IsStrictAt, IsWeakAt}
use Rattle.rp_evidence.proofs.SameCosts.{strict_same, weak_same}
use Rattle.rp_pref.proofs.SameVerdicts.{verdict_on_same}
use Rattle.rp_garp.proofs.SameVerdicts.{own_garp_verdict_same}
use Rattle.rp_garp.proofs.laws.given_evidence_depends_on_observed_costs.Goals as goal

pub returns-clause-of_a_preference : goal.returns-clause-of_a_preference
returns-clause-of_a_preference g c = λ n verdict weak_is strict_is given.
    verdict_on_same n g.P.Preference.weak g.P.Preference.strict g.Q.Preference.weak g.Q.Preference.strict weak_is strict_is verdict given

pub returns-clause-at_a_level : goal.returns-clause-at_a_level
returns-clause-at_a_level g c = λ n num den costs other verdict same given.
    verdict_on_same n (IsWeakAt costs num den) (IsStrictAt costs num den) (IsWeakAt other num den) (IsStrictAt other num den)
    (weak_same n costs other num den same) (strict_same n costs other num den same) verdict given

pub returns-clause-by_own_levels : goal.returns-clause-by_own_levels
returns-clause-by_own_levels g c = λ n levels costs other verdict same given. own_garp_verdict_same n costs other same levels verdict given
