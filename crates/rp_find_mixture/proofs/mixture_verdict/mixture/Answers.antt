use Rattle.std.proofs.Common.{subst, Ok}
use Rattle.std.proofs.lemmas.Result.{IfOk-weaker}
use Rattle.rp_farkas.specs.LinearProgram.{LinearProgram}
use Rattle.rp_patch.specs.KindFailure.{EvidenceFailsOf}
use Rattle.rp_patch.specs.Kinds.{mixture_program}
use Rattle.rp_simplex.specs.Evidence.{IsEvidence}
use Rattle.rp_simplex.specs.Outcome.{IsOutcome}
use Rattle.rp_simplex.specs.SameOutcome.{IsSameOutcome}
use Rattle.rp_simplex.specs.declared.outcome.Outcome.{Outcome}
use Rattle.rp_find_mixture.specs.MixtureVerdict.{IsPairVerdict, IsRunVerdict, ProvesMixture}
use Rattle.rp_find_mixture.proofs.PairLemmas.{has_bound, made_verdict, proves_shown}
use Rattle.rp_find_mixture.proofs.PassedParts.{pair_passes}
use Rattle.rp_find_mixture.proofs.mixture_verdict.mixture.Goals as goal

pub unreachable-requires : goal.unreachable-requires
unreachable-requires g c =
    let k = g.L.CellUnits.kinds c.args.listed.now in
    let kinds = g.L.Listed.listed c.args.listed.now in
    let evidence = subst (λ (q : LinearProgram). IsEvidence q c.in_ok-pair.field-0) c.make-program.ensures c.in_ok-pair.ensures.evidence in
    let shown = subst (λ (o : Outcome). IsEvidence (mixture_program k kinds) o) c.in-Unbounded.is evidence in
    has_bound k c.requires.whole kinds c.requires.all shown.1

pub returns-in-Optimal-clause-proves : goal.returns-in-Optimal-clause-proves
returns-in-Optimal-clause-proves g c =
    let k = g.L.CellUnits.kinds c.args.listed.now in
    let kinds = g.L.Listed.listed c.args.listed.now in
    let evidence = subst (λ (q : LinearProgram). IsEvidence q c.in_ok-pair.field-0) c.make-program.ensures c.in_ok-pair.ensures.evidence in
    let shown = subst (λ (o : Outcome). IsEvidence (mixture_program k kinds) o) c.in-Optimal.is evidence in
    IfOk-weaker c.verdict_of_pair.result (IsPairVerdict k kinds c.in-Optimal.pair) (ProvesMixture k)
    (λ part h. proves_shown k c.requires.whole kinds c.requires.all c.in-Optimal.pair shown.0 part h) c.verdict_of_pair.ensures

pub returns-in-Optimal-clause-passes : goal.returns-in-Optimal-clause-passes
returns-in-Optimal-clause-passes g c =
    let k = g.L.CellUnits.kinds c.args.listed.now in
    let kinds = g.L.Listed.listed c.args.listed.now in
    let evidence = subst (λ (q : LinearProgram). IsEvidence q c.in_ok-pair.field-0) c.make-program.ensures c.in_ok-pair.ensures.evidence in
    let shown = subst (λ (o : Outcome). IsEvidence (mixture_program k kinds) o) c.in-Optimal.is evidence in
    IfOk-weaker c.verdict_of_pair.result (IsPairVerdict k kinds c.in-Optimal.pair) (λ part. EvidenceFailsOf k part (Ok tt))
    (λ part h. pair_passes k c.requires.whole c.requires.formed kinds c.requires.all c.in-Optimal.pair shown.0 part h) c.verdict_of_pair.ensures

pub returns-in-Optimal-clause-run : goal.returns-in-Optimal-clause-run
returns-in-Optimal-clause-run g c =
    let k = g.L.CellUnits.kinds c.args.listed.now in
    let kinds = g.L.Listed.listed c.args.listed.now in
    let outcome = subst (λ (q : LinearProgram). IsOutcome q c.in_ok-pair.field-0) c.make-program.ensures c.in_ok-pair.ensures.outcome in
    let only = subst (λ (q : LinearProgram). (other : Outcome) → IsOutcome q other → IsSameOutcome q c.in_ok-pair.field-0 other) c.make-program.ensures c.in_ok-pair.ensures.only in
    IfOk-weaker c.verdict_of_pair.result (IsPairVerdict k kinds c.in-Optimal.pair) (IsRunVerdict k kinds)
    (λ part h. made_verdict k kinds c.in-Optimal.pair c.in_ok-pair.field-0 part c.in-Optimal.is outcome only h) c.verdict_of_pair.ensures
