use Rattle.std.proofs.Common.{◌≡◌, ◌∙◌, ap, length, subst, sym, All, List}
use Rattle.rp_evidence.specs.declared.random.Share.{Share}
use Rattle.rp_farkas.specs.Limits.{FitsEvidence}
use Rattle.rp_find_mixture.specs.MixtureVerdict.{shares_of}
use Rattle.rp_find_mixture.proofs.PairLemmas.{fit_parts}
use Rattle.rp_find_mixture.proofs.mixture_verdict.verdict_of_pair.Goals as goal

pub weight_of_shares-requires : goal.weight_of_shares-requires
weight_of_shares-requires g c =
    let kinds = g.L.Listed.listed c.args.listed.now in
    let is : c.as_slice-2.result.now ≡ shares_of kinds c.args.pair.y = c.as_slice-2.ensures.value ∙ c.in_ok-parts.ensures ∙ ap (shares_of kinds) c.as_slice.ensures in
    subst (λ (ps : List Share). All (λ part. FitsEvidence part.weight) ps) (sym is) (fit_parts kinds c.args.pair.y (length kinds) c.requires.y_listed)
