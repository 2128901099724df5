use Rattle.std.proofs.Common.{List, ℕ, [], subst, sym, ◌∙◌}
use Rattle.std.proofs.lemmas.Bool.{false≢true}
use Rattle.std.proofs.lemmas.List.{get_or_read}
use Rattle.rp_check_mixture.proofs.ShareLemmas.{no_kind}
use Rattle.rp_check_mixture.proofs.evidence.check_share.Goals as goal

pub returns-then-not-is_kind : goal.returns-then-not-is_kind
returns-then-not-is_kind g c =
    let k = g.C.CellUnits.kinds c.args.choosers.now in
    let share = c.index-shares-k.result in
    no_kind k c.args.shares.now c.args.k share c.fails-then-not-is_kind.result
    (get_or_read c.args.shares.now c.args.k share c.requires c.index-shares-k.is (record { patches = []; weight = 0 }))
    (subst (λ (xs : List ℕ). k.IsFormed xs) c.as_slice.ensures (c.is_formed.ensures.0 c.if-not-is_formed.false))
    c.if-share-eq0.false
    (λ h. false≢true (sym c.if-not-is_kind.true ∙ c.is_kind.ensures.1 (subst (λ (xs : List ℕ). k.IsKind xs) (sym c.as_slice-2.ensures) h)))
    c.fails-then-not-is_kind.ensures
