use Rattle.std.proofs.Common.{◌<◌, sym, ◌∙◌, subst}
use Rattle.rp_pref.specs.InnerBits.{has_bit}
use Rattle.rp_evidence.proofs.Tabulated.{reaches_in_by}
use Rattle.rp_pref.proofs.closure.Closure.reaches.Goals as goal

pub returns : goal.returns
returns c = let f = c.self.inside in
    rw (← c.self.view_is) (c.is_set.ensures ∙ sym (reaches_in_by f.n (has_bit f.bits) c.args.s c.args.t
    (subst (λ v. c.args.s < v.n) (sym c.self.view_is) c.requires.from) (subst (λ v. c.args.t < v.n) (sym c.self.view_is) c.requires.to)))
