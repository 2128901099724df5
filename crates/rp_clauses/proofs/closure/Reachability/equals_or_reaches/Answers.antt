use Rattle.std.proofs.Common.{arith, inl, inr, sym, ◌∙◌}
use Rattle.std.proofs.lemmas.Bool.{eq-eqb}
use Rattle.rp_evidence.proofs.EqualOrReached.{equal_or_reached, equals, reaches}
use Rattle.rp_clauses.proofs.SeenClosures.{seen_bit}
use Rattle.rp_clauses.proofs.closure.Reachability.equals_or_reaches.Goals as goal

pub returns-then-s-t : goal.returns-then-s-t
returns-then-s-t c = λ input closes s_in t_in. (
  (λ h. equals input c.args.s c.args.t s_in (omega arith)),
  (λ r. eq-eqb c.args.s c.args.t (omega arith)),
)

pub returns-else-s-t : goal.returns-else-s-t
returns-else-s-t c = λ input closes s_in t_in.
    let f = c.self.inside in
    let s = c.args.s in
    let t = c.args.t in
    let seen = c.is_set.ensures ∙ seen_bit c.args.self.now f.n f.rows c.self.view_is s t (omega (arith, closes.size, s_in)) (omega (arith, closes.size, t_in)) in
    let told = closes.exact s t s_in t_in in (
      (λ h. reaches input s t (told.0 (sym seen ∙ h))),
      (λ r. elim (equal_or_reached input s t r) [ inl e ↦ absurd (omega (arith, e)) | inr k ↦ seen ∙ told.1 k ]),
    )
