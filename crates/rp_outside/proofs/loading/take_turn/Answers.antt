use Rattle.std.proofs.Common.{◌≡◌, ◌≤◌, length, arith, ⊎_elim, ◌∙◌, length-drop, refl, rules}
use Rattle.rp_outside.proofs.Fronts.{longer_front, whole_front}
use Rattle.rp_outside.proofs.loading.take_turn.Goals as goal

pub returns-then-at-n-clause-too_long_only : goal.returns-then-at-n-clause-too_long_only
returns-then-at-n-clause-too_long_only g c e bs known =
    let given = c.in-Ok.ensures.known_bytes bs known in
    omega (arith, length-drop c.len-at.result bs, given.1, c.if-at-n.true, c.len-at.ensures, c.args.bytes.now.ok.0)

pub returns-in-Ok-eq0-clause-ended : goal.returns-in-Ok-eq0-clause-ended
returns-in-Ok-eq0-clause-ended g c e = (
  refl,
  λ bs known.
      let at_end : length bs ≤ length c.args.bytes.now.items =
      ⊎_elim (λ none. absurd (omega (arith, none, c.read_at.auto.into))) (λ past. omega (arith, past, c.len-at.ensures, c.args.bytes.now.ok.0)) (c.in-Ok-eq0.ensures.none_only_at_end (search rules) bs known) in
      whole_front bs c.args.bytes.now.items (c.requires.front bs known) at_end,
)

pub returns-in-Ok-extend_from_slice-clause-grew : goal.returns-in-Ok-extend_from_slice-clause-grew
returns-in-Ok-extend_from_slice-clause-grew g c e = (
  search rules,
  search rules,
  λ bs known.
      let given = c.in-Ok.ensures.known_bytes bs known in
      let place : c.len-at.result ≡ length c.args.bytes.now.items = c.len-at.ensures ∙ c.args.bytes.now.ok.0 in
      rw c.in-Ok-extend_from_slice.ensures.items (longer_front bs c.args.bytes.now.items _ c.in-Ok.n (c.requires.front bs known) (rw (← place) given)),
)
