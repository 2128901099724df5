use Rattle.std.proofs.Common.{◌≡◌, ◌≢◌, ◌<◌, inl, inr, ap, arith, length, refl, rules, subst, sym, ◌∙◌, List, ℕ}
use Rattle.rp_generated.specs.InnerLooks.{NoneBegins}
use Rattle.rp_patch.specs.Types.{IsRationalType}
use Rattle.rp_generated.proofs.RoundLaws.{ok_so, same_types, type_taken}
use Rattle.rp_patch.specs.PartialTypes.{taken_in}
use Rattle.rp_patch.specs.Patches.{budget_at}
use Rattle.rp_patch.proofs.SearchLaws.{excluded_by_budget, whole_type}
use Rattle.rp_generated.proofs.Looks.{all_decided, decided_next, if_ok, passed_over, plain_looked, plain_none, start_looking, whole_found}
use Rattle.rp_generated.proofs.plain.+seek_plainly.Goals as goal
use Rattle.rp_generated.proofs.plain.+seek_plainly.Goals.{then-budget_of-partial+in-Some+in_ok-seek_plainly, then-budget_of-partial+in_default, else-budget_of-partial}

pub returns-then-partial-budgets-clause-looked : goal.returns-then-partial-budgets-clause-looked
returns-then-partial-budgets-clause-looked t c =
    if_ok c.take.result _ (λ x. whole_found c.args.patches.now (taken_in c.args.partial.now) _ _ _ _ c.take.ensures.steps
    (whole_type c.args.patches.now c.args.partial.now c.requires (c.if-partial-budgets.true ∙ c.budgets-2.ensures.count) c.requires.0.count))

pub returns-then-partial-budgets-clause-types : goal.returns-then-partial-budgets-clause-types
returns-then-partial-budgets-clause-types t c =
    let p = c.args.patches.now in
    let part = c.args.partial.now in
    let rational = whole_type p part c.requires (c.if-partial-budgets.true ∙ c.budgets-2.ensures.count) c.requires.0.count in
    ok_so c.take.result _ _ c.take.ensures.last (λ x adds. type_taken p c.patches.result.now c.args.light.now c.take.new.self (subst (λ (xs : List ℕ). IsRationalType p xs) (sym c.patches.ensures) rational) adds)

pub loop-i-init : goal.loop-i-init
loop-i-init t c = record {
  most = refl;
  looked = start_looking c.args.patches.now (taken_in c.args.partial.now) (λ i. i) (length c.args.patches.now.patches) c.args.light.now.steps (length c.args.light.now.types.items);
  types = λ are. are;
  decided = λ none. inr (λ h l. absurd (omega (arith, l)));
}

pub loop-i-preserved : goal.loop-i-preserved
loop-i-preserved t c =
    let p = c.args.patches.now in
    let part = c.args.partial.now in
    let front = taken_in part in
    let i = c.loop-i.i in
    let so_far = c.loop-i.invariant in
    let inside : i < length p.patches = search rules in
    let none_before : length c.loop-i.light.types.items ≡ 0 = search rules in
    elim c.if-budget_of-partial.branch [
      | then-budget_of-partial+in-Some+in_ok-seek_plainly w ↦
          rw w.light-is (record {
            most = w.in_ok-seek_plainly.ensures.most ∙ w.look_plainly.ensures.most ∙ so_far.most;
            looked = plain_looked p part (length p.patches) i _ _ _ _ _ _ inside inside (sym c.budget_of.ensures.exact ∙ w.if-budget_of-partial.true) c.requires so_far.looked _ _ _
                w.look_plainly.ensures.counted w.in-Some.ensures.longer (ap (λ types. length types.items) w.look_plainly.ensures.types) w.in_ok-seek_plainly.ensures.looked;
            types = λ are. w.in_ok-seek_plainly.ensures.types (same_types p _ _ w.look_plainly.ensures.types (so_far.types are));
            decided = λ none. elim (w.in_ok-seek_plainly.ensures.decided none) [
              | inl spent ↦ inl spent
              | inr here ↦ elim (so_far.decided none_before) [
                | inl spent ↦ absurd (omega (arith, spent, c.if-is_given_up.ensures.left))
                | inr before ↦ inr (decided_next p front i before (subst (λ (longer : List ℕ). NoneBegins p longer) w.in-Some.ensures.longer here))
              ]
            ];
          })
      | then-budget_of-partial+in_default w ↦
          rw w.light-is (record {
            most = w.look_plainly.ensures.most ∙ so_far.most;
            looked = plain_none p part (length p.patches) i _ _ _ _ inside inside (sym c.budget_of.ensures.exact ∙ w.if-budget_of-partial.true) c.requires so_far.looked _ _
                w.look_plainly.ensures.counted (ap (λ types. length types.items) w.look_plainly.ensures.types);
            types = λ are. same_types p _ _ w.look_plainly.ensures.types (so_far.types are);
            decided = λ none. elim (so_far.decided none_before) [
              | inl spent ↦ absurd (omega (arith, spent, c.if-is_given_up.ensures.left))
              | inr before ↦ inr (decided_next p front i before w.in_default.ensures.excluded)
            ];
          })
      | else-budget_of-partial w ↦
          rw w.light-is (record {
            most = so_far.most;
            looked = passed_over p front (λ k. k) (length p.patches) i _ _ _ _ so_far.looked;
            types = so_far.types;
            decided = λ none. elim (so_far.decided none) [
              | inl spent ↦ inl spent
              | inr before ↦
                  let no = w.if-budget_of-partial.false in
                  let other : budget_at p i ≢ length front = λ e. absurd (omega (arith, no, c.budget_of.ensures.exact, e, c.requires.0.count)) in
                  inr (decided_next p front i before (excluded_by_budget p front i other))
            ];
          })
    ]

pub returns-clause-decided : goal.returns-clause-decided
returns-clause-decided t c =
    let p = c.args.patches.now in
    let front = taken_in c.args.partial.now in
    λ none. elim (c.loop-i.invariant.decided none) [
      | inl spent ↦ inl spent
      | inr before ↦
          let short : length front < p.budgets = omega (arith, c.if-partial-budgets.false, c.budgets-2.ensures.count, c.requires.0.few, c.requires.0.count) in
          inr (all_decided p front short (λ h l. before h (omega (arith, l, c.count-i-end.ensures.count))))
    ]
