use Rattle.std.proofs.Common.{inl, inr, ◌≡◌, ◌<◌, ◌≤◌, ◌+◌, ◌∙◌, ℕ, IfSome, Option, arith, length, rules, subst}
use Rattle.std.specs.Prelude.{MatchBool, MatchOption}
use Rattle.rp_generated.specs.InnerLooks.{LookedFrom, WereMadeIn}
use Rattle.rp_generated.specs.InnerRounds.{FindsBy}
use Rattle.rp_generated.specs.Rounds.{HasNoLightType, SomePriceIsWide}
use Rattle.rp_generated.specs.Steps.{SomeHasFound}
use Rattle.rp_generated.specs.declared.looked.Lightest.{Lightest}
use Rattle.rp_generated.proofs.Looks.{round_made, withheld_spent}
use Rattle.rp_generated.proofs.RoundLaws.{adds_seen, ended_by_mixture, ended_by_pivots, ended_by_price, ended_by_rounds, ended_by_weights, mixture_ends, next_grown, weights_end}
use Rattle.rp_whole_tableau.specs.Programs.{HasSoMuch, IsLeft, IsSolvedBy}
use Rattle.rp_generated.proofs.rounds.later_rounds.Goals as goal

pub returns-then-not-branch-clause-ends : goal.returns-then-not-branch-clause-ends
returns-then-not-branch-clause-ends c =
    let p = c.args.patches.now in
    let most = c.args.most in
    let round = c.loop-round._round in
    let before = c.loop-round.program in
    let well = c.in_ok-solve.field-0 in
    let solves = subst (λ (much : ℕ). MatchBool well (IsSolvedBy much before c.solve.new.self) (IsLeft before)) c.total.ensures c.in_ok-solve.ensures in
    let made = c.loop-round.invariant.made in
    let grown = c.loop-round.invariant.grown in
    ended_by_pivots p most (round + 2) c.loop-round.steps round before (omega (arith, c.loop-round-test.true)) made grown (omega (arith, c.loop-round-test.true)) _ well c.if-not-branch.true solves

pub returns-then-has-clause-ends : goal.returns-then-has-clause-ends
returns-then-has-clause-ends c =
    let p = c.args.patches.now in
    let most = c.args.most in
    let round = c.loop-round._round in
    let before = c.loop-round.program in
    let well = c.in_ok-solve.field-0 in
    let solves = subst (λ (much : ℕ). MatchBool well (IsSolvedBy much before c.solve.new.self) (IsLeft before)) c.total.ensures c.in_ok-solve.ensures in
    let made = c.loop-round.invariant.made in
    let grown = c.loop-round.invariant.grown in
    let whole : HasSoMuch c.solve.new.self p.total = search rules in
    mixture_ends p most c.loop-round.steps c.solve.new.self c.in_ok-part.part c.in_ok-part.ensures
    (ended_by_mixture p most (round + 2) c.loop-round.steps round before (omega (arith, c.loop-round-test.true)) made grown (omega (arith, c.loop-round-test.true)) _ c.solve.new.self well c.if-not-branch.false solves whole)

pub returns-in_default-clause-ends : goal.returns-in_default-clause-ends
returns-in_default-clause-ends c =
    let p = c.args.patches.now in
    let most = c.args.most in
    let round = c.loop-round._round in
    let before = c.loop-round.program in
    let well = c.in_ok-solve.field-0 in
    let solves = subst (λ (much : ℕ). MatchBool well (IsSolvedBy much before c.solve.new.self) (IsLeft before)) c.total.ensures c.in_ok-solve.ensures in
    let made = c.loop-round.invariant.made in
    let grown = c.loop-round.invariant.grown in
    let wide : SomePriceIsWide p c.solve.new.self = search rules in
    ended_by_price p most (round + 2) c.loop-round.steps round before (omega (arith, c.loop-round-test.true)) made grown (omega (arith, c.loop-round-test.true)) _ c.solve.new.self well c.if-not-branch.false solves wide

pub returns-then-is_given_up-clause-ends : goal.returns-then-is_given_up-clause-ends
returns-then-is_given_up-clause-ends c =
    let p = c.args.patches.now in
    let most = c.args.most in
    let round = c.loop-round._round in
    let before = c.loop-round.program in
    let well = c.in_ok-solve.field-0 in
    let solves = subst (λ (much : ℕ). MatchBool well (IsSolvedBy much before c.solve.new.self) (IsLeft before)) c.total.ensures c.in_ok-solve.ensures in
    let made = c.loop-round.invariant.made in
    let grown = c.loop-round.invariant.grown in
    let light = c.in-Some.light in
    let same : light.most ≡ most = subst (λ (found : Option Lightest). IfSome found (λ found. found.most ≡ most)) c.in-Some.is c.in_ok-light.ensures.most in
    let within : light.steps ≤ most = let few = light.few in omega (arith, few, same) in
    let under = subst (λ (found : Option Lightest). IfSome found (LookedFrom p c.loop-round.steps)) c.in-Some.is c.in_ok-light.ensures.looked in
    let later = round_made p most (round + 2) c.loop-round.steps light.steps (length light.types.items) made under within in
    withheld_spent p most (round + 2 + 1) light.steps (omega (arith, c.loop-round-test.true)) later (c.is_given_up.ensures.spent c.if-is_given_up.true ∙ same)

pub returns-then-is_empty-clause-ends : goal.returns-then-is_empty-clause-ends
returns-then-is_empty-clause-ends c =
    let p = c.args.patches.now in
    let most = c.args.most in
    let round = c.loop-round._round in
    let before = c.loop-round.program in
    let well = c.in_ok-solve.field-0 in
    let solves = subst (λ (much : ℕ). MatchBool well (IsSolvedBy much before c.solve.new.self) (IsLeft before)) c.total.ensures c.in_ok-solve.ensures in
    let made = c.loop-round.invariant.made in
    let grown = c.loop-round.invariant.grown in
    let light = c.in-Some.light in
    let same : light.most ≡ most = subst (λ (found : Option Lightest). IfSome found (λ found. found.most ≡ most)) c.in-Some.is c.in_ok-light.ensures.most in
    let within : light.steps ≤ most = let few = light.few in omega (arith, few, same) in
    let under = subst (λ (found : Option Lightest). IfSome found (LookedFrom p c.loop-round.steps)) c.in-Some.is c.in_ok-light.ensures.looked in
    let later = round_made p most (round + 2) c.loop-round.steps light.steps (length light.types.items) made under within in
    let finds = subst (λ (found : Option Lightest). MatchOption found (SomePriceIsWide p c.solve.new.self) (FindsBy p c.solve.new.self)) c.in-Some.is c.in_ok-light.ensures.finds in
    let lacking : length light.types.items ≡ 0 = search rules in
    let left = c.is_given_up.ensures.left c.if-is_given_up.false in
    let none : HasNoLightType p c.solve.new.self = elim (finds.none lacking) [ inl spent ↦ absurd (omega (arith, spent, left)) | inr none ↦ none ] in
    weights_end p most light.steps c.solve.new.self c.in_ok-part-2.part c.in_ok-part-2.ensures
    (ended_by_weights p most (round + 2 + 1) light.steps round before (omega (arith, c.loop-round-test.true)) later grown (omega (arith, c.loop-round-test.true)) _ c.solve.new.self well c.if-not-branch.false solves none)

pub loop-round-preserved : goal.loop-round-preserved
loop-round-preserved c =
    let p = c.args.patches.now in
    let most = c.args.most in
    let round = c.loop-round._round in
    let before = c.loop-round.program in
    let well = c.in_ok-solve.field-0 in
    let solves = subst (λ (much : ℕ). MatchBool well (IsSolvedBy much before c.solve.new.self) (IsLeft before)) c.total.ensures c.in_ok-solve.ensures in
    let made = c.loop-round.invariant.made in
    let grown = c.loop-round.invariant.grown in
    let light = c.in-Some.light in
    let same : light.most ≡ most = subst (λ (found : Option Lightest). IfSome found (λ found. found.most ≡ most)) c.in-Some.is c.in_ok-light.ensures.most in
    let within : light.steps ≤ most = let few = light.few in omega (arith, few, same) in
    let under = subst (λ (found : Option Lightest). IfSome found (LookedFrom p c.loop-round.steps)) c.in-Some.is c.in_ok-light.ensures.looked in
    let later = round_made p most (round + 2) c.loop-round.steps light.steps (length light.types.items) made under within in
    let finds = subst (λ (found : Option Lightest). MatchOption found (SomePriceIsWide p c.solve.new.self) (FindsBy p c.solve.new.self)) c.in-Some.is c.in_ok-light.ensures.finds in
    let some : 0 < length light.types.items = search rules in
    record {
      made = subst (λ (n : ℕ). WereMadeIn p most n light.steps (SomeHasFound p)) (omega arith) later;
      grown = next_grown _ p round (length light.types.items) before c.solve.new.self c.add_all.new.program well grown c.if-not-branch.false solves some
          (adds_seen p light.types.items c.as_slice.result.now c.solve.new.self c.add_all.new.program c.as_slice.ensures.value c.in_ok-add_all.ensures finds.light);
    }

pub returns-clause-ends : goal.returns-clause-ends
returns-clause-ends c =
    let p = c.args.patches.now in
    let most = c.args.most in
    let round = c.loop-round._round in
    let all : round ≡ 65535 = search rules in
    ended_by_rounds p most (round + 2) c.loop-round.steps round c.loop-round.program (omega (arith, all)) c.loop-round.invariant.made c.loop-round.invariant.grown (omega (arith, all)) all

pub returns-then-is_given_up-clause-few : goal.returns-then-is_given_up-clause-few
returns-then-is_given_up-clause-few c =
    let most = c.args.most in
    let light = c.in-Some.light in
    let same : light.most ≡ most = subst (λ (found : Option Lightest). IfSome found (λ found. found.most ≡ most)) c.in-Some.is c.in_ok-light.ensures.most in
    let few = light.few in omega (arith, few, same)

pub returns-then-is_empty-clause-few : goal.returns-then-is_empty-clause-few
returns-then-is_empty-clause-few c =
    let most = c.args.most in
    let light = c.in-Some.light in
    let same : light.most ≡ most = subst (λ (found : Option Lightest). IfSome found (λ found. found.most ≡ most)) c.in-Some.is c.in_ok-light.ensures.most in
    let few = light.few in omega (arith, few, same)
