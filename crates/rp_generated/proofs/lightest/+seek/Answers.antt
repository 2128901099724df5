use Rattle.std.proofs.Common.{inl, inr, [], ◌∷◌, ◌++◌, ◌+◌, ◌≤◌, List, ℕ, refl, subst, sym, ◌≡◌, ◌<◌, ◌∙◌, ap, arith, length, rules, slice_index}
use Rattle.rp_patch.proofs.SearchLaws.{whole_type}
use Rattle.rp_patch.specs.Types.{IsRationalType}
use Rattle.rp_generated.proofs.RoundLaws.{ok_both, ok_so}
use Rattle.rp_patch.specs.PartialTypes.{taken_in}
use Rattle.rp_patch.specs.Kinds.{cells_weight}
use Rattle.rp_patch.specs.Patches.{budget_at}
use Rattle.rp_generated.specs.InnerLight.{AreOrdered, IsSettled, IsSettledBelow, NoneIsLighter}
use Rattle.rp_generated.specs.Steps.{AreSpent}
use Rattle.rp_generated.proofs.LightTypes.{all_settled, none_at_all, rest_settled, settled_more, sought_more, sought_none, sought_same, type_settled, type_sought}
use Rattle.rp_generated.proofs.Looks.{each_at, if_ok, next_looked, next_none, start_looking, whole_found}
use Rattle.rp_generated.proofs.lightest.+seek.Goals as goal
use Rattle.rp_generated.proofs.lightest.+seek.Goals.{in-Some-look+in_ok-seek, in_default-look}

pub returns-then-taken-budgets-clause-looked : goal.returns-then-taken-budgets-clause-looked
returns-then-taken-budgets-clause-looked t c =
    let p = c.args.patches.now in
    let part = c.args.begun.now.partial in
    if_ok c.take.result _ (λ x. whole_found p (taken_in part) _ _ _ _ c.take.ensures.steps
    (whole_type p part c.requires.part (c.if-taken-budgets.true ∙ c.budgets-2.ensures.count) c.requires.part.0.count))

pub loop-k-init : goal.loop-k-init
loop-k-init t c = record {
  most = refl;
  looked = start_looking c.args.patches.now (taken_in c.args.begun.now.partial) (slice_index c.on-list.result.now) (length c.on-list.result.now) c.args.lightest.now.steps (length c.args.lightest.now.types.items);
  sought = sought_none c.args.patches.now c.args.prices.now.prices.items c.args.lightest.now;
  settled = inr (λ m l. absurd (omega (arith, l)));
}

pub returns-then-taken-budgets-clause-sought : goal.returns-then-taken-budgets-clause-sought
returns-then-taken-budgets-clause-sought t c =
    let p = c.args.patches.now in
    let part = c.args.begun.now.partial in
    let weights = c.args.prices.now.prices.items in
    let rational = whole_type p part c.requires.part (c.if-taken-budgets.true ∙ c.budgets-2.ensures.count) c.requires.part.0.count in
    ok_both c.take.result _ _ _ c.take.ensures.weight c.take.ensures.last (λ x now adds.
    type_sought p weights c.patches.result.now c.args.begun.now.weight c.args.lightest.now c.take.new.self (subst (λ (xs : List ℕ). IsRationalType p xs) (sym c.patches.ensures) rational)
    (c.requires.weighed.exact ∙ sym (ap (cells_weight weights) c.patches.ensures)) c.requires.lighter now adds)

pub returns-then-taken-budgets-clause-settled : goal.returns-then-taken-budgets-clause-settled
returns-then-taken-budgets-clause-settled t c =
    let p = c.args.patches.now in
    let part = c.args.begun.now.partial in
    let weights = c.args.prices.now.prices.items in
    ok_so c.take.result _ _ c.take.ensures.weight (λ x now.
    type_settled p weights (taken_in part) c.args.begun.now.weight c.take.new.self (c.requires.part.0.count ∙ c.if-taken-budgets.true ∙ c.budgets-2.ensures.count) c.requires.weighed.exact now)

pub returns-in_default-clause-sought : goal.returns-in_default-clause-sought
returns-in_default-clause-sought t c = sought_none c.args.patches.now c.args.prices.now.prices.items c.args.lightest.now

pub returns-in_default-clause-settled : goal.returns-in_default-clause-settled
returns-in_default-clause-settled t c =
    let p = c.args.patches.now in
    let part = c.args.begun.now.partial in
    let weights = c.args.prices.now.prices.items in
    let short : part.taken + 1 ≤ p.budgets = omega (arith, c.if-taken-budgets.false, c.budgets-2.ensures.count, c.requires.part.0.few) in
    inr (none_at_all p weights (taken_in part) c.args.begun.now.fit.words (part.taken + 1) c.args.lightest.now.weight c.requires.weighed.fits (c.in_default.ensures.least p c.requires.listed short))

pub loop-k-preserved : goal.loop-k-preserved
loop-k-preserved t c =
    let p = c.args.patches.now in
    let part = c.args.begun.now.partial in
    let front = taken_in part in
    let weights = c.args.prices.now.prices.items in
    let list = c.on-list.result.now in
    let k = c.loop-k.k in
    let so_far = c.loop-k.invariant in
    let short : part.taken < p.budgets = omega (arith, c.if-taken-budgets.false, c.budgets-2.ensures.count, c.requires.part.0.few) in
    let ordered = c.on-list.ensures p c.requires.listed short in
    let within : k < length list = search rules in
    let some_left = c.is_given_up.ensures.left c.if-is_given_up.false in
    let left : ¬ AreSpent c.loop-k.lightest.most c.loop-k.lightest.steps = λ spent. absurd (omega (arith, spent, some_left)) in
    elim c.match-look.branch [
      | in-Some-look+in_ok-seek w ↦
          let sought = w.in_ok-seek.ensures.sought in
          let same_weight = w.in-Some-look.ensures.weight in
          let lower = sought.lower in
          rw w.lightest-is (record {
            most = w.in_ok-seek.ensures.most ∙ w.in-Some-look.ensures.most ∙ so_far.most;
            looked = next_looked p part list k _ _ _ _ _ _ within ordered.on c.requires.part so_far.looked _ _ _ w.in-Some-look.ensures.counted w.in-Some-look.ensures.longer (ap (λ types. length types.items) w.in-Some-look.ensures.types) w.in_ok-seek.ensures.looked;
            sought = sought_more p weights c.args.lightest.now c.loop-k.lightest c.look.new.self w.seek.new.lightest so_far.sought w.in-Some-look.ensures.types same_weight sought;
            settled = settled_more p weights front list k c.loop-k.lightest w.seek.new.lightest left (omega (arith, lower, same_weight)) so_far.settled
                (subst (λ (longer : List ℕ). IsSettled p weights longer w.seek.new.lightest) w.in-Some-look.ensures.longer w.in_ok-seek.ensures.settled);
          })
      | in_default-look w ↦
          let same_weight = w.in_default-look.ensures.weight in
          rw w.lightest-is (record {
            most = w.in_default-look.ensures.most ∙ so_far.most;
            looked = next_none p part list k _ _ _ _ within ordered.on c.requires.part so_far.looked _ _ w.in_default-look.ensures.counted (ap (λ types. length types.items) w.in_default-look.ensures.types);
            sought = sought_same p weights c.args.lightest.now c.loop-k.lightest c.look.new.self so_far.sought w.in_default-look.ensures.types same_weight;
            settled = settled_more p weights front list k c.loop-k.lightest c.look.new.self left (omega (arith, same_weight)) so_far.settled
                (inr (subst (λ (n : ℕ). NoneIsLighter p weights (front ++ slice_index list k ∷ []) n) (sym same_weight) w.in_default-look.ensures.none));
          })
    ]

pub returns-then-is_given_up-clause-looked : goal.returns-then-is_given_up-clause-looked
returns-then-is_given_up-clause-looked t c = c.loop-k.invariant.looked.under

pub returns-then-is_given_up-clause-settled : goal.returns-then-is_given_up-clause-settled
returns-then-is_given_up-clause-settled t c = inl (c.is_given_up.ensures.spent c.if-is_given_up.true)

pub returns-clause-looked : goal.returns-clause-looked
returns-clause-looked t c = c.loop-k.invariant.looked.under

pub returns-clause-settled : goal.returns-clause-settled
returns-clause-settled t c =
    let p = c.args.patches.now in
    let part = c.args.begun.now.partial in
    let weights = c.args.prices.now.prices.items in
    let list = c.on-list.result.now in
    let short : part.taken < p.budgets = omega (arith, c.if-taken-budgets.false, c.budgets-2.ensures.count, c.requires.part.0.few) in
    let ordered = c.on-list.ensures p c.requires.listed short in
    let all : c.loop-k.k ≡ length list = search rules in
    let count = c.requires.part.0.count in
    all_settled p weights (taken_in part) list c.loop-k.lightest (omega (arith, count, short))
    (subst (λ (j : ℕ). AreOrdered p weights j (length p.patches) list) (sym count) ordered)
    (subst (λ (k : ℕ). IsSettledBelow p weights (taken_in part) list k c.loop-k.lightest) all c.loop-k.invariant.settled)

pub least_from-requires-clause-first : goal.least_from-requires-clause-first
least_from-requires-clause-first t c = omega (arith, c.if-taken-budgets.false, c.budgets-2.ensures.count, c.requires.part.0.few, c.requires.listed.budgets)

pub look-requires-clause-next : goal.look-requires-clause-next
look-requires-clause-next t c =
    let p = c.args.patches.now in
    let part = c.args.begun.now.partial in
    let list = c.on-list.result.now in
    let short : part.taken < p.budgets = omega (arith, c.if-taken-budgets.false, c.budgets-2.ensures.count, c.requires.part.0.few) in
    let within : c.loop-k.k < length list = search rules in
    each_at (λ i. budget_at p i ≡ part.taken) list (c.on-list.ensures p c.requires.listed short).on.on_budget c.loop-k.k 0 within

pub look-requires-clause-patch : goal.look-requires-clause-patch
look-requires-clause-patch t c =
    let p = c.args.patches.now in
    let part = c.args.begun.now.partial in
    let list = c.on-list.result.now in
    let short : part.taken < p.budgets = omega (arith, c.if-taken-budgets.false, c.budgets-2.ensures.count, c.requires.part.0.few) in
    let within : c.loop-k.k < length list = search rules in
    each_at (λ i. i < length p.patches) list (c.on-list.ensures p c.requires.listed short).on.inside c.loop-k.k 0 within

pub returns-then-begun-of-clause-settled : goal.returns-then-begun-of-clause-settled
returns-then-begun-of-clause-settled t c =
    let p = c.args.patches.now in
    let begun = c.args.begun.now in
    let part = begun.partial in
    let weights = c.args.prices.now.prices.items in
    let list = c.on-list.result.now in
    let count = c.requires.part.0.count in
    let short : part.taken < p.budgets = omega (arith, c.if-taken-budgets.false, c.budgets-2.ensures.count, c.requires.part.0.few) in
    let within : c.loop-k.k < length list = search rules in
    let heavy : c.loop-k.lightest.weight ≤ begun.weight + c.of.result + c.in-Some.to_come = search rules in
    rest_settled p weights (taken_in part) list begun.fit.words c.loop-k.k begun.weight c.in-Some.to_come (part.taken + 1) c.of.result c.loop-k.lightest (omega (arith, count, short))
    (subst (λ (j : ℕ). AreOrdered p weights j (length p.patches) list) (sym count) (c.on-list.ensures p c.requires.listed short)) within c.loop-k.invariant.settled
    c.requires.weighed.fits c.requires.weighed.exact (omega (arith, count)) c.of.ensures.exact (c.in-Some.ensures.least p c.requires.listed (omega (arith, short))) heavy
