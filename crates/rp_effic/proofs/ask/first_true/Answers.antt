use Rattle.std.proofs.Common.{◌+◌, ◌-◌, ◌/◌, refl, sym, ◌∙◌, arith}
use Rattle.std.proofs.lemmas.Bool.{false≢true}
use Rattle.rp_effic.proofs.FirstTrueLemmas.{countable, few_after, one_more, to_left, to_right}
use Rattle.rp_effic.proofs.ask.first_true.Goals as goal

pub ask-requires-clause-countable : goal.ask-requires-clause-countable
ask-requires-clause-countable g c =
    let l = c.loop-low in
    countable (g.A.Ask.places c.args.asker.now) (g.A.Ask.holds c.args.asker.now) (g.A.Ask.asks c.args.asker.now) (g.A.Ask.asks l.asker) l.low l.high c.requires l.invariant.asks_rise
    (omega (arith, c.size-high.ensures.places)) l.invariant.halves

pub returns-in_err-ask-clause-few_asks : goal.returns-in_err-ask-clause-few_asks
returns-in_err-ask-clause-few_asks g c =
    let l = c.loop-low in
    let next = one_more (g.A.Ask.asks c.args.asker.now) (g.A.Ask.asks l.asker) (g.A.Ask.asks c.ask.new.self) l.invariant.asks_rise c.in_err-ask.ensures.counted in
    rw next (few_after (g.A.Ask.asks l.asker - g.A.Ask.asks c.args.asker.now) (g.A.Ask.places c.args.asker.now) (l.high - l.low) 0
    (l.invariant.halves.few_left c.loop-low-test.true) (omega (arith, c.loop-low-test.true)))

pub returns-in_err-ask-clause-holds_stays : goal.returns-in_err-ask-clause-holds_stays
returns-in_err-ask-clause-holds_stays g c = λ j.
    let now = c.in_err-ask.ensures.holds_stays j in
    let so_far = c.loop-low.invariant.holds_stays j in
    (λ h. so_far.0 (now.0 h), λ h. now.1 (so_far.1 h))

pub loop-low-preserved-then-branch : goal.loop-low-preserved-then-branch
loop-low-preserved-then-branch g c =
    let l = c.loop-low in
    let middle = l.low + (l.high - l.low) / 2 in
    let next = one_more (g.A.Ask.asks c.args.asker.now) (g.A.Ask.asks l.asker) (g.A.Ask.asks c.ask.new.self) l.invariant.asks_rise c.in_ok-ask.ensures.counted in
    let yes = (l.invariant.holds_stays middle).0 (c.in_ok-ask.ensures.value.0 c.if-branch.true) in
    record {
      holds_stays = λ j.
          let now = c.in_ok-ask.ensures.holds_stays j in
          let so_far = l.invariant.holds_stays j in
          (λ h. so_far.0 (now.0 h), λ h. now.1 (so_far.1 h));
      places_stay = c.in_ok-ask.ensures.places_stay ∙ l.invariant.places_stay;
      asks_rise = omega (arith, l.invariant.asks_rise, c.in_ok-ask.ensures.counted);
      halves = rw next (to_left (g.A.Ask.places c.args.asker.now) (g.A.Ask.holds c.args.asker.now) (g.A.Ask.asks l.asker - g.A.Ask.asks c.args.asker.now)
          l.low l.high middle l.invariant.halves c.loop-low-test.true refl yes);
    }

pub loop-low-preserved : goal.loop-low-preserved
loop-low-preserved g c =
    let l = c.loop-low in
    let middle = l.low + (l.high - l.low) / 2 in
    let next = one_more (g.A.Ask.asks c.args.asker.now) (g.A.Ask.asks l.asker) (g.A.Ask.asks c.ask.new.self) l.invariant.asks_rise c.in_ok-ask.ensures.counted in
    record {
      holds_stays = λ j.
          let now = c.in_ok-ask.ensures.holds_stays j in
          let so_far = l.invariant.holds_stays j in
          (λ h. so_far.0 (now.0 h), λ h. now.1 (so_far.1 h));
      places_stay = c.in_ok-ask.ensures.places_stay ∙ l.invariant.places_stay;
      asks_rise = omega (arith, l.invariant.asks_rise, c.in_ok-ask.ensures.counted);
      halves = rw next (to_right (g.A.Ask.places c.args.asker.now) (g.A.Ask.holds c.args.asker.now) (g.A.Ask.asks l.asker - g.A.Ask.asks c.args.asker.now)
          l.low l.high middle l.invariant.halves c.loop-low-test.true refl c.size-high.ensures.monotone
          (λ there. false≢true (sym c.if-branch.false ∙ c.in_ok-ask.ensures.value.1 ((l.invariant.holds_stays middle).1 there))));
    }
