use Rattle.std.proofs.Common.{⊎_elim, arith, rules}
use Rattle.rp_outside.proofs.Counts.{HasRisen-next, count-rises}
use Rattle.rp_outside.proofs.Fronts.{calls_so_far}
use Rattle.rp_outside.proofs.Listed.{asked-at-most-once, asked-more, asked-once}
use Rattle.rp_outside.proofs.loading.load.Goals as goal

pub returns-in_err-take_turn-clause-some_read : goal.returns-in_err-take_turn-clause-some_read
returns-in_err-take_turn-clause-some_read g c =
    rw c.in_err-take_turn.ensures.call_counted (HasRisen-next _ _ c.loop-bytes.invariant.0.calls_rise)

pub returns-in-Ended-clause-some_read : goal.returns-in-Ended-clause-some_read
returns-in-Ended-clause-some_read g c =
    rw c.in_ok-take_turn.ensures.call_counted (HasRisen-next _ _ c.loop-bytes.invariant.0.calls_rise)

pub returns-in_err-take_turn-clause-read_through : goal.returns-in_err-take_turn-clause-read_through
returns-in_err-take_turn-clause-read_through g c =
    let so_far = c.loop-bytes.invariant.0 in
    rw c.in_err-take_turn.ensures.call_counted (calls_so_far (g.D.Desk.bytes c.args.desk.now c.args.name.now) c.loop-bytes.bytes.items c.args.limit (g.D.Desk.calls c.args.desk.now) _ so_far.begins so_far.in_limit so_far.calls_counted)

pub returns-in-Ended-clause-read_through : goal.returns-in-Ended-clause-read_through
returns-in-Ended-clause-read_through g c =
    let so_far = c.loop-bytes.invariant.0 in
    rw c.in_ok-take_turn.ensures.call_counted (calls_so_far (g.D.Desk.bytes c.args.desk.now c.args.name.now) c.loop-bytes.bytes.items c.args.limit (g.D.Desk.calls c.args.desk.now) _ so_far.begins so_far.in_limit so_far.calls_counted)

pub loop-bytes-preserved : goal.loop-bytes-preserved
loop-bytes-preserved g c =
    let so_far = c.loop-bytes.invariant in
    let turn = c.in_ok-take_turn.ensures in
    let grew = turn.grew (search rules) in (
      record {
        in_limit = omega (arith, grew.1, c.take_turn.new.bytes.ok.0);
        begins = rw so_far.1.bytes_stay at grew.2;
        calls_rise = rw turn.call_counted (count-rises _ _ so_far.0.calls_rise);
        calls_counted = omega (arith, turn.call_counted, so_far.0.calls_counted, grew.0, c.take_turn.new.bytes.ok.0, c.loop-bytes.bytes.ok.0);
      },
      record { bytes_stay = search rules; faults_stay = search rules },
      asked-more _ (g.D.Desk.asked c.loop-bytes.desk) _ c.args.name.now _ _ so_far.2 (⊎_elim (λ none. absurd cc) (λ listed. listed) turn.listed) grew.0,
    )

pub returns-in_err-take_turn-clause-asks_at_most_once : goal.returns-in_err-take_turn-clause-asks_at_most_once
returns-in_err-take_turn-clause-asks_at_most_once g c =
    asked-at-most-once _ (g.D.Desk.asked c.loop-bytes.desk) _ c.args.name.now _ c.loop-bytes.invariant.2 c.in_err-take_turn.ensures.may_list

pub returns-in-Ended-clause-asks_once : goal.returns-in-Ended-clause-asks_once
returns-in-Ended-clause-asks_once g c =
    asked-once _ (g.D.Desk.asked c.loop-bytes.desk) _ c.args.name.now _ c.loop-bytes.invariant.2 (⊎_elim (λ none. absurd cc) (λ listed. listed) c.in_ok-take_turn.ensures.listed)

pub returns-in-Ended-clause-asks_at_most_once : goal.returns-in-Ended-clause-asks_at_most_once
returns-in-Ended-clause-asks_at_most_once g c =
    asked-at-most-once _ (g.D.Desk.asked c.loop-bytes.desk) _ c.args.name.now _ c.loop-bytes.invariant.2 c.in_ok-take_turn.ensures.may_list
