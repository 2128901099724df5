use Rattle.std.proofs.Common.{◌≡◌, length, get_or}
use Rattle.rp_walk.specs.InnerRounds.{IsNext, TriedFits, totals_of}
use Rattle.rp_walk.proofs.round.next_round.Given as goal

abbrev pub invariant-loop-from : goal.invariant-loop-from
invariant-loop-from g l = record {
  values_len : length l.next.values.items ≡ (g.T.Total.rule l.total).count;
  from_len : length l.next.from.items ≡ (g.T.Total.rule l.total).count;
  next : IsNext (g.T.Total.rule l.total) (totals_of g.T.Total.exact (g.T.Total.rule l.total).empty l.round.values.items) (λ s. get_or l.round.from.items s 0) l.from (totals_of g.T.Total.exact (g.T.Total.rule l.total).empty l.next.values.items) (λ s. get_or l.next.from.items s 0);
  fit : TriedFits (g.T.Total.rule l.total) g.T.Total.fits (totals_of g.T.Total.exact (g.T.Total.rule l.total).empty l.round.values.items) (λ s. get_or l.round.from.items s 0) l.from;
}
