use Rattle.std.proofs.Common.{◌≡◌, arith}
use Rattle.rp_pref.specs.Closure.{IsCountIn}
use Rattle.rp_pref.proofs.VerdictLemmas.{one_more_entry}
use Rattle.rp_pref.proofs.closure.Closure.counts.Goals as goal

pub loop-s-preserved : goal.loop-s-preserved
loop-s-preserved c =
    let l = c.loop-s in
    let more = one_more_entry (IsCountIn c.args.self.now) l.counts.items l.s c.count.result l.invariant.one_each l.invariant.each c.count.ensures c.push.new.self.items c.in_ok-push.ensures.items in
    record { one_each = more.0; each = more.1 }

pub returns : goal.returns
returns c =
    let l = c.loop-s in
    let end : l.s ≡ c.args.self.now.n = omega (arith, c.loop-s-test.false, l.auto.s-end, c.n-s-end.ensures) in
    rw c.from_vec.ensures (record {
      one_each = omega (arith, l.invariant.one_each);
      each = λ s below. l.invariant.each s (omega arith);
    })
