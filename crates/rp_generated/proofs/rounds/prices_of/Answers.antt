use Rattle.std.proofs.Common.{◌≡◌, ℕ, arith, length, pos, rules, slice_index, subst, sym}
use Rattle.std.specs.declared.alloc.Global.{Global}
use Rattle.std.specs.Prelude.{Vec}
use Rattle.rp_whole_tableau.specs.Programs.{price_of}
use Rattle.rp_generated.proofs.RoundLaws.{priced_more}
use Rattle.rp_generated.proofs.rounds.prices_of.Goals as goal

pub loop-i-preserved : goal.loop-i-preserved
loop-i-preserved c =
    let all = priced_more c.args.program.now c.loop-i.prices.items c.loop-i.i c.in-Some.price c.loop-i.invariant.many c.loop-i.invariant.each c.in-Some.ensures.price in
    rw c.in_ok-push-in-Some.ensures.items (record { many = all.0; each = all.1 })

pub returns : goal.returns
returns c =
    let p = c.args.patches.now in
    let all : c.loop-i.i ≡ length p.patches = search rules in
    (c.in_ok-make.ensures.listed, λ i l. subst (λ (v : Vec ℕ Global). pos (slice_index v.items i) ≡ price_of c.args.program.now i) (sym c.in_ok-make.ensures.prices) (c.loop-i.invariant.each i (omega (arith, l, all))))
