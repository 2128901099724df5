use Rattle.std.proofs.Common.{◌++◌, ◌∷◌, [], List, ℕ, arith, rules, subst}
use Rattle.rp_patch.specs.PartialTypes.{taken_in}
use Rattle.rp_types.specs.InnerListed.{AreListedBefore, AreListedThrough}
use Rattle.rp_types.proofs.ListedTypes.{first_listed, last_listed, next_listed, passed_by}
use Rattle.rp_types.proofs.search.+extend.Goals as goal
use Rattle.rp_types.proofs.search.+extend.Goals.{in-Some+in_ok-extend, in_default}

pub loop-i-init : goal.loop-i-init
loop-i-init t c = first_listed c.args.patches.now (taken_in c.args.partial.now) c.args.types.now.items c.requires.so_far

pub loop-i-preserved : goal.loop-i-preserved
loop-i-preserved t c =
    let p = c.args.patches.now in
    let front = taken_in c.args.partial.now in
    let i = c.loop-i.i in
    elim c.match-with.branch [
      | in-Some+in_ok-extend w ↦
          next_listed p front i c.match-with.types.items
          (subst (λ (f : List ℕ). AreListedThrough p f c.match-with.types.items) w.in-Some.ensures.longer (rw w.types-is w.in_ok-extend.ensures.listed))
      | in_default w ↦
          passed_by p front i c.match-with.types.items w.in_default.ensures.excluded
          (rw w.types-is c.loop-i.invariant)
    ]

pub returns-clause-listed : goal.returns-clause-listed
returns-clause-listed t c =
    let p = c.args.patches.now in
    let front = taken_in c.args.partial.now in
    last_listed p front c.loop-i.types.items (search rules)
    (subst (λ k. AreListedBefore p (front ++ k ∷ []) c.loop-i.types.items) (omega (arith, c.loop-i-test.false, c.loop-i.auto.i-end, c.count-i-end.ensures.count)) c.loop-i.invariant)
