use Rattle.std.proofs.Common.{◌≡◌, ◌∙◌, ap, arith, length, rules, slice_index, List, ℕ}
use Rattle.rp_whole_tableau.specs.Programs.{IsFirst}
use Rattle.rp_generated.specs.Rounds.{IsFirstProgram}
use Rattle.rp_generated.proofs.RoundLaws.{ok_so}
use Rattle.rp_generated.proofs.rounds.first_program.Goals as goal

pub returns : goal.returns
returns c =
    let p = c.args.patches.now in
    let all : c.loop-i.i ≡ length p.patches = search rules in
    ok_so c.of_sides.result (IsFirst c.as_slice.result.now) (IsFirstProgram p) c.of_sides.ensures (λ g first. record {
      sides = c.as_slice.result.now;
      many = ap (λ (xs : List ℕ). length xs) c.as_slice.ensures.value ∙ c.loop-i.invariant.many ∙ all;
      units = λ i l. ap (λ (xs : List ℕ). slice_index xs i) c.as_slice.ensures.value ∙ c.loop-i.invariant.each i (omega (arith, l, all));
      first = first;
    })
