use Rattle.std.proofs.Common.{subst, Option}
use Rattle.std.proofs.Common.{ℕ}
use Rattle.rp_simplex.specs.InnerStage.{exact}
use Rattle.rp_simplex.specs.InnerTableau.{LeavesBelow}
use Rattle.rp_simplex.proofs.Bits.{at_most_zero, above_zero}
use Rattle.rp_simplex.proofs.Choices.{keep, replaced, kept}
use Rattle.rp_simplex.proofs.choice.better_row.Goals as goal

pub returns-then-entry-le0 : goal.returns-then-entry-le0
returns-then-entry-le0 c = keep c.args.t.now.rows c.args.t.now.width (exact c.args.t.now) c.args.c c.args.i c.requires.row c.requires.no_ties c.args.best
    (at_most_zero c.entry.result _ c.entry.type_inv c.entry.ensures.value c.if-entry-le0.true) c.requires.so_far

pub returns-then-is_lesser : goal.returns-then-is_lesser
returns-then-is_lesser c = replaced c.args.t.now.rows c.args.t.now.width (exact c.args.t.now) c.args.c c.args.i c.requires.row c.requires.no_ties c.in-Some.row
    (above_zero c.entry.result _ c.entry.type_inv c.entry.ensures.value c.if-entry-le0.false)
    (subst (λ (best : Option ℕ). LeavesBelow c.args.i c.args.t.now.width (exact c.args.t.now) c.args.c best) c.in-Some.is c.requires.so_far)
    c.if-is_lesser.ensures

pub returns-else-is_lesser : goal.returns-else-is_lesser
returns-else-is_lesser c = kept c.args.t.now.rows c.args.t.now.width (exact c.args.t.now) c.args.c c.args.i c.requires.row c.requires.no_ties c.in-Some.row
    (above_zero c.entry.result _ c.entry.type_inv c.entry.ensures.value c.if-entry-le0.false)
    (subst (λ (best : Option ℕ). LeavesBelow c.args.i c.args.t.now.width (exact c.args.t.now) c.args.c best) c.in-Some.is c.requires.so_far)
    c.if-is_lesser.ensures
