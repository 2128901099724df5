use Prim.Native.Nat.{◌∣◌}
use Rattle.std.proofs.Common.{sym, subst}
use Rattle.std.specs.Int.RustNames.{unsigned_abs}
use Rattle.rp_simplex.proofs.ClearedRows.{other_numbers, same_row, times_pivot}
use Rattle.rp_simplex.proofs.renewal.renew_row.Goals as goal

pub clear_row-requires-clause-divides : goal.clear_row-requires-clause-divides
clear_row-requires-clause-divides c = λ s l.
    subst (λ z. c.args.divisor ∣ unsigned_abs z) (sym (same_row c.args.grid.now c.args.r c.args.i s c.args.pivot c.args.factor c.requires.ready.pivot c.requires.ready.factor)) (c.requires.divides s l)

pub returns-then-factor-ne0 : goal.returns-then-factor-ne0
returns-then-factor-ne0 c =
    other_numbers c.clear_row.result c.args.grid.now c.clear_row.new.grid c.args.i c.args.divisor _ _
    (λ s l. same_row c.args.grid.now c.args.r c.args.i s c.args.pivot c.args.factor c.requires.ready.pivot c.requires.ready.factor) c.clear_row.ensures

pub scale_row-requires-clause-divides : goal.scale_row-requires-clause-divides
scale_row-requires-clause-divides c = λ s l.
    subst (λ z. c.args.divisor ∣ unsigned_abs z)
    (sym (times_pivot c.args.grid.now c.args.r c.args.i s c.args.pivot c.args.factor c.requires.ready.pivot c.requires.ready.factor c.if-factor-ne0.false)) (c.requires.divides s l)

pub returns : goal.returns
returns c =
    other_numbers c.scale_row.result c.args.grid.now c.scale_row.new.grid c.args.i c.args.divisor _ _
    (λ s l. times_pivot c.args.grid.now c.args.r c.args.i s c.args.pivot c.args.factor c.requires.ready.pivot c.requires.ready.factor c.if-factor-ne0.false) c.scale_row.ensures
