use Rattle.std.proofs.Common.{MatchOption, Option, Vec, ℤ, subst}
use Rattle.std.specs.declared.alloc.Global.{Global}
use Rattle.rp_whole_tableau.proofs.GrownPrograms.{stops_after}
use Rattle.rp_whole_tableau.specs.Programs.{AreEntriesOf, ColumnPasses}
use Rattle.rp_whole_tableau.proofs.grown.Grown.enter.Goals as goal

pub returns-then-not-branch : goal.returns-then-not-branch
returns-then-not-branch c =
    let g = c.args.self.now in
    let are = subst (λ (found : Option (Vec ℤ Global)). MatchOption found (ColumnPasses g) (λ entries. AreEntriesOf g c.args.column entries.items)) c.in-Some.is c.in_ok-entries.ensures in
    stops_after _ g c.args.column c.in-Some.entries.items c.as_slice.result.now c.as_slice-2.result.now c.in-Some-leaving_row.row c.in_ok-pivot.field-0 c.as_slice.ensures.value c.as_slice-2.ensures.value c.requires are c.in-Some-leaving_row.ensures.row c.in-Some-leaving_row.ensures.positive c.if-not-branch.true c.in_ok-pivot.ensures.pivot
