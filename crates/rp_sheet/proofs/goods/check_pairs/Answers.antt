use Rattle.std.proofs.Common.{◌<◌, length, ◌∙◌, sym, arith, refl}
use Rattle.rp_sheet.specs.Headers.{pair_fault}
use Rattle.rp_sheet.specs.declared.fault.TableFault.TheVariants as fault
use Rattle.rp_num.proofs.BelowLemmas.{first_at, none_so_far}
use Rattle.rp_sheet.proofs.goods.check_pairs.Goals as goal

pub returns-then-branch-clause-refused : goal.returns-then-branch-clause-refused
unfolding pair_fault
returns-then-branch-clause-refused c = λ _.
    let within : c.loop-c.c < length c.args.columns.now.headers = omega (arith, c.len-c-end.ensures, c.loop-c-test.true) in
    first_at (pair_fault c.args.columns.now.form.marks c.args.columns.now.headers) c.loop-c.c (length c.args.columns.now.headers) (fault.Unpaired c.number_of.result) within c.loop-c.invariant
    (rw (sym c.in_ok-lacks_partner.ensures ∙ c.if-branch.true, c.number_of.ensures) refl)

pub loop-c-preserved : goal.loop-c-preserved
unfolding pair_fault
loop-c-preserved c =
    none_so_far (pair_fault c.args.columns.now.form.marks c.args.columns.now.headers) c.loop-c.c c.loop-c.invariant (rw (sym c.in_ok-lacks_partner.ensures ∙ c.if-branch.false) refl)
