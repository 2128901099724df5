use Rattle.std.proofs.Common.{◌≡◌, ◌≢◌, length, Some, arith}
use Rattle.std.specs.Result.{result_err}
use Rattle.rp_num.specs.Below.{first_of}
use Rattle.rp_sheet.specs.Sizes.{size_at, sizes_stage}
use Rattle.rp_sheet.specs.declared.fault.TableFault.{TableFault}
use Rattle.rp_sheet.specs.declared.fault.TableFault.TheVariants as fault
use Rattle.rp_num.proofs.BelowLemmas.{first_at}
use Rattle.rp_num.proofs.PassedOn.{passed_on}
use Rattle.rp_sheet.proofs.sizes.read_sizes.Goals as goal

pub returns-in_err-read_sizes_in-clause-refused : goal.returns-in_err-read_sizes_in-clause-refused
unfolding sizes_stage
returns-in_err-read_sizes_in-clause-refused c =
    passed_on c.from_residual-in_err-read_sizes_in.result c.in_err-read_sizes_in.field-0.0 (λ (e : TableFault). e ≢ fault.NoMemory → sizes_stage c.args.columns.now.form c.args.columns.now.headers c.args.figures.now ≡ Some e) c.from_residual-in_err-read_sizes_in.ensures
    (λ other. first_at (λ t. first_of (length c.args.columns.now.headers) (λ k. result_err (size_at c.args.columns.now.form c.args.columns.now.headers c.args.figures.now t k))) c.loop-t.t (length c.args.figures.now) c.in_err-read_sizes_in.field-0.0 c.loop-t-test.true c.loop-t.invariant.faultless (c.in_err-read_sizes_in.ensures.refused other))

pub returns-clause-faultless : goal.returns-clause-faultless
unfolding sizes_stage
returns-clause-faultless c =
    let all : c.loop-t.t ≡ length c.args.figures.now = omega (arith, c.loop-t-test.false) in
    rw (← all) c.loop-t.invariant.faultless
