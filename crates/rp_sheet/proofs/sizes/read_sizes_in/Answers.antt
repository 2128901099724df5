use Rattle.std.proofs.Common.{[], ◌≡◌, ◌≢◌, ◌<◌, length, get_or, Some, refl, arith, ap, ◌∙◌}
use Rattle.std.specs.Result.{result_err}
use Rattle.std.proofs.lemmas.List.{get_or_default}
use Rattle.rp_num.specs.Below.{first_of}
use Rattle.rp_forms.specs.Columns.{role_at}
use Rattle.rp_sheet.specs.Fields.{nothing}
use Rattle.rp_sheet.specs.Sizes.{places_of, size_at, scaled}
use Rattle.rp_sheet.specs.declared.fault.TableFault.{TableFault}
use Rattle.rp_sheet.specs.declared.fault.TableFault.TheVariants as fault
use Rattle.rp_num.proofs.BelowLemmas.{length-listed, first_fault_at, no_fault_so_far, listed-more}
use Rattle.rp_sheet.proofs.SizeLemmas.{size_there}
use Rattle.rp_num.proofs.PassedOn.{passed_on}
use Rattle.rp_sheet.proofs.sizes.read_sizes_in.Goals as goal

pub bounds-places-c : goal.bounds-places-c
bounds-places-c c =
    let all = ap length c.requires.scales ∙ length-listed (λ k. places_of c.args.columns.now.form c.args.columns.now.headers c.args.figures.now (role_at c.args.columns.now.form.marks c.args.columns.now.headers k)) (length c.args.columns.now.headers) in
    omega (arith, all, c.len-c-end.ensures, c.loop-c-test.true)

pub returns-in_err-size_of-clause-refused : goal.returns-in_err-size_of-clause-refused
returns-in_err-size_of-clause-refused c =
    let within : c.loop-c.c < length c.args.columns.now.headers = omega (arith, c.len-c-end.ensures, c.loop-c-test.true) in
    let row = c.as_slice-row.ensures ∙ c.index-figures-t.is ∙ get_or_default c.args.figures.now c.args.t c.index-figures-t.result [] c.requires.within in
    let read = size_there c.args.columns.now.form c.args.columns.now.headers c.args.figures.now c.args.places.now c.args.t c.loop-c.c c.role.result (get_or c.as_slice-row.result.now c.loop-c.c nothing) c.limit.result c.number_of.result c.number_of-in-loop-c.result c.size_of.result within c.requires.scales c.role.ensures (ap (λ row. get_or row c.loop-c.c nothing) row) c.limit.ensures c.number_of.ensures c.number_of-in-loop-c.ensures c.size_of.ensures ∙ c.in_err-size_of.was in
    passed_on c.from_residual.result c.in_err-size_of.field-0.0 (λ (e : TableFault). e ≢ fault.NoMemory → first_of (length c.args.columns.now.headers) (λ k. result_err (size_at c.args.columns.now.form c.args.columns.now.headers c.args.figures.now c.args.t k)) ≡ Some e) c.from_residual.ensures
    (λ _. first_fault_at (size_at c.args.columns.now.form c.args.columns.now.headers c.args.figures.now c.args.t) c.loop-c.c (length c.args.columns.now.headers) c.in_err-size_of.field-0.0 within c.loop-c.invariant.faultless read)

pub loop-c-preserved : goal.loop-c-preserved
loop-c-preserved c =
    let within : c.loop-c.c < length c.args.columns.now.headers = omega (arith, c.len-c-end.ensures, c.loop-c-test.true) in
    let row = c.as_slice-row.ensures ∙ c.index-figures-t.is ∙ get_or_default c.args.figures.now c.args.t c.index-figures-t.result [] c.requires.within in
    let read = size_there c.args.columns.now.form c.args.columns.now.headers c.args.figures.now c.args.places.now c.args.t c.loop-c.c c.role.result (get_or c.as_slice-row.result.now c.loop-c.c nothing) c.limit.result c.number_of.result c.number_of-in-loop-c.result c.size_of.result within c.requires.scales c.role.ensures (ap (λ row. get_or row c.loop-c.c nothing) row) c.limit.ensures c.number_of.ensures c.number_of-in-loop-c.ensures c.size_of.ensures ∙ c.in_ok-size_of.was in
    record {
      so_far = c.in_ok-push.ensures.items ∙ listed-more (scaled c.args.columns.now.form c.args.columns.now.headers c.args.figures.now c.args.t) c.loop-c.c c.in_ok-size_of.field-0 c.loop-c.sizes.items c.loop-c.invariant.so_far (rw read refl);
      faultless = no_fault_so_far (size_at c.args.columns.now.form c.args.columns.now.headers c.args.figures.now c.args.t) c.loop-c.c c.in_ok-size_of.field-0 c.loop-c.invariant.faultless read;
    }
