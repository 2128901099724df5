use Rattle.std.proofs.Common.{◌<◌, ℕ, List, Bor, length, sym, arith}
use Rattle.std.proofs.lemmas.List.{length-map}
use Rattle.rp_num.proofs.BelowLemmas.{first_at, none_so_far}
use Rattle.rp_long.specs.LongFaults.{kept_fault}
use Rattle.rp_long.specs.declared.fault.LongFault.TheVariants as long_fault
use Rattle.rp_long.proofs.HeaderLemmas.{text_now, texts_of}
use Rattle.rp_long.proofs.StageLemmas.{has_kept, kept_more, lacks_kept}
use Rattle.rp_long.proofs.columns.kept_columns.Goals as goal

pub returns-in_default-clause-refused : goal.returns-in_default-clause-refused
returns-in_default-clause-refused c = λ _.
    let headers = texts_of c.args.headers.now.keys in
    let kept = texts_of c.args.kept.now in
    let k = c.loop-k.k in
    let within : k < length c.args.kept.now = omega arith in
    first_at (kept_fault kept headers) k (length c.args.kept.now) (long_fault.NoKeptColumn c.number_of.result) within c.loop-k.invariant.faultless
    (lacks_kept kept headers k c.number_of.result _ (sym (text_now c.args.kept.now k _ within)) c.in_default.ensures c.number_of.ensures)

pub loop-k-preserved : goal.loop-k-preserved
loop-k-preserved c =
    let headers = texts_of c.args.headers.now.keys in
    let kept = texts_of c.args.kept.now in
    let k = c.loop-k.k in
    let within : k < length c.args.kept.now = omega arith in
    let inside : k < length kept = omega (arith, length-map c.args.kept.now (λ (name : Bor (List ℕ)). name.now)) in
    record {
      so_far = kept_more kept headers k c.in-Some.column _ c.loop-k.columns.items c.push.new.self.items inside c.loop-k.invariant.so_far c.in_ok-push.ensures.items (sym (text_now c.args.kept.now k _ within)) c.in-Some.ensures;
      faultless = none_so_far (kept_fault kept headers) k c.loop-k.invariant.faultless (has_kept kept headers k c.in-Some.column _ (sym (text_now c.args.kept.now k _ within)) c.in-Some.ensures);
    }
