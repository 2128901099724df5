use Rattle.std.proofs.Common.{◌≡◌, ◌<◌, [], ◌∷◌, ◌++◌, length, take, false, true, is_some, ap, ◌∙◌, arith, refl}
use Rattle.std.specs.Option.{option_map_or}
use Rattle.std.proofs.lemmas.List.{take_more, length-map}
use Rattle.rp_forms.specs.Texts.{trimmed, place_of}
use Rattle.rp_sheet.specs.Records.{record_at}
use Rattle.rp_forms.specs.Columns.{takes, role_of}
use Rattle.rp_sheet.specs.Headers.{headers_in, headers_stage}
use Rattle.rp_sheet.proofs.HeaderLemmas.{header_at, bad_header, named_before, good_header}
use Rattle.rp_sheet.proofs.headers.read_columns.Goals as goal

pub returns-in_default-clause-refused : goal.returns-in_default-clause-refused
returns-in_default-clause-refused c = λ _.
    let fields = record_at c.args.records.now 0 in
    let is = c.trimmed-header.ensures ∙ ap trimmed c.header.ensures in
    bad_header c.args.form.now fields c.trimmed-header.result.now c.loop-c.c c.number_of.result (omega arith) is c.number_of.ensures c.loop-c.invariant.faultless c.in_default.ensures

pub returns-then-is_some-clause-refused : goal.returns-then-is_some-clause-refused
returns-then-is_some-clause-refused c = λ _.
    let fields = record_at c.args.records.now 0 in
    let is = c.trimmed-header.ensures ∙ ap trimmed c.header.ensures in
    let has : option_map_or (takes c.args.form.now) (role_of c.args.form.now.marks c.trimmed-header.result.now) false ≡ true = rw (c.in-Some.ensures.0) c.in-Some.ensures.1 in
    let there : is_some (place_of (take c.loop-c.c (headers_in fields)) c.trimmed-header.result.now) ≡ true =
    rw (← c.loop-c.invariant.so_far, ← c.find.ensures, ← c.is_some.ensures) c.if-is_some.true in
    named_before c.args.form.now fields c.trimmed-header.result.now c.loop-c.c c.number_of-then-is_some.result (omega arith) is c.number_of-then-is_some.ensures c.loop-c.invariant.faultless has there

pub loop-c-preserved : goal.loop-c-preserved
loop-c-preserved c =
    let fields = record_at c.args.records.now 0 in
    let within : c.loop-c.c < length fields = omega arith in
    let is = c.trimmed-header.ensures ∙ ap trimmed c.header.ensures in
    let has : option_map_or (takes c.args.form.now) (role_of c.args.form.now.marks c.trimmed-header.result.now) false ≡ true = rw (c.in-Some.ensures.0) c.in-Some.ensures.1 in
    let new : is_some (place_of (take c.loop-c.c (headers_in fields)) c.trimmed-header.result.now) ≡ false =
    rw (← c.loop-c.invariant.so_far, ← c.find.ensures, ← c.is_some.ensures) c.if-is_some.false in
    let inside : c.loop-c.c < length (headers_in fields) = rw (length-map fields trimmed) within in
    record {
      kind = c.in_ok-push.ensures.kind ∙ c.loop-c.invariant.kind;
      so_far = c.in_ok-push.ensures.more ∙ ap (λ headers. headers ++ c.trimmed-header.result.now ∷ []) c.loop-c.invariant.so_far ∙ rw (take_more (headers_in fields) c.loop-c.c [] inside, header_at fields c.loop-c.c within, is) refl;
      faultless = good_header c.args.form.now fields c.trimmed-header.result.now c.loop-c.c within is c.loop-c.invariant.faultless has new;
    }

pub returns-clause-faultless : goal.returns-clause-faultless
unfolding headers_stage
returns-clause-faultless c =
    let fields = record_at c.args.records.now 0 in
    let all : c.loop-c.c ≡ length (headers_in fields) = omega (arith, length-map fields trimmed) in
    rw (← all) c.loop-c.invariant.faultless
