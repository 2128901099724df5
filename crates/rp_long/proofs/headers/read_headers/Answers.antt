use Rattle.std.proofs.Common.{◌≡◌, ◌<◌, [], ◌∷◌, ◌++◌, length, take, true, false, refl, sym, ap, ◌∙◌, arith}
use Rattle.std.specs.List.{list_any}
use Rattle.std.specs.Str.{bytes_eq}
use Rattle.std.proofs.lemmas.List.{take_more, length-map}
use Rattle.rp_forms.specs.Texts.{trimmed}
use Rattle.rp_num.proofs.BelowLemmas.{first_at, none_so_far}
use Rattle.rp_sheet.specs.Records.{record_at}
use Rattle.rp_sheet.specs.Headers.{headers_in}
use Rattle.rp_sheet.specs.declared.fault.TableFault.TheVariants as fault
use Rattle.rp_sheet.proofs.HeaderLemmas.{header_at}
use Rattle.rp_long.specs.LongFaults.{twice_fault}
use Rattle.rp_long.specs.declared.fault.LongFault.TheVariants as long_fault
use Rattle.rp_long.proofs.HeaderLemmas.{any_now, new_key, texts_of}
use Rattle.rp_long.proofs.headers.read_headers.Goals as goal

pub returns-then-contains-clause-refused : goal.returns-then-contains-clause-refused
unfolding twice_fault
returns-then-contains-clause-refused c = λ _.
    let fields = record_at c.args.records.now 0 in
    let header = c.trimmed-header.result.now in
    let within : c.loop-c.c < length fields = omega arith in
    let inside : c.loop-c.c < length (headers_in fields) = rw (length-map fields trimmed) within in
    let is = c.trimmed-header.ensures ∙ ap trimmed c.header.ensures in
    let there : list_any (bytes_eq header) (take c.loop-c.c (headers_in fields)) ≡ true =
    ap (list_any (bytes_eq header)) (sym c.loop-c.invariant.so_far) ∙ sym (any_now c.loop-c.headers.keys header) ∙ sym c.contains.ensures ∙ c.if-contains.true in
    first_at (twice_fault (headers_in fields)) c.loop-c.c (length (headers_in fields)) (long_fault.Table (fault.TwiceNamed c.number_of.result)) inside c.loop-c.invariant.faultless
    (rw (header_at fields c.loop-c.c within, ← is, there, c.number_of.ensures) refl)

pub loop-c-preserved : goal.loop-c-preserved
unfolding twice_fault
loop-c-preserved c =
    let fields = record_at c.args.records.now 0 in
    let header = c.trimmed-header.result.now in
    let within : c.loop-c.c < length fields = omega arith in
    let inside : c.loop-c.c < length (headers_in fields) = rw (length-map fields trimmed) within in
    let is = c.trimmed-header.ensures ∙ ap trimmed c.header.ensures in
    let new : list_any (bytes_eq header) (take c.loop-c.c (headers_in fields)) ≡ false =
    ap (list_any (bytes_eq header)) (sym c.loop-c.invariant.so_far) ∙ sym (any_now c.loop-c.headers.keys header) ∙ sym c.contains.ensures ∙ c.if-contains.false in
    let other : list_any (bytes_eq header) (texts_of c.loop-c.headers.keys) ≡ false = ap (list_any (bytes_eq header)) c.loop-c.invariant.so_far ∙ new in
    record {
      so_far = ap texts_of c.in_ok-insert.ensures.keys ∙ new_key c.loop-c.headers.keys c.trimmed-header.result other ∙ ap (λ headers. headers ++ header ∷ []) c.loop-c.invariant.so_far
          ∙ rw (take_more (headers_in fields) c.loop-c.c [] inside, header_at fields c.loop-c.c within, is) refl;
      faultless = none_so_far (twice_fault (headers_in fields)) c.loop-c.c c.loop-c.invariant.faultless (rw (header_at fields c.loop-c.c within, ← is, new) refl);
    }
