use Rattle.std.proofs.Common.{Bor, List, ℕ, ◌≡◌, ◌∙◌, ◌≤◌, sym, refl, arith, inl, inr, map, length, Some, ◌∷◌, [], length-append}
use Rattle.std.proofs.lemmas.List.{map_push, length-map}
use Rattle.csv.specs.Reading.{Reached, default_config, strip_bom}
use Rattle.csv.specs.Records.{fields_of}
use Rattle.csv.specs.declared.parser.State.TheVariants as st
use Rattle.csv.proofs.ReadFacts.{rows-end, rows-more}
use Rattle.rp_sheet.specs.Records.{records_in}
use Rattle.rp_sheet.proofs.CsvLemmas.{read_some, read_all}
use Rattle.rp_sheet.proofs.records.Records.of.Goals as goal

pub loop-init : goal.loop-init
unfolding Reached
loop-init c =
    let start = c.from_reader-reader.ensures in
    let set = c.flexible.ensures in
    let named = c.has_headers.ensures in
    rw c.new-records.ensures.items (record {
      untrimmed = rw (set, named) at start.trim ∙ c.new.ensures.trim;
      ready = inr (inr (rw (set, named) at start.has_headers, start.headers));
      plain = rw (set, named) at start.config ∙ c.new.ensures.config;
      counted = refl;
      rest = strip_bom c.args.bytes.now;
      unread = start.source;
      reached = (sym start.state, refl);
    })

pub returns-in-Ok-false : goal.returns-in-Ok-false
unfolding records_in
returns-in-Ok-false c =
    let before = c.loop.invariant in
    let read = rw c.in-Ok-false.field-0-test at (c.in-Ok-false.ensures.reads before.untrimmed before.ready) in
    let ended = rows-end (λ (s : Bor (List ℕ)). Some s.now) c.loop.reader c.read_byte_record.new.self (fields_of c.read_byte_record.new.row) default_config before.rest before.plain before.unread read in
    let few : length (map fields_of c.loop.records.items) ≤ c.args.most = omega (arith, length-map c.loop.records.items fields_of, before.counted, c.loop-test.true) in
    read_all c.loop.reader.state (strip_bom c.args.bytes.now) before.rest (map fields_of c.loop.records.items) c.args.most before.reached ended few

pub loop-preserved : goal.loop-preserved
loop-preserved c =
    let before = c.loop.invariant in
    let read = rw c.in-Ok-true.field-0-test at (c.in-Ok-true.ensures.reads before.untrimmed before.ready) in
    let more = rows-more (λ (s : Bor (List ℕ)). Some s.now) c.loop.reader c.read_byte_record.new.self (fields_of c.read_byte_record.new.row) default_config st.StartRecord (strip_bom c.args.bytes.now) before.rest (map fields_of c.loop.records.items) before.plain before.unread before.reached read in
    let items = c.in_ok-push-in-Ok-true.ensures.items in
    record {
      untrimmed = read.3 ∙ before.untrimmed;
      ready = inl (c.in-Ok-true.ensures.ready before.untrimmed);
      plain = read.2 ∙ before.plain;
      counted = rw items (omega (arith, length-append c.loop.records.items (c.read_byte_record.new.row ∷ []), before.counted));
      rest = more.0;
      unread = more.1;
      reached = rw (items, map_push fields_of c.loop.records.items c.read_byte_record.new.row) more.2;
    }

pub returns : goal.returns
unfolding records_in
returns c =
    let before = c.loop.invariant in
    let counted : length (map fields_of c.loop.records.items) ≡ c.args.most = omega (arith, length-map c.loop.records.items fields_of, before.counted, c.loop-test.false) in
    read_some c.loop.reader.state (strip_bom c.args.bytes.now) before.rest (map fields_of c.loop.records.items) c.args.most before.reached counted
