use Rattle.std.proofs.Common.{◌≡◌, ℕ, List, Some, length, map}
use Rattle.csv.specs.Reading.{Reached, Ready, default_config, source_of, strip_bom}
use Rattle.csv.specs.Records.{fields_of}
use Rattle.csv.specs.declared.parser.State.TheVariants as st
use Rattle.csv.specs.declared.reader.Trim.TheVariants as trim
use Rattle.rp_sheet.proofs.records.Records.of.Given as goal

abbrev pub invariant-loop : goal.invariant-loop
invariant-loop l = record {
  untrimmed : l.reader.trim ≡ trim.None;
  ready : Ready l.reader;
  plain : l.reader.config ≡ default_config;
  counted : length l.records.items ≡ l.counter;
  rest : List ℕ;
  unread : source_of (λ s. Some s.now) l.reader ≡ Some rest;
  reached : Reached default_config st.StartRecord (strip_bom l.fn.bytes) (map fields_of l.records.items) l.reader.state rest;
}
