-- A sink in memory with a limit, whose failures are planned: what it holds, and what a write does to it (this project's
-- own).
use Rattle.std.specs.Prelude.{ℕ, ◌<◌, ◌≤◌, ◌⊎◌, List, ◌++◌, Contains, Result, Ok, Err, length, take}
use Rattle.rp_outside.specs.Faults.{next_count}

-- what was written, the most that can be, the numbers of the calls that fail, how many calls there were, and the count
-- of faults
pub record SinkState : Type 0 where
  pub written : List ℕ
  pub limit : ℕ
  pub fails : List ℕ
  pub calls : ℕ
  pub faults : ℕ

-- the next write, of this piece, fails: its number (from 1) is listed, or there is no room for any of it
abbrev pub WriteFails : SinkState → List ℕ → Type 0
WriteFails sink piece = Contains sink.fails (next_count sink.calls)
    ⊎ ((0 < length piece) × (sink.limit ≤ length sink.written))

-- the sink after a write of this piece, of which it took the n first bytes or none
abbrev pub after_write : {E : Type 0} → SinkState → List ℕ → Result ℕ E → SinkState
after_write sink piece (Ok n) = record {
  written = sink.written ++ take n piece;
  limit = sink.limit;
  fails = sink.fails;
  calls = next_count sink.calls;
  faults = sink.faults;
}
after_write sink piece (Err e) = record {
  written = sink.written;
  limit = sink.limit;
  fails = sink.fails;
  calls = next_count sink.calls;
  faults = next_count sink.faults;
}
