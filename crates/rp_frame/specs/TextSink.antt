-- A sink that keeps all that it takes: what it holds, and what a write does to it (this project's own).
use Rattle.std.specs.Prelude.{ℕ, List, ◌++◌, Result, Ok, Err}
use Rattle.rp_outside.specs.Faults.{next_count}

-- what was written, how many calls there were, and how many of them found no memory
pub record TextState : Type 0 where
  pub written : List ℕ
  pub calls : ℕ
  pub faults : ℕ

-- the sink after a write of this piece, which it took or not
abbrev pub after_text : {N E : Type 0} → TextState → List ℕ → Result N E → TextState
after_text sink piece (Ok n) =
    record { written = sink.written ++ piece; calls = next_count sink.calls; faults = sink.faults }
after_text sink piece (Err e) =
    record { written = sink.written; calls = next_count sink.calls; faults = next_count sink.faults }
