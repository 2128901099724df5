-- What a contract sees of a sink over a writer of the system: what the writer tells that it holds, and counts (this
-- project's own).
use Rattle.std.specs.Prelude.{ℕ, ◌-◌, List, Option, Some, None, length, take}

-- the bytes that the writer holds, where it tells them; how many of them, at the end, it took before a flush failed;
-- how many calls there were, and how many of them failed
pub record StdSinkState : Type 0 where
  pub contents : Option (List ℕ)
  pub unflushed : ℕ
  pub calls : ℕ
  pub faults : ℕ

-- known bytes without so many at their end
abbrev pub flushed_of : Option (List ℕ) → ℕ → Option (List ℕ)
flushed_of None unflushed = None
flushed_of (Some bytes) unflushed = Some (take (length bytes - unflushed) bytes)
