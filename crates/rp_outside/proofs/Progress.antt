-- How far a loop of reads or of writes has come, in one record each.
use Rattle.std.proofs.Common.{◌≡◌, ℕ, ◌+◌, ◌<◌, ◌≤◌, ◌⊎◌, List, Option, length, take}
use Rattle.rp_outside.specs.Faults.{HasRisen, last_count}
use Rattle.rp_outside.specs.Known.{Grows}
use Rattle.rp_outside.specs.InnerFronts.{BeginsWith}

-- what a load keeps: it has the first bytes of its name, and each read gave at least one of them
pub record IsLoadedSoFar (known : Option (List ℕ)) (front : List ℕ) (limit calls_before calls : ℕ) : Type 0 where
  pub in_limit : length front ≤ limit
  pub begins : BeginsWith known front
  pub calls_rise : (calls_before ≤ calls) ⊎ (last_count ≤ calls)
  pub calls_counted : calls ≤ calls_before + length front

-- what each read of a desk that does not fail keeps, for every name
pub record KeepsNames (bytes_before bytes : List ℕ → Option (List ℕ)) (faults_before faults : List ℕ → ℕ) : Type 0 where
  pub bytes_stay : (name : List ℕ) → bytes name ≡ bytes_before name
  pub faults_stay : (name : List ℕ) → faults name ≡ faults_before name

-- what a pour keeps: the first `at` bytes went out, and each write took at least one of them
pub record IsPouredSoFar (before now : Option (List ℕ)) (bytes : List ℕ) (at calls_before calls faults_before faults : ℕ) : Type 0 where
  pub in_range : at ≤ length bytes
  pub gone_out : Grows before now (take at bytes)
  pub calls_rise : (calls_before ≤ calls) ⊎ (last_count ≤ calls)
  pub some_write : 0 < at → HasRisen calls_before calls
  pub calls_counted : calls ≤ calls_before + at
  pub never_falls : faults_before ≤ faults
