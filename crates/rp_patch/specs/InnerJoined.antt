-- Words that only proofs need: how far the rows of a part are joined with what one budget more leads to.
use Rattle.std.specs.Prelude.{◌≡◌, ◌<◌, ◌≤◌, ◌⊎◌, ◌↔◌, ℕ, length, slice_index}
use Rattle.rp_patch.specs.Sets.{Has}
use Rattle.rp_patch.specs.declared.partial_type.PartialType.{PartialType}

pub record IsJoined (old now : PartialType) (into from n : ℕ) : Type 0 where
  pub taken : now.taken ≡ old.taken
  pub patches : now.patches ≡ old.patches
  pub count : length now.reached ≡ length old.reached
  pub joined : (k t : ℕ) → k < n → Has (slice_index now.reached k) t
      ↔ (Has (slice_index old.reached k) t ⊎ (((m : ℕ) × Has (slice_index old.reached k) m × Has into m) × Has from t))
  pub later : (k : ℕ) → n ≤ k → slice_index now.reached k ≡ slice_index old.reached k
