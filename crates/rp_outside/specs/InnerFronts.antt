-- For the proofs alone: how far known bytes have been read. No public clause cites this word.
use Rattle.std.specs.Prelude.{ℕ, ◌≡◌, ◌≤◌, List, Option, length, take}
use Rattle.std.specs.Option.{ForSome}

-- the known bytes begin with these
abbrev pub BeginsWith : Option (List ℕ) → List ℕ → Type 0
BeginsWith known front = ForSome known (λ bs. (length front ≤ length bs) × (take (length front) bs ≡ front))
