-- Values that differ by their shapes.
use Rattle.std.proofs.Common.{◌≡◌, ◌≢◌, ℕ, suc, ◌∷◌, ap}
use Rattle.serde_json.specs.Data.{Data, Members, member, no_members, object}

-- the first letter of the first name
abbrev pub first_letter : Data → ℕ
first_letter (object (member (letter ∷ letters) d ms)) = letter
first_letter _ = 0

-- the first letter of the second name
abbrev pub second_letter : Data → ℕ
second_letter (object (member first d (member (letter ∷ letters) e ms))) = letter
second_letter _ = 0

-- the fourth letter of the second name
abbrev pub late_letter : Data → ℕ
late_letter (object (member first d (member (a ∷ b ∷ c ∷ letter ∷ letters) e ms))) = letter
late_letter _ = 0

abbrev count : Members → ℕ
count no_members = 0
count (member name d ms) = suc (count ms)

-- how many members there are
abbrev pub members_count : Data → ℕ
members_count (object ms) = count ms
members_count _ = 0

-- what differs in a number is not the same
pub differ : (of : Data → ℕ) (a b : Data) → a ≡ b → of a ≢ of b → ⊥
differ of a b e other = other (ap of e)
