-- Words that only proofs need: the least of the sums that were looked at so far.
use Rattle.std.specs.Prelude.{◌≡◌, ◌<◌, ◌≤ℤ◌, ◌<ℤ◌, ◌^◌, ℕ, true}
use Rattle.rp_menu.specs.MenuLists.{MenuList, has_letter}
use Rattle.rp_orders.specs.LeastSums.{SumComesBefore}
use Rattle.rp_orders.specs.MenuSums.{sum_at}
use Rattle.rp_orders.specs.declared.least.LeastSum.{LeastSum}
use Rattle.rp_patch.specs.declared.apportionment.Units.{Units}

-- it is the sum of a letter at a menu that holds it; of those that come before letter z at menu m none is less, and
-- those that come before it are greater
pub record IsLeastBefore (list : MenuList) (units : Units) (m z : ℕ) (found : LeastSum) : Type 0 where
  pub within : found.menu < 2 ^ list.letters
  pub held : has_letter found.menu found.letter ≡ true
  pub exact : found.sum ≡ sum_at list units found.letter found.menu
  pub least : (b y : ℕ) → has_letter b y ≡ true → SumComesBefore b y m z → found.sum ≤ℤ sum_at list units y b
  pub first : (b y : ℕ) → has_letter b y ≡ true → SumComesBefore b y found.menu found.letter
      → found.sum <ℤ sum_at list units y b
