-- Whole numbers as differences of natural ones: an integer z is read as `up z - down z`.
use borrow.Author.Differences.{up, down}
use Rattle.std.proofs.lemmas.Bool.Decides.{nat_tests}
use Rattle.std.proofs.lemmas.Int.{ints}
use Rattle.std.proofs.Common.{IsTrue, nat_lt, ◌+◌, ◌*◌, ◌≡◌, ℕ, ◌<◌, arith}
use Rattle.std.specs.Prelude.{ℤ, pos, ◌+ℤ◌, ◌*ℤ◌, ◌<ℤ◌}

pub to_nat : (a c : ℤ) (b d : ℕ) → (a *ℤ pos d) <ℤ (c *ℤ pos b) → up a * d + down c * b < up c * b + down a * d
to_nat a c b d h = omega (arith, ints)

pub from_nat : (a c : ℤ) (b d : ℕ) → up a * d + down c * b < up c * b + down a * d → (a *ℤ pos d) <ℤ (c *ℤ pos b)
from_nat a c b d h = omega (arith, ints)

pub same_to_nat : (a c : ℤ) (b d : ℕ) → a *ℤ pos d ≡ c *ℤ pos b → up a * d + down c * b ≡ up c * b + down a * d
same_to_nat a c b d h = omega (arith, ints)

pub same_from_nat : (a c : ℤ) (b d : ℕ) → up a * d + down c * b ≡ up c * b + down a * d → a *ℤ pos d ≡ c *ℤ pos b
same_from_nat a c b d h = omega (arith, ints)

pub parts_of_sum : (a b : ℤ) → up (a +ℤ b) + (down a + down b) ≡ down (a +ℤ b) + (up a + up b)
parts_of_sum a b = omega (arith, ints)

pub parts_of_product : (k : ℤ) (b : ℕ) → up (k *ℤ pos b) + down k * b ≡ down (k *ℤ pos b) + up k * b
parts_of_product k b = omega (arith, ints)

-- the test of the code and the order
pub tested : (x y : ℕ) → IsTrue (nat_lt x y) → x < y
tested x y h = grind (arith, nat_tests)

pub test : (x y : ℕ) → x < y → IsTrue (nat_lt x y)
test x y h = grind (arith, nat_tests)

pub pos-less : (i j : ℕ) → i < j → pos i <ℤ pos j
pos-less i j l = omega (arith, ints)

pub less-pos : (i j : ℕ) → pos i <ℤ pos j → i < j
less-pos i j l = omega (arith, ints)

pub same_pos : (m n : ℕ) → pos m ≡ pos n → m ≡ n
same_pos m n h = omega (arith, ints)
