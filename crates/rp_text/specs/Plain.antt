-- The plain form of a table file (a format of this project's own), and the table that it denotes. Each
-- line ends with a line feed, and fields are separated by commas. The first line has p_NAME,q_NAME for
-- each good, NAME being 1 to NAME_BYTES letters a to z. Each other line is an observation: a price and a quantity
-- of each good, in 1 to 7 digits.
use Rattle.std.specs.Prelude.{◌≡◌, ◌≢◌, ℕ, ◌+◌, ◌-◌, ◌*◌, ◌<◌, ◌≤◌, ◌==◌, List, [], ◌++◌, length, All, AllPairs, fold}
use Rattle.std.specs.Prelude.{codes}
use Rattle.std.specs.List.{slice_split}
use Rattle.rp_table.specs.Sums.{sum_below}
use Rattle.rp_table.specs.Tables.{Observations, IsTable, goods_of, records_of, price_of, quantity_of}
use Rattle.rp_limits.specs.declared.table.TheConstants.{GOODS, NAME_BYTES}
use Rattle.rp_forms.specs.Texts.{text_at}

-- the parts between the line feeds: the last one comes after the last line feed
abbrev pub lines_of : List ℕ → List (List ℕ)
lines_of bytes = slice_split (λ byte. byte == 10) bytes

-- the parts of a line between its commas
abbrev pub fields_in : List ℕ → List (List ℕ)
fields_in line = slice_split (λ byte. byte == 44) line

-- 1 to NAME_BYTES letters a to z
pub record IsPlainName (name : List ℕ) : Type 0 where
  pub some : 1 ≤ length name
  pub few : length name ≤ NAME_BYTES
  pub letters : All (λ byte. (97 ≤ byte) × (byte ≤ 122)) name

-- the fields of the first line, for goods of these names: p_NAME and q_NAME for each in turn
pub record IsPlainHeader (fields : List (List ℕ)) (names : List (List ℕ)) : Type 0 where
  pub some : 1 ≤ length names
  pub few : length names ≤ GOODS
  pub plain : All IsPlainName names
  pub distinct : AllPairs (λ a b. a ≢ b) names
  pub width : length fields ≡ 2 * length names
  pub prices : (g : ℕ) → g < length names → text_at fields (2 * g) ≡ codes "p_" ++ text_at names g
  pub quantities : (g : ℕ) → g < length names → text_at fields (2 * g + 1) ≡ codes "q_" ++ text_at names g

-- the number that decimal digits stand for
abbrev pub numeral_value : List ℕ → ℕ
numeral_value digits = fold (λ n byte. 10 * n + (byte - 48)) 0 digits

-- 1 to 7 decimal digits that stand for that number
pub record IsNumeral (digits : List ℕ) (number : ℕ) : Type 0 where
  pub some : 1 ≤ length digits
  pub few : length digits ≤ 7
  pub decimal : All (λ byte. (48 ≤ byte) × (byte ≤ 57)) digits
  pub is : numeral_value digits ≡ number

-- the fields of an observation with these prices and quantities: no price is 0, and something was bought
pub record IsPlainRecord (fields : List (List ℕ)) (goods : ℕ) (price quantity : ℕ → ℕ) : Type 0 where
  pub width : length fields ≡ 2 * goods
  pub prices : (g : ℕ) → g < goods → IsNumeral (text_at fields (2 * g)) (price g)
  pub quantities : (g : ℕ) → g < goods → IsNumeral (text_at fields (2 * g + 1)) (quantity g)
  pub priced : (g : ℕ) → g < goods → 1 ≤ price g
  pub bought : 1 ≤ sum_below goods quantity

-- the bytes are of the plain form, and denote that table
pub record IsPlainTable (bytes : List ℕ) (table : Observations) : Type 0 where
  pub lines : length (lines_of bytes) ≡ records_of table + 2
  pub ended : text_at (lines_of bytes) (records_of table + 1) ≡ []
  pub header : IsPlainHeader (fields_in (text_at (lines_of bytes) 0)) table.names
  pub records : (t : ℕ) → t < records_of table
      → IsPlainRecord (fields_in (text_at (lines_of bytes) (t + 1))) (goods_of table) (price_of table t)
      (quantity_of table t)
  pub within : IsTable table
  pub price_scale : table.price_places ≡ 0
  pub quantity_scale : table.quantity_places ≡ 0
  pub no_levels : table.levels ≡ []
