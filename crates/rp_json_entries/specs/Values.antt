-- Numbers and lists as JSON values (this program's own format). A number that can be large is a text.
use Rattle.std.specs.Prelude.{ℕ, ℤ, ◌+◌, List, map}
use Rattle.std.specs.Fmt.{decimal, signed_decimal}
use Rattle.rp_num.specs.Fraction.{Fraction, fraction_text}
use Rattle.serde_json.specs.Data.{Data, array, number, string, unsigned}
use Rattle.serde_json.specs.View.{items_of}

-- a small number as it is
abbrev pub count_value : ℕ → Data
count_value n = number (unsigned n)

-- an observation, which is counted from 1
abbrev pub observation_value : ℕ → Data
observation_value s = number (unsigned (s + 1))

-- a whole number that is not negative
abbrev pub natural_value : ℕ → Data
natural_value n = string (decimal n)

-- a whole number with its sign
abbrev pub signed_value : ℤ → Data
signed_value z = string (signed_decimal z)

-- a fraction with its parts as they stand
abbrev pub fraction_value : Fraction → Data
fraction_value f = string (fraction_text f)

-- a list of entries, each shown in one way
abbrev pub list_value : {X : Type 0} → (X → Data) → List X → Data
list_value value_of entries = array (items_of (map value_of entries))

-- counts or ranks
abbrev pub counts_value : List ℕ → Data
counts_value counts = list_value count_value counts

-- observations
abbrev pub observations_value : List ℕ → Data
observations_value observations = list_value observation_value observations

-- whole numbers that are not negative
abbrev pub naturals_value : List ℕ → Data
naturals_value naturals = list_value natural_value naturals

-- whole numbers with their signs
abbrev pub sums_value : List ℤ → Data
sums_value sums = list_value signed_value sums

-- fractions
abbrev pub fractions_value : List Fraction → Data
fractions_value fractions = list_value fraction_value fractions
