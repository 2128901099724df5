-- What is read of JSON values: the one entry within its limits that has this value, or that none has (this program's
-- own format).
use Rattle.std.specs.Prelude.{◌≡◌, ◌≢◌, ◌<◌, ◌+◌, ◌^◌, ℕ, List, All, Option, Some, None}
use Rattle.serde_json.specs.Data.{Data}

-- The one entry within the limits that is shown so; or no entry within the limits is.
abbrev pub IsFound : {X D : Type 0} → (X → D) → (X → Type 0) → D → Option X → Type 0
IsFound value_of fits d (Some x) = (value_of x ≡ d) × fits x × ((y : _) → fits y → value_of y ≡ d → y ≡ x)
IsFound value_of fits d None = (x : _) → fits x → value_of x ≢ d

-- An entry by its value.
abbrev pub IsRead : {X : Type 0} → (X → Data) → (X → Type 0) → Data → Option X → Type 0
IsRead value_of fits d o = IsFound value_of fits d o

-- Entries by their values.
abbrev pub AreRead : {X : Type 0} → (X → List Data) → (X → Type 0) → List Data → Option X → Type 0
AreRead listed fit ds o = IsFound listed fit ds o

-- A number of 32 bits, one more than which has as many.
abbrev pub FitsObservation : ℕ → Type 0
FitsObservation s = s + 1 < 2 ^ 32

-- A number of 32 bits.
abbrev pub FitsCount : ℕ → Type 0
FitsCount n = n < 2 ^ 32

-- A number of 64 bits.
abbrev pub FitsLong : ℕ → Type 0
FitsLong n = n < 2 ^ 64

-- Observations, or patches: each one more than which has 32 bits
abbrev pub FitObservations : List ℕ → Type 0
FitObservations observations = All FitsObservation observations
