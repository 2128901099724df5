-- Lines, and lists of entries in a line (this program's own format). Each line ends with a line feed.
use Rattle.std.specs.Prelude.{ℕ, ℤ, ◌+◌, List, [], ◌∷◌, ◌++◌, codes}
use Rattle.std.specs.List.{flat_map}
use Rattle.std.specs.Fmt.{decimal, signed_decimal}
use Rattle.rp_num.specs.Fraction.{Fraction, fraction_text}

-- a line
abbrev pub line_of : List ℕ → List ℕ
line_of text = text ++ 10 ∷ []

-- entries with one space between them, each with its text; `none` for no entries
abbrev pub list_text : {X : Type 0} → (X → List ℕ) → List X → List ℕ
list_text text_of [] = codes "none"
list_text text_of (entry ∷ entries) = text_of entry ++ flat_map (λ other. codes " " ++ text_of other) entries

-- numbers as they are
abbrev pub numbers_text : List ℕ → List ℕ
numbers_text numbers = list_text decimal numbers

-- the number of one of several things, an observation, a good or a patch: counted from 0, printed from 1
abbrev pub ordinal_text : ℕ → List ℕ
ordinal_text k = decimal (k + 1)

-- several of them
abbrev pub ordinals_text : List ℕ → List ℕ
ordinals_text ordinals = list_text ordinal_text ordinals

-- whole numbers with their signs
abbrev pub sums_text : List ℤ → List ℕ
sums_text sums = list_text signed_decimal sums

-- fractions in lowest terms
abbrev pub fractions_text : List Fraction → List ℕ
fractions_text fractions = list_text fraction_text fractions

-- numerators over one denominator
abbrev pub over_text : List ℕ → ℕ → List ℕ
over_text numbers den = numbers_text numbers ++ codes " over " ++ decimal den
