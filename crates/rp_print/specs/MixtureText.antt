-- Mixtures of types or of orders, and the shares that no mixture has (this program's own format).
use Rattle.std.specs.Prelude.{ℕ, List, [], ◌++◌, Option, Some, None, codes}
use Rattle.std.specs.List.{flat_map}
use Rattle.std.specs.Fmt.{decimal}
use Rattle.rp_num.specs.Fraction.{Fraction, fraction_text}
use Rattle.rp_evidence.specs.declared.random.Share.{Share}
use Rattle.rp_print.specs.ListText.{line_of, list_text, over_text}

-- a part of a mixture: what it is made of, each entry with its text, and its weight
abbrev pub part_text : (ℕ → List ℕ) → Share → List ℕ
part_text text_of part =
    line_of (codes "part " ++ list_text text_of part.patches ++ codes " weight " ++ decimal part.weight)

-- the parts, one after another
abbrev pub parts_text : (ℕ → List ℕ) → List Share → List ℕ
parts_text text_of parts = flat_map (part_text text_of) parts

-- a mixture, after the name of what it is a mixture of
abbrev pub mixture_text : List ℕ → (ℕ → List ℕ) → ℕ → List Share → List ℕ
mixture_text name text_of den parts =
    line_of (name ++ codes " mixture over " ++ decimal den) ++ parts_text text_of parts

-- no mixture: the greatest share, the weights that show it, and a partial mixture that has it
abbrev pub violation_text : List ℕ → (ℕ → List ℕ) → Fraction → ℕ → List ℕ → List Share → List ℕ
violation_text name text_of share den weights parts =
    line_of (name ++ codes " violated share " ++ fraction_text share)
    ++ line_of (codes "weights " ++ over_text weights den) ++ parts_text text_of parts

-- the unit that was asked for
abbrev pub apportioned_text : Option ℕ → List ℕ
apportioned_text None = []
apportioned_text (Some unit) = line_of (codes "apportioned per " ++ decimal unit)
