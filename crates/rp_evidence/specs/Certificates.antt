-- The certificates that the program makes, and their versions (this program's own format).
use Rattle.std.specs.Prelude.{ℕ, List, [], ◌∷◌}
use Rattle.rp_evidence.specs.declared.certificate.Certificate.{Certificate}
use Rattle.rp_evidence.specs.declared.certificate.Item.{Item}
use Rattle.rp_evidence.specs.declared.certificate.Item.TheVariants.{Random as RandomItem}
use Rattle.rp_evidence.specs.declared.certificate.Kind.TheVariants.{Table, Random}
use Rattle.rp_evidence.specs.declared.random.RandomPart.{RandomPart}

-- Certificates without levels are of version 1, and those with levels of version 2.
abbrev pub version_of : List ℕ → ℕ
version_of [] = 1
version_of (level ∷ levels) = 2

-- The certificate of a table with these levels, or none, that has these items.
abbrev pub table_certificate : List ℕ → List Item → Certificate
table_certificate levels items = record { kind = Table; version = version_of levels; levels = levels; items = items }

-- The certificate of random choices with this one item.
abbrev pub random_certificate : ℕ → RandomPart → Certificate
random_certificate total part = record { kind = Random; version = 1; levels = []; items = RandomItem total part ∷ [] }
