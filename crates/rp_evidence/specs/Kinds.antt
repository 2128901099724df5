-- What a certificate may hold: one on a table has items on tables, one on random choices has random items (this
-- program's own).
use Rattle.std.specs.Prelude.{◌≡◌, ⊤, All}
use Rattle.rp_evidence.specs.declared.certificate.Certificate.{Certificate}
use Rattle.rp_evidence.specs.declared.certificate.Item.{Item}
use Rattle.rp_evidence.specs.declared.certificate.Item.TheVariants.{Garp, Afriat, Efficiency, Homothetic, Quasi}
use Rattle.rp_evidence.specs.declared.certificate.Item.TheVariants.{Demand, Welfare, Random}
use Rattle.rp_evidence.specs.declared.certificate.Kind.{Kind}
use Rattle.rp_evidence.specs.declared.certificate.Kind.TheVariants.{Table, Random as RandomKind}

-- An item that may stand in a certificate of a kind.
abbrev pub IsOfKind : Kind → Item → Type 0
IsOfKind Table (Garp _) = ⊤
IsOfKind Table (Afriat _) = ⊤
IsOfKind Table (Efficiency _) = ⊤
IsOfKind Table (Homothetic _) = ⊤
IsOfKind Table (Quasi _) = ⊤
IsOfKind Table (Demand _ _ _) = ⊤
IsOfKind Table (Welfare _ _ _) = ⊤
IsOfKind Table (Random _ _) = ⊥
IsOfKind RandomKind (Garp _) = ⊥
IsOfKind RandomKind (Afriat _) = ⊥
IsOfKind RandomKind (Efficiency _) = ⊥
IsOfKind RandomKind (Homothetic _) = ⊥
IsOfKind RandomKind (Quasi _) = ⊥
IsOfKind RandomKind (Demand _ _ _) = ⊥
IsOfKind RandomKind (Welfare _ _ _) = ⊥
IsOfKind RandomKind (Random _ _) = ⊤

-- A certificate of a kind whose items are all of that kind.
abbrev pub IsCertificateOf : Kind → Certificate → Type 0
IsCertificateOf kind certificate = (certificate.kind ≡ kind) × All (IsOfKind kind) certificate.items
