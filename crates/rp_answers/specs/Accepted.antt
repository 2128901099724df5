-- The program's certificates are accepted by a checker that is given no more than the input.
use Rattle.std.specs.Prelude.{Bool, IsTrue, Ok}
use Rattle.rp_check.specs.CheckVerdict.{IsCheckVerdict}
use Rattle.rp_check.specs.ItemFailure.{ItemFails, shows_garp}
use Rattle.rp_check.specs.declared.verdict.Verdict.TheVariants.{Accepted}
use Rattle.rp_evidence.specs.Input.{TableInput}
use Rattle.rp_evidence.specs.declared.certificate.Certificate.{Certificate}
use Rattle.rp_evidence.specs.declared.certificate.Item.{Item}
use Rattle.rp_evidence.specs.declared.certificate.Item.TheVariants.{Garp as GarpItem}
use Rattle.rp_evidence.specs.declared.garp.Garp.{Garp}

-- the checker accepts the certificate: its levels are those of the table, and nothing is wrong with any of its items
abbrev pub IsAcceptedOn : TableInput → Certificate → Type 0
IsAcceptedOn input certificate = IsCheckVerdict input certificate.levels certificate.items Accepted

-- it finds nothing wrong with an item that comes after this verdict on the axiom
abbrev pub PassesAfter : TableInput → Garp → Item → Type 0
PassesAfter input garp item =
    (before : Bool) → (IsTrue (shows_garp (GarpItem garp)) → IsTrue before) → ItemFails input before item (Ok tt)
