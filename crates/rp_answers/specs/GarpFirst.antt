-- A certificate on a table that begins with the verdict on the generalized axiom of revealed preference (Varian 1982),
-- and has one item for each of several questions under that verdict, in order.
use Rattle.std.specs.Prelude.{◌≡◌, ℕ, ◌<◌, List, [], length, slice_index_or}
use Rattle.rp_evidence.specs.Input.{TableInput}
use Rattle.rp_evidence.specs.Proves.{Proves}
use Rattle.rp_evidence.specs.declared.certificate.Certificate.{Certificate}
use Rattle.rp_evidence.specs.declared.certificate.Item.{Item}
use Rattle.rp_evidence.specs.declared.certificate.Item.TheVariants.{Garp as GarpItem}
use Rattle.rp_evidence.specs.declared.certificate.Kind.TheVariants.{Table}
use Rattle.rp_evidence.specs.declared.garp.Garp.{Garp}
use Rattle.rp_garp.specs.GarpVerdict.{IsGarpVerdict}
use Rattle.rp_people.specs.Says.{Says}
use Rattle.rp_agreement.specs.ReadBack.{IsReadBack, certificate_from}
use Rattle.rp_answers.specs.Accepted.{IsAcceptedOn}

-- one item for each of so many questions: the k-th answers the k-th, from 0
pub record AreAnswered (count : ℕ) (IsAnswer : ℕ → Item → Type 0) (items : List Item) : Type 0 where
  pub one_each : length items ≡ count
  pub each : (k : ℕ) (d : Item) → k < count → IsAnswer k (slice_index_or items k d)

-- the verdict on the axiom is true, says of people what such a verdict says, and is as it is given; the items after it
-- answer so many questions under it, the checker accepts them all, and the JSON of the certificate is read back as it
pub record IsGarpFirst (input : TableInput) (count : ℕ) (IsAnswer : Garp → ℕ → Item → Type 0)
    (certificate : Certificate) : Type 0 where
  pub garp : Garp
  pub others : List Item
  pub items : certificate ≡ certificate_from [] garp others
  pub garp_proves : Proves input (GarpItem garp)
  pub garp_says : Says input (GarpItem garp)
  pub garp_given : IsGarpVerdict input.n input.cost garp
  pub answered : AreAnswered count (IsAnswer garp) others
  pub accepted : IsAcceptedOn input certificate
  pub read_back : IsReadBack Table certificate
