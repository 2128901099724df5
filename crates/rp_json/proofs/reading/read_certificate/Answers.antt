use Rattle.std.proofs.Common.{inl, map, refl, subst}
use Rattle.serde_json.specs.View.{view}
use Rattle.rp_json.specs.InnerItems.{AreLevelsBy}
use Rattle.rp_json.proofs.ItemListLemmas.{certificate_found}
use Rattle.rp_json.proofs.TopLemmas.{no_top}
use Rattle.rp_json.proofs.reading.read_certificate.Goals as goal

pub returns-in_default : goal.returns-in_default
returns-in_default c =
    let none = no_top c.args.kind (view c.args.value.now) c.in_default.ensures in
    inl (refl, none.0, none.1)

pub returns-in_ok-read_items-in-Some-2 : goal.returns-in_ok-read_items-in-Some-2
returns-in_ok-read_items-in-Some-2 c =
    let d = view c.args.value.now in
    let values = map view c.in-Some.values.now in
    let found = subst (λ o. AreLevelsBy c.args.kind c.in-Some.version d o) c.in-Some-2.is c.in_ok-levels.ensures in
    rw c.from_vec-items.ensures
    (certificate_found c.args.kind d c.in-Some.version c.in-Some-2.levels values c.in_ok-read_items-in-Some-2.field-0.items
    (found.1 values c.in-Some.ensures) found.0 c.in_ok-read_items-in-Some-2.ensures)
