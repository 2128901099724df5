use Rattle.std.proofs.Common.{arith, inl, map, refl}
use Rattle.serde_json.specs.View.{view}
use Rattle.rp_json_fit.proofs.ItemListLemmas.{whole_found}
use Rattle.rp_json_fit.proofs.TopLemmas.{no_top}
use Rattle.rp_json_fit.proofs.reading.read_fit_value.Goals as goal

pub returns-in_default : goal.returns-in_default
returns-in_default c =
    let none = no_top (view c.args.value.now) c.in_default.ensures in
    inl (refl, none.0, none.1)

pub returns : goal.returns
returns c =
    rw c.from_vec.ensures
    (whole_found (view c.args.value.now) c.in-Some.version (map view c.in-Some.values.now) c.in_ok-has_its_members.field-0 c.in_ok-read_items.field-0.items (omega (arith, c.if-version-ne1.false))
    c.in-Some.ensures c.if-not-branch.false c.in_ok-has_its_members.ensures c.in_ok-read_items.ensures)
