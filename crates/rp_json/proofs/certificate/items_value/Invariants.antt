use Rattle.std.proofs.Common.{◌≡◌, map, take}
use Rattle.serde_json.specs.View.{view}
use Rattle.rp_json.specs.CertificateValue.{item_value}
use Rattle.rp_json.proofs.certificate.items_value.Given as goal

abbrev pub invariant-loop-item : goal.invariant-loop-item
invariant-loop-item l = map view l.values.items ≡ map item_value (take l.item-index l.items)
