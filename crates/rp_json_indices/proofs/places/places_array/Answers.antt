use Rattle.std.proofs.Common.{rules, map, ap, ◌∙◌, ◌∷◌, ◌++◌, [], slice_index, ◌≡◌}
use Rattle.std.proofs.lemmas.List.{map-append, take_all}
use Rattle.serde_json.specs.Data.{array}
use Rattle.serde_json.specs.View.{view, items_of}
use Rattle.serde_json.proofs.Views.{view-Array}
use Rattle.rp_json_entries.specs.Values.{count_value}
use Rattle.rp_json_indices.specs.PlacesValue.{place_number, place_numbers}
use Rattle.rp_json_indices.proofs.PlacesReads.{one_shown}
use Rattle.rp_json_indices.proofs.places.places_array.Goals as goal

pub loop-s-preserved : goal.loop-s-preserved
loop-s-preserved c =
    one_shown c.args.at.now c.loop-s.s (slice_index c.args.at.now c.loop-s.s) (map view c.loop-s.values.items) (map view c.push.new.self.items) c.loop-s-test.true (search rules) c.loop-s.invariant
    (let shown : view c.from.result ≡ count_value (place_number c.loop-s.s (slice_index c.args.at.now c.loop-s.s)) = c.from.ensures ∙ ap count_value c.place_number.ensures in
    ap (map view) c.in_ok-push.ensures.items ∙ map-append view c.loop-s.values.items (c.from.result ∷ []) ∙ ap (λ d. map view c.loop-s.values.items ++ d ∷ []) shown)

pub returns : goal.returns
returns c =
    view-Array c.loop-s.values
    ∙ ap (λ l. array (items_of l)) (c.loop-s.invariant ∙ ap (λ l. map count_value (place_numbers 0 l)) (take_all c.loop-s.s c.args.at.now c.loop-s-test.false))
