use Rattle.std.proofs.Common.{rules, subst}
use Rattle.std.proofs.lemmas.List.{take_all}
use Rattle.rp_json_entries.specs.Reading.{FitsObservation, IsFound}
use Rattle.rp_json_indices.specs.PlacesValue.{place_number}
use Rattle.rp_json_indices.proofs.PlacesReads.{all_read, none_read, one_more}
use Rattle.rp_json_indices.proofs.places.places_of.Goals as goal

pub returns-in-None : goal.returns-in-None
returns-in-None c =
    none_read c.args.numbers.now c.loop-s.s _ c.loop-s-test.true (search rules) (subst (IsFound (place_number c.loop-s.s) FitsObservation _) c.in-None.is c.place_of.ensures)

pub loop-s-preserved : goal.loop-s-preserved
loop-s-preserved c =
    one_more c.args.numbers.now c.loop-s.s _ c.in-Some.t c.loop-s.at.items c.push.new.self.items c.loop-s-test.true (search rules) c.loop-s.invariant
    (subst (IsFound (place_number c.loop-s.s) FitsObservation _) c.in-Some.is c.place_of.ensures) c.in_ok-push-in-Some.ensures.items

pub returns : goal.returns
returns c =
    rw c.from_vec.ensures (all_read c.args.numbers.now c.loop-s.at.items c.loop-s.s (take_all c.loop-s.s c.args.numbers.now c.loop-s-test.false) c.loop-s.invariant)
