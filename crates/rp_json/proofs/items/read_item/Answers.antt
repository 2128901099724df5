use Rattle.std.proofs.Common.{subst}
use Rattle.serde_json.specs.View.{view}
use Rattle.rp_json_entries.specs.Reading.{IsFound}
use Rattle.rp_json.proofs.ItemReads.{found_random, no_random}
use Rattle.rp_json_programs.proofs.RandomReads.{FitsRandomOf, random_of}
use Rattle.rp_json.proofs.items.read_item.Goals as goal

pub returns-in-Some : goal.returns-in-Some
returns-in-Some c =
    rw (c.random.ensures, c.in-Random.is) (found_random (view c.args.value.now) _ (subst (IsFound random_of FitsRandomOf (view c.args.value.now)) c.in-Some.is c.in_ok-entries-in-Random.ensures))

pub returns-in-None : goal.returns-in-None
returns-in-None c = rw c.in-Random.is (no_random (view c.args.value.now) (subst (IsFound random_of FitsRandomOf (view c.args.value.now)) c.in-None.is c.in_ok-entries-in-Random.ensures))
