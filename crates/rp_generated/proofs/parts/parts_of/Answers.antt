use Rattle.std.proofs.Common.{◌≡◌, ◌<◌, get_or, length, rules}
use Rattle.rp_farkas.specs.declared.entry.Entry.{Entry}
use Rattle.rp_generated.specs.Rounds.{share_of}
use Rattle.rp_generated.proofs.RoundLaws.{parts_all, parts_more, parts_none}
use Rattle.rp_generated.proofs.parts.parts_of.Goals as goal

pub loop-k-init : goal.loop-k-init
loop-k-init c = rw c.new-parts.ensures.items (parts_none c.args.program.now)

pub loop-k-preserved : goal.loop-k-preserved
loop-k-preserved c =
    let g = c.args.program.now in
    let entries = c.args.entries.now in
    let k = c.loop-k.k in
    let inside : k < length entries = search rules in
    let d : Entry = record { at = 0; value = 0 } in
    let is : c.in_ok-part.part ≡ share_of g (get_or entries k d) = search rules in
    rw c.in_ok-insert.ensures.items (parts_more g entries k c.place_of-at.result d c.in_ok-part.part c.loop-k.parts.items inside is c.loop-k.invariant)

pub returns : goal.returns
returns c =
    let all : c.loop-k.k ≡ length c.args.entries.now = search rules in
    parts_all c.args.program.now c.args.entries.now c.loop-k.k c.loop-k.parts.items all c.loop-k.invariant
