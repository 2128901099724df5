use Rattle.std.proofs.Common.{arith, refl}
use Rattle.rp_farkas.specs.declared.entry.Entry.{Entry}
use Rattle.rp_farkas.proofs.Listings.{listed_from, listing_from, ListedFrom-end, ListedFrom-here}
use Rattle.rp_farkas.proofs.listing.is_listing.Goals as goal
use Rattle.rp_farkas.proofs.listing.is_listing.Goals.{then-entry-low-via-then-entry-low, then-entry-low-via-else-entry-low+then-entry-cols, then-entry-low-via-else-entry-low+else-entry-cols+then-entry-eq0, then-entry-low-via-else-entry-low+else-entry-cols+else-entry-eq0+then-entry-gt-EVIDENCE_WIDTH}

pub returns-then-entry-low : goal.returns-then-entry-low
returns-then-entry-low c = (
  λ t. cc,
  λ h.
      let d : Entry = record { at = 0; value = 0 } in
      let here = ListedFrom-here c.loop-entry.low c.args.cols c.args.entries.now c.loop-entry.entry-index d c.loop-entry-test.true
      (c.loop-entry.invariant.0 (listed_from c.args.cols 0 c.args.entries.now h (λ _. omega arith))) in
      elim c.then-entry-low.branch [
        | then-entry-low-via-then-entry-low w ↦ absurd (omega arith)
        | then-entry-low-via-else-entry-low+then-entry-cols w ↦ absurd (omega arith)
        | then-entry-low-via-else-entry-low+else-entry-cols+then-entry-eq0 w ↦ absurd (omega arith)
        | then-entry-low-via-else-entry-low+else-entry-cols+else-entry-eq0+then-entry-gt-EVIDENCE_WIDTH w ↦ absurd (omega arith)
      ],
)

pub returns : goal.returns
returns c = (
  λ t. listing_from c.args.cols 0 c.args.entries.now (c.loop-entry.invariant.1
      (ListedFrom-end c.loop-entry.low c.args.cols c.args.entries.now c.loop-entry.entry-index c.loop-entry-test.false)),
  λ h. refl,
)
