use Rattle.std.proofs.Common.{drop}
use Rattle.rp_farkas.proofs.Listings.{ListedFrom}
use Rattle.rp_farkas.proofs.listing.is_listing.Given as goal

abbrev pub invariant-loop-entry : goal.invariant-loop-entry
invariant-loop-entry l =
    (ListedFrom 0 l.cols l.entries → ListedFrom l.low l.cols (drop l.entry-index l.entries))
    × (ListedFrom l.low l.cols (drop l.entry-index l.entries) → ListedFrom 0 l.cols l.entries)
