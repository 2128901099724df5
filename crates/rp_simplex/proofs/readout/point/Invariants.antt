use Rattle.std.proofs.Common.{◌≤◌, pos, vec_capacity, vec_len}
use Rattle.rp_farkas.specs.Listing.{IsListing, numerator_at}
use Rattle.rp_simplex.specs.InnerStage.{exact}
use Rattle.rp_simplex.specs.Readout.{IsReadAt}
use Rattle.rp_simplex.proofs.readout.point.Given as goal

abbrev pub invariant-loop-j : goal.invariant-loop-j
invariant-loop-j l = record {
  few : vec_len l.entries ≤ l.j;
  room : l.cols ≤ vec_capacity l.entries;
  listed : IsListing l.j l.entries.items;
  read : IsReadAt l.t.rows l.j (exact l.t) (λ i. (exact l.t).at i 0) 0 (pos 0) (numerator_at l.entries.items);
}
