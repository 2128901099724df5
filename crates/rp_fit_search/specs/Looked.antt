-- What a search does to the count of its looks (this program's own).
use Rattle.std.specs.Prelude.{◌≡◌, ◌≤◌}
use Rattle.rp_fit_search.specs.declared.looks.Looks.{Looks}

-- The limit stands, and no look is taken back. That no more than the limit are made is a fact of the type.
pub record HasLooked (before after : Looks) : Type 0 where
  pub limit : after.limit ≡ before.limit
  pub not_fewer : before.made ≤ after.made
  pub within : after.made ≤ after.limit
