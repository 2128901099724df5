use Rattle.std.proofs.Common.{◌≡◌, ℕ, List, IfOk, ap, map, subst}
use Rattle.rp_long.specs.Panels.{Panel}
use Rattle.rp_long.proofs.households.Households.left_out.Goals as goal

pub returns : goal.returns
returns c =
    subst (λ (names : List (List ℕ)). IfOk c.left_out.result (λ found. map (λ name. name.now) found.items ≡ names)) (ap (λ (p : Panel). p.left_out) c.self.view_is) c.left_out.ensures
