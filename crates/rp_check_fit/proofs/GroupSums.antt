-- Weights of groups, added as a loop goes.
use Rattle.std.proofs.Common.{◌≡◌, ◌+◌, ◌*◌, ◌^◌, ◌<◌, ◌≤◌, ℕ, List, [], length, take, ap, arith, sym, ◌∙◌, if◌then◌else◌}
use Rattle.std.proofs.lemmas.List.Sums.{sum_by_more}
use Rattle.rp_fit.specs.Groups.{allowed_by, allowed_of, is_among, weight_on}
use Rattle.rp_check_fit.specs.KeptFailure.{group_at}
use Rattle.rp_fit.specs.declared.kept.Group.{Group}
use Rattle.rp_fit.specs.declared.kept.GroupKind.TheVariants.{Pairs}

-- a turn of the loop that adds the weight of a group, where it has the observation
pub weight_more : (groups : List Group) (s k weight added new : ℕ) → k < length groups → added ≡ (if is_among (group_at groups k).members s then (group_at groups k).weight else 0) → added ≤ 2 ^ 32
    → (weight ≡ weight_on (take k groups) s) × (weight ≤ k * 2 ^ 32) → new ≡ weight + added → (new ≡ weight_on (take (k + 1) groups) s) × (new ≤ (k + 1) * 2 ^ 32)
weight_more groups s k weight added new within is small so_far adds = (
  adds ∙ ap (λ w. w + added) so_far.0 ∙ ap (λ a. weight_on (take k groups) s + a) is
      ∙ sym (sum_by_more (λ (g : Group). if is_among g.members s then g.weight else 0) groups k (record { weight = 0; kind = Pairs; members = [] }) within),
  omega (arith, adds, small, so_far.1),
)

-- a turn of the loop that adds what a group allows, times its weight
pub allowed_more : (groups : List Group) (k sum added new : ℕ) → k < length groups → added ≡ (group_at groups k).weight * allowed_of (group_at groups k).kind (group_at groups k).members → added ≤ 2 ^ 41
    → (sum ≡ allowed_by (take k groups)) × (sum ≤ k * 2 ^ 41) → new ≡ sum + added → (new ≡ allowed_by (take (k + 1) groups)) × (new ≤ (k + 1) * 2 ^ 41)
allowed_more groups k sum added new within is small so_far adds = (
  adds ∙ ap (λ w. w + added) so_far.0 ∙ ap (λ a. allowed_by (take k groups) + a) is
      ∙ sym (sum_by_more (λ (g : Group). g.weight * allowed_of g.kind g.members) groups k (record { weight = 0; kind = Pairs; members = [] }) within),
  omega (arith, adds, small, so_far.1),
)
