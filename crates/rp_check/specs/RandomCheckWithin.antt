-- What is answered of a certificate on random choices where the search for a light type has a limit (this program's
-- own).
use Rattle.std.specs.Prelude.{◌≡◌, ◌+◌, ◌<◌, ℕ, List, [], length, slice_index_or, Ok, Err}
use Rattle.rp_check.specs.declared.verdict.Verdict.{Verdict}
use Rattle.rp_check.specs.declared.verdict.Verdict.TheVariants.{Accepted, Rejected}
use Rattle.rp_check_mixture.specs.RandomWithin.{RandomFailsWithin}
use Rattle.rp_evidence.specs.declared.certificate.Item.{Item}
use Rattle.rp_evidence.specs.declared.certificate.Item.TheVariants.{Random as RandomItem}
use Rattle.rp_evidence.specs.Clauses.{Finding, InOrder, cap}
use Rattle.rp_patch.specs.Patches.{PatchList}

-- A certificate on random choices has no item on a table. Each item has its own steps.
abbrev pub ItemFailsOnPatchesWithin : PatchList → Item → ℕ → Finding
ItemFailsOnPatchesWithin p (RandomItem total part) steps = RandomFailsWithin p total part steps
ItemFailsOnPatchesWithin p _ steps = InOrder []

-- What is found wrong with the k-th item, from 0.
abbrev pub RandomItemFailsWithinAt : PatchList → List Item → ℕ → ℕ → Finding
RandomItemFailsWithinAt p items steps k found =
    (other : Item) → ItemFailsOnPatchesWithin p (slice_index_or items k other) steps found

-- The verdict on these items. Items are counted from 1.
abbrev pub IsRandomCheckVerdictWithin : PatchList → List Item → ℕ → Verdict → Type 0
IsRandomCheckVerdictWithin p items steps Accepted =
    (k : ℕ) → k < length items → RandomItemFailsWithinAt p items steps k (Ok tt)
IsRandomCheckVerdictWithin p items steps (Rejected item reason place) =
    (k : ℕ) × (k < length items) × (item ≡ cap (k + 1))
    × RandomItemFailsWithinAt p items steps k (Err (record { reason = reason; place = place }))
    × ((j : ℕ) → j < k → RandomItemFailsWithinAt p items steps j (Ok tt))
