-- What is answered of a certificate on random choices: it is accepted where no item fails, else the first item that
-- does (this program's own).
use Rattle.std.specs.Prelude.{◌≡◌, ◌+◌, ◌<◌, ℕ, List, length, slice_index_or, Ok, Err}
use Rattle.rp_check.specs.declared.verdict.Verdict.{Verdict}
use Rattle.rp_check.specs.declared.verdict.Verdict.TheVariants.{Accepted, Rejected}
use Rattle.rp_evidence.specs.declared.certificate.Item.{Item}
use Rattle.rp_evidence.specs.Clauses.{Finding, cap}
use Rattle.rp_patch.specs.Patches.{PatchList}
use Rattle.rp_patch.specs.RandomFailure.{ItemFailsOnPatches}

-- What is found wrong with the k-th item, from 0.
abbrev pub RandomItemFailsAt : PatchList → List Item → ℕ → Finding
RandomItemFailsAt p items k found = (other : Item) → ItemFailsOnPatches p (slice_index_or items k other) found

-- The verdict on these items. Items are counted from 1.
abbrev pub IsRandomCheckVerdict : PatchList → List Item → Verdict → Type 0
IsRandomCheckVerdict p items Accepted = (k : ℕ) → k < length items → RandomItemFailsAt p items k (Ok tt)
IsRandomCheckVerdict p items (Rejected item reason place) =
    (k : ℕ) × (k < length items) × (item ≡ cap (k + 1))
    × RandomItemFailsAt p items k (Err (record { reason = reason; place = place }))
    × ((j : ℕ) → j < k → RandomItemFailsAt p items j (Ok tt))
