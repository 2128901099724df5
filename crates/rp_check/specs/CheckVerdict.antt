-- What is answered of a certificate on a table: it is accepted where its levels are those of the table and no item
-- fails, else the levels are named, or the first item that does (this program's own).
use Rattle.std.specs.Prelude.{◌≡◌, ◌⊎◌, ◌+◌, ◌<◌, ℕ, List, length, take, slice_index_or, Ok, Err}
use Rattle.rp_evidence.specs.Clauses.{Finding, cap}
use Rattle.rp_check.specs.ItemFailure.{ItemFails, one_shows_garp}
use Rattle.rp_check.specs.LevelsFailure.{LevelsFail}
use Rattle.rp_check.specs.declared.verdict.Verdict.{Verdict}
use Rattle.rp_check.specs.declared.verdict.Verdict.TheVariants.{Accepted, Rejected}
use Rattle.rp_evidence.specs.Input.{TableInput}
use Rattle.rp_evidence.specs.declared.certificate.Item.{Item}

-- What is found wrong with the k-th item, from 0. The axiom is shown by an item before it, or not at all.
abbrev pub ItemFailsAt : TableInput → List Item → ℕ → Finding
ItemFailsAt input items k found =
    (other : Item) → ItemFails input (one_shows_garp (take k items)) (slice_index_or items k other) found

-- The verdict on these items. They are counted from 1.
abbrev pub IsCheckVerdictOnItems : TableInput → List Item → Verdict → Type 0
IsCheckVerdictOnItems input items Accepted = (k : ℕ) → k < length items → ItemFailsAt input items k (Ok tt)
IsCheckVerdictOnItems input items (Rejected item reason place) =
    (k : ℕ) × (k < length items) × (item ≡ cap (k + 1))
    × ItemFailsAt input items k (Err (record { reason = reason; place = place }))
    × ((j : ℕ) → j < k → ItemFailsAt input items j (Ok tt))

-- The verdict where the levels are not those of the table: item 0 stands for the certificate as a whole.
abbrev pub IsCheckVerdictOnLevels : List ℕ → List ℕ → Verdict → Type 0
IsCheckVerdictOnLevels levels claimed Accepted = ⊥
IsCheckVerdictOnLevels levels claimed (Rejected item reason place) =
    (item ≡ 0) × LevelsFail levels claimed (Err (record { reason = reason; place = place }))

-- The verdict on these levels and items: that on the levels, or they are those of the table, and that on the items.
abbrev pub IsCheckVerdict : TableInput → List ℕ → List Item → Verdict → Type 0
IsCheckVerdict input claimed items verdict =
    IsCheckVerdictOnLevels input.levels claimed verdict
    ⊎ (LevelsFail input.levels claimed (Ok tt) × IsCheckVerdictOnItems input items verdict)
