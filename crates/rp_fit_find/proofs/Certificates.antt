-- Items that are ready are accepted.
use Rattle.std.proofs.Common.{◌≡◌, ◌++◌, ◌∷◌, [], List, All, Ok, Option, None, Some}
use Rattle.std.specs.Prelude.{IfSome}
use Rattle.std.proofs.lemmas.List.Elements.{All-append, All-cons, All-nil}
use Rattle.rp_check.specs.declared.verdict.Verdict.TheVariants.{Accepted}
use Rattle.rp_check_goodness.specs.FitVerdict.{FitItemFails, IsFitVerdict}
use Rattle.rp_evidence.specs.Input.{TableInput}
use Rattle.rp_fit.specs.FitItems.{ProvesFit}
use Rattle.rp_fit.specs.declared.item.FitItem.{FitItem}
use Rattle.rp_fit.specs.declared.item.FitItem.TheVariants as item
use Rattle.rp_json_fit.specs.FitLimits.{FitsItem}
use Rattle.rp_fit_find.specs.InnerReady.{AreReady, IsReady, items_of}
use Rattle.rp_fit_find.specs.WholeFit.{if_given}
use Rattle.rp_fit_find.specs.declared.parts.Parts.{Parts}

-- what a search may find is ready
pub found_ready : {Part : Type 0} (input : TableInput) (item_of : Part → FitItem) (found : Option Part) → IfSome found (λ part. FitItemFails input (item_of part) (Ok tt)) → IfSome found (λ part. ProvesFit input (item_of part))
    → IfSome found (λ part. FitsItem (item_of part)) → IfSome found (λ part. IsReady input (item_of part))
found_ready input item_of None passes proves fits = tt
found_ready input item_of (Some part) passes proves fits = record { passes = passes; proves = proves; fits = fits }

given_ready : {Part : Type 0} (P : FitItem → Type 0) (item_of : Part → FitItem) (given : Option Part) → IfSome given (λ part. P (item_of part)) → All P (if_given item_of given)
given_ready P item_of None ready = All-nil P
given_ready P item_of (Some part) ready = All-cons P (item_of part) [] ready (All-nil P)

pub ready_items : (input : TableInput) (parts : Parts) → AreReady input parts → All (IsReady input) (items_of parts)
ready_items input parts are =
    let P = IsReady input in
    let pumps = if_given item.Pump parts.pump in
    let quasilinears = if_given item.QuasilinearLevel parts.quasilinear in
    let homothetics = if_given item.HomotheticLevel parts.homothetic in
    let pump = given_ready P item.Pump parts.pump are.pump in
    let quasilinear = given_ready P item.QuasilinearLevel parts.quasilinear are.quasilinear in
    let homothetic = given_ready P item.HomotheticLevel parts.homothetic are.homothetic in
    let last = pumps ++ quasilinears ++ homothetics in
    let from_steps = item.Steps parts.steps ∷ last in
    let from_squares = item.Levels parts.squares ∷ from_steps in
    let from_mean = item.Levels parts.mean ∷ from_squares in
    let from_kept = item.Kept parts.kept ∷ from_mean in
    let more = All-append P (pumps ++ quasilinears) homothetics (All-append P pumps quasilinears pump quasilinear) homothetic in
    All-cons P (item.Violations parts.violations) (item.Efficiency parts.efficiency ∷ from_kept) are.violations
    (All-cons P (item.Efficiency parts.efficiency) from_kept are.efficiency (All-cons P (item.Kept parts.kept) from_mean are.kept
    (All-cons P (item.Levels parts.mean) from_squares are.mean (All-cons P (item.Levels parts.squares) from_steps are.squares (All-cons P (item.Steps parts.steps) last are.steps more)))))

module _ (input : TableInput) (items : List FitItem) (ready : All (IsReady input) items) where
  pub all_accepted : IsFitVerdict input items Accepted
  all_accepted = λ k within other. (ready k other within).passes

  pub all_prove : All (ProvesFit input) items
  all_prove = λ k d within. (ready k d within).proves

  pub all_fit : All FitsItem items
  all_fit = λ k d within. (ready k d within).fits
