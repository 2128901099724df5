-- For the proofs alone: what is true of each item that is given. No public clause cites this word.
use Rattle.std.specs.Prelude.{◌≡◌, ◌++◌, ◌∷◌, [], List, Ok, IfSome}
use Rattle.rp_check_goodness.specs.FitVerdict.{FitItemFails}
use Rattle.rp_evidence.specs.Input.{TableInput}
use Rattle.rp_fit.specs.FitItems.{ProvesFit}
use Rattle.rp_fit.specs.declared.item.FitItem.{FitItem}
use Rattle.rp_fit.specs.declared.item.FitItem.TheVariants as item
use Rattle.rp_fit.specs.declared.levels.Lack.TheVariants.{Mean, Squares}
use Rattle.rp_json_fit.specs.FitLimits.{FitsItem}
use Rattle.rp_fit_find.specs.WholeFit.{if_given}
use Rattle.rp_fit_find.specs.declared.parts.Parts.{Parts}

-- Nothing is found wrong with an item, it proves its index or its bounds, and it is within the limits of reading.
pub record IsReady (input : TableInput) (item : FitItem) : Type 0 where
  pub passes : FitItemFails input item (Ok tt)
  pub proves : ProvesFit input item
  pub fits : FitsItem item

-- The items of these parts, in their order.
abbrev pub items_of : Parts → List FitItem
items_of parts = item.Violations parts.violations ∷ item.Efficiency parts.efficiency ∷ item.Kept parts.kept
    ∷ item.Levels parts.mean ∷ item.Levels parts.squares ∷ item.Steps parts.steps
    ∷ (if_given item.Pump parts.pump ++ if_given item.QuasilinearLevel parts.quasilinear
    ++ if_given item.HomotheticLevel parts.homothetic)

-- Each part is ready, as an item.
pub record AreReady (input : TableInput) (parts : Parts) : Type 0 where
  pub violations : IsReady input (item.Violations parts.violations)
  pub efficiency : IsReady input (item.Efficiency parts.efficiency)
  pub kept : IsReady input (item.Kept parts.kept)
  pub mean : IsReady input (item.Levels parts.mean)
  pub by_mean : parts.mean.lack ≡ Mean
  pub squares : IsReady input (item.Levels parts.squares)
  pub by_squares : parts.squares.lack ≡ Squares
  pub steps : IsReady input (item.Steps parts.steps)
  pub pump : IfSome parts.pump (λ part. IsReady input (item.Pump part))
  pub quasilinear : IfSome parts.quasilinear (λ part. IsReady input (item.QuasilinearLevel part))
  pub homothetic : IfSome parts.homothetic (λ part. IsReady input (item.HomotheticLevel part))
