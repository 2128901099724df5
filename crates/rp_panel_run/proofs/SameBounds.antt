-- The bytes of a long file and of a file of new prices decide the text of bounds that a question asks for.
use Rattle.std.proofs.Common.{◌≡◌, ℕ, List, Bool, false, Option, None, Some, subst}
use Rattle.rp_bound_rows.specs.declared.asked.BoundsAsked.{BoundsAsked}
use Rattle.rp_bounds_panel.specs.BoundsAlike.{AreSameButWithheld}
use Rattle.rp_bounds_panel.specs.BoundsText.{IsBoundsText}
use Rattle.rp_bounds_panel.proofs.SameBounds.{one_bound, one_text}
use Rattle.rp_long.specs.Panels.{Panel}
use Rattle.rp_panel_run.specs.Endings.{AreBoundsAt, Contents, IsTextBy, IsTextOf}
use Rattle.rp_panel_run.specs.Questions.{Asking, demand_by, welfare_by}

by_bounds : (bounds : Option BoundsAsked) (asked : BoundsAsked) → bounds ≡ Some asked → (a : Asking) (new : List ℕ) (panel : Panel) (text : List ℕ) → IsTextBy bounds a new panel text → AreBoundsAt a asked panel text new
by_bounds None asked e a new panel text is = absurd (cc e)
by_bounds (Some other) asked e a new panel text is =
    let same : other ≡ asked = cc e in
    subst (λ (x : BoundsAsked). AreBoundsAt a x panel text new) same is

module _ (a : Asking) (held : Contents) (asked : BoundsAsked) (text told_text other other_told : List ℕ) (asks : a.bounds ≡ Some asked) (is : IsTextOf a held text told_text) (also : IsTextOf a held other other_told) where
  same_panel : also.panel ≡ is.panel
  same_panel = let denoted = is.denoted in let again = also.denoted in cc

  here : IsBoundsText (demand_by a.wide) (welfare_by a.wide) asked held.new a.kept is.panel text
  here = (by_bounds a.bounds asked asks a held.new is.panel text is.answers.is_text).is_text

  there : IsBoundsText (demand_by a.wide) (welfare_by a.wide) asked held.new a.kept is.panel other
  there = subst (λ (p : Panel). IsBoundsText (demand_by a.wide) (welfare_by a.wide) asked held.new a.kept p other) same_panel
      (by_bounds a.bounds asked asks a held.new also.panel other also.answers.is_text).is_text

  pub stated_bounds : a.wide ≡ false → text ≡ other
  stated_bounds stated =
      one_text asked held.new a.kept is.panel text other
      (subst (λ (wide : Bool). IsBoundsText (demand_by wide) (welfare_by wide) asked held.new a.kept is.panel text) stated here)
      (subst (λ (wide : Bool). IsBoundsText (demand_by wide) (welfare_by wide) asked held.new a.kept is.panel other) stated there)

  pub any_bounds : AreSameButWithheld asked a.kept text other
  any_bounds = one_bound (demand_by a.wide) (welfare_by a.wide) asked held.new a.kept is.panel text other here there
