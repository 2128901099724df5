-- Menus have units of their cells at most once, or are refused for one reason.
use Rattle.std.proofs.Common.{◌≡◌, ◌<◌, ℕ, List, Option, Result, Ok, Err, length, slice_index, sym, ap, ◌∙◌, arith}
use Rattle.std.proofs.lemmas.List.{ext_get_or}
use Rattle.rp_menu.specs.MenuLists.{MenuList}
use Rattle.rp_patch.specs.Apportionment.{GroupedCounts, grouped}
use Rattle.rp_patch.specs.declared.apportionment.Units.{Units}
use Rattle.rp_patch.proofs.Determined.{same_all, same_units}
use Rattle.rp_patch.proofs.GroupFacts.{group_within}
use Rattle.rp_commands.specs.MenuContents.{UnitsOf, need_unit_line}
use Rattle.rp_commands.proofs.OneFault.{neither_less, passes_once}
use Rattle.rp_commands.proofs.PatchesApart.{passes_apart}

same_record : (a b : Units) → a.total ≡ b.total → a.units ≡ b.units → a ≡ b
same_record a b total units = λ k. record { total = total k; units = units k }

module _ (list : MenuList) (per : Option ℕ) where
  abbrev g : GroupedCounts
  g = grouped list.groups list.counts

  pub units_one : (one other : Result Units (List ℕ)) → UnitsOf list per one → UnitsOf list per other → one ≡ other
  units_one (Ok a) (Ok b) (are, valid, shares) (also, fit, too) =
      let inside = λ (i : ℕ) (within : i < length list.groups). group_within list.groups list.counts are i within in
      let total = same_all g inside per a.total b.total (slice_index a.units) (slice_index b.units) shares too in
      let units = ext_get_or 0 a.units b.units (valid.one_each ∙ sym fit.one_each) (λ i l. same_units g inside per a.total b.total (slice_index a.units) (slice_index b.units) shares too i (omega (arith, l, valid.one_each))) in
      ap Ok (same_record a b total units)
  units_one (Ok a) (Err line) (are, valid, shares) (menu, (none, passes), is) = absurd (passes_apart g per a.total (slice_index a.units) menu shares valid.few none passes)
  units_one (Err line) (Ok b) (menu, (none, passes), is) (are, valid, shares) = absurd (passes_apart g per b.total (slice_index b.units) menu shares valid.few none passes)
  units_one (Err line) (Err text) (j, (none, passes), is) (k, (also_none, too), also) =
      ap Err (is ∙ ap need_unit_line (neither_less j k (passes_once g j k passes too) (passes_once g k j too passes)) ∙ sym also)
