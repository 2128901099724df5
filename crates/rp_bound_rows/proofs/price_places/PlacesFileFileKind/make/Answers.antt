use Rattle.std.proofs.Common.{◌∙◌, ap, refl, subst}
use Rattle.std.proofs.Common.{ℕ, ◌≤◌, sym}
use Rattle.rp_forms.specs.declared.form.Role.TheVariants.{Price}
use Rattle.rp_sheet.specs.Sizes.{places_of}
use Rattle.rp_sheet.proofs.FileLemmas.{read_as, whole_sheet}
use Rattle.rp_bound_rows.proofs.PlacesLemmas.{few, same_places}
use Rattle.rp_bound_rows.proofs.price_places.PlacesFileFileKind.make.Goals as goal

pub places_of-requires : goal.places_of-requires
places_of-requires c = whole_sheet (read_as refl c.as_slice.ensures.value refl c.requires.1)

pub returns-clause-exact : goal.returns-clause-exact
returns-clause-exact c =
    c.places_of.ensures ∙ same_places c.args.self.now.table.now.quantity_places c.args.sheet.now.columns c.args.sheet.now.figures.items c.as_slice.result.now c.requires.1.kind c.as_slice.ensures.value

pub returns-clause-fitting : goal.returns-clause-fitting
returns-clause-fitting c =
    subst (λ (n : ℕ). n ≤ 6) (sym (c.places_of.ensures ∙ ap (λ form. places_of form c.args.sheet.now.columns.headers c.as_slice.result.now Price) c.requires.1.kind))
    (few c.args.self.now.table.now.quantity_places (read_as refl c.as_slice.ensures.value refl c.requires.1))
