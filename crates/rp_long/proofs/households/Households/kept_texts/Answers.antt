use Rattle.std.proofs.Common.{◌≡◌, ◌<◌, ◌+◌, ℕ, List, IfOk, length, get_or, sym, ap, ◌∙◌, arith, subst}
use Rattle.rp_forms.specs.Texts.{text_at}
use Rattle.rp_sheet.specs.Fields.{row_at}
use Rattle.rp_sheet.specs.Records.{selected_fields}
use Rattle.rp_long.specs.Panels.{Household}
use Rattle.rp_long.proofs.PanelLemmas.{first_within, member_count, members_within, household_there}
use Rattle.rp_long.proofs.households.Households.kept_texts.Goals as goal

pub members-requires : goal.members-requires
members-requires c =
    let same = member_count c.self.inside.columns c.self.inside.records.now c.self.inside.groups c.args.self.now c.self.invariant.1 c.self.view_is in
    omega (arith, same, c.requires)

pub texts_in-requires : goal.texts_in-requires
texts_in-requires c =
    let within = members_within c.self.inside.columns c.self.inside.records.now c.self.inside.groups c.args.self.now c.self.invariant.1 c.self.view_is c.args.h c.requires in
    let first = first_within (text_at c.self.inside.groups.members c.args.h) (length c.self.inside.records.now) c.self.invariant.0 within in
    let is = c.first_of-first.ensures ∙ ap (λ (rows : List ℕ). get_or rows 0 0) c.members.ensures in
    subst (λ (t : ℕ). t + 1 < length c.self.inside.records.now) (sym is) first

pub returns : goal.returns
returns c =
    let there = household_there c.self.inside.columns c.self.inside.records.now c.self.inside.groups c.args.self.now c.self.invariant.1 c.self.view_is c.args.h c.requires in
    let is = c.first_of-first.ensures ∙ ap (λ (rows : List ℕ). get_or rows 0 0) c.members.ensures in
    let same = ap (λ (columns : List ℕ). selected_fields columns (row_at c.self.inside.records.now c.first_of-first.result)) c.kept.ensures
    ∙ ap (λ (t : ℕ). selected_fields c.self.inside.columns.kept (row_at c.self.inside.records.now t)) is ∙ sym (ap (λ (household : Household). household.kept) there) in
    subst (λ (kept : List (List ℕ)). IfOk c.texts_in.result (λ texts. texts ≡ kept)) same c.texts_in.ensures
