-- The laws of the program.
use Rattle.std.proofs.Common.{◌≡◌, ℕ, false, List, Option, None, Some, Result, Ok, Err, arith, inl, inr, sym, subst, ◌∙◌}
use Rattle.rp_check.specs.declared.verdict.Verdict.{Verdict}
use Rattle.rp_check.specs.declared.verdict.Verdict.TheVariants.{Accepted, Rejected}
use Rattle.rp_answers.specs.declared.choice_limits.ChoiceLimits.TheVariants.{Unlisted}
use Rattle.rp_commands.proofs.PatchesApart.{patches_apart}
use Rattle.rp_commands.specs.ChoiceContents.{TypedPatchesOf}
use Rattle.rp_commands.specs.Readings.{numbers_in, taken_table}
use Rattle.rp_patch.specs.Choices.{random_input_of}
use Rattle.rp_patch.specs.Patches.{PatchList}
use Rattle.rp_limits.specs.declared.generated.TheConstants.{PATCHES}
use Rattle.rp_table.specs.BudgetLists.{BudgetList}
use Rattle.rp_table.specs.ChoiceLists.{ChoiceList}
use Rattle.rp_text.specs.Denotation.{budgets_in, choices_on}
use Rattle.rp_types.specs.declared.types.Rational.{Rational}
use Rattle.rp_fit_answers.specs.RandomWords.{units_of}
use Rattle.rp_front.specs.Endings.{IsEnd}
use Rattle.rp_front.specs.declared.status.Status.{Status}
use Rattle.rp_table.specs.Tables.{Observations}
use Rattle.rp_fit_answers.specs.Answers.{AnswersHeld}
use Rattle.rp_fit_answers.specs.CheckText.{check_status}
use Rattle.rp_fit.specs.declared.item.FitItem.{FitItem}
use Rattle.rp_fit_answers.specs.Contents.{CertificateIn, Choices, ChosenIn, Held, Table, TableAndCertificate}
use Rattle.rp_fit_answers.specs.GoodnessOfFit.{accepts, answers, refuses}
use Rattle.rp_fit_answers.specs.Questions.{CheckFit, Fit, Question, RandomWithin}

verdict_ends : (verdict : Verdict) → IsEnd (check_status verdict)
verdict_ends Accepted = tt
verdict_ends (Rejected item reason place) = tt

held_ends : (question : Question) (held : Held) (s : Status) (text : List ℕ) → AnswersHeld question held s text → IsEnd s
held_ends (Fit name json) (Table table) s text is = subst IsEnd (sym is.ends) tt
held_ends (Fit name json) (TableAndCertificate table items) s text is = absurd is
held_ends (Fit name json) (Choices patches types) s text is = absurd is
held_ends (CheckFit name file) (Table table) s text is = absurd is
held_ends (CheckFit name file) (TableAndCertificate table items) s text is = subst IsEnd (sym is.ends) (verdict_ends is.verdict)
held_ends (CheckFit name file) (Choices patches types) s text is = absurd is
held_ends (RandomWithin a) (Table table) s text is = absurd is
held_ends (RandomWithin a) (TableAndCertificate table items) s text is = absurd is
held_ends (RandomWithin a) (Choices patches types) s text (ends, is) = subst IsEnd (sym ends) tt

pub answers_end : (question : Question) (bytes : ℕ → List ℕ) (s : Status) (text told : List ℕ) → answers question bytes s text told → IsEnd s
answers_end question bytes s text told ((held, holds, is), none) = held_ends question held s text is

pub answers_accepted : (question : Question) (bytes : ℕ → List ℕ) (s : Status) (text told : List ℕ) → answers question bytes s text told → accepts question bytes
answers_accepted question bytes s text told ((held, holds, is), none) = (held, holds)

one_table : (this : Result Observations (List ℕ)) (table : Observations) (line : List ℕ) → this ≡ Ok table → this ≡ Err line → ⊥
one_table this table line is refused = cc

certificate_apart : (file bytes : List ℕ) (items : List FitItem) (line : List ℕ) → CertificateIn file bytes (Ok items) → CertificateIn file bytes (Err line) → ⊥
certificate_apart file bytes items line (few, is) (inl (many, so)) = omega (arith, few, many)
certificate_apart file bytes items line (few, is) (inr (also_few, none, more)) = none items is

one_value : {A : Type 0} (this : Result A (List ℕ)) (value : A) (line : List ℕ) → this ≡ Ok value → this ≡ Err line → ⊥
one_value this value line is refused = cc

same_value : {A : Type 0} (this : Result A (List ℕ)) (value other : A) → this ≡ Ok value → this ≡ Ok other → value ≡ other
same_value this value other is also = cc

-- choices are not both answered and refused
typed_apart : (budgets : BudgetList) (choices : ChoiceList) (per : Option ℕ) (made : PatchList × Option (List Rational)) (line : List ℕ)
    → TypedPatchesOf Unlisted budgets choices per (Ok made) → TypedPatchesOf Unlisted budgets choices per (Err line) → ⊥
typed_apart budgets choices per made line (p, (are, valid, few), typed) (inl (fault, other, why, is)) =
    patches_apart (random_input_of budgets choices) per PATCHES p fault are valid few other why
typed_apart budgets choices per made line held (inr (q, patches, inl (listed, more))) = cc listed
typed_apart budgets choices per made line held (inr (q, patches, inr (types, listed, is))) = cc is

chosen_apart : (budgets : BudgetList) (per : Option ℕ) (file bytes : List ℕ) (made : PatchList × Option (List Rational)) (line : List ℕ)
    → ChosenIn budgets per file bytes (Ok made) → ChosenIn budgets per file bytes (Err line) → ⊥
chosen_apart budgets per file bytes made line (choices, read, typed) (inl refused) = one_value (numbers_in file (choices_on budgets) bytes) choices line read refused
chosen_apart budgets per file bytes made line (choices, read, typed) (inr (other, also, refused)) =
    let same = same_value (numbers_in file (choices_on budgets) bytes) choices other read also in
    typed_apart budgets other per made line (subst (λ (c : ChoiceList). TypedPatchesOf Unlisted budgets c per (Ok made)) same typed) refused

pub never_both : (question : Question) (bytes : ℕ → List ℕ) (line : List ℕ) → accepts question bytes → refuses question (λ k. Some (bytes k)) line → ⊥
never_both (Fit name json) bytes line (held, (table, read, is)) (inl refused) = one_table (taken_table false name (bytes 0)) table line read refused
never_both (Fit name json) bytes line (held, (table, read, is)) (inr (other, also, made)) = cc made
never_both (CheckFit name file) bytes line (held, (table, read, more)) (inl refused) = one_table (taken_table false name (bytes 0)) table line read refused
never_both (CheckFit name file) bytes line (held, (table, read, (items, denoted, is))) (inr (other, also, inl refused)) = certificate_apart file (bytes 1) items line denoted refused
never_both (CheckFit name file) bytes line (held, (table, read, (items, denoted, is))) (inr (other, also, inr (others, too, made))) = cc made
never_both (RandomWithin a) bytes line (held, (budgets, read, more)) (inl refused) = one_value (numbers_in a.budgets budgets_in (bytes 0)) budgets line read refused
never_both (RandomWithin a) bytes line (held, (budgets, read, (made, chosen, is))) (inr (other, also, inl refused)) =
    let same = same_value (numbers_in a.budgets budgets_in (bytes 0)) budgets other read also in
    chosen_apart other (units_of a) a.choices (bytes 1) made line (subst (λ (b : BudgetList). ChosenIn b (units_of a) a.choices (bytes 1) (Ok made)) same chosen) refused
never_both (RandomWithin a) bytes line (held, (budgets, read, (made, chosen, is))) (inr (other, also, inr (others, too, refused))) = cc refused

pub begins_unrefused : (question : Question) (known : ℕ → Option (List ℕ)) (line : List ℕ) → known 0 ≡ None → refuses question known line → ⊥
begins_unrefused (Fit name json) known line is (inl refused) = let no = rw is at refused in no
begins_unrefused (Fit name json) known line is (inr (table, taken, made)) = let no = rw is at taken in no
begins_unrefused (CheckFit name file) known line is (inl refused) = let no = rw is at refused in no
begins_unrefused (CheckFit name file) known line is (inr (table, taken, more)) = let no = rw is at taken in no
begins_unrefused (RandomWithin a) known line is (inl refused) = let no = rw is at refused in no
begins_unrefused (RandomWithin a) known line is (inr (budgets, taken, more)) = let no = rw is at taken in no
