-- Patches that files denote are those of choices in the files, and none of the chosen bundles is empty.
use Rattle.std.proofs.Common.{◌≡◌, ℕ, Bool, true, false, if◌then◌else◌, List, Option, Some, None, Result, Ok, Err, ap, refl, subst}
use Rattle.std.specs.Result.{result_unwrap_or}
use Rattle.rp_table.specs.BudgetLists.{BudgetList}
use Rattle.rp_table.specs.ChoiceLists.{ChoiceList}
use Rattle.rp_text.specs.Denotation.{budgets_in, choices_on}
use Rattle.rp_sheet.specs.declared.fault.TableFault.{TableFault}
use Rattle.rp_evidence.specs.declared.certificate.Certificate.{Certificate}
use Rattle.rp_answers.proofs.ChosenBundles.{full_files}
use Rattle.rp_patch.specs.Choices.{random_input_of}
use Rattle.rp_patch.specs.Patches.{PatchList}
use Rattle.rp_patch.specs.Units.{ArePatchesOf}
use Rattle.rp_types.specs.declared.types.Rational.{Rational}
use Rattle.rp_answers.specs.declared.choice_limits.ChoiceLimits.{ChoiceLimits}
use Rattle.rp_command_line.specs.CommandLine.{Arguments, Line, file, file_set, takes_levels}
use Rattle.rp_command_line.specs.declared.commands.FileSet.{FileSet}
use Rattle.rp_command_line.specs.declared.commands.FileSet.TheVariants as files
use Rattle.rp_commands.specs.Answers.{AreOfTheFiles}
use Rattle.rp_commands.specs.ChoiceContents.{BudgetsIn, ChoicesIn, TypedPatchesOf}
use Rattle.rp_commands.specs.ChosenInFiles.{AreOfChoicesIn}
use Rattle.rp_commands.specs.Contents.{Contents, ContentsInBy, DenotesBy}
use Rattle.rp_commands.specs.Contents as contents
use Rattle.rp_commands.specs.FaultTexts.{fault_text}
use Rattle.rp_commands.specs.Readings.{NumbersIn, WhereKnown, or_line}

-- a value that was read from a file of numbers is what its bytes denote
value_there : {A : Type 0} (long : Bool) (line name : List ℕ) (r : Result A TableFault) (x : A) → (if long then Err line else or_line fault_text name r) ≡ Ok x → r ≡ Ok x
value_there true line name r x h = cc h
value_there false line name (Ok v) x h = ap (λ s. Ok (result_unwrap_or s x)) h
value_there false line name (Err fault) x h = cc h

read_there : {A : Type 0} (name : List ℕ) (reading : List ℕ → Result A TableFault) (known : Option (List ℕ)) (x : A) → WhereKnown (NumbersIn name reading) known (Ok x) → (bytes : List ℕ) × (reading bytes ≡ Ok x)
read_there name reading None x h = absurd h
read_there name reading (Some bytes) x h = (bytes, value_there _ _ name (reading bytes) x h)

patches_of_contents : Contents → PatchList → PatchList
patches_of_contents (contents.Choices p types) other = p
patches_of_contents (contents.ChoicesAndCertificate p types certificate) other = p
patches_of_contents _ other = other

module _ (limits : ChoiceLimits) (arguments : Arguments) (known : ℕ → Option (List ℕ)) where
  made_of : (b : BudgetList) (c : ChoiceList) (made : PatchList × Option (List Rational)) → BudgetsIn arguments known (Ok b) → ChoicesIn b arguments known (Ok c)
      → TypedPatchesOf limits b c arguments.per (Ok made) → AreOfChoicesIn arguments known made.0
  made_of b c made in_first in_second (p, is, (types, are, same)) =
      let first = read_there (file arguments 0) budgets_in (known 0) b in_first in
      let second = read_there (file arguments 1) (choices_on b) (known 1) c in_second in
      let full = full_files first.0 second.0 b c first.1 second.1 in
      let these : p ≡ made.0 = ap (λ (r : Result (PatchList × Option (List Rational)) (List ℕ)). (result_unwrap_or r made).0) same in
      let patches = subst (λ (q : PatchList). ArePatchesOf (random_input_of b c) arguments.per q) these is.0 in
      record {
        budgets = b;
        choices = c;
        budgets_in_first = in_first;
        choices_in_second = in_second;
        patches = patches;
        full = full;
        says = λ part says. says (random_input_of b c) arguments.per full patches;
      }

  pub of_choices : (takes : Bool) (p : PatchList) (types : Option (List Rational)) → ContentsInBy limits takes files.Choices arguments known (Ok (contents.Choices p types)) → AreOfChoicesIn arguments known p
  unfolding patches_of_contents
  of_choices takes p types (b, in_first, (c, in_second, (made, typed, same))) =
      let these : made.0 ≡ p = ap (λ (r : Result Contents (List ℕ)). patches_of_contents (result_unwrap_or r (contents.Choices p types)) p) same in
      subst (AreOfChoicesIn arguments known) these (made_of b c made in_first in_second typed)

  pub of_choices_with_certificate : (takes : Bool) (p : PatchList) (types : Option (List Rational)) (certificate : Certificate)
      → ContentsInBy limits takes files.ChoicesAndCertificate arguments known (Ok (contents.ChoicesAndCertificate p types certificate)) → AreOfChoicesIn arguments known p
  unfolding patches_of_contents
  of_choices_with_certificate takes p types certificate (b, in_first, (c, in_second, (read, certified, (made, typed, same)))) =
      let these : made.0 ≡ p = ap (λ (r : Result Contents (List ℕ)). patches_of_contents (result_unwrap_or r (contents.Choices p types)) p) same in
      subst (AreOfChoicesIn arguments known) these (made_of b c made in_first in_second typed)

pub behind_patches : (limits : ChoiceLimits) (takes : Bool) (arguments : Arguments) (known : ℕ → Option (List ℕ)) (p : PatchList) (types : Option (List Rational))
    → ContentsInBy limits takes files.Choices arguments known (Ok (contents.Choices p types)) → AreOfChoicesIn arguments known p
behind_patches limits takes arguments known p types = of_choices limits arguments known takes p types

pub behind_patches_with_certificate : (limits : ChoiceLimits) (takes : Bool) (arguments : Arguments) (known : ℕ → Option (List ℕ)) (p : PatchList) (types : Option (List Rational)) (certificate : Certificate)
    → ContentsInBy limits takes files.ChoicesAndCertificate arguments known (Ok (contents.ChoicesAndCertificate p types certificate)) → AreOfChoicesIn arguments known p
behind_patches_with_certificate limits takes arguments known p types certificate = of_choices_with_certificate limits arguments known takes p types certificate

-- whatever files denote, patches are those of the choices in the files
of_same : (arguments : Arguments) (bytes : ℕ → List ℕ) (made held : Contents) → ◌≡◌ {A = Result Contents (List ℕ)} (Ok made) (Ok held) → AreOfTheFiles arguments bytes made → AreOfTheFiles arguments bytes held
of_same arguments bytes made held same of = subst (AreOfTheFiles arguments bytes) (ap (λ (r : Result Contents (List ℕ)). result_unwrap_or r made) same) of

of_files : (limits : ChoiceLimits) (takes : Bool) (set : FileSet) (arguments : Arguments) (bytes : ℕ → List ℕ) (held : Contents) → ContentsInBy limits takes set arguments (λ k. Some (bytes k)) (Ok held) → AreOfTheFiles arguments bytes held
of_files limits takes files.Nothing arguments bytes held same = of_same arguments bytes contents.Nothing held same tt
of_files limits takes files.Table arguments bytes held (t, read, same) = of_same arguments bytes (contents.Table t) held same tt
of_files limits takes files.TableAndCertificate arguments bytes held (t, read, (c, certified, same)) = of_same arguments bytes (contents.TableAndCertificate t c) held same tt
of_files limits takes files.TableAndPricesWithExpenditure arguments bytes held (t, read, (new, priced, same)) = of_same arguments bytes (contents.TableAndPricesWithExpenditure t new) held same tt
of_files limits takes files.TableAndPrices arguments bytes held (t, read, (new, priced, same)) = of_same arguments bytes (contents.TableAndPrices t new) held same tt
of_files limits takes files.TableAndBundles arguments bytes held (t, read, (b, bundled, same)) = of_same arguments bytes (contents.TableAndBundles t b) held same tt
of_files limits takes files.Choices arguments bytes held (b, in_first, (c, in_second, (made, typed, same))) =
    of_same arguments bytes (contents.Choices made.0 made.1) held same
    (behind_patches limits takes arguments (λ k. Some (bytes k)) made.0 made.1 (b, in_first, (c, in_second, (made, typed, refl))))
of_files limits takes files.ChoicesAndCertificate arguments bytes held (b, in_first, (c, in_second, (read, certified, (made, typed, same)))) =
    of_same arguments bytes (contents.ChoicesAndCertificate made.0 made.1 read) held same
    (behind_patches_with_certificate limits takes arguments (λ k. Some (bytes k)) made.0 made.1 read (b, in_first, (c, in_second, (read, certified, (made, typed, refl)))))
of_files limits takes files.Menus arguments bytes held (made, read, same) = of_same arguments bytes (contents.Menus made.0 made.1) held same tt
of_files limits takes files.TechnologyAndAsked arguments bytes held (tech, read, (asked, then_read, same)) = of_same arguments bytes (contents.TechnologyAndAsked tech asked) held same tt

pub of_the_files : (limits : ChoiceLimits) (line : Line) (bytes : ℕ → List ℕ) (held : Contents) → DenotesBy limits line bytes (Ok held) → AreOfTheFiles line.arguments bytes held
of_the_files limits line bytes held denotes = of_files limits (takes_levels line) (file_set line) line.arguments bytes held denotes
