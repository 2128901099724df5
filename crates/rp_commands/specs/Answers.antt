-- What the program answers to a line, over the contents of its files. The bytes of a file are known or not known; where
-- they are, the content is these bytes.
use Rattle.std.specs.Prelude.{◌≡◌, ℕ, ◌<◌, true, false, List, length, Option, Some, Ok, Err}
use Rattle.rp_outside.specs.Known.{AreAll}
use Rattle.rp_outside.specs.SureDesk.{SureState, bytes_or_none}
use Rattle.rp_check.specs.CheckVerdict.{IsCheckVerdict}
use Rattle.rp_check.specs.declared.verdict.Verdict.TheVariants.{Accepted, Rejected}
use Rattle.rp_evidence.specs.Input.{input_of_table}
use Rattle.rp_evidence.specs.declared.failure.Reason.{Reason}
use Rattle.rp_answers.specs.PairsText.{IsPairsText}
use Rattle.rp_answers.specs.AnalysisText.{IsAnalysisTextBy}
use Rattle.rp_answers.specs.CheckText.{IsChoicesVerdict, IsRandomCheck, IsTableCheck}
use Rattle.rp_answers.specs.ChoicesText.{IsChoicesText}
use Rattle.rp_answers.specs.DemandText.{IsDemandTextBy}
use Rattle.rp_answers.specs.WelfareText.{IsWelfareTextBy}
use Rattle.rp_answers.specs.UtilityText.{IsUtilityText}
use Rattle.rp_answers.specs.TrialText.{IsTrialTextBy}
use Rattle.rp_answers.specs.MenusText.{IsMenusText}
use Rattle.rp_answers.specs.PatchesText.{IsPatchesText}
use Rattle.rp_answers.specs.PumpText.{IsPumpText}
use Rattle.rp_answers.specs.CostText.{IsCostTextBy}
use Rattle.rp_answers.specs.PowerText.{IsPowerText}
use Rattle.rp_answers.specs.Printed.{Printed, as_stated}
use Rattle.rp_generated.specs.declared.generated_verdict.TheConstants.{SEARCH_STEPS}
use Rattle.rp_command_line.specs.CommandLine.{Arguments, Line, files_of, file_at, number}
use Rattle.rp_command_line.specs.declared.commands.Command.{Command}
use Rattle.rp_command_line.specs.declared.commands.Command.TheVariants.{Pairs, Analyse, Certify, Check, Demand, Welfare}
use Rattle.rp_command_line.specs.declared.commands.Command.TheVariants.{Utility, Patches}
use Rattle.rp_command_line.specs.declared.commands.Command.TheVariants.{Random, CheckRandom, Trial, Menus, Pump, Cost, Power}
use Rattle.rp_commands.specs.ChosenInFiles.{AreOfChoicesIn}
use Rattle.rp_commands.specs.Contents.{Contents, DenotesBy}
use Rattle.rp_commands.specs.Contents as contents
use Rattle.rp_answers.specs.declared.choice_limits.ChoiceLimits.{ChoiceLimits}
use Rattle.rp_answers.specs.declared.status.Status.{Status}
use Rattle.rp_answers.specs.declared.status.Status.TheVariants as status

-- the bytes of each file, known or not
abbrev pub Files : Type 0
Files = List ℕ → Option (List ℕ)

-- every file known, and one that is not there as empty
abbrev pub all_known : SureState → Files
all_known desk name = Some (bytes_or_none desk name)

-- the files of a line may hold these bytes, each its own: where its bytes are known, these are they
abbrev pub AreContents : Files → Line → (ℕ → List ℕ) → Type 0
AreContents files line bytes = (k : ℕ) → k < length (files_of line) → AreAll (files (file_at line k)) (bytes k)

-- the text by which an edition of the program, which prints so, answers a command which is no check, over what was
-- given to it and what its files hold
abbrev pub IsTextBy : Printed → Command → Arguments → Contents → List ℕ → Type 0
IsTextBy printed Pairs arguments (contents.Table table) text = IsPairsText table text
IsTextBy printed Analyse arguments (contents.Table table) text = IsAnalysisTextBy printed false table text
IsTextBy printed Certify arguments (contents.Table table) text = IsAnalysisTextBy printed true table text
IsTextBy printed Demand arguments (contents.TableAndPricesWithExpenditure table new) text =
    IsDemandTextBy printed arguments.json table new text
IsTextBy printed Welfare arguments (contents.TableAndPrices table new) text =
    IsWelfareTextBy printed arguments.json table new text
IsTextBy printed Utility arguments (contents.TableAndBundles table bundles) text = IsUtilityText table bundles text
IsTextBy printed Random arguments (contents.Choices patches types) text =
    IsChoicesText arguments.json SEARCH_STEPS patches types text
IsTextBy printed Patches arguments (contents.Choices patches types) text = IsPatchesText patches text
IsTextBy printed Trial arguments contents.Nothing text =
    IsTrialTextBy printed (number arguments 0) (number arguments 1) (number arguments 2) text
IsTextBy printed Menus arguments (contents.Menus list units) text = IsMenusText arguments.per list units text
IsTextBy printed Pump arguments (contents.Table table) text = IsPumpText table text
IsTextBy printed Cost arguments (contents.TechnologyAndAsked tech asked) text = IsCostTextBy printed tech asked text
IsTextBy printed Power arguments (contents.Table table) text =
    IsPowerText table (number arguments 0) (number arguments 1) text
IsTextBy printed _ arguments _ text = ⊥

-- the same where all is printed as it stands
abbrev pub IsText : Command → Arguments → Contents → List ℕ → Type 0
IsText = IsTextBy as_stated

-- the text and the status by which such an edition answers a command
abbrev pub AnswersBy : Printed → Command → Arguments → Contents → Status → List ℕ → Type 0
AnswersBy printed Check arguments (contents.TableAndCertificate table certificate) s text =
    IsTableCheck table certificate s text
AnswersBy printed CheckRandom arguments (contents.ChoicesAndCertificate patches types certificate) s text =
    IsRandomCheck patches types certificate s text
AnswersBy printed command arguments held s text = (s ≡ status.Done) × IsTextBy printed command arguments held text

abbrev pub Answers : Command → Arguments → Contents → Status → List ℕ → Type 0
Answers = AnswersBy as_stated

-- patches among the contents are those of the budgets and of the choices that these bytes denote, of which an item on
-- the patches says what it says (`AreOfChoicesIn`)
abbrev pub AreOfTheFiles : Arguments → (ℕ → List ℕ) → Contents → Type 0
AreOfTheFiles arguments bytes (contents.Choices patches types) =
    AreOfChoicesIn arguments (λ k. Some (bytes k)) patches
AreOfTheFiles arguments bytes (contents.ChoicesAndCertificate patches types certificate) =
    AreOfChoicesIn arguments (λ k. Some (bytes k)) patches
AreOfTheFiles arguments bytes _ = Unit {0}

-- some bytes of a line's files denote these contents by the limits of choices, and patches among them are those of the
-- choices in the files
abbrev pub HasContentsBy : ChoiceLimits → Files → Line → Contents → Type 0
HasContentsBy limits files line held = (bytes : ℕ → List ℕ) × AreContents files line bytes
    × DenotesBy limits line bytes (Ok held) × AreOfTheFiles line.arguments bytes held

-- the text and the status answer a line, over some content of its files
abbrev pub AnswersLineBy : Printed → Files → Line → Status → List ℕ → Type 0
AnswersLineBy printed files line s text = (held : Contents) × HasContentsBy printed.limits files line held
    × AnswersBy printed line.command line.arguments held s text

abbrev pub AnswersLine : Files → Line → Status → List ℕ → Type 0
AnswersLine = AnswersLineBy as_stated

-- the text and the status answer the line that the words denote
abbrev pub AnswersDenotedBy : Printed → Files → Option Line → Status → List ℕ → Type 0
AnswersDenotedBy printed files denoted s text =
    (line : Line) × (denoted ≡ Some line) × AnswersLineBy printed files line s text

abbrev pub AnswersDenoted : Files → Option Line → Status → List ℕ → Type 0
AnswersDenoted = AnswersDenotedBy as_stated

-- some content of a line's files is refused with that line of text
abbrev pub RefusesWithBy : ChoiceLimits → Files → Line → List ℕ → Type 0
RefusesWithBy limits files line text = (bytes : ℕ → List ℕ) × AreContents files line bytes
    × DenotesBy limits line bytes (Err text)

-- nothing refuses a line: whatever its files may hold denotes contents
abbrev pub IsAcceptedBy : ChoiceLimits → Files → Line → Type 0
IsAcceptedBy limits files line = (bytes : ℕ → List ℕ) → AreContents files line bytes
    → (held : Contents) × DenotesBy limits line bytes (Ok held)

abbrev pub IsAccepted : Files → Line → Type 0
IsAccepted = IsAcceptedBy as_stated.limits

-- a line is refused, whatever its files may hold
abbrev pub IsRefusedBy : ChoiceLimits → Files → Line → Type 0
IsRefusedBy limits files line = (bytes : ℕ → List ℕ) → AreContents files line bytes
    → (text : List ℕ) × DenotesBy limits line bytes (Err text)

abbrev pub IsRefused : Files → Line → Type 0
IsRefused = IsRefusedBy as_stated.limits

-- there is a certificate among the contents, and the checker rejects it
abbrev pub IsRejectedOver : Contents → Type 0
IsRejectedOver (contents.TableAndCertificate table certificate) =
    (item : ℕ) × (reason : Reason) × (place : ℕ)
    × IsCheckVerdict (input_of_table table) certificate.levels certificate.items (Rejected item reason place)
IsRejectedOver (contents.ChoicesAndCertificate patches types certificate) =
    (item : ℕ) × (reason : Reason) × (place : ℕ)
    × IsChoicesVerdict patches types certificate.items (Rejected item reason place)
IsRejectedOver _ = ⊥

-- there is a certificate among the contents, and the checker accepts it
abbrev pub IsAcceptedOver : Contents → Type 0
IsAcceptedOver (contents.TableAndCertificate table certificate) =
    IsCheckVerdict (input_of_table table) certificate.levels certificate.items Accepted
IsAcceptedOver (contents.ChoicesAndCertificate patches types certificate) =
    IsChoicesVerdict patches types certificate.items Accepted
IsAcceptedOver _ = ⊥

-- some content of a line's files denotes such contents
abbrev pub MayBeBy : ChoiceLimits → (Contents → Type 0) → Files → Line → Type 0
MayBeBy limits holds files line = (held : Contents) × HasContentsBy limits files line held × holds held

-- whatever the files of a line may hold, it denotes no other than such contents
abbrev pub MustBeBy : ChoiceLimits → (Contents → Type 0) → Files → Line → Type 0
MustBeBy limits holds files line = (bytes : ℕ → List ℕ) → AreContents files line bytes → (held : Contents)
    → DenotesBy limits line bytes (Ok held) → holds held
