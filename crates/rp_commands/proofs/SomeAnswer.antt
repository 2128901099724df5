-- The content of a line's files of numbers denotes an input or a refusal: each reader of one answers every list of bytes.
-- That a table with a certificate denotes neither is impossible.
use Rattle.std.proofs.Common.{◌≡◌, ℕ, Bool, true, false, Some, List, Result, Ok, Err, inl, inr, refl, sym, subst}
use Rattle.rp_evidence.specs.declared.certificate.Certificate.{Certificate}
use Rattle.rp_evidence.specs.declared.certificate.Kind.TheVariants.{Table as TableKind}
use Rattle.rp_table.specs.Tables.{Observations}
use Rattle.rp_cost.specs.Denotation.{asked_beside, tech_in}
use Rattle.rp_text.specs.Denotation.{bundles_beside, prices_beside}
use Rattle.rp_answers.specs.declared.choice_limits.ChoiceLimits.{ChoiceLimits}
use Rattle.rp_command_line.specs.CommandLine.{Arguments, Line, file, file_set, takes_levels}
use Rattle.rp_command_line.specs.declared.commands.FileSet.{FileSet}
use Rattle.rp_command_line.specs.declared.commands.FileSet.TheVariants as files
use Rattle.rp_commands.specs.Contents.{Contents, ContentsInBy, DenotesBy, HasNumbersAlone}
use Rattle.rp_commands.specs.Contents as contents
use Rattle.rp_commands.specs.Readings.{AndThen, CertificateIn, Just, Reading, numbers_in, taken_table}
use Rattle.rp_commands.proofs.SomeCertificate.{certificate_some}

-- a value is read or a line
abbrev GivesSome : {A : Type 0} → Reading A → Type 0
GivesSome {A} reading = (one : Result A (List ℕ)) × reading one

just_some : {A : Type 0} (this : Result A (List ℕ)) → GivesSome (Just this)
just_some this = (this, refl)

then_some : {A B : Type 0} (first : Result A (List ℕ)) (next : A → Reading B) → ((a : A) → GivesSome (next a)) → GivesSome (AndThen (Just first) next)
then_some {A} {B} (Ok a) next each = let found = each a in go found.0 found.1
  where
    go : (r : Result B (List ℕ)) → next a r → GivesSome (AndThen (Just (Ok a)) next)
    go (Ok b) is = (Ok b, (a, refl, is))
    go (Err line) is = (Err line, inr (a, refl, is))
then_some (Err line) next each = (Err line, inl refl)

over_some : {A : Type 0} (first : Result A (List ℕ)) (over : A → Contents) → GivesSome (AndThen (Just first) (λ a. Just (Ok (over a))))
over_some first over = then_some first (λ a. Just (Ok (over a))) (λ a. just_some (Ok (over a)))

two_some : {A B : Type 0} (first : Result A (List ℕ)) (second : A → Result B (List ℕ)) (over : A → B → Contents)
    → GivesSome (AndThen (Just first) (λ a. AndThen (Just (second a)) (λ b. Just (Ok (over a b)))))
two_some first second over =
    then_some first (λ a. AndThen (Just (second a)) (λ b. Just (Ok (over a b)))) (λ a. over_some (second a) (over a))

denoted_some : (limits : ChoiceLimits) (takes : Bool) (set : FileSet) (arguments : Arguments) (bytes : ℕ → List ℕ) → HasNumbersAlone set → GivesSome (ContentsInBy limits takes set arguments (λ k. Some (bytes k)))
denoted_some limits takes files.Nothing arguments bytes numbers = just_some (Ok contents.Nothing)
denoted_some limits takes files.Table arguments bytes numbers = over_some (taken_table takes (file arguments 0) (bytes 0)) contents.Table
denoted_some limits takes files.TableAndCertificate arguments bytes numbers = absurd numbers
denoted_some limits takes files.TableAndPricesWithExpenditure arguments bytes numbers =
    two_some (taken_table takes (file arguments 0) (bytes 0)) (λ t. numbers_in (file arguments 1) (prices_beside true t) (bytes 1)) contents.TableAndPricesWithExpenditure
denoted_some limits takes files.TableAndPrices arguments bytes numbers =
    two_some (taken_table takes (file arguments 0) (bytes 0)) (λ t. numbers_in (file arguments 1) (prices_beside false t) (bytes 1)) contents.TableAndPrices
denoted_some limits takes files.TableAndBundles arguments bytes numbers =
    two_some (taken_table takes (file arguments 0) (bytes 0)) (λ t. numbers_in (file arguments 1) (bundles_beside t) (bytes 1)) contents.TableAndBundles
denoted_some limits takes files.Choices arguments bytes numbers = absurd numbers
denoted_some limits takes files.ChoicesAndCertificate arguments bytes numbers = absurd numbers
denoted_some limits takes files.Menus arguments bytes numbers = absurd numbers
denoted_some limits takes files.TechnologyAndAsked arguments bytes numbers =
    two_some (numbers_in (file arguments 0) tech_in (bytes 0)) (λ t. numbers_in (file arguments 1) (asked_beside t) (bytes 1)) contents.TechnologyAndAsked

-- a table and a certificate: a value is read or a line, since that neither is leads to a contradiction
table_and_certificate : (limits : ChoiceLimits) (takes : Bool) (arguments : Arguments) (bytes : ℕ → List ℕ) → ¬ ((one : Result Contents (List ℕ)) → ¬ ContentsInBy limits takes files.TableAndCertificate arguments (λ k. Some (bytes k)) one)
table_and_certificate limits takes arguments bytes none = go (taken_table takes (file arguments 0) (bytes 0)) refl
  where
    go : (first : Result Observations (List ℕ)) → first ≡ taken_table takes (file arguments 0) (bytes 0) → ⊥
    go (Err line) is = none (Err line) (inl (sym is))
    go (Ok t) is = certificate_some (file arguments 1) TableKind (bytes 1) each
      where
        each : (r : Result Certificate (List ℕ)) → ¬ CertificateIn (file arguments 1) TableKind (bytes 1) r
        each (Ok c) read = none (Ok (contents.TableAndCertificate t c)) (t, sym is, (c, read, refl))
        each (Err line) refused = none (Err line) (inr (t, sym is, inl refused))

pub denotes_with_certificate : (limits : ChoiceLimits) (line : Line) (bytes : ℕ → List ℕ) → file_set line ≡ files.TableAndCertificate → ¬ ((one : Result Contents (List ℕ)) → ¬ DenotesBy limits line bytes one)
denotes_with_certificate limits line bytes is none =
    table_and_certificate limits (takes_levels line) line.arguments bytes
    (λ one denotes. none one (subst (λ (set : FileSet). ContentsInBy limits (takes_levels line) set line.arguments (λ k. Some (bytes k)) one) (sym is) denotes))

pub denotes_some : (limits : ChoiceLimits) (line : Line) (bytes : ℕ → List ℕ) → HasNumbersAlone (file_set line) → (one : Result Contents (List ℕ)) × DenotesBy limits line bytes one
denotes_some limits line bytes numbers = denoted_some limits (takes_levels line) (file_set line) line.arguments bytes numbers
