-- What the files of a line hold, and what they denote: the contents of its set of files, or the first refusal, which is
-- a whole line for standard error (this program's own order and texts). Nothing is both.
use Rattle.std.specs.Prelude.{ℕ, ⊤, Bool, true, false, Option, Some, List, Ok}
use Rattle.rp_table.specs.BundleLists.{BundleList}
use Rattle.rp_table.specs.PriceLists.{PriceList}
use Rattle.rp_table.specs.Tables.{Observations}
use Rattle.rp_text.specs.Denotation.{bundles_beside, prices_beside}
use Rattle.rp_cost.specs.AskedOutputs.{AskedOutputs}
use Rattle.rp_cost.specs.Denotation.{asked_beside, tech_in}
use Rattle.rp_cost.specs.Technology.{Technology}
use Rattle.rp_evidence.specs.declared.certificate.Certificate.{Certificate}
use Rattle.rp_evidence.specs.declared.certificate.Kind.TheVariants.{Table as TableKind, Random as RandomKind}
use Rattle.rp_command_line.specs.CommandLine.{Arguments, Line, file_set, takes_levels}
use Rattle.rp_command_line.specs.declared.commands.FileSet.{FileSet}
use Rattle.rp_command_line.specs.declared.commands.FileSet.TheVariants as files
use Rattle.rp_menu.specs.MenuLists.{MenuList}
use Rattle.rp_patch.specs.Patches.{PatchList}
use Rattle.rp_patch.specs.declared.apportionment.Units.{Units}
use Rattle.rp_types.specs.declared.types.Rational.{Rational}
use Rattle.rp_answers.specs.Printed.{as_stated}
use Rattle.rp_answers.specs.declared.choice_limits.ChoiceLimits.{ChoiceLimits}
use Rattle.rp_commands.specs.ChoiceContents.{BudgetsIn, ChoicesIn, TypedPatchesOf}
use Rattle.rp_commands.specs.MenuContents.{MenusIn}
use Rattle.rp_commands.specs.Readings.{AndThen, CertificateIn, FileIn, Just, NumbersIn, Reading, TableIn}

-- what the files of a line hold, by the set of files of its command: of choices from budgets their patches and rational
-- types, where these are listed, and of menus the units of their cells too
pub data Contents : Type 0 where
  Nothing : Contents
  Table : (table : Observations) → Contents
  TableAndCertificate : (table : Observations) (certificate : Certificate) → Contents
  TableAndPricesWithExpenditure : (table : Observations) (new : PriceList) → Contents
  TableAndPrices : (table : Observations) (new : PriceList) → Contents
  TableAndBundles : (table : Observations) (bundles : BundleList) → Contents
  Choices : (patches : PatchList) (types : Option (List Rational)) → Contents
  ChoicesAndCertificate : (patches : PatchList) (types : Option (List Rational)) (certificate : Certificate)
      → Contents
  Menus : (list : MenuList) (units : Units) → Contents
  TechnologyAndAsked : (tech : Technology) (asked : AskedOutputs) → Contents

-- the contents of a set of files, or the first refusal, by these limits of choices, from the bytes of the k-th file for
-- each k from 0, as far as they are known. Where a file is not, nothing is denoted but what is refused before it
abbrev pub ContentsInBy : ChoiceLimits → Bool → FileSet → Arguments → (ℕ → Option (List ℕ)) → Reading Contents
ContentsInBy limits takes files.Nothing arguments known = Just (Ok Nothing)
ContentsInBy limits takes files.Table arguments known =
    AndThen (TableIn takes arguments known) (λ t. Just (Ok (Table t)))
ContentsInBy limits takes files.TableAndCertificate arguments known =
    AndThen (TableIn takes arguments known) (λ t.
    AndThen (FileIn arguments known 1 (λ name. CertificateIn name TableKind))
    (λ c. Just (Ok (TableAndCertificate t c))))
ContentsInBy limits takes files.TableAndPricesWithExpenditure arguments known =
    AndThen (TableIn takes arguments known) (λ t.
    AndThen (FileIn arguments known 1 (λ name. NumbersIn name (prices_beside true t)))
    (λ new. Just (Ok (TableAndPricesWithExpenditure t new))))
ContentsInBy limits takes files.TableAndPrices arguments known =
    AndThen (TableIn takes arguments known) (λ t.
    AndThen (FileIn arguments known 1 (λ name. NumbersIn name (prices_beside false t)))
    (λ new. Just (Ok (TableAndPrices t new))))
ContentsInBy limits takes files.TableAndBundles arguments known =
    AndThen (TableIn takes arguments known) (λ t.
    AndThen (FileIn arguments known 1 (λ name. NumbersIn name (bundles_beside t)))
    (λ b. Just (Ok (TableAndBundles t b))))
ContentsInBy limits takes files.Choices arguments known =
    AndThen (BudgetsIn arguments known) (λ b.
    AndThen (ChoicesIn b arguments known) (λ c.
    AndThen (TypedPatchesOf limits b c arguments.per) (λ made. Just (Ok (Choices made.0 made.1)))))
ContentsInBy limits takes files.ChoicesAndCertificate arguments known =
    AndThen (BudgetsIn arguments known) (λ b.
    AndThen (ChoicesIn b arguments known) (λ c.
    AndThen (FileIn arguments known 2 (λ name. CertificateIn name RandomKind)) (λ certificate.
    AndThen (TypedPatchesOf limits b c arguments.per)
    (λ made. Just (Ok (ChoicesAndCertificate made.0 made.1 certificate))))))
ContentsInBy limits takes files.Menus arguments known =
    AndThen (FileIn arguments known 0 (MenusIn arguments.per)) (λ made. Just (Ok (Menus made.0 made.1)))
ContentsInBy limits takes files.TechnologyAndAsked arguments known =
    AndThen (FileIn arguments known 0 (λ name. NumbersIn name tech_in)) (λ tech.
    AndThen (FileIn arguments known 1 (λ name. NumbersIn name (asked_beside tech)))
    (λ asked. Just (Ok (TechnologyAndAsked tech asked))))

-- files that hold numbers alone: tables, new prices, bundles and technologies
abbrev pub HasNumbersAlone : FileSet → Type 0
HasNumbersAlone files.Nothing = ⊤
HasNumbersAlone files.Table = ⊤
HasNumbersAlone files.TableAndCertificate = ⊥
HasNumbersAlone files.TableAndPricesWithExpenditure = ⊤
HasNumbersAlone files.TableAndPrices = ⊤
HasNumbersAlone files.TableAndBundles = ⊤
HasNumbersAlone files.Choices = ⊥
HasNumbersAlone files.ChoicesAndCertificate = ⊥
HasNumbersAlone files.Menus = ⊥
HasNumbersAlone files.TechnologyAndAsked = ⊤

-- the contents of a line's files, or its first refusal, from the bytes of all of them. A file that is named twice and
-- keeps its bytes to itself may differ from itself
abbrev pub DenotesBy : ChoiceLimits → Line → (ℕ → List ℕ) → Reading Contents
DenotesBy limits line bytes =
    ContentsInBy limits (takes_levels line) (file_set line) line.arguments (λ k. Some (bytes k))

-- both by the limits of the program that prints all as it stands
abbrev pub ContentsIn : Bool → FileSet → Arguments → (ℕ → Option (List ℕ)) → Reading Contents
ContentsIn = ContentsInBy as_stated.limits

abbrev pub Denotes : Line → (ℕ → List ℕ) → Reading Contents
Denotes = DenotesBy as_stated.limits
