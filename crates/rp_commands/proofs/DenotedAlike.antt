-- What files denote where all types of choices have to be listed they denote where they have not.
use Rattle.std.proofs.Common.{ℕ, Bool, Some, None, Option, List, Ok, arith}
use Rattle.rp_answers.specs.declared.choice_limits.ChoiceLimits.TheVariants.{Listed, Unlisted}
use Rattle.rp_command_line.specs.CommandLine.{Arguments, Line, file_set, takes_levels}
use Rattle.rp_command_line.specs.declared.commands.FileSet.{FileSet}
use Rattle.rp_command_line.specs.declared.commands.FileSet.TheVariants as files
use Rattle.rp_patch.specs.Patches.{PatchList}
use Rattle.rp_table.specs.BudgetLists.{BudgetList}
use Rattle.rp_table.specs.ChoiceLists.{ChoiceList}
use Rattle.rp_types.specs.declared.types.Rational.{Rational}
use Rattle.rp_commands.specs.ChoiceContents.{TypedPatchesOf, TypesOf}
use Rattle.rp_commands.specs.Contents.{Contents, ContentsInBy, DenotesBy}

types_alike : (p : PatchList) (types : Option (List Rational)) → TypesOf Listed p (Ok types) → TypesOf Unlisted p (Ok types)
types_alike p (Some types) listed = listed
types_alike p None (wrong, none) = absurd cc

typed_alike : (budgets : BudgetList) (choices : ChoiceList) (per : Option ℕ) (made : PatchList × Option (List Rational)) → TypedPatchesOf Listed budgets choices per (Ok made)
    → TypedPatchesOf Unlisted budgets choices per (Ok made)
typed_alike budgets choices per made (p, (are, valid, few), (types, listed, same)) = (p, (are, valid, omega (arith, few)), (types, types_alike p types listed, same))

contents_alike : (takes : Bool) (set : FileSet) (arguments : Arguments) (known : ℕ → Option (List ℕ)) (held : Contents) → ContentsInBy Listed takes set arguments known (Ok held)
    → ContentsInBy Unlisted takes set arguments known (Ok held)
contents_alike takes files.Choices arguments known held (b, in_first, (c, in_second, (made, typed, same))) =
    (b, in_first, (c, in_second, (made, typed_alike b c arguments.per made typed, same)))
contents_alike takes files.ChoicesAndCertificate arguments known held (b, in_first, (c, in_second, (read, certified, (made, typed, same)))) =
    (b, in_first, (c, in_second, (read, certified, (made, typed_alike b c arguments.per made typed, same))))
contents_alike takes files.Nothing arguments known held denotes = denotes
contents_alike takes files.Table arguments known held denotes = denotes
contents_alike takes files.TableAndCertificate arguments known held denotes = denotes
contents_alike takes files.TableAndPricesWithExpenditure arguments known held denotes = denotes
contents_alike takes files.TableAndPrices arguments known held denotes = denotes
contents_alike takes files.TableAndBundles arguments known held denotes = denotes
contents_alike takes files.Menus arguments known held denotes = denotes
contents_alike takes files.TechnologyAndAsked arguments known held denotes = denotes

pub denotes_alike : (line : Line) (bytes : ℕ → List ℕ) (held : Contents) → DenotesBy Listed line bytes (Ok held) → DenotesBy Unlisted line bytes (Ok held)
denotes_alike line bytes held = contents_alike (takes_levels line) (file_set line) line.arguments (λ k. Some (bytes k)) held
