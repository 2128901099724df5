-- The content of a line's files denotes one input or one refusal at most.
use Rattle.std.proofs.Common.{◌≡◌, ◌⊎◌, ℕ, Bool, true, false, Option, Some, None, List, map, Result, Ok, Err, [], ◌∷◌, inl, inr, refl, sym, subst, ap, ◌∙◌, arith}
use Rattle.std.proofs.lemmas.List.{length-map}
use Rattle.rp_cost.specs.Denotation.{asked_beside, tech_in}
use Rattle.rp_evidence.specs.declared.certificate.Certificate.{Certificate}
use Rattle.rp_evidence.specs.declared.certificate.Kind.{Kind}
use Rattle.rp_evidence.specs.declared.certificate.Kind.TheVariants.{Table as TableKind, Random as RandomKind}
use Rattle.rp_json.specs.declared.fault.JsonFault.{JsonFault}
use Rattle.rp_json.specs.declared.fault.JsonFault.TheVariants as json_fault
use Rattle.rp_json.proofs.ItemListLemmas.{denoted_once}
use Rattle.rp_table.specs.BudgetLists.{BudgetList}
use Rattle.rp_table.specs.ChoiceLists.{ChoiceList}
use Rattle.rp_text.specs.Denotation.{budgets_in, bundles_beside, choices_on, prices_beside}
use Rattle.rp_patch.specs.Choices.{RandomInput, random_input_of}
use Rattle.rp_patch.specs.Patches.{IsPatchList, PatchList}
use Rattle.rp_patch.specs.Types.{AreRationalTypes}
use Rattle.rp_patch.specs.Units.{ArePatchesOf}
use Rattle.rp_commands.proofs.OneFault.{json_fault_once, patch_fault_once, types_fault_once}
use Rattle.rp_commands.proofs.PatchesApart.{AreAlike, patches_apart, types_apart}
use Rattle.rp_commands.specs.FaultLines.{file_line, patch_line, types_line}
use Rattle.rp_commands.specs.FaultTexts.{json_fault_text}
use Rattle.rp_types.specs.Listed.{types_of}
use Rattle.rp_types.specs.declared.fault.TypesFault.{TypesFault}
use Rattle.rp_types.specs.declared.types.Rational.{Rational}
use Rattle.rp_answers.specs.ChoiceLimits.{most_patches}
use Rattle.rp_answers.specs.declared.choice_limits.ChoiceLimits.{ChoiceLimits}
use Rattle.rp_answers.specs.declared.choice_limits.ChoiceLimits.TheVariants.{Listed, Unlisted}
use Rattle.rp_command_line.specs.CommandLine.{Arguments, Line, file, file_set, takes_levels}
use Rattle.rp_command_line.specs.declared.commands.FileSet.{FileSet}
use Rattle.rp_command_line.specs.declared.commands.FileSet.TheVariants as files
use Rattle.rp_commands.specs.ChoiceContents.{HasNoList, PatchesOf, TypedPatchesOf, TypesOf}
use Rattle.rp_menu.specs.Denotation.{menus_in}
use Rattle.rp_commands.specs.MenuContents.{MenusIn, MenusOf, UnitsOf, menu_fault_text}
use Rattle.rp_commands.proofs.MenusOnce.{units_one}
use Rattle.rp_commands.specs.Contents.{Contents, ContentsInBy, DenotesBy}
use Rattle.rp_commands.specs.Contents as contents
use Rattle.rp_commands.specs.Readings.{AndThen, CertificateIn, Just, Reading, held_in, numbers_in, taken_table}

-- one value is read or one line, at most
abbrev pub GivesOne : {A : Type 0} → Reading A → Type 0
GivesOne {A} reading = (one other : Result A (List ℕ)) → reading one → reading other → one ≡ other

just_one : {A : Type 0} (this : Result A (List ℕ)) → GivesOne (Just this)
just_one this one other is also = sym is ∙ also

ok_same : {A : Type 0} (a b : A) (r s : Result A (List ℕ)) → r ≡ Ok a → s ≡ Ok b → r ≡ s → a ≡ b
ok_same a b r s is also p = cc

ok_err : {A : Type 0} (a : A) (line : List ℕ) (r s : Result A (List ℕ)) → r ≡ Ok a → s ≡ Err line → r ≡ s → ⊥
ok_err a line r s is also p = cc

err_same : {A : Type 0} (line other : List ℕ) (r s : Result A (List ℕ)) → r ≡ Err line → s ≡ Err other → r ≡ s → line ≡ other
err_same line other r s is also p = cc

-- where each of two readings gives one at most, so does the second after the first
then_one : {A B : Type 0} (first : Reading A) (next : A → Reading B) → GivesOne first → ((a : A) → GivesOne (next a)) → GivesOne (AndThen first next)
then_one first next once each (Ok b) (Ok c) (x, is, to) (y, also, too) =
    each x (Ok b) (Ok c) to (subst (λ z. next z (Ok c)) (sym (ok_same x y (Ok x) (Ok y) refl refl (once (Ok x) (Ok y) is also))) too)
then_one first next once each (Ok b) (Err line) (x, is, to) (inl refused) = absurd (ok_err x line (Ok x) (Err line) refl refl (once (Ok x) (Err line) is refused))
then_one first next once each (Ok b) (Err line) (x, is, to) (inr (y, also, too)) =
    each x (Ok b) (Err line) to (subst (λ z. next z (Err line)) (sym (ok_same x y (Ok x) (Ok y) refl refl (once (Ok x) (Ok y) is also))) too)
then_one first next once each (Err line) (Ok c) (inl refused) (y, also, too) = absurd (ok_err y line (Ok y) (Err line) refl refl (once (Ok y) (Err line) also refused))
then_one first next once each (Err line) (Ok c) (inr (x, is, to)) (y, also, too) =
    each x (Err line) (Ok c) to (subst (λ z. next z (Ok c)) (sym (ok_same x y (Ok x) (Ok y) refl refl (once (Ok x) (Ok y) is also))) too)
then_one first next once each (Err line) (Err other) (inl refused) (inl too) = ap Err (err_same line other (Err line) (Err other) refl refl (once (Err line) (Err other) refused too))
then_one first next once each (Err line) (Err other) (inl refused) (inr (y, also, too)) = absurd (ok_err y line (Ok y) (Err line) refl refl (once (Ok y) (Err line) also refused))
then_one first next once each (Err line) (Err other) (inr (x, is, to)) (inl refused) = absurd (ok_err x other (Ok x) (Err other) refl refl (once (Ok x) (Err other) is refused))
then_one first next once each (Err line) (Err other) (inr (x, is, to)) (inr (y, also, too)) =
    each x (Err line) (Err other) to (subst (λ z. next z (Err other)) (sym (ok_same x y (Ok x) (Ok y) refl refl (once (Ok x) (Ok y) is also))) too)

-- what is made of one reading, and of one file of numbers or of two
over_one : {A B : Type 0} (first : Reading A) (over : A → B) → GivesOne first → GivesOne (AndThen first (λ a. Just (Ok (over a))))
over_one first over once = then_one first (λ a. Just (Ok (over a))) once (λ a. just_one (Ok (over a)))

one_file : {A : Type 0} (first : Result A (List ℕ)) (over : A → Contents) → GivesOne (AndThen (Just first) (λ a. Just (Ok (over a))))
one_file first over = over_one (Just first) over (just_one first)

two_files : {A B : Type 0} (first : Result A (List ℕ)) (second : A → Result B (List ℕ)) (over : A → B → Contents)
    → GivesOne (AndThen (Just first) (λ a. AndThen (Just (second a)) (λ b. Just (Ok (over a b)))))
two_files first second over =
    then_one (Just first) (λ a. AndThen (Just (second a)) (λ b. Just (Ok (over a b)))) (just_one first) (λ a. one_file (second a) (over a))

-- a certificate's file
ok_is : (a b : Certificate) (r : Result Certificate JsonFault) → r ≡ Ok b → (r ≡ Ok a) ⊎ (r ≡ Err json_fault.NoMemory) → a ≡ b
ok_is a b r is (inl p) = cc
ok_is a b r is (inr p) = let wrong : Ok b ≡ Err json_fault.NoMemory = sym is ∙ p in absurd cc

no_fault : (a : Certificate) (f : JsonFault) (r : Result Certificate JsonFault) → r ≡ Err f → (f ≡ json_fault.NoMemory → ⊥) → (r ≡ Ok a) ⊎ (r ≡ Err json_fault.NoMemory) → ⊥
no_fault a f r is other (inl p) = cc
no_fault a f r is other (inr p) = other cc

certificate_apart : (file : List ℕ) (kind : Kind) (bytes : List ℕ) (a : Certificate) (line : List ℕ) → CertificateIn file kind bytes (Ok a) → CertificateIn file kind bytes (Err line) → ⊥
certificate_apart file kind bytes a line (few, is) (inl (many, so)) = omega (arith, few, many)
certificate_apart file kind bytes a line (few, is) (inr (also_few, (f, other, why, so))) = no_fault a f (Err f) refl other (denoted_once kind bytes a (Err f) is why)

certificate_one : (file : List ℕ) (kind : Kind) (bytes : List ℕ) → GivesOne (CertificateIn file kind bytes)
certificate_one file kind bytes (Ok a) (Ok b) (few, is) (also_few, also) = ap Ok (ok_is a b (Ok b) refl (denoted_once kind bytes a (Ok b) is also))
certificate_one file kind bytes (Ok a) (Err line) read refused = absurd (certificate_apart file kind bytes a line read refused)
certificate_one file kind bytes (Err line) (Ok a) refused read = absurd (certificate_apart file kind bytes a line read refused)
certificate_one file kind bytes (Err line) (Err other) (inl (many, so)) (inl (also, too)) = ap Err (so ∙ sym too)
certificate_one file kind bytes (Err line) (Err other) (inl (many, so)) (inr (few, why)) = absurd (omega (arith, many, few))
certificate_one file kind bytes (Err line) (Err other) (inr (few, why)) (inl (many, so)) = absurd (omega (arith, many, few))
certificate_one file kind bytes (Err line) (Err other) (inr (few, (f, real, why, so))) (inr (also, (g, neither, too, is))) =
    ap Err (so ∙ ap (λ (x : JsonFault). file_line file (json_fault_text x)) (json_fault_once kind bytes f g real neither why too) ∙ sym is)

-- a file of menus, with their units
menus_one : (per : Option ℕ) (file bytes : List ℕ) → GivesOne (MenusIn per file bytes)
menus_one per file bytes =
    then_one (MenusOf file bytes) (λ list. AndThen (UnitsOf list per) (λ units. Just (Ok (list, units))))
    (just_one (held_in menu_fault_text file menus_in bytes)) (λ list. over_one (UnitsOf list per) (λ units. (list, units)) (units_one list per))

-- types are those of their patches
abbrev as_type : List ℕ → Rational
as_type patches = record { patches = patches }

made_again : (types : List Rational) → map as_type (types_of types) ≡ types
made_again [] = refl
made_again (type ∷ types) = ap (λ (more : List Rational). type ∷ more) (made_again types)

-- a list of patches is like itself
alike_itself : (p : PatchList) → AreAlike p p
alike_itself p = record { budgets = refl; count = refl; budget = λ i. refl; sign = λ i k. refl }

module _
    (patches_once : (input : RandomInput) (asked : Option ℕ) (one other : PatchList)
    → ArePatchesOf input asked one → IsPatchList one
    → ArePatchesOf input asked other → IsPatchList other → one ≡ other)
    (types_once : (p : PatchList) (one other : List (List ℕ))
    → AreRationalTypes p one → AreRationalTypes p other → one ≡ other)
  where
    patches_one : (most : ℕ) (input : RandomInput) (per : Option ℕ) → GivesOne (PatchesOf most input per)
    patches_one most input per (Ok p) (Ok q) (are, valid, few) (also, too, fit) = ap Ok (patches_once input per p q are valid also too)
    patches_one most input per (Ok p) (Err line) (are, valid, few) (fault, other, why, is) = absurd (patches_apart input per most p fault are valid few other why)
    patches_one most input per (Err line) (Ok p) (fault, other, why, is) (are, valid, few) = absurd (patches_apart input per most p fault are valid few other why)
    patches_one most input per (Err line) (Err text) (f, real, why, is) (g, neither, too, also) =
        ap Err (is ∙ ap patch_line (patch_fault_once input per most f g real neither why too) ∙ sym also)

    types_of_one : (one other : List Rational) → types_of one ≡ types_of other → one ≡ other
    types_of_one one other same = sym (made_again one) ∙ ap (map as_type) same ∙ made_again other

    -- listed types, and a reason why they are not
    listed_apart : (limits : ChoiceLimits) (p : PatchList) (types : List Rational) (fault : TypesFault) → TypesOf limits p (Ok (Some types)) → HasNoList p fault → ⊥
    listed_apart limits p types fault (all, few, within, count) (other, why) =
        types_apart p p (types_of types) fault (alike_itself p) all (rw (length-map types (λ (type : Rational). type.patches)) few) within other why

    some_or_none : (limits : ChoiceLimits) (p : PatchList) (types : List Rational) → TypesOf limits p (Ok (Some types)) → TypesOf limits p (Ok None) → ⊥
    some_or_none limits p types listed (unlisted, inl many) = omega (arith, listed.3, many)
    some_or_none limits p types listed (unlisted, inr (fault, none)) = listed_apart limits p types fault listed none

    either_limits : (limits : ChoiceLimits) → limits ≡ Listed → limits ≡ Unlisted → ⊥
    either_limits limits is also = cc

    types_one : (limits : ChoiceLimits) (p : PatchList) → GivesOne (TypesOf limits p)
    types_one limits p (Ok (Some types)) (Ok (Some others)) listed also = ap (λ (made : List Rational). Ok (Some made)) (types_of_one types others (types_once p (types_of types) (types_of others) listed.0 also.0))
    types_one limits p (Ok (Some types)) (Ok None) listed none = absurd (some_or_none limits p types listed none)
    types_one limits p (Ok (Some types)) (Err line) listed (is, (fault, none, told)) = absurd (listed_apart limits p types fault listed none)
    types_one limits p (Ok None) (Ok (Some types)) none listed = absurd (some_or_none limits p types listed none)
    types_one limits p (Ok None) (Ok None) none also = refl
    types_one limits p (Ok None) (Err line) none refused = absurd (either_limits limits refused.0 none.0)
    types_one limits p (Err line) (Ok (Some types)) (is, (fault, none, told)) listed = absurd (listed_apart limits p types fault listed none)
    types_one limits p (Err line) (Ok None) refused none = absurd (either_limits limits refused.0 none.0)
    types_one limits p (Err line) (Err text) (is, (f, (real, why), told)) (also, (g, (neither, too), says)) =
        ap Err (told ∙ ap types_line (types_fault_once p f g real neither why too) ∙ sym says)

    typed_one : (limits : ChoiceLimits) (budgets : BudgetList) (choices : ChoiceList) (per : Option ℕ) → GivesOne (TypedPatchesOf limits budgets choices per)
    typed_one limits budgets choices per =
        then_one (PatchesOf (most_patches limits) (random_input_of budgets choices) per) (λ p. AndThen (TypesOf limits p) (λ types. Just (Ok (p, types))))
        (patches_one (most_patches limits) (random_input_of budgets choices) per) (λ p. over_one (TypesOf limits p) (λ types. (p, types)) (types_one limits p))

    denoted_one : (limits : ChoiceLimits) (takes : Bool) (set : FileSet) (arguments : Arguments) (bytes : ℕ → List ℕ) → GivesOne (ContentsInBy limits takes set arguments (λ k. Some (bytes k)))
    denoted_one limits takes files.Nothing arguments bytes = just_one (Ok contents.Nothing)
    denoted_one limits takes files.Table arguments bytes = one_file (taken_table takes (file arguments 0) (bytes 0)) contents.Table
    denoted_one limits takes files.TableAndCertificate arguments bytes =
        let first = taken_table takes (file arguments 0) (bytes 0) in
        let second = CertificateIn (file arguments 1) TableKind (bytes 1) in
        then_one (Just first) (λ t. AndThen second (λ c. Just (Ok (contents.TableAndCertificate t c)))) (just_one first)
        (λ t. over_one second (contents.TableAndCertificate t) (certificate_one (file arguments 1) TableKind (bytes 1)))
    denoted_one limits takes files.TableAndPricesWithExpenditure arguments bytes =
        two_files (taken_table takes (file arguments 0) (bytes 0)) (λ t. numbers_in (file arguments 1) (prices_beside true t) (bytes 1)) contents.TableAndPricesWithExpenditure
    denoted_one limits takes files.TableAndPrices arguments bytes =
        two_files (taken_table takes (file arguments 0) (bytes 0)) (λ t. numbers_in (file arguments 1) (prices_beside false t) (bytes 1)) contents.TableAndPrices
    denoted_one limits takes files.TableAndBundles arguments bytes =
        two_files (taken_table takes (file arguments 0) (bytes 0)) (λ t. numbers_in (file arguments 1) (bundles_beside t) (bytes 1)) contents.TableAndBundles
    denoted_one limits takes files.Choices arguments bytes =
        let first = numbers_in (file arguments 0) budgets_in (bytes 0) in
        let second = λ (b : BudgetList). numbers_in (file arguments 1) (choices_on b) (bytes 1) in
        let made = λ (b : BudgetList) (c : ChoiceList). AndThen (TypedPatchesOf limits b c arguments.per) (λ made. Just (Ok (contents.Choices made.0 made.1))) in
        then_one (Just first) (λ b. AndThen (Just (second b)) (made b)) (just_one first)
        (λ b. then_one (Just (second b)) (made b) (just_one (second b))
        (λ c. over_one (TypedPatchesOf limits b c arguments.per) (λ made. contents.Choices made.0 made.1) (typed_one limits b c arguments.per)))
    denoted_one limits takes files.ChoicesAndCertificate arguments bytes =
        let first = numbers_in (file arguments 0) budgets_in (bytes 0) in
        let second = λ (b : BudgetList). numbers_in (file arguments 1) (choices_on b) (bytes 1) in
        let third = CertificateIn (file arguments 2) RandomKind (bytes 2) in
        let made = λ (b : BudgetList) (c : ChoiceList) (read : Certificate).
        AndThen (TypedPatchesOf limits b c arguments.per) (λ made. Just (Ok (contents.ChoicesAndCertificate made.0 made.1 read))) in
        then_one (Just first) (λ b. AndThen (Just (second b)) (λ c. AndThen third (made b c))) (just_one first)
        (λ b. then_one (Just (second b)) (λ c. AndThen third (made b c)) (just_one (second b))
        (λ c. then_one third (made b c) (certificate_one (file arguments 2) RandomKind (bytes 2))
        (λ read. over_one (TypedPatchesOf limits b c arguments.per) (λ made. contents.ChoicesAndCertificate made.0 made.1 read) (typed_one limits b c arguments.per))))
    denoted_one limits takes files.Menus arguments bytes =
        over_one (MenusIn arguments.per (file arguments 0) (bytes 0)) (λ made. contents.Menus made.0 made.1) (menus_one arguments.per (file arguments 0) (bytes 0))
    denoted_one limits takes files.TechnologyAndAsked arguments bytes =
        two_files (numbers_in (file arguments 0) tech_in (bytes 0)) (λ t. numbers_in (file arguments 1) (asked_beside t) (bytes 1)) contents.TechnologyAndAsked

    pub denotes_one : (limits : ChoiceLimits) (line : Line) (bytes : ℕ → List ℕ) → GivesOne (DenotesBy limits line bytes)
    denotes_one limits line bytes = denoted_one limits (takes_levels line) (file_set line) line.arguments bytes
