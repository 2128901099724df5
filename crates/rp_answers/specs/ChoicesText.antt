-- What `random` prints of choices from budgets: by all their rational types where these are listed, else by types that
-- are generated, by searches of so many steps at most. Where types are listed, the limit changes nothing.
use Rattle.std.specs.Prelude.{ℕ, Bool, List, Option, Some, None}
use Rattle.rp_patch.specs.Patches.{PatchList}
use Rattle.rp_types.specs.declared.types.Rational.{Rational}
use Rattle.rp_answers.specs.GeneratedText.{IsGeneratedText}
use Rattle.rp_answers.specs.RandomText.{IsRandomText}
use Rattle.rp_answers.specs.Typed.{typed}

abbrev pub IsChoicesText : Bool → ℕ → PatchList → Option (List Rational) → List ℕ → Type 0
IsChoicesText json most p (Some types) text = IsRandomText json (typed p types) text
IsChoicesText json most p None text = IsGeneratedText json most p text
