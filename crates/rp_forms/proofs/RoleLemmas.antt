-- What the headers say that are no good's.
use Rattle.std.proofs.Common.{◌≡◌, ℕ, Bool, true, false, if◌then◌else◌, List, Option, Some, None, refl}
use Rattle.std.specs.Prelude.{codes}
use Rattle.std.specs.Option.{option_map_or}
use Rattle.std.specs.Str.{bytes_eq}
use Rattle.rp_forms.specs.Columns.{named_role, is_price, is_quantity}
use Rattle.rp_forms.specs.declared.form.Role.{Role}
use Rattle.rp_forms.specs.declared.form.Role.TheVariants.{Observation, Expenditure, Income, Budget, Times, Output, OutputPrice, Menu, Choice, OwnLevel}

-- neither prices nor quantities of a good
abbrev pub NoGood : Option Role → Type 0
NoGood o = (option_map_or is_price o false ≡ false) × (option_map_or is_quantity o false ≡ false)

no_good_tests : (a b c d e f g m k l : Bool)
    → NoGood (if a then Some Observation else if b then Some Expenditure else if c then Some Income else if d then Some Budget else if e then Some Times
    else if f then Some Output else if g then Some OutputPrice else if m then Some Menu else if k then Some Choice else if l then Some OwnLevel else None)
no_good_tests true b c d e f g m k l = (refl, refl)
no_good_tests false true c d e f g m k l = (refl, refl)
no_good_tests false false true d e f g m k l = (refl, refl)
no_good_tests false false false true e f g m k l = (refl, refl)
no_good_tests false false false false true f g m k l = (refl, refl)
no_good_tests false false false false false true g m k l = (refl, refl)
no_good_tests false false false false false false true m k l = (refl, refl)
no_good_tests false false false false false false false true k l = (refl, refl)
no_good_tests false false false false false false false false true l = (refl, refl)
no_good_tests false false false false false false false false false true = (refl, refl)
no_good_tests false false false false false false false false false false = (refl, refl)

pub no_good : (header : List ℕ) → NoGood (named_role header)
unfolding named_role
no_good header =
    no_good_tests (bytes_eq header (codes "obs")) (bytes_eq header (codes "m")) (bytes_eq header (codes "w")) (bytes_eq header (codes "budget")) (bytes_eq header (codes "n"))
    (bytes_eq header (codes "y")) (bytes_eq header (codes "p")) (bytes_eq header (codes "menu")) (bytes_eq header (codes "choice")) (bytes_eq header (codes "e"))
