-- The report on choices from menus (this program's own format; the sums after Block and Marschak 1960).
use Rattle.std.specs.Prelude.{◌≡◌, ◌+◌, ◌*◌, ℕ, ℤ, zero, suc, nat_lt, List, [], ◌∷◌, ◌++◌, Option, codes, length}
use Rattle.std.specs.Prelude.{if◌then◌else◌}
use Rattle.std.specs.Fmt.{decimal, signed_decimal}
use Rattle.rp_evidence.specs.declared.random.RandomPart.{RandomPart}
use Rattle.rp_evidence.specs.declared.random.RandomPart.TheVariants.{Mixture, Violated, Wide}
use Rattle.rp_evidence.specs.declared.random.Share.{Share}
use Rattle.rp_menu.specs.MenuLists.{MenuList, has_letter}
use Rattle.rp_limits.specs.declared.menu.TheConstants.{LETTERS}
use Rattle.rp_num.specs.Fraction.{Fraction}
use Rattle.rp_orders.specs.LeastSums.{IsLeastMenuSum}
use Rattle.rp_orders.specs.MenuSums.{AreComplete, sum_at}
use Rattle.rp_orders.specs.OrderKinds.{PicksCells}
use Rattle.rp_patch.specs.Kinds.{AreAllOf, weight_of}
use Rattle.rp_patch.specs.declared.apportionment.Units.{Units}
use Rattle.rp_print.specs.ListText.{line_of}
use Rattle.rp_print.specs.LowestTerms.{lowest_terms}
use Rattle.rp_print.specs.MixtureText.{apportioned_text, mixture_text, violation_text}

-- a letter, from 0 for a
abbrev pub letter_text : ℕ → List ℕ
letter_text x = if nat_lt x LETTERS then (97 + x) ∷ [] else []

-- the letters below x that a menu has, one after another
abbrev pub letters_below : ℕ → ℕ → List ℕ
letters_below zero menu = []
letters_below (suc x) menu = letters_below x menu ++ (if has_letter menu x then letter_text x else [])

-- a menu: its letters
abbrev pub menu_text : ℕ → List ℕ
menu_text menu = letters_below LETTERS menu

-- how many letters, menus and cells there are, how many orders pick a cell from every menu, and the units of each menu
abbrev pub counts_text : MenuList → ℕ → ℕ → List ℕ
counts_text list orders total =
    line_of (codes "alternatives " ++ decimal list.letters ++ codes " menus " ++ decimal (length list.menus)
    ++ codes " cells " ++ decimal (length list.groups) ++ codes " orders " ++ decimal orders
    ++ codes " total " ++ decimal total)

-- how much there is of the parts over the denominator, as a share of the total, in lowest terms
abbrev pub share_of_parts : Units → ℕ → List Share → Fraction
share_of_parts units den parts = lowest_terms (weight_of parts) (den * units.total)

-- the evidence: a mixture; or the greatest share, with the weights that show it and a partial mixture that has it; or
-- the step at which the run of the program passes its width
abbrev pub evidence_text : Units → RandomPart → List ℕ
evidence_text units (Mixture den parts) = mixture_text (codes "menus") letter_text den parts
evidence_text units (Violated den parts weights) =
    violation_text (codes "menus") letter_text (share_of_parts units den parts) den weights parts
evidence_text units (Wide step) = line_of (codes "menus withheld " ++ decimal step)

-- a sum, of letter x at a menu
abbrev pub sum_text : ℤ → ℕ → ℕ → List ℕ
sum_text sum x menu =
    line_of (codes "sums least " ++ signed_decimal sum ++ codes " at " ++ letter_text x
    ++ codes " in " ++ menu_text menu)

-- the text is that of the least sum where the data are complete, and else there is none
pub record IsSumsText (list : MenuList) (units : Units) (text : List ℕ) : Type 0 where
  pub complete : AreComplete list → (menu : ℕ) × (x : ℕ) × IsLeastMenuSum list units menu x
      × (text ≡ sum_text (sum_at list units x menu) x menu)
  pub incomplete : ¬ AreComplete list → text ≡ []

-- the report, with how many orders pick cells alone, and with the text on the least sum
abbrev pub menus_report : MenuList → Units → RandomPart → Option ℕ → ℕ → List ℕ → List ℕ
menus_report list units part per orders sums =
    counts_text list orders units.total ++ apportioned_text per ++ evidence_text units part ++ sums

-- the text is the report of this evidence
pub record IsMenusReport (list : MenuList) (units : Units) (part : RandomPart) (per : Option ℕ) (text : List ℕ)
    : Type 0 where
  pub orders : List (List ℕ)
  pub sums : List ℕ
  pub all : AreAllOf (PicksCells list) orders
  pub least : IsSumsText list units sums
  pub text_is : text ≡ menus_report list units part per (length orders) sums
