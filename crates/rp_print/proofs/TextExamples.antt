-- Shared texts at worked values.
use Rattle.std.proofs.Common.{◌≡◌, [], ◌∷◌, ◌++◌, refl, Some}
use Rattle.std.specs.Fmt.{digits}
use Rattle.std.specs.Prelude.{codes}
use Rattle.rp_evidence.specs.declared.demand.Bound.TheVariants.{Shown, Wide}
use Rattle.rp_farkas.specs.declared.entry.Pair.{Pair}
use Rattle.rp_print.specs.BoundText.{bound_text, bounds_text, pair_line}
use Rattle.rp_print.specs.ListText.{line_of, numbers_text, ordinals_text, over_text}
use Rattle.rp_print.specs.LowestTerms.{lowest_terms}
use Rattle.rp_print.specs.MixtureText.{apportioned_text}

no_share : lowest_terms 0 12 ≡ record { num = 0; den = 1 }
no_share = refl

six_tenths : lowest_terms 6 10 ≡ record { num = 3; den = 5 }
six_tenths = refl

a_whole : lowest_terms 12 4 ≡ record { num = 3; den = 1 }
a_whole = refl

no_numbers : numbers_text [] ≡ codes "none"
no_numbers = refl

a_cycle : line_of (codes "cycle " ++ ordinals_text (0 ∷ 1 ∷ 0 ∷ [])) ≡ codes "cycle 1 2 1\n"
unfolding digits
a_cycle = refl

some_weights : over_text (1 ∷ 0 ∷ 1 ∷ 0 ∷ []) 2 ≡ codes "1 0 1 0 over 2"
unfolding digits
some_weights = refl

-- two prices over 250, and a point with two entries
abbrev pair : Pair
pair = record { den = 250; y = record { at = 1; value = 2 } ∷ record { at = 3; value = 125 } ∷ []; x = 250 ∷ 500 ∷ [] }

a_pair : pair_line (codes "lower ") (Shown (record { num = 1; den = 2 }) pair) ≡ codes "lower x 250 500 y 2:2 4:125 over 250\n"
unfolding digits
a_pair = refl

a_bound : bounds_text (Shown (record { num = 1; den = 2 }) pair) 3 0 ≡ codes " lower 1/2 upper 3 at 1"
unfolding digits
a_bound = refl

a_step : bound_text (Wide 7) ≡ codes "withheld 7"
unfolding digits
a_step = refl

a_unit : apportioned_text (Some 4) ≡ codes "apportioned per 4\n"
unfolding digits
a_unit = refl
