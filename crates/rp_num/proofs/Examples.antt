-- The definitions at worked values.
use Rattle.std.proofs.Common.{◌≡◌, ◌^◌, refl, Ok, Err}
use Rattle.std.specs.Fmt.{digits}
use Rattle.std.specs.Prelude.{codes}
use Rattle.std.specs.declared.cmp.Ordering.TheVariants.{Less, Equal}
use Rattle.rp_num.specs.declared.decimal.NumFault.TheVariants.{Bad, Decimals}
use Rattle.rp_num.specs.Decimal.{decimal_of}
use Rattle.rp_num.specs.Fraction.{fraction_cmp, fraction_text}

zeros_left_and_right : decimal_of (codes "00012.500") ≡ Ok (record { units = 125; places = 1 })
zeros_left_and_right = refl

a_whole_number : decimal_of (codes "120") ≡ Ok (record { units = 120; places = 0 })
a_whole_number = refl

one_with_a_place : decimal_of (codes "1.0") ≡ Ok (record { units = 1; places = 0 })
one_with_a_place = refl

six_places : decimal_of (codes "0.0000010") ≡ Ok (record { units = 1; places = 6 })
six_places = refl

seven_places : decimal_of (codes "0.0000001") ≡ Err Decimals
seven_places = refl

no_digit_after : decimal_of (codes "1.") ≡ Err Bad
no_digit_after = refl

no_digit_before : decimal_of (codes ".5") ≡ Err Bad
no_digit_before = refl

a_sign : decimal_of (codes "+1") ≡ Err Bad
a_sign = refl

two_points : decimal_of (codes "1.2.3") ≡ Err Bad
two_points = refl

kept_at_the_limit : decimal_of (codes "1000000000000000000.25") ≡ Ok (record { units = 10 ^ 18; places = 2 })
kept_at_the_limit = refl

thirds : fraction_cmp (record { num = 1; den = 3 }) (record { num = 2; den = 5 }) ≡ Less
thirds = refl

halves : fraction_cmp (record { num = 1; den = 2 }) (record { num = 2; den = 4 }) ≡ Equal
halves = refl

a_fraction : fraction_text (record { num = 4; den = 15 }) ≡ codes "4/15"
unfolding digits
a_fraction = refl

a_whole_fraction : fraction_text (record { num = 12; den = 1 }) ≡ codes "12"
unfolding digits
a_whole_fraction = refl
