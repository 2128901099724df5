-- The definitions at choices that were reckoned by hand: integers, and numbers with decimal places.
use Rattle.std.proofs.Common.{◌≡◌, [], ◌∷◌, refl}
use Rattle.rp_table.specs.Tables.{Observations}
use Rattle.rp_offered.specs.Offered.{offered_of, share_millionths}

-- (4,5) and (9,9) with the intercepts 10 and 10, and (3,1) with the intercepts 20 of the first good and 5 of the second
abbrev integers : Observations
integers = record {
  names = (97 ∷ []) ∷ (98 ∷ []) ∷ [];
  prices = 10 ∷ 10 ∷ 10 ∷ 10 ∷ 5 ∷ 20 ∷ [];
  quantities = 4 ∷ 5 ∷ 9 ∷ 9 ∷ 3 ∷ 1 ∷ [];
  price_places = 0;
  quantity_places = 0;
  levels = [];
}

-- (5.12,5.12) and (5.12,5.11) with the intercepts 10.25 and 10.25
abbrev two_places : Observations
two_places = record {
  names = (97 ∷ []) ∷ (98 ∷ []) ∷ [];
  prices = 1025 ∷ 1025 ∷ 1025 ∷ 1025 ∷ [];
  quantities = 512 ∷ 512 ∷ 512 ∷ 511 ∷ [];
  price_places = 2;
  quantity_places = 2;
  levels = [];
}

-- (4.7,4.7) and (5.3,5.3) with the intercepts 10 and 10, then (4.6,4.7) and (5.4,5.3) with the same
abbrev at_the_half : Observations
at_the_half = record {
  names = (97 ∷ []) ∷ (98 ∷ []) ∷ [];
  prices = 10 ∷ 10 ∷ 10 ∷ 10 ∷ [];
  quantities = 47 ∷ 47 ∷ 53 ∷ 53 ∷ [];
  price_places = 0;
  quantity_places = 1;
  levels = [];
}

abbrev past_the_half : Observations
past_the_half = record {
  names = (97 ∷ []) ∷ (98 ∷ []) ∷ [];
  prices = 10 ∷ 10 ∷ 10 ∷ 10 ∷ [];
  quantities = 46 ∷ 47 ∷ 54 ∷ 53 ∷ [];
  price_places = 0;
  quantity_places = 1;
  levels = [];
}

-- 4/10 + 5/10, then 9/10 + 9/10, then 3/20 + 1/5
first_share : share_millionths integers 0 ≡ 900000
first_share = refl

second_share : share_millionths integers 1 ≡ 1800000
second_share = refl

third_share : share_millionths integers 2 ≡ 350000
third_share = refl

-- integers may have been 4.5 and 5.5 on a line with the intercepts 9.5, so rounding explains the first share
as_integers : offered_of (record { prices = 0; quantities = 0 }) integers ≡ record { least = 350000; below = 1; over = 1 }
as_integers = refl

-- it does not in a file of two decimal places
in_a_file_of_two_places : offered_of (record { prices = 2; quantities = 2 }) integers ≡ record { least = 350000; below = 2; over = 1 }
in_a_file_of_two_places = refl

-- 10.24/10.25 may have been 10.25/10.245, and 10.23/10.25 at most 10.24/10.245
with_two_places : offered_of (record { prices = 2; quantities = 2 }) two_places ≡ record { least = 998048; below = 1; over = 0 }
with_two_places = refl

-- 9.4/10 may have been exactly 9.5/9.5, and 10.6/10 exactly 10.5/10.5
exactly_explained : offered_of (record { prices = 0; quantities = 1 }) at_the_half ≡ record { least = 940000; below = 0; over = 0 }
exactly_explained = refl

-- 9.3/10 at most 9.4/9.5, and 10.7/10 at least 10.6/10.5
just_unexplained : offered_of (record { prices = 0; quantities = 1 }) past_the_half ≡ record { least = 930000; below = 1; over = 1 }
just_unexplained = refl
