-- The plain form, tried at a worked text.
use Rattle.std.proofs.Common.{◌≡◌, ℕ, zero, suc, ◌+◌, ◌*◌, ◌<◌, ◌≤◌, inl, List, [], ◌∷◌, ◌++◌, Ok, refl, arith}
use Rattle.std.specs.Prelude.{codes}
use Rattle.std.proofs.lemmas.List.Elements.{All-nil, All-cons}
use Rattle.rp_table.specs.Limits.{IsPrice}
use Rattle.rp_table.specs.Tables.{Observations, IsTable, price_of, quantity_of}
use Rattle.rp_forms.specs.Texts.{text_at}
use Rattle.rp_text.specs.Denotation.{table_in}
use Rattle.rp_text.specs.Plain.{IsPlainName, IsPlainHeader, IsNumeral, IsPlainRecord, IsPlainTable}
use Rattle.rp_text.proofs.PlainBytes.{plain_table}

abbrev text : List ℕ
text = codes "p_a,q_a\n7,12\n"

abbrev table : Observations
table = record { names = codes "a" ∷ []; prices = 7 ∷ []; quantities = 12 ∷ []; price_places = 0; quantity_places = 0; levels = [] }

name_a : IsPlainName (codes "a")
name_a = record { some = omega arith; few = omega arith; letters = All-cons (λ byte. (97 ≤ byte) × (byte ≤ 122)) 97 [] (omega arith, omega arith) (All-nil (λ byte. (97 ≤ byte) × (byte ≤ 122))) }

header_a : IsPlainHeader (codes "p_a" ∷ codes "q_a" ∷ []) (codes "a" ∷ [])
header_a = record {
  some = omega arith;
  few = omega arith;
  plain = All-cons IsPlainName (codes "a") [] name_a (All-nil IsPlainName);
  distinct = λ i j d earlier within. absurd (omega arith);
  width = refl;
  prices = at_prices;
  quantities = at_quantities;
}
  where
    at_prices : (g : ℕ) → g < 1 → text_at (codes "p_a" ∷ codes "q_a" ∷ []) (2 * g) ≡ codes "p_" ++ text_at (codes "a" ∷ []) g
    at_prices zero below = refl
    at_prices (suc g) below = absurd (omega arith)

    at_quantities : (g : ℕ) → g < 1 → text_at (codes "p_a" ∷ codes "q_a" ∷ []) (2 * g + 1) ≡ codes "q_" ++ text_at (codes "a" ∷ []) g
    at_quantities zero below = refl
    at_quantities (suc g) below = absurd (omega arith)

digit_ok : ℕ → Type 0
digit_ok byte = (48 ≤ byte) × (byte ≤ 57)

seven : IsNumeral (codes "7") 7
unfolding digit_ok
seven = record { some = omega arith; few = omega arith; decimal = All-cons digit_ok 55 [] (omega arith, omega arith) (All-nil digit_ok); is = refl }

twelve : IsNumeral (codes "12") 12
unfolding digit_ok
twelve = record { some = omega arith; few = omega arith; decimal = All-cons digit_ok 49 (50 ∷ []) (omega arith, omega arith) (All-cons digit_ok 50 [] (omega arith, omega arith) (All-nil digit_ok)); is = refl }

at_zero : (P : ℕ → Type 0) → P 0 → (k : ℕ) → k < 1 → P k
at_zero P here zero below = here
at_zero P here (suc k) below = absurd (omega arith)

record_a : IsPlainRecord (codes "7" ∷ codes "12" ∷ []) 1 (λ g. price_of table 0 g) (λ g. quantity_of table 0 g)
record_a = record {
  width = refl;
  prices = at_zero _ seven;
  quantities = at_zero _ twelve;
  priced = at_zero _ (omega arith);
  bought = omega arith;
}

within : IsTable table
within = record {
  some_goods = omega arith;
  few_goods = omega arith;
  distinct = λ i j d earlier inside. absurd (omega arith);
  some_records = omega arith;
  few_records = omega arith;
  all_prices = refl;
  all_quantities = refl;
  price_limits = All-cons IsPrice 7 [] (omega arith, omega arith) (All-nil IsPrice);
  quantity_limits = All-cons (λ q. q ≤ 9999999) 12 [] (omega arith) (All-nil (λ q. q ≤ 9999999));
  bought = at_zero _ (omega arith);
  few_price_places = omega arith;
  few_quantity_places = omega arith;
  own_levels = inl refl;
}

plain : IsPlainTable text table
plain = record {
  lines = refl;
  ended = refl;
  header = header_a;
  records = at_zero _ record_a;
  within = within;
  price_scale = refl;
  quantity_scale = refl;
  no_levels = refl;
}

pub denoted : table_in text ≡ Ok table
denoted = plain_table text table plain
