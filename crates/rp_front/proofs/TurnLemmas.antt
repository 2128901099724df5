-- In which order the files of what is asked are read, from what the loader of each says. A program's proof takes from
-- here what it says of its turns.
use Rattle.std.proofs.Common.{◌≡◌, ◌≤◌, ◌+◌, ℕ, zero, suc, List, [], ◌∷◌, ◌++◌, None, Some, Option, inl, inr, length, sum, take, sym, subst, ap, ◌∙◌, arith, refl, append-nil, append_assoc}
use Rattle.std.specs.List.{fold}
use Rattle.rp_outside.specs.Asked.{AsksAtMostOnce, AsksOnce, Reads}
use Rattle.rp_front.specs.AskedInTurn.{AreAskedInTurn, GrowsByFirst}
use Rattle.rp_front.specs.Contents.{AreRefused, Files}
use Rattle.rp_front.specs.Meaning.{Meaning}
use Rattle.rp_front.specs.Turns.{AreReadInTurn, AsksForFirst, calls_of_files}
use Rattle.rp_front.proofs.RunLemmas.{no_reads}

-- what is summed from a number on is no less than it
pub no_less : (xs : List ℕ) (n : ℕ) → n ≤ fold ◌+◌ n xs
no_less [] n = omega arith
no_less (x ∷ xs) n = let more = no_less xs (n + x) in omega (arith, more)

-- one file, and then others
pub asks_first : (before after : Option Reads) (file : List ℕ) (files : List (List ℕ)) (n : ℕ) → AsksAtMostOnce before after file → GrowsByFirst before after (file ∷ files) (suc n)
asks_first before after file files n once reads is = elim (once reads is) [
  | inl stays ↦ ([], stays ∙ ap Some (sym (append-nil reads)), inl refl)
  | inr (own, grown, read) ↦ (own, grown, inr (own, [], sym (append-nil own), read, no_reads n files))
]

pub asks_then : (before mid after : Option Reads) (file : List ℕ) (files : List (List ℕ)) (n : ℕ) → AsksOnce before mid file → GrowsByFirst mid after files n → GrowsByFirst before after (file ∷ files) (suc n)
asks_then before mid after file files n once later reads is =
    let first = once reads is in
    let more = later (reads ++ first.0) first.1 in
    (first.0 ++ more.0, more.1 ∙ ap Some (append_assoc reads first.0 more.0), inr (first.0, more.0, refl, first.2, more.2))

module _ (m : Meaning) (starts : (b : m.Asked) (known : ℕ → Option (List ℕ)) (line : List ℕ) → known 0 ≡ None → m.refuses b known line → ⊥) (files : Files) (a : m.Asked) where
  none_refused : AreRefused m files a 0 → ⊥
  none_refused (line, refused) = starts a _ line refl refused

  module _ (c : ℕ) (rest : List ℕ) (each : calls_of_files m files a ≡ c ∷ rest) where
    -- the first file, read through
    pub asks_one : (before after : ℕ) → after ≤ before + c → AsksForFirst m files before after a 1
    asks_one before after once = rw each (omega (arith, once))

    first_of : (before after : ℕ) → after ≤ before + c → (n : ℕ) → after ≤ before + sum (take (suc n) (c ∷ rest))
    first_of before after once n =
        let first : 0 + c ≤ sum (take (suc n) (c ∷ rest)) = no_less (take n rest) (0 + c) in
        omega (arith, once, first)

    pub first_turn : (before after n : ℕ) → length (m.files_of a) ≡ suc n → after ≤ before + c → AreReadInTurn m files before after a
    first_turn before after n count once = record { each_once = rw (each, count) (first_of before after once n); none_after_refused = stops }
      where
        stops : (k : ℕ) → AreRefused m files a k → AsksForFirst m files before after a k
        stops zero none = absurd (none_refused none)
        stops (suc k) refused = rw each (first_of before after once k)

  module _ (c d : ℕ) (rest : List ℕ) (each : calls_of_files m files a ≡ c ∷ d ∷ rest) where
    -- the first two files
    pub asks_two : (before mid after : ℕ) → mid ≤ before + c → after ≤ mid + d → AsksForFirst m files before after a 2
    asks_two before mid after once also = rw each (omega (arith, once, also))

    second_of : (before mid after : ℕ) → mid ≤ before + c → after ≤ mid + d → (n : ℕ) → after ≤ before + sum (take (suc (suc n)) (c ∷ d ∷ rest))
    second_of before mid after once also n =
        let first : 0 + c + d ≤ sum (take (suc (suc n)) (c ∷ d ∷ rest)) = no_less (take n rest) (0 + c + d) in
        omega (arith, once, also, first)

    pub second_turn : (before mid after n : ℕ) → length (m.files_of a) ≡ suc (suc n) → mid ≤ before + c → after ≤ mid + d → (AreRefused m files a 1 → ⊥) → AreReadInTurn m files before after a
    second_turn before mid after n count once also taken = record { each_once = rw (each, count) (second_of before mid after once also n); none_after_refused = stops }
      where
        stops : (k : ℕ) → AreRefused m files a k → AsksForFirst m files before after a k
        stops zero none = absurd (none_refused none)
        stops (suc zero) refused = absurd (taken refused)
        stops (suc (suc k)) refused = rw each (second_of before mid after once also k)

  module _ (f : List ℕ) where
    -- the reads of the first file
    pub first_asked : (rest : List (List ℕ)) (before after : Option Reads) → m.files_of a ≡ f ∷ rest → AsksAtMostOnce before after f → AreAskedInTurn m files before after a
    first_asked rest before after named once = record {
      each_once = subst (λ (names : List (List ℕ)). GrowsByFirst before after names (length names)) (sym named) (asks_first before after f rest (length rest) once);
      none_after_refused = λ n refused. subst (λ (names : List (List ℕ)). GrowsByFirst before after names n) (sym named) (stops n refused);
    }
      where
        stops : (n : ℕ) → AreRefused m files a n → GrowsByFirst before after (f ∷ rest) n
        stops zero none = absurd (none_refused none)
        stops (suc n) refused = asks_first before after f rest n once

    -- those of the first two, of which the first was taken
    pub second_asked : (s : List ℕ) (rest : List (List ℕ)) (before mid after : Option Reads) → m.files_of a ≡ f ∷ s ∷ rest → AsksOnce before mid f → AsksAtMostOnce mid after s → (AreRefused m files a 1 → ⊥)
        → AreAskedInTurn m files before after a
    second_asked s rest before mid after named once also taken = record {
      each_once = subst (λ (names : List (List ℕ)). GrowsByFirst before after names (length names)) (sym named)
          (asks_then before mid after f (s ∷ rest) (suc (length rest)) once (asks_first mid after s rest (length rest) also));
      none_after_refused = λ n refused. subst (λ (names : List (List ℕ)). GrowsByFirst before after names n) (sym named) (stops n refused);
    }
      where
        stops : (n : ℕ) → AreRefused m files a n → GrowsByFirst before after (f ∷ s ∷ rest) n
        stops zero none = absurd (none_refused none)
        stops (suc zero) refused = absurd (taken refused)
        stops (suc (suc n)) refused = asks_then before mid after f (s ∷ rest) (suc n) once (asks_first mid after s rest n also)
