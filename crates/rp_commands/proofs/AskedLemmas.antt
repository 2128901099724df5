-- For which names a line's files are read, from what each of its loaders says.
use Rattle.std.proofs.Common.{◌≡◌, ℕ, zero, suc, List, [], ◌∷◌, ◌++◌, Some, Option, Result, Ok, Err, IfOk, inl, inr, length, ap, sym, subst, refl, ◌∙◌, map, arith, append-nil, append_assoc}
use Rattle.rp_outside.specs.Asked.{AsksAtMostOnce, AsksOnce, Reads, reads_of}
use Rattle.rp_command_line.specs.CommandLine.{Line, files_of}
use Rattle.rp_commands.specs.Answers.{Files}
use Rattle.rp_commands.specs.AskedInTurn.{AreAskedInTurn, AreOfFirst, GrowsByFirst}
use Rattle.rp_commands.specs.Turns.{AreRefused}
use Rattle.rp_commands.proofs.TurnLemmas.{none_refused}

-- no reads are of any files
no_reads : (n : ℕ) (files : List (List ℕ)) → AreOfFirst n files []
no_reads zero files = refl
no_reads (suc n) [] = refl
no_reads (suc n) (file ∷ files) = inl refl

-- where nothing is asked for
stays_first : (before after : Option Reads) (files : List (List ℕ)) (n : ℕ) → ((reads : Reads) → before ≡ Some reads → after ≡ Some reads) → GrowsByFirst before after files n
stays_first before after files n stays reads is = ([], stays reads is ∙ ap Some (sym (append-nil reads)), no_reads n files)

pub unasked : (files : Files) (before : Option Reads) (line : Line) → AreAskedInTurn files before before line
unasked files before line = record {
  each_once = stays_first before before (files_of line) (length (files_of line)) (λ reads is. is);
  none_after_refused = λ n refused. stays_first before before (files_of line) n (λ reads is. is);
}

-- one file, and then others
asks_first : (before after : Option Reads) (file : List ℕ) (files : List (List ℕ)) (n : ℕ) → AsksAtMostOnce before after file → GrowsByFirst before after (file ∷ files) (suc n)
asks_first before after file files n once reads is = elim (once reads is) [
  | inl stays ↦ ([], stays ∙ ap Some (sym (append-nil reads)), inl refl)
  | inr (own, grown, read) ↦ (own, grown, inr (own, [], sym (append-nil own), read, no_reads n files))
]

asks_then : (before mid after : Option Reads) (file : List ℕ) (files : List (List ℕ)) (n : ℕ) → AsksOnce before mid file → GrowsByFirst mid after files n → GrowsByFirst before after (file ∷ files) (suc n)
asks_then before mid after file files n once later reads is =
    let first = once reads is in
    let more = later (reads ++ first.0) first.1 in
    (first.0 ++ more.0, more.1 ∙ ap Some (append_assoc reads first.0 more.0), inr (first.0, more.0, refl, first.2, more.2))

-- what holds anyway holds of a result
pub any_ok : {A E P : Type 0} (r : Result A E) → P → IfOk r (λ _. P)
any_ok (Ok value) holds = holds
any_ok (Err why) holds = tt

module _ (files : Files) (line : Line) (f : List ℕ) where
  -- the first file
  pub first_asked : (rest : List (List ℕ)) (before after : Option Reads) → files_of line ≡ f ∷ rest → AsksAtMostOnce before after f → AreAskedInTurn files before after line
  first_asked rest before after named once = record {
    each_once = subst (λ (names : List (List ℕ)). GrowsByFirst before after names (length names)) (sym named) (asks_first before after f rest (length rest) once);
    none_after_refused = λ n refused. subst (λ (names : List (List ℕ)). GrowsByFirst before after names n) (sym named) (stops n refused);
  }
    where
      stops : (n : ℕ) → AreRefused files line n → GrowsByFirst before after (f ∷ rest) n
      stops zero none = absurd (none_refused files line none)
      stops (suc n) refused = asks_first before after f rest n once

  -- the first two, of which the first was taken
  pub second_asked : (s : List ℕ) (rest : List (List ℕ)) (before mid after : Option Reads) → files_of line ≡ f ∷ s ∷ rest → AsksOnce before mid f → AsksAtMostOnce mid after s → (AreRefused files line 1 → ⊥)
      → AreAskedInTurn files before after line
  second_asked s rest before mid after named once also taken = record {
    each_once = subst (λ (names : List (List ℕ)). GrowsByFirst before after names (length names)) (sym named)
        (asks_then before mid after f (s ∷ rest) (suc (length rest)) once (asks_first mid after s rest (length rest) also));
    none_after_refused = λ n refused. subst (λ (names : List (List ℕ)). GrowsByFirst before after names n) (sym named) (stops n refused);
  }
    where
      stops : (n : ℕ) → AreRefused files line n → GrowsByFirst before after (f ∷ s ∷ rest) n
      stops zero none = absurd (none_refused files line none)
      stops (suc zero) refused = absurd (taken refused)
      stops (suc (suc n)) refused = asks_then before mid after f (s ∷ rest) (suc n) once (asks_first mid after s rest n also)

  -- all three, of which the first two were taken
  pub third_asked : (s t : List ℕ) (before mid then_mid after : Option Reads) → files_of line ≡ f ∷ s ∷ t ∷ [] → AsksOnce before mid f → AsksOnce mid then_mid s → AsksAtMostOnce then_mid after t
      → (AreRefused files line 1 → ⊥) → (AreRefused files line 2 → ⊥) → AreAskedInTurn files before after line
  third_asked s t before mid then_mid after named once also too taken then_taken = record {
    each_once = subst (λ (names : List (List ℕ)). GrowsByFirst before after names (length names)) (sym named) (all 0);
    none_after_refused = λ n refused. subst (λ (names : List (List ℕ)). GrowsByFirst before after names n) (sym named) (stops n refused);
  }
    where
      all : (n : ℕ) → GrowsByFirst before after (f ∷ s ∷ t ∷ []) (suc (suc (suc n)))
      all n = asks_then before mid after f (s ∷ t ∷ []) (suc (suc n)) once
          (asks_then mid then_mid after s (t ∷ []) (suc n) also (asks_first then_mid after t [] n too))

      stops : (n : ℕ) → AreRefused files line n → GrowsByFirst before after (f ∷ s ∷ t ∷ []) n
      stops zero none = absurd (none_refused files line none)
      stops (suc zero) refused = absurd (taken refused)
      stops (suc (suc zero)) refused = absurd (then_taken refused)
      stops (suc (suc (suc n))) refused = all n

-- the reads of the second of two files alone are not those of the first ones
second_alone : AreOfFirst 2 ((97 ∷ []) ∷ (98 ∷ []) ∷ []) ((98 ∷ [], 0) ∷ []) → ⊥
second_alone (inl none) = cc
second_alone (inr (own, rest, is, (places, own_is, rises), more)) =
    let all : ◌≡◌ {A = List (List ℕ × ℕ)} ((98 ∷ [], 0) ∷ []) (reads_of (97 ∷ []) (0 ∷ places) ++ rest) = is ∙ ap (λ reads. reads ++ rest) own_is in
    let names : ◌≡◌ {A = List (List ℕ)} ((98 ∷ []) ∷ []) ((97 ∷ []) ∷ map (λ read. read.0) (reads_of (97 ∷ []) places ++ rest)) = ap (map (λ read. read.0)) all in
    let same : ◌≡◌ {A = ℕ} 98 97 = cc in
    omega (arith, same)
