-- In which order a line's files are read, from what each of its loaders says.
use Rattle.std.proofs.Common.{◌≡◌, ◌⊎◌, ◌≤◌, ◌+◌, ℕ, zero, suc, Bool, List, [], ◌∷◌, Some, None, Option, Result, Ok, Err, inl, inr, length, sum, take, subst, arith, refl}
use Rattle.std.specs.List.{fold}
use Rattle.rp_outside.specs.Reads.{calls_through}
use Rattle.rp_command_line.specs.CommandLine.{Arguments, Line, file_set, files_of, takes_levels}
use Rattle.rp_command_line.specs.declared.commands.FileSet.{FileSet}
use Rattle.rp_command_line.specs.declared.commands.FileSet.TheVariants.{Nothing}
use Rattle.rp_commands.specs.Answers.{Files}
use Rattle.rp_commands.specs.InnerCauses.{HoldsValue}
use Rattle.rp_commands.specs.Contents.{Contents, ContentsIn}
use Rattle.rp_commands.specs.Readings.{AndThen, Just, Reading, WhereKnown}
use Rattle.rp_commands.specs.Turns.{AreReadInTurn, AreRefused, AsksForFirst, calls_of_files, first_known}

-- where the first file is not known, nothing is refused
none_known : (takes : Bool) (set : FileSet) (arguments : Arguments) (known : ℕ → Option (List ℕ)) (text : List ℕ) → known 0 ≡ None → ContentsIn takes set arguments known (Err text) → ⊥
none_known takes Nothing arguments known text is refused = cc
none_known takes _ arguments known text is (inl refused) = let no = rw is at refused in no
none_known takes _ arguments known text is (inr (value, taken, more)) = let no = rw is at taken in no

pub none_refused : (files : Files) (line : Line) → AreRefused files line 0 → ⊥
none_refused files line (text, refused) = none_known (takes_levels line) (file_set line) line.arguments (first_known files line 0) text refl refused

-- where nothing is asked for
pub unread : (files : Files) (count : ℕ) (line : Line) → AreReadInTurn files count count line
unread files count line = record { each_once = omega arith; none_after_refused = λ n refused. omega arith }

-- a file is known and refused, and it is known and has that value
abbrev pub IsKnownRefused : {A : Type 0} → Files → List ℕ → (List ℕ → Reading A) → Type 0
IsKnownRefused files file reading = (bytes : List ℕ) × (files file ≡ Some bytes) × ((text : List ℕ) × reading bytes (Err text))

abbrev pub IsKnownTaken : {A : Type 0} → Files → List ℕ → (List ℕ → Reading A) → A → Type 0
IsKnownTaken files file reading value = (bytes : List ℕ) × (files file ≡ Some bytes) × reading bytes (Ok value)

-- nothing is refused after a file that is not known
pub unknown : {A : Type 0} (reading : List ℕ → Reading A) (next : A → Reading Contents) (text : List ℕ) → AndThen (WhereKnown reading None) next (Err text) → ⊥
unknown reading next text (inl refused) = refused
unknown reading next text (inr (value, taken, more)) = taken

-- where nothing after it is refused, the file is known and refused
pub known_refused : {A : Type 0} (files : Files) (file : List ℕ) (reading : List ℕ → Reading A) (next : A → Reading Contents) (text : List ℕ) → ((value : A) → next value (Err text) → ⊥)
    → AndThen (WhereKnown reading (files file)) next (Err text) → IsKnownRefused files file reading
known_refused {A} files file reading next text later refused = go (files file) refl refused
  where
    go : (known : Option (List ℕ)) → files file ≡ known → AndThen (WhereKnown reading known) next (Err text) → IsKnownRefused files file reading
    go None is (inl refused) = absurd refused
    go None is (inr (value, taken, more)) = absurd taken
    go (Some bytes) is (inl refused) = (bytes, is, (text, refused))
    go (Some bytes) is (inr (value, taken, more)) = absurd (later value more)

-- else it is so, or it is known and taken and what comes next is refused
pub known_before : {A : Type 0} (files : Files) (file : List ℕ) (reading : List ℕ → Reading A) (next : A → Reading Contents) (text : List ℕ) → AndThen (WhereKnown reading (files file)) next (Err text)
    → IsKnownRefused files file reading ⊎ ((value : A) × IsKnownTaken files file reading value × next value (Err text))
known_before {A} files file reading next text refused = go (files file) refl refused
  where
    go : (known : Option (List ℕ)) → files file ≡ known → AndThen (WhereKnown reading known) next (Err text)
        → IsKnownRefused files file reading ⊎ ((value : A) × IsKnownTaken files file reading value × next value (Err text))
    go None is (inl refused) = absurd refused
    go None is (inr (value, taken, more)) = absurd taken
    go (Some bytes) is (inl refused) = inl (bytes, is, (text, refused))
    go (Some bytes) is (inr (value, taken, more)) = inr (value, (bytes, is, taken), more)

-- a file that is taken is not known and refused, where its bytes have one result
pub taken_apart : {A : Type 0} (files : Files) (file : List ℕ) (read : List ℕ → Result A (List ℕ)) (value : A) → HoldsValue files file (λ bytes. Just (read bytes)) value
    → IsKnownRefused files file (λ bytes. Just (read bytes)) → ⊥
taken_apart files file read value (bytes, content, is) (known, has, (text, refused)) =
    let also = subst (λ b. Just (read b) (Ok value)) (content known has) is in cc

-- and so is a second, by what the first has
pub second_apart : {A B : Type 0} (files : Files) (f s : List ℕ) (read : List ℕ → Result A (List ℕ)) (then_read : A → List ℕ → Result B (List ℕ)) (a : A) (b : B)
    → HoldsValue files f (λ bytes. Just (read bytes)) a → HoldsValue files s (λ bytes. Just (then_read a bytes)) b
    → (x : A) × IsKnownTaken files f (λ bytes. Just (read bytes)) x × IsKnownRefused files s (λ bytes. Just (then_read x bytes)) → ⊥
second_apart files f s read then_read a b (bytes, content, is) held (x, (known, has, taken), refused) =
    let also = subst (λ b. Just (read b) (Ok a)) (content known has) is in
    let same : x ≡ a = cc in
    taken_apart files s (then_read a) b held (subst (λ y. IsKnownRefused files s (λ bytes. Just (then_read y bytes))) same refused)

-- what is summed from a number on is no less than it
no_less : (xs : List ℕ) (n : ℕ) → n ≤ fold ◌+◌ n xs
no_less [] n = omega arith
no_less (x ∷ xs) n = let more = no_less xs (n + x) in omega (arith, more)

module _ (files : Files) (line : Line) (a : ℕ) (rest : List ℕ) (each : calls_of_files files line ≡ a ∷ rest) where
  -- the first file, read through
  pub asks_one : (before after : ℕ) → after ≤ before + a → AsksForFirst files before after line 1
  asks_one before after once = rw each (omega (arith, once))

  first_of : (before after : ℕ) → after ≤ before + a → (n : ℕ) → after ≤ before + sum (take (suc n) (a ∷ rest))
  first_of before after once n =
      let first : 0 + a ≤ sum (take (suc n) (a ∷ rest)) = no_less (take n rest) (0 + a) in
      omega (arith, once, first)

  pub first_turn : (before after n : ℕ) → length (files_of line) ≡ suc n → after ≤ before + a → AreReadInTurn files before after line
  first_turn before after n count once = record { each_once = rw (each, count) (first_of before after once n); none_after_refused = stops }
    where
      stops : (k : ℕ) → AreRefused files line k → AsksForFirst files before after line k
      stops zero none = absurd (none_refused files line none)
      stops (suc k) refused = rw each (first_of before after once k)

module _ (files : Files) (line : Line) (a b : ℕ) (rest : List ℕ) (each : calls_of_files files line ≡ a ∷ b ∷ rest) where
  -- the first two files
  pub asks_two : (before mid after : ℕ) → mid ≤ before + a → after ≤ mid + b → AsksForFirst files before after line 2
  asks_two before mid after once also = rw each (omega (arith, once, also))

  second_of : (before mid after : ℕ) → mid ≤ before + a → after ≤ mid + b → (n : ℕ) → after ≤ before + sum (take (suc (suc n)) (a ∷ b ∷ rest))
  second_of before mid after once also n =
      let first : 0 + a + b ≤ sum (take (suc (suc n)) (a ∷ b ∷ rest)) = no_less (take n rest) (0 + a + b) in
      omega (arith, once, also, first)

  pub second_turn : (before mid after n : ℕ) → length (files_of line) ≡ suc (suc n) → mid ≤ before + a → after ≤ mid + b → (AreRefused files line 1 → ⊥) → AreReadInTurn files before after line
  second_turn before mid after n count once also taken = record { each_once = rw (each, count) (second_of before mid after once also n); none_after_refused = stops }
    where
      stops : (k : ℕ) → AreRefused files line k → AsksForFirst files before after line k
      stops zero none = absurd (none_refused files line none)
      stops (suc zero) refused = absurd (taken refused)
      stops (suc (suc k)) refused = rw each (second_of before mid after once also k)

module _ (files : Files) (line : Line) (a b c : ℕ) (rest : List ℕ) (each : calls_of_files files line ≡ a ∷ b ∷ c ∷ rest) where
  -- all three files
  pub asks_three : (before mid then_mid after : ℕ) → mid ≤ before + a → then_mid ≤ mid + b → after ≤ then_mid + c → AsksForFirst files before after line 3
  asks_three before mid then_mid after once also too = rw each (omega (arith, once, also, too))

  third_of : (before mid then_mid after : ℕ) → mid ≤ before + a → then_mid ≤ mid + b → after ≤ then_mid + c → (n : ℕ) → after ≤ before + sum (take (suc (suc (suc n))) (a ∷ b ∷ c ∷ rest))
  third_of before mid then_mid after once also too n =
      let first : 0 + a + b + c ≤ sum (take (suc (suc (suc n))) (a ∷ b ∷ c ∷ rest)) = no_less (take n rest) (0 + a + b + c) in
      omega (arith, once, also, too, first)

  pub third_turn : (before mid then_mid after : ℕ) → length (files_of line) ≡ 3 → mid ≤ before + a → then_mid ≤ mid + b → after ≤ then_mid + c
      → (AreRefused files line 1 → ⊥) → (AreRefused files line 2 → ⊥) → AreReadInTurn files before after line
  third_turn before mid then_mid after count once also too taken then_taken = record { each_once = rw (each, count) (omega (arith, once, also, too)); none_after_refused = stops }
    where
      stops : (k : ℕ) → AreRefused files line k → AsksForFirst files before after line k
      stops zero none = absurd (none_refused files line none)
      stops (suc zero) refused = absurd (taken refused)
      stops (suc (suc zero)) refused = absurd (then_taken refused)
      stops (suc (suc (suc k))) refused = rw each (third_of before mid then_mid after once also too k)

-- the calls for a file, for files of the same contents
pub calls_later : (files later : Files) (file : List ℕ) (limit before after : ℕ) → later file ≡ files file → after ≤ before + calls_through limit (later file) → after ≤ before + calls_through limit (files file)
calls_later files later file limit before after same most = subst (λ known. after ≤ before + calls_through limit known) same most
