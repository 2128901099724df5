-- The files of a line by its set of files, the calls to read them through, and that its unit is in range.
use Rattle.std.proofs.Common.{◌≡◌, ◌∙◌, ℕ, List, [], ◌∷◌, length, refl, ap, slice_index_or}
use Rattle.rp_command_line.specs.CommandLine.{Line, file_at, file_set, files_of}
use Rattle.rp_command_line.specs.CommandLine.{file_names, files_in}
use Rattle.rp_command_line.specs.Ranges.{IsSized}
use Rattle.rp_command_line.specs.declared.commands.FileSet.{FileSet}
use Rattle.rp_commands.specs.Answers.{Files}
use Rattle.rp_commands.specs.Turns.{calls_of_each, calls_of_files}

-- a list of one, two or three names
no_names : (xs : List (List ℕ)) → length xs ≡ 0 → xs ≡ []
no_names [] is = refl
no_names (x ∷ xs) is = cc

one_name : (xs : List (List ℕ)) → length xs ≡ 1 → xs ≡ slice_index_or xs 0 [] ∷ []
one_name [] is = cc
one_name (x ∷ []) is = refl
one_name (x ∷ y ∷ xs) is = cc

two_names : (xs : List (List ℕ)) → length xs ≡ 2 → xs ≡ slice_index_or xs 0 [] ∷ slice_index_or xs 1 [] ∷ []
two_names [] is = cc
two_names (x ∷ []) is = cc
two_names (x ∷ y ∷ []) is = refl
two_names (x ∷ y ∷ z ∷ xs) is = cc

three_names : (xs : List (List ℕ)) → length xs ≡ 3 → xs ≡ slice_index_or xs 0 [] ∷ slice_index_or xs 1 [] ∷ slice_index_or xs 2 [] ∷ []
three_names [] is = cc
three_names (x ∷ []) is = cc
three_names (x ∷ y ∷ []) is = cc
three_names (x ∷ y ∷ z ∷ []) is = refl
three_names (x ∷ y ∷ z ∷ w ∷ xs) is = cc

module _ (line : Line) (set : FileSet) (holds : file_set line ≡ set) (sized : IsSized line) where
  count : (n : ℕ) → length (file_names set) ≡ n → length (files_of line) ≡ n
  count n is = sized.files ∙ ap (λ s. length (file_names s)) holds ∙ is

  pub none_named : length (file_names set) ≡ 0 → files_of line ≡ []
  none_named is = no_names (files_of line) (count 0 is)

  pub one_named : length (file_names set) ≡ 1 → files_of line ≡ file_at line 0 ∷ []
  one_named is = one_name (files_of line) (count 1 is)

  pub two_named : length (file_names set) ≡ 2 → files_of line ≡ file_at line 0 ∷ file_at line 1 ∷ []
  two_named is = two_names (files_of line) (count 2 is)

  pub three_named : length (file_names set) ≡ 3 → files_of line ≡ file_at line 0 ∷ file_at line 1 ∷ file_at line 2 ∷ []
  three_named is = three_names (files_of line) (count 3 is)

  -- the calls to read them through
  pub calls_are : (files : Files) (names : List (List ℕ)) → files_of line ≡ names → calls_of_files files line ≡ calls_of_each files (files_in set) names
  calls_are files names named =
      ap (λ (s : FileSet). calls_of_each files (files_in s) (files_of line)) holds
      ∙ ap (calls_of_each files (files_in set)) named
