-- What a program answers to its words over files, whose bytes are known or not known: where they are, the content is
-- these bytes (this project's own).
use Rattle.std.specs.Prelude.{◌≡◌, ℕ, ◌<◌, nat_lt, if◌then◌else◌, List, [], Option, None, Some, get_or, length}
use Rattle.rp_outside.specs.Known.{AreAll}
use Rattle.rp_front.specs.Meaning.{Meaning}
use Rattle.rp_front.specs.declared.status.Status.{Status}

-- the bytes of each file, where they are known
abbrev pub Files : Type 0
Files = List ℕ → Option (List ℕ)

-- the k-th file of what is asked, from 0
abbrev pub file_at : (m : Meaning) → m.Asked → ℕ → List ℕ
file_at m a k = get_or (m.files_of a) k []

-- the first n files of what is asked may hold these bytes, each its own: where its bytes are known, these are they
abbrev pub AreFirstContents : (m : Meaning) → Files → m.Asked → ℕ → (ℕ → List ℕ) → Type 0
AreFirstContents m files a n bytes = (k : ℕ) → k < n → AreAll (files (file_at m a k)) (bytes k)

-- all files of what is asked may
abbrev pub AreContents : (m : Meaning) → Files → m.Asked → (ℕ → List ℕ) → Type 0
AreContents m files a bytes = AreFirstContents m files a (length (m.files_of a)) bytes

-- this status, this text and what is told are the answer, over some content of the files
abbrev pub AnswersWith : (m : Meaning) → Files → m.Asked → Status → List ℕ → List ℕ → Type 0
AnswersWith m files a s text told = (bytes : ℕ → List ℕ) × AreContents m files a bytes × m.answers a bytes s text told

-- some content of the files is refused with this line
abbrev pub RefusesWith : (m : Meaning) → Files → m.Asked → List ℕ → Type 0
RefusesWith m files a line =
    (bytes : ℕ → List ℕ) × AreContents m files a bytes × m.refuses a (λ k. Some (bytes k)) line

-- nothing refuses the files, whatever they may hold
abbrev pub IsAccepted : (m : Meaning) → Files → m.Asked → Type 0
IsAccepted m files a = (bytes : ℕ → List ℕ) → AreContents m files a bytes → m.accepts a bytes

-- they are refused, whatever they may hold
abbrev pub IsRefused : (m : Meaning) → Files → m.Asked → Type 0
IsRefused m files a = (bytes : ℕ → List ℕ) → AreContents m files a bytes
    → (line : List ℕ) × m.refuses a (λ k. Some (bytes k)) line

-- these bytes of the first n files, and nothing of the others
abbrev pub first_of : (ℕ → List ℕ) → ℕ → ℕ → Option (List ℕ)
first_of bytes n k = if nat_lt k n then Some (bytes k) else None

-- the k-th file is asked for, after some content of those before it which nothing refuses
abbrev pub ReadsOn : (m : Meaning) → Files → m.Asked → ℕ → Type 0
ReadsOn m files a k = (bytes : ℕ → List ℕ) × AreFirstContents m files a k bytes
    × ((line : List ℕ) → ¬ m.refuses a (first_of bytes k) line)

-- the bytes of the first n files, as far as they are known
abbrev pub first_known : (m : Meaning) → Files → m.Asked → ℕ → ℕ → Option (List ℕ)
first_known m files a n k = if nat_lt k n then files (file_at m a k) else None

-- what is known of the first n files is refused, whatever the others hold
abbrev pub AreRefused : (m : Meaning) → Files → m.Asked → ℕ → Type 0
AreRefused m files a n = (line : List ℕ) × m.refuses a (first_known m files a n) line

-- some words ask for this
abbrev pub IsAskedFor : (m : Meaning) → m.Asked → Type 0
IsAskedFor m a = (words : List (List ℕ)) × (m.asked_in words ≡ Some a)
