-- What a sink gains from a text that it may fail to take whole, and a page that is written.
use Rattle.std.specs.Prelude.{◌≡◌, ◌≤◌, ◌++◌, ℕ, ◌⊎◌, Bool, true, false, List, Option, codes}
use Rattle.rp_guide.specs.Hints.{hint_line}
use Rattle.rp_outside.specs.Faults.{HasRisen}
use Rattle.rp_outside.specs.Known.{Grows, GrowsByPrefix, Stays}

-- known bytes grow by all of the text, or by some of it from its front where the count of faults has risen
abbrev pub Gains : Option (List ℕ) → Option (List ℕ) → ℕ → ℕ → List ℕ → Type 0
Gains old new before after text = Grows old new text ⊎ (GrowsByPrefix old new text × HasRisen before after)

-- the known bytes of a sink, and its count of faults, before a call and after it
pub record SinkChange : Type 0 where
  pub old : Option (List ℕ)
  pub new : Option (List ℕ)
  pub before : ℕ
  pub after : ℕ

abbrev pub GainsText : SinkChange → List ℕ → Type 0
GainsText sink text = Gains sink.old sink.new sink.before sink.after text

-- a page is written whole and nothing is told; or some of it is, from its front, and that line is told with its hint
pub record IsPageGiven (text line : List ℕ) (done : Bool) (out err : SinkChange) : Type 0 where
  pub whole : done ≡ true → Grows out.old out.new text × Stays err.old err.new
  pub part : done ≡ false → GrowsByPrefix out.old out.new text × HasRisen out.before out.after
      × GainsText err (line ++ hint_line (codes "WriteFault"))
  pub faults_of_out : out.before ≤ out.after
  pub faults_of_err : err.before ≤ err.after
