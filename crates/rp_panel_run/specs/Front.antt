-- The program of panels, as `run_program` of rp_front has it: the relations over the bytes of its files, of which the
-- long one is the first and that of new prices the second.
use Rattle.std.specs.Prelude.{◌≡◌, ◌⊎◌, ℕ, List, [], ◌∷◌, codes, Option, None, Some}
use Rattle.rp_bound_rows.specs.declared.asked.BoundsAsked.{BoundsAsked}
use Rattle.rp_front.specs.Meaning.{Meaning}
use Rattle.rp_front.specs.declared.status.Status.{Status}
use Rattle.rp_front.specs.declared.status.Status.TheVariants as status
use Rattle.rp_limits.specs.declared.long.TheConstants.{BYTES}
use Rattle.rp_limits.specs.declared.run.TheConstants.{MOST_BYTES}
use Rattle.rp_panel_run.specs.Endings.{AreAccepted, Contents, IsLongRefusal, IsNewTooLong, IsTextOf}
use Rattle.rp_panel_run.specs.Questions.{Asking, asking_in, files_of}
use Rattle.rp_panel_run.specs.Told.{usage_line}
use Rattle.rp_panel_run.specs.declared.status.Status.{Status as Own}
use Rattle.rp_panel_run.specs.declared.status.Status.TheVariants as own

-- the most bytes of each file
abbrev pub new_limits : Option BoundsAsked → List ℕ
new_limits None = []
new_limits (Some asked) = MOST_BYTES ∷ []

abbrev pub limits_of : Asking → List ℕ
limits_of a = BYTES ∷ new_limits a.bounds

-- what files of these bytes hold
abbrev pub held_of : (ℕ → List ℕ) → Contents
held_of bytes = record { long = bytes 0; new = bytes 1 }

-- what is known of the long file is refused with this line, and what is known of both
abbrev pub IsKnownLongRefusal : Asking → Option (List ℕ) → List ℕ → Type 0
IsKnownLongRefusal a None line = ⊥
IsKnownLongRefusal a (Some long) line = IsLongRefusal a long line

abbrev pub IsKnownNewRefusal : Asking → Option (List ℕ) → Option (List ℕ) → List ℕ → Type 0
IsKnownNewRefusal a (Some long) (Some new) line = IsNewTooLong a (record { long = long; new = new }) line
IsKnownNewRefusal a _ _ line = ⊥

abbrev pub panels : Meaning
panels = record {
  Asked = Asking;
  name = codes "rp-panel";
  usage = usage_line;
  asked_in = asking_in;
  files_of = files_of;
  limits_of = limits_of;
  answers = λ a bytes s text told. (s ≡ status.Done) × IsTextOf a (held_of bytes) text told;
  accepts = λ a bytes. AreAccepted a (held_of bytes);
  refuses = λ a known line. IsKnownLongRefusal a (known 0) line ⊎ IsKnownNewRefusal a (known 0) (known 1) line;
}

-- a status of this program, as the front has it
abbrev pub front_status : Own → Status
front_status own.Done = status.Done
front_status own.Usage = status.Usage
front_status own.ReadFault = status.ReadFault
front_status own.Refused = status.Refused
front_status own.WriteFault = status.WriteFault
front_status own.NoMemory = status.NoMemory
