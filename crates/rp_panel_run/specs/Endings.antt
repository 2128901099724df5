-- What the program prints for its words over a long file and a file of new prices, and what these are refused for.
use Rattle.std.specs.Prelude.{◌≡◌, ◌≢◌, ℕ, ◌<◌, ◌≤◌, ◌⊎◌, Bool, Contains, List, length, codes, Option, None, Some, Ok, Err}
use Rattle.std.specs.Prelude.{if◌then◌else◌}
use Rattle.rp_guide.specs.Gains.{IsPageGiven, SinkChange}
use Rattle.rp_bound_rows.specs.declared.asked.BoundsAsked.{BoundsAsked}
use Rattle.rp_bounds_panel.specs.BoundsText.{IsBoundsText}
use Rattle.rp_limits.specs.declared.long.TheConstants.{BYTES}
use Rattle.rp_limits.specs.declared.run.TheConstants.{MOST_BYTES}
use Rattle.rp_outside.specs.Faults.{HasRisen}
use Rattle.rp_outside.specs.Known.{AreAll}
use Rattle.rp_long.specs.Panels.{Panel, panel_in}
use Rattle.rp_long.specs.declared.fault.LongFault.{LongFault}
use Rattle.rp_panel.specs.PanelText.{IsPanelText}
use Rattle.rp_panel_run.specs.Questions.{Asking, demand_by, files_of, given_by, id_name, more_asked, welfare_by}
use Rattle.rp_panel_run.specs.Told.{file_line, left_out_lines, long_fault_text, unread_line, write_line}
use Rattle.rp_panel_run.specs.declared.status.Status.{Status}
use Rattle.rp_panel_run.specs.declared.status.Status.TheVariants as status

-- the bytes under each name, where they are known
abbrev pub Files : Type 0
Files = List ℕ → Option (List ℕ)

-- bytes of the files of a question: of the long file, and of the file of new prices, which count where bounds are asked
pub record Contents : Type 0 where
  pub long : List ℕ
  pub new : List ℕ

-- the files of a question may hold these bytes, each its own: where the bytes of a file are known, these are they
pub record AreContents (a : Asking) (files : Files) (held : Contents) : Type 0 where
  pub long : AreAll (files a.file) held.long
  pub new : a.bounds ≢ None → AreAll (files a.new_prices) held.new

-- the bytes of the long file are few enough and denote a panel
pub record IsPanelFile (a : Asking) (bytes : List ℕ) : Type 0 where
  pub few : length bytes ≤ BYTES
  pub panel : Panel
  pub denoted : panel_in (id_name a) a.kept bytes ≡ Ok panel

-- the bytes of the file of new prices are few enough, and this is the text of the bounds at them
pub record AreBoundsAt (a : Asking) (asked : BoundsAsked) (panel : Panel) (text new : List ℕ) : Type 0 where
  pub few : length new ≤ MOST_BYTES
  pub is_text : IsBoundsText (demand_by a.wide) (welfare_by a.wide) asked new a.kept panel text

-- the text for a panel: that of its rows, or of the bounds that are asked at new prices
abbrev pub IsTextBy : Option BoundsAsked → Asking → List ℕ → Panel → List ℕ → Type 0
IsTextBy None a new panel text = IsPanelText (given_by a.wide) (more_asked a) a.offered a.kept panel text
IsTextBy (Some asked) a new panel text = AreBoundsAt a asked panel text new

-- the text for a panel, and what is told of it: a line for each column that is left out
pub record IsAnswerFor (a : Asking) (new : List ℕ) (panel : Panel) (text told : List ℕ) : Type 0 where
  pub is_text : IsTextBy a.bounds a new panel text
  pub is_told : told ≡ left_out_lines panel.left_out

-- the bytes of the long file are few enough and denote a panel, and this is the answer for it
pub record IsTextOf (a : Asking) (held : Contents) (text told : List ℕ) : Type 0 where
  pub few : length held.long ≤ BYTES
  pub panel : Panel
  pub denoted : panel_in (id_name a) a.kept held.long ≡ Ok panel
  pub answers : IsAnswerFor a held.new panel text told

-- the bytes of the long file are too many, and this line tells it
pub record IsTooLong (a : Asking) (bytes line : List ℕ) : Type 0 where
  pub many : BYTES < length bytes
  pub tells : line ≡ file_line a.file (codes "TooLong")

-- its bytes are few enough and denote no panel, and this line tells their first fault
pub record HasFault (a : Asking) (bytes line : List ℕ) : Type 0 where
  pub few : length bytes ≤ BYTES
  pub fault : LongFault
  pub denoted : panel_in (id_name a) a.kept bytes ≡ Err fault
  pub tells : line ≡ file_line a.file (long_fault_text fault)

-- the long file is refused with this line
abbrev pub IsLongRefusal : Asking → List ℕ → List ℕ → Type 0
IsLongRefusal a bytes line = IsTooLong a bytes line ⊎ HasFault a bytes line

-- bounds are asked, the long file is accepted, and the file of new prices has too many bytes, which this line tells
pub record IsNewTooLong (a : Asking) (held : Contents) (line : List ℕ) : Type 0 where
  pub asked : a.bounds ≢ None
  pub accepted : IsPanelFile a held.long
  pub many : MOST_BYTES < length held.new
  pub tells : line ≡ file_line a.new_prices (codes "TooLong")

-- files with these bytes are refused with this line
abbrev pub IsRefusal : Asking → Contents → List ℕ → Type 0
IsRefusal a held line = IsLongRefusal a held.long line ⊎ IsNewTooLong a held line

-- the text, and what is told, answer a question over some content of its files
abbrev pub AnswersWith : Asking → Files → List ℕ → List ℕ → Type 0
AnswersWith a files text told = (held : Contents) × AreContents a files held × IsTextOf a held text told

-- some content of its files is refused with this line
abbrev pub RefusesWith : Asking → Files → List ℕ → Type 0
RefusesWith a files line = (held : Contents) × AreContents a files held × IsRefusal a held line

-- files with these bytes are accepted: the long one, and where bounds are asked that of new prices
pub record AreAccepted (a : Asking) (held : Contents) : Type 0 where
  pub long : IsPanelFile a held.long
  pub new : a.bounds ≢ None → length held.new ≤ MOST_BYTES

-- nothing refuses the files of a question, whatever they may hold
abbrev pub IsAccepted : Asking → Files → Type 0
IsAccepted a files = (held : Contents) → AreContents a files held → AreAccepted a held

-- they are refused, whatever they may hold
abbrev pub IsRefused : Asking → Files → Type 0
IsRefused a files = (held : Contents) → AreContents a files held → (line : List ℕ) × IsRefusal a held line

-- the count of faults of a file has risen, and this line tells that it could not be read
pub record IsUnreadFile (name : List ℕ) (before after : List ℕ → ℕ) (line : List ℕ) : Type 0 where
  pub risen : HasRisen (before name) (after name)
  pub tells : line ≡ unread_line name

-- the same of the file of new prices, where bounds are asked and some content of the long file is accepted
pub record IsNewUnread (a : Asking) (files : Files) (before after : List ℕ → ℕ) (line : List ℕ) : Type 0 where
  pub asked : a.bounds ≢ None
  pub long : List ℕ
  pub content : AreAll (files a.file) long
  pub accepted : IsPanelFile a long
  pub unread : IsUnreadFile a.new_prices before after line

-- a file that is asked for could not be read
abbrev pub IsUnread : Asking → Files → (List ℕ → ℕ) → (List ℕ → ℕ) → List ℕ → Type 0
IsUnread a files before after line =
    IsUnreadFile a.file before after line ⊎ IsNewUnread a files before after line

-- of no file that is asked for has the count of faults risen
abbrev pub NoneRose : Asking → (List ℕ → ℕ) → (List ℕ → ℕ) → Type 0
NoneRose a before after = (file : List ℕ) → Contains (files_of a) file → ¬ HasRisen (before file) (after file)

-- the number of each status
abbrev pub status_number : Status → ℕ
status_number status.Done = 0
status_number status.Usage = 2
status_number status.ReadFault = 3
status_number status.Refused = 4
status_number status.WriteFault = 5
status_number status.NoMemory = 6

-- a page answers the words, or could not be written whole
abbrev pub GivesPage : List ℕ → Status → SinkChange → SinkChange → Type 0
GivesPage text result out err = (done : Bool) × (result ≡ (if done then status.Done else status.WriteFault))
    × IsPageGiven text write_line done out err
