-- The states that a controller stands for, and the promise of a call and of a run for each of them.
use Rattle.std.specs.Prelude.{◌≡◌, ℕ, ◌<◌, ◌≤◌, min, List, [], ◌∷◌, map, length, drop, Ok, Err, Result}
use Rattle.signals.specs.Kind.{Kind}
use Rattle.instructions.specs.declared.report.ShortBuffer.{ShortBuffer}
use Rattle.programs.specs.Programs.{held}
use Rattle.scanning.specs.Listings.{Listings}
use Rattle.controller.specs.declared.call.Call.{Call}
use Rattle.controller.specs.declared.call.Call.TheVariants.{InstallCard, InstallListing, SetInput, ReadPoint, Scan, WriteListing, WriteStatus}
use Rattle.controller.specs.declared.call.Answer.{Answer}
use Rattle.controller.specs.declared.controller.Controller.{Controller}
use Rattle.controller.specs.Promise.{Origin, from_card, from-listing, words_of, State, Happens, Run}
use Rattle.controller.specs.Runs.{Event, NoScan, NoChange, NoWriting, Throughout, LastInstalled}

-- a program from a card has the listings of its rungs as words
abbrev pub ListedRight : Origin → Type 0
ListedRight (from_card cs words) = Listings cs words
ListedRight (from-listing words) = Unit {0}

-- a controller and lent bytes stand for a state: the points that its bank means, and a program with the words that it holds
pub record Stands {B S : Type 0} (points : B → List S) (c : Controller B S) (buffer : List ℕ) (s : State S) : Type 0 where
  pub points_are : s.points ≡ points c.bank
  pub words_are : words_of s.program ≡ held c.program
  pub listed : ListedRight s.program
  pub bytes_are : s.buffer ≡ buffer

-- a call on a controller and lent bytes: from every state that they stand for it happens, and they stand for the state that it leads to
abbrev pub Step : {B S : Type 0} → Kind S → (B → List S) → Controller B S → List ℕ → Call S → Answer S → Controller B S → List ℕ → Type 0
Step {S = S} k points c buffer call answer c' buffer' = (s : State S) → Stands points c buffer s → (t : State S) × Happens k s call answer t × Stands points c' buffer' t

-- a call that is lent no bytes: any bytes stay
abbrev pub DryStep : {B S : Type 0} → Kind S → (B → List S) → Controller B S → Call S → Answer S → Controller B S → Type 0
DryStep k points c call answer c' = (buffer : List ℕ) → Step k points c buffer call answer c' buffer

-- a call that is lent so many of some working signals and of some bytes, or all that there are
abbrev pub lending : {S : Type 0} → ℕ → ℕ → Call S → Call S
lending signals bytes (InstallCard card) = InstallCard card
lending signals bytes (InstallListing listing) = InstallListing listing
lending signals bytes (SetInput n x) = SetInput n x
lending signals bytes (ReadPoint i) = ReadPoint i
lending signals bytes (Scan n) = Scan (min n signals)
lending signals bytes (WriteListing n) = WriteListing (min n bytes)
lending signals bytes (WriteStatus n) = WriteStatus (min n bytes)

-- calls with their answers, as far as both go
abbrev pub paired : {X Y : Type 0} → List X → List Y → List (X × Y)
paired [] ys = []
paired (x ∷ xs) [] = []
paired (x ∷ xs) (y ∷ ys) = (x, y) ∷ paired xs ys

-- the events of calls that are lent these working signals and these bytes
abbrev pub events_of : {S : Type 0} → List (Call S) → List S → List ℕ → List (Answer S) → List (Event S)
events_of calls work buffer answers = paired (map (lending (length work) (length buffer)) calls) answers

-- the state at the making: any points, and a program of no rungs, which counts as one from a card
abbrev pub made : {S : Type 0} → List S → List ℕ → State S
made points buffer = record { points = points; program = from_card [] []; buffer = buffer }

-- the events led from a state to one that the controller and the lent bytes stand for
pub record Ran {B S : Type 0} (k : Kind S) (points : B → List S) (start : State S) (events : List (Event S)) (c : Controller B S) (buffer : List ℕ) : Type 0 where
  pub end : State S
  pub run : Run k start events end
  pub stands : Stands points c buffer end
  -- its program is that of the last install that was not refused, or the one at the start
  pub program : LastInstalled start.program events end.program
  -- only scans and settings that were not refused change points, and only writings change lent bytes
  pub points_stay : Throughout NoChange events → end.points ≡ start.points
  pub bytes_stay : Throughout NoWriting events → end.buffer ≡ start.buffer

-- what calls are lent: working signals, bytes for writing, and places for answers
pub record Lent (S : Type 0) : Type 0 where
  pub work : List S
  pub bytes : List ℕ
  pub answers : List (Answer S)

-- the three together
abbrev pub given : {S : Type 0} → List S → List ℕ → List (Answer S) → Lent S
given work bytes answers = record { work = work; bytes = bytes; answers = answers }

-- all calls were performed from a state: they ran, the answers past theirs stay, and without a scan that was not refused the working signals stay
pub record Performed {B S : Type 0} (k : Kind S) (points : B → List S) (start : State S) (calls : List (Call S)) (before after : Lent S) (c : Controller B S) : Type 0 where
  pub room : length calls ≤ length before.answers
  pub ran : Ran k points start (events_of calls before.work before.bytes after.answers) c after.bytes
  pub later : drop (length calls) after.answers ≡ drop (length calls) before.answers
  pub work_stays : Throughout NoScan (events_of calls before.work before.bytes after.answers) → after.work ≡ before.work

-- the calls were performed on a controller, from every state that it stands for
abbrev pub Performs : {B S : Type 0} → Kind S → (B → List S) → Controller B S → List (Call S) → Lent S → Lent S → Controller B S → Type 0
Performs {S = S} k points c calls before after c' = (s : State S) → Stands points c before.bytes s → Performed k points s calls before after c'

-- there are too few places for the answers, and nothing was performed
pub record Declined {S : Type 0} (calls : List (Call S)) (before after : Lent S) : Type 0 where
  pub few : length before.answers < length calls
  pub same : after ≡ before

-- a controller was made over a bank of these points, and either all calls were performed, or nothing was and the answer refuses
abbrev pub Operated : {B S U : Type 0} → Kind S → (B → List S) → List S → List (Call S) → Lent S → Controller B S → Result U ShortBuffer → Lent S → Type 0
Operated k points making calls before c (Ok u) after = Performed k points (made making before.bytes) calls before after c
Operated k points making calls before c (Err e) after = Declined calls before after × Stands points c before.bytes (made making before.bytes)
