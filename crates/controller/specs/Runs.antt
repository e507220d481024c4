-- Laws over whole runs: which program stands, and what changes points and lent bytes.
use Rattle.std.specs.Prelude.{ℕ, List, [], ◌∷◌, ◌++◌, Ok, Err}
use Rattle.controller.specs.declared.call.Call.{Call}
use Rattle.controller.specs.declared.call.Call.TheVariants.{InstallCard, InstallListing, SetInput, ReadPoint, Scan, WriteListing, WriteStatus}
use Rattle.controller.specs.declared.call.Answer.{Answer}
use Rattle.controller.specs.declared.call.Answer.TheVariants.{Install, Change, Reading, Writing}
use Rattle.controller.specs.Promise.{Origin, from_card, from-listing, CardAccepted, ListingAccepted}

-- a call with its answer
abbrev pub Event : Type 0 → Type 0
Event S = Call S × Answer S

-- what an install that is not refused makes the program
abbrev pub Installs : {S : Type 0} → Call S → Origin → Type 0
Installs (InstallCard card) (from_card cs words) = CardAccepted card.now cs words
Installs (InstallCard card) (from-listing words) = ⊥
Installs (InstallListing listing) (from_card cs words) = ⊥
Installs (InstallListing listing) (from-listing words) = ListingAccepted listing.now words
Installs (SetInput n x) program = ⊥
Installs (ReadPoint i) program = ⊥
Installs (Scan n) program = ⊥
Installs (WriteListing n) program = ⊥
Installs (WriteStatus n) program = ⊥

-- the event is no install that was not refused
abbrev pub NoInstall : {S : Type 0} → Event S → Type 0
NoInstall (call, Install (Ok numbers)) = ⊥
NoInstall (call, Install (Err e)) = Unit {0}
NoInstall (call, Change r) = Unit {0}
NoInstall (call, Reading r) = Unit {0}
NoInstall (call, Writing r) = Unit {0}

-- the event is neither a scan nor a setting that was not refused
abbrev pub NoChange : {S : Type 0} → Event S → Type 0
NoChange (call, Install r) = Unit {0}
NoChange (call, Change (Ok u)) = ⊥
NoChange (call, Change (Err e)) = Unit {0}
NoChange (call, Reading r) = Unit {0}
NoChange (call, Writing r) = Unit {0}

-- the event is no scan that was not refused
abbrev pub NoScan : {S : Type 0} → Event S → Type 0
NoScan (InstallCard card, answer) = Unit {0}
NoScan (InstallListing listing, answer) = Unit {0}
NoScan (SetInput n x, answer) = Unit {0}
NoScan (ReadPoint i, answer) = Unit {0}
NoScan (Scan n, answer) = NoChange (Scan n, answer)
NoScan (WriteListing n, answer) = Unit {0}
NoScan (WriteStatus n, answer) = Unit {0}

-- the event is no writing that was not refused
abbrev pub NoWriting : {S : Type 0} → Event S → Type 0
NoWriting (call, Install r) = Unit {0}
NoWriting (call, Change r) = Unit {0}
NoWriting (call, Reading r) = Unit {0}
NoWriting (call, Writing (Ok n)) = ⊥
NoWriting (call, Writing (Err e)) = Unit {0}

-- of every event
abbrev pub Throughout : {S : Type 0} → (Event S → Type 0) → List (Event S) → Type 0
Throughout P [] = Unit {0}
Throughout P (e ∷ es) = P e × Throughout P es

-- the program after the events is that of the last install that was not refused, or the one before them
pub data LastInstalled {S : Type 0} (before : Origin) : List (Event S) → Origin → Type 0 where
  none : (events : List (Event S)) → Throughout NoInstall events → LastInstalled before events before
  last : (earlier later : List (Event S)) (call : Call S) (numbers : ℕ × ℕ × ℕ × ℕ) (program : Origin) → Installs call program → Throughout NoInstall later → LastInstalled before (earlier ++ (call, Install (Ok numbers)) ∷ later) program
