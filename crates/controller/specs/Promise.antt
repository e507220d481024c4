-- The promise: what each call answers and what it leaves, and whole runs of calls.
use Rattle.std.specs.Prelude.{◌≡◌, ℕ, ◌<◌, ◌≤◌, true, ◌↔◌, List, [], ◌∷◌, ◌++◌, length, drop, Some, Ok, Err, slice_set}
use Rattle.std.specs.Borrow.{Bor}
use Rattle.std.specs.List.{slice_get, AllByRecursion}
use Rattle.signals.specs.Kind.{Kind}
use Rattle.instructions.specs.declared.report.ShortBuffer.{ShortBuffer}
use Rattle.instructions.specs.Lines as lines
use Rattle.instructions.specs.Reports.{status_line}
use Rattle.programs.specs.Counts.{counts}
use Rattle.programs.specs.Rules.{keeps}
use Rattle.wiring.specs.Circuit.{Circuit}
use Rattle.wiring.specs.Lists.{In}
use Rattle.wiring.specs.Paths.{Path}
use Rattle.wiring.specs.Value.{TwoSignals}
use Rattle.cards.specs.Encoding.{Drawable, Encoded}
use Rattle.translation.specs.declared.ladder_fault.LadderFault.{LadderFault}
use Rattle.translation.specs.Acceptance.{Translates}
use Rattle.translation.specs.Judgement.{CardJudged}
use Rattle.listings.specs.declared.fault.ListingFault.{ListingFault}
use Rattle.listings.specs.Reading.{verdict}
use Rattle.scanning.specs.ByPaths.{link_signal, Received, all-coiled, ByPaths}
use Rattle.scanning.specs.Listings.{Listings, named}
use Rattle.scanning.specs.Machine.{scanned}
use Rattle.scanning.specs.Refusals.{KeptUnnamed}
use Rattle.controller.specs.declared.refusal.Refusal.TheVariants.{SmallBank, FewSignals, NoSuchPoint}
use Rattle.controller.specs.declared.install_fault.InstallFault.TheVariants as install
use Rattle.controller.specs.declared.call.Call.{Call}
use Rattle.controller.specs.declared.call.Call.TheVariants.{InstallCard, InstallListing, SetInput, ReadPoint, Scan, WriteListing, WriteStatus}
use Rattle.controller.specs.declared.call.Answer.{Answer}
use Rattle.controller.specs.declared.call.Answer.TheVariants.{Install, Change, Reading, Writing}

-- a program: the rungs of a card with their words, or the words of a listing
pub data Origin : Type 0 where
  from_card : List Circuit → List ℕ → Origin
  from-listing : List ℕ → Origin

-- the words of a program
abbrev pub words_of : Origin → List ℕ
words_of (from_card cs words) = words
words_of (from-listing words) = words

-- what calls work on: the points, the program, and the bytes lent for writing
pub record State (S : Type 0) : Type 0 where
  pub points : List S
  pub program : Origin
  pub buffer : List ℕ

-- the state with other points
abbrev pub with_points : {S : Type 0} → State S → List S → State S
with_points s points = record { points = points; program = s.program; buffer = s.buffer }

-- the state with another program
abbrev pub with_program : {S : Type 0} → State S → Origin → State S
with_program s program = record { points = s.points; program = program; buffer = s.buffer }

-- the state with a text at the start of the lent bytes: later bytes stay
abbrev pub with_text : {S : Type 0} → State S → List ℕ → State S
with_text s text = record { points = s.points; program = s.program; buffer = text ++ drop (length text) s.buffer }

-- the bank has all points
abbrev pub Full : {S : Type 0} → State S → Type 0
Full s = 768 ≤ length s.points

-- the bank counts under 768 points
abbrev pub Small : {S : Type 0} → State S → Type 0
Small s = length s.points < 768

-- a card is accepted: it is judged to be these words, it is the encoding of these rungs, each within the limits, and the words are their listings
pub record CardAccepted (bytes : List ℕ) (cs : List Circuit) (words : List ℕ) : Type 0 where
  pub judged : CardJudged bytes (Ok words)
  pub encoded : Encoded bytes cs
  pub few : length cs ≤ 128
  pub drawable : AllByRecursion Drawable cs
  pub translates : Translates cs words
  pub listed : Listings cs words

-- a listing is accepted: it is read as these words, it is their text, and they keep the rules
pub record ListingAccepted (bytes : List ℕ) (words : List ℕ) : Type 0 where
  pub read : verdict bytes ≡ Ok words
  pub text : bytes ≡ lines.listing words
  pub keeps : keeps words ≡ true

module _ {S : Type 0} (k : Kind S) where
  -- some path of the rung has every link on
  abbrev pub conducts : List S → Circuit → Type 0
  conducts points c = (p : List ℕ) × Path c p × ((i : ℕ) → In i p → link_signal k points c i ≡ k.on)

  -- the scan by paths, where a rung's coils receive on exactly if some path has every link on
  abbrev pub by_conduction : List Circuit → List S → List S → Type 0
  by_conduction [] points after = after ≡ points
  by_conduction (c ∷ cs) points after = (r : S) × Received k points c r × ((r ≡ k.on) ↔ conducts points c) × by_conduction cs (all-coiled k c.coils r points) after

  -- with a program from a card a scan leaves what the scan by paths leaves; in a kind of two signals whose parallel joining of on and on is on, coils receive on exactly if some path conducts
  abbrev pub paths_kept : Origin → List S → List S → Type 0
  paths_kept (from_card cs words) before after = ByPaths k cs before after × (TwoSignals k → by_conduction cs before after)
  paths_kept (from-listing words) before after = Unit {0}

  -- a scan leaves what the words machine makes of the points; every point that no coil names stays; and a card's rungs are scanned by paths
  pub record Scanned (program : Origin) (before after : List S) : Type 0 where
    pub by_words : after ≡ scanned k (words_of program) before
    pub unnamed : KeptUnnamed (named (words_of program)) before after
    pub by_paths : paths_kept program before after

  -- one call: what it answers and what it leaves; a refusal leaves the state as it was
  pub data Happens : State S → Call S → Answer S → State S → Type 0 where
    -- an install of a card: a small bank is refused first, then a card for its one fault; an accepted card is the program, and its four numbers are answered
    card_small : (s : State S) (card : Bor (List ℕ)) → Small s → Happens s (InstallCard card) (Install (Err install.SmallBank)) s
    card_refused : (s : State S) (card : Bor (List ℕ)) (e : LadderFault) → Full s → CardJudged card.now (Err e) → Happens s (InstallCard card) (Install (Err (install.Card e))) s
    card : (s t : State S) (card : Bor (List ℕ)) (cs : List Circuit) (words : List ℕ) → Full s → CardAccepted card.now cs words → t ≡ with_program s (from_card cs words) → Happens s (InstallCard card) (Install (Ok (counts words))) t
    -- an install of a listing, likewise
    listing-small : (s : State S) (listing : Bor (List ℕ)) → Small s → Happens s (InstallListing listing) (Install (Err install.SmallBank)) s
    listing_refused : (s : State S) (listing : Bor (List ℕ)) (e : ListingFault) → Full s → verdict listing.now ≡ Err e → Happens s (InstallListing listing) (Install (Err (install.Listing e))) s
    listing : (s t : State S) (listing : Bor (List ℕ)) (words : List ℕ) → Full s → ListingAccepted listing.now words → t ≡ with_program s (from-listing words) → Happens s (InstallListing listing) (Install (Ok (counts words))) t
    -- a setting: inputs go from 0 to 255, and just the one of the number is changed to the signal
    input_small : (s : State S) (n : ℕ) (x : S) → Small s → Happens s (SetInput n x) (Change (Err SmallBank)) s
    no_input : (s : State S) (n : ℕ) (x : S) → Full s → 256 ≤ n → Happens s (SetInput n x) (Change (Err NoSuchPoint)) s
    input : (s t : State S) (n : ℕ) (x : S) → Full s → n < 256 → t ≡ with_points s (slice_set s.points n x) → Happens s (SetInput n x) (Change (Ok tt)) t
    -- a reading answers the signal of its point, and alters nothing
    point_small : (s : State S) (i : ℕ) → Small s → Happens s (ReadPoint i) (Reading (Err SmallBank)) s
    no_point : (s : State S) (i : ℕ) → Full s → length s.points ≤ i → Happens s (ReadPoint i) (Reading (Err NoSuchPoint)) s
    point : (s : State S) (i : ℕ) (x : S) → Full s → slice_get s.points i ≡ Some x → Happens s (ReadPoint i) (Reading (Ok x)) s
    -- a scan: 15 working signals have to be lent
    scan_small : (s : State S) (lent : ℕ) → Small s → Happens s (Scan lent) (Change (Err SmallBank)) s
    few_signals : (s : State S) (lent : ℕ) → Full s → lent < 15 → Happens s (Scan lent) (Change (Err FewSignals)) s
    scan : (s t : State S) (lent : ℕ) → Full s → 15 ≤ lent → Scanned s.program s.points t.points → t ≡ with_points s t.points → Happens s (Scan lent) (Change (Ok tt)) t
    -- a writing of the listing: the text stands at the start of the lent bytes and its length is answered, or so many bytes are too few
    listing_short : (s : State S) (lent : ℕ) (e : ShortBuffer) → lent ≤ length s.buffer → lent < length (lines.listing (words_of s.program)) → Happens s (WriteListing lent) (Writing (Err e)) s
    listing-written : (s t : State S) (lent : ℕ) → lent ≤ length s.buffer → length (lines.listing (words_of s.program)) ≤ lent → t ≡ with_text s (lines.listing (words_of s.program)) → Happens s (WriteListing lent) (Writing (Ok (length (lines.listing (words_of s.program))))) t
    -- a writing of the status line, likewise
    status_short : (s : State S) (lent : ℕ) (e : ShortBuffer) → lent ≤ length s.buffer → lent < length (status_line (counts (words_of s.program))) → Happens s (WriteStatus lent) (Writing (Err e)) s
    status_written : (s t : State S) (lent : ℕ) → lent ≤ length s.buffer → length (status_line (counts (words_of s.program))) ≤ lent → t ≡ with_text s (status_line (counts (words_of s.program))) → Happens s (WriteStatus lent) (Writing (Ok (length (status_line (counts (words_of s.program)))))) t

  -- a whole run: each call happens where the one before it left the state
  pub data Run : State S → List (Call S × Answer S) → State S → Type 0 where
    still : (s : State S) → Run s [] s
    onwards : (s t u : State S) (call : Call S) (answer : Answer S) (rest : List (Call S × Answer S)) → Happens s call answer t → Run t rest u → Run s ((call, answer) ∷ rest) u
