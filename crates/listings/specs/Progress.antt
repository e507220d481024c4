-- One line more of a listing, in a draft.
use Rattle.std.specs.Prelude.{◌≡◌, ℕ, ◌+◌, ◌<◌, ◌≤◌, List, ◌++◌, length, drop, Ok, Err, Result}
use Rattle.programs.specs.declared.draft.Draft.{Draft}
use Rattle.programs.specs.Drafts.{drafted, standing}
use Rattle.listings.specs.declared.listing.Position.{Position}
use Rattle.listings.specs.declared.fault.Cause.{Cause}
use Rattle.listings.specs.declared.fault.ListingFault.{ListingFault}
use Rattle.listings.specs.LineReading.{line_read}
use Rattle.listings.specs.Reading.{Reached, line_led, line_word, read_from}

-- the instruction of a line came behind a draft, or it is refused and nothing is altered
abbrev pub LineAdded : {U : Type 0} → Draft → List ℕ → Result U Cause → Draft → Type 0
LineAdded before text (Ok u) after = (line_led (standing before) (line_read text) ≡ Ok (standing after)) × (drafted after ≡ drafted before ++ line_word (line_read text))
LineAdded before text (Err cause) after = (line_led (standing before) (line_read text) ≡ Err cause) × (after ≡ before)

-- how far a listing has been read into a draft
abbrev pub reached : Draft → ℕ → ℕ → Reached
reached d byte line = record { place = standing d; words = drafted d; byte = byte; line = line }

-- a refusal where the reading stands
abbrev pub refused_there : Position → Cause → ListingFault
refused_there at cause = record { cause = cause; byte = at.byte; line = at.line }

-- the line that comes next was read, and the verdict on the whole is that on what follows; or it is refused
abbrev pub NextRead : List ℕ → Draft → Position → Result Position ListingFault → Draft → Type 0
NextRead bytes before at (Ok next) after =
    (read_from (Ok (reached before at.byte at.line)) (drop at.byte bytes) ≡ read_from (Ok (reached after next.byte next.line)) (drop next.byte bytes)) × (at.byte < next.byte) × (next.byte ≤ length bytes) × (next.line ≡ at.line + 1)
NextRead bytes before at (Err f) after = read_from (Ok (reached before at.byte at.line)) (drop at.byte bytes) ≡ Err f
