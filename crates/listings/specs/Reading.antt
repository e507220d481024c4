-- The verdict on a listing: its words, or where and why it is refused.
use Rattle.std.specs.Prelude.{ℕ, ◌+◌, Bool, true, false, List, [], ◌∷◌, ◌++◌, length, Some, None, Ok, Err, Option, Result, ◌==◌}
use Rattle.instructions.specs.declared.instruction.Instruction.{Instruction}
use Rattle.instructions.specs.Words.{word_of}
use Rattle.programs.specs.declared.fault.RuleFault.{RuleFault}
use Rattle.programs.specs.Rules.{Place, start, step, concluded}
use Rattle.listings.specs.declared.fault.Cause.{Cause}
use Rattle.listings.specs.declared.fault.Cause.TheVariants.{NotALine, Broken}
use Rattle.listings.specs.declared.fault.ListingFault.{ListingFault}
use Rattle.listings.specs.LineReading.{line_read}

-- bytes cut after each byte 10: the lines, without their ends, and what stands behind the last of them
pub record Cut : Type 0 where
  pub lines : List (List ℕ)
  pub rest : List ℕ

-- a byte put before what follows it in its line
abbrev pub grown : ℕ → List (List ℕ) → List ℕ → Cut
grown b [] rest = record { lines = []; rest = b ∷ rest }
grown b (l ∷ ls) rest = record { lines = (b ∷ l) ∷ ls; rest = rest }

-- a byte put before what follows it: byte 10 ends a line
abbrev pub cut_at : Bool → ℕ → Cut → Cut
cut_at true b c = record { lines = [] ∷ c.lines; rest = c.rest }
cut_at false b c = grown b c.lines c.rest

-- bytes cut into lines
abbrev pub cut : List ℕ → Cut
cut [] = record { lines = []; rest = [] }
cut (b ∷ bs) = cut_at (b == 10) b (cut bs)

-- how far a listing has been read: where its instructions stand, their words, and the byte and the line that come next
pub record Reached : Type 0 where
  pub place : Place
  pub words : List ℕ
  pub byte : ℕ
  pub line : ℕ

-- nothing has been read
abbrev pub begun : Reached
begun = record { place = start; words = []; byte = 0; line = 0 }

-- the rules' verdict on an instruction, as that on its line
abbrev pub ruled : Result Place RuleFault → Result Place Cause
ruled (Ok p) = Ok p
ruled (Err f) = Err (Broken f)

-- where a line leads: it has to say an instruction, and then the rules have to allow that
abbrev pub line_led : Place → Option Instruction → Result Place Cause
line_led p None = Err NotALine
line_led p (Some i) = ruled (step p i)

-- the word of a line
abbrev pub line_word : Option Instruction → List ℕ
line_word None = []
line_word (Some i) = word_of i ∷ []

-- a refusal where the reading stands
abbrev pub refused_at : Reached → Cause → ListingFault
refused_at r cause = record { cause = cause; byte = r.byte; line = r.line }

-- one line more, once it is known where it leads
abbrev pub read_to : Reached → List ℕ → Result Place Cause → Result Reached ListingFault
read_to r l (Ok p) = Ok (record { place = p; words = r.words ++ line_word (line_read l); byte = r.byte + length l + 1; line = r.line + 1 })
read_to r l (Err cause) = Err (refused_at r cause)

-- one line more; the first refusal stays
abbrev pub read_on : Result Reached ListingFault → List ℕ → Result Reached ListingFault
read_on (Ok r) l = read_to r l (line_led r.place (line_read l))
read_on (Err f) l = Err f

-- the lines read in turn
abbrev pub read_lines : Result Reached ListingFault → List (List ℕ) → Result Reached ListingFault
read_lines now [] = now
read_lines now (l ∷ ls) = read_lines (read_on now l) ls

-- the end, once it is known whether the instructions may end
abbrev pub end_to : Reached → Result Unit RuleFault → Result (List ℕ) ListingFault
end_to r (Ok u) = Ok r.words
end_to r (Err f) = Err (refused_at r (Broken f))

-- the end: what stands behind the last byte 10 is no line
abbrev pub ended : Result Reached ListingFault → List ℕ → Result (List ℕ) ListingFault
ended (Ok r) [] = end_to r (concluded r.place)
ended (Ok r) (b ∷ bs) = Err (refused_at r NotALine)
ended (Err f) rest = Err f

-- the verdict on what follows
abbrev pub read_from : Result Reached ListingFault → List ℕ → Result (List ℕ) ListingFault
read_from now bytes = ended (read_lines now (cut bytes).lines) (cut bytes).rest

-- the verdict on a listing
abbrev pub verdict : List ℕ → Result (List ℕ) ListingFault
verdict bytes = read_from (Ok begun) bytes
