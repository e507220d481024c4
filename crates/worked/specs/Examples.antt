-- Worked cards, rungs and lines, gathered as one fact about the definitions.
use Rattle.std.specs.Prelude.{◌≡◌, ℕ, List, [], ◌∷◌, ◌++◌, map, Some, Ok, Err, codes}
use Rattle.points.specs.declared.point.Area.TheVariants.{Input, Output, Marker}
use Rattle.points.specs.declared.point.Point.{Point}
use Rattle.wiring.specs.declared.rung.Action.TheVariants as action
use Rattle.wiring.specs.declared.rung.Contact.TheVariants.{Open, Closed}
use Rattle.wiring.specs.Circuit.{Circuit, SeriesParallel}
use Rattle.wiring.specs.Worked.{detour, bridge}
use Rattle.instructions.specs.declared.instruction.Operand.TheVariants.{At}
use Rattle.instructions.specs.declared.instruction.Instruction.{Instruction}
use Rattle.instructions.specs.declared.instruction.Instruction.TheVariants.{Load, And, AndNot, Or, AndOpen, OrOpen, Close, Store}
use Rattle.instructions.specs.Words.{word_of}
use Rattle.instructions.specs.Depth.{depth}
use Rattle.instructions.specs.Lines.{listing}
use Rattle.instructions.specs.Reports.{status_line, refusal_line}
use Rattle.programs.specs.Counts.{counts}
use Rattle.listings.specs.declared.fault.Cause.TheVariants.{NotALine}
use Rattle.listings.specs.declared.fault.ListingFault.{ListingFault}
use Rattle.listings.specs.Faults.{fault_number}
use Rattle.listings.specs.LineReading.{line_read}
use Rattle.listings.specs.Reading.{verdict}
use Rattle.cards.specs.declared.fault.CardCause.TheVariants.{EndsEarly}
use Rattle.cards.specs.Rungs.{fault_at, rung_at}
use Rattle.translation.specs.declared.ladder_fault.LadderFault.{LadderFault}
use Rattle.translation.specs.declared.rung_fault.RungFault.TheVariants.{NotSeriesParallel}
use Rattle.translation.specs.Faults.{ladder_number, ladder_rung, ladder_bit}
use Rattle.translation.specs.Translation.{Listed}
use Rattle.translation.specs.Judgement.{unread, unfit, CardJudged}

-- points by their numbers
abbrev pub i : ℕ → Point
i n = record { area = Input; number = n }

abbrev pub q : ℕ → Point
q n = record { area = Output; number = n }

abbrev pub m : ℕ → Point
m n = record { area = Marker; number = n }

-- lines of text, each with its end
abbrev pub lines : List (List ℕ) → List ℕ
lines [] = []
lines (l ∷ ls) = l ++ (10 ∷ lines ls)

-- the words of instructions
abbrev pub words : List Instruction → List ℕ
words is = map word_of is

-- I 0 parallel to M 0, then I 1 closed at rest, coil M 0
abbrev pub latch : Circuit
latch = record {
  joints = 3;
  links = record { from = 0; to = 1; contact = Open (i 0) } ∷ record { from = 0; to = 1; contact = Open (m 0) } ∷ record { from = 1; to = 2; contact = Closed (i 1) } ∷ [];
  coils = record { action = action.Store; point = m 0 } ∷ [];
}

-- the card that draws it
abbrev pub latch_card : List ℕ
latch_card = 0x01 ∷ 0x0C ∷ 0x18 ∷ 0x80 ∷ 0x2A ∷ 0x00 ∷ 0x00 ∷ 0xB8 ∷ 0x00 ∷ 0x45 ∷ 0x20 ∷ 0x26 ∷ 0x00 ∷ []

abbrev pub latch_words : List ℕ
latch_words = words (Load (At (i 0)) ∷ Or (At (m 0)) ∷ AndNot (At (i 1)) ∷ Store (At (m 0)) ∷ [])

-- the rung with the detour, in words
abbrev pub detour_words : List ℕ
detour_words = words (Load (At (i 0)) ∷ AndOpen ∷ Load (At (i 1)) ∷ OrOpen ∷ Load (At (i 2)) ∷ And (At (i 3)) ∷ Close ∷ Close ∷ Store (At (q 0)) ∷ [])

-- the card that draws it
abbrev pub detour_card : List ℕ
detour_card = 0x01 ∷ 0x10 ∷ 0x20 ∷ 0x80 ∷ 0x2A ∷ 0x00 ∷ 0x11 ∷ 0xA8 ∷ 0x08 ∷ 0x44 ∷ 0xA0 ∷ 0x42 ∷ 0x1A ∷ 0x81 ∷ 0x90 ∷ 0x00 ∷ []

-- the card that draws the rung with a cross-link
abbrev pub bridge_card : List ℕ
bridge_card = 0x01 ∷ 0x10 ∷ 0x28 ∷ 0x80 ∷ 0x2A ∷ 0x00 ∷ 0x01 ∷ 0x28 ∷ 0x08 ∷ 0x44 ∷ 0xA0 ∷ 0x41 ∷ 0x1A ∷ 0x81 ∷ 0x88 ∷ 0x6A ∷ 0x08 ∷ 0x40 ∷ 0x00 ∷ []

-- its one rung, which starts at bit 8, is not series-parallel
abbrev pub bridge_fault : LadderFault
bridge_fault = unfit NotSeriesParallel 0 8

-- a card that ends before its first rung's first field does
abbrev pub short_fault : LadderFault
short_fault = unread (fault_at EndsEarly 8) 0

-- a first line that is none
abbrev pub stray_fault : ListingFault
stray_fault = record { cause = NotALine; byte = 0; line = 0 }

pub record WorkedExamples : Type 0 where
  -- the card draws the rung, is accepted with its words, and they are listed so
  pub latch_drawn : rung_at latch_card 8 ≡ Ok latch
  pub latch-accepted : CardJudged latch_card (Ok latch_words)
  pub latch-listed : listing latch_words ≡ lines (codes "LD %I0" ∷ codes "OR %M0" ∷ codes "ANDN %I1" ∷ codes "ST %M0" ∷ [])
  pub latch-counted : status_line (counts latch_words) ≡ lines (codes "OK 1 4 0 0" ∷ [])
  -- the card 01 is refused with 3 at rung 0, bit 8
  pub short_refused : CardJudged (1 ∷ []) (Err short_fault)
  pub short_told : refusal_line (ladder_number short_fault) (ladder_rung short_fault) (ladder_bit short_fault) ≡ lines (codes "NO 3 0 8" ∷ [])
  -- the card 00 is accepted, and has no words
  pub none-accepted : CardJudged (0 ∷ []) (Ok [])
  pub none-counted : status_line (counts []) ≡ lines (codes "OK 0 0 0 0" ∷ [])
  -- the rung with a detour is listed so, and two brackets are open at once
  pub detour-listed : Listed detour detour_words
  pub detour-told : listing detour_words ≡ lines (codes "LD %I0" ∷ codes "AND(" ∷ codes "LD %I1" ∷ codes "OR(" ∷ codes "LD %I2" ∷ codes "AND %I3" ∷ codes ")" ∷ codes ")" ∷ codes "ST %Q0" ∷ [])
  pub detour_deep : depth detour_words ≡ 2
  pub detour-accepted : CardJudged detour_card (Ok detour_words)
  -- the rung with a cross-link is not series-parallel, and its card is refused with 9
  pub bridge_refused : SeriesParallel bridge → ⊥
  pub bridge_card_refused : CardJudged bridge_card (Err bridge_fault)
  pub bridge-told : refusal_line (ladder_number bridge_fault) (ladder_rung bridge_fault) (ladder_bit bridge_fault) ≡ lines (codes "NO 9 0 8" ∷ [])
  -- the word of `OR %M255`
  pub or_m255 : word_of (Or (At (m 255))) ≡ 0x4CFF
  -- `LD %I255` is a line, and `LD %I256` is refused with 12
  pub ld_i255 : line_read (codes "LD %I255") ≡ Some (Load (At (i 255)))
  pub ld_i256 : verdict (lines (codes "LD %I256" ∷ [])) ≡ Err stray_fault
  pub ld_i256_number : fault_number stray_fault ≡ 12
