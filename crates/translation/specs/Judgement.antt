-- What a card is judged to be, in bit order: the words of its rungs, or the one refusal.
use Rattle.std.specs.Prelude.{◌≡◌, ℕ, ◌+◌, ◌<◌, ◌≤◌, List, [], ◌++◌, length, Ok, Err, Result}
use Rattle.instructions.specs.declared.store.Store.{Store}
use Rattle.instructions.specs.Stores.{stored}
use Rattle.programs.specs.declared.program.Program.{Program}
use Rattle.programs.specs.Counts.{counts}
use Rattle.programs.specs.Programs.{held}
use Rattle.wiring.specs.Circuit.{Circuit, SeriesParallel}
use Rattle.cards.specs.declared.fault.CardFault.{CardFault}
use Rattle.cards.specs.declared.progress.Progress.{Progress}
use Rattle.cards.specs.Rungs.{rung_at, rung_bits}
use Rattle.cards.specs.Cards.{head_at, end_at, progress_rung}
use Rattle.translation.specs.declared.rung_fault.RungFault.{RungFault}
use Rattle.translation.specs.declared.rung_fault.RungFault.TheVariants.{NotSeriesParallel, TooDeep, TooLong}
use Rattle.translation.specs.declared.ladder_fault.LadderFault.{LadderFault}
use Rattle.translation.specs.declared.ladder_fault.LadderFault.TheVariants.{Card, Rung}
use Rattle.translation.specs.Translation.{Listed, Shallow}

-- the words of a card's rungs, or why it is refused
abbrev pub Verdict : Type 0
Verdict = Result (List ℕ) LadderFault

-- the card reader's fault, met in rung k
abbrev pub unread : CardFault → ℕ → LadderFault
unread e k = Card (record { fault = e; rung = k })

-- a fault of rung k, which starts at a bit
abbrev pub unfit : RungFault → ℕ → ℕ → LadderFault
unfit e k at = Rung (record { fault = e; rung = k; bit = at })

-- the verdict on a card of so many rungs, from rung k on, which starts at a bit; the words are those of the rungs before it
pub data Judged (bytes : List ℕ) (rungs : ℕ) : ℕ → ℕ → List ℕ → Verdict → Type 0 where
  -- behind the last rung, zero bits fill the last byte and nothing follows
  ended : (at : ℕ) (words : List ℕ) → end_at bytes at ≡ Ok tt → Judged bytes rungs rungs at words (Ok words)
  -- or they do not
  trailed : (at : ℕ) (words : List ℕ) (e : CardFault) → end_at bytes at ≡ Err e → Judged bytes rungs rungs at words (Err (unread e rungs))
  -- a field that does not fit, counts, a link or a coil
  misread : (k at : ℕ) (words : List ℕ) (e : CardFault) → k < rungs → rung_at bytes at ≡ Err e → Judged bytes rungs k at words (Err (unread e k))
  -- after the rung's last coil: it is not series-parallel
  crossed : (k at : ℕ) (words : List ℕ) (c : Circuit) → k < rungs → rung_at bytes at ≡ Ok c → (SeriesParallel c → ⊥) → Judged bytes rungs k at words (Err (unfit NotSeriesParallel k at))
  -- a sixteenth bracket would be open
  deep : (k at : ℕ) (words : List ℕ) (c : Circuit) (new : List ℕ) → k < rungs → rung_at bytes at ≡ Ok c → Listed c new → (Shallow new → ⊥) → Judged bytes rungs k at words (Err (unfit TooDeep k at))
  -- the program would have more than 4,096 words
  long : (k at : ℕ) (words : List ℕ) (c : Circuit) (new : List ℕ) → k < rungs → rung_at bytes at ≡ Ok c → Listed c new → Shallow new → (length words + length new ≤ 4096 → ⊥) → Judged bytes rungs k at words (Err (unfit TooLong k at))
  -- or the rung is taken, and the next one is judged
  taken : (k at : ℕ) (words : List ℕ) (c : Circuit) (new : List ℕ) (v : Verdict) → k < rungs → rung_at bytes at ≡ Ok c → Listed c new → Shallow new → length words + length new ≤ 4096 → Judged bytes rungs (k + 1) (at + rung_bits c) (words ++ new) v → Judged bytes rungs k at words v

-- the verdict on a whole card: its head, and then its rungs from bit 8 on
pub data CardJudged (bytes : List ℕ) : Verdict → Type 0 where
  headless : (e : CardFault) → head_at bytes ≡ Err e → CardJudged bytes (Err (unread e 0))
  headed : (rungs : ℕ) (v : Verdict) → head_at bytes ≡ Ok rungs → Judged bytes rungs 0 8 [] v → CardJudged bytes v

-- the verdict from where the reading stands
abbrev pub JudgedFrom : List ℕ → Progress → Store → Verdict → Type 0
JudgedFrom bytes p s v = Judged bytes p.rungs (progress_rung p) p.at (stored s) v

-- a card was translated: its words stand in the store; or it was refused
abbrev pub Told : {U : Type 0} → List ℕ → Result U LadderFault → Store → Type 0
Told bytes (Ok u) s = CardJudged bytes (Ok (stored s))
Told bytes (Err e) s = CardJudged bytes (Err e)

-- a program was replaced by that of a card, and its four numbers were told; or the card was refused and the program is as it was
abbrev pub CardTaken : List ℕ → Program → Result (ℕ × ℕ × ℕ × ℕ) LadderFault → Program → Type 0
CardTaken bytes before (Ok numbers) after = CardJudged bytes (Ok (held after)) × (numbers ≡ counts (held after))
CardTaken bytes before (Err e) after = CardJudged bytes (Err e) × (after ≡ before)
