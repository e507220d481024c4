-- What the translation of a rung answers and leaves.
use Rattle.std.specs.Prelude.{◌≡◌, ℕ, ◌+◌, ◌≤◌, List, ◌++◌, length, Ok, Err, Result}
use Rattle.instructions.specs.declared.store.Store.{Store}
use Rattle.instructions.specs.Depth.{depth}
use Rattle.instructions.specs.Stores.{stored}
use Rattle.wiring.specs.Circuit.{Circuit, Reads, SeriesParallel}
use Rattle.wiring.specs.Wiring.{Wiring}
use Rattle.translation.specs.declared.rung_fault.RungFault.{RungFault}
use Rattle.translation.specs.declared.rung_fault.RungFault.TheVariants.{NotSeriesParallel, TooDeep, TooLong}
use Rattle.translation.specs.Spelling.{rung_words}

-- some wiring reads the circuit, and every wiring that reads it gives these words
pub record Listed (c : Circuit) (words : List ℕ) : Type 0 where
  pub some : SeriesParallel c
  pub every : (w : Wiring ℕ) → Reads c w → rung_words c w ≡ words

-- at most 15 brackets are open at once
abbrev pub Shallow : List ℕ → Type 0
Shallow words = depth words ≤ 15

-- the words find room behind those that stand
abbrev pub Fits : Store → List ℕ → Type 0
Fits before words = length (stored before) + length words ≤ 4096

-- the rung's words are added to the store, or it is refused for the first cause that holds and the store stays as it was
abbrev pub Translated : {U : Type 0} → Circuit → Store → Result U RungFault → Store → Type 0
Translated c before (Ok u) after = (words : List ℕ) × Listed c words × Shallow words × Fits before words × (stored after ≡ stored before ++ words)
Translated c before (Err NotSeriesParallel) after = (SeriesParallel c → ⊥) × (after ≡ before)
Translated c before (Err TooDeep) after = (words : List ℕ) × Listed c words × (Shallow words → ⊥) × (after ≡ before)
Translated c before (Err TooLong) after = (words : List ℕ) × Listed c words × Shallow words × (Fits before words → ⊥) × (after ≡ before)
