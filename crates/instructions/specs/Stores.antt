-- What a store holds: at most 4,096 words.
use Rattle.std.specs.Prelude.{◌≡◌, ℕ, ◌+◌, ◌<◌, ◌≤◌, List, ◌++◌, length, take, Ok, Err, Result}
use Rattle.instructions.specs.declared.store.Store.{Store}
use Rattle.instructions.specs.declared.store.Full.{Full}

-- the words that are kept
abbrev pub stored : Store → List ℕ
stored s = take s.len s.words

-- words are kept behind those that stood, or there is no room for them and nothing is altered
abbrev pub Kept : {U : Type 0} → Store → List ℕ → Result U Full → Store → Type 0
Kept before words (Ok u) after = (length (stored before) + length words ≤ 4096) × (stored after ≡ stored before ++ words)
Kept before words (Err e) after = (4096 < length (stored before) + length words) × (after ≡ before)
