-- How deep the brackets of words go.
use Rattle.std.specs.Prelude.{ℕ, ◌+◌, ◌-◌, max, List, [], ◌∷◌, Some, None, Option}
use Rattle.instructions.specs.declared.instruction.Instruction.{Instruction}
use Rattle.instructions.specs.declared.instruction.Instruction.TheVariants.{Load, LoadNot, And, AndNot, Or, OrNot, AndOpen, OrOpen, Close, Store, StoreNot, Set, Reset}
use Rattle.instructions.specs.Words.{instruction_of}

-- how many brackets are open after an instruction
abbrev pub opened : ℕ → Instruction → ℕ
opened n (Load x) = n
opened n (LoadNot x) = n
opened n (And x) = n
opened n (AndNot x) = n
opened n (Or x) = n
opened n (OrNot x) = n
opened n AndOpen = n + 1
opened n OrOpen = n + 1
opened n Close = n - 1
opened n (Store x) = n
opened n (StoreNot x) = n
opened n (Set x) = n
opened n (Reset x) = n

-- a word that stands for no instruction opens and closes nothing
abbrev pub opened_if : ℕ → Option Instruction → ℕ
opened_if n None = n
opened_if n (Some i) = opened n i

-- the greatest number of brackets open at once, from so many on
abbrev pub deepest : ℕ → List ℕ → ℕ
deepest n [] = n
deepest n (w ∷ ws) = max n (deepest (opened_if n (instruction_of w)) ws)

-- the greatest number of brackets open at once in the words
abbrev pub depth : List ℕ → ℕ
depth ws = deepest 0 ws
