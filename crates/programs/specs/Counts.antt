-- Where rungs start, the rungs of words, and the four numbers of a program.
use Rattle.std.specs.Prelude.{ℕ, ◌+◌, max, Bool, true, false, cond, List, [], ◌∷◌, ◌++◌, map, length, Some, None, Option, ◌==◌}
use Rattle.instructions.specs.declared.instruction.Instruction.{Instruction}
use Rattle.instructions.specs.Words.{instruction_of}
use Rattle.instructions.specs.Depth.{opened_if, depth}
use Rattle.programs.specs.Rules.{starts_rung}

-- whether a rung starts at a word, with so many brackets open; a word that stands for no instruction starts none
abbrev pub starts_if : ℕ → Option Instruction → Bool
starts_if n None = false
starts_if n (Some i) = starts_rung n i

-- how many brackets are open after a word
abbrev pub open_after : ℕ → ℕ → ℕ
open_after n word = opened_if n (instruction_of word)

-- the index of a word, if a rung starts there
abbrev pub start_at : ℕ → ℕ → ℕ → List ℕ
start_at at n word = cond (starts_if n (instruction_of word)) (at ∷ []) []

-- where rungs start in words from an index on, with so many brackets open
abbrev pub starts_from : ℕ → ℕ → List ℕ → List ℕ
starts_from at n [] = []
starts_from at n (word ∷ words) = start_at at n word ++ starts_from (at + 1) (open_after n word) words

-- where the rungs of words start
abbrev pub starts_of : List ℕ → List ℕ
starts_of words = starts_from 0 0 words

-- words cut at each start: those before the first start, and the rungs
pub record Cut : Type 0 where
  pub front : List ℕ
  pub rungs : List (List ℕ)

-- a word put before a cut: it starts a rung, or belongs to what is in front
abbrev pub cut_at : Bool → ℕ → Cut → Cut
cut_at true word c = record { front = []; rungs = (word ∷ c.front) ∷ c.rungs }
cut_at false word c = record { front = word ∷ c.front; rungs = c.rungs }

-- words cut at each start, with so many brackets open before them
abbrev pub cut : ℕ → List ℕ → Cut
cut n [] = record { front = []; rungs = [] }
cut n (word ∷ words) = cut_at (starts_if n (instruction_of word)) word (cut (open_after n word) words)

-- the rungs of words
abbrev pub rungs_of : List ℕ → List (List ℕ)
rungs_of words = (cut 0 words).rungs

-- the greatest of numbers, 0 if there are none
abbrev pub greatest : List ℕ → ℕ
greatest [] = 0
greatest (d ∷ ds) = max d (greatest ds)

-- the place of a number in a row, counted from 0
abbrev pub place_in : ℕ → List ℕ → ℕ
place_in d [] = 0
place_in d (e ∷ es) = cond (e == d) 0 (1 + place_in d es)

-- the depths of the rungs of words
abbrev pub depths : List ℕ → List ℕ
depths words = map depth (rungs_of words)

-- rungs, words, greatest depth of a rung, and the first rung with that depth (0 if there are no rungs)
abbrev pub counts : List ℕ → ℕ × ℕ × ℕ × ℕ
counts words = (length (rungs_of words), length words, greatest (depths words), place_in (greatest (depths words)) (depths words))
