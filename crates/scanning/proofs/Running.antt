-- Words that run one after the other, instruction by instruction.
use Rattle.std.proofs.Common.{◌≡◌, ℕ, List, [], ◌∷◌, ◌++◌, refl, ap}
use Rattle.signals.specs.Kind.{Kind}
use Rattle.instructions.specs.declared.instruction.Instruction.{Instruction}
use Rattle.instructions.specs.Words.{operand, word_of, instruction_of}
use Rattle.instructions.specs.WordLaws.{Numbered}
use Rattle.instructions.proofs.Words.{word_laws}
use Rattle.scanning.specs.Machine.{Machine, acts, acts_if, runs}

module _ {S : Type 0} (k : Kind S) where
  pub runs_append : (us vs : List ℕ) (m : Machine S) → runs k (us ++ vs) m ≡ runs k vs (runs k us m)
  runs_append [] vs m = refl
  runs_append (u ∷ us) vs m = runs_append us vs (acts_if k (instruction_of u) m)

  -- the word of an instruction does what the instruction does
  pub runs_word : (i : Instruction) (ws : List ℕ) (m : Machine S) → Numbered (operand i) → runs k (word_of i ∷ ws) m ≡ runs k ws (acts k i m)
  runs_word i ws m h = ap (λ o. runs k ws (acts_if k o m)) (word_laws.there i h)
