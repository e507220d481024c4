-- The status line, the refusal line, and calls that write a text into a lent buffer.
use Rattle.std.specs.Prelude.{◌≡◌, ℕ, Bool, cond, List, [], ◌∷◌, ◌++◌, length, drop, Some, None, codes, Result, nat_le}
use Rattle.std.specs.Result.{result_ok}
use Rattle.instructions.specs.declared.report.ShortBuffer.{ShortBuffer}
use Rattle.instructions.specs.Texts.{fields}

-- the number of the refusal of a short buffer
abbrev pub short_number : ShortBuffer → ℕ
short_number s = 16

-- a word and numbers, each behind a space, and byte 10
abbrev pub record_of : List ℕ → List ℕ → List ℕ
record_of word numbers = word ++ (fields numbers ++ 10 ∷ [])

-- `OK` and the four numbers of a program
abbrev pub status_line : ℕ × ℕ × ℕ × ℕ → List ℕ
status_line (rungs, words, depth, first) = record_of (codes "OK") (rungs ∷ words ∷ depth ∷ first ∷ [])

-- `NO`, the number of a refusal, the rung or line, and the bit or byte
abbrev pub refusal_line : ℕ → ℕ → ℕ → List ℕ
refusal_line number rung place = record_of (codes "NO") (number ∷ rung ∷ place ∷ [])

abbrev pub fits : List ℕ → List ℕ → Bool
fits text buffer = nat_le (length text) (length buffer)

-- a text was written into a buffer: its length is answered and later bytes stay;
-- or the buffer is too short, is refused and stays as it was
pub record Written (text before : List ℕ) (answer : Result ℕ ShortBuffer) (after : List ℕ) : Type 0 where
  pub value : result_ok answer ≡ cond (fits text before) (Some (length text)) None
  pub after_is : after ≡ cond (fits text before) (text ++ drop (length text) before) before
