-- What reading a listing answers.
use Rattle.std.specs.Prelude.{◌≡◌, ℕ, true, List, Ok, Err, Result, ◌≢◌}
use Rattle.instructions.specs.Lines.{listing}
use Rattle.programs.specs.declared.program.Program.{Program}
use Rattle.programs.specs.Rules.{keeps}
use Rattle.programs.specs.Counts.{counts}
use Rattle.programs.specs.Programs.{held}
use Rattle.listings.specs.declared.fault.ListingFault.{ListingFault}
use Rattle.listings.specs.Reading.{verdict}

-- the words of the program that was read, or the refusal
abbrev pub words_in : Result Program ListingFault → Result (List ℕ) ListingFault
words_in (Ok p) = Ok (held p)
words_in (Err f) = Err f

-- a listing is accepted exactly if it is the listing of words that keep the rules
abbrev pub Exact : List ℕ → Result Program ListingFault → Type 0
Exact bytes (Ok p) = (bytes ≡ listing (held p)) × (keeps (held p) ≡ true)
Exact bytes (Err f) = (words : List ℕ) → keeps words ≡ true → bytes ≢ listing words

-- a listing took the place of a program, and its four numbers are answered; a refusal alters nothing
abbrev pub Replaced : List ℕ → Program → Result (ℕ × ℕ × ℕ × ℕ) ListingFault → Program → Type 0
Replaced bytes before (Ok n) after = (verdict bytes ≡ Ok (held after)) × (n ≡ counts (held after))
Replaced bytes before (Err f) after = (verdict bytes ≡ Err f) × (after ≡ before)

-- reading and writing agree
pub record ListingLaws : Type 0 where
  -- reading what is written: the listing of words that keep the rules is accepted, with exactly these words
  pub written : (words : List ℕ) → keeps words ≡ true → verdict (listing words) ≡ Ok words
  -- writing what was read: an accepted listing is the listing of its words, and they keep the rules
  pub read : (bytes words : List ℕ) → verdict bytes ≡ Ok words → (bytes ≡ listing words) × (keeps words ≡ true)
