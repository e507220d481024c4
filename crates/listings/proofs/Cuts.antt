-- Bytes cut into lines.
use Rattle.std.proofs.Common.{◌≡◌, ℕ, suc, ◌+◌, ◌<◌, Bool, true, false, cond, eqb, List, [], ◌∷◌, length, take, drop, Ok, Err, Result, sym, refl, ap, ◌∙◌, arith}
use Rattle.listings.specs.declared.fault.Cause.TheVariants.{NotALine}
use Rattle.listings.specs.declared.fault.ListingFault.{ListingFault}
use Rattle.listings.specs.LineReading.{byte_in}
use Rattle.listings.specs.Reading.{Cut, grown, cut_at, cut, Reached, refused_at, read_on, read_lines, ended, read_from}

-- a line put before a cut
abbrev pub with_line : List ℕ → Cut → Cut
with_line l c = record { lines = l ∷ c.lines; rest = c.rest }

-- the first line, up to the first byte 10
pub cut_line : (bs : List ℕ) → byte_in 10 bs < length bs → cut bs ≡ with_line (take (byte_in 10 bs) bs) (cut (drop (byte_in 10 bs + 1) bs))
cut_line [] h = absurd (omega arith)
cut_line (b ∷ bs) h = by (eqb b 10) (cut_line bs) h
  where
    by : (t : Bool) → (byte_in 10 bs < length bs → cut bs ≡ with_line (take (byte_in 10 bs) bs) (cut (drop (byte_in 10 bs + 1) bs))) → cond t 0 (1 + byte_in 10 bs) < suc (length bs)
        → cut_at t b (cut bs) ≡ with_line (take (cond t 0 (1 + byte_in 10 bs)) (b ∷ bs)) (cut (drop (cond t 0 (1 + byte_in 10 bs) + 1) (b ∷ bs)))
    by true f h = refl
    by false f h =
        let p = f (omega arith) in
        let q : 1 + byte_in 10 bs ≡ suc (byte_in 10 bs) = omega arith in
        let r : suc (byte_in 10 bs) + 1 ≡ suc (byte_in 10 bs + 1) = omega arith in
        rw (q, r) (ap (λ c. grown b c.lines c.rest) p)

-- bytes with no byte 10
pub cut_rest : (bs : List ℕ) → byte_in 10 bs ≡ length bs → cut bs ≡ record { lines = []; rest = bs }
cut_rest [] h = refl
cut_rest (b ∷ bs) h = by (eqb b 10) (cut_rest bs) h
  where
    by : (t : Bool) → (byte_in 10 bs ≡ length bs → cut bs ≡ record { lines = []; rest = bs }) → cond t 0 (1 + byte_in 10 bs) ≡ suc (length bs) → cut_at t b (cut bs) ≡ record { lines = []; rest = b ∷ bs }
    by true f h = absurd (omega arith)
    by false f h = ap (λ c. grown b c.lines c.rest) (f (omega arith))

-- the verdict, one line on
pub from_line : (now : Result Reached ListingFault) (bs : List ℕ) (end : ℕ) → end ≡ byte_in 10 bs → end < length bs → read_from now bs ≡ read_from (read_on now (take end bs)) (drop (end + 1) bs)
from_line now bs end e h =
    ap (λ c. ended (read_lines now c.lines) c.rest) (cut_line bs (omega arith))
    ∙ ap (λ k. read_from (read_on now (take k bs)) (drop (k + 1) bs)) (sym e)

-- the verdict on a line without an end
pub from_rest : (r : Reached) (bs : List ℕ) → 0 < length bs → byte_in 10 bs ≡ length bs → read_from (Ok r) bs ≡ Err (refused_at r NotALine)
from_rest r [] l h = absurd (omega arith)
from_rest r (b ∷ bs) l h = ap (λ c. ended (read_lines (Ok r) c.lines) c.rest) (cut_rest (b ∷ bs) h)

pub lines_refused : (f : ListingFault) (ls : List (List ℕ)) → read_lines (Err f) ls ≡ Err f
lines_refused f [] = refl
lines_refused f (l ∷ ls) = lines_refused f ls

-- what is refused stays refused
pub from_refused : (f : ListingFault) (bs : List ℕ) → read_from (Err f) bs ≡ Err f
from_refused f bs = ap (λ s. ended s (cut bs).rest) (lines_refused f (cut bs).lines)
