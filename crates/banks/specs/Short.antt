-- Each bank means at most 768 points.
use Rattle.std.specs.Prelude.{◌≡◌, ℕ, suc, ◌≤◌, Bool, List, [], ◌∷◌, length, take, slice_index_or, refl}
use Rattle.std.proofs.Common.{sym, subst, ap, mul-le-mul_left, length-take}
use Rattle.std.proofs.Math.Nat.{min-le_left}
use Rattle.std.proofs.lemmas.List.FromFn.{length-map-range_with_len}
use Rattle.signals.specs.Kind.{Kind}
use Rattle.banks.specs.Marks.{shown}
use Rattle.banks.specs.Packing.{meant, bits_of, held, unpacked}
use Rattle.banks.specs.Patches.{place, patched}

-- the open bank: the first 768 slots
pub open_short : {S : Type 0} (xs : List S) → length (take 768 xs) ≤ 768
open_short xs = subst (λ (n : ℕ). n ≤ 768) (sym (length-take 768 xs)) (min-le_left 768 (length xs))

-- the packed bank: four points a byte of the first 192
pub length-unpacked : (bytes : List ℕ) → length (unpacked bytes) ≡ held bytes
length-unpacked bytes = length-map-range_with_len (λ i. meant (bits_of bytes i)) 0 (held bytes)

pub packed_short : (bytes : List ℕ) → length (unpacked bytes) ≤ 768
packed_short bytes = subst (λ (n : ℕ). n ≤ 768) (sym (length-unpacked bytes)) (mul-le-mul_left 4 (min-le_left 192 (length bytes)))

-- the strip: as many as the bank below
pub length-shown : {S : Type 0} (k : Kind S) (ms : List Bool) (xs : List S) → length (shown k ms xs) ≡ length xs
length-shown k [] xs = refl
length-shown k (m ∷ ms) [] = refl
length-shown k (m ∷ ms) (x ∷ xs) = ap suc (length-shown k ms xs)

pub shown_short : {S : Type 0} (k : Kind S) (ms : List Bool) (xs : List S) → length xs ≤ 768 → length (shown k ms xs) ≤ 768
shown_short k ms xs h = subst (λ (n : ℕ). n ≤ 768) (sym (length-shown k ms xs)) h

-- the patch board: as many as the bank below
pub length-patched : {S : Type 0} (k : Kind S) (to : List ℕ) (xs : List S) → length (patched k to xs) ≡ length xs
length-patched k to xs = length-map-range_with_len (λ i. slice_index_or xs (place to (length xs) i) k.off) 0 (length xs)

pub patched_short : {S : Type 0} (k : Kind S) (to : List ℕ) (xs : List S) → length xs ≤ 768 → length (patched k to xs) ≤ 768
patched_short k to xs h = subst (λ (n : ℕ). n ≤ 768) (sym (length-patched k to xs)) h
