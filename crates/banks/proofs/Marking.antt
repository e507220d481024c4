-- A strip, point by point.
use Rattle.std.proofs.Common.{◌≡◌, ℕ, zero, suc, ◌<◌, Bool, true, false, ◌≢◌, List, [], ◌∷◌, length, get_or, set, replicate, sym, refl, ap, ◌∙◌, get_or-set_other, get_or-set_same}
use Rattle.std.specs.List.{slice_get}
use Rattle.std.specs.Option.{option_map}
use Rattle.signals.specs.Kind.{Kind, Laws}
use Rattle.banks.specs.Marks.{past, shown}

module _ {S : Type 0} (k : Kind S) where
  pub slice_get-shown : (ms : List Bool) (xs : List S) (i : ℕ) → slice_get (shown k ms xs) i ≡ option_map (past k (get_or ms i false)) (slice_get xs i)
  slice_get-shown [] [] i = refl
  slice_get-shown [] (x ∷ xs) zero = refl
  slice_get-shown [] (x ∷ xs) (suc i) = slice_get-shown [] xs i
  slice_get-shown (m ∷ ms) [] i = refl
  slice_get-shown (m ∷ ms) (x ∷ xs) zero = refl
  slice_get-shown (m ∷ ms) (x ∷ xs) (suc i) = slice_get-shown ms xs i

  pub shown_unmarked : (n : ℕ) (xs : List S) → shown k (replicate n false) xs ≡ xs
  shown_unmarked zero xs = refl
  shown_unmarked (suc n) [] = refl
  shown_unmarked (suc n) (x ∷ xs) = ap (λ ys. x ∷ ys) (shown_unmarked n xs)

  pub marked_here : (ms : List Bool) (xs : List S) (i : ℕ) (m : Bool) → i < length ms → slice_get (shown k (set ms i m) xs) i ≡ option_map (past k m) (slice_get xs i)
  marked_here ms xs i m h = slice_get-shown (set ms i m) xs i ∙ ap (λ (b : Bool). option_map (past k b) (slice_get xs i)) (get_or-set_same ms i m false h)

  pub marked_elsewhere : (ms : List Bool) (xs : List S) (i : ℕ) (m : Bool) (j : ℕ) → j ≢ i → slice_get (shown k (set ms i m) xs) j ≡ slice_get (shown k ms xs) j
  marked_elsewhere ms xs i m j n = slice_get-shown (set ms i m) xs j ∙ ap (λ (b : Bool). option_map (past k b) (slice_get xs j)) (get_or-set_other ms i j m false n) ∙ sym (slice_get-shown ms xs j)

  module _ (laws : Laws k) where
    past_twice : (m : Bool) (x : S) → past k m (past k m x) ≡ x
    past_twice true x = laws.inverse_twice x
    past_twice false x = refl

    pub set-shown : (ms : List Bool) (xs : List S) (i : ℕ) (s : S) → shown k ms (set xs i (past k (get_or ms i false) s)) ≡ set (shown k ms xs) i s
    set-shown [] xs i s = refl
    set-shown (m ∷ ms) [] i s = refl
    set-shown (m ∷ ms) (x ∷ xs) zero s = ap (λ y. y ∷ shown k ms xs) (past_twice m s)
    set-shown (m ∷ ms) (x ∷ xs) (suc i) s = ap (λ ys. past k m x ∷ ys) (set-shown ms xs i s)

    -- the same marks twice show what lies below
    pub shown_twice : (ms : List Bool) (xs : List S) → shown k ms (shown k ms xs) ≡ xs
    shown_twice [] xs = refl
    shown_twice (m ∷ ms) [] = refl
    shown_twice (m ∷ ms) (x ∷ xs) = ap (λ y. y ∷ shown k ms (shown k ms xs)) (past_twice m x) ∙ ap (λ ys. x ∷ ys) (shown_twice ms xs)
