-- What open brackets have set aside.
use Rattle.std.proofs.Common.{◌≡◌, ◌<◌, min, List, [], ◌∷◌, ◌++◌, length, get_or, set, reverse, refl, ap, ◌∙◌, arith}
use Rattle.std.proofs.lemmas.List.{reverse-append, length-reverse}
use Rattle.std.proofs.lemmas.Slice.Zip.{length-zip}
use Rattle.std.specs.List.{zip}

module _ {X Y : Type 0} where
  zip_none : (xs : List X) → zip {X = Y} xs [] ≡ []
  zip_none [] = refl
  zip_none (x ∷ xs) = refl

  zip_last : (xs : List X) (ys : List Y) (x : X) (y : Y) → length ys < length xs → zip xs (ys ++ y ∷ []) ≡ zip xs ys ++ (get_or xs (length ys) x, y) ∷ []
  zip_last [] ys x y h = absurd (omega arith)
  zip_last (z ∷ xs) [] x y h = ap (λ l. (z, y) ∷ l) (zip_none xs)
  zip_last (z ∷ xs) (w ∷ ys) x y h = ap (λ l. (z, w) ∷ l) (zip_last xs ys x y (omega arith))

  zip_set : (xs : List X) (ys : List Y) (x : X) (y : Y) → length ys < length xs → zip (set xs (length ys) x) (ys ++ y ∷ []) ≡ zip xs ys ++ (x, y) ∷ []
  zip_set [] ys x y h = absurd (omega arith)
  zip_set (z ∷ xs) [] x y h = ap (λ l. (x, y) ∷ l) (zip_none xs)
  zip_set (z ∷ xs) (w ∷ ys) x y h = ap (λ l. (z, w) ∷ l) (zip_set xs ys x y (omega arith))

  -- a pile is as high as the shorter of its two lists
  pub length_pile : (xs : List X) (ys : List Y) → length (reverse (zip xs ys)) ≡ min (length xs) (length ys)
  length_pile xs ys = length-reverse (zip xs ys) ∙ length-zip xs ys

  -- what is set aside lies on top
  pub pile_more : (xs : List X) (ys : List Y) (x : X) (y : Y) → length ys < length xs → reverse (zip (set xs (length ys) x) (ys ++ y ∷ [])) ≡ (x, y) ∷ reverse (zip xs ys)
  pile_more xs ys x y h = ap reverse (zip_set xs ys x y h) ∙ reverse-append (zip xs ys) ((x, y) ∷ [])

  -- what lies on top is what was set aside last
  pub pile_last : (xs : List X) (ys : List Y) (x : X) (y : Y) → length ys < length xs → reverse (zip xs (ys ++ y ∷ [])) ≡ (get_or xs (length ys) x, y) ∷ reverse (zip xs ys)
  pile_last xs ys x y h = ap reverse (zip_last xs ys x y h) ∙ reverse-append (zip xs ys) ((get_or xs (length ys) x, y) ∷ [])

  pub pile_none : (xs : List X) (ys : List Y) → ys ≡ [] → reverse (zip xs ys) ≡ []
  pile_none xs ys e = ap (λ l. reverse (zip xs l)) e ∙ ap reverse (zip_none xs)
