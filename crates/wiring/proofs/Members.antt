-- Members of joined lists, and a list without one of its members.
use Rattle.std.proofs.Common.{◌≡◌, suc, ◌+◌, ◌≢◌, ◌⊎◌, List, [], ◌∷◌, ◌++◌, length, sym, refl, ap, ◌∙◌, subst, inl, inr, ⊎_elim, arith, length-append}
use Rattle.wiring.specs.Lists.{In, Distinct}

-- every member of p is one of l
abbrev pub Over : {A : Type 0} → List A → List A → Type 0
Over {A} l p = (x : A) → In x p → In x l

pub in_left : {A : Type 0} (x : A) (l k : List A) → In x l → In x (l ++ k)
in_left x [] k i = absurd i
in_left x (y ∷ l) k (inl e) = inl e
in_left x (y ∷ l) k (inr i) = inr (in_left x l k i)

pub in_right : {A : Type 0} (x : A) (l k : List A) → In x k → In x (l ++ k)
in_right x [] k i = i
in_right x (y ∷ l) k i = inr (in_right x l k i)

pub in_split : {A : Type 0} (x : A) (l k : List A) → In x (l ++ k) → In x l ⊎ In x k
in_split x [] k i = inr i
in_split x (y ∷ l) k (inl e) = inl (inl e)
in_split x (y ∷ l) k (inr i) = ⊎_elim (λ j. inl (inr j)) inr (in_split x l k i)

pub distinct_join : {A : Type 0} (l k : List A) → Distinct l → Distinct k → ((x : A) → In x l → In x k → ⊥) → Distinct (l ++ k)
distinct_join [] k d e f = e
distinct_join (x ∷ l) k d e f = (λ i. ⊎_elim d.0 (f x (inl refl)) (in_split x l k i), distinct_join l k d.1 e (λ z i j. f z (inr i) j))

pub distinct_left : {A : Type 0} (l k : List A) → Distinct (l ++ k) → Distinct l
distinct_left [] k d = tt
distinct_left (x ∷ l) k d = (λ i. d.0 (in_left x l k i), distinct_left l k d.1)

pub distinct_right : {A : Type 0} (l k : List A) → Distinct (l ++ k) → Distinct k
distinct_right [] k d = d
distinct_right (x ∷ l) k d = distinct_right l k d.1

pub distinct_apart : {A : Type 0} (l k : List A) → Distinct (l ++ k) → (x : A) → In x l → In x k → ⊥
distinct_apart [] k d x i j = i
distinct_apart (y ∷ l) k d x (inl e) j = d.0 (in_right y l k (subst (λ z. In z k) e j))
distinct_apart (y ∷ l) k d x (inr i) j = distinct_apart l k d.1 x i j

-- l is a, then x, then b
pub record Around {A : Type 0} (x : A) (l : List A) : Type 0 where
  pub a : List A
  pub b : List A
  pub whole : l ≡ a ++ (x ∷ b)

pub around : {A : Type 0} (x : A) (l : List A) → In x l → Around x l
around x [] i = absurd i
around x (y ∷ l) (inl h) = record { a = []; b = l; whole = ap (λ z. z ∷ l) (sym h) }
around x (y ∷ l) (inr i) = let r = around x l i in record { a = y ∷ r.a; b = r.b; whole = ap (λ z. y ∷ z) r.whole }

-- what is left without x
module _ {A : Type 0} (x : A) (l : List A) (r : Around x l) where
  pub one_less : length l ≡ suc (length (r.a ++ r.b))
  one_less =
      let p : length l ≡ length r.a + length (x ∷ r.b) = ap length r.whole ∙ length-append r.a (x ∷ r.b) in
      let q = length-append r.a r.b in
      omega arith

  pub without : (y : A) → In y l → y ≢ x → In y (r.a ++ r.b)
  without y i n =
      ⊎_elim (in_left y r.a r.b) (⊎_elim (λ h. absurd (n h)) (in_right y r.a r.b))
      (in_split y r.a (x ∷ r.b) (subst (λ z. In y z) r.whole i))

  pub within : (y : A) → In y (r.a ++ r.b) → In y l
  within y i =
      subst (λ z. In y z) (sym r.whole)
      (⊎_elim (in_left y r.a (x ∷ r.b)) (λ j. in_right y r.a (x ∷ r.b) (inr j)) (in_split y r.a r.b i))

  pub still_distinct : Distinct l → Distinct (r.a ++ r.b)
  still_distinct d =
      let e : Distinct (r.a ++ (x ∷ r.b)) = subst (λ z. Distinct z) r.whole d in
      distinct_join r.a r.b (distinct_left r.a (x ∷ r.b) e) (distinct_right r.a (x ∷ r.b) e).1 (λ y i j. distinct_apart r.a (x ∷ r.b) e y i (inr j))

  pub others : Distinct l → (y : A) → In y (r.a ++ r.b) → y ≢ x
  others d y i q =
      let e : Distinct (r.a ++ (x ∷ r.b)) = subst (λ z. Distinct z) r.whole d in
      ⊎_elim (λ k. distinct_apart r.a (x ∷ r.b) e y k (inl q)) (λ k. (distinct_right r.a (x ∷ r.b) e).0 (subst (λ z. In z r.b) q k)) (in_split y r.a r.b i)
