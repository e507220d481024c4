-- The links and joints at the two ends of a wiring.
use Rattle.std.proofs.Common.{◌≡◌, ℕ, ◌≢◌, ◌⊎◌, List, ◌++◌, sym, refl, ap, ◌∙◌, subst, inl, inr, ⊎_elim}
use Rattle.wiring.specs.Lists.{In}
use Rattle.wiring.specs.Wiring.{Wiring, link, series, parallel, leaves, Joint, Runs}
use Rattle.wiring.proofs.Members.{in_left, in_right, in_split}

module _ {L : Type 0} (ends : L → ℕ × ℕ) where
  pub joint_left : (y : ℕ) (l k : List L) → Joint ends y l → Joint ends y (l ++ k)
  joint_left y l k j = (j.0, in_left j.0 l k j.1, j.2)

  pub joint_right : (y : ℕ) (l k : List L) → Joint ends y k → Joint ends y (l ++ k)
  joint_right y l k j = (j.0, in_right j.0 l k j.1, j.2)

  pub joint_split : (y : ℕ) (l k : List L) → Joint ends y (l ++ k) → Joint ends y l ⊎ Joint ends y k
  joint_split y l k j = ⊎_elim (λ i. inl (j.0, i, j.2)) (λ i. inr (j.0, i, j.2)) (in_split j.0 l k j.1)

  -- a first link, and a last one
  pub first_link : (w : Wiring L) (s t : ℕ) → Runs ends w s t → (e : L) × In e (leaves w) × ((ends e).0 ≡ s)
  first_link (link e) s t r = (e, inl refl, r.0)
  first_link (series a b) s t r = let f = first_link a s r.0 r.1 in (f.0, in_left f.0 (leaves a) (leaves b) f.1, f.2)
  first_link (parallel a b) s t r = let f = first_link a s t r.0 in (f.0, in_left f.0 (leaves a) (leaves b) f.1, f.2)

  pub last_link : (w : Wiring L) (s t : ℕ) → Runs ends w s t → (e : L) × In e (leaves w) × ((ends e).1 ≡ t)
  last_link (link e) s t r = (e, inl refl, r.1)
  last_link (series a b) s t r = let f = last_link b r.0 t r.2 in (f.0, in_right f.0 (leaves a) (leaves b) f.1, f.2)
  last_link (parallel a b) s t r = let f = last_link b s t r.1 in (f.0, in_right f.0 (leaves a) (leaves b) f.1, f.2)

  pub joint_first : (w : Wiring L) (s t : ℕ) → Runs ends w s t → Joint ends s (leaves w)
  joint_first w s t r = let f = first_link w s t r in (f.0, f.1, inl f.2)

  pub joint_last : (w : Wiring L) (s t : ℕ) → Runs ends w s t → Joint ends t (leaves w)
  joint_last w s t r = let f = last_link w s t r in (f.0, f.1, inr f.2)

  pub apart : (w : Wiring L) (s t : ℕ) → Runs ends w s t → s ≢ t
  apart (link e) s t r = r.2
  apart (series a b) s t r = λ p. apart a s r.0 r.1 (r.3 s (joint_first a s r.0 r.1) (subst (λ z. Joint ends z (leaves b)) (sym p) (joint_last b r.0 t r.2)))
  apart (parallel a b) s t r = apart a s t r.0

  -- nothing goes into the start, or comes from the end
  pub none_into : (w : Wiring L) (s t : ℕ) → Runs ends w s t → (e : L) → In e (leaves w) → (ends e).1 ≢ s
  none_into (link e) s t r x (inl h) = λ p. r.2 (sym p ∙ ap (λ z. (ends z).1) h ∙ r.1)
  none_into (link e) s t r x (inr h) = absurd h
  none_into (series a b) s t r x i =
      ⊎_elim (none_into a s r.0 r.1 x) (λ j p. apart a s r.0 r.1 (r.3 s (joint_first a s r.0 r.1) (x, j, inr p))) (in_split x (leaves a) (leaves b) i)
  none_into (parallel a b) s t r x i = ⊎_elim (none_into a s t r.0 x) (none_into b s t r.1 x) (in_split x (leaves a) (leaves b) i)

  pub none_from : (w : Wiring L) (s t : ℕ) → Runs ends w s t → (e : L) → In e (leaves w) → (ends e).0 ≢ t
  none_from (link e) s t r x (inl h) = λ p. r.2 (sym r.0 ∙ ap (λ z. (ends z).0) (sym h) ∙ p)
  none_from (link e) s t r x (inr h) = absurd h
  none_from (series a b) s t r x i =
      ⊎_elim (λ j p. apart b r.0 t r.2 (sym (r.3 t (x, j, inl p) (joint_last b r.0 t r.2)))) (none_from b r.0 t r.2 x) (in_split x (leaves a) (leaves b) i)
  none_from (parallel a b) s t r x i = ⊎_elim (none_from a s t r.0 x) (none_from b s t r.1 x) (in_split x (leaves a) (leaves b) i)
