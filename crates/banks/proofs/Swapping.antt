-- Two entries of a list in each other's place, entry by entry.
use Rattle.std.proofs.Common.{◌≡◌, ℕ, ◌<◌, ◌≤◌, cond, eqb, ◌≢◌, ◌⊎◌, List, length, get_or, set, sym, refl, ap, ◌∙◌, subst, inl, inr, ⊎_elim, arith, length-set, get_or-set_other, get_or-set_same}
use Rattle.std.proofs.lemmas.List.{ext_get_or}
use Rattle.std.proofs.lemmas.Bool.{cases_eq, eq-eqb, ne_eqb, cond-true, cond-false}
use Rattle.banks.specs.Patches.{swapped}

module _ (a b : ℕ) where
  -- where an entry comes from
  abbrev pub origin : ℕ → ℕ
  origin j = cond (eqb j b) a (cond (eqb j a) b j)

  pub origin_ways : (j : ℕ) → ((j ≡ b) × (origin j ≡ a)) ⊎ (((j ≢ b) × (j ≡ a) × (origin j ≡ b)) ⊎ ((j ≢ b) × (j ≢ a) × (origin j ≡ j)))
  origin_ways j =
      ⊎_elim
      (λ e. inl (e, cond-true (eqb j b) a (cond (eqb j a) b j) (eq-eqb j b e)))
      (λ n. ⊎_elim
      (λ e. inr (inl (n, e, cond-false (eqb j b) a (cond (eqb j a) b j) (ne_eqb j b n) ∙ cond-true (eqb j a) b j (eq-eqb j a e))))
      (λ m. inr (inr (n, m, cond-false (eqb j b) a (cond (eqb j a) b j) (ne_eqb j b n) ∙ cond-false (eqb j a) b j (ne_eqb j a m))))
      (cases_eq j a))
      (cases_eq j b)

  pub origin_below : (n j : ℕ) → a < n → b < n → j < n → origin j < n
  origin_below n j ha hb h = ⊎_elim (λ w. omega arith) (λ v. ⊎_elim (λ w. omega arith) (λ w. omega arith) v) (origin_ways j)

  pub origin_far : (n j : ℕ) → a < n → b < n → n ≤ j → origin j ≡ j
  origin_far n j ha hb h = ⊎_elim (λ w. absurd (omega arith)) (λ v. ⊎_elim (λ w. absurd (omega arith)) (λ w. w.2) v) (origin_ways j)

  pub origin_twice : (j : ℕ) → origin (origin j) ≡ j
  origin_twice j =
      ⊎_elim
      (λ w. ap origin w.1 ∙ ⊎_elim (λ v. omega arith) (λ u. ⊎_elim (λ v. omega arith) (λ v. absurd (v.1 refl)) u) (origin_ways a))
      (λ u. ⊎_elim
      (λ w. ap origin w.2 ∙ ⊎_elim (λ v. v.1 ∙ sym w.1) (λ t. ⊎_elim (λ v. absurd (v.0 refl)) (λ v. absurd (v.0 refl)) t) (origin_ways b))
      (λ w. ap origin w.2 ∙ w.2)
      u)
      (origin_ways j)

  module _ {X : Type 0} (d : X) (xs : List X) (ha : a < length xs) (hb : b < length xs) where
    pub length-swapped : length (swapped d xs a b) ≡ length xs
    length-swapped = length-set (set xs a (get_or xs b d)) b (get_or xs a d) ∙ length-set xs a (get_or xs b d)

    pub get_or-swapped : (j : ℕ) → get_or (swapped d xs a b) j d ≡ get_or xs (origin j) d
    get_or-swapped j =
        let hs : b < length (set xs a (get_or xs b d)) = subst (λ (n : ℕ). b < n) (sym (length-set xs a (get_or xs b d))) hb in
        ⊎_elim
        (λ w. ap (λ (i : ℕ). get_or (swapped d xs a b) i d) w.0 ∙ get_or-set_same (set xs a (get_or xs b d)) b (get_or xs a d) d hs ∙ ap (λ (i : ℕ). get_or xs i d) (sym w.1))
        (λ u. ⊎_elim
        (λ w. get_or-set_other (set xs a (get_or xs b d)) b j (get_or xs a d) d w.0 ∙ ap (λ (i : ℕ). get_or (set xs a (get_or xs b d)) i d) w.1 ∙ get_or-set_same xs a (get_or xs b d) d ha ∙ ap (λ (i : ℕ). get_or xs i d) (sym w.2))
        (λ w. get_or-set_other (set xs a (get_or xs b d)) b j (get_or xs a d) d w.0 ∙ get_or-set_other xs a j (get_or xs b d) d w.1 ∙ ap (λ (i : ℕ). get_or xs i d) (sym w.2))
        u)
        (origin_ways j)

  pub swapped_twice : {X : Type 0} (d : X) (xs : List X) → a < length xs → b < length xs → swapped d (swapped d xs a b) a b ≡ xs
  swapped_twice d xs ha hb =
      let ys = swapped d xs a b in
      let l : length (swapped d xs a b) ≡ length xs = length-swapped d xs ha hb in
      let ya : a < length (swapped d xs a b) = subst (λ (n : ℕ). a < n) (sym l) ha in
      let yb : b < length (swapped d xs a b) = subst (λ (n : ℕ). b < n) (sym l) hb in
      ext_get_or d (swapped d ys a b) xs (length-swapped d ys ya yb ∙ l)
      (λ j _. get_or-swapped d ys ya yb j ∙ get_or-swapped d xs ha hb (origin j) ∙ ap (λ (i : ℕ). get_or xs i d) (origin_twice j))
