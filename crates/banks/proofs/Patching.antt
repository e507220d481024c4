-- A patch board, point by point.
use Rattle.std.proofs.Common.{◌≡◌, ℕ, ◌<◌, ◌≤◌, true, false, cond, ◌&&◌, ltb, leb, ◌⊎◌, List, length, get_or, set, Some, sym, refl, ap, ◌∙◌, subst, inl, inr, ⊎_elim, zero-add, arith, length-set, get_or-set_other, get_or-set_same}
use Rattle.std.specs.List.{slice_get}
use Rattle.std.proofs.lemmas.List.FromFn.{get_or-map-range_with_len}
use Rattle.std.proofs.lemmas.List.{ext_get_or}
use Rattle.std.proofs.lemmas.Option.{slice_get-get_or, slice_get_past}
use Rattle.std.proofs.lemmas.Bool.{cases_eq, cases_lt, lt-ltb, le-ltb, le-leb, lt-leb, ltb-true, and_from, and_right, and_parts, cond-true, cond-false, cases_Bool}
use Rattle.signals.specs.Kind.{Kind}
use Rattle.banks.specs.Patches.{Within, Apart, Straight, inputs, swapped, rewired, place, patched, repatched}
use Rattle.banks.specs.Short.{length-patched}
use Rattle.banks.proofs.Swapping.{origin, origin_below, origin_far, origin_twice, length-swapped, get_or-swapped, swapped_twice}

-- what a table's type keeps
pub record Permutation (to : List ℕ) : Type 0 where
  pub whole : length to ≡ 256
  pub within : Within to
  pub apart : Apart to

place_in : (to : List ℕ) (n i : ℕ) → 256 ≤ n → i < 256 → place to n i ≡ get_or to i 0
place_in to n i h k = rw (le-leb 256 n h, lt-ltb i 256 k)

place_far : (to : List ℕ) (n i : ℕ) → 256 ≤ i → place to n i ≡ i
place_far to n i k = elim (leb 256 n) as (λ v. cond (v && ltb i 256) (get_or to i 0) i ≡ i) [ true ↦ rw (le-ltb i 256 k) | false ↦ refl ]

place-small : (to : List ℕ) (n i : ℕ) → n < 256 → place to n i ≡ i
place-small to n i h = rw (lt-leb 256 n h)

module _ {S : Type 0} (k : Kind S) (to : List ℕ) (xs : List S) where
  pub get_or-patched : (i : ℕ) → i < length xs → get_or (patched k to xs) i k.off ≡ get_or xs (place to (length xs) i) k.off
  get_or-patched i h = get_or-map-range_with_len (λ j. get_or xs (place to (length xs) j) k.off) 0 (length xs) i i k.off h (zero-add i)

  -- a board that leads each point to itself shows the bank as it is
  at_home : ((i : ℕ) → i < length xs → place to (length xs) i ≡ i) → patched k to xs ≡ xs
  at_home e =
      ext_get_or k.off (patched k to xs) xs (length-patched k to xs)
      (λ i h. let l : i < length xs = subst (λ (n : ℕ). i < n) (length-patched k to xs) h in get_or-patched i l ∙ ap (λ (j : ℕ). get_or xs j k.off) (e i l))

  pub patched_small : length xs < 256 → patched k to xs ≡ xs
  patched_small h = at_home (λ i _. place-small to (length xs) i h)

  pub patched-straight : Straight to → patched k to xs ≡ xs
  patched-straight s =
      at_home (λ i _. ⊎_elim (λ h. place-small to (length xs) i h) (λ h. ⊎_elim (λ l. place_in to (length xs) i h l ∙ s i l) (λ l. place_far to (length xs) i l) (cases_lt i 256)) (cases_lt (length xs) 256))

module _ (to : List ℕ) (p : Permutation to) where
  -- a point lies at the number in the table, or where it is
  ways : (n i : ℕ) → ((256 ≤ n) × (i < 256) × (place to n i ≡ get_or to i 0) × (get_or to i 0 < 256)) ⊎ ((place to n i ≡ i) × ((n < 256) ⊎ (256 ≤ i)))
  ways n i = ⊎_elim (λ h. inr (place-small to n i h, inl h)) (λ h. ⊎_elim (λ l. inl (h, l, place_in to n i h l, p.within i l)) (λ l. inr (place_far to n i l, inr l)) (cases_lt i 256)) (cases_lt n 256)

  place-below : (n i : ℕ) → i < n → place to n i < n
  place-below n i h = ⊎_elim (λ w. omega arith) (λ w. omega arith) (ways n i)

  place-past : (n i : ℕ) → n ≤ i → place to n i ≡ i
  place-past n i h = ⊎_elim (λ w. absurd (omega arith)) (λ w. w.0) (ways n i)

  pub place_test : (n i : ℕ) → ltb (place to n i) n ≡ ltb i n
  place_test n i = ⊎_elim (λ h. lt-ltb (place to n i) n (place-below n i h) ∙ sym (lt-ltb i n h)) (λ h. ap (λ j. ltb j n) (place-past n i h)) (cases_lt i n)

  place-apart : (n i j : ℕ) → place to n i ≡ place to n j → i ≡ j
  place-apart n i j e =
      ⊎_elim
      (λ v. ⊎_elim
      (λ w. p.apart i j (v.1, w.1, sym v.2 ∙ e ∙ w.2))
      (λ w. ⊎_elim (λ s. absurd (omega arith)) (λ s. absurd (omega arith)) w.1)
      (ways n j))
      (λ v. ⊎_elim
      (λ w. ⊎_elim (λ s. absurd (omega arith)) (λ s. absurd (omega arith)) v.1)
      (λ w. sym v.0 ∙ e ∙ w.0)
      (ways n j))
      (ways n i)

  module _ {S : Type 0} (k : Kind S) (xs : List S) where
    pub slice_get-patched : (i : ℕ) → slice_get (patched k to xs) i ≡ slice_get xs (place to (length xs) i)
    slice_get-patched i =
        ⊎_elim
        (λ h. let l : i < length (patched k to xs) = subst (λ (n : ℕ). i < n) (sym (length-patched k to xs)) h in
        slice_get-get_or (patched k to xs) i k.off l ∙ ap Some (get_or-patched k to xs i h) ∙ sym (slice_get-get_or xs (place to (length xs) i) k.off (place-below (length xs) i h)))
        (λ h. let l : length (patched k to xs) ≤ i = subst (λ (n : ℕ). n ≤ i) (sym (length-patched k to xs)) h in
        slice_get_past (patched k to xs) i l ∙ sym (slice_get_past xs i h) ∙ ap (slice_get xs) (sym (place-past (length xs) i h)))
        (cases_lt i (length xs))

    pub set-patched : (i : ℕ) (s : S) → patched k to (set xs (place to (length xs) i) s) ≡ set (patched k to xs) i s
    set-patched i s =
        let d = k.off in
        let r = place to (length xs) i in
        let ys = set xs (place to (length xs) i) s in
        let ly : length (set xs (place to (length xs) i) s) ≡ length xs = length-set xs r s in
        ext_get_or d (patched k to ys) (set (patched k to xs) i s)
        (length-patched k to ys ∙ ly ∙ sym (length-patched k to xs) ∙ sym (length-set (patched k to xs) i s))
        (λ j hj.
        let h : j < length xs = subst (λ (n : ℕ). j < n) (length-patched k to ys ∙ ly) hj in
        let hy : j < length ys = subst (λ (n : ℕ). j < n) (length-patched k to ys) hj in
        let hp : j < length (patched k to xs) = subst (λ (n : ℕ). j < n) (sym (length-patched k to xs)) h in
        get_or-patched k to ys j hy ∙ ap (λ (n : ℕ). get_or ys (place to n j) d) ly ∙
        ⊎_elim
        (λ e. ap (λ (q : ℕ). get_or ys (place to (length xs) q) d) e ∙ get_or-set_same xs r s d (place-below (length xs) i (subst (λ (q : ℕ). q < length xs) e h))
        ∙ sym (ap (λ (q : ℕ). get_or (set (patched k to xs) i s) q d) e ∙ get_or-set_same (patched k to xs) i s d (subst (λ (q : ℕ). q < length (patched k to xs)) e hp)))
        (λ n. get_or-set_other xs r (place to (length xs) j) s d (λ e. n (place-apart (length xs) j i e)) ∙ sym (get_or-patched k to xs j h) ∙ sym (get_or-set_other (patched k to xs) i j s d n))
        (cases_eq j i))

-- an exchange, in the table and in what the board shows
module _ (to : List ℕ) (whole : length to ≡ 256) (a b : ℕ) (ha : a < 256) (hb : b < 256) where
  both : inputs a b ≡ true
  both = and_from (ltb a 256) (ltb b 256) (lt-ltb a 256 ha) (lt-ltb b 256 hb)

  ta : a < length to
  ta = omega arith

  tb : b < length to
  tb = omega arith

  pub swapped-rewired : swapped 0 to a b ≡ rewired to a b
  swapped-rewired = sym (cond-true (inputs a b) (swapped 0 to a b) to both)

  pub permutation_swapped : Permutation to → Permutation (swapped 0 to a b)
  permutation_swapped p =
      record {
        whole = length-swapped a b 0 to ta tb ∙ whole;
        within = λ i h. subst (λ (n : ℕ). n < 256) (sym (get_or-swapped a b 0 to ta tb i)) (p.within (origin a b i) (origin_below a b 256 i ha hb h));
        apart = λ i j h.
            let e : origin a b i ≡ origin a b j = p.apart (origin a b i) (origin a b j) (origin_below a b 256 i ha hb h.0, origin_below a b 256 j ha hb h.1, sym (get_or-swapped a b 0 to ta tb i) ∙ h.2 ∙ get_or-swapped a b 0 to ta tb j) in
            sym (origin_twice a b i) ∙ ap (origin a b) e ∙ origin_twice a b j;
      }

  place-swapped : (n j : ℕ) → 256 ≤ n → place (swapped 0 to a b) n j ≡ place to n (origin a b j)
  place-swapped n j h =
      ⊎_elim
      (λ l. place_in (swapped 0 to a b) n j h l ∙ get_or-swapped a b 0 to ta tb j ∙ sym (place_in to n (origin a b j) h (origin_below a b 256 j ha hb l)))
      (λ l. let e : origin a b j ≡ j = origin_far a b 256 j ha hb l in place_far (swapped 0 to a b) n j l ∙ sym (ap (place to n) e ∙ place_far to n j l))
      (cases_lt j 256)

  module _ {S : Type 0} (k : Kind S) (xs : List S) where
    patched-swapped : 256 ≤ length xs → patched k (swapped 0 to a b) xs ≡ swapped k.off (patched k to xs) a b
    patched-swapped h =
        let d = k.off in
        let ys = patched k to xs in
        let ly : length (patched k to xs) ≡ length xs = length-patched k to xs in
        let lz : length (patched k (swapped 0 to a b) xs) ≡ length xs = length-patched k (swapped 0 to a b) xs in
        let ya : a < length (patched k to xs) = omega arith in
        let yb : b < length (patched k to xs) = omega arith in
        ext_get_or d (patched k (swapped 0 to a b) xs) (swapped d ys a b)
        (lz ∙ sym ly ∙ sym (length-swapped a b d ys ya yb))
        (λ j hj.
        let l : j < length xs = omega arith in
        let xa : a < length xs = omega arith in
        let xb : b < length xs = omega arith in
        get_or-patched k (swapped 0 to a b) xs j l ∙ ap (λ (i : ℕ). get_or xs i d) (place-swapped (length xs) j h)
        ∙ sym (get_or-patched k to xs (origin a b j) (origin_below a b (length xs) j xa xb l)) ∙ sym (get_or-swapped a b d ys ya yb j))

    pub patched-rewired : patched k (swapped 0 to a b) xs ≡ repatched k (patched k to xs) a b
    patched-rewired =
        let ys = patched k to xs in
        let ly : length (patched k to xs) ≡ length xs = length-patched k to xs in
        ⊎_elim
        (λ h. let m : length (patched k to xs) < 256 = omega arith in
        patched_small k (swapped 0 to a b) xs h ∙ sym (patched_small k to xs h)
        ∙ sym (cond-false (inputs a b && leb 256 (length ys)) (swapped k.off ys a b) ys (and_right (inputs a b) (leb 256 (length ys)) (lt-leb 256 (length ys) m))))
        (λ h. let m : 256 ≤ length (patched k to xs) = omega arith in
        patched-swapped h ∙ sym (cond-true (inputs a b && leb 256 (length ys)) (swapped k.off ys a b) ys (and_from (inputs a b) (leb 256 (length ys)) both (le-leb 256 (length ys) m))))
        (cases_lt (length xs) 256)

-- an exchange followed by the same exchange
pub rewired_twice : (to : List ℕ) → length to ≡ 256 → (a b : ℕ) → rewired (rewired to a b) a b ≡ to
rewired_twice to whole a b =
    ⊎_elim
    (λ t.
    let p = and_parts (ltb a 256) (ltb b 256) t in
    let ha : a < length to = omega (arith, ltb-true a 256 p.0) in
    let hb : b < length to = omega (arith, ltb-true b 256 p.1) in
    cond-true (inputs a b) (swapped 0 (rewired to a b) a b) (rewired to a b) t
    ∙ ap (λ (us : List ℕ). swapped 0 us a b) (cond-true (inputs a b) (swapped 0 to a b) to t)
    ∙ swapped_twice a b 0 to ha hb)
    (λ f. cond-false (inputs a b) (swapped 0 (rewired to a b) a b) (rewired to a b) f ∙ cond-false (inputs a b) (swapped 0 to a b) to f)
    (cases_Bool (inputs a b))
