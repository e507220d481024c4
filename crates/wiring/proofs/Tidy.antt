-- The elimination on edges in rising order makes the steps of the relation.
use Rattle.std.proofs.Common.{◌≡◌, ℕ, zero, suc, ◌<◌, Bool, true, false, cond, not, ◌||◌, T, eqb, ltb, ◌≢◌, ◌⊎◌, List, [], ◌∷◌, length, sym, refl, ap, ◌∙◌, subst, ap₂, inl, inr, ⊎_elim, arith, ltb→lt, nltb→le}
use Rattle.std.proofs.lemmas.Bool.Decides.{eqb_tells}
use Rattle.wiring.specs.Lists.{In}
use Rattle.wiring.specs.Circuit.{Circuit}
use Rattle.wiring.specs.Elimination.{Edge, low_of, Rising, combined, Eligible, Step, edge_of, first-edges, Starts}
use Rattle.wiring.proofs.Readings.{Done, LowsApart}
use Rattle.wiring.proofs.Groups.{rising_++}
use Rattle.wiring.proofs.Soundness.{stays_apart}
use Rattle.wiring.proofs.Circuits.{starts, link_low}

-- the members that pass a test
abbrev pub sift : (Edge → Bool) → List Edge → List Edge
sift p [] = []
sift p (e ∷ l) = cond (p e) (e ∷ sift p l) (sift p l)

-- the edges into x, out of x, and neither
abbrev pub into_of : ℕ → List Edge → List Edge
into_of x A = sift (λ e. eqb e.to x) A

abbrev pub out_of : ℕ → List Edge → List Edge
out_of x A = sift (λ e. eqb e.from x) A

abbrev pub rest_of : ℕ → List Edge → List Edge
rest_of x A = sift (λ e. not (eqb e.from x || eqb e.to x)) A

-- put an edge at the place of its lowest link
abbrev pub insert : Edge → List Edge → List Edge
insert c [] = c ∷ []
insert c (e ∷ l) = cond (ltb (low_of c) (low_of e)) (c ∷ (e ∷ l)) (e ∷ insert c l)

-- one edge in the place of the joint x
abbrev pub eliminate : ℕ → ℕ → ℕ → List Edge → List Edge
eliminate x u w A = insert (combined u w (into_of x A) (out_of x A)) (rest_of x A)

true_false : true ≡ false → ⊥
true_false h = subst T h tt

in_sift : (p : Edge → Bool) (l : List Edge) (f : Edge) → In f (sift p l) → In f l × (p f ≡ true)
in_sift p [] f i = absurd i
in_sift p (e ∷ l) f i = go (p e) refl i (in_sift p l f)
  where
    go : (b : Bool) → p e ≡ b → In f (cond b (e ∷ sift p l) (sift p l)) → (In f (sift p l) → In f l × (p f ≡ true)) → In f (e ∷ l) × (p f ≡ true)
    go true q (inl h) k = (inl h, ap p h ∙ q)
    go true q (inr j) k = (inr (k j).0, (k j).1)
    go false q j k = (inr (k j).0, (k j).1)

sift_in : (p : Edge → Bool) (l : List Edge) (f : Edge) → In f l → p f ≡ true → In f (sift p l)
sift_in p [] f i h = absurd i
sift_in p (e ∷ l) f i h = go (p e) refl i (λ j. sift_in p l f j h)
  where
    go : (b : Bool) → p e ≡ b → In f (e ∷ l) → (In f l → In f (sift p l)) → In f (cond b (e ∷ sift p l) (sift p l))
    go true q (inl g) k = inl g
    go true q (inr j) k = inr (k j)
    go false q (inl g) k = absurd (true_false (sym h ∙ ap p g ∙ q))
    go false q (inr j) k = k j

rising_sift : (p : Edge → Bool) (l : List Edge) → Rising l → Rising (sift p l)
rising_sift p [] r = tt
rising_sift p (e ∷ l) r = go (p e) (rising_sift p l r.1)
  where
    go : (b : Bool) → Rising (sift p l) → Rising (cond b (e ∷ sift p l) (sift p l))
    go true k = (λ f i. r.0 f (in_sift p l f i).0, k)
    go false k = k

in_insert : (c : Edge) (l : List Edge) (f : Edge) → In f (insert c l) → (f ≡ c) ⊎ In f l
in_insert c [] f i = i
in_insert c (e ∷ l) f i = go (ltb (low_of c) (low_of e)) i (in_insert c l f)
  where
    go : (b : Bool) → In f (cond b (c ∷ (e ∷ l)) (e ∷ insert c l)) → (In f (insert c l) → (f ≡ c) ⊎ In f l) → (f ≡ c) ⊎ In f (e ∷ l)
    go true j k = j
    go false (inl h) k = inr (inl h)
    go false (inr j) k = ⊎_elim inl (λ m. inr (inr m)) (k j)

insert_in : (c : Edge) (l : List Edge) (f : Edge) → (f ≡ c) ⊎ In f l → In f (insert c l)
insert_in c [] f i = i
insert_in c (e ∷ l) f i = go (ltb (low_of c) (low_of e)) i (insert_in c l f)
  where
    go : (b : Bool) → (f ≡ c) ⊎ In f (e ∷ l) → ((f ≡ c) ⊎ In f l → In f (insert c l)) → In f (cond b (c ∷ (e ∷ l)) (e ∷ insert c l))
    go true j k = j
    go false (inl h) k = inr (k (inl h))
    go false (inr (inl h)) k = inl h
    go false (inr (inr j)) k = inr (k (inr j))

rising_insert : (c : Edge) (l : List Edge) → Rising l → ((e : Edge) → In e l → low_of e ≢ low_of c) → Rising (insert c l)
rising_insert c [] r n = ((λ f i. absurd i), tt)
rising_insert c (e ∷ l) r n = go (ltb (low_of c) (low_of e)) refl (rising_insert c l r.1 (λ f i. n f (inr i)))
  where
    go : (b : Bool) → ltb (low_of c) (low_of e) ≡ b → Rising (insert c l) → Rising (cond b (c ∷ (e ∷ l)) (e ∷ insert c l))
    go true q k =
        let h : low_of c < low_of e = ltb→lt (low_of c) (low_of e) (subst T (sym q) tt) in
        ((λ f. elim [ inl g ↦ subst (λ z. low_of c < low_of z) (sym g) h | inr i ↦ let m = r.0 f i in omega arith ]), r)
    go false q k =
        let a = nltb→le (low_of c) (low_of e) (subst (λ z. T (not z)) (sym q) tt) in
        let b = n e (inl refl) in
        let h : low_of e < low_of c = omega arith in
        ((λ f i. ⊎_elim (λ g. subst (λ z. low_of e < low_of z) (sym g) h) (r.0 f) (in_insert c l f i)), k)

pub rising_apart : (l : List Edge) → Rising l → LowsApart l
rising_apart [] r e f i j h = absurd i
rising_apart (x ∷ l) r e f (inl p) (inl q) h = p ∙ sym q
rising_apart (x ∷ l) r e f (inl p) (inr j) h = let m = r.0 f j in let k = ap (λ z. low_of z) p in absurd (omega arith)
rising_apart (x ∷ l) r e f (inr i) (inl q) h = let m = r.0 e i in let k = ap (λ z. low_of z) q in absurd (omega arith)
rising_apart (x ∷ l) r e f (inr i) (inr j) h = rising_apart l r.1 e f i j h

eq_of : (a b : ℕ) → eqb a b ≡ true → a ≡ b
eq_of a b h = ⊎_elim (λ p. p.1) (λ p. absurd (true_false (sym h ∙ p.0))) (eqb_tells a b)

of_eq : (a b : ℕ) → a ≡ b → eqb a b ≡ true
of_eq a b h = ⊎_elim (λ p. p.0) (λ p. absurd (p.1 h)) (eqb_tells a b)

neither : (a b x : ℕ) → not (eqb a x || eqb b x) ≡ true → (a ≢ x) × (b ≢ x)
neither a b x h = (
  λ p. true_false (sym h ∙ ap (λ z. not (z || eqb b x)) (of_eq a x p)),
  λ p. true_false (sym h ∙ ap (λ z. not (eqb a x || z)) (of_eq b x p) ∙ last (eqb a x)),
)
  where
    last : (z : Bool) → not (z || true) ≡ false
    last true = refl
    last false = refl

of_neither : (a b x : ℕ) → a ≢ x → b ≢ x → not (eqb a x || eqb b x) ≡ true
of_neither a b x p q =
    ap₂ (λ y z. not (y || z)) (⊎_elim (λ h. absurd (p h.1)) (λ h. h.0) (eqb_tells a x)) (⊎_elim (λ h. absurd (q h.1)) (λ h. h.0) (eqb_tells b x))

tidied : (A : List Edge) (x u w : ℕ) → Rising A → Eligible A x u w → Step A x u w (eliminate x u w A)
tidied A x u w r m = record {
  may = m;
  into = into_of x A;
  out = out_of x A;
  into_rises = rising_sift (λ e. eqb e.to x) A r;
  out_rises = rising_sift (λ e. eqb e.from x) A r;
  into_are = λ e. ((λ i. let k = in_sift (λ e. eqb e.to x) A e i in (k.0, eq_of e.to x k.1)), λ k. sift_in (λ e. eqb e.to x) A e k.0 (of_eq e.to x k.1));
  out_are = λ e. ((λ i. let k = in_sift (λ e. eqb e.from x) A e i in (k.0, eq_of e.from x k.1)), λ k. sift_in (λ e. eqb e.from x) A e k.0 (of_eq e.from x k.1));
  left = λ e. (
    (λ i. ⊎_elim inl
        (λ j. let k = in_sift (λ e. not (eqb e.from x || eqb e.to x)) A e j in let n = neither e.from e.to x k.1 in inr (k.0, n.0, n.1))
        (in_insert (combined u w (into_of x A) (out_of x A)) (rest_of x A) e i)),
    λ k. insert_in (combined u w (into_of x A) (out_of x A)) (rest_of x A) e
        (⊎_elim inl (λ p. inr (sift_in (λ e. not (eqb e.from x || eqb e.to x)) A e p.0 (of_neither e.from e.to x p.1 p.2))) k),
  );
}

pub tidy_step : (A : List Edge) (x u w : ℕ) → Rising A → Eligible A x u w → Step A x u w (eliminate x u w A) × Rising (eliminate x u w A)
unfolding tidied
tidy_step A x u w r m =
    let S = tidied A x u w r m in (
      S,
      rising_insert (combined u w (into_of x A) (out_of x A)) (rest_of x A) (rising_sift (λ e. not (eqb e.from x || eqb e.to x)) A r)
          (λ e i.
          let k = in_sift (λ e. not (eqb e.from x || eqb e.to x)) A e i in
          let n = neither e.from e.to x k.1 in
          stays_apart A (eliminate x u w A) x u w (rising_apart A r) S e k.0 n.0 n.1),
    )

first_rise : (g : Circuit) (n : ℕ) → Rising (first-edges g n)
first_rise g zero = tt
first_rise g (suc n) =
    rising_++ (first-edges g n) (edge_of g n ∷ []) (first_rise g n) ((λ f i. absurd i), tt)
    (λ e f i. elim [
      | inl h ↦
          let k = (starts g n e).0 i in
          let a = k.1 in
          let p : low_of e ≡ k.0 = ap (λ z. low_of z) k.2 ∙ link_low k.0 in
          let q : low_of f ≡ n = ap (λ z. low_of z) h ∙ link_low n in
          omega arith
      | inr j ↦ absurd j
    ])

pub tidy_start : (g : Circuit) → Rising (first-edges g (length g.links)) × Starts g (first-edges g (length g.links))
tidy_start g = (first_rise g (length g.links), starts g (length g.links))

pub tidy_end : (A : List Edge) (s t : ℕ) (e : Edge) → Rising A → In e A → ((f : Edge) → In f A → (f.from ≡ s) × (f.to ≡ t)) → Done s t A A
tidy_end A s t e r i a = record { some = (e, i); all = a; rises = r; are = λ f. ((λ j. j), λ j. j) }
