-- The ways through a wiring that reads a circuit are the paths of the circuit, each once.
use Rattle.std.proofs.Common.{◌≡◌, ℕ, ◌≢◌, ◌⊎◌, List, [], ◌∷◌, ◌++◌, sym, refl, ap, ◌∙◌, subst, inl, inr, ⊎_elim}
use Rattle.wiring.specs.Lists.{In, Distinct}
use Rattle.wiring.specs.Wiring.{Wiring, link, series, parallel, leaves, each, every, paths, Joint, Runs}
use Rattle.wiring.specs.Circuit.{coil_joint, ends}
use Rattle.wiring.specs.Paths.{Walk}
use Rattle.wiring.specs.Theorems.{PathsStand}
use Rattle.wiring.proofs.Members.{Over, in_left, in_right, in_split, distinct_join, distinct_left, distinct_right, distinct_apart}
use Rattle.wiring.proofs.Joints.{joint_first, joint_last, apart, none_into, none_from}

module _ {L : Type 0} where
  in_each : (p q : List L) (qs : List (List L)) → In q qs → In (p ++ q) (each p qs)
  in_each p q [] i = absurd i
  in_each p q (r ∷ qs) (inl h) = inl (ap (λ z. p ++ z) h)
  in_each p q (r ∷ qs) (inr i) = inr (in_each p q qs i)

  in_every : (p q : List L) (ps qs : List (List L)) → In p ps → In q qs → In (p ++ q) (every ps qs)
  in_every p q [] qs i j = absurd i
  in_every p q (r ∷ ps) qs (inl h) j = in_left (p ++ q) (each r qs) (every ps qs) (subst (λ z. In (p ++ q) (each z qs)) h (in_each p q qs j))
  in_every p q (r ∷ ps) qs (inr i) j = in_right (p ++ q) (each r qs) (every ps qs) (in_every p q ps qs i j)

  of_each : (p r : List L) (qs : List (List L)) → In r (each p qs) → (q : List L) × In q qs × (r ≡ p ++ q)
  of_each p r [] i = absurd i
  of_each p r (q ∷ qs) (inl h) = (q, inl refl, h)
  of_each p r (q ∷ qs) (inr i) = let k = of_each p r qs i in (k.0, inr k.1, k.2)

  of_every : (r : List L) (ps qs : List (List L)) → In r (every ps qs) → (p q : List L) × In p ps × In q qs × (r ≡ p ++ q)
  of_every r [] qs i = absurd i
  of_every r (p ∷ ps) qs i =
      ⊎_elim (λ j. let k = of_each p r qs j in (p, k.0, inl refl, k.1, k.2)) (λ j. let k = of_every r ps qs j in (k.0, k.1, inr k.2, k.3, k.4)) (in_split r (each p qs) (every ps qs) i)

  over_++ : (l k p q : List L) → Over l p → Over k q → Over (l ++ k) (p ++ q)
  over_++ l k p q f g x i = ⊎_elim (λ j. in_left x l k (f x j)) (λ j. in_right x l k (g x j)) (in_split x p q i)

  over_path : (w : Wiring L) (p : List L) → In p (paths w) → Over (leaves w) p
  over_path (link e) p (inl h) = subst (λ z. Over (e ∷ []) z) (sym h) (λ x i. i)
  over_path (link e) p (inr h) = absurd h
  over_path (series a b) r i =
      let k = of_every r (paths a) (paths b) i in
      subst (λ z. Over (leaves a ++ leaves b) z) (sym k.4) (over_++ (leaves a) (leaves b) k.0 k.1 (over_path a k.0 k.2) (over_path b k.1 k.3))
  over_path (parallel a b) p i =
      ⊎_elim (λ j x h. in_left x (leaves a) (leaves b) (over_path a p j x h)) (λ j x h. in_right x (leaves a) (leaves b) (over_path b p j x h)) (in_split p (paths a) (paths b) i)

  -- no repetition
  cancel : (p q r : List L) → p ++ q ≡ p ++ r → q ≡ r
  cancel [] q r h = h
  cancel (x ∷ p) q r h = cancel p q r (cc)

  same_front : (l k p p' q q' : List L) → ((x : L) → In x l → In x k → ⊥) → Over l p → Over l p' → Over k q → Over k q' → p ++ q ≡ p' ++ q' → p ≡ p'
  same_front l k [] [] q q' d a b c e h = refl
  same_front l k [] (x ∷ p') q q' d a b c e h = absurd (d x (b x (inl refl)) (c x (subst (λ z. In x z) (sym h) (inl refl))))
  same_front l k (x ∷ p) [] q q' d a b c e h = absurd (d x (a x (inl refl)) (e x (subst (λ z. In x z) h (inl refl))))
  same_front l k (x ∷ p) (y ∷ p') q q' d a b c e h =
      let r : p ≡ p' = same_front l k p p' q q' d (λ z i. a z (inr i)) (λ z i. b z (inr i)) c e (cc) in
      let g : x ≡ y = cc in
      cc

  distinct_each : (p : List L) (qs : List (List L)) → Distinct qs → Distinct (each p qs)
  distinct_each p [] d = tt
  distinct_each p (q ∷ qs) d =
      (λ i. let k = of_each p (p ++ q) qs i in d.0 (subst (λ z. In z qs) (sym (cancel p q k.0 k.2)) k.1), distinct_each p qs d.1)

  distinct_every : (l k : List L) (ps qs : List (List L)) → ((x : L) → In x l → In x k → ⊥) → ((p : List L) → In p ps → Over l p) → ((q : List L) → In q qs → Over k q) → Distinct ps → Distinct qs → Distinct (every ps qs)
  distinct_every l k [] qs d f g a b = tt
  distinct_every l k (p ∷ ps) qs d f g a b =
      distinct_join (each p qs) (every ps qs) (distinct_each p qs b) (distinct_every l k ps qs d (λ z i. f z (inr i)) g a.1 b)
      (λ x i j.
      let m = of_each p x qs i in
      let n = of_every x ps qs j in
      a.0 (subst (λ z. In z ps) (sym (same_front l k p n.0 m.0 n.1 d (f p (inl refl)) (f n.0 (inr n.2)) (g m.0 m.1) (g n.1 n.3) (sym m.2 ∙ n.4))) n.2))

module _ {L : Type 0} (ends : L → ℕ × ℕ) where
  walk_++ : (p q : List L) (s m t : ℕ) → Walk ends s p m → Walk ends m q t → Walk ends s (p ++ q) t
  walk_++ [] q s m t h k = subst (λ z. Walk ends z q t) (sym h) k
  walk_++ (e ∷ p) q s m t h k = (h.0, walk_++ p q (ends e).1 m t h.1 k)

  walks : (w : Wiring L) (s t : ℕ) → Runs ends w s t → (p : List L) → In p (paths w) → Walk ends s p t
  walks (link e) s t r p (inl h) = subst (λ z. Walk ends s z t) (sym h) (r.0, r.1)
  walks (link e) s t r p (inr h) = absurd h
  walks (series a b) s t r p i =
      let k = of_every p (paths a) (paths b) i in
      subst (λ z. Walk ends s z t) (sym k.4) (walk_++ k.0 k.1 s r.0 t (walks a s r.0 r.1 k.0 k.2) (walks b r.0 t r.2 k.1 k.3))
  walks (parallel a b) s t r p i = ⊎_elim (walks a s t r.0 p) (walks b s t r.1 p) (in_split p (paths a) (paths b) i)

  -- a walk from where only l can go on, over l and k, is over l
  stay : (l k : List L) (Q : ℕ → Type 0) → ((e : L) → In e l → Q (ends e).0 → Q (ends e).1) → ((e : L) → In e k → Q (ends e).0 → ⊥) → (p : List L) (y t : ℕ) → Q y → Walk ends y p t → ((x : L) → In x p → In x l ⊎ In x k) → Over l p
  stay l k Q next only [] y t q w o = λ x i. absurd i
  stay l k Q next only (e ∷ p) y t q w o =
      ⊎_elim
      (λ i x. elim [
        | inl h ↦ subst (λ z. In z l) (sym h) i
        | inr j ↦ stay l k Q next only p (ends e).1 t (next e i (subst Q (sym w.0) q)) w.1 (λ z n. o z (inr n)) x j
      ])
      (λ i. absurd (only e i (subst Q (sym w.0) q)))
      (o e (inl refl))

  -- the part of a walk before the joint m, and the part after it
  cut : (a b : Wiring L) (s t : ℕ) (r : Runs ends (series a b) s t) (p : List L) (y : ℕ) → Joint ends y (leaves a) → Walk ends y p t → ((x : L) → In x p → In x (leaves a) ⊎ In x (leaves b)) → (p₁ p₂ : List L) × (p ≡ p₁ ++ p₂) × Walk ends y p₁ r.0 × Over (leaves a) p₁ × Walk ends r.0 p₂ t × Over (leaves b) p₂
  cut a b s t r [] y j w o = absurd (apart ends b r.0 t r.2 (sym (r.3 t (subst (λ z. Joint ends z (leaves a)) w j) (joint_last ends b r.0 t r.2))))
  cut a b s t r (e ∷ p) y j w o =
      ⊎_elim
      (λ i.
      let c = cut a b s t r p (ends e).1 (e, i, inr refl) w.1 (λ z n. o z (inr n)) in
      (e ∷ c.0, c.1, ap (λ z. e ∷ z) c.2, (w.0, c.3), (λ x. elim [ inl h ↦ subst (λ z. In z (leaves a)) (sym h) i | inr n ↦ c.4 x n ]), c.5, c.6))
      (λ i.
      let at-m : y ≡ r.0 = r.3 y j (e, i, inl w.0) in (
        [],
        e ∷ p,
        refl,
        at-m,
        (λ x n. absurd n),
        (w.0 ∙ at-m, w.1),
        stay (leaves b) (leaves a) (λ z. Joint ends z (leaves b)) (λ x n q. (x, n, inr refl))
            (λ x n q. none_from ends a s r.0 r.1 x n (r.3 (ends x).0 (x, n, inl refl) q))
            (e ∷ p) y t (e, i, inl w.0) w (λ z n. ⊎_elim inr inl (o z n)),
      ))
      (o e (inl refl))

  -- a walk whose first link is of one branch stays in it
  in_branch : (a b : Wiring L) (s t : ℕ) → Runs ends a s t → Runs ends b s t → ((y : ℕ) → Joint ends y (leaves a) → Joint ends y (leaves b) → (y ≡ s) ⊎ (y ≡ t)) → (e : L) (p : List L) → In e (leaves a) → Walk ends s (e ∷ p) t → ((x : L) → In x (e ∷ p) → In x (leaves a) ⊎ In x (leaves b)) → Over (leaves a) (e ∷ p)
  in_branch a b s t ra rb sh e p i w o x (inl h) = subst (λ z. In z (leaves a)) (sym h) i
  in_branch a b s t ra rb sh e p i w o x (inr n) =
      stay (leaves a) (leaves b) (λ y. Joint ends y (leaves a) × (y ≢ s)) (λ f m q. ((f, m, inr refl), none_into ends a s t ra f m))
      (λ f m q. ⊎_elim q.1 (none_from ends b s t rb f m) (sh (ends f).0 q.0 (f, m, inl refl)))
      p (ends e).1 t ((e, i, inr refl), none_into ends a s t ra e i) w.1 (λ z m. o z (inr m)) x n

  complete : (w : Wiring L) (s t : ℕ) → Runs ends w s t → (p : List L) → Walk ends s p t → Over (leaves w) p → In p (paths w)
  complete (link e) s t r [] w o = absurd (r.2 w)
  complete (link e) s t r (x ∷ []) w o = ⊎_elim (λ h. inl (ap (λ z. z ∷ []) h)) absurd (o x (inl refl))
  complete (link e) s t r (x ∷ (y ∷ p)) w o =
      ⊎_elim (λ h. ⊎_elim (λ g. absurd (r.2 (sym r.0 ∙ ap (λ z. (ends z).0) (sym g) ∙ w.1.0 ∙ ap (λ z. (ends z).1) h ∙ r.1))) absurd (o y (inr (inl refl)))) absurd (o x (inl refl))
  complete (series a b) s t r p w o =
      let c = cut a b s t r p s (joint_first ends a s r.0 r.1) w (λ x i. in_split x (leaves a) (leaves b) (o x i)) in
      subst (λ z. In z (every (paths a) (paths b))) (sym c.2)
      (in_every c.0 c.1 (paths a) (paths b) (complete a s r.0 r.1 c.0 c.3 c.4) (complete b r.0 t r.2 c.1 c.5 c.6))
  complete (parallel a b) s t r [] w o = absurd (apart ends a s t r.0 w)
  complete (parallel a b) s t r (e ∷ p) w o =
      ⊎_elim
      (λ i. in_left (e ∷ p) (paths a) (paths b) (complete a s t r.0 (e ∷ p) w (in_branch a b s t r.0 r.1 r.2 e p i w (λ x n. in_split x (leaves a) (leaves b) (o x n)))))
      (λ i. in_right (e ∷ p) (paths a) (paths b) (complete b s t r.1 (e ∷ p) w (in_branch b a s t r.1 r.0 (λ y j k. r.2 y k j) e p i w (λ x n. ⊎_elim inr inl (in_split x (leaves a) (leaves b) (o x n))))))
      (in_split e (leaves a) (leaves b) (o e (inl refl)))

  distinct : (w : Wiring L) (s t : ℕ) → Runs ends w s t → Distinct (leaves w) → Distinct (paths w)
  distinct (link e) s t r d = ((λ i. i), tt)
  distinct (series a b) s t r d =
      distinct_every (leaves a) (leaves b) (paths a) (paths b) (distinct_apart (leaves a) (leaves b) d) (over_path a) (over_path b)
      (distinct a s r.0 r.1 (distinct_left (leaves a) (leaves b) d)) (distinct b r.0 t r.2 (distinct_right (leaves a) (leaves b) d))
  distinct (parallel a b) s t r d =
      distinct_join (paths a) (paths b) (distinct a s t r.0 (distinct_left (leaves a) (leaves b) d)) (distinct b s t r.1 (distinct_right (leaves a) (leaves b) d)) (both a b s t r d)
    where
      both : (a b : Wiring L) (s t : ℕ) → Runs ends (parallel a b) s t → Distinct (leaves a ++ leaves b) → (p : List L) → In p (paths a) → In p (paths b) → ⊥
      both a b s t r d [] i j = apart ends a s t r.0 (walks a s t r.0 [] i)
      both a b s t r d (e ∷ p) i j = distinct_apart (leaves a) (leaves b) d e (over_path a (e ∷ p) i e (inl refl)) (over_path b (e ∷ p) j e (inl refl))

pub paths_stand : PathsStand
paths_stand c w R = record {
  once = distinct (ends c) w 0 (coil_joint c) R.runs R.once;
  are = λ p. (
    λ i. record { walk = walks (ends c) w 0 (coil_joint c) R.runs p i; within = λ n j. (R.links_are n).0 (over_path w p i n j) },
    λ P. complete (ends c) w 0 (coil_joint c) R.runs p P.walk (λ n j. (R.links_are n).1 (P.within n j)),
  );
}
