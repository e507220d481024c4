-- Circuits and their readings, by active edges.
use Rattle.std.proofs.Common.{◌≡◌, ℕ, zero, suc, ◌<◌, ◌≤◌, ◌≢◌, ◌⊎◌, ◌↔◌, List, [], ◌∷◌, ◌++◌, length, sym, refl, ap, ◌∙◌, subst, ap₂, inl, inr, ⊎_elim, arith}
use native.Mathlib.Decide.{ℕ_discrete}
use Rattle.wiring.specs.Lists.{In}
use Rattle.wiring.specs.Wiring.{Wiring, link, series, parallel, leaves, Joint, Runs}
use Rattle.wiring.specs.Text.{Text, in_series, in_parallel, link_text, text, branches, Ordered}
use Rattle.wiring.specs.Circuit.{Circuit, coil_joint, ends, Reads}
use Rattle.wiring.specs.Theorems.{OneText}
use Rattle.wiring.specs.Elimination.{Edge, low_of, group_tree, combined, Eligible, Step, Reaches, start, more, edge_of, first-edges, Starts, InRange}
use Rattle.wiring.proofs.Members.{in_left, in_right, in_split}
use Rattle.wiring.proofs.Joints.{first_link, joint_first, joint_last}
use Rattle.wiring.proofs.Readings.{ends_of, val_of, Done, Run, Reading, LowsApart, expand, Built}
use Rattle.wiring.proofs.Uniqueness.{step_keeps, end_reads, run_unique, run_exists, never_stuck}
use Rattle.wiring.proofs.Once.{loopless, distinct_leaves}
use Rattle.wiring.proofs.Soundness.{lows_kept, step_sound, done_built}

-- the same wiring with other leaves
abbrev rename : {L M : Type 0} → (L → M) → Wiring L → Wiring M
rename f (link e) = link (f e)
rename f (series a b) = series (rename f a) (rename f b)
rename f (parallel a b) = parallel (rename f a) (rename f b)

module _ {L M : Type 0} (f : L → M) where
  rename_in : (w : Wiring L) (x : L) → In x (leaves w) → In (f x) (leaves (rename f w))
  rename_in (link e) x (inl h) = inl (ap f h)
  rename_in (link e) x (inr i) = absurd i
  rename_in (series a b) x i = ⊎_elim (λ j. in_left (f x) (leaves (rename f a)) (leaves (rename f b)) (rename_in a x j)) (λ j. in_right (f x) (leaves (rename f a)) (leaves (rename f b)) (rename_in b x j)) (in_split x (leaves a) (leaves b) i)
  rename_in (parallel a b) x i = ⊎_elim (λ j. in_left (f x) (leaves (rename f a)) (leaves (rename f b)) (rename_in a x j)) (λ j. in_right (f x) (leaves (rename f a)) (leaves (rename f b)) (rename_in b x j)) (in_split x (leaves a) (leaves b) i)

  rename_of : (w : Wiring L) (z : M) → In z (leaves (rename f w)) → (x : L) × In x (leaves w) × (z ≡ f x)
  rename_of (link e) z (inl h) = (e, inl refl, h)
  rename_of (link e) z (inr i) = absurd i
  rename_of (series a b) z i =
      ⊎_elim (λ j. let k = rename_of a z j in (k.0, in_left k.0 (leaves a) (leaves b) k.1, k.2)) (λ j. let k = rename_of b z j in (k.0, in_right k.0 (leaves a) (leaves b) k.1, k.2)) (in_split z (leaves (rename f a)) (leaves (rename f b)) i)
  rename_of (parallel a b) z i =
      ⊎_elim (λ j. let k = rename_of a z j in (k.0, in_left k.0 (leaves a) (leaves b) k.1, k.2)) (λ j. let k = rename_of b z j in (k.0, in_right k.0 (leaves a) (leaves b) k.1, k.2)) (in_split z (leaves (rename f a)) (leaves (rename f b)) i)

  module _ (ends : L → ℕ × ℕ) (ends' : M → ℕ × ℕ) where
    SameEnds : Wiring L → Type 0
    SameEnds w = (x : L) → In x (leaves w) → ends' (f x) ≡ ends x

    rename_joint : (w : Wiring L) → SameEnds w → (y : ℕ) → Joint ends' y (leaves (rename f w)) → Joint ends y (leaves w)
    unfolding SameEnds
    rename_joint w h y j =
        let k = rename_of w j.0 j.1 in
        let p : ends k.0 ≡ ends' j.0 = sym (h k.0 k.1) ∙ ap ends' (sym k.2) in
        (k.0, k.1, ⊎_elim (λ q. inl (ap (λ z. z.0) p ∙ q)) (λ q. inr (ap (λ z. z.1) p ∙ q)) j.2)

    rename_runs : (w : Wiring L) (s t : ℕ) → SameEnds w → Runs ends w s t → Runs ends' (rename f w) s t
    unfolding SameEnds
    rename_runs (link e) s t h r = (ap (λ z. z.0) (h e (inl refl)) ∙ r.0, ap (λ z. z.1) (h e (inl refl)) ∙ r.1, r.2)
    rename_runs (series a b) s t h r =
        let ha : SameEnds a = λ x i. h x (in_left x (leaves a) (leaves b) i) in
        let hb : SameEnds b = λ x i. h x (in_right x (leaves a) (leaves b) i) in
        (r.0, rename_runs a s r.0 ha r.1, rename_runs b r.0 t hb r.2, λ y j k. r.3 y (rename_joint a ha y j) (rename_joint b hb y k))
    rename_runs (parallel a b) s t h r =
        let ha : SameEnds a = λ x i. h x (in_left x (leaves a) (leaves b) i) in
        let hb : SameEnds b = λ x i. h x (in_right x (leaves a) (leaves b) i) in
        (rename_runs a s t ha r.0, rename_runs b s t hb r.1, λ y j k. r.2 y (rename_joint a ha y j) (rename_joint b hb y k))

  module _ (val : L → Text) (val' : M → Text) where
    SameText : Wiring L → Type 0
    SameText w = (x : L) → In x (leaves w) → val' (f x) ≡ val x

    rename_text : (w : Wiring L) → SameText w → text val' (rename f w) ≡ text val w
    unfolding SameText
    rename_text (link e) h = h e (inl refl)
    rename_text (series a b) h = ap₂ in_series (rename_text a (λ x i. h x (in_left x (leaves a) (leaves b) i))) (rename_text b (λ x i. h x (in_right x (leaves a) (leaves b) i)))
    rename_text (parallel a b) h = ap₂ in_parallel (rename_text a (λ x i. h x (in_left x (leaves a) (leaves b) i))) (rename_text b (λ x i. h x (in_right x (leaves a) (leaves b) i)))

    rename_branches : (w : Wiring L) → SameText w → branches val' (rename f w) ≡ branches val w
    unfolding SameText
    rename_branches (link e) h = ap (λ z. z.low ∷ []) (h e (inl refl))
    rename_branches (series a b) h = ap (λ z. z.low ∷ []) (rename_text (series a b) h)
    rename_branches (parallel a b) h = ap₂ ◌++◌ (rename_branches a (λ x i. h x (in_left x (leaves a) (leaves b) i))) (rename_branches b (λ x i. h x (in_right x (leaves a) (leaves b) i)))

    rename_ordered : (w : Wiring L) → SameText w → Ordered val w → Ordered val' (rename f w)
    unfolding SameText
    rename_ordered (link e) h o = tt
    rename_ordered (series a b) h o = (rename_ordered a (λ x i. h x (in_left x (leaves a) (leaves b) i)) o.0, rename_ordered b (λ x i. h x (in_right x (leaves a) (leaves b) i)) o.1)
    rename_ordered (parallel a b) h o =
        let ha : SameText a = λ x i. h x (in_left x (leaves a) (leaves b) i) in
        let hb : SameText b = λ x i. h x (in_right x (leaves a) (leaves b) i) in
        (rename_ordered a ha o.0, rename_ordered b hb o.1, λ p q i j. o.2 p q (subst (λ z. In p z) (rename_branches a ha) i) (subst (λ z. In q z) (rename_branches b hb) j))

-- a link touches every joint
abbrev pub Touched : Circuit → Type 0
Touched g = (y : ℕ) → y < g.joints → (i : ℕ) × (i < length g.links) × (((ends g i).0 ≡ y) ⊎ ((ends g i).1 ≡ y))

-- no inner joint that is left can be eliminated
abbrev pub NoMore : Circuit → List ℕ → List Edge → Type 0
NoMore g xs B = (x u w : ℕ) → x < g.joints → x ≢ 0 → x ≢ coil_joint g → (In x xs → ⊥) → Eligible B x u w → ⊥

-- an edge does not go from the left rail to the coil, or an inner joint is left, or there is no edge
abbrev pub Unfinished : Circuit → List ℕ → List Edge → Type 0
Unfinished g xs B = ((e : Edge) × In e B × ((e.from ≡ 0) × (e.to ≡ coil_joint g) → ⊥)) ⊎ (((y : ℕ) × (y < g.joints) × (y ≢ 0) × (y ≢ coil_joint g) × (In y xs → ⊥)) ⊎ ((e : Edge) → In e B → ⊥))

-- a wiring that reads the circuit is a reading of its links as active edges
pub reading : (g : Circuit) (w : Wiring ℕ) (A : List Edge) → Reads g w → Starts g A → Reading A 0 (coil_joint g) (text link_text w)
unfolding SameEnds SameText
reading g w A R S = record {
  tree = rename (edge_of g) w;
  runs = rename_runs (edge_of g) (ends g) ends_of w 0 (coil_joint g) (λ x i. refl) R.runs;
  ordered = rename_ordered (edge_of g) link_text val_of w (λ x i. refl) R.ordered;
  reads = rename_text (edge_of g) link_text val_of w (λ x i. refl);
  all = λ e i. let k = (S e).0 i in subst (λ z. In z (leaves (rename (edge_of g) w))) (sym k.2) (rename_in (edge_of g) w k.0 ((R.links_are k.0).1 k.1));
  only = λ e i. let k = rename_of (edge_of g) w e i in (S e).1 (k.0, (R.links_are k.0).0 k.1, k.2);
}

-- a circuit that is read has a run of the elimination, and every run ends with the text
pub elimination_finds : (g : Circuit) (w : Wiring ℕ) (A : List Edge) → Reads g w → Starts g A → ((r : Wiring ℕ) × (text link_text r ≡ text link_text w) × Run 0 (coil_joint g) A r) × ((r : Wiring ℕ) → Run 0 (coil_joint g) A r → text link_text r ≡ text link_text w)
elimination_finds g w A R S =
    let r = reading g w A R S in
    (run_exists A 0 (coil_joint g) (text link_text w) r, λ v run. sym (run_unique A 0 (coil_joint g) (text link_text w) v r run))

-- the members of the first n edges are the first n links
pub starts : (g : Circuit) (n : ℕ) (e : Edge) → In e (first-edges g n) ↔ ((i : ℕ) × (i < n) × (e ≡ edge_of g i))
starts g zero e = (absurd, λ k. absurd (let h = k.1 in omega arith))
starts g (suc n) e = (
  (λ m. ⊎_elim
      (λ i. let k = (starts g n e).0 i in let h = k.1 in (k.0, omega arith, k.2))
      (⊎_elim (λ h. (n, omega arith, h)) absurd)
      (in_split e (first-edges g n) (edge_of g n ∷ []) m)),
  λ k. elim (ℕ_discrete k.0 n) [
    | yes p ↦ in_right e (first-edges g n) (edge_of g n ∷ []) (inl (k.2 ∙ ap (edge_of g) p))
    | no p ↦ let h = k.1 in in_left e (first-edges g n) (edge_of g n ∷ []) ((starts g n e).1 (k.0, omega arith, k.2))
  ],
)

pub one_text : OneText
one_text g w w' R R' =
    let A = first-edges g (length g.links) in
    let S : Starts g A = starts g (length g.links) in
    let r = (elimination_finds g w A R S).0 in
    sym r.1 ∙ (elimination_finds g w' A R' S).1 r.0 r.2

pub link_low : (i : ℕ) → (link_text i).low ≡ i
unfolding link_text
link_low i = refl

is_link : (g : Circuit) (A : List Edge) → Starts g A → (e : Edge) → In e A → e ≡ edge_of g (low_of e)
is_link g A S e i = let k = (S e).0 i in k.2 ∙ ap (edge_of g) (sym (ap (λ z. low_of z) k.2 ∙ link_low k.0))

starts_apart : (g : Circuit) (A : List Edge) → Starts g A → LowsApart A
starts_apart g A S e f i j h = is_link g A S e i ∙ ap (edge_of g) h ∙ sym (is_link g A S f j)

abbrev number : Edge → ℕ
number e = low_of e

rename_expand : (d : Wiring Edge) → ((e : Edge) → In e (leaves d) → link (number e) ≡ e.tree) → rename number d ≡ expand d
rename_expand (link e) h = h e (inl refl)
rename_expand (series a b) h = ap₂ series (rename_expand a (λ x i. h x (in_left x (leaves a) (leaves b) i))) (rename_expand b (λ x i. h x (in_right x (leaves a) (leaves b) i)))
rename_expand (parallel a b) h = ap₂ parallel (rename_expand a (λ x i. h x (in_left x (leaves a) (leaves b) i))) (rename_expand b (λ x i. h x (in_right x (leaves a) (leaves b) i)))

-- what is built of the links as active edges reads the circuit
reads_of : (g : Circuit) (A : List Edge) (r : Wiring ℕ) → Touched g → Starts g A → Built A 0 (coil_joint g) r → Reads g r
unfolding SameEnds SameText
reads_of g A r T S R =
    let same_ends : (e : Edge) → In e (leaves R.tree) → ends g (low_of e) ≡ ends_of e = λ e i. ap ends_of (sym (is_link g A S e (R.only e i))) in
    let same_text : (e : Edge) → In e (leaves R.tree) → link_text (low_of e) ≡ val_of e = λ e i. ap val_of (sym (is_link g A S e (R.only e i))) in
    let w : Wiring ℕ = rename number R.tree in
    let runs : Runs (ends g) w 0 (coil_joint g) = rename_runs number ends_of (ends g) R.tree 0 (coil_joint g) same_ends R.runs in
    let ordered : Ordered link_text w = rename_ordered number val_of link_text R.tree same_text R.ordered in
    let in-w : (i : ℕ) → i < length g.links → In i (leaves w) = λ i h.
    subst (λ z. In z (leaves w)) (link_low i) (rename_in number R.tree (edge_of g i) (R.all (edge_of g i) ((S (edge_of g i)).1 (i, h, refl)))) in
    let same : w ≡ r = rename_expand R.tree (λ e i. ap (λ z. z.tree) (sym (is_link g A S e (R.only e i)))) ∙ R.made in
    subst (Reads g) same
    (record {
      runs = runs;
      links_are = λ i. (
        (λ j.
            let k = rename_of number R.tree i j in
            let m = (S k.0).0 (R.only k.0 k.1) in
            subst (λ z. z < length g.links) (sym (k.2 ∙ ap number m.2 ∙ link_low m.0)) m.1),
        in-w i,
      );
      once = distinct_leaves (ends g) link_text w 0 (coil_joint g) runs ordered;
      touched = λ y h. let k = T y h in (k.0, in-w k.0 k.1, k.2);
      ordered = ordered;
    })

-- the eliminations so far keep readings and lowest links, and what is built at their end is built at their start
pub keeps : {s t : ℕ} {A : List Edge} {xs : List ℕ} {B : List Edge} → Reaches s t A xs B → (v : Text) → Reading A s t v → Reading B s t v
keeps start v R = R
keeps {s} {t} (more {B = B} x u w C r xs xt S) v R = step_keeps B C s t x u w v (keeps r v R) xs xt S

lows : {s t : ℕ} {A : List Edge} {xs : List ℕ} {B : List Edge} → Reaches s t A xs B → LowsApart A → LowsApart B
lows start la = la
lows (more {B = B} x u w C r xs xt S) la = lows_kept B C x u w (lows r la) S

back : {s t : ℕ} {A : List Edge} {xs : List ℕ} {B : List Edge} → Reaches s t A xs B → LowsApart A → (v : Wiring ℕ) → Built B s t v → Built A s t v
back start la v R = R
back {s} {t} (more {B = B} x u w C r xs xt S) la v R = back r la v (step_sound B C s t x u w v (lows r la) S R)

step_joint : (A B : List Edge) (x u w : ℕ) → Step A x u w B → (y : ℕ) → Joint ends_of y B → Joint ends_of y A
step_joint A B x u w S y j =
    let m = S.may in
    ⊎_elim
    (λ p. ⊎_elim
    (λ q. (m.some_in.0, m.some_in.1, inl (m.from_u m.some_in.0 m.some_in.1 m.some_in.2 ∙ ap (λ z. z.from) (sym p) ∙ q)))
    (λ q. (m.some_out.0, m.some_out.1, inr (m.to_w m.some_out.0 m.some_out.1 m.some_out.2 ∙ ap (λ z. z.to) (sym p) ∙ q)))
    j.2)
    (λ p. (j.0, p.0, j.2))
    ((S.left j.0).0 j.1)

step_left : (A B : List Edge) (x u w : ℕ) → Step A x u w B → (y : ℕ) → Joint ends_of y A → (y ≡ x) ⊎ Joint ends_of y B
step_left A B x u w S y j =
    let m = S.may in
    let e = j.0 in
    let c : Edge = combined u w S.into S.out in
    let c-in : In c B = (S.left c).1 (inl refl) in
    elim (ℕ_discrete e.to x) [
      | yes p ↦ ⊎_elim (λ q. inr (c, c-in, inl (sym (m.from_u e j.1 p) ∙ q))) (λ q. inl (sym q ∙ p)) j.2
      | no p ↦ elim (ℕ_discrete e.from x) [
        | yes q ↦ ⊎_elim (λ h. inl (sym h ∙ q)) (λ h. inr (c, c-in, inr (sym (m.to_w e j.1 q) ∙ h))) j.2
        | no q ↦ inr (e, (S.left e).1 (inr (j.1, q, p)), j.2)
      ]
    ]

joint_back : {s t : ℕ} {A : List Edge} {xs : List ℕ} {B : List Edge} → Reaches s t A xs B → (y : ℕ) → Joint ends_of y B → Joint ends_of y A
joint_back start y j = j
joint_back (more {B = B} x u w C r xs xt S) y j = joint_back r y (step_joint B C x u w S y j)

eliminated : {s t : ℕ} {A : List Edge} {xs : List ℕ} {B : List Edge} → Reaches s t A xs B → (y : ℕ) → In y xs → Joint ends_of y A
eliminated start y i = absurd i
eliminated (more {B = B} x u w C r xs xt S) y (inl h) = joint_back r y (S.may.some_in.0, S.may.some_in.1, inr (S.may.some_in.2 ∙ sym h))
eliminated (more {B = B} x u w C r xs xt S) y (inr i) = eliminated r y i

left_over : {s t : ℕ} {A : List Edge} {xs : List ℕ} {B : List Edge} → Reaches s t A xs B → (y : ℕ) → Joint ends_of y A → In y xs ⊎ Joint ends_of y B
left_over start y j = inr j
left_over (more {B = B} x u w C r xs xt S) y j = ⊎_elim (λ i. inl (inr i)) (λ k. ⊎_elim (λ h. inl (inl h)) inr (step_left B C x u w S y k)) (left_over r y j)

-- every inner joint is eliminated and all edges run from the left rail to the coil joint: their group reads the circuit, and all that reads it has its text
pub found : (g : Circuit) (A B G : List Edge) (xs : List ℕ) → 2 ≤ g.joints → Starts g A → Reaches 0 (coil_joint g) A xs B → Done 0 (coil_joint g) B G → ((y : ℕ) → y < g.joints → (y ≡ 0) ⊎ ((y ≡ coil_joint g) ⊎ In y xs)) → Reads g (group_tree G) × ((w : Wiring ℕ) → Reads g w → text link_text w ≡ text link_text (group_tree G))
found g A B G xs two S r D F =
    let n : 0 ≢ coil_joint g = omega arith in
    let R : Built A 0 (coil_joint g) (group_tree G) = back r (starts_apart g A S) (group_tree G) (done_built 0 (coil_joint g) B G n D) in
    let jA : (y : ℕ) → Joint ends_of y (leaves R.tree) → Joint ends_of y A = λ y j. (j.0, R.only j.0 j.1, j.2) in
    let T : Touched g = λ y h.
    let j : Joint ends_of y A = ⊎_elim
    (λ p. subst (λ z. Joint ends_of z A) (sym p) (jA 0 (joint_first ends_of R.tree 0 (coil_joint g) R.runs)))
    (⊎_elim
    (λ p. subst (λ z. Joint ends_of z A) (sym p) (jA (coil_joint g) (joint_last ends_of R.tree 0 (coil_joint g) R.runs)))
    (eliminated r y))
    (F y h) in
    let k = (S j.0).0 j.1 in
    (k.0, k.1, ⊎_elim (λ p. inl (ap (λ z. z.from) (sym k.2) ∙ p)) (λ p. inr (ap (λ z. z.to) (sym k.2) ∙ p)) j.2) in
    (reads_of g A (group_tree G) T S R, λ w Q. end_reads B G 0 (coil_joint g) (text link_text w) (keeps r (text link_text w) (reading g w A Q S)) D)

-- a joint that is eliminated is gone
step_gone : (A B : List Edge) (s t x u w : ℕ) (v : Text) → Reading B s t v → Step A x u w B → Joint ends_of x B → ⊥
step_gone A B s t x u w v R S j =
    let m = S.may in
    let c : Edge = combined u w S.into S.out in
    let uw : u ≢ w = loopless ends_of R.tree s t R.runs c (R.all c ((S.left c).1 (inl refl))) in
    let i = m.some_in in
    let o = m.some_out in
    ⊎_elim
    (λ p. ⊎_elim
    (λ q.
    let ux : u ≡ x = ap (λ z. z.from) (sym p) ∙ q in
    uw (ux ∙ sym i.2 ∙ m.to_w i.0 i.1 (m.from_u i.0 i.1 i.2 ∙ ux)))
    (λ q.
    let wx : w ≡ x = ap (λ z. z.to) (sym p) ∙ q in
    uw (sym (m.from_u o.0 o.1 (m.to_w o.0 o.1 o.2 ∙ wx)) ∙ o.2 ∙ sym wx))
    j.2)
    (λ p. ⊎_elim p.1 p.2 j.2)
    ((S.left j.0).0 j.1)

gone_by : {s t : ℕ} {A : List Edge} {xs : List ℕ} {B : List Edge} → Reaches s t A xs B → (v : Text) → Reading A s t v → (y : ℕ) → In y xs → Joint ends_of y B → ⊥
gone_by start v R y i j = i
gone_by {s} {t} (more {B = B} x u w C r xs xt S) v R y (inl h) j = step_gone B C s t x u w v (step_keeps B C s t x u w v (keeps r v R) xs xt S) S (subst (λ z. Joint ends_of z C) h j)
gone_by (more {B = B} x u w C r xs xt S) v R y (inr i) j = gone_by r v R y i (step_joint B C x u w S y j)

-- no joint that is left can be eliminated, and something is left: no wiring reads the circuit
pub refused : (g : Circuit) (A B : List Edge) (xs : List ℕ) → InRange g → Starts g A → Reaches 0 (coil_joint g) A xs B → NoMore g xs B → Unfinished g xs B → (w : Wiring ℕ) → Reads g w → ⊥
refused g A B xs range S r never un w Q =
    let v = text link_text w in
    let Ra : Reading A 0 (coil_joint g) v = reading g w A Q S in
    let RB : Reading B 0 (coil_joint g) v = keeps r v Ra in
    ⊎_elim
    (λ all. ⊎_elim
    (λ e. e.2 (all e.0 e.1))
    (⊎_elim
    (λ y.
    let j = Q.touched y.0 y.1 in
    let a : In (edge_of g j.0) A = (S (edge_of g j.0)).1 (j.0, (Q.links_are j.0).0 j.1, refl) in
    ⊎_elim y.4
    (λ k. ⊎_elim (λ p. y.2 (sym p ∙ (all k.0 k.1).0)) (λ p. y.3 (sym p ∙ (all k.0 k.1).1)) k.2)
    (left_over r y.0 (edge_of g j.0, a, j.2)))
    (λ none. let f = first_link ends_of RB.tree 0 (coil_joint g) RB.runs in none f.0 (RB.only f.0 f.1)))
    un)
    (λ q.
    let x = q.0 in
    let m = q.5 in
    let j : Joint ends_of x B = (m.some_in.0, m.some_in.1, inr m.some_in.2) in
    let k = joint_back r x j in
    let l = (S k.0).0 k.1 in
    let within : x < g.joints = ⊎_elim
    (λ p. subst (λ z. z < g.joints) (ap (λ z. z.from) (sym l.2) ∙ p) (range l.0 l.1).0)
    (λ p. subst (λ z. z < g.joints) (ap (λ z. z.to) (sym l.2) ∙ p) (range l.0 l.1).1)
    k.2 in
    never x q.1 q.2 within q.3 q.4 (λ i. gone_by r v Ra x i j) m)
    (never_stuck B 0 (coil_joint g) v RB)
