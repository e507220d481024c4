-- A reading of what a step leaves gives one of what it started from.
use Rattle.std.proofs.Common.{◌≡◌, ℕ, min, ◌≢◌, ◌⊎◌, List, [], ◌∷◌, ◌++◌, sym, refl, ap, ◌∙◌, subst, ap₂, subst₂, inl, inr, ⊎_elim, arith}
use native.Mathlib.Decide.{ℕ_discrete, dec_le}
use Rattle.wiring.specs.Lists.{In}
use Rattle.wiring.specs.Wiring.{Wiring, link, series, parallel, leaves, Joint, Runs}
use Rattle.wiring.specs.Text.{Text, in_series, in_parallel, link_text, text, branches, Ordered}
use Rattle.wiring.specs.Elimination.{Edge, low_of, Rising, joined, group_tree, combined, Step}
use Rattle.wiring.proofs.Members.{in_left, in_right, in_split}
use Rattle.wiring.proofs.Readings.{ends_of, val_of, group, Done, LowsApart, expand, Built}
use Rattle.wiring.proofs.Groups.{All}
use Rattle.wiring.proofs.Once.{loopless, once_series, once_parallel}

-- the wiring of a group of edges
abbrev chain : Edge → List Edge → Wiring Edge
chain e [] = link e
chain e (f ∷ l) = parallel (link e) (chain f l)

chain_leaves : (e : Edge) (l : List Edge) → leaves (chain e l) ≡ e ∷ l
chain_leaves e [] = refl
chain_leaves e (f ∷ l) = ap (λ z. e ∷ z) (chain_leaves f l)

chain_reads : (e : Edge) (l : List Edge) → text val_of (chain e l) ≡ text link_text (joined e.tree l)
chain_reads e [] = refl
chain_reads e (f ∷ l) = ap (in_parallel (val_of e)) (chain_reads f l)

chain_made : (e : Edge) (l : List Edge) → expand (chain e l) ≡ joined e.tree l
chain_made e [] = refl
chain_made e (f ∷ l) = ap (parallel e.tree) (chain_made f l)

chain_branches : (e : Edge) (l : List Edge) (p : ℕ) → In p (branches val_of (chain e l)) → (f : Edge) × In f (e ∷ l) × (p ≡ low_of f)
chain_branches e [] p (inl h) = (e, inl refl, h)
chain_branches e [] p (inr i) = absurd i
chain_branches e (f ∷ l) p (inl h) = (e, inl refl, h)
chain_branches e (f ∷ l) p (inr i) = let k = chain_branches f l p i in (k.0, inr k.1, k.2)

chain_ordered : (e : Edge) (l : List Edge) → Rising (e ∷ l) → Ordered val_of (chain e l)
chain_ordered e [] r = tt
chain_ordered e (f ∷ l) r = (
  tt,
  chain_ordered f l r.1,
  λ p q i j.
      let k = chain_branches f l q j in
      let h = r.0 k.0 k.1 in
      ⊎_elim (λ g. let z : q ≡ low_of k.0 = k.2 in omega arith) absurd i,
)

joint_all : (y u x : ℕ) (l : List Edge) → All l u x → Joint ends_of y l → (y ≡ u) ⊎ (y ≡ x)
joint_all y u x l a j = ⊎_elim (λ p. inl (sym p ∙ (a j.0 j.1).0)) (λ p. inr (sym p ∙ (a j.0 j.1).1)) j.2

chain_runs : (e : Edge) (l : List Edge) (u x : ℕ) → u ≢ x → All (e ∷ l) u x → Runs ends_of (chain e l) u x
chain_runs e [] u x n a = ((a e (inl refl)).0, (a e (inl refl)).1, n)
chain_runs e (f ∷ l) u x n a =
    (((a e (inl refl)).0, (a e (inl refl)).1, n), chain_runs f l u x n (λ g i. a g (inr i)), λ y j k. joint_all y u x (e ∷ []) (λ g i. a g (⊎_elim inl absurd i)) j)

-- the edges G as a wiring from u to x
record Group (G : List Edge) (u x : ℕ) : Type 0 where
  tree : Wiring Edge
  all : leaves tree ≡ G
  reads : text val_of tree ≡ group G
  made : expand tree ≡ group_tree G
  ordered : Ordered val_of tree
  runs : Runs ends_of tree u x

group_of : (G : List Edge) (u x : ℕ) (e : Edge) → In e G → u ≢ x → Rising G → All G u x → Group G u x
group_of [] u x e i n r a = absurd i
group_of (f ∷ l) u x e i n r a = record { tree = chain f l; all = chain_leaves f l; reads = chain_reads f l; made = chain_made f l; ordered = chain_ordered f l r; runs = chain_runs f l u x n a }

-- a group's lowest link is that of one of its edges
min-is : (a b : ℕ) → (min a b ≡ a) ⊎ (min a b ≡ b)
min-is a b = elim (dec_le a b) [ yes h ↦ inl (omega arith) | no h ↦ inr (omega arith) ]

joined_low : (e : Edge) (l : List Edge) → (f : Edge) × In f (e ∷ l) × ((text link_text (joined e.tree l)).low ≡ low_of f)
unfolding in_parallel
joined_low e [] = (e, inl refl, refl)
joined_low e (f ∷ l) =
    let k = joined_low f l in
    ⊎_elim (λ p. (e, inl refl, p)) (λ p. (k.0, inr k.1, p ∙ k.2)) (min-is (low_of e) (text link_text (joined f.tree l)).low)

group_low : (G : List Edge) (e : Edge) → In e G → (f : Edge) × In f G × ((group G).low ≡ low_of f)
group_low [] e i = absurd i
group_low (f ∷ l) e i = joined_low f l

series_low : (a b : Text) → ((in_series a b).low ≡ a.low) ⊎ ((in_series a b).low ≡ b.low)
unfolding in_series
series_low a b = min-is a.low b.low

-- put the wiring n for the leaf c
module _ (x : ℕ) (c : Edge) (n : Wiring Edge) (nr : Runs ends_of n c.from c.to) (no : Ordered val_of n) (nt : text val_of n ≡ val_of c) (nx : expand n ≡ c.tree) (nb : branches val_of n ≡ low_of c ∷ []) (nj : (y : ℕ) → Joint ends_of y (leaves n) → (y ≡ x) ⊎ ((y ≡ c.from) ⊎ (y ≡ c.to))) (cf : c.from ≢ x) (ct : c.to ≢ x) where
  record Grown (d : Wiring Edge) (s t : ℕ) : Type 0 where
    tree : Wiring Edge
    runs : Runs ends_of tree s t
    ordered : Ordered val_of tree
    reads : text val_of tree ≡ text val_of d
    made : expand tree ≡ expand d
    same-branches : branches val_of tree ≡ branches val_of d
    keeps : (e : Edge) → In e (leaves d) → e ≢ c → In e (leaves tree)
    grows : In c (leaves d) → (e : Edge) → In e (leaves n) → In e (leaves tree)
    only : (e : Edge) → In e (leaves tree) → (In e (leaves n) × In c (leaves d)) ⊎ (In e (leaves d) × (e ≢ c))

  Apart : Wiring Edge → Type 0
  Apart d = (e : Edge) → In e (leaves d) → (e ≡ c) ⊎ ((e.from ≢ x) × (e.to ≢ x) × (e ≢ c))

  x_out : (d : Wiring Edge) → Apart d → Joint ends_of x (leaves d) → ⊥
  unfolding Apart
  x_out d h j =
      ⊎_elim (λ p. ⊎_elim (λ q. cf (ap (λ z. z.from) (sym p) ∙ q)) (λ q. ct (ap (λ z. z.to) (sym p) ∙ q)) j.2)
      (λ p. ⊎_elim p.0 p.1 j.2)
      (h j.0 j.1)

  grown_joint : (d : Wiring Edge) (s t : ℕ) (g : Grown d s t) (y : ℕ) → Joint ends_of y (leaves g.tree) → ((y ≡ x) × In c (leaves d)) ⊎ Joint ends_of y (leaves d)
  grown_joint d s t g y j =
      ⊎_elim
      (λ p. ⊎_elim (λ q. inl (q, p.1)) (⊎_elim (λ q. inr (c, p.1, inl (sym q))) (λ q. inr (c, p.1, inr (sym q)))) (nj y (j.0, p.0, j.2)))
      (λ p. inr (j.0, p.0, j.2))
      (g.only j.0 j.1)

  share : (P : ℕ → Type 0) (a b : Wiring Edge) (s m k t : ℕ) → Apart a → Apart b → (g : Grown a s m) (h : Grown b k t) → (In c (leaves a) → In c (leaves b) → ⊥) → ((y : ℕ) → Joint ends_of y (leaves a) → Joint ends_of y (leaves b) → P y) → (y : ℕ) → Joint ends_of y (leaves g.tree) → Joint ends_of y (leaves h.tree) → P y
  share P a b s m k t ha hb g h once sh y i j =
      ⊎_elim
      (λ p. ⊎_elim (λ q. absurd (once p.1 q.1)) (λ q. absurd (x_out b hb (subst (λ z. Joint ends_of z (leaves b)) p.0 q))) (grown_joint b k t h y j))
      (λ p. ⊎_elim (λ q. absurd (x_out a ha (subst (λ z. Joint ends_of z (leaves a)) q.0 p))) (λ q. sh y p q) (grown_joint b k t h y j))
      (grown_joint a s m g y i)

  -- what is said of the leaves of two parts
  both_keep : (a b : Wiring Edge) (s m k t : ℕ) (g : Grown a s m) (h : Grown b k t) (e : Edge) → In e (leaves a ++ leaves b) → e ≢ c → In e (leaves g.tree ++ leaves h.tree)
  both_keep a b s m k t g h e i q =
      ⊎_elim (λ j. in_left e (leaves g.tree) (leaves h.tree) (g.keeps e j q)) (λ j. in_right e (leaves g.tree) (leaves h.tree) (h.keeps e j q)) (in_split e (leaves a) (leaves b) i)

  both_grow : (a b : Wiring Edge) (s m k t : ℕ) (g : Grown a s m) (h : Grown b k t) → In c (leaves a ++ leaves b) → (e : Edge) → In e (leaves n) → In e (leaves g.tree ++ leaves h.tree)
  both_grow a b s m k t g h i e q =
      ⊎_elim (λ j. in_left e (leaves g.tree) (leaves h.tree) (g.grows j e q)) (λ j. in_right e (leaves g.tree) (leaves h.tree) (h.grows j e q)) (in_split c (leaves a) (leaves b) i)

  both_only : (a b : Wiring Edge) (s m k t : ℕ) (g : Grown a s m) (h : Grown b k t) (e : Edge) → In e (leaves g.tree ++ leaves h.tree) → (In e (leaves n) × In c (leaves a ++ leaves b)) ⊎ (In e (leaves a ++ leaves b) × (e ≢ c))
  both_only a b s m k t g h e i =
      ⊎_elim
      (λ j. ⊎_elim (λ p. inl (p.0, in_left c (leaves a) (leaves b) p.1)) (λ p. inr (in_left e (leaves a) (leaves b) p.0, p.1)) (g.only e j))
      (λ j. ⊎_elim (λ p. inl (p.0, in_right c (leaves a) (leaves b) p.1)) (λ p. inr (in_right e (leaves a) (leaves b) p.0, p.1)) (h.only e j))
      (in_split e (leaves g.tree) (leaves h.tree) i)

  grow : (d : Wiring Edge) (s t : ℕ) → Runs ends_of d s t → Ordered val_of d → Apart d → Grown d s t
  unfolding Apart
  grow (link e) s t r o h =
      ⊎_elim
      (λ p. record {
        tree = n;
        runs = subst₂ (λ y z. Runs ends_of n y z) (ap (λ z. z.from) (sym p) ∙ r.0) (ap (λ z. z.to) (sym p) ∙ r.1) nr;
        ordered = no;
        reads = nt ∙ ap val_of (sym p);
        made = nx ∙ ap (λ z. z.tree) (sym p);
        same-branches = nb ∙ ap (λ z. low_of z ∷ []) (sym p);
        keeps = λ f i q. ⊎_elim (λ k. absurd (q (k ∙ p))) absurd i;
        grows = λ i f j. j;
        only = λ f i. inl (i, inl (sym p));
      })
      (λ p. record {
        tree = link e;
        runs = r;
        ordered = tt;
        reads = refl;
        made = refl;
        same-branches = refl;
        keeps = λ f i q. i;
        grows = λ i f j. ⊎_elim (λ q. absurd (p.2 (sym q))) absurd i;
        only = λ f i. inr (i, λ q. ⊎_elim (λ k. p.2 (sym k ∙ q)) (λ k. k) i);
      })
      (h e (inl refl))
  grow (series a b) s t r o h =
      let ha : Apart a = λ e i. h e (in_left e (leaves a) (leaves b) i) in
      let hb : Apart b = λ e i. h e (in_right e (leaves a) (leaves b) i) in
      let g = grow a s r.0 r.1 o.0 ha in
      let k = grow b r.0 t r.2 o.1 hb in
      let same = ap₂ in_series g.reads k.reads in
      record {
        tree = series g.tree k.tree;
        runs = (r.0, g.runs, k.runs, share (λ y. y ≡ r.0) a b s r.0 r.0 t ha hb g k (once_series ends_of a b s t r c) r.3);
        ordered = (g.ordered, k.ordered);
        reads = same;
        made = ap₂ series g.made k.made;
        same-branches = ap (λ z. z.low ∷ []) same;
        keeps = both_keep a b s r.0 r.0 t g k;
        grows = both_grow a b s r.0 r.0 t g k;
        only = both_only a b s r.0 r.0 t g k;
      }
  grow (parallel a b) s t r o h =
      let ha : Apart a = λ e i. h e (in_left e (leaves a) (leaves b) i) in
      let hb : Apart b = λ e i. h e (in_right e (leaves a) (leaves b) i) in
      let g = grow a s t r.0 o.0 ha in
      let k = grow b s t r.1 o.1 hb in
      record {
        tree = parallel g.tree k.tree;
        runs = (g.runs, k.runs, share (λ y. (y ≡ s) ⊎ (y ≡ t)) a b s t s t ha hb g k (once_parallel ends_of val_of a b s t r o c) r.2);
        ordered = (g.ordered, k.ordered, λ p q i j. o.2 p q (subst (λ z. In p z) g.same-branches i) (subst (λ z. In q z) k.same-branches j));
        reads = ap₂ in_parallel g.reads k.reads;
        made = ap₂ parallel g.made k.made;
        same-branches = ap₂ ◌++◌ g.same-branches k.same-branches;
        keeps = both_keep a b s t s t g k;
        grows = both_grow a b s t s t g k;
        only = both_only a b s t s t g k;
      }

-- what a step's new edge has for its lowest link
new_low : (A B : List Edge) (x u w : ℕ) (S : Step A x u w B) → (f : Edge) × In f A × ((f.from ≡ x) ⊎ (f.to ≡ x)) × (low_of (combined u w S.into S.out) ≡ low_of f)
new_low A B x u w S =
    let i = S.may.some_in in
    let o = S.may.some_out in
    let p = group_low S.into i.0 ((S.into_are i.0).1 (i.1, i.2)) in
    let q = group_low S.out o.0 ((S.out_are o.0).1 (o.1, o.2)) in
    ⊎_elim
    (λ h. (p.0, ((S.into_are p.0).0 p.1).0, inr ((S.into_are p.0).0 p.1).1, h ∙ p.2))
    (λ h. (q.0, ((S.out_are q.0).0 q.1).0, inl ((S.out_are q.0).0 q.1).1, h ∙ q.2))
    (series_low (group S.into) (group S.out))

-- so an edge that stays is not the new one
pub stays_apart : (A B : List Edge) (x u w : ℕ) → LowsApart A → (S : Step A x u w B) (e : Edge) → In e A → e.from ≢ x → e.to ≢ x → low_of e ≢ low_of (combined u w S.into S.out)
stays_apart A B x u w la S e i p q h =
    let f = new_low A B x u w S in
    let same : e ≡ f.0 = la e f.0 i f.1 (h ∙ f.3) in
    ⊎_elim (λ g. p (ap (λ z. z.from) same ∙ g)) (λ g. q (ap (λ z. z.to) same ∙ g)) f.2

-- a step keeps the lowest links apart
pub lows_kept : (A B : List Edge) (x u w : ℕ) → LowsApart A → Step A x u w B → LowsApart B
lows_kept A B x u w la S e f i j h =
    ⊎_elim
    (λ p. ⊎_elim (λ q. p ∙ sym q) (λ q. absurd (stays_apart A B x u w la S f q.0 q.1 q.2 (sym h ∙ ap (λ z. low_of z) p))) ((S.left f).0 j))
    (λ p. ⊎_elim (λ q. absurd (stays_apart A B x u w la S e p.0 p.1 p.2 (h ∙ ap (λ z. low_of z) q))) (λ q. la e f p.0 q.0 h) ((S.left f).0 j))
    ((S.left e).0 i)

-- what is built of the edges that a step leaves is built of those that it started from
pub step_sound : (A B : List Edge) (s t x u w : ℕ) (r : Wiring ℕ) → LowsApart A → Step A x u w B → Built B s t r → Built A s t r
unfolding Apart
step_sound A B s t x u w r la S R =
    let c : Edge = combined u w S.into S.out in
    let c-in : In c (leaves R.tree) = R.all c ((S.left c).1 (inl refl)) in
    let uw : u ≢ w = loopless ends_of R.tree s t R.runs c c-in in
    let i = S.may.some_in in
    let o = S.may.some_out in
    let ux : u ≢ x = λ p.
    let fu : i.0.from ≡ u = S.may.from_u i.0 i.1 i.2 in
    uw (p ∙ sym i.2 ∙ S.may.to_w i.0 i.1 (fu ∙ p)) in
    let xw : x ≢ w = λ p.
    let fw : o.0.to ≡ w = S.may.to_w o.0 o.1 o.2 in
    uw (sym (S.may.from_u o.0 o.1 (fw ∙ sym p)) ∙ o.2 ∙ p) in
    let all_in : All S.into u x = λ e k. let p = (S.into_are e).0 k in (S.may.from_u e p.0 p.1, p.1) in
    let all-out : All S.out x w = λ e k. let p = (S.out_are e).0 k in (p.1, S.may.to_w e p.0 p.1) in
    let g = group_of S.into u x i.0 ((S.into_are i.0).1 (i.1, i.2)) ux S.into_rises all_in in
    let k = group_of S.out x w o.0 ((S.out_are o.0).1 (o.1, o.2)) xw S.out_rises all-out in
    built A B s t x u w r la S R c-in uw ux xw all_in all-out g k
  where
    built : (A B : List Edge) (s t x u w : ℕ) (r : Wiring ℕ) → LowsApart A → (S : Step A x u w B) (R : Built B s t r) → In (combined u w S.into S.out) (leaves R.tree) → u ≢ w → u ≢ x → x ≢ w → All S.into u x → All S.out x w → Group S.into u x → Group S.out x w → Built A s t r
    built A B s t x u w r la S R c-in uw ux xw all_in all-out g k =
        let c : Edge = combined u w S.into S.out in
        let n : Wiring Edge = series g.tree k.tree in
        let gj : (y : ℕ) → Joint ends_of y (leaves g.tree) → (y ≡ u) ⊎ (y ≡ x) = λ y j. joint_all y u x S.into all_in (subst (λ z. Joint ends_of y z) g.all j) in
        let kj : (y : ℕ) → Joint ends_of y (leaves k.tree) → (y ≡ x) ⊎ (y ≡ w) = λ y j. joint_all y x w S.out all-out (subst (λ z. Joint ends_of y z) k.all j) in
        let nr : Runs ends_of n u w = (x, g.runs, k.runs, λ y i j. ⊎_elim (λ p. ⊎_elim (λ q. q) (λ q. absurd (uw (sym p ∙ q))) (kj y j)) (λ p. p) (gj y i)) in
        let nt : text val_of n ≡ val_of c = ap₂ in_series g.reads k.reads in
        let nx : expand n ≡ c.tree = ap₂ series g.made k.made in
        let nj : (y : ℕ) → Joint ends_of y (leaves n) → (y ≡ x) ⊎ ((y ≡ u) ⊎ (y ≡ w)) = λ y j.
        ⊎_elim (λ i. ⊎_elim (λ p. inr (inl p)) inl (gj y (j.0, i, j.2))) (λ i. ⊎_elim inl (λ p. inr (inr p)) (kj y (j.0, i, j.2))) (in_split j.0 (leaves g.tree) (leaves k.tree) j.1) in
        let wx : w ≢ x = λ p. xw (sym p) in
        let h : Apart x c n nr (g.ordered, k.ordered) nt nx (ap (λ z. z.low ∷ []) nt) nj ux wx R.tree = λ e i.
        ⊎_elim inl (λ p. inr (p.1, p.2, λ q. stays_apart A B x u w la S e p.0 p.1 p.2 (ap (λ z. low_of z) q))) ((S.left e).0 (R.only e i)) in
        let G = grow x c n nr (g.ordered, k.ordered) nt nx (ap (λ z. z.low ∷ []) nt) nj ux wx R.tree s t R.runs R.ordered h in
        record {
          tree = G.tree;
          runs = G.runs;
          ordered = G.ordered;
          made = G.made ∙ R.made;
          all = λ e i. elim (ℕ_discrete e.to x) [
            | yes p ↦ G.grows c-in e (in_left e (leaves g.tree) (leaves k.tree) (subst (λ z. In e z) (sym g.all) ((S.into_are e).1 (i, p))))
            | no p ↦ elim (ℕ_discrete e.from x) [
              | yes q ↦ G.grows c-in e (in_right e (leaves g.tree) (leaves k.tree) (subst (λ z. In e z) (sym k.all) ((S.out_are e).1 (i, q))))
              | no q ↦ G.keeps e (R.all e ((S.left e).1 (inr (i, q, p)))) (λ h. stays_apart A B x u w la S e i q p (ap low_of h))
            ]
          ];
          only = λ e i. ⊎_elim
              (λ p. ⊎_elim (λ j. ((S.into_are e).0 (subst (λ z. In e z) g.all j)).0) (λ j. ((S.out_are e).0 (subst (λ z. In e z) k.all j)).0) (in_split e (leaves g.tree) (leaves k.tree) p.0))
              (λ p. ⊎_elim (λ q. absurd (p.1 q)) (λ q. q.0) ((S.left e).0 (R.only e p.0)))
              (G.only e i);
        }

-- the group of edges that all run from s to t is built of them
pub done_built : (s t : ℕ) (A G : List Edge) → s ≢ t → Done s t A G → Built A s t (group_tree G)
done_built s t A G n D =
    let e = D.some in
    let g = group_of G s t e.0 ((D.are e.0).1 e.1) n D.rises (λ f i. D.all f ((D.are f).0 i)) in
    record {
      tree = g.tree;
      runs = g.runs;
      ordered = g.ordered;
      made = g.made;
      all = λ f i. subst (λ z. In f z) (sym g.all) ((D.are f).1 i);
      only = λ f i. (D.are f).0 (subst (λ z. In f z) g.all i);
    }
