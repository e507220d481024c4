-- What the elimination of a joint does to a wiring.
use Rattle.std.proofs.Common.{◌≡◌, ℕ, ◌≢◌, ◌⊎◌, List, [], ◌∷◌, ◌++◌, sym, refl, ap, ◌∙◌, subst, ap₂, inl, inr, ⊎_elim, append_assoc, append-nil}
use native.Mathlib.Decide.{ℕ_discrete}
use Rattle.wiring.specs.Lists.{In}
use Rattle.wiring.specs.Wiring.{Wiring, link, series, parallel, leaves, Joint, Runs}
use Rattle.wiring.specs.Text.{in_series, in_parallel, text, branches, Ordered}
use Rattle.wiring.specs.Elimination.{Edge, Rising, combined}
use Rattle.wiring.proofs.Members.{in_left, in_right, in_split}
use Rattle.wiring.proofs.Joints.{joint_left, joint_right, joint_split, first_link, last_link, joint_last, none_into, none_from}
use Rattle.wiring.proofs.Readings.{ends_of, val_of, group}
use Rattle.wiring.proofs.Groups.{ser_assoc, All, bunch}
use Rattle.wiring.proofs.EndGroups.{tail, head}

-- no edge of l touches x
abbrev pub Clear : ℕ → List Edge → Type 0
Clear x l = (e : Edge) → In e l → (e.from ≢ x) × (e.to ≢ x)

pub clear : (x : ℕ) (l : List Edge) → (Joint ends_of x l → ⊥) → Clear x l
clear x l n = λ e i. (λ p. n (e, i, inl p), λ p. n (e, i, inr p))

pub clear_none : (x : ℕ) (l : List Edge) → Clear x l → Joint ends_of x l → ⊥
clear_none x l c j = ⊎_elim (c j.0 j.1).0 (c j.0 j.1).1 j.2

clear_++ : (x : ℕ) (l k : List Edge) → Clear x l → Clear x k → Clear x (l ++ k)
clear_++ x l k c d = λ e i. ⊎_elim (c e) (d e) (in_split e l k i)

-- the edges `into` and `out` of old, side by side, are one edge of new
pub record Swap (old new : List Edge) (x u w : ℕ) : Type 0 where
  pub front : List Edge
  pub into : List Edge
  pub out : List Edge
  pub rest : List Edge
  pub before : old ≡ front ++ (into ++ (out ++ rest))
  pub after : new ≡ front ++ (combined u w into out ∷ rest)
  pub into_rises : Rising into
  pub out_rises : Rising out
  pub into_go : All into u x
  pub out_go : All out x w
  pub some_in : (e : Edge) × In e into
  pub some_out : (e : Edge) × In e out
  pub clear_front : Clear x front
  pub clear_rest : Clear x rest

swap_left : {a b : List Edge} {x u w : ℕ} (k : List Edge) → Swap a b x u w → Clear x k → Swap (a ++ k) (b ++ k) x u w
swap_left {a} {b} {x} {u} {w} k c n = record {
  front = c.front;
  into = c.into;
  out = c.out;
  rest = c.rest ++ k;
  before = ap (λ z. z ++ k) c.before ∙ simp append_assoc;
  after = ap (λ z. z ++ k) c.after ∙ append_assoc c.front (combined u w c.into c.out ∷ c.rest) k;
  into_rises = c.into_rises;
  out_rises = c.out_rises;
  into_go = c.into_go;
  out_go = c.out_go;
  some_in = c.some_in;
  some_out = c.some_out;
  clear_front = c.clear_front;
  clear_rest = clear_++ x c.rest k c.clear_rest n;
}

swap_right : {a b : List Edge} {x u w : ℕ} (k : List Edge) → Swap a b x u w → Clear x k → Swap (k ++ a) (k ++ b) x u w
swap_right {a} {b} {x} {u} {w} k c n = record {
  front = k ++ c.front;
  into = c.into;
  out = c.out;
  rest = c.rest;
  before = ap (λ z. k ++ z) c.before ∙ sym (append_assoc k c.front (c.into ++ (c.out ++ c.rest)));
  after = ap (λ z. k ++ z) c.after ∙ sym (append_assoc k c.front (combined u w c.into c.out ∷ c.rest));
  into_rises = c.into_rises;
  out_rises = c.out_rises;
  into_go = c.into_go;
  out_go = c.out_go;
  some_in = c.some_in;
  some_out = c.some_out;
  clear_front = clear_++ x k c.front n c.clear_front;
  clear_rest = c.clear_rest;
}

module _ {a b : List Edge} {x u w : ℕ} (c : Swap a b x u w) where
  pub old_front : (e : Edge) → In e c.front → In e a
  old_front e i = subst (λ z. In e z) (sym c.before) (in_left e c.front (c.into ++ (c.out ++ c.rest)) i)

  pub old_into : (e : Edge) → In e c.into → In e a
  old_into e i = subst (λ z. In e z) (sym c.before) (in_right e c.front (c.into ++ (c.out ++ c.rest)) (in_left e c.into (c.out ++ c.rest) i))

  pub old_out : (e : Edge) → In e c.out → In e a
  old_out e i = subst (λ z. In e z) (sym c.before) (in_right e c.front (c.into ++ (c.out ++ c.rest)) (in_right e c.into (c.out ++ c.rest) (in_left e c.out c.rest i)))

  pub old_rest : (e : Edge) → In e c.rest → In e a
  old_rest e i = subst (λ z. In e z) (sym c.before) (in_right e c.front (c.into ++ (c.out ++ c.rest)) (in_right e c.into (c.out ++ c.rest) (in_right e c.out c.rest i)))

  pub old_split : (e : Edge) → In e a → (In e c.front ⊎ In e c.into) ⊎ (In e c.out ⊎ In e c.rest)
  old_split e i =
      ⊎_elim (λ j. inl (inl j))
      (λ j. ⊎_elim (λ k. inl (inr k)) (λ k. inr (in_split e c.out c.rest k)) (in_split e c.into (c.out ++ c.rest) j))
      (in_split e c.front (c.into ++ (c.out ++ c.rest)) (subst (λ z. In e z) c.before i))

  pub new_split : (e : Edge) → In e b → In e c.front ⊎ ((e ≡ combined u w c.into c.out) ⊎ In e c.rest)
  new_split e i = in_split e c.front (combined u w c.into c.out ∷ c.rest) (subst (λ z. In e z) c.after i)

  pub new_in : (e : Edge) → In e c.front ⊎ ((e ≡ combined u w c.into c.out) ⊎ In e c.rest) → In e b
  new_in e (inl i) = subst (λ z. In e z) (sym c.after) (in_left e c.front (combined u w c.into c.out ∷ c.rest) i)
  new_in e (inr i) = subst (λ z. In e z) (sym c.after) (in_right e c.front (combined u w c.into c.out ∷ c.rest) i)

  pub swap_joint : (y : ℕ) → Joint ends_of y b → Joint ends_of y a
  swap_joint y j =
      ⊎_elim (λ i. (j.0, old_front j.0 i, j.2))
      (⊎_elim
      (λ p. ⊎_elim
      (λ q. let e = c.some_in in (e.0, old_into e.0 e.1, inl ((c.into_go e.0 e.1).0 ∙ ap (λ z. z.from) (sym p) ∙ q)))
      (λ q. let e = c.some_out in (e.0, old_out e.0 e.1, inr ((c.out_go e.0 e.1).1 ∙ ap (λ z. z.to) (sym p) ∙ q)))
      j.2)
      (λ i. (j.0, old_rest j.0 i, j.2)))
      (new_split j.0 j.1)

-- d with one edge in the place of the joint x: it reads as d does
pub record Cut (d : Wiring Edge) (s t x u w : ℕ) : Type 0 where
  pub tree : Wiring Edge
  pub runs : Runs ends_of tree s t
  pub ordered : Ordered val_of tree
  pub reads : text val_of tree ≡ text val_of d
  pub same-branches : branches val_of tree ≡ branches val_of d
  pub swap : Swap (leaves d) (leaves tree) x u w

-- the second half of a cut at the joint m between two parts
record Half (b : Wiring Edge) (m t u w : ℕ) (into : List Edge) : Type 0 where
  tree : Wiring Edge
  out : List Edge
  rest : List Edge
  runs : Runs ends_of tree u t
  ordered : Ordered val_of tree
  reads : text val_of tree ≡ in_series (group into) (text val_of b)
  single : branches val_of tree ≡ (text val_of tree).low ∷ []
  before : leaves b ≡ out ++ rest
  after : leaves tree ≡ combined u w into out ∷ rest
  out_rises : Rising out
  out_go : All out m w
  some_out : (e : Edge) × In e out
  clear_rest : Clear m rest

-- the part behind m, where the edges into m are one group
half : (b : Wiring Edge) (m t u w : ℕ) (into : List Edge) → Runs ends_of b m t → Ordered val_of b → ((e : Edge) → In e (leaves b) → e.from ≡ m → e.to ≡ w) → (Joint ends_of u (leaves b) → ⊥) → Half b m t u w into
half b m t u w into r o h n =
    ⊎_elim
    (λ c.
    let g = bunch b m t r o c.1 in
    record {
      tree = link (combined u w into (leaves b));
      out = leaves b;
      rest = [];
      runs = (refl, c.0, λ p. n (subst (λ z. Joint ends_of z (leaves b)) (sym p) (joint_last ends_of b m t r)));
      ordered = tt;
      reads = ap (in_series (group into)) (sym g.reads);
      single = refl;
      before = sym (append-nil (leaves b));
      after = refl;
      out_rises = g.rises;
      out_go = λ e i. ((c.1 e i).0, (c.1 e i).1 ∙ sym c.0);
      some_out = (f.0, f.1);
      clear_rest = λ e i. absurd i;
    })
    (λ c.
    let k : In f.0 c.start ⊎ In f.0 (leaves c.after) = in_split f.0 c.start (leaves c.after) (subst (λ z. In f.0 z) c.all f.1) in
    let cl : Clear m (leaves c.after) = λ e i.
    let j : In e (leaves b) = subst (λ z. In e z) (sym c.all) (in_right e c.start (leaves c.after) i) in
    (λ p. none_into ends_of c.after w t c.runs e i (h e j p), none_into ends_of b m t r e j) in
    record {
      tree = series (link (combined u w into c.start)) c.after;
      out = c.start;
      rest = leaves c.after;
      runs = (
        w,
        (refl, refl, λ p. n (subst (λ z. Joint ends_of z (leaves b)) (sym p) w_in)),
        c.runs,
        λ y j k. ⊎_elim
            (λ q. ⊎_elim
            (λ g. absurd (n (subst (λ z. Joint ends_of z (leaves b)) (sym g ∙ ap (λ z. z.from) q) (subst (λ z. Joint ends_of y z) (sym c.all) (joint_right ends_of y c.start (leaves c.after) k)))))
            (λ g. sym g ∙ ap (λ z. z.to) q)
            j.2)
            absurd j.1,
      );
      ordered = (tt, c.ordered);
      reads = ser_assoc (group into) (group c.start) (text val_of c.after) ∙ ap (in_series (group into)) (sym c.reads);
      single = refl;
      before = c.all;
      after = refl;
      out_rises = c.rises;
      out_go = c.goes;
      some_out = (f.0, ⊎_elim (λ i. i) (λ i. absurd ((cl f.0 i).0 f.2)) k);
      clear_rest = cl;
    })
    (head b m t w r o h)
  where
    f : (e : Edge) × In e (leaves b) × (e.from ≡ m)
    f = first_link ends_of b m t r

    w_in : Joint ends_of w (leaves b)
    w_in = (f.0, f.1, inr (h f.0 f.1 f.2))

-- x is the middle joint of a series
middle : (a b : Wiring Edge) (s t m u w : ℕ) → Runs ends_of a s m → Runs ends_of b m t → ((y : ℕ) → Joint ends_of y (leaves a) → Joint ends_of y (leaves b) → y ≡ m) → Ordered val_of a → Ordered val_of b → ((e : Edge) → In e (leaves a) → e.to ≡ m → e.from ≡ u) → ((e : Edge) → In e (leaves b) → e.from ≡ m → e.to ≡ w) → Cut (series a b) s t m u w
middle a b s t m u w ra rb sh oa ob hi ho =
    ⊎_elim
    (λ c.
    let g = bunch a s m ra oa c.1 in
    let k = half b m t u w (leaves a) rb ob ho u_out in
    let same : text val_of k.tree ≡ in_series (text val_of a) (text val_of b) = k.reads ∙ ap (λ z. in_series z (text val_of b)) (sym g.reads) in
    record {
      tree = k.tree;
      runs = subst (λ z. Runs ends_of k.tree z t) c.0 k.runs;
      ordered = k.ordered;
      reads = same;
      same-branches = k.single ∙ ap (λ z. z.low ∷ []) same;
      swap = record {
        front = [];
        into = leaves a;
        out = k.out;
        rest = k.rest;
        before = ap (λ z. leaves a ++ z) k.before;
        after = k.after;
        into_rises = g.rises;
        out_rises = k.out_rises;
        into_go = λ e i. ((c.1 e i).0 ∙ sym c.0, (c.1 e i).1);
        out_go = k.out_go;
        some_in = (f.0, f.1);
        some_out = k.some_out;
        clear_front = λ e i. absurd i;
        clear_rest = k.clear_rest;
      };
    })
    (λ c.
    let k = half b m t u w c.last rb ob ho u_out in
    let cl : Clear m (leaves c.before) = λ e i.
    let j : In e (leaves a) = subst (λ z. In e z) (sym c.all) (in_left e (leaves c.before) c.last i) in
    (none_from ends_of a s m ra e j, λ p. none_from ends_of c.before s u c.runs e i (hi e j p)) in
    let same : in_series (text val_of c.before) (text val_of k.tree) ≡ in_series (text val_of a) (text val_of b) =
    ap (in_series (text val_of c.before)) k.reads ∙ sym (ser_assoc (text val_of c.before) (group c.last) (text val_of b)) ∙ ap (λ z. in_series z (text val_of b)) (sym c.reads) in
    let q : In f.0 (leaves c.before) ⊎ In f.0 c.last = in_split f.0 (leaves c.before) c.last (subst (λ z. In f.0 z) c.all f.1) in
    record {
      tree = series c.before k.tree;
      runs = (
        u,
        c.runs,
        k.runs,
        λ y j i.
            let ja : Joint ends_of y (leaves a) = subst (λ z. Joint ends_of y z) (sym c.all) (joint_left ends_of y (leaves c.before) c.last j) in
            let never : y ≢ m = λ p. clear_none m (leaves c.before) cl (subst (λ z. Joint ends_of z (leaves c.before)) p j) in
            ⊎_elim
            (λ p. ⊎_elim
            (λ g. sym g ∙ ap (λ z. z.from) p)
            (λ g.
            let e = k.some_out in
            absurd (never (sh y ja (e.0, subst (λ z. In e.0 z) (sym k.before) (in_left e.0 k.out k.rest e.1), inr ((k.out_go e.0 e.1).1 ∙ ap (λ z. z.to) (sym p) ∙ g)))))
            i.2)
            (λ n. absurd (never (sh y ja (i.0, subst (λ z. In i.0 z) (sym k.before) (in_right i.0 k.out k.rest n), i.2))))
            (new_of k.tree k.after i.0 i.1),
      );
      ordered = (c.ordered, k.ordered);
      reads = same;
      same-branches = ap (λ z. z.low ∷ []) same;
      swap = record {
        front = leaves c.before;
        into = c.last;
        out = k.out;
        rest = k.rest;
        before = ap₂ ◌++◌ c.all k.before ∙ append_assoc (leaves c.before) c.last (k.out ++ k.rest);
        after = ap (λ z. leaves c.before ++ z) k.after;
        into_rises = c.rises;
        out_rises = k.out_rises;
        into_go = c.goes;
        out_go = k.out_go;
        some_in = (f.0, ⊎_elim (λ i. absurd ((cl f.0 i).1 f.2)) (λ i. i) q);
        some_out = k.some_out;
        clear_front = cl;
        clear_rest = k.clear_rest;
      };
    })
    (tail a s m u ra oa hi)
  where
    f : (e : Edge) × In e (leaves a) × (e.to ≡ m)
    f = last_link ends_of a s m ra

    u_out : Joint ends_of u (leaves b) → ⊥
    u_out j = none_from ends_of a s m ra f.0 f.1 (hi f.0 f.1 f.2 ∙ sh u (f.0, f.1, inl (hi f.0 f.1 f.2)) j)

    new_of : {e₀ : Edge} {rest : List Edge} (d : Wiring Edge) → leaves d ≡ e₀ ∷ rest → (e : Edge) → In e (leaves d) → (e ≡ e₀) ⊎ In e rest
    new_of {e₀} {rest} d p e i = subst (λ z. In e z) p i

-- every wiring that the joint x is inner to
pub cut : (d : Wiring Edge) (s t x u w : ℕ) → Runs ends_of d s t → Ordered val_of d → ((e : Edge) → In e (leaves d) → e.to ≡ x → e.from ≡ u) → ((e : Edge) → In e (leaves d) → e.from ≡ x → e.to ≡ w) → x ≢ s → x ≢ t → Joint ends_of x (leaves d) → Cut d s t x u w
cut (link e) s t x u w r o hi ho xs xt j =
    ⊎_elim (λ p. absurd (⊎_elim (λ q. xs (sym q ∙ ap (λ z. z.from) p ∙ r.0)) (λ q. xt (sym q ∙ ap (λ z. z.to) p ∙ r.1)) j.2)) absurd j.1
cut (series a b) s t x u w r o hi ho xs xt j =
    elim (ℕ_discrete x r.0) [
      | yes p ↦ subst (λ z. Cut (series a b) s t z u w) (sym p)
          (middle a b s t r.0 u w r.1 r.2 r.3 o.0 o.1 (λ e i q. hi e (in_left e (leaves a) (leaves b) i) (q ∙ sym p)) (λ e i q. ho e (in_right e (leaves a) (leaves b) i) (q ∙ sym p)))
      | no n ↦ ⊎_elim
          (λ k.
          let c = cut a s r.0 x u w r.1 o.0 (λ e i. hi e (in_left e (leaves a) (leaves b) i)) (λ e i. ho e (in_left e (leaves a) (leaves b) i)) xs n k in
          let same = ap (λ z. in_series z (text val_of b)) c.reads in
          record {
            tree = series c.tree b;
            runs = (r.0, c.runs, r.2, λ y i l. r.3 y (swap_joint c.swap y i) l);
            ordered = (c.ordered, o.1);
            reads = same;
            same-branches = ap (λ z. z.low ∷ []) same;
            swap = swap_left (leaves b) c.swap (clear x (leaves b) (λ l. n (r.3 x k l)));
          })
          (λ k.
          let c = cut b r.0 t x u w r.2 o.1 (λ e i. hi e (in_right e (leaves a) (leaves b) i)) (λ e i. ho e (in_right e (leaves a) (leaves b) i)) n xt k in
          let same = ap (in_series (text val_of a)) c.reads in
          record {
            tree = series a c.tree;
            runs = (r.0, r.1, c.runs, λ y i l. r.3 y i (swap_joint c.swap y l));
            ordered = (o.0, c.ordered);
            reads = same;
            same-branches = ap (λ z. z.low ∷ []) same;
            swap = swap_right (leaves a) c.swap (clear x (leaves a) (λ l. n (r.3 x l k)));
          })
          (joint_split ends_of x (leaves a) (leaves b) j)
    ]
cut (parallel a b) s t x u w r o hi ho xs xt j =
    ⊎_elim
    (λ k.
    let c = cut a s t x u w r.0 o.0 (λ e i. hi e (in_left e (leaves a) (leaves b) i)) (λ e i. ho e (in_left e (leaves a) (leaves b) i)) xs xt k in
    record {
      tree = parallel c.tree b;
      runs = (c.runs, r.1, λ y i l. r.2 y (swap_joint c.swap y i) l);
      ordered = (c.ordered, o.1, λ p q i l. o.2 p q (subst (λ z. In p z) c.same-branches i) l);
      reads = ap (λ z. in_parallel z (text val_of b)) c.reads;
      same-branches = ap (λ z. z ++ branches val_of b) c.same-branches;
      swap = swap_left (leaves b) c.swap (clear x (leaves b) (λ l. ⊎_elim xs xt (r.2 x k l)));
    })
    (λ k.
    let c = cut b s t x u w r.1 o.1 (λ e i. hi e (in_right e (leaves a) (leaves b) i)) (λ e i. ho e (in_right e (leaves a) (leaves b) i)) xs xt k in
    record {
      tree = parallel a c.tree;
      runs = (r.0, c.runs, λ y i l. r.2 y i (swap_joint c.swap y l));
      ordered = (o.0, c.ordered, λ p q i l. o.2 p q i (subst (λ z. In q z) c.same-branches l));
      reads = ap (in_parallel (text val_of a)) c.reads;
      same-branches = ap (λ z. branches val_of a ++ z) c.same-branches;
      swap = swap_right (leaves a) c.swap (clear x (leaves a) (λ l. ⊎_elim xs xt (r.2 x l k)));
    })
    (joint_split ends_of x (leaves a) (leaves b) j)
