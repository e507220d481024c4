-- How a wiring ends where all its edges into its end come from one joint; and how it starts.
use Rattle.std.proofs.Common.{◌≡◌, ℕ, ◌⊎◌, List, ◌++◌, sym, refl, ap, ◌∙◌, subst, inl, inr, ⊎_elim, append_assoc}
use Rattle.wiring.specs.Lists.{In}
use Rattle.wiring.specs.Wiring.{Wiring, link, series, parallel, leaves, Joint, Runs}
use Rattle.wiring.specs.Text.{in_series, text, Ordered}
use Rattle.wiring.specs.Elimination.{Edge, Rising}
use Rattle.wiring.proofs.Members.{in_left, in_right, in_split}
use Rattle.wiring.proofs.Joints.{joint_left, joint_right, first_link, last_link, apart, none_into, none_from}
use Rattle.wiring.proofs.Readings.{ends_of, val_of, group}
use Rattle.wiring.proofs.Groups.{ser_assoc, All, bunch}

-- d is `before`, and then the group of edges `last` from u to m
pub record Tail (d : Wiring Edge) (s m u : ℕ) : Type 0 where
  pub before : Wiring Edge
  pub last : List Edge
  pub runs : Runs ends_of before s u
  pub ordered : Ordered val_of before
  pub reads : text val_of d ≡ in_series (text val_of before) (group last)
  pub all : leaves d ≡ leaves before ++ last
  pub rises : Rising last
  pub goes : All last u m

-- d is that, or is itself a group of edges from s to m
pub tail : (d : Wiring Edge) (s m u : ℕ) → Runs ends_of d s m → Ordered val_of d → ((e : Edge) → In e (leaves d) → e.to ≡ m → e.from ≡ u) → ((u ≡ s) × All (leaves d) s m) ⊎ Tail d s m u
tail (link e) s m u r o h = inl (sym (h e (inl refl) r.1) ∙ r.0, λ x. elim [ inl p ↦ (ap (λ z. z.from) p ∙ r.0, ap (λ z. z.to) p ∙ r.1) | inr i ↦ absurd i ])
tail (series a b) s m u r o h =
    ⊎_elim
    (λ c.
    let g = bunch b r.0 m r.2 o.1 c.1 in
    inr (record {
      before = a;
      last = leaves b;
      runs = subst (λ z. Runs ends_of a s z) (sym c.0) r.1;
      ordered = o.0;
      reads = ap (in_series (text val_of a)) g.reads;
      all = refl;
      rises = g.rises;
      goes = λ e i. ((c.1 e i).0 ∙ sym c.0, (c.1 e i).1);
    }))
    (λ c.
    inr (record {
      before = series a c.before;
      last = c.last;
      runs = (r.0, r.1, c.runs, λ y j k. r.3 y j (subst (λ z. Joint ends_of y z) (sym c.all) (joint_left ends_of y (leaves c.before) c.last k)));
      ordered = (o.0, c.ordered);
      reads = ap (in_series (text val_of a)) c.reads ∙ sym (ser_assoc (text val_of a) (text val_of c.before) (group c.last));
      all = ap (λ z. leaves a ++ z) c.all ∙ sym (append_assoc (leaves a) (leaves c.before) c.last);
      rises = c.rises;
      goes = c.goes;
    }))
    (tail b r.0 m u r.2 o.1 (λ e i. h e (in_right e (leaves a) (leaves b) i)))
tail (parallel a b) s m u r o h =
    let p = last_link ends_of a s m r.0 in
    let q = last_link ends_of b s m r.1 in
    let pu : p.0.from ≡ u = h p.0 (in_left p.0 (leaves a) (leaves b) p.1) p.2 in
    let qu : q.0.from ≡ u = h q.0 (in_right q.0 (leaves a) (leaves b) q.1) q.2 in
    let u-is : u ≡ s = ⊎_elim (λ e. e) (λ e. absurd (none_from ends_of a s m r.0 p.0 p.1 (pu ∙ e))) (r.2 u (p.0, p.1, inl pu) (q.0, q.1, inl qu)) in
    ⊎_elim
    (λ c. ⊎_elim
    (λ k. inl (u-is, λ e i. ⊎_elim (c.1 e) (k.1 e) (in_split e (leaves a) (leaves b) i)))
    (λ k. absurd (apart ends_of k.before s u k.runs (sym u-is)))
    (tail b s m u r.1 o.1 (λ e i. h e (in_right e (leaves a) (leaves b) i))))
    (λ c. absurd (apart ends_of c.before s u c.runs (sym u-is)))
    (tail a s m u r.0 o.0 (λ e i. h e (in_left e (leaves a) (leaves b) i)))

-- d is the group of edges `start` from m to w, and then `after`
pub record Head (d : Wiring Edge) (m t w : ℕ) : Type 0 where
  pub after : Wiring Edge
  pub start : List Edge
  pub runs : Runs ends_of after w t
  pub ordered : Ordered val_of after
  pub reads : text val_of d ≡ in_series (group start) (text val_of after)
  pub all : leaves d ≡ start ++ leaves after
  pub rises : Rising start
  pub goes : All start m w

-- d is that, or is itself a group of edges from m to t
pub head : (d : Wiring Edge) (m t w : ℕ) → Runs ends_of d m t → Ordered val_of d → ((e : Edge) → In e (leaves d) → e.from ≡ m → e.to ≡ w) → ((w ≡ t) × All (leaves d) m t) ⊎ Head d m t w
head (link e) m t w r o h = inl (sym (h e (inl refl) r.0) ∙ r.1, λ x. elim [ inl p ↦ (ap (λ z. z.from) p ∙ r.0, ap (λ z. z.to) p ∙ r.1) | inr i ↦ absurd i ])
head (series a b) m t w r o h =
    ⊎_elim
    (λ c.
    let g = bunch a m r.0 r.1 o.0 c.1 in
    inr (record {
      after = b;
      start = leaves a;
      runs = subst (λ z. Runs ends_of b z t) (sym c.0) r.2;
      ordered = o.1;
      reads = ap (λ z. in_series z (text val_of b)) g.reads;
      all = refl;
      rises = g.rises;
      goes = λ e i. ((c.1 e i).0, (c.1 e i).1 ∙ sym c.0);
    }))
    (λ c.
    inr (record {
      after = series c.after b;
      start = c.start;
      runs = (r.0, c.runs, r.2, λ y j k. r.3 y (subst (λ z. Joint ends_of y z) (sym c.all) (joint_right ends_of y c.start (leaves c.after) j)) k);
      ordered = (c.ordered, o.1);
      reads = ap (λ z. in_series z (text val_of b)) c.reads ∙ ser_assoc (group c.start) (text val_of c.after) (text val_of b);
      all = ap (λ z. z ++ leaves b) c.all ∙ append_assoc c.start (leaves c.after) (leaves b);
      rises = c.rises;
      goes = c.goes;
    }))
    (head a m r.0 w r.1 o.0 (λ e i. h e (in_left e (leaves a) (leaves b) i)))
head (parallel a b) m t w r o h =
    let p = first_link ends_of a m t r.0 in
    let q = first_link ends_of b m t r.1 in
    let pw : p.0.to ≡ w = h p.0 (in_left p.0 (leaves a) (leaves b) p.1) p.2 in
    let qw : q.0.to ≡ w = h q.0 (in_right q.0 (leaves a) (leaves b) q.1) q.2 in
    let w-is : w ≡ t = ⊎_elim (λ e. absurd (none_into ends_of a m t r.0 p.0 p.1 (pw ∙ e))) (λ e. e) (r.2 w (p.0, p.1, inr pw) (q.0, q.1, inr qw)) in
    ⊎_elim
    (λ c. ⊎_elim
    (λ k. inl (w-is, λ e i. ⊎_elim (c.1 e) (k.1 e) (in_split e (leaves a) (leaves b) i)))
    (λ k. absurd (apart ends_of k.after w t k.runs w-is))
    (head b m t w r.1 o.1 (λ e i. h e (in_right e (leaves a) (leaves b) i))))
    (λ c. absurd (apart ends_of c.after w t c.runs w-is))
    (head a m t w r.0 o.0 (λ e i. h e (in_left e (leaves a) (leaves b) i)))
