-- A step keeps the reading; a reading is never stuck; every run ends with its text.
use Rattle.std.proofs.Common.{◌≡◌, ℕ, zero, suc, ◌+◌, ◌<◌, ◌≤◌, ◌≢◌, ◌⊎◌, List, [], ◌∷◌, ◌++◌, length, sym, ap, ◌∙◌, subst, ap₂, inl, inr, ⊎_elim, arith, length-append}
use Rattle.wiring.specs.Lists.{In}
use Rattle.wiring.specs.Wiring.{Wiring, link, series, parallel, leaves, Joint, Runs}
use Rattle.wiring.specs.Text.{Text, link_text, text}
use Rattle.wiring.specs.Elimination.{Edge, group_tree, combined, Eligible, Step}
use Rattle.wiring.proofs.Members.{in_left, in_right, in_split}
use Rattle.wiring.proofs.Joints.{first_link, last_link, joint_first, joint_last, apart, none_into, none_from}
use Rattle.wiring.proofs.Readings.{ends_of, group, Done, Run, done, step, Reading}
use Rattle.wiring.proofs.Groups.{rising_same, All, bunch}
use Rattle.wiring.proofs.Once.{loopless}
use Rattle.wiring.proofs.Cuts.{Swap, old_front, old_into, old_out, old_rest, old_split, new_split, new_in, Cut, cut}

-- the groups that a cut finds are all the edges at x
module _ {a b : List Edge} {x u w : ℕ} (c : Swap a b x u w) (loops : (e : Edge) → In e a → e.from ≢ e.to) (may : Eligible a x u w) where
  find_into : (e : Edge) → In e a → e.to ≡ x → In e c.into
  find_into e i p =
      ⊎_elim (⊎_elim (λ j. absurd ((c.clear_front e j).1 p)) (λ j. j))
      (⊎_elim (λ j. absurd (loops e i ((c.out_go e j).0 ∙ sym p))) (λ j. absurd ((c.clear_rest e j).1 p)))
      (old_split c e i)

  find_out : (e : Edge) → In e a → e.from ≡ x → In e c.out
  find_out e i p =
      ⊎_elim (⊎_elim (λ j. absurd ((c.clear_front e j).0 p)) (λ j. absurd (loops e i (p ∙ sym (c.into_go e j).1))))
      (⊎_elim (λ j. j) (λ j. absurd ((c.clear_rest e j).0 p)))
      (old_split c e i)

  find_other : (e : Edge) → In e a → e.from ≢ x → e.to ≢ x → In e b
  find_other e i p q =
      ⊎_elim (⊎_elim (λ j. new_in c e (inl j)) (λ j. absurd (q (c.into_go e j).1)))
      (⊎_elim (λ j. absurd (p (c.out_go e j).0)) (λ j. new_in c e (inr (inr j))))
      (old_split c e i)

eligible_moves : (A B : List Edge) (x u w : ℕ) → ((e : Edge) → In e A → In e B) → ((e : Edge) → In e B → In e A) → Eligible A x u w → Eligible B x u w
eligible_moves A B x u w f g m = record {
  some_in = (m.some_in.0, f m.some_in.0 m.some_in.1, m.some_in.2);
  some_out = (m.some_out.0, f m.some_out.0 m.some_out.1, m.some_out.2);
  from_u = λ e i. m.from_u e (g e i);
  to_w = λ e i. m.to_w e (g e i);
}

cut_of : (A : List Edge) (s t x u w : ℕ) (v : Text) (R : Reading A s t v) → x ≢ s → x ≢ t → Eligible A x u w → Cut R.tree s t x u w
cut_of A s t x u w v R xs xt m =
    let e = m.some_in in
    cut R.tree s t x u w R.runs R.ordered (λ e i. m.from_u e (R.only e i)) (λ e i. m.to_w e (R.only e i)) xs xt (e.0, R.all e.0 e.1, inr e.2)

-- a step keeps the reading
pub step_keeps : (A B : List Edge) (s t x u w : ℕ) (v : Text) → Reading A s t v → x ≢ s → x ≢ t → Step A x u w B → Reading B s t v
step_keeps A B s t x u w v R xs xt S =
    let c = cut_of A s t x u w v R xs xt S.may in
    let k = c.swap in
    let loops = loopless ends_of R.tree s t R.runs in
    let m = eligible_moves A (leaves R.tree) x u w R.all R.only S.may in
    let same-into : k.into ≡ S.into =
    rising_same k.into S.into k.into_rises S.into_rises
    (λ e i. (S.into_are e).1 (R.only e (old_into k e i), (k.into_go e i).1))
    (λ e i. let p = (S.into_are e).0 i in find_into k loops m e (R.all e p.0) p.1) in
    let same_out : k.out ≡ S.out =
    rising_same k.out S.out k.out_rises S.out_rises
    (λ e i. (S.out_are e).1 (R.only e (old_out k e i), (k.out_go e i).0))
    (λ e i. let p = (S.out_are e).0 i in find_out k loops m e (R.all e p.0) p.1) in
    let same_new : combined u w k.into k.out ≡ combined u w S.into S.out = ap₂ (combined u w) same-into same_out in
    record {
      tree = c.tree;
      runs = c.runs;
      ordered = c.ordered;
      reads = c.reads ∙ R.reads;
      all = λ e i. ⊎_elim (λ p. new_in k e (inr (inl (p ∙ sym same_new)))) (λ p. find_other k loops m e (R.all e p.0) p.1 p.2) ((S.left e).0 i);
      only = λ e i. (S.left e).1
          (⊎_elim (λ j. inr (R.only e (old_front k e j), (k.clear_front e j).0, (k.clear_front e j).1))
          (⊎_elim (λ p. inl (p ∙ same_new)) (λ j. inr (R.only e (old_rest k e j), (k.clear_rest e j).0, (k.clear_rest e j).1)))
          (new_split k e i));
    }

-- where the elimination ends, the group of the edges has the text
pub end_reads : (A G : List Edge) (s t : ℕ) (v : Text) → Reading A s t v → Done s t A G → v ≡ group G
end_reads A G s t v R D =
    let b = bunch R.tree s t R.runs R.ordered (λ e i. D.all e (R.only e i)) in
    sym R.reads ∙ b.reads
    ∙ ap group (rising_same (leaves R.tree) G b.rises D.rises (λ e i. (D.are e).1 (R.only e i)) (λ e i. R.all e ((D.are e).0 i)))

unique : {s t : ℕ} {A : List Edge} {r : Wiring ℕ} → Run s t A r → (v : Text) → Reading A s t v → v ≡ text link_text r
unique {s} {t} (done {A = A} G D) v R = end_reads A G s t v R D
unique {s} {t} (step {A = A} x u w B xs xt S run) v R = unique run v (step_keeps A B s t x u w v R xs xt S)

pub run_unique : (A : List Edge) (s t : ℕ) (v : Text) (r : Wiring ℕ) → Reading A s t v → Run s t A r → v ≡ text link_text r
run_unique A s t v r R run = unique run v R

-- a wiring with an inner joint has one that can be eliminated
widen_left : (l k : List Edge) (x u w : ℕ) → (Joint ends_of x k → ⊥) → Eligible l x u w → Eligible (l ++ k) x u w
widen_left l k x u w n m = record {
  some_in = (m.some_in.0, in_left m.some_in.0 l k m.some_in.1, m.some_in.2);
  some_out = (m.some_out.0, in_left m.some_out.0 l k m.some_out.1, m.some_out.2);
  from_u = λ e i p. ⊎_elim (λ j. m.from_u e j p) (λ j. absurd (n (e, j, inr p))) (in_split e l k i);
  to_w = λ e i p. ⊎_elim (λ j. m.to_w e j p) (λ j. absurd (n (e, j, inl p))) (in_split e l k i);
}

widen_right : (l k : List Edge) (x u w : ℕ) → (Joint ends_of x l → ⊥) → Eligible k x u w → Eligible (l ++ k) x u w
widen_right l k x u w n m = record {
  some_in = (m.some_in.0, in_right m.some_in.0 l k m.some_in.1, m.some_in.2);
  some_out = (m.some_out.0, in_right m.some_out.0 l k m.some_out.1, m.some_out.2);
  from_u = λ e i p. ⊎_elim (λ j. absurd (n (e, j, inr p))) (λ j. m.from_u e j p) (in_split e l k i);
  to_w = λ e i p. ⊎_elim (λ j. absurd (n (e, j, inl p))) (λ j. m.to_w e j p) (in_split e l k i);
}

joint_of : (l : List Edge) (x u w : ℕ) → Eligible l x u w → Joint ends_of x l
joint_of l x u w m = (m.some_in.0, m.some_in.1, inr m.some_in.2)

progress : (d : Wiring Edge) (s t : ℕ) → Runs ends_of d s t → All (leaves d) s t ⊎ ((x u w : ℕ) × (x ≢ s) × (x ≢ t) × Eligible (leaves d) x u w)
progress (link e) s t r = inl (λ x. elim [ inl p ↦ (ap (λ z. z.from) p ∙ r.0, ap (λ z. z.to) p ∙ r.1) | inr i ↦ absurd i ])
progress (series a b) s t r =
    ⊎_elim
    (λ p. ⊎_elim
    (λ q. inr (
      r.0,
      s,
      t,
      (λ e. apart ends_of a s r.0 r.1 (sym e)),
      apart ends_of b r.0 t r.2,
      record {
        some_in = (f.0, in_left f.0 (leaves a) (leaves b) f.1, f.2);
        some_out = (g.0, in_right g.0 (leaves a) (leaves b) g.1, g.2);
        from_u = λ e i h. ⊎_elim (λ j. (p e j).0) (λ j. absurd (none_into ends_of b r.0 t r.2 e j h)) (in_split e (leaves a) (leaves b) i);
        to_w = λ e i h. ⊎_elim (λ j. absurd (none_from ends_of a s r.0 r.1 e j h)) (λ j. (q e j).1) (in_split e (leaves a) (leaves b) i);
      },
    ))
    (λ q.
    let x = q.0 in
    inr (
      x,
      q.1,
      q.2,
      (λ e. q.3 (r.3 x (subst (λ z. Joint ends_of z (leaves a)) (sym e) (joint_first ends_of a s r.0 r.1)) (joint_of (leaves b) x q.1 q.2 q.5))),
      q.4,
      widen_right (leaves a) (leaves b) x q.1 q.2 (λ j. q.3 (r.3 x j (joint_of (leaves b) x q.1 q.2 q.5))) q.5,
    ))
    (progress b r.0 t r.2))
    (λ q.
    let x = q.0 in
    inr (
      x,
      q.1,
      q.2,
      q.3,
      (λ e. q.4 (r.3 x (joint_of (leaves a) x q.1 q.2 q.5) (subst (λ z. Joint ends_of z (leaves b)) (sym e) (joint_last ends_of b r.0 t r.2)))),
      widen_left (leaves a) (leaves b) x q.1 q.2 (λ j. q.4 (r.3 x (joint_of (leaves a) x q.1 q.2 q.5) j)) q.5,
    ))
    (progress a s r.0 r.1)
  where
    f : (e : Edge) × In e (leaves a) × (e.to ≡ r.0)
    f = last_link ends_of a s r.0 r.1

    g : (e : Edge) × In e (leaves b) × (e.from ≡ r.0)
    g = first_link ends_of b r.0 t r.2
progress (parallel a b) s t r =
    ⊎_elim
    (λ p. ⊎_elim
    (λ q. inl (λ e i. ⊎_elim (p e) (q e) (in_split e (leaves a) (leaves b) i)))
    (λ q. inr (q.0, q.1, q.2, q.3, q.4, widen_right (leaves a) (leaves b) q.0 q.1 q.2 (λ j. ⊎_elim q.3 q.4 (r.2 q.0 j (joint_of (leaves b) q.0 q.1 q.2 q.5))) q.5))
    (progress b s t r.1))
    (λ q. inr (q.0, q.1, q.2, q.3, q.4, widen_left (leaves a) (leaves b) q.0 q.1 q.2 (λ j. ⊎_elim q.3 q.4 (r.2 q.0 (joint_of (leaves a) q.0 q.1 q.2 q.5) j)) q.5))
    (progress a s t r.0)

pub never_stuck : (A : List Edge) (s t : ℕ) (v : Text) → Reading A s t v → ((e : Edge) → In e A → (e.from ≡ s) × (e.to ≡ t)) ⊎ ((x u w : ℕ) × (x ≢ s) × (x ≢ t) × Eligible A x u w)
never_stuck A s t v R =
    ⊎_elim (λ p. inl (λ e i. p e (R.all e i)))
    (λ q. inr (q.0, q.1, q.2, q.3, q.4, eligible_moves (leaves R.tree) A q.0 q.1 q.2 R.only R.all q.5))
    (progress R.tree s t R.runs)

-- there is a run: each step leaves fewer leaves
some_length : (l : List Edge) (e : Edge) → In e l → 1 ≤ length l
some_length [] e i = absurd i
some_length (x ∷ l) e i = omega arith

fewer : {a b : List Edge} {x u w : ℕ} (c : Swap a b x u w) → length b < length a
fewer {a} {b} {x} {u} {w} c =
    let p = some_length c.into c.some_in.0 c.some_in.1 in
    let q = some_length c.out c.some_out.0 c.some_out.1 in
    let la : length a ≡ length c.front + (length c.into + (length c.out + length c.rest)) = ap length c.before ∙ simp length-append in
    let lb : length b ≡ length c.front + length (combined u w c.into c.out ∷ c.rest) = ap length c.after ∙ simp length-append in
    omega arith

run_by : (n : ℕ) (A : List Edge) (s t : ℕ) (v : Text) (R : Reading A s t v) → length (leaves R.tree) ≤ n → (r : Wiring ℕ) × (text link_text r ≡ v) × Run s t A r
run_by zero A s t v R h = let f = first_link ends_of R.tree s t R.runs in let p = some_length (leaves R.tree) f.0 f.1 in absurd (omega arith)
run_by (suc n) A s t v R h =
    ⊎_elim
    (λ p.
    let b = bunch R.tree s t R.runs R.ordered p in
    let f = first_link ends_of R.tree s t R.runs in (
      group_tree (leaves R.tree),
      sym b.reads ∙ R.reads,
      done (leaves R.tree) (record { some = (f.0, R.only f.0 f.1); all = λ e i. p e (R.all e i); rises = b.rises; are = λ e. (R.only e, R.all e) }),
    ))
    (λ q.
    let x = q.0 in let u = q.1 in let w = q.2 in
    let m = eligible_moves (leaves R.tree) A x u w R.only R.all q.5 in
    let c = cut_of A s t x u w v R q.3 q.4 m in
    let k = c.swap in
    let loops = loopless ends_of R.tree s t R.runs in
    let next = run_by n (leaves c.tree) s t v
    (record { tree = c.tree; runs = c.runs; ordered = c.ordered; reads = c.reads ∙ R.reads; all = λ e i. i; only = λ e i. i })
    (let g = fewer k in omega arith) in (
      next.0,
      next.1,
      step x u w (leaves c.tree) q.3 q.4
          (record {
            may = m;
            into = k.into;
            out = k.out;
            into_rises = k.into_rises;
            out_rises = k.out_rises;
            into_are = λ e. ((λ i. (R.only e (old_into k e i), (k.into_go e i).1)), λ p. find_into k loops q.5 e (R.all e p.0) p.1);
            out_are = λ e. ((λ i. (R.only e (old_out k e i), (k.out_go e i).0)), λ p. find_out k loops q.5 e (R.all e p.0) p.1);
            left = λ e. (
              (λ i. ⊎_elim (λ j. inr (R.only e (old_front k e j), (k.clear_front e j).0, (k.clear_front e j).1))
                  (⊎_elim inl (λ j. inr (R.only e (old_rest k e j), (k.clear_rest e j).0, (k.clear_rest e j).1)))
                  (new_split k e i)),
              ⊎_elim (λ p. new_in k e (inr (inl p))) (λ p. find_other k loops q.5 e (R.all e p.0) p.1 p.2),
            );
          })
          next.2,
    ))
    (progress R.tree s t R.runs)

pub run_exists : (A : List Edge) (s t : ℕ) (v : Text) → Reading A s t v → (r : Wiring ℕ) × (text link_text r ≡ v) × Run s t A r
run_exists A s t v R = run_by (length (leaves R.tree)) A s t v R (omega arith)
