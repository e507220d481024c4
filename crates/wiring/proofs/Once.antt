-- In a wiring with its branches in order no leaf stands twice.
use Rattle.std.proofs.Common.{◌≡◌, ℕ, ◌<◌, ◌≢◌, sym, refl, ap, ◌∙◌, inl, inr, ⊎_elim, arith}
use Rattle.wiring.specs.Lists.{In, Distinct}
use Rattle.wiring.specs.Wiring.{Wiring, link, series, parallel, leaves, Runs}
use Rattle.wiring.specs.Text.{Text, branches, Ordered}
use Rattle.wiring.proofs.Members.{in_left, in_right, in_split, distinct_join}
use Rattle.wiring.proofs.Joints.{joint_first, joint_last, apart, none_into, none_from}

module _ {L : Type 0} (ends : L → ℕ × ℕ) where
  -- no link of a wiring goes from a joint to itself
  pub loopless : (d : Wiring L) (s t : ℕ) → Runs ends d s t → (e : L) → In e (leaves d) → (ends e).0 ≢ (ends e).1
  loopless (link e) s t r x (inl p) = λ q. r.2 (sym r.0 ∙ ap (λ z. (ends z).0) (sym p) ∙ q ∙ ap (λ z. (ends z).1) p ∙ r.1)
  loopless (link e) s t r x (inr i) = absurd i
  loopless (series a b) s t r x i = ⊎_elim (loopless a s r.0 r.1 x) (loopless b r.0 t r.2 x) (in_split x (leaves a) (leaves b) i)
  loopless (parallel a b) s t r x i = ⊎_elim (loopless a s t r.0 x) (loopless b s t r.1 x) (in_split x (leaves a) (leaves b) i)

  pub once_series : (a b : Wiring L) (s t : ℕ) → Runs ends (series a b) s t → (e : L) → In e (leaves a) → In e (leaves b) → ⊥
  once_series a b s t r e i j = loopless a s r.0 r.1 e i (r.3 (ends e).0 (e, i, inl refl) (e, j, inl refl) ∙ sym (r.3 (ends e).1 (e, i, inr refl) (e, j, inr refl)))

  module _ (val : L → Text) where
    -- a leaf from s to t is a branch by itself
    direct : (a : Wiring L) (s t : ℕ) → Runs ends a s t → (e : L) → In e (leaves a) → (ends e).0 ≡ s → (ends e).1 ≡ t → In (val e).low (branches val a)
    direct (link f) s t r e (inl h) p q = inl (ap (λ z. (val z).low) h)
    direct (link f) s t r e (inr i) p q = absurd i
    direct (series a b) s t r e i p q =
        ⊎_elim (λ j. absurd (apart ends b r.0 t r.2 (sym (r.3 t (e, j, inr q) (joint_last ends b r.0 t r.2)))))
        (λ j. absurd (apart ends a s r.0 r.1 (r.3 s (joint_first ends a s r.0 r.1) (e, j, inl p))))
        (in_split e (leaves a) (leaves b) i)
    direct (parallel a b) s t r e i p q =
        ⊎_elim (λ j. in_left (val e).low (branches val a) (branches val b) (direct a s t r.0 e j p q)) (λ j. in_right (val e).low (branches val a) (branches val b) (direct b s t r.1 e j p q))
        (in_split e (leaves a) (leaves b) i)

    pub once_parallel : (a b : Wiring L) (s t : ℕ) → Runs ends (parallel a b) s t → Ordered val (parallel a b) → (e : L) → In e (leaves a) → In e (leaves b) → ⊥
    once_parallel a b s t r o e i j =
        let p : (ends e).0 ≡ s = ⊎_elim (λ h. h) (λ h. absurd (none_from ends a s t r.0 e i h)) (r.2 (ends e).0 (e, i, inl refl) (e, j, inl refl)) in
        let q : (ends e).1 ≡ t = ⊎_elim (λ h. absurd (none_into ends a s t r.0 e i h)) (λ h. h) (r.2 (ends e).1 (e, i, inr refl) (e, j, inr refl)) in
        let h : (val e).low < (val e).low = o.2 (val e).low (val e).low (direct a s t r.0 e i p q) (direct b s t r.1 e j p q) in
        omega arith

    pub distinct_leaves : (w : Wiring L) (s t : ℕ) → Runs ends w s t → Ordered val w → Distinct (leaves w)
    distinct_leaves (link e) s t r o = ((λ i. i), tt)
    distinct_leaves (series a b) s t r o = distinct_join (leaves a) (leaves b) (distinct_leaves a s r.0 r.1 o.0) (distinct_leaves b r.0 t r.2 o.1) (once_series a b s t r)
    distinct_leaves (parallel a b) s t r o = distinct_join (leaves a) (leaves b) (distinct_leaves a s t r.0 o.0) (distinct_leaves b s t r.1 o.1) (once_parallel a b s t r o)
