-- Texts and rising groups of edges.
use Rattle.std.proofs.Common.{◌≡◌, ℕ, ◌<◌, min, List, [], ◌∷◌, ◌++◌, sym, refl, ap, ◌∙◌, subst, ap₂, inl, inr, ⊎_elim, append_assoc, arith}
use Rattle.wiring.specs.Lists.{In}
use Rattle.wiring.specs.Wiring.{Wiring, link, series, parallel, leaves, Runs}
use Rattle.wiring.specs.Text.{and_open, or_open, close, Text, in_series, in_parallel, link_text, text, branches, Ordered}
use Rattle.wiring.specs.Elimination.{Edge, low_of, Rising, joined}
use Rattle.wiring.proofs.Members.{in_left, in_right, in_split}
use Rattle.wiring.proofs.Joints.{first_link, last_link, apart}
use Rattle.wiring.proofs.Readings.{ends_of, val_of, group}

-- how texts in series, and in parallel, are grouped does not matter
pub ser_assoc : (a b c : Text) → in_series (in_series a b) c ≡ in_series a (in_series b c)
unfolding in_series
ser_assoc a b c =
    let p = append_assoc a.first b.later_and c.later_and in
    let q = append_assoc a.later_and b.later_and c.later_and in
    let m : min (min a.low b.low) c.low ≡ min a.low (min b.low c.low) = omega arith in
    λ i. record { first = p i; later_and = q i; later_or = or_open ∷ (p i ++ (close ∷ [])); low = m i }

pub par_assoc : (a b c : Text) → in_parallel (in_parallel a b) c ≡ in_parallel a (in_parallel b c)
unfolding in_parallel
par_assoc a b c =
    let p = append_assoc a.first b.later_or c.later_or in
    let q = append_assoc a.later_or b.later_or c.later_or in
    let m : min (min a.low b.low) c.low ≡ min a.low (min b.low c.low) = omega arith in
    λ i. record { first = p i; later_and = and_open ∷ (p i ++ (close ∷ [])); later_or = q i; low = m i }

joined-++ : (v : Wiring ℕ) (l : List Edge) (f : Edge) (k : List Edge) → text link_text (joined v (l ++ (f ∷ k))) ≡ in_parallel (text link_text (joined v l)) (text link_text (joined f.tree k))
joined-++ v [] f k = refl
joined-++ v (g ∷ l) f k = ap (in_parallel (text link_text v)) (joined-++ g.tree l f k) ∙ sym (par_assoc (text link_text v) (text link_text (joined g.tree l)) (text link_text (joined f.tree k)))

-- the group of two lists of edges
pub group-++ : (l k : List Edge) (e f : Edge) → In e l → In f k → group (l ++ k) ≡ in_parallel (group l) (group k)
group-++ [] k e f i j = absurd i
group-++ (x ∷ l) [] e f i j = absurd j
group-++ (x ∷ l) (y ∷ k) e f i j = joined-++ x.tree l y k

-- rising lists with the same members are the same
pub rising_same : (l k : List Edge) → Rising l → Rising k → ((e : Edge) → In e l → In e k) → ((e : Edge) → In e k → In e l) → l ≡ k
rising_same [] [] a b f g = refl
rising_same [] (y ∷ k) a b f g = absurd (g y (inl refl))
rising_same (x ∷ l) [] a b f g = absurd (f x (inl refl))
rising_same (x ∷ l) (y ∷ k) a b f g =
    let h : x ≡ y = ⊎_elim (λ p. p) (λ i. ⊎_elim sym (λ j. absurd (let p = b.0 x i in let q = a.0 y j in omega arith)) (g y (inl refl))) (f x (inl refl)) in
    ap₂ ◌∷◌ h (rising_same l k a.1 b.1
    (λ e i. ⊎_elim (λ p. absurd (let q : low_of x < low_of x = subst (λ z. low_of x < low_of z) (p ∙ sym h) (a.0 e i) in omega arith)) (λ j. j) (f e (inr i)))
    (λ e i. ⊎_elim (λ p. absurd (let q : low_of y < low_of y = subst (λ z. low_of y < low_of z) (p ∙ h) (b.0 e i) in omega arith)) (λ j. j) (g e (inr i))))

pub rising_++ : (l k : List Edge) → Rising l → Rising k → ((e f : Edge) → In e l → In f k → low_of e < low_of f) → Rising (l ++ k)
rising_++ [] k a b h = b
rising_++ (x ∷ l) k a b h = (λ f i. ⊎_elim (a.0 f) (h x f (inl refl)) (in_split f l k i), rising_++ l k a.1 b (λ e f i j. h e f (inr i) j))

-- all edges go from s to t
abbrev pub All : List Edge → ℕ → ℕ → Type 0
All l s t = (e : Edge) → In e l → (e.from ≡ s) × (e.to ≡ t)

-- the wiring is the group of its edges
pub record Bunch (w : Wiring Edge) : Type 0 where
  pub reads : text val_of w ≡ group (leaves w)
  pub rises : Rising (leaves w)
  pub lows : (e : Edge) → In e (leaves w) → In (low_of e) (branches val_of w)

-- a wiring all of whose edges go from s to t is
pub bunch : (w : Wiring Edge) (s t : ℕ) → Runs ends_of w s t → Ordered val_of w → All (leaves w) s t → Bunch w
bunch (link e) s t r o all = record { reads = refl; rises = ((λ f i. absurd i), tt); lows = λ f. elim [ inl h ↦ inl (ap (λ z. low_of z) h) | inr i ↦ absurd i ] }
bunch (series a b) s t r o all =
    let l = last_link ends_of a s r.0 r.1 in
    absurd (apart ends_of b r.0 t r.2 (sym l.2 ∙ (all l.0 (in_left l.0 (leaves a) (leaves b) l.1)).1))
bunch (parallel a b) s t r o all =
    let p = bunch a s t r.0 o.0 (λ e i. all e (in_left e (leaves a) (leaves b) i)) in
    let q = bunch b s t r.1 o.1 (λ e i. all e (in_right e (leaves a) (leaves b) i)) in
    let f = first_link ends_of a s t r.0 in
    let g = first_link ends_of b s t r.1 in
    record {
      reads = ap₂ in_parallel p.reads q.reads ∙ sym (group-++ (leaves a) (leaves b) f.0 g.0 f.1 g.1);
      rises = rising_++ (leaves a) (leaves b) p.rises q.rises (λ e f i j. o.2 (low_of e) (low_of f) (p.lows e i) (q.lows f j));
      lows = λ e i. ⊎_elim (λ j. in_left (low_of e) (branches val_of a) (branches val_of b) (p.lows e j)) (λ j. in_right (low_of e) (branches val_of a) (branches val_of b) (q.lows e j)) (in_split e (leaves a) (leaves b) i);
    }
