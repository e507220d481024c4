-- The active edges by their slots.
use Rattle.std.proofs.Common.{◌≡◌, ℕ, zero, suc, ◌+◌, ◌<◌, Bool, true, false, cond, ◌||◌, eqb, ◌≢◌, ◌⊎◌, ◌↔◌, List, [], ◌∷◌, map, length, get_or, set, Some, None, Option, sym, refl, ap, ◌∙◌, subst, ap₂, inl, inr, ⊎_elim, arith}
use Rattle.std.proofs.lemmas.Bool.Decides.{eqb_tells}
use Rattle.std.proofs.Math.ListN.{get_or-map}
use Rattle.std.proofs.lemmas.Option.{none-some}
use Rattle.wiring.specs.Elimination.{Edge, low_of, Rising}
use Rattle.wiring.specs.Lists.{In}
use Rattle.wiring.specs.Text.{link_text, text}
use Rattle.wiring.specs.Wiring.{Wiring}
use Rattle.elimination.specs.declared.slots.Active.{Active}
use Rattle.elimination.specs.declared.slots.Side.{Side}
use Rattle.elimination.specs.declared.slots.Side.TheVariants.{Entering, Leaving}
use Rattle.elimination.specs.declared.table.Node.{Node}
use Rattle.elimination.specs.Groups.{Grown}
use Rattle.elimination.specs.Slots.{edge, edges, live, near_of, touch, spared, low_at, Stands}

-- filled slots
pub some_same : {X : Type 0} {x y : X} → Some x ≡ Some y → x ≡ y
some_same e = cc

touch_some_at : (b : Bool) (a c : Active) → cond b (Some a) None ≡ Some c → a ≡ c
touch_some_at true a c e = cc
touch_some_at false a c e = let z : ◌≡◌ {A = ℕ} 0 1 = cc in absurd (omega arith)

pub touch_some : (s : Side) (x : ℕ) (o : Option Active) (a : Active) → touch s x o ≡ Some a → o ≡ Some a
touch_some s x None a e = e
touch_some s x (Some c) a e = ap Some (touch_some_at (eqb (near_of s c) x) c a e)

-- the edge e stands in a slot
pub record At (ns : List Node) (l : List (Option Active)) (e : Edge) : Type 0 where
  pub slot : ℕ
  pub active : Active
  pub filled : get_or l slot None ≡ Some active
  pub is : e ≡ edge ns active

pub in_edges : (ns : List Node) (l : List (Option Active)) (e : Edge) → In e (edges ns l) → At ns l e
in_edges ns [] e i = absurd i
in_edges ns (None ∷ l) e i = let r = in_edges ns l e i in record { slot = suc r.slot; active = r.active; filled = r.filled; is = r.is }
in_edges ns (Some a ∷ l) e (inl p) = record { slot = zero; active = a; filled = refl; is = p }
in_edges ns (Some a ∷ l) e (inr i) = let r = in_edges ns l e i in record { slot = suc r.slot; active = r.active; filled = r.filled; is = r.is }

pub edges_in : (ns : List Node) (l : List (Option Active)) (k : ℕ) (a : Active) → get_or l k None ≡ Some a → In (edge ns a) (edges ns l)
edges_in ns [] k a h = absurd (none-some _ h)
edges_in ns (None ∷ l) zero a h = absurd (none-some _ h)
edges_in ns (None ∷ l) (suc k) a h = edges_in ns l k a h
edges_in ns (Some b ∷ l) zero a h = inl (ap (edge ns) (sym (some_same h)))
edges_in ns (Some b ∷ l) (suc k) a h = inr (edges_in ns l k a h)

-- the edges rise, since each stands in the slot of its lowest link
rising_from : (ns : List Node) (l : List (Option Active)) (j : ℕ) → ((k : ℕ) (a : Active) → get_or l k None ≡ Some a → low_at ns a.at ≡ j + k) → Rising (edges ns l)
rising_from ns [] j f = tt
rising_from ns (None ∷ l) j f = rising_from ns l (suc j) (λ k a h. let p = f (suc k) a h in omega arith)
rising_from ns (Some b ∷ l) j f = (
  λ e i.
      let m = in_edges ns l e i in
      let p = f (suc m.slot) m.active m.filled in
      let q = f zero b refl in
      let r : low_of e ≡ low_at ns m.active.at = ap (λ z. low_of z) m.is in
      omega arith,
  rising_from ns l (suc j) (λ k a h. let p = f (suc k) a h in omega arith),
)

pub rising_edges : (ns : List Node) (l : List (Option Active)) → Stands ns l → Rising (edges ns l)
rising_edges ns l S = rising_from ns l 0 (λ k a h. let p = (S k a h).low in omega arith)

-- the slots that touch a joint
touched_at : (n x : ℕ) (a c : Active) → cond (eqb n x) (Some a) None ≡ Some c → n ≡ x
touched_at n x a c e = ⊎_elim (λ p. p.1) (λ p. absurd (none-some _ (sym (ap (λ b. cond b (Some a) None) p.0) ∙ e))) (eqb_tells n x)

pub touch_near : (s : Side) (x : ℕ) (o : Option Active) (a : Active) → touch s x o ≡ Some a → near_of s a ≡ x
touch_near s x None a e = absurd (none-some _ e)
touch_near s x (Some c) a e = ap (near_of s) (sym (some_same (touch_some s x (Some c) a e))) ∙ touched_at (near_of s c) x c a e

touch-back : (s : Side) (x : ℕ) (o : Option Active) (a : Active) → o ≡ Some a → near_of s a ≡ x → touch s x o ≡ Some a
touch-back s x o a e h = ap (touch s x) e ∙ ⊎_elim (λ p. ap (λ b. cond b (Some a) None) p.0) (λ p. absurd (p.1 h)) (eqb_tells (near_of s a) x)

-- the end of an edge at that side of a joint
abbrev pub near_end : Side → Edge → ℕ
near_end Entering e = e.to
near_end Leaving e = e.from

pub near_edge : (s : Side) (ns : List Node) (a : Active) → near_end s (edge ns a) ≡ near_of s a
near_edge Entering ns a = refl
near_edge Leaving ns a = refl

pub in_touch : (s : Side) (x : ℕ) (ns : List Node) (l : List (Option Active)) (e : Edge) → In e (edges ns (map (touch s x) l)) ↔ (In e (edges ns l) × (near_end s e ≡ x))
in_touch s x ns l e = (
  λ i.
      let m = in_edges ns (map (touch s x) l) e i in
      let t = sym (get_or-map (touch s x) l m.slot None) ∙ m.filled in (
        subst (λ z. In z (edges ns l)) (sym m.is) (edges_in ns l m.slot m.active (touch_some s x (get_or l m.slot None) m.active t)),
        ap (near_end s) m.is ∙ near_edge s ns m.active ∙ touch_near s x (get_or l m.slot None) m.active t,
      ),
  λ p.
      let m = in_edges ns l e p.0 in
      let n : near_of s m.active ≡ x = sym (near_edge s ns m.active) ∙ ap (near_end s) (sym m.is) ∙ p.1 in
      subst (λ z. In z (edges ns (map (touch s x) l))) (sym m.is)
      (edges_in ns (map (touch s x) l) m.slot m.active (get_or-map (touch s x) l m.slot None ∙ touch-back s x (get_or l m.slot None) m.active m.filled n)),
)

pub rising_touch : (s : Side) (x : ℕ) (ns : List Node) (l : List (Option Active)) → Stands ns l → Rising (edges ns (map (touch s x) l))
rising_touch s x ns l S = rising_from ns (map (touch s x) l) 0 (λ k a h. let p = (S k a (touch_some s x (get_or l k None) a (sym (get_or-map (touch s x) l k None) ∙ h))).low in omega arith)

-- the slot o, and its edge does not touch x
pub record Spared (x : ℕ) (o : Option Active) (a : Active) : Type 0 where
  pub same : o ≡ Some a
  pub not_from : a.from ≢ x
  pub not_to : a.to ≢ x

pub spared_some : (x : ℕ) (o : Option Active) (a : Active) → spared x o ≡ Some a → Spared x o a
spared_some x None a e = absurd (none-some _ e)
spared_some x (Some c) a e =
    ⊎_elim
    (λ p. absurd (none-some _ (sym (ap (λ b. cond (b || eqb c.to x) None (Some c)) p.0) ∙ e)))
    (λ p. ⊎_elim
    (λ q. absurd (none-some _ (sym (ap₂ (λ b d. cond (b || d) None (Some c)) p.0 q.0) ∙ e)))
    (λ q.
    let h : c ≡ a = some_same (sym (ap₂ (λ b d. cond (b || d) None (Some c)) p.0 q.0) ∙ e) in
    record { same = ap Some h; not_from = λ k. p.1 (ap (λ z. z.from) h ∙ k); not_to = λ k. q.1 (ap (λ z. z.to) h ∙ k) })
    (eqb_tells c.to x))
    (eqb_tells c.from x)

pub spared-back : (x : ℕ) (o : Option Active) (a : Active) → o ≡ Some a → a.from ≢ x → a.to ≢ x → spared x o ≡ Some a
spared-back x o a e f t =
    ap (spared x) e
    ∙ ⊎_elim (λ p. absurd (f p.1))
    (λ p. ⊎_elim (λ q. absurd (t q.1)) (λ q. ap₂ (λ b d. cond (b || d) None (Some a)) p.0 q.0) (eqb_tells a.to x))
    (eqb_tells a.from x)

-- how many are filled
abbrev one : Option Active → ℕ
one None = 0
one (Some a) = 1

live_one : (o : Option Active) (l : List (Option Active)) → live (o ∷ l) ≡ one o + live l
live_one None l = omega arith
live_one (Some a) l = omega arith

one_split : (x : ℕ) (o : Option Active) → ((a : Active) → o ≡ Some a → a.from ≢ a.to) → one o ≡ one (touch Entering x o) + one (touch Leaving x o) + one (spared x o)
one_split x None f = refl
one_split x (Some a) f = go (eqb_tells a.to x) (eqb_tells a.from x)
  where
    go : ((eqb a.to x ≡ true) × (a.to ≡ x)) ⊎ ((eqb a.to x ≡ false) × (a.to ≡ x → ⊥)) → ((eqb a.from x ≡ true) × (a.from ≡ x)) ⊎ ((eqb a.from x ≡ false) × (a.from ≡ x → ⊥)) → 1 ≡ one (touch Entering x (Some a)) + one (touch Leaving x (Some a)) + one (spared x (Some a))
    go (inl p) (inl q) = absurd (f a refl (q.1 ∙ sym p.1))
    go (inl p) (inr q) = sym (ap₂ (λ t g. one (cond t (Some a) None) + one (cond g (Some a) None) + one (cond (g || t) None (Some a))) p.0 q.0)
    go (inr p) (inl q) = sym (ap₂ (λ t g. one (cond t (Some a) None) + one (cond g (Some a) None) + one (cond (g || t) None (Some a))) p.0 q.0)
    go (inr p) (inr q) = sym (ap₂ (λ t g. one (cond t (Some a) None) + one (cond g (Some a) None) + one (cond (g || t) None (Some a))) p.0 q.0)

live_split : (x : ℕ) (l : List (Option Active)) → ((k : ℕ) (a : Active) → get_or l k None ≡ Some a → a.from ≢ a.to) → live l ≡ live (map (touch Entering x) l) + live (map (touch Leaving x) l) + live (map (spared x) l)
live_split x [] f = refl
live_split x (o ∷ l) f =
    let a = live_one o l in
    let b = live_one (touch Entering x o) (map (touch Entering x) l) in
    let c = live_one (touch Leaving x o) (map (touch Leaving x) l) in
    let d = live_one (spared x o) (map (spared x) l) in
    let e = one_split x o (f zero) in
    let g = live_split x l (λ k. f (suc k)) in
    omega arith

pub live_parts : (x : ℕ) (ns : List Node) (l : List (Option Active)) → Stands ns l → live l ≡ live (map (touch Entering x) l) + live (map (touch Leaving x) l) + live (map (spared x) l)
live_parts x ns l S = live_split x l (λ k a h. (S k a h).apart)

pub live-set : (l : List (Option Active)) (k : ℕ) (a : Active) → k < length l → get_or l k None ≡ None → live (set l k (Some a)) ≡ suc (live l)
live-set [] k a h e = absurd (omega arith)
live-set (None ∷ l) zero a h e = refl
live-set (Some b ∷ l) zero a h e = absurd (none-some _ (sym e))
live-set (None ∷ l) (suc k) a h e = live-set l k a (omega arith) e
live-set (Some b ∷ l) (suc k) a h e = ap suc (live-set l k a (omega arith) e)

abbrev pub edge-between : ℕ → ℕ → Wiring ℕ → Edge
edge-between u w t = record { from = u; to = w; tree = t }

pub edge-grown : (ns ns' : List Node) → Grown ns ns' → (a : Active) → a.at < length ns → edge ns' a ≡ edge ns a
edge-grown ns ns' G a h = ap (edge-between a.from a.to) (G.same a.at h)

-- what stands in a table stands in one that has grown
pub stands_grown : (ns ns' : List Node) (l : List (Option Active)) → Grown ns ns' → Stands ns l → Stands ns' l
stands_grown ns ns' l G S k a h =
    let f = S k a h in
    let p = f.at in let m = G.more in
    record { at = omega arith; low = ap (λ t. (text link_text t).low) (G.same a.at p) ∙ f.low; apart = f.apart }

pub edges-grown : (ns ns' : List Node) → Grown ns ns' → (l : List (Option Active)) → ((k : ℕ) (a : Active) → get_or l k None ≡ Some a → a.at < length ns) → edges ns' l ≡ edges ns l
edges-grown ns ns' G [] f = refl
edges-grown ns ns' G (None ∷ l) f = edges-grown ns ns' G l (λ k. f (suc k))
edges-grown ns ns' G (Some a ∷ l) f = ap₂ ◌∷◌ (edge-grown ns ns' G a (f zero a refl)) (edges-grown ns ns' G l (λ k. f (suc k)))

pub touch-grown : (s : Side) (x : ℕ) (ns ns' : List Node) (l : List (Option Active)) → Grown ns ns' → Stands ns l → edges ns' (map (touch s x) l) ≡ edges ns (map (touch s x) l)
touch-grown s x ns ns' l G S =
    edges-grown ns ns' G (map (touch s x) l) (λ k a h. (S k a (touch_some s x (get_or l k None) a (sym (get_or-map (touch s x) l k None) ∙ h))).at)
