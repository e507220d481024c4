-- What the far ends of the edges at a joint tell: whether the joint can be eliminated.
use Rattle.std.proofs.Common.{◌≡◌, ℕ, zero, suc, ◌+◌, ◌-◌, ◌<◌, ◌≤◌, ◌==◌, Bool, true, false, cond, ◌&&◌, eqb, ◌⊎◌, List, [], ◌∷◌, map, length, get_or, take, drop, Some, None, Option, sym, refl, ap, ◌∙◌, subst, inl, inr, ⊎_elim, arith, length-take, length-drop}
use Rattle.std.proofs.lemmas.List.{get_or-take, get_or-drop}
use Rattle.std.proofs.lemmas.Bool.Decides.{eqb_tells}
use Rattle.std.specs.List.{cons_option, filter_map, list_all}
use Rattle.std.proofs.lemmas.Option.{none-some}
use Rattle.wiring.specs.Elimination.{Edge, Eligible}
use Rattle.wiring.specs.Lists.{In}
use Rattle.elimination.specs.declared.groups.Passage.{Passage}
use Rattle.elimination.specs.declared.slots.Active.{Active}
use Rattle.elimination.specs.declared.slots.Side.{Side}
use Rattle.elimination.specs.declared.slots.Side.TheVariants.{Entering, Leaving}
use Rattle.elimination.specs.declared.table.Node.{Node}
use Rattle.elimination.specs.Reduction.{passage_of, candidate_of, Picked}
use Rattle.elimination.specs.Slots.{edge, edges, near_of, far_of, touch, far_ends, only_of}
use Rattle.elimination.proofs.Edges.{some_same, near_end, near_edge}

false_true : false ≡ true → ⊥
false_true e = let z : ◌≡◌ {A = ℕ} 0 1 = cc in omega arith

-- the other end of an edge
abbrev far_end : Side → Edge → ℕ
far_end Entering e = e.from
far_end Leaving e = e.to

-- the edges at the joint x, of which there are some, have the far end u
abbrev Sole : Side → ℕ → List Edge → ℕ → Type 0
Sole s x A u = ((e : Edge) × In e A × (near_end s e ≡ x)) × ((e : Edge) → In e A → near_end s e ≡ x → far_end s e ≡ u)

far_edge : (s : Side) (ns : List Node) (a : Active) → far_end s (edge ns a) ≡ far_of s a
far_edge Entering ns a = refl
far_edge Leaving ns a = refl

-- the far ends of the edges at the joint are those that are listed
ends_from : (s : Side) (x : ℕ) (ns : List Node) (l : List (Option Active)) (u : ℕ) → In u (far_ends s x l) → (e : Edge) × In e (edges ns l) × (near_end s e ≡ x) × (far_end s e ≡ u)
ends_from s x ns [] u i = absurd i
ends_from s x ns (None ∷ l) u i = ends_from s x ns l u i
ends_from s x ns (Some a ∷ l) u i =
    let deeper : In u (far_ends s x l) → (e : Edge) × In e (edges ns l) × (near_end s e ≡ x) × (far_end s e ≡ u) = ends_from s x ns l u in
    ⊎_elim
    (λ p. first deeper p.1 (subst (λ z. In u (map (far_of s) (cons_option (cond z (Some a) None) (filter_map (touch s x) l)))) p.0 i))
    (λ p. later (deeper (subst (λ z. In u (map (far_of s) (cons_option (cond z (Some a) None) (filter_map (touch s x) l)))) p.0 i)))
    (eqb_tells (near_of s a) x)
  where
    later : (e : Edge) × In e (edges ns l) × (near_end s e ≡ x) × (far_end s e ≡ u) → (e : Edge) × In e (edge ns a ∷ edges ns l) × (near_end s e ≡ x) × (far_end s e ≡ u)
    later r = (r.0, inr r.1, r.2, r.3)

    first : (In u (far_ends s x l) → (e : Edge) × In e (edges ns l) × (near_end s e ≡ x) × (far_end s e ≡ u)) → near_of s a ≡ x → (u ≡ far_of s a) ⊎ In u (far_ends s x l) → (e : Edge) × In e (edge ns a ∷ edges ns l) × (near_end s e ≡ x) × (far_end s e ≡ u)
    first deeper n (inl q) = (edge ns a, inl refl, near_edge s ns a ∙ n, far_edge s ns a ∙ sym q)
    first deeper n (inr j) = later (deeper j)

ends_to : (s : Side) (x : ℕ) (ns : List Node) (l : List (Option Active)) (e : Edge) → In e (edges ns l) → near_end s e ≡ x → In (far_end s e) (far_ends s x l)
ends_to s x ns [] e i n = absurd i
ends_to s x ns (None ∷ l) e i n = ends_to s x ns l e i n
ends_to s x ns (Some a ∷ l) e (inl p) n =
    let h : near_of s a ≡ x = sym (near_edge s ns a) ∙ ap (near_end s) (sym p) ∙ n in
    ⊎_elim
    (λ q. subst (λ z. In (far_end s e) (map (far_of s) (cons_option (cond z (Some a) None) (filter_map (touch s x) l)))) (sym q.0) (inl (ap (far_end s) p ∙ far_edge s ns a)))
    (λ q. absurd (q.1 h))
    (eqb_tells (near_of s a) x)
ends_to s x ns (Some a ∷ l) e (inr i) n = in_more (touch s x (Some a)) (ends_to s x ns l e i n)
  where
    in_more : (o : Option Active) → In (far_end s e) (far_ends s x l) → In (far_end s e) (map (far_of s) (cons_option o (filter_map (touch s x) l)))
    in_more None j = j
    in_more (Some b) j = inr j

-- one number throughout
all_same : (u : ℕ) (l : List ℕ) → list_all (λ v. eqb v u) l ≡ true → (v : ℕ) → In v l → v ≡ u
all_same u [] e v i = absurd i
all_same u (w ∷ l) e v i =
    ⊎_elim
    (λ p. elim i [ inl q ↦ q ∙ p.1 | inr j ↦ all_same u l (sym (ap (λ b. b && list_all (λ v. eqb v u) l) p.0) ∙ e) v j ])
    (λ p. absurd (false_true (sym (ap (λ b. b && list_all (λ v. eqb v u) l) p.0) ∙ e)))
    (eqb_tells w u)

same_all : (u : ℕ) (l : List ℕ) → ((v : ℕ) → In v l → v ≡ u) → list_all (λ v. eqb v u) l ≡ true
same_all u [] f = refl
same_all u (w ∷ l) f =
    ⊎_elim
    (λ p. ap (λ b. b && list_all (λ v. eqb v u) l) p.0 ∙ same_all u l (λ v j. f v (inr j)))
    (λ p. absurd (p.1 (f w (inl refl))))
    (eqb_tells w u)

only_some : (l : List ℕ) (u : ℕ) → only_of l ≡ Some u → In u l × ((v : ℕ) → In v l → v ≡ u)
only_some [] u e = absurd (none-some _ e)
only_some (w ∷ l) u e = go (list_all (λ v. eqb v w) l) refl e
  where
    go : (b : Bool) → list_all (λ v. eqb v w) l ≡ b → cond b (Some w) None ≡ Some u → In u (w ∷ l) × ((v : ℕ) → In v (w ∷ l) → v ≡ u)
    go false q h = absurd (none-some _ h)
    go true q h = let k : w ≡ u = some_same h in (inl (sym k), λ v. elim [ inl r ↦ r ∙ k | inr j ↦ all_same w l q v j ∙ k ])

only_none : (l : List ℕ) → only_of l ≡ None → (u v : ℕ) → In v l → ((v : ℕ) → In v l → v ≡ u) → ⊥
only_none [] e u v i f = i
only_none (w ∷ l) e u v i f =
    none-some _ (sym e ∙ ap (λ b. cond b (Some w) None) (same_all w l (λ v j. f v (inr j) ∙ sym (f w (inl refl)))))

tells : (s : Side) (x : ℕ) (ns : List Node) (l : List (Option Active)) (u : ℕ) → only_of (far_ends s x l) ≡ Some u → Sole s x (edges ns l) u
tells s x ns l u e =
    let t = only_some (far_ends s x l) u e in
    let r = ends_from s x ns l u t.0 in
    ((r.0, r.1, r.2), λ e i n. t.1 (far_end s e) (ends_to s x ns l e i n))

tells_none : (s : Side) (x : ℕ) (ns : List Node) (l : List (Option Active)) → only_of (far_ends s x l) ≡ None → (u : ℕ) → Sole s x (edges ns l) u → ⊥
tells_none s x ns l e u S =
    let r = S.0 in
    only_none (far_ends s x l) e u (far_end s r.0) (ends_to s x ns l r.0 r.1 r.2) (λ v i. let t = ends_from s x ns l v i in sym t.3 ∙ S.1 t.0 t.1 t.2)

-- a joint that can be eliminated
record Passes (x : ℕ) (A : List Edge) (p : Passage) : Type 0 where
  pub joint : p.joint ≡ x
  pub may : Eligible A p.joint p.from p.to

passes : (x : ℕ) (A : List Edge) (a b : Option ℕ) (p : Passage) → ((u : ℕ) → a ≡ Some u → Sole Entering x A u) → ((w : ℕ) → b ≡ Some w → Sole Leaving x A w) → passage_of x a b ≡ Some p → Passes x A p
passes x A None b p f g e = absurd (none-some _ e)
passes x A (Some u) None p f g e = absurd (none-some _ e)
passes x A (Some u) (Some w) p f g e =
    let s = f u refl in
    let t = g w refl in
    subst (λ z. Passes x A z) (some_same e)
    (record { joint = refl; may = record { some_in = s.0; some_out = t.0; from_u = s.1; to_w = t.1 } })

-- and one that cannot
blocked : (x : ℕ) (A : List Edge) (a b : Option ℕ) → (a ≡ None → (u : ℕ) → Sole Entering x A u → ⊥) → (b ≡ None → (w : ℕ) → Sole Leaving x A w → ⊥) → passage_of x a b ≡ None → (u w : ℕ) → Eligible A x u w → ⊥
blocked x A None b f g e u w E = f refl u (E.some_in, E.from_u)
blocked x A (Some v) None f g e u w E = g refl w (E.some_out, E.to_w)
blocked x A (Some v) (Some z) f g e u w E = none-some _ (sym e)

record Chosen (g : Bool) (x : ℕ) (A : List Edge) (p : Passage) : Type 0 where
  pub left : g ≡ false
  pub may : Eligible A p.joint p.from p.to

chosen : (g : Bool) (x : ℕ) (ns : List Node) (l : List (Option Active)) (p : Passage) → candidate_of g x l ≡ Some p → Chosen g x (edges ns l) p
chosen true x ns l p e = absurd (none-some _ e)
chosen false x ns l p e = record { left = refl; may = (passes x (edges ns l) _ _ p (tells Entering x ns l) (tells Leaving x ns l) e).may }

pub not_chosen : (g : Bool) (x : ℕ) (ns : List Node) (l : List (Option Active)) → g ≡ false → candidate_of g x l ≡ None → (u w : ℕ) → Eligible (edges ns l) x u w → ⊥
not_chosen true x ns l f e u w E = let z : ◌≡◌ {A = ℕ} 0 1 = cc in absurd (omega arith)
not_chosen false x ns l f e u w E = blocked x (edges ns l) _ _ (tells_none Entering x ns l) (tells_none Leaving x ns l) e u w E

-- a joint that is picked can be eliminated, and is not gone
pub picked_may : (joints : ℕ) (gone : List Bool) (ns : List Node) (l : List (Option Active)) (p : Passage) → Picked joints gone l (Some p) → Eligible (edges ns l) p.joint p.from p.to
picked_may joints gone ns l p P = (chosen (get_or gone p.joint false) p.joint ns l p P.2).may

pub picked_left : (joints : ℕ) (gone : List Bool) (l : List (Option Active)) (p : Passage) → Picked joints gone l (Some p) → get_or gone p.joint false ≡ false
picked_left joints gone l p P = (chosen (get_or gone p.joint false) p.joint [] l p P.2).left

-- the only far end of some edges, given that of the edges before them
abbrev pub only_from : Option ℕ → List ℕ → Option ℕ
only_from None l = only_of l
only_from (Some u) l = cond (list_all (λ v. v == u) l) (Some u) None

-- every flag between the first and the last joint
all_true : (l : List Bool) → list_all (λ b. b) l ≡ true → (k : ℕ) → k < length l → get_or l k false ≡ true
all_true [] e k h = absurd (omega arith)
all_true (true ∷ l) e zero h = refl
all_true (true ∷ l) e (suc k) h = all_true l e k (omega arith)
all_true (false ∷ l) e k h = absurd (false_true e)

some_false : (l : List Bool) → list_all (λ b. b) l ≡ false → (k : ℕ) × (k < length l) × (get_or l k false ≡ false)
some_false [] e = absurd (false_true (sym e))
some_false (true ∷ l) e = let r = some_false l e in (suc r.0, (let h = r.1 in omega arith), r.2)
some_false (false ∷ l) e = (0, omega arith, refl)

inner : (n : ℕ) (l : List Bool) (k : ℕ) → k < n → get_or (take n (drop 1 l)) k false ≡ get_or l (1 + k) false
inner n l k h = get_or-take n (drop 1 l) k false h ∙ get_or-drop 1 l k false

-- every inner joint is gone, or one is not
abbrev pub AllGone : ℕ → List Bool → Bool → Type 0
AllGone joints gone true = (y : ℕ) → 0 < y → y + 1 < joints → get_or gone y false ≡ true
AllGone joints gone false = (y : ℕ) × (0 < y) × (y + 1 < joints) × (get_or gone y false ≡ false)

pub all_gone_by : (joints : ℕ) (gone : List Bool) (r : Bool) → joints ≤ length gone → r ≡ list_all (λ b. b) (take (joints - 1 - 1) (drop 1 gone)) → AllGone joints gone r
all_gone_by joints gone true most e = λ y a b.
    let l = take (joints - 1 - 1) (drop 1 gone) in
    let n = length-take (joints - 1 - 1) (drop 1 gone) in
    let m = length-drop 1 gone in
    let q : 1 + (y - 1) ≡ y = omega arith in
    ap (λ k. get_or gone k false) (sym q) ∙ sym (inner (joints - 1 - 1) gone (y - 1) (omega arith)) ∙ all_true l (sym e) (y - 1) (omega arith)
all_gone_by joints gone false most e =
    let l = take (joints - 1 - 1) (drop 1 gone) in
    let n = length-take (joints - 1 - 1) (drop 1 gone) in
    let r = some_false l (sym e) in
    let h = r.1 in
    (1 + r.0, omega arith, omega arith, sym (inner (joints - 1 - 1) gone r.0 (omega arith)) ∙ r.2)
