-- The elimination of one joint after the other.
use Rattle.std.proofs.Common.{◌≡◌, ℕ, zero, suc, ◌+◌, ◌-◌, ◌<◌, ◌≤◌, Bool, true, false, cond, ◌&&◌, eqb, ◌≢◌, List, [], ◌∷◌, map, length, get_or, set, replicate, Some, None, Option, sym, refl, ap, ◌∙◌, subst, ap₂, inl, inr, ⊎_elim, arith}
use native.Mathlib.Decide.{ℕ_discrete}
use Rattle.std.proofs.lemmas.List.{get_or-set_same, get_or-set_other, length-set}
use Rattle.std.proofs.lemmas.Bool.Decides.{eqb_tells}
use Rattle.wiring.specs.Circuit.{Circuit, coil_joint}
use Rattle.wiring.specs.Elimination.{Edge, combined, Reaches, start, more}
use Rattle.wiring.specs.Lists.{In}
use Rattle.wiring.specs.Text.{link_text, text}
use Rattle.wiring.proofs.Circuits.{NoMore, keeps, reading, refused}
use Rattle.wiring.proofs.Once.{loopless}
use Rattle.wiring.proofs.Readings.{ends_of}
use Rattle.wiring.proofs.Tidy.{eliminate, tidy_step}
use Rattle.elimination.specs.declared.groups.Passage.{Passage}
use Rattle.elimination.specs.declared.slots.Active.{Active}
use Rattle.elimination.specs.declared.slots.Side.TheVariants.{Leaving}
use Rattle.elimination.specs.declared.table.Node.{Node}
use Rattle.elimination.specs.Reduction.{Picked, left_of, Eliminated, Work, NoReading, Outcome}
use Rattle.elimination.specs.Slots.{edge, edges, live, touch, straight, Stands}
use Rattle.elimination.proofs.Edges.{rising_edges}
use Rattle.elimination.proofs.Picking.{AllGone, not_chosen, picked_may}
use Rattle.elimination.proofs.Placing.{none-at}

-- the joints that are left become fewer
pub fewer : (gone : List Bool) (x : ℕ) → x < length gone → get_or gone x false ≡ false → left_of (set gone x true) < left_of gone
fewer [] x h e = absurd (omega arith)
fewer (true ∷ l) zero h e = let z : ◌≡◌ {A = ℕ} 0 1 = cc in absurd (omega arith)
fewer (false ∷ l) zero h e = omega arith
fewer (true ∷ l) (suc x) h e = fewer l x (omega arith) e
fewer (false ∷ l) (suc x) h e = let r = fewer l x (omega arith) e in omega arith

-- no joint is eliminated at first
pub work_start : (joints : ℕ) (l : List (Option Active)) (ns : List Node) → Stands ns l → Work joints (length ns + live l) (edges ns l) l ns (replicate 32 false)
work_start joints l ns S = record {
  xs = [];
  reached = start;
  stands = S;
  room = refl;
  marked = λ y h. let e = none-at false 32 y in let z : ◌≡◌ {A = ℕ} 0 1 = cc in absurd (omega arith);
  only = λ y i. absurd i;
  long = refl;
}

-- one joint more
pub work_more : (joints total : ℕ) (A : List Edge) (l : List (Option Active)) (ns : List Node) (gone : List Bool) (p : Passage) (l' : List (Option Active)) (ns' : List Node) → joints ≤ 32 → Work joints total A l ns gone → Picked joints gone l (Some p) → Eliminated p.joint p.from p.to l ns l' ns' → Work joints total A l' ns' (set gone p.joint true)
work_more joints total A l ns gone p l' ns' most W P D =
    let a = P.0 in let b = P.1 in let c = W.room in let d = D.room in let long = W.long in
    let fits : p.joint < length gone = omega arith in
    record {
      xs = p.joint ∷ W.xs;
      reached = more p.joint p.from p.to (edges ns' l') W.reached (omega arith) (omega arith) D.step;
      stands = D.stands;
      room = omega arith;
      marked = λ y h. elim (ℕ_discrete y p.joint) [ yes q ↦ inl q | no q ↦ inr (W.marked y (sym (get_or-set_other gone p.joint y true false q) ∙ h)) ];
      only = λ y. elim [
        | inl q ↦ ap (λ k. get_or (set gone p.joint true) k false) q ∙ get_or-set_same gone p.joint true false fits
        | inr i ↦ elim (ℕ_discrete y p.joint) [
          | yes q ↦ ap (λ k. get_or (set gone p.joint true) k false) q ∙ get_or-set_same gone p.joint true false fits
          | no q ↦ get_or-set_other gone p.joint y true false q ∙ W.only y i
        ]
      ];
      long = length-set gone p.joint true ∙ long;
    }

pub work_at : {joints joints' total : ℕ} {A : List Edge} {l : List (Option Active)} {ns : List Node} {gone : List Bool} → joints ≡ joints' → Work joints total A l ns gone → Work joints' total A l ns gone
work_at {total = total} {A = A} {l = l} {ns = ns} {gone = gone} e W = subst (λ j. Work j total A l ns gone) e W

-- an edge from a joint to itself: there is no reading
loop_refused : (joints : ℕ) (A B : List Edge) (xs : List ℕ) (e : Edge) → Reaches 0 (joints - 1) A xs B → In e B → e.from ≡ e.to → NoReading joints A
loop_refused joints A B xs e r i h g j range S w R =
    let c : joints - 1 ≡ coil_joint g = ap (λ z. z - 1) (sym j) in
    let K = keeps (subst (λ z. Reaches 0 z A xs B) c r) (text link_text w) (reading g w A R S) in
    loopless ends_of K.tree 0 (coil_joint g) K.runs e (K.all e i) h

pub turn_refused : (joints total : ℕ) (A : List Edge) (l : List (Option Active)) (ns : List Node) (gone : List Bool) (p : Passage) → Work joints total A l ns gone → Picked joints gone l (Some p) → p.from ≡ p.to → NoReading joints A
turn_refused joints total A l ns gone p W P h =
    let a = P.0 in let b = P.1 in
    let B = edges ns l in
    let T = (tidy_step B p.joint p.from p.to (rising_edges ns l W.stands) (picked_may joints gone ns l p P)).0 in
    let C = eliminate p.joint p.from p.to B in
    let c = combined p.from p.to T.into T.out in
    loop_refused joints A C (p.joint ∷ W.xs) c (more p.joint p.from p.to C W.reached (omega arith) (omega arith) T) ((T.left c).1 (inl refl)) h

-- no joint is left that can be eliminated
true_or_false : (b : Bool) → (b ≡ true → ⊥) → b ≡ false
true_or_false true f = absurd (f refl)
true_or_false false f = refl

none_left : (joints total : ℕ) (A : List Edge) (l : List (Option Active)) (ns : List Node) (gone : List Bool) (W : Work joints total A l ns gone) → Picked joints gone l None → (g : Circuit) → g.joints ≡ joints → NoMore g W.xs (edges ns l)
none_left joints total A l ns gone W P g j x u w lt n0 nc out E =
    let n1 : x ≢ 0 = n0 in
    let n2 : x ≢ g.joints - 1 = nc in
    not_chosen (get_or gone x false) x ns l (true_or_false (get_or gone x false) (λ h. out (W.marked x h))) (P x (omega arith) (omega arith)) u w E

reached-at : (joints : ℕ) (A B : List Edge) (xs : List ℕ) (g : Circuit) → g.joints ≡ joints → Reaches 0 (joints - 1) A xs B → Reaches 0 (coil_joint g) A xs B
reached-at joints A B xs g j r = subst (λ z. Reaches 0 (z - 1) A xs B) (sym j) r

-- one is left over
pub gone_refused : (joints total : ℕ) (A : List Edge) (l : List (Option Active)) (ns : List Node) (gone : List Bool) → Work joints total A l ns gone → Picked joints gone l None → AllGone joints gone false → NoReading joints A
gone_refused joints total A l ns gone W P G g j range S w R =
    let y = G.0 in let a = G.1 in let b = G.2 in
    refused g A (edges ns l) W.xs range S (reached-at joints A (edges ns l) W.xs g j W.reached) (none_left joints total A l ns gone W P g j)
    (inr (inl (y, omega arith, omega arith, omega arith, λ i. let p = W.only y i in let q = G.3 in let z : ◌≡◌ {A = ℕ} 0 1 = cc in omega arith))) w R

-- whether all edges go straight
record Crooked (c : ℕ) (A : List Edge) : Type 0 where
  pub edge-is : Edge
  pub within : In edge-is A
  pub not_so : (edge-is.from ≡ 0) × (edge-is.to ≡ c) → ⊥

crooked : (c : ℕ) (ns : List Node) (l : List (Option Active)) → straight c l ≡ false → Crooked c (edges ns l)
crooked c ns [] e = let z : ◌≡◌ {A = ℕ} 0 1 = cc in absurd (omega arith)
crooked c ns (None ∷ l) e = crooked c ns l e
crooked c ns (Some a ∷ l) e =
    ⊎_elim
    (λ p. ⊎_elim
    (λ q.
    let r = crooked c ns l (sym (ap₂ (λ x y. (x && y) && straight c l) p.0 q.0) ∙ e) in
    record { edge-is = r.edge-is; within = inr r.within; not_so = r.not_so })
    (λ q. record { edge-is = edge ns a; within = inl refl; not_so = λ h. q.1 h.1 })
    (eqb_tells a.to c))
    (λ p. record { edge-is = edge ns a; within = inl refl; not_so = λ h. p.1 h.0 })
    (eqb_tells a.from 0)

pub straight-all : (c : ℕ) (ns : List Node) (l : List (Option Active)) → straight c l ≡ true → ((e : Edge) → In e (edges ns l) → (e.from ≡ 0) × (e.to ≡ c)) × (map (touch Leaving 0) l ≡ l)
straight-all c ns [] e = ((λ f i. absurd i), refl)
straight-all c ns (None ∷ l) e = let r = straight-all c ns l e in (r.0, ap (λ z. None ∷ z) r.1)
straight-all c ns (Some a ∷ l) e =
    ⊎_elim
    (λ p. ⊎_elim
    (λ q.
    let r = straight-all c ns l (sym (ap₂ (λ x y. (x && y) && straight c l) p.0 q.0) ∙ e) in (
      (λ f. elim [ inl h ↦ (ap (λ z. z.from) h ∙ p.1, ap (λ z. z.to) h ∙ q.1) | inr i ↦ r.0 f i ]),
      ap₂ (λ x y. x ∷ y) (ap (λ z. cond z (Some a) None) p.0) r.1,
    ))
    (λ q. absurd (no_such (ap₂ (λ x y. (x && y) && straight c l) p.0 q.0) e))
    (eqb_tells a.to c))
    (λ p. absurd (no_such (ap (λ x. (x && eqb a.to c) && straight c l) p.0) e))
    (eqb_tells a.from 0)
  where
    no_such : {b : Bool} → b ≡ false → b ≡ true → ⊥
    no_such f t = let z : ◌≡◌ {A = ℕ} 0 1 = cc in omega arith

-- every inner joint is gone
pub outcome : (joints total : ℕ) (A : List Edge) (l : List (Option Active)) (ns : List Node) (gone : List Bool) → Work joints total A l ns gone → Picked joints gone l None → AllGone joints gone true → (r : Bool) → r ≡ straight (joints - 1) l → Outcome joints total A l ns r
outcome joints total A l ns gone W P G true e = record {
  xs = W.xs;
  reached = W.reached;
  stands = W.stands;
  room = W.room;
  all = λ y h. elim (ℕ_discrete y 0) [
    | yes p ↦ inl p
    | no p ↦ elim (ℕ_discrete y (joints - 1)) [
      | yes q ↦ inr (inl q)
      | no q ↦ let p' : y ≢ 0 = p in let q' : y ≢ joints - 1 = q in inr (inr (W.marked y (G y (omega arith) (omega arith))))
    ]
  ];
  direct = sym e;
}
outcome joints total A l ns gone W P G false e = λ g j range S w R.
    let c = crooked (joints - 1) ns l (sym e) in
    refused g A (edges ns l) W.xs range S (reached-at joints A (edges ns l) W.xs g j W.reached) (none_left joints total A l ns gone W P g j)
    (inl (c.edge-is, c.within, λ h. c.not_so (h.0, h.1 ∙ ap (λ z. z - 1) j))) w R
