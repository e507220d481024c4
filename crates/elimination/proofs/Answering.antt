-- What the end of the elimination says of the circuit.
use Rattle.std.proofs.Common.{◌≡◌, ℕ, ◌+◌, ◌-◌, ◌≤◌, true, List, [], ◌∷◌, map, length, Some, None, Option, sym, refl, ap, ◌∙◌, subst, inl, inr, arith}
use Rattle.wiring.specs.Circuit.{Circuit, Reads}
use Rattle.wiring.specs.Drawn.{linked}
use Rattle.wiring.specs.Elimination.{Edge, first-edges, Starts, InRange}
use Rattle.wiring.specs.Lists.{In}
use Rattle.wiring.specs.Text.{link_text, text}
use Rattle.wiring.proofs.Circuits.{found, refused}
use Rattle.wiring.proofs.Drawing.{linked-at}
use Rattle.wiring.proofs.Lengths.{leaf_count}
use Rattle.wiring.proofs.Tidy.{tidy_start, tidy_end}
use Rattle.elimination.specs.declared.groups.Group.{Group}
use Rattle.elimination.specs.declared.slots.Active.{Active}
use Rattle.elimination.specs.declared.slots.Side.TheVariants.{Leaving}
use Rattle.elimination.specs.declared.table.Node.{Node}
use Rattle.elimination.specs.Answer.{Answer}
use Rattle.elimination.specs.Groups.{Holds, Gathered}
use Rattle.elimination.specs.Reduction.{Reduced, NoReading}
use Rattle.elimination.specs.Slots.{edges, live, touch}
use Rattle.elimination.specs.Trees.{tree_at}
use Rattle.elimination.proofs.Edges.{rising_edges}
use Rattle.elimination.proofs.Merging.{a_group}
use Rattle.elimination.proofs.Reducing.{straight-all}

-- a group has edges, and no group has none
some_of : (j : ℕ) (ns : List Node) (L : List Edge) (h : Group) → Holds j ns L (Some h) → (e : Edge) × In e L
some_of j ns [] h u = absurd u
some_of j ns (e ∷ L) h u = (e, inl refl)

none_of : (j : ℕ) (ns : List Node) (L : List Edge) → Holds j ns L None → (e : Edge) → In e L → ⊥
none_of j ns [] u e i = i
none_of j ns (f ∷ L) u e i = u

module _ (c : Circuit) (two : 2 ≤ c.joints) (range : InRange c) where
  starts_so : (A : List Edge) → A ≡ first-edges c (length c.links) → Starts c A
  starts_so A e = subst (λ z. Starts c z) (sym e) (tidy_start c).1

  pub answer_found : (total : ℕ) (A : List Edge) (l : List (Option Active)) (ns ns' : List Node) (h : Group) → A ≡ first-edges c (length c.links) → total ≡ length c.links + length c.links → Reduced c.joints total A l ns → Gathered 0 (map (touch Leaving 0) l) ns ns' (Some h) → Answer c ns' (Some h.at)
  answer_found total A l ns ns' h e n D G =
      let B = edges ns l in
      let st = straight-all (c.joints - 1) ns l D.direct in
      let H : Holds 0 ns' B (Some h) = subst (λ z. Holds 0 ns' (edges ns z) (Some h)) st.1 G.group in
      let K = a_group 0 ns' B h H in
      let s = some_of 0 ns' B h H in
      let F = found c A B B D.xs two (starts_so A e) D.reached (tidy_end B 0 (c.joints - 1) s.0 (rising_edges ns l D.stands) s.1 st.0) D.all in
      let R : Reads c (tree_at ns' h.at) = subst (λ t. Reads c t) (sym K.tree) F.0 in
      let a = G.room in let b = D.room in let m = ap live st.1 in
      record {
        reads = R;
        one_text = λ w Q. F.1 w Q ∙ sym (ap (text link_text) K.tree);
        within = K.at;
        nodes = omega arith;
        leaf_count = leaf_count c (tree_at ns' h.at) R;
      }

  pub answer_none : (total : ℕ) (A : List Edge) (l : List (Option Active)) (ns ns' : List Node) → A ≡ first-edges c (length c.links) → Reduced c.joints total A l ns → Gathered 0 (map (touch Leaving 0) l) ns ns' None → Answer c ns' None
  answer_none total A l ns ns' e D G r =
      let B = edges ns l in
      let st = straight-all (c.joints - 1) ns l D.direct in
      let n = none_of 0 ns' B (subst (λ z. Holds 0 ns' (edges ns z) None) st.1 G.group) in
      refused c A B D.xs range (starts_so A e) D.reached (λ x u w a b f d E. n E.some_in.0 E.some_in.1) (inr (inr n)) r.0 r.1

  pub answer_refused : (A : List Edge) (ns : List Node) → A ≡ first-edges c (length c.links) → NoReading c.joints A → Answer c ns None
  answer_refused A ns e N r = N c refl range (starts_so A e) r.0 r.1

-- the limits of a drawn rung put its links between its joints
pub range_drawn : (c : Circuit) → linked c.joints c.links ≡ true → InRange c
range_drawn c e i h = let j = linked-at c.joints c.links e i h in (j.from, j.to)
