-- The links in their slots.
use Rattle.std.proofs.Common.{◌≢◌, ◌≡◌, ℕ, zero, suc, ◌+◌, ◌<◌, ◌≤◌, List, [], ◌∷◌, ◌++◌, length, get_or, set, replicate, Some, None, Option, sym, refl, ap, ◌∙◌, subst, ap₂, add-one, arith}
use Rattle.rows.specs.Rows.{parts_of}
use native.Mathlib.Decide.{ℕ_discrete}
use Rattle.std.proofs.lemmas.List.{get_or-set_same, get_or-set_other, length-set}
use Rattle.std.proofs.lemmas.Option.{none-some}
use Rattle.wiring.specs.declared.rung.Link.{Link}
use Rattle.wiring.specs.Circuit.{Circuit, bare}
use Rattle.wiring.specs.declared.rung.Rung.{Rung}
use Rattle.wiring.specs.Elimination.{first-edges}
use Rattle.wiring.specs.Text.{link_text, text}
use Rattle.wiring.specs.Wiring.{link}
use Rattle.wiring.proofs.Circuits.{link_low}
use Rattle.wiring.proofs.Drawing.{linked-at}
use Rattle.elimination.specs.declared.slots.Active.{Active}
use Rattle.elimination.specs.declared.table.Node.{Node}
use Rattle.elimination.specs.Groups.{Grown}
use Rattle.elimination.specs.Reduction.{Placed}
use Rattle.elimination.specs.Slots.{edge, edges, live, Fine}
use Rattle.elimination.specs.Trees.{tree_at}
use Rattle.elimination.proofs.Edges.{some_same, live-set, edge-between, stands_grown, edges-grown}

-- no link goes from a joint to itself
abbrev pub Loopless : List Link → Type 0
Loopless links = (i : ℕ) → i < length links → (get_or links i bare).from ≢ (get_or links i bare).to

-- a list of one value throughout
pub none-at : {X : Type 0} (x : X) (n k : ℕ) → get_or (replicate n x) k x ≡ x
none-at x zero k = refl
none-at x (suc n) zero = refl
none-at x (suc n) (suc k) = none-at x n k

no_edges : (ns : List Node) (n : ℕ) → edges ns (replicate n None) ≡ []
no_edges ns zero = refl
no_edges ns (suc n) = no_edges ns n

none-live : (n : ℕ) → live (replicate n None) ≡ 0
none-live zero = refl
none-live (suc n) = none-live n

-- before the first link
pub placed-none : (links : List Link) (l : List (Option Active)) (ns : List Node) → l ≡ replicate 64 None → length ns ≡ 0 → length l ≡ 64 → Placed 0 links l ns
placed-none links l ns e z long = record {
  edges_are = λ c q. ap (edges ns) e ∙ no_edges ns 64;
  stands = λ k a h. absurd (none-some _ (sym (none-at None 64 k) ∙ sym (ap (λ m. get_or m k None) e) ∙ h));
  len_is = z;
  live-is = ap live e ∙ none-live 64;
  rest = λ k h. ap (λ m. get_or m k None) e ∙ none-at None 64 k;
  long = long;
}

-- an edge in the first slot after the filled ones comes last
none-edges : (ns : List Node) (l : List (Option Active)) → ((k : ℕ) → get_or l k None ≡ None) → edges ns l ≡ []
none-edges ns [] f = refl
none-edges ns (None ∷ l) f = none-edges ns l (λ k. f (suc k))
none-edges ns (Some a ∷ l) f = absurd (none-some _ (sym (f zero)))

edges_push : (ns : List Node) (l : List (Option Active)) (k : ℕ) (a : Active) → k < length l → ((j : ℕ) → k ≤ j → get_or l j None ≡ None) → edges ns (set l k (Some a)) ≡ edges ns l ++ (edge ns a ∷ [])
edges_push ns [] k a h f = absurd (omega arith)
edges_push ns (None ∷ l) zero a h f =
    let e = none-edges ns l (λ k. f (suc k) (omega arith)) in
    ap (λ z. edge ns a ∷ z) e ∙ sym (ap (λ z. z ++ (edge ns a ∷ [])) e)
edges_push ns (Some b ∷ l) zero a h f = absurd (none-some _ (sym (f zero (omega arith))))
edges_push ns (None ∷ l) (suc k) a h f = edges_push ns l k a (omega arith) (λ j q. f (suc j) (omega arith))
edges_push ns (Some b ∷ l) (suc k) a h f = ap (λ z. edge ns b ∷ z) (edges_push ns l k a (omega arith) (λ j q. f (suc j) (omega arith)))

-- one link more
pub placed-more : (i : ℕ) (links : List Link) (l : List (Option Active)) (ns ns' : List Node) (at : ℕ) → Placed i links l ns → i < 64 → i < length links → Loopless links → at ≡ length ns → length ns' ≡ length ns + 1 → tree_at ns' (length ns) ≡ link i → ((k : ℕ) → k < length ns → tree_at ns' k ≡ tree_at ns k) → Placed (i + 1) links (set l i (Some (record { from = (get_or links i bare).from; to = (get_or links i bare).to; at = at }))) ns'
placed-more i links l ns ns' at P small within ok q n t same =
    let u = (get_or links i bare).from in
    let w = (get_or links i bare).to in
    let a : Active = record { from = u; to = w; at = at } in
    let G : Grown ns ns' = record { more = omega arith; same = same } in
    let tree : tree_at ns' at ≡ link i = ap (tree_at ns') q ∙ t in
    let long = P.long in
    let lis = P.len_is in
    let lv = P.live-is in
    let fits : i < length l = omega arith in
    record {
      edges_are = λ c e.
          edges_push ns' l i a fits P.rest
          ∙ ap₂ (λ z e. z ++ (e ∷ [])) (edges-grown ns ns' G l (λ k a h. (P.stands k a h).at) ∙ P.edges_are c e) (ap (edge-between u w) tree ∙ ap (λ (k : List Link). edge-between (get_or k i bare).from (get_or k i bare).to (link i)) (sym e))
          ∙ sym (ap (first-edges c) (add-one i));
      stands = λ k b h. elim (ℕ_discrete k i) [
        | yes p ↦
            let s : a ≡ b = some_same (sym (get_or-set_same l i (Some a) None fits) ∙ sym (ap (λ m. get_or (set l i (Some a)) m None) p) ∙ h) in
            subst (λ z. Fine ns' k z) s (record { at = omega arith; low = ap (λ z. (text link_text z).low) tree ∙ link_low i ∙ sym p; apart = ok i within })
        | no p ↦ stands_grown ns ns' l G P.stands k b (sym (get_or-set_other l i k (Some a) None p) ∙ h)
      ];
      len_is = omega arith;
      live-is = let e = live-set l i a fits (P.rest i (omega arith)) in omega arith;
      rest = λ k h. get_or-set_other l i k (Some a) None (omega arith) ∙ P.rest k (omega arith);
      long = length-set l i (Some a) ∙ long;
    }

-- once all links are placed, the edges are the links of the circuit
pub placed-all : (c : Circuit) (links : List Link) (l : List (Option Active)) (ns : List Node) → c.links ≡ links → Placed (length links) links l ns → edges ns l ≡ first-edges c (length c.links)
placed-all c links l ns e P = P.edges_are c e ∙ ap (λ k. first-edges c (length k)) (sym e)

-- the ends of a drawn rung's links differ
pub rung_loopless : (r : Rung) → Loopless (parts_of r.links)
rung_loopless r i h = (linked-at r.joints (parts_of r.links) r.linked i h).apart
