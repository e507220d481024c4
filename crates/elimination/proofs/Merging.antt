-- The groups into and out of a joint, in series.
use Rattle.std.proofs.Common.{◌≡◌, ℕ, ◌+◌, ◌<◌, min, List, [], ◌∷◌, map, Some, None, Option, IsSome, refl, ap, ◌∙◌, subst, ap₂, arith, length}
use Rattle.wiring.specs.Elimination.{Edge, group_tree, Eligible}
use Rattle.wiring.specs.Lists.{In}
use Rattle.wiring.specs.Text.{link_text, text}
use Rattle.wiring.specs.Wiring.{series}
use Rattle.elimination.specs.declared.groups.Group.{Group}
use Rattle.elimination.specs.declared.slots.Active.{Active}
use Rattle.elimination.specs.declared.slots.Side.TheVariants.{Entering, Leaving}
use Rattle.elimination.specs.declared.table.Node.{Node}
use Rattle.elimination.specs.Groups.{Holds, Gathered, Merged}
use Rattle.elimination.specs.Slots.{edges, touch, low_at, Stands}
use Rattle.elimination.specs.Trees.{tree_at}
use Rattle.elimination.proofs.Edges.{in_touch, touch-grown}
use Rattle.elimination.proofs.Gathering.{grown_on, low_series}

-- some edges make a group
no_group : (j : ℕ) (ns : List Node) (L : List Edge) (e : Edge) → In e L → Holds j ns L None → ⊥
no_group j ns [] e i h = i
no_group j ns (f ∷ L) e i h = h

pub record AGroup (ns : List Node) (L : List Edge) (h : Group) : Type 0 where
  pub at : h.at < length ns
  pub tree : tree_at ns h.at ≡ group_tree L
  pub low : low_at ns h.at ≡ h.low
  pub small : h.low < 64

pub a_group : (j : ℕ) (ns : List Node) (L : List Edge) (h : Group) → Holds j ns L (Some h) → AGroup ns L h
a_group j ns [] h u = absurd u
a_group j ns (e ∷ L) h u = record { at = u.0; tree = u.1; low = u.2; small = u.4 }

-- some edge goes into x, and some out of it, so there are groups of them
pub some_into : (x u w : ℕ) (ns : List Node) (l : List (Option Active)) (j : ℕ) (ns' : List Node) (r : Option Group) → Eligible (edges ns l) x u w → Holds j ns' (edges ns (map (touch Entering x) l)) r → r ≡ None → ⊥
some_into x u w ns l j ns' r E h e =
    let s = E.some_in in
    no_group j ns' (edges ns (map (touch Entering x) l)) s.0 ((in_touch Entering x ns l s.0).1 (s.1, s.2)) (subst (λ z. Holds j ns' (edges ns (map (touch Entering x) l)) z) e h)

pub some_out : (x u w : ℕ) (ns : List Node) (l : List (Option Active)) (j : ℕ) (ns1 ns' : List Node) (r : Option Group) → edges ns1 (map (touch Leaving x) l) ≡ edges ns (map (touch Leaving x) l) → Eligible (edges ns l) x u w → Holds j ns' (edges ns1 (map (touch Leaving x) l)) r → r ≡ None → ⊥
some_out x u w ns l j ns1 ns' r q E h e =
    let s = E.some_out in
    no_group j ns' (edges ns (map (touch Leaving x) l)) s.0 ((in_touch Leaving x ns l s.0).1 (s.1, s.2)) (subst (λ z. Holds j ns' (edges ns (map (touch Leaving x) l)) z) e (subst (λ L. Holds j ns' L r) q h))

pub some_group : (r : Option Group) → (r ≡ None → ⊥) → IsSome r
some_group None f = absurd (f refl)
some_group (Some h) f = refl

-- what was gathered, at the group that it is
pub group_at : {j : ℕ} {l : List (Option Active)} {ns ns' : List Node} {r : Option Group} {h : Group} → Gathered j l ns ns' r → r ≡ Some h → Gathered j l ns ns' (Some h)
group_at {j} {l} {ns} {ns'} G e = subst (λ z. Gathered j l ns ns' z) e G

-- the two groups with the node that joins them
pub merged : (x : ℕ) (l : List (Option Active)) (ns ns1 ns2 ns3 : List Node) (a b h : Group) → Stands ns l → Gathered 0 (map (touch Entering x) l) ns ns1 (Some a) → Gathered 0 (map (touch Leaving x) l) ns1 ns2 (Some b) → h.at ≡ length ns2 → length ns3 ≡ length ns2 + 1 → tree_at ns3 (length ns2) ≡ series (tree_at ns2 a.at) (tree_at ns2 b.at) → ((i : ℕ) → i < length ns2 → tree_at ns3 i ≡ tree_at ns2 i) → h.low ≡ min a.low b.low → Merged x l ns ns3 h
merged x l ns ns1 ns2 ns3 a b h S G K at n t same low =
    let A = a_group 0 ns1 (edges ns (map (touch Entering x) l)) a G.group in
    let B = a_group 0 ns2 (edges ns1 (map (touch Leaving x) l)) b K.group in
    let T : tree_at ns3 h.at ≡ series (tree_at ns2 a.at) (tree_at ns2 b.at) = ap (tree_at ns3) at ∙ t in
    let p = G.room in let q = K.room in
    let la : low_at ns2 a.at ≡ a.low = ap (λ z. (text link_text z).low) (K.grown.same a.at A.at) ∙ A.low in
    let lb = B.low in
    let lh : low_at ns3 h.at ≡ min (low_at ns2 a.at) (low_at ns2 b.at) = ap (λ z. (text link_text z).low) T ∙ low_series (tree_at ns2 a.at) (tree_at ns2 b.at) in
    let sa = A.small in let sb = B.small in
    record {
      grown = grown_on (grown_on G.grown K.grown) (record { more = omega arith; same = same });
      room = omega arith;
      at = omega arith;
      tree = T ∙ ap₂ series (K.grown.same a.at A.at ∙ A.tree) (B.tree ∙ ap group_tree (touch-grown Leaving x ns ns1 l G.grown S));
      low = omega arith;
      small = omega arith;
    }
