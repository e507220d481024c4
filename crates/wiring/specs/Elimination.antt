-- The elimination of joints: this file serves the recognition's own contracts, and is not part of what a reader must believe.
use Rattle.std.specs.Prelude.{◌≡◌, ℕ, zero, suc, ◌<◌, ◌≢◌, ◌⊎◌, ◌↔◌, List, [], ◌∷◌, ◌++◌, length}
use Rattle.wiring.specs.Circuit.{Circuit, ends}
use Rattle.wiring.specs.Lists.{In}
use Rattle.wiring.specs.Text.{link_text, text}
use Rattle.wiring.specs.Wiring.{Wiring, link, series, parallel}

-- an active edge: the joint that it comes from, the joint that it goes to, and the wiring that it stands for
pub record Edge : Type 0 where
  pub from : ℕ
  pub to : ℕ
  pub tree : Wiring ℕ

-- the number of its lowest link
abbrev pub low_of : Edge → ℕ
low_of e = (text link_text e.tree).low

-- edges in rising order of their lowest links
abbrev pub Rising : List Edge → Type 0
Rising [] = Unit {0}
Rising (e ∷ l) = ((f : Edge) → In f l → low_of e < low_of f) × Rising l

-- a wiring with the wirings of these edges as further branches
abbrev pub joined : Wiring ℕ → List Edge → Wiring ℕ
joined v [] = v
joined v (f ∷ l) = parallel v (joined f.tree l)

-- the branch group of these edges (of no edges: never asked for)
abbrev pub group_tree : List Edge → Wiring ℕ
group_tree [] = link 0
group_tree (e ∷ l) = joined e.tree l

-- the edge that takes the place of a joint: the group into it in series with the group out of it
abbrev pub combined : ℕ → ℕ → List Edge → List Edge → Edge
combined u w into out = record { from = u; to = w; tree = series (group_tree into) (group_tree out) }

-- the joint x can be eliminated: its edges in all come from u, and its edges out all go to w
pub record Eligible (A : List Edge) (x u w : ℕ) : Type 0 where
  pub some_in : (e : Edge) × In e A × (e.to ≡ x)
  pub some_out : (e : Edge) × In e A × (e.from ≡ x)
  pub from_u : (e : Edge) → In e A → e.to ≡ x → e.from ≡ u
  pub to_w : (e : Edge) → In e A → e.from ≡ x → e.to ≡ w

-- the elimination of x takes the edges A to the edges B
pub record Step (A : List Edge) (x u w : ℕ) (B : List Edge) : Type 0 where
  pub may : Eligible A x u w
  pub into : List Edge
  pub out : List Edge
  pub into_rises : Rising into
  pub out_rises : Rising out
  pub into_are : (e : Edge) → In e into ↔ (In e A × (e.to ≡ x))
  pub out_are : (e : Edge) → In e out ↔ (In e A × (e.from ≡ x))
  pub left : (e : Edge) → In e B ↔ ((e ≡ combined u w into out) ⊎ (In e A × (e.from ≢ x) × (e.to ≢ x)))

-- the eliminations of xs, none of them s or t, the last one first, take A to B
pub data Reaches (s t : ℕ) (A : List Edge) : List ℕ → List Edge → Type 0 where
  start : Reaches s t A [] A
  more : {xs : List ℕ} {B : List Edge} (x u w : ℕ) (C : List Edge) → Reaches s t A xs B → x ≢ s → x ≢ t → Step B x u w C → Reaches s t A (x ∷ xs) C

-- link number i as an edge
abbrev pub edge_of : Circuit → ℕ → Edge
edge_of c i = record { from = (ends c i).0; to = (ends c i).1; tree = link i }

-- the first n links as edges
abbrev pub first-edges : Circuit → ℕ → List Edge
first-edges c zero = []
first-edges c (suc n) = first-edges c n ++ (edge_of c n ∷ [])

-- the edges A are the links of the circuit
abbrev pub Starts : Circuit → List Edge → Type 0
Starts c A = (e : Edge) → In e A ↔ ((i : ℕ) × (i < length c.links) × (e ≡ edge_of c i))

-- every link joins joints of the circuit
abbrev pub InRange : Circuit → Type 0
InRange c = (i : ℕ) → i < length c.links → ((ends c i).0 < c.joints) × ((ends c i).1 < c.joints)
