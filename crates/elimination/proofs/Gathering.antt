-- A branch group, one slot at a time.
use Rattle.std.proofs.Common.{◌≡◌, ℕ, zero, suc, ◌+◌, ◌<◌, ◌≤◌, min, List, [], ◌∷◌, ◌++◌, map, length, get_or, drop, Some, None, Option, sym, refl, ap, ◌∙◌, subst, ap₂, add-zero, append_assoc, length-append, arith}
use Rattle.std.proofs.lemmas.List.{get_or-drop}
use Rattle.std.proofs.Math.Seq.{drop-append_seam}
use Rattle.wiring.specs.Elimination.{Edge}
use Rattle.wiring.specs.Text.{link_text, in_series, in_parallel, text}
use Rattle.wiring.specs.Wiring.{Wiring, series, parallel}
use Rattle.elimination.specs.declared.groups.Group.{Group}
use Rattle.elimination.specs.declared.slots.Active.{Active}
use Rattle.elimination.specs.declared.slots.Side.{Side}
use Rattle.elimination.specs.declared.table.Node.{Node}
use Rattle.elimination.specs.Groups.{Grown, Sits, SitsGroup, Room, size, Extends, Holds, Gathered}
use Rattle.elimination.specs.Slots.{edge, edges, live, touch, low_at, Fine, Stands}
use Rattle.elimination.specs.Trees.{tree_at}
use Rattle.elimination.proofs.Edges.{touch_some}

-- what a table that grows keeps
pub grown_on : {ns ns1 ns2 : List Node} → Grown ns ns1 → Grown ns1 ns2 → Grown ns ns2
grown_on p q = record { more = (let a = p.more in let b = q.more in omega arith); same = λ i h. q.same i (let a = p.more in omega arith) ∙ p.same i h }

low_grown : {ns ns' : List Node} → Grown ns ns' → (i : ℕ) → i < length ns → low_at ns' i ≡ low_at ns i
low_grown p i h = ap (λ t. (text link_text t).low) (p.same i h)

holds_grown : (j j' : ℕ) (ns ns' : List Node) → Grown ns ns' → j' ≤ j → (L : List Edge) (r : Option Group) → Holds j ns L r → Holds j' ns' L r
holds_grown j j' ns ns' p h [] None u = tt
holds_grown j j' ns ns' p h [] (Some g) u = u
holds_grown j j' ns ns' p h (e ∷ L) None u = u
holds_grown j j' ns ns' p h (e ∷ L) (Some g) u =
    let m = p.more in let a = u.0 in let b = u.3 in
    (omega arith, p.same g.at a ∙ u.1, low_grown p g.at a ∙ u.2, omega arith, u.4)

-- the lowest link of a join
low_parallel : (a b : Wiring ℕ) → (text link_text (parallel a b)).low ≡ min (text link_text a).low (text link_text b).low
unfolding in_parallel
low_parallel a b = refl

pub low_series : (a b : Wiring ℕ) → (text link_text (series a b)).low ≡ min (text link_text a).low (text link_text b).low
unfolding in_series
low_series a b = refl

-- the first edge of a group, and one edge more
holds_first : (i : ℕ) (ns ns1 ns2 : List Node) (a : Active) (L : List Edge) → Fine ns i a → i < 64 → Grown ns ns2 → Holds (i + 1) ns1 L None → Holds i ns2 (edge ns a ∷ L) (Some (record { at = a.at; low = i }))
holds_first i ns ns1 ns2 a [] f h p u =
    let k = f.at in let m = p.more in
    (omega arith, p.same a.at k, low_grown p a.at k ∙ f.low, omega arith, h)
holds_first i ns ns1 ns2 a (e ∷ L) f h p u = absurd u

holds_more : (i : ℕ) (ns ns1 ns2 : List Node) (a : Active) (L : List Edge) (h : Group) → Fine ns i a → i < 64 → Grown ns ns1 → length ns2 ≡ length ns1 + 1 → tree_at ns2 (length ns1) ≡ parallel (tree_at ns1 a.at) (tree_at ns1 h.at) → Holds (i + 1) ns1 L (Some h) → Holds i ns2 (edge ns a ∷ L) (Some (record { at = length ns1; low = i }))
holds_more i ns ns1 ns2 a [] h f l p n t u = absurd u
holds_more i ns ns1 ns2 a (e ∷ L) h f l p n t u =
    let k = f.at in
    let low1 : low_at ns1 a.at ≡ i = low_grown p a.at k ∙ f.low in
    let low2 : low_at ns1 h.at ≡ h.low = u.2 in
    let up = u.3 in
    let low3 : low_at ns2 (length ns1) ≡ min (low_at ns1 a.at) (low_at ns1 h.at) = ap (λ z. (text link_text z).low) t ∙ low_parallel (tree_at ns1 a.at) (tree_at ns1 h.at) in
    (omega arith, t ∙ ap₂ parallel (p.same a.at k) u.1, omega arith, omega arith, l)

-- one slot more
pub gathered_more : (i : ℕ) (o : Option Active) (l : List (Option Active)) (ns ns1 ns2 : List Node) (g r : Option Group) → ((a : Active) → o ≡ Some a → Fine ns i a) → i < 64 → Gathered (i + 1) l ns ns1 g → Grown ns1 ns2 → Extends i ns1 ns2 o g r → Gathered i (o ∷ l) ns ns2 r
gathered_more i None l ns ns1 ns2 g r f h G p x =
    let q = ap size x.0 in let n = x.1 in let m = G.room in
    record {
      grown = grown_on G.grown p;
      room = omega arith;
      group = subst (λ z. Holds i ns2 (edges ns l) z) (sym x.0) (holds_grown (i + 1) i ns1 ns2 p (omega arith) (edges ns l) g G.group);
    }
gathered_more i (Some a) l ns ns1 ns2 None r f h G p x =
    let q = ap size x.0 in let n = x.1 in let m = G.room in
    record {
      grown = grown_on G.grown p;
      room = omega arith;
      group = subst (λ z. Holds i ns2 (edge ns a ∷ edges ns l) z) (sym x.0) (holds_first i ns ns1 ns2 a (edges ns l) (f a refl) h (grown_on G.grown p) G.group);
    }
gathered_more i (Some a) l ns ns1 ns2 (Some k) r f h G p x =
    let q = ap size x.0 in let n = x.1 in let m = G.room in
    record {
      grown = grown_on G.grown p;
      room = omega arith;
      group = subst (λ z. Holds i ns2 (edge ns a ∷ edges ns l) z) (sym x.0) (holds_more i ns ns1 ns2 a (edges ns l) k (f a refl) h G.grown x.1 x.2 G.group);
    }

-- the scan from the last slot to the first stands behind these slots, and has gathered the later ones
pub record Gathering (before : List (Option Active)) (s : Side) (x : ℕ) (xs : List (Option Active)) (ns ns' : List Node) (g : Option Group) : Type 0 where
  pub whole : before ++ drop (length before) xs ≡ xs
  pub done : Gathered (length before) (map (touch s x) (drop (length before) xs)) ns ns' g

-- one slot back: it is the slot at its position
pub record Back (left : List (Option Active)) (t : Option Active) (xs : List (Option Active)) : Type 0 where
  pub split : drop (length left) xs ≡ t ∷ drop (length left + 1) xs
  pub whole : left ++ drop (length left) xs ≡ xs
  pub is : get_or xs (length left) None ≡ t
  pub within : length left < length xs

pub back : (before left : List (Option Active)) (t : Option Active) (xs : List (Option Active)) → before ≡ left ++ (t ∷ []) → before ++ drop (length before) xs ≡ xs → Back left t xs
back before left t xs e w =
    let n : length before ≡ length left + 1 = ap length e ∙ length-append left (t ∷ []) in
    let f : left ++ (t ∷ drop (length left + 1) xs) ≡ xs = sym (append_assoc left (t ∷ []) (drop (length left + 1) xs)) ∙ ap₂ (λ l k. l ++ drop k xs) (sym e) (sym n) ∙ w in
    let d : drop (length left) xs ≡ t ∷ drop (length left + 1) xs = ap (drop (length left)) (sym f) ∙ drop-append_seam left (t ∷ drop (length left + 1) xs) in
    let m = length-append left (t ∷ drop (length left + 1) xs) in
    let k = ap length f in
    record {
      split = d;
      whole = ap (λ l. left ++ l) d ∙ f;
      is = ap (λ k. get_or xs k None) (sym (add-zero (length left))) ∙ sym (get_or-drop (length left) xs 0 None) ∙ ap (λ l. get_or l 0 None) d;
      within = omega arith;
    }

pub gathering_more : (before left : List (Option Active)) (t : Option Active) (i : ℕ) (s : Side) (x : ℕ) (xs : List (Option Active)) (ns ns1 ns2 : List Node) (o : Option Active) (g r : Option Group) → before ≡ left ++ (t ∷ []) → i ≡ length left → length xs ≡ 64 → Stands ns xs → o ≡ touch s x t → Gathering before s x xs ns ns1 g → Grown ns1 ns2 → Extends i ns1 ns2 o g r → Gathering left s x xs ns ns2 r
gathering_more before left t i s x xs ns ns1 ns2 o g r e j m S q G p X =
    let B = back before left t xs e G.whole in
    let n : length before ≡ length left + 1 = ap length e ∙ length-append left (t ∷ []) in
    let w = B.within in
    record {
      whole = B.whole;
      done = subst (λ l. Gathered (length left) (map (touch s x) l) ns ns2 r) (sym B.split)
          (gathered_more (length left) (touch s x t) (map (touch s x) (drop (length left + 1) xs)) ns ns1 ns2 g r
          (λ a h. S (length left) a (B.is ∙ touch_some s x t a h))
          (omega arith)
          (subst (λ k. Gathered k (map (touch s x) (drop k xs)) ns ns1 g) n G.done)
          p
          (subst (λ z. Extends (length left) ns1 ns2 z g r) q (subst (λ k. Extends k ns1 ns2 o g r) j X)));
    }

-- what the next turn asks
live-drop : (f : Option Active → Option Active) (xs : List (Option Active)) (i : ℕ) → live (map f (drop i xs)) ≤ live (map f xs)
live-drop f xs zero = omega arith
live-drop f [] (suc i) = omega arith
live-drop f (o ∷ xs) (suc i) = let h = live-drop f xs i in let k = live_cons (f o) (map f xs) in omega arith
  where
    live_cons : (o : Option Active) (l : List (Option Active)) → live l ≤ live (o ∷ l)
    live_cons None l = omega arith
    live_cons (Some a) l = omega arith

sits : (len len1 : ℕ) → len ≤ len1 → (o : Option Active) → ((a : Active) → o ≡ Some a → a.at < len) → Sits len1 o
sits len len1 h None f = tt
sits len len1 h (Some a) f = let k = f a refl in omega arith

sits_group : (j : ℕ) (ns : List Node) (L : List Edge) (r : Option Group) → Holds j ns L r → SitsGroup (length ns) r
sits_group j ns L None h = tt
sits_group j ns [] (Some g) h = absurd h
sits_group j ns (e ∷ L) (Some g) h = h.0

has_room : (len len1 m : ℕ) (o : Option Active) (l : List (Option Active)) (g : Option Group) → len1 + size g ≡ len + live l → live (o ∷ l) ≤ m → len + m ≤ 128 → Room len1 o g
has_room len len1 m None l g a b c = tt
has_room len len1 m (Some x) l None a b c = tt
has_room len len1 m (Some x) l (Some h) a b c = omega arith

pub asks : (before left : List (Option Active)) (t : Option Active) (s : Side) (x : ℕ) (xs : List (Option Active)) (ns ns1 : List Node) (o : Option Active) (g : Option Group) → before ≡ left ++ (t ∷ []) → Stands ns xs → length ns + live (map (touch s x) xs) ≤ 128 → o ≡ touch s x t → Gathering before s x xs ns ns1 g → Sits (length ns1) o × SitsGroup (length ns1) g × Room (length ns1) o g
asks before left t s x xs ns ns1 o g e S room q G =
    let B = back before left t xs e G.whole in
    let n : length before ≡ length left + 1 = ap length e ∙ length-append left (t ∷ []) in
    let K : Gathered (length left + 1) (map (touch s x) (drop (length left + 1) xs)) ns ns1 g = subst (λ k. Gathered k (map (touch s x) (drop k xs)) ns ns1 g) n G.done in
    let d = live-drop (touch s x) xs (length left) in
    let b : live (touch s x t ∷ map (touch s x) (drop (length left + 1) xs)) ≤ live (map (touch s x) xs) = subst (λ l. live (map (touch s x) l) ≤ live (map (touch s x) xs)) B.split d in (
      sits (length ns) (length ns1) K.grown.more o (λ a h. (S (length left) a (B.is ∙ touch_some s x t a (sym q ∙ h))).at),
      sits_group (length left + 1) ns1 (edges ns (map (touch s x) (drop (length left + 1) xs))) g K.group,
      subst (λ z. Room (length ns1) z g) (sym q) (has_room (length ns) (length ns1) (live (map (touch s x) xs)) (touch s x t) (map (touch s x) (drop (length left + 1) xs)) g K.room b room),
    )
