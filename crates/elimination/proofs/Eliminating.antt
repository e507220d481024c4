-- An elimination in the slots is a step.
use Rattle.std.proofs.Common.{◌≡◌, ℕ, ◌+◌, ◌<◌, ◌≢◌, ◌⊎◌, ◌↔◌, List, map, length, get_or, set, Some, None, Option, sym, refl, ap, ◌∙◌, subst, ap₂, inl, inr, ⊎_elim, arith}
use native.Mathlib.Decide.{ℕ_discrete}
use Rattle.std.proofs.Math.ListN.{get_or-map}
use Rattle.std.proofs.lemmas.List.{get_or-set_same, get_or-set_other, length-map}
use Rattle.wiring.specs.Elimination.{Edge, low_of, combined, Eligible, Step}
use Rattle.wiring.specs.Lists.{In}
use Rattle.wiring.proofs.Groups.{rising_same}
use Rattle.wiring.proofs.Soundness.{stays_apart}
use Rattle.wiring.proofs.Tidy.{eliminate, rising_apart, tidy_step}
use Rattle.elimination.specs.declared.groups.Group.{Group}
use Rattle.elimination.specs.declared.slots.Active.{Active}
use Rattle.elimination.specs.declared.slots.Side.TheVariants.{Entering, Leaving}
use Rattle.elimination.specs.declared.table.Node.{Node}
use Rattle.elimination.specs.Groups.{Merged}
use Rattle.elimination.specs.Reduction.{Eliminated}
use Rattle.elimination.specs.Slots.{edge, edges, live, touch, spared, Fine, Stands}
use Rattle.elimination.proofs.Edges.{some_same, in_edges, edges_in, rising_edges, in_touch, rising_touch, Spared, spared_some, spared-back, live_parts, live-set, edge-between, edge-grown, stands_grown}

module _ (x u w : ℕ) (ns : List Node) (l : List (Option Active)) (S : Stands ns l) (E : Eligible (edges ns l) x u w) where
  into_list : List Edge
  into_list = edges ns (map (touch Entering x) l)

  out_list : List Edge
  out_list = edges ns (map (touch Leaving x) l)

  -- the edges that stay have other lowest links
  stays : (e : Edge) → In e (edges ns l) → e.from ≢ x → e.to ≢ x → low_of e ≢ low_of (combined u w into_list out_list)
  unfolding into_list out_list
  stays e i f t =
      let A = edges ns l in
      let R = rising_edges ns l S in
      let T = (tidy_step A x u w R E).0 in
      let p : T.into ≡ into_list =
      rising_same T.into into_list T.into_rises (rising_touch Entering x ns l S)
      (λ e i. (in_touch Entering x ns l e).1 ((T.into_are e).0 i)) (λ e i. (T.into_are e).1 ((in_touch Entering x ns l e).0 i)) in
      let q : T.out ≡ out_list =
      rising_same T.out out_list T.out_rises (rising_touch Leaving x ns l S)
      (λ e i. (in_touch Leaving x ns l e).1 ((T.out_are e).0 i)) (λ e i. (T.out_are e).1 ((in_touch Leaving x ns l e).0 i)) in
      subst (λ z. low_of e ≢ low_of z) (ap₂ (combined u w) p q) (stays_apart A (eliminate x u w A) x u w (rising_apart A R) T e i f t)

  module _ (ns' : List Node) (h : Group) (M : Merged x l ns ns' h) (long : length l ≡ 64) (ne : u ≢ w) where
    new : Active
    new = record { from = u; to = w; at = h.at }

    after : List (Option Active)
    after = set (map (spared x) l) h.low (Some new)

    new_edge : edge ns' new ≡ combined u w into_list out_list
    unfolding new into_list out_list
    new_edge = ap (edge-between u w) M.tree

    fits : h.low < length (map (spared x) l)
    fits = let p = M.small in let q = length-map l (spared x) in omega arith

    at_new : get_or after h.low None ≡ Some new
    unfolding after
    at_new = get_or-set_same (map (spared x) l) h.low (Some new) None fits

    elsewhere : (k : ℕ) → k ≢ h.low → get_or after k None ≡ spared x (get_or l k None)
    unfolding after
    elsewhere k n = get_or-set_other (map (spared x) l) h.low k (Some new) None n ∙ get_or-map (spared x) l k None

    -- the slot of the new edge was that of an edge of x, or empty
    free : (k : ℕ) (a : Active) → get_or l k None ≡ Some a → a.from ≢ x → a.to ≢ x → k ≢ h.low
    unfolding new
    free k a e f t q =
        stays (edge ns a) (edges_in ns l k a e) f t
        ((S k a e).low ∙ q ∙ sym M.low ∙ ap (λ z. low_of z) new_edge)

    left : (e : Edge) → In e (edges ns' after) ↔ ((e ≡ combined u w into_list out_list) ⊎ (In e (edges ns l) × (e.from ≢ x) × (e.to ≢ x)))
    left e = (
      λ i.
          let m = in_edges ns' after e i in
          elim (ℕ_discrete m.slot h.low) [
            | yes p ↦
                let q : new ≡ m.active = some_same (sym at_new ∙ sym (ap (λ k. get_or after k None) p) ∙ m.filled) in
                inl (m.is ∙ ap (edge ns') (sym q) ∙ new_edge)
            | no p ↦
                let s = spared_some x (get_or l m.slot None) m.active (sym (elsewhere m.slot p) ∙ m.filled) in
                let q : e ≡ edge ns m.active = m.is ∙ edge-grown ns ns' M.grown m.active (S m.slot m.active s.same).at in
                inr (
                  subst (λ z. In z (edges ns l)) (sym q) (edges_in ns l m.slot m.active s.same),
                  (λ r. s.not_from (sym (ap (λ z. z.from) q) ∙ r)),
                  λ r. s.not_to (sym (ap (λ z. z.to) q) ∙ r),
                )
          ],
      λ c. ⊎_elim
          (λ p. subst (λ z. In z (edges ns' after)) (new_edge ∙ sym p) (edges_in ns' after h.low new at_new))
          (λ p.
          let m = in_edges ns l e p.0 in
          let f : m.active.from ≢ x = λ r. p.1 (ap (λ z. z.from) m.is ∙ r) in
          let t : m.active.to ≢ x = λ r. p.2 (ap (λ z. z.to) m.is ∙ r) in
          let n = free m.slot m.active m.filled f t in
          let q = edge-grown ns ns' M.grown m.active (S m.slot m.active m.filled).at in
          subst (λ z. In z (edges ns' after)) (q ∙ sym m.is)
          (edges_in ns' after m.slot m.active (elsewhere m.slot n ∙ spared-back x (get_or l m.slot None) m.active m.filled f t)))
          c,
    )

    stood : Stands ns' after
    unfolding new
    stood k a e =
        elim (ℕ_discrete k h.low) [
          | yes p ↦
              let q : new ≡ a = some_same (sym at_new ∙ sym (ap (λ k. get_or after k None) p) ∙ e) in
              subst (λ z. Fine ns' k z) q (record { at = M.at; low = M.low ∙ sym p; apart = ne })
          | no p ↦
              let s = spared_some x (get_or l k None) a (sym (elsewhere k p) ∙ e) in
              stands_grown ns ns' l M.grown S k a s.same
        ]

    counted : length ns' + live after ≡ length ns + live l
    unfolding after
    counted =
        let a = live-set (map (spared x) l) h.low new fits (get_or-map (spared x) l h.low None ∙ empty (spared x (get_or l h.low None)) (λ a. spared_some x (get_or l h.low None) a)) in
        let b = live_parts x ns l S in
        let c = M.room in
        omega arith
      where
        empty : (o : Option Active) → ((a : Active) → o ≡ Some a → Spared x (get_or l h.low None) a) → o ≡ None
        empty None f = refl
        empty (Some a) f = let s = f a refl in absurd (free h.low a s.same s.not_from s.not_to refl)

    stepped : Step (edges ns l) x u w (edges ns' after)
    unfolding into_list out_list
    stepped = record {
      may = E;
      into = into_list;
      out = out_list;
      into_rises = rising_touch Entering x ns l S;
      out_rises = rising_touch Leaving x ns l S;
      into_are = in_touch Entering x ns l;
      out_are = in_touch Leaving x ns l;
      left = left;
    }

    pub eliminated : (m : List (Option Active)) → m ≡ map (spared x) l → Eliminated x u w l ns (set m h.low (Some (record { from = u; to = w; at = h.at }))) ns'
    unfolding after new
    eliminated m e = subst (λ z. Eliminated x u w l ns (set z h.low (Some (record { from = u; to = w; at = h.at }))) ns') (sym e) (record { step = stepped; stands = stood; room = counted })
