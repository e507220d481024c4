-- What the definitions make of the two worked circuits.
use Rattle.std.proofs.Common.{◌≡◌, ℕ, zero, suc, ◌<◌, ◌≢◌, ◌⊎◌, List, [], ◌∷◌, sym, refl, ap, ◌∙◌, inl, inr, ⊎_elim, arith}
use Rattle.wiring.specs.Circuit.{Circuit, ends, SeriesParallel}
use Rattle.wiring.specs.Elimination.{Eligible, edge_of, first-edges, Starts}
use Rattle.wiring.specs.Lists.{In, Distinct}
use Rattle.wiring.specs.Text.{in_series, in_parallel, link_text, text, branches}
use Rattle.wiring.specs.Theorems.{WorkedCircuits}
use Rattle.wiring.specs.Wiring.{link, series, Joint, Runs}
use Rattle.wiring.specs.Worked.{detour, detour_wiring, bridge}
use Rattle.wiring.proofs.Circuits.{starts, reading}
use Rattle.wiring.proofs.Uniqueness.{never_stuck}

-- the joint y is an end of one of these links
abbrev AtEnds : Circuit → ℕ → List ℕ → Type 0
AtEnds c y [] = ⊥
AtEnds c y (i ∷ l) = ((y ≡ (ends c i).0) ⊎ (y ≡ (ends c i).1)) ⊎ AtEnds c y l

at-ends : (c : Circuit) (y : ℕ) (l : List ℕ) → Joint (ends c) y l → AtEnds c y l
at-ends c y [] j = j.1
at-ends c y (i ∷ l) j =
    ⊎_elim
    (λ p. inl (⊎_elim (λ q. inl (sym q ∙ ap (λ z. (ends c z).0) p)) (λ q. inr (sym q ∙ ap (λ z. (ends c z).1) p)) j.2))
    (λ k. inr (at-ends c y l (j.0, k, j.2)))
    j.1

detour-runs : Runs (ends detour) detour_wiring 0 3
detour-runs = (
  1,
  (refl, refl, omega arith),
  (
    (refl, refl, omega arith),
    (
      2,
      (refl, refl, omega arith),
      (refl, refl, omega arith),
      λ y j k.
          let a : ((y ≡ 1) ⊎ (y ≡ 2)) ⊎ ⊥ = at-ends detour y (2 ∷ []) j in
          let b : ((y ≡ 2) ⊎ (y ≡ 3)) ⊎ ⊥ = at-ends detour y (3 ∷ []) k in
          omega arith,
    ),
    λ y j k.
        let a : ((y ≡ 1) ⊎ (y ≡ 3)) ⊎ ⊥ = at-ends detour y (1 ∷ []) j in
        ⊎_elim (λ h. h) absurd a,
  ),
  λ y j k.
      let a : ((y ≡ 0) ⊎ (y ≡ 1)) ⊎ ⊥ = at-ends detour y (0 ∷ []) j in
      let b : ((y ≡ 1) ⊎ (y ≡ 3)) ⊎ (((y ≡ 1) ⊎ (y ≡ 2)) ⊎ (((y ≡ 2) ⊎ (y ≡ 3)) ⊎ ⊥)) = at-ends detour y (1 ∷ (2 ∷ (3 ∷ []))) k in
      omega arith,
)

below_four : (i : ℕ) → i < 4 → In i (0 ∷ (1 ∷ (2 ∷ (3 ∷ []))))
below_four zero h = inl refl
below_four (suc zero) h = inr (inl refl)
below_four (suc (suc zero)) h = inr (inr (inl refl))
below_four (suc (suc (suc zero))) h = inr (inr (inr (inl refl)))
below_four (suc (suc (suc (suc n)))) h = absurd (omega arith)

four_below : (i : ℕ) → In i (0 ∷ (1 ∷ (2 ∷ (3 ∷ [])))) → i < 4
four_below i j = let h : (i ≡ 0) ⊎ ((i ≡ 1) ⊎ ((i ≡ 2) ⊎ ((i ≡ 3) ⊎ ⊥))) = j in omega arith

four_once : Distinct {A = ℕ} (0 ∷ (1 ∷ (2 ∷ (3 ∷ []))))
four_once = (
  λ j. let h : (◌≡◌ {A = ℕ} 0 1) ⊎ ((◌≡◌ {A = ℕ} 0 2) ⊎ ((◌≡◌ {A = ℕ} 0 3) ⊎ ⊥)) = j in omega arith,
  (
    λ j. let h : (◌≡◌ {A = ℕ} 1 2) ⊎ ((◌≡◌ {A = ℕ} 1 3) ⊎ ⊥) = j in omega arith,
    (λ j. let h : (◌≡◌ {A = ℕ} 2 3) ⊎ ⊥ = j in omega arith, ((λ j. j), tt)),
  ),
)

detour_touched : (y : ℕ) → y < 4 → Joint (ends detour) y (0 ∷ (1 ∷ (2 ∷ (3 ∷ []))))
detour_touched zero h = (0, inl refl, inl refl)
detour_touched (suc zero) h = (0, inl refl, inr refl)
detour_touched (suc (suc zero)) h = (2, inr (inr (inl refl)), inr refl)
detour_touched (suc (suc (suc zero))) h = (1, inr (inl refl), inr refl)
detour_touched (suc (suc (suc (suc n)))) h = absurd (omega arith)

-- link 1 is below the links 2 and 3
detour_ordered : (x y : ℕ) → In x (branches link_text (link 1)) → In y (branches link_text (series (link 2) (link 3))) → x < y
unfolding link_text in_series
detour_ordered x y i j =
    let p : (x ≡ 1) ⊎ ⊥ = i in
    let q : (y ≡ 2) ⊎ ⊥ = j in
    omega arith

module _ (x u w : ℕ) (n : x ≢ 3) (m : Eligible (first-edges bridge 5) x u w) where
  edge_in : (i : ℕ) → i < 5 → In (edge_of bridge i) (first-edges bridge 5)
  edge_in i h = (starts bridge 5 (edge_of bridge i)).1 (i, h, refl)

  at_one : 1 ≡ x → ⊥
  at_one h =
      let p : 2 ≡ w = m.to_w (edge_of bridge 2) (edge_in 2 (omega arith)) h in
      let q : 3 ≡ w = m.to_w (edge_of bridge 3) (edge_in 3 (omega arith)) h in
      omega arith

  at_two : 2 ≡ x → ⊥
  at_two h =
      let p : 0 ≡ u = m.from_u (edge_of bridge 1) (edge_in 1 (omega arith)) h in
      let q : 1 ≡ u = m.from_u (edge_of bridge 2) (edge_in 2 (omega arith)) h in
      omega arith

  -- the links lead into the joints 1, 2 and 3, and none of them can be eliminated
  at : (i : ℕ) → i < 5 → (ends bridge i).1 ≡ x → ⊥
  at zero l h = at_one h
  at (suc zero) l h = at_two h
  at (suc (suc zero)) l h = at_two h
  at (suc (suc (suc zero))) l h = n (sym h)
  at (suc (suc (suc (suc zero)))) l h = n (sym h)
  at (suc (suc (suc (suc (suc i))))) l h = omega arith

bridge_refused : SeriesParallel bridge → ⊥
bridge_refused r =
    let A = first-edges bridge 5 in
    let S : Starts bridge A = starts bridge 5 in
    ⊎_elim
    (λ p. let z : ◌≡◌ {A = ℕ} 1 3 = (p (edge_of bridge 0) ((S (edge_of bridge 0)).1 (0, omega arith, refl))).1 in omega arith)
    (λ q.
    let m = q.5 in
    let k = (S m.some_in.0).0 m.some_in.1 in
    at q.0 q.1 q.2 q.4 m k.0 k.1 (ap (λ z. z.to) (sym k.2) ∙ m.some_in.2))
    (never_stuck A 0 3 (text link_text r.0) (reading bridge r.0 A r.1 S))

pub worked_circuits : WorkedCircuits
unfolding in_series in_parallel link_text
worked_circuits = record {
  detour_reads = record {
    runs = detour-runs;
    links_are = λ i. (four_below i, below_four i);
    once = four_once;
    touched = detour_touched;
    ordered = (tt, (tt, (tt, tt), detour_ordered));
  };
  detour-listed = refl;
  bridge_refused = bridge_refused;
}
