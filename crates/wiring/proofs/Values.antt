-- The signal of a wiring is the joining over its paths; with two signals it is on by a path whose links are all on.
use Rattle.std.proofs.Common.{◌≡◌, ℕ, ◌↔◌, List, [], ◌∷◌, ◌++◌, sym, refl, ap, ◌∙◌, subst, ap₂, inl, inr, ⊎_elim}
use Rattle.signals.specs.Kind.{Kind, Laws}
use Rattle.wiring.specs.Circuit.{Circuit, Reads}
use Rattle.wiring.specs.Lists.{In, Distinct}
use Rattle.wiring.specs.Paths.{AllPaths}
use Rattle.wiring.specs.Value.{value, along, over_all, TwoSignals}
use Rattle.wiring.specs.Wiring.{Wiring, link, series, parallel, each, every, paths}
use Rattle.wiring.proofs.Members.{around, without, within, still_distinct, others}
use Rattle.wiring.proofs.Paths.{paths_stand}

-- a list with a first member
abbrev Some : {A : Type 0} → List A → Type 0
Some {A} l = (x : A) × (m : List A) × (l ≡ x ∷ m)

some_every : {L : Type 0} (ps qs : List (List L)) → Some ps → Some qs → Some (every ps qs)
some_every ps qs h n = (h.0 ++ n.0, each h.0 n.1 ++ every h.1 (n.0 ∷ n.1), ap₂ every h.2 n.2)

-- a wiring has a path
some_path : {L : Type 0} (w : Wiring L) → Some (paths w)
some_path (link e) = (e ∷ [], [], refl)
some_path (series a b) = some_every (paths a) (paths b) (some_path a) (some_path b)
some_path (parallel a b) = let h = some_path a in (h.0, h.1 ++ paths b, ap (λ z. z ++ paths b) h.2)

module _ {S L : Type 0} (k : Kind S) (laws : Laws k) (v : L → S) where
  -- off is neutral on the right too
  off_right : (x : S) → k.parallel x k.off ≡ x
  off_right x = laws.parallel_comm x k.off ∙ laws.parallel_off x

  along-++ : (p q : List L) → along k v (p ++ q) ≡ k.series (along k v p) (along k v q)
  along-++ [] q = sym (laws.series_on_left (along k v q))
  along-++ (e ∷ p) q = ap (k.series (v e)) (along-++ p q) ∙ sym (laws.series_assoc (v e) (along k v p) (along k v q))

  all-++ : (ps qs : List (List L)) → over_all k v (ps ++ qs) ≡ k.parallel (over_all k v ps) (over_all k v qs)
  all-++ [] qs = sym (laws.parallel_off (over_all k v qs))
  all-++ (p ∷ ps) qs = ap (k.parallel (along k v p)) (all-++ ps qs) ∙ sym (laws.parallel_assoc (along k v p) (over_all k v ps) (over_all k v qs))

  all-each : (p q : List L) (qs : List (List L)) → over_all k v (each p (q ∷ qs)) ≡ k.series (along k v p) (over_all k v (q ∷ qs))
  all-each p q [] = off_right (along k v (p ++ q)) ∙ along-++ p q ∙ ap (k.series (along k v p)) (sym (off_right (along k v q)))
  all-each p q (r ∷ qs) = ap₂ k.parallel (along-++ p q) (all-each p r qs) ∙ sym (laws.spread_left (along k v p) (along k v q) (over_all k v (r ∷ qs)))

  all-every : (p : List L) (ps : List (List L)) (q : List L) (qs : List (List L)) → over_all k v (every (p ∷ ps) (q ∷ qs)) ≡ k.series (over_all k v (p ∷ ps)) (over_all k v (q ∷ qs))
  all-every p [] q qs =
      all-++ (each p (q ∷ qs)) []
      ∙ off_right (over_all k v (each p (q ∷ qs)))
      ∙ all-each p q qs
      ∙ ap (λ x. k.series x (over_all k v (q ∷ qs))) (sym (off_right (along k v p)))
  all-every p (r ∷ ps) q qs =
      all-++ (each p (q ∷ qs)) (every (r ∷ ps) (q ∷ qs))
      ∙ ap₂ k.parallel (all-each p q qs) (all-every r ps q qs)
      ∙ sym (laws.spread_right (along k v p) (over_all k v (r ∷ ps)) (over_all k v (q ∷ qs)))

  pub value_of_paths : (w : Wiring L) → value k v w ≡ over_all k v (paths w)
  value_of_paths (link e) = sym (off_right (k.series (v e) k.on) ∙ laws.series_on_right (v e))
  value_of_paths (series a b) =
      let p = some_path a in
      let q = some_path b in
      ap₂ k.series (value_of_paths a ∙ ap (over_all k v) p.2) (value_of_paths b ∙ ap (over_all k v) q.2)
      ∙ sym (all-every p.0 p.1 q.0 q.1)
      ∙ ap (over_all k v) (sym (ap₂ every p.2 q.2))
  value_of_paths (parallel a b) = ap₂ k.parallel (value_of_paths a) (value_of_paths b) ∙ sym (all-++ (paths a) (paths b))

  -- the joining over paths does not depend on their order
  taken_out : (a : List (List L)) (p : List L) (b : List (List L)) → over_all k v (a ++ (p ∷ b)) ≡ k.parallel (along k v p) (over_all k v (a ++ b))
  taken_out [] p b = refl
  taken_out (q ∷ a) p b =
      ap (k.parallel (along k v q)) (taken_out a p b)
      ∙ sym (laws.parallel_assoc (along k v q) (along k v p) (over_all k v (a ++ b)))
      ∙ ap (λ x. k.parallel x (over_all k v (a ++ b))) (laws.parallel_comm (along k v q) (along k v p))
      ∙ laws.parallel_assoc (along k v p) (along k v q) (over_all k v (a ++ b))

  same_joining : (ps qs : List (List L)) → Distinct ps → Distinct qs → ((p : List L) → In p ps → In p qs) → ((p : List L) → In p qs → In p ps) → over_all k v ps ≡ over_all k v qs
  same_joining [] [] d e f g = refl
  same_joining [] (q ∷ qs) d e f g = absurd (g q (inl refl))
  same_joining (p ∷ ps) qs d e f g =
      let r = around p qs (f p (inl refl)) in
      ap (k.parallel (along k v p))
      (same_joining ps (r.a ++ r.b) d.1 (still_distinct p qs r e)
      (λ x i. without p qs r x (f x (inr i)) (λ h. d.0 (subst (λ z. In z ps) h i)))
      (λ x i. ⊎_elim (λ h. absurd (others p qs r e x i h)) (λ j. j) (g x (within p qs r x i))))
      ∙ sym (taken_out r.a p r.b)
      ∙ ap (over_all k v) (sym r.whole)

  module _ (two : TwoSignals k) where
    -- off in series with anything is off
    off_off : k.series k.off k.off ≡ k.off
    off_off =
        sym (off_right (k.series k.off k.off))
        ∙ ap (k.parallel (k.series k.off k.off)) (sym (laws.series_on_right k.off))
        ∙ sym (laws.spread_left k.off k.off k.on)
        ∙ ap (k.series k.off) (laws.parallel_off k.on)
        ∙ laws.series_on_right k.off

    off_series : (x : S) → k.series k.off x ≡ k.off
    off_series x = ⊎_elim (λ h. ap (k.series k.off) h ∙ laws.series_on_right k.off) (λ h. ap (k.series k.off) h ∙ off_off) (two.either x)

    -- every link of p is on
    abbrev AllOn : List L → Type 0
    AllOn p = (e : L) → In e p → v e ≡ k.on

    along_on : (p : List L) → AllOn p → along k v p ≡ k.on
    along_on [] h = refl
    along_on (e ∷ p) h = ap₂ k.series (h e (inl refl)) (along_on p (λ f i. h f (inr i))) ∙ laws.series_on_left k.on

    on_along : (p : List L) → along k v p ≡ k.on → AllOn p
    on_along [] h e i = absurd i
    on_along (f ∷ p) h e i =
        ⊎_elim
        (λ q. ⊎_elim (λ j. ap v j ∙ q) (on_along p (sym (ap (λ x. k.series x (along k v p)) q ∙ laws.series_on_left (along k v p)) ∙ h) e) i)
        (λ q. absurd (laws.apart (sym h ∙ ap (λ x. k.series x (along k v p)) q ∙ off_series (along k v p))))
        (two.either (v f))

    on_left : (x : S) → k.parallel k.on x ≡ k.on
    on_left x = ⊎_elim (λ h. ap (k.parallel k.on) h ∙ two.both_on) (λ h. ap (k.parallel k.on) h ∙ off_right k.on) (two.either x)

    all_on : (ps : List (List L)) (p : List L) → In p ps → AllOn p → over_all k v ps ≡ k.on
    all_on [] p i h = absurd i
    all_on (q ∷ ps) p (inl e) h = ap (λ x. k.parallel x (over_all k v ps)) (ap (along k v) (sym e) ∙ along_on p h) ∙ on_left (over_all k v ps)
    all_on (q ∷ ps) p (inr i) h = ap (k.parallel (along k v q)) (all_on ps p i h) ∙ laws.parallel_comm (along k v q) k.on ∙ on_left (along k v q)

    on_all : (ps : List (List L)) → over_all k v ps ≡ k.on → (p : List L) × In p ps × AllOn p
    on_all [] h = absurd (laws.apart (sym h))
    on_all (q ∷ ps) h =
        ⊎_elim
        (λ e. (q, inl refl, on_along q e))
        (λ e. let r = on_all ps (sym (ap (λ x. k.parallel x (over_all k v ps)) e ∙ laws.parallel_off (over_all k v ps)) ∙ h) in (r.0, inr r.1, r.2))
        (two.either (along k v q))

    pub on_by_a_path : (ps : List (List L)) → (over_all k v ps ≡ k.on) ↔ ((p : List L) × In p ps × ((e : L) → In e p → v e ≡ k.on))
    on_by_a_path ps = (on_all ps, λ r. all_on ps r.0 r.1 r.2)

pub one_joining : {S : Type 0} (k : Kind S) → Laws k → (v : ℕ → S) (c : Circuit) (ps qs : List (List ℕ)) → AllPaths c ps → AllPaths c qs → over_all k v ps ≡ over_all k v qs
one_joining k laws v c ps qs P Q = same_joining k laws v ps qs P.once Q.once (λ p i. (Q.are p).1 ((P.are p).0 i)) (λ p i. (P.are p).1 ((Q.are p).0 i))

-- so a wiring that reads a circuit passes on the joining over all its paths, however they are listed
pub value_over_all : {S : Type 0} (k : Kind S) → Laws k → (v : ℕ → S) (c : Circuit) (w : Wiring ℕ) (ps : List (List ℕ)) → Reads c w → AllPaths c ps → value k v w ≡ over_all k v ps
value_over_all k laws v c w ps R P = value_of_paths k laws v w ∙ one_joining k laws v c (paths w) ps (paths_stand c w R) P
