-- The laws over whole runs: which program stands, and what changes points and lent bytes.
use Rattle.std.proofs.Common.{◌≡◌, ℕ, ◌⊎◌, List, [], ◌∷◌, Ok, sym, refl, ap, ◌∙◌, subst, inl, inr}
use Rattle.signals.specs.Kind.{Kind}
use Rattle.programs.specs.Counts.{counts}
use Rattle.controller.specs.declared.call.Call.{Call}
use Rattle.controller.specs.declared.call.Call.TheVariants.{InstallCard, InstallListing}
use Rattle.controller.specs.declared.call.Answer.{Answer}
use Rattle.controller.specs.declared.call.Answer.TheVariants.{Install}
use Rattle.controller.specs.Promise.{Origin, State, Happens, card_small, card_refused, card, listing-small, listing_refused, listing, input_small, no_input, input, point_small, no_point, point, scan_small, few_signals, scan, listing_short, listing-written, status_short, status_written, Run, still, onwards}
use Rattle.controller.specs.Runs.{Event, Installs, NoInstall, NoChange, NoWriting, Throughout, LastInstalled, none, last}

-- what one event makes of the program: nothing, or what its install means
unfoldable InstalledBy : {S : Type 0} → Origin → Call S → Answer S → Origin → Type 0
InstalledBy before call answer after =
    (NoInstall (call, answer) × (after ≡ before)) ⊎ ((numbers : ℕ × ℕ × ℕ × ℕ) × (answer ≡ Install (Ok numbers)) × Installs call after)

module _ {S : Type 0} (k : Kind S) where
  one_program : (s t : State S) (call : Call S) (a : Answer S) → Happens k s call a t → InstalledBy s.program call a t.program
  unfolding InstalledBy
  one_program s t call a (card_small x b h) = inl (tt, refl)
  one_program s t call a (card_refused x b e h j) = inl (tt, refl)
  one_program s t call a (card x y b cs words h acc e) =
      inr (counts words, refl, subst (λ (p : Origin). Installs {S = S} (InstallCard b) p) (sym (ap (λ (z : State S). z.program) e)) acc)
  one_program s t call a (listing-small x b h) = inl (tt, refl)
  one_program s t call a (listing_refused x b e h j) = inl (tt, refl)
  one_program s t call a (listing x y b words h acc e) =
      inr (counts words, refl, subst (λ (p : Origin). Installs {S = S} (InstallListing b) p) (sym (ap (λ (z : State S). z.program) e)) acc)
  one_program s t call a (input_small x n y h) = inl (tt, refl)
  one_program s t call a (no_input x n y h g) = inl (tt, refl)
  one_program s t call a (input x y n z h g e) = inl (tt, ap (λ (w : State S). w.program) e)
  one_program s t call a (point_small x i h) = inl (tt, refl)
  one_program s t call a (no_point x i h g) = inl (tt, refl)
  one_program s t call a (point x i y h g) = inl (tt, refl)
  one_program s t call a (scan_small x n h) = inl (tt, refl)
  one_program s t call a (few_signals x n h g) = inl (tt, refl)
  one_program s t call a (scan x y n h g did e) = inl (tt, ap (λ (w : State S). w.program) e)
  one_program s t call a (listing_short x n d le lt) = inl (tt, refl)
  one_program s t call a (listing-written x y n le fit e) = inl (tt, ap (λ (w : State S). w.program) e)
  one_program s t call a (status_short x n d le lt) = inl (tt, refl)
  one_program s t call a (status_written x y n le fit e) = inl (tt, ap (λ (w : State S). w.program) e)

  -- one event in front
  in_front : (before mid after : Origin) (call : Call S) (a : Answer S) (rest : List (Event S)) → InstalledBy before call a mid → LastInstalled mid rest after
      → LastInstalled before ((call, a) ∷ rest) after
  unfolding InstalledBy
  in_front before mid after call a rest (inl (n, e)) (none events ts) =
      subst (λ (p : Origin). LastInstalled before ((call, a) ∷ events) p) (sym e) (none ((call, a) ∷ events) (n, ts))
  in_front before mid after call a rest (inr (numbers, e, inst)) (none events ts) =
      subst (λ (x : Answer S). LastInstalled before ((call, x) ∷ events) mid) (sym e) (last [] events call numbers mid inst ts)
  in_front before mid after call a rest (inl x) (last earlier later c numbers p inst ts) = last ((call, a) ∷ earlier) later c numbers p inst ts
  in_front before mid after call a rest (inr x) (last earlier later c numbers p inst ts) = last ((call, a) ∷ earlier) later c numbers p inst ts

  pub run_program : (s t : State S) (events : List (Event S)) → Run k s events t → LastInstalled s.program events t.program
  run_program s t events (still x) = none [] tt
  run_program s t events (onwards x m u call a rest one r) =
      in_front x.program m.program u.program call a rest (one_program x m call a one) (run_program m u rest r)

  one_points : (s t : State S) (call : Call S) (a : Answer S) → Happens k s call a t → NoChange (call, a) → t.points ≡ s.points
  one_points s t call a (card_small x b h) q = refl
  one_points s t call a (card_refused x b e h j) q = refl
  one_points s t call a (card x y b cs words h acc e) q = ap (λ (w : State S). w.points) e
  one_points s t call a (listing-small x b h) q = refl
  one_points s t call a (listing_refused x b e h j) q = refl
  one_points s t call a (listing x y b words h acc e) q = ap (λ (w : State S). w.points) e
  one_points s t call a (input_small x n y h) q = refl
  one_points s t call a (no_input x n y h g) q = refl
  one_points s t call a (input x y n z h g e) q = absurd q
  one_points s t call a (point_small x i h) q = refl
  one_points s t call a (no_point x i h g) q = refl
  one_points s t call a (point x i y h g) q = refl
  one_points s t call a (scan_small x n h) q = refl
  one_points s t call a (few_signals x n h g) q = refl
  one_points s t call a (scan x y n h g did e) q = absurd q
  one_points s t call a (listing_short x n d le lt) q = refl
  one_points s t call a (listing-written x y n le fit e) q = ap (λ (w : State S). w.points) e
  one_points s t call a (status_short x n d le lt) q = refl
  one_points s t call a (status_written x y n le fit e) q = ap (λ (w : State S). w.points) e

  pub run_points : (s t : State S) (events : List (Event S)) → Run k s events t → Throughout NoChange events → t.points ≡ s.points
  run_points s t events (still x) q = refl
  run_points s t events (onwards x m u call a rest one r) q = run_points m u rest r q.1 ∙ one_points x m call a one q.0

  one_bytes : (s t : State S) (call : Call S) (a : Answer S) → Happens k s call a t → NoWriting (call, a) → t.buffer ≡ s.buffer
  one_bytes s t call a (card_small x b h) q = refl
  one_bytes s t call a (card_refused x b e h j) q = refl
  one_bytes s t call a (card x y b cs words h acc e) q = ap (λ (w : State S). w.buffer) e
  one_bytes s t call a (listing-small x b h) q = refl
  one_bytes s t call a (listing_refused x b e h j) q = refl
  one_bytes s t call a (listing x y b words h acc e) q = ap (λ (w : State S). w.buffer) e
  one_bytes s t call a (input_small x n y h) q = refl
  one_bytes s t call a (no_input x n y h g) q = refl
  one_bytes s t call a (input x y n z h g e) q = ap (λ (w : State S). w.buffer) e
  one_bytes s t call a (point_small x i h) q = refl
  one_bytes s t call a (no_point x i h g) q = refl
  one_bytes s t call a (point x i y h g) q = refl
  one_bytes s t call a (scan_small x n h) q = refl
  one_bytes s t call a (few_signals x n h g) q = refl
  one_bytes s t call a (scan x y n h g did e) q = ap (λ (w : State S). w.buffer) e
  one_bytes s t call a (listing_short x n d le lt) q = refl
  one_bytes s t call a (listing-written x y n le fit e) q = absurd q
  one_bytes s t call a (status_short x n d le lt) q = refl
  one_bytes s t call a (status_written x y n le fit e) q = absurd q

  pub run_bytes : (s t : State S) (events : List (Event S)) → Run k s events t → Throughout NoWriting events → t.buffer ≡ s.buffer
  run_bytes s t events (still x) q = refl
  run_bytes s t events (onwards x m u call a rest one r) q = run_bytes m u rest r q.1 ∙ one_bytes x m call a one q.0
