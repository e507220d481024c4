-- The scan of listings and the scan by paths leave the same points.
use Rattle.std.proofs.Common.{◌≡◌, ℕ, List, [], ◌∷◌, sym, ap, ◌∙◌, subst}
use Rattle.signals.specs.Kind.{Kind, Laws}
use Rattle.wiring.specs.Circuit.{Circuit, Reads}
use Rattle.wiring.specs.Text.{link_text, text}
use Rattle.wiring.specs.Value.{value}
use Rattle.wiring.specs.Wiring.{Wiring, paths}
use Rattle.wiring.proofs.Paths.{paths_stand}
use Rattle.wiring.proofs.Values.{value_of_paths, one_joining}
use Rattle.translation.specs.Spelling.{spell, coil_words, rung_words}
use Rattle.scanning.specs.ByPaths.{link_signal, Received, all-coiled, ByPaths}
use Rattle.scanning.specs.Listings.{Numbered, Listings}
use Rattle.scanning.specs.Machine.{Machine, with_result, runs, fresh, scanned}
use Rattle.scanning.proofs.Running.{runs_append}
use Rattle.scanning.proofs.Texts.{coils_run, does}

module _ {S : Type 0} (k : Kind S) (laws : Laws k) where
  -- the words of one rung: its signal is made from the points as they stand, and then its coils act
  rung_runs : (c : Circuit) (w : Wiring ℕ) (m : Machine S) → Numbered c → (runs k (rung_words c w) m).points ≡ all-coiled k c.coils (value k (link_signal k m.points c) w) m.points
  rung_runs c w m n =
      ap (λ (x : Machine S). x.points)
      (runs_append k (spell c (text link_text w).first) (coil_words c.coils) m
      ∙ ap (runs k (coil_words c.coils)) ((does k laws c n w).first m))
      ∙ coils_run k c.coils (with_result (value k (link_signal k m.points c) w) m) n.coils

  received : (points : List S) (c : Circuit) (w : Wiring ℕ) → Reads c w → Received k points c (value k (link_signal k points c) w)
  received points c w r = record { ways = paths w; all = paths_stand c w r; joining = value_of_paths k laws (link_signal k points c) w }

  -- from any machine on: a rung loads its own result, so what earlier words left does not matter
  pub runs_by_paths : (cs : List Circuit) (words : List ℕ) (m : Machine S) → Listings cs words → ByPaths k cs m.points (runs k words m).points
  runs_by_paths [] words m e = ap (λ (ws : List ℕ). (runs k ws m).points) e
  runs_by_paths (c ∷ cs) words m (new, rest, l, n, ls, e) =
      let w = l.wiring in
      let here = ap (λ (ws : List ℕ). (runs k ws m).points) l.listing ∙ rung_runs c w m n in
      let whole = ap (λ (ws : List ℕ). (runs k ws m).points) e ∙ ap (λ (x : Machine S). x.points) (runs_append k new rest m) in (
        value k (link_signal k m.points c) w,
        received m.points c w l.reads,
        subst (λ (after : List S). ByPaths k cs (all-coiled k c.coils (value k (link_signal k m.points c) w) m.points) after) (sym whole)
            (subst (λ (points : List S). ByPaths k cs points (runs k rest (runs k new m)).points) here (runs_by_paths cs rest (runs k new m) ls)),
      )

  pub scans_agree : (cs : List Circuit) (words : List ℕ) (points : List S) → Listings cs words → ByPaths k cs points (scanned k words points)
  scans_agree cs words points h = runs_by_paths cs words (fresh k points) h

  one_received : (points : List S) (c : Circuit) (r r' : S) → Received k points c r → Received k points c r' → r ≡ r'
  one_received points c r r' p q = p.joining ∙ one_joining k laws (link_signal k points c) c p.ways q.ways p.all q.all ∙ sym q.joining

  pub one_outcome : (cs : List Circuit) (points after after' : List S) → ByPaths k cs points after → ByPaths k cs points after' → after ≡ after'
  one_outcome [] points after after' p q = p ∙ sym q
  one_outcome (c ∷ cs) points after after' (r, p, ps) (r', q, qs) =
      one_outcome cs (all-coiled k c.coils r' points) after after' (subst (λ (x : S). ByPaths k cs (all-coiled k c.coils x points) after) (one_received points c r r' p q) ps) qs
