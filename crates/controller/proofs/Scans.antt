-- A scan, for every program that has the words scanned.
use Rattle.std.proofs.Common.{◌≡◌, ℕ, List, [], ◌∷◌, sym, subst}
use Rattle.signals.specs.Kind.{Kind, Laws}
use Rattle.wiring.specs.Circuit.{Circuit}
use Rattle.wiring.specs.Value.{TwoSignals}
use Rattle.scanning.specs.ByPaths.{ByPaths, all-coiled}
use Rattle.scanning.specs.Listings.{Listings, named}
use Rattle.scanning.specs.Machine.{scanned}
use Rattle.scanning.specs.Refusals.{KeptUnnamed}
use Rattle.scanning.proofs.Receiving.{on_by_a_path}
use Rattle.controller.specs.Promise.{Origin, from_card, from-listing, words_of, by_conduction, Scanned}
use Rattle.controller.specs.Standing.{ListedRight}

module _ {S : Type 0} (k : Kind S) (laws : Laws k) where
  conducted : TwoSignals k → (cs : List Circuit) (before after : List S) → ByPaths k cs before after → by_conduction k cs before after
  conducted two [] before after e = e
  conducted two (c ∷ cs) before after (r, got, rest) =
      (r, got, on_by_a_path k laws two before c r got, conducted two cs (all-coiled k c.coils r before) after rest)

  -- a scan of the words of a program
  pub scanned_for : (program : Origin) (words : List ℕ) (before after : List S) → words_of program ≡ words → ListedRight program
      → after ≡ scanned k words before → KeptUnnamed (named words) before after → ((cs : List Circuit) → Listings cs words → ByPaths k cs before after)
      → Scanned k program before after
  scanned_for (from_card cs ws) words before after e l by kept paths =
      let p = paths cs (subst (λ (x : List ℕ). Listings cs x) e l) in
      record {
        by_words = subst (λ (x : List ℕ). after ≡ scanned k x before) (sym e) by;
        unnamed = subst (λ (x : List ℕ). KeptUnnamed (named x) before after) (sym e) kept;
        by_paths = (p, λ two. conducted two cs before after p);
      }
  scanned_for (from-listing ws) words before after e l by kept paths =
      record {
        by_words = subst (λ (x : List ℕ). after ≡ scanned k x before) (sym e) by;
        unnamed = subst (λ (x : List ℕ). KeptUnnamed (named x) before after) (sym e) kept;
        by_paths = tt;
      }
