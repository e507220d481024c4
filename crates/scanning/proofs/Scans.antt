-- A scan, word by word.
use Rattle.std.proofs.Common.{◌≡◌, ℕ, ◌+◌, ◌-◌, ◌<◌, ◌≤◌, Bool, true, false, ◌&&◌, List, [], ◌∷◌, Some, None, Option, length, get_or, drop, sym, refl, ap, ◌∙◌, subst, arith}
use Rattle.std.proofs.lemmas.List.{drop_more, drop_all}
use Rattle.std.specs.List.{slice_get}
use Rattle.signals.specs.Kind.{Kind, Laws}
use Rattle.instructions.specs.declared.instruction.Instruction.{Instruction}
use Rattle.instructions.specs.declared.instruction.Instruction.TheVariants.{Load, LoadNot, And, AndNot, Or, OrNot, AndOpen, OrOpen, Close, Store, StoreNot, Set, Reset}
use Rattle.instructions.specs.Depth.{opened, opened_if}
use Rattle.instructions.specs.Words.{instruction_of}
use Rattle.wiring.specs.Circuit.{Circuit}
use Rattle.wiring.specs.Lists.{In}
use Rattle.scanning.specs.ByPaths.{ByPaths}
use Rattle.scanning.specs.Listings.{Listings, named}
use Rattle.scanning.specs.declared.joining.Joining.{Joining}
use Rattle.scanning.specs.Machine.{Machine, rejoined, acts, acts_if, runs, fresh, scanned}
use Rattle.scanning.specs.Working.{roomy_if, fitting}
use Rattle.scanning.proofs.Agreement.{scans_agree}
use Rattle.scanning.proofs.Staying.{unnamed_stay}

both : (a b : Bool) → (a && b) ≡ true → (a ≡ true) × (b ≡ true)
both true b h = (refl, h)
both false b h = cc

module _ {S : Type 0} (k : Kind S) where
  rejoined_open : (aside : List (S × Joining)) (m : Machine S) → m.aside ≡ aside → length (rejoined k aside m).aside ≡ length aside - 1
  rejoined_open [] m e = ap length e
  rejoined_open (x ∷ aside) m e = omega arith

  -- an instruction leaves as many brackets open as it says
  acts_open : (i : Instruction) (m : Machine S) → length (acts k i m).aside ≡ opened (length m.aside) i
  acts_open (Load x) m = refl
  acts_open (LoadNot x) m = refl
  acts_open (And x) m = refl
  acts_open (AndNot x) m = refl
  acts_open (Or x) m = refl
  acts_open (OrNot x) m = refl
  acts_open AndOpen m = omega arith
  acts_open OrOpen m = omega arith
  acts_open Close m = rejoined_open m.aside m refl
  acts_open (Store x) m = refl
  acts_open (StoreNot x) m = refl
  acts_open (Set x) m = refl
  acts_open (Reset x) m = refl

  acts_if_open : (o : Option Instruction) (m : Machine S) → length (acts_if k o m).aside ≡ opened_if (length m.aside) o
  acts_if_open None m = refl
  acts_if_open (Some i) m = acts_open i m

-- what a scan keeps from word to word: the words that are left lead from the machine m to the goal, and their brackets fit
pub record Going {S : Type 0} (k : Kind S) (words : List ℕ) (i : ℕ) (m goal : Machine S) : Type 0 where
  pub leads : runs k (drop i words) m ≡ goal
  pub fits : fitting (length m.aside) (drop i words) ≡ true

module _ {S : Type 0} (k : Kind S) where
  ahead : (words : List ℕ) (i : ℕ) (m goal : Machine S) → i < length words → Going k words i m goal
      → (roomy_if (length m.aside) (instruction_of (get_or words i 0)) ≡ true) × (fitting (opened_if (length m.aside) (instruction_of (get_or words i 0))) (drop (i + 1) words) ≡ true)
  ahead words i m goal h g =
      both (roomy_if (length m.aside) (instruction_of (get_or words i 0))) _ (subst (λ (ws : List ℕ). fitting (length m.aside) ws ≡ true) (drop_more words i 0 h) g.fits)

  pub going_roomy : (words : List ℕ) (i : ℕ) (m goal : Machine S) → i < length words → Going k words i m goal → roomy_if (length m.aside) (instruction_of (get_or words i 0)) ≡ true
  going_roomy words i m goal h g = (ahead words i m goal h g).0

  pub going_more : (words : List ℕ) (i : ℕ) (m m' goal : Machine S) → i < length words → Going k words i m goal → m' ≡ acts_if k (instruction_of (get_or words i 0)) m → Going k words (i + 1) m' goal
  going_more words i m m' goal h g em =
      record {
        leads = ap (runs k (drop (i + 1) words)) em ∙ sym (ap (λ (ws : List ℕ). runs k ws m) (drop_more words i 0 h)) ∙ g.leads;
        fits = subst (λ (d : ℕ). fitting d (drop (i + 1) words) ≡ true) (sym (ap (λ (x : Machine S). length x.aside) em ∙ acts_if_open k (instruction_of (get_or words i 0)) m)) (ahead words i m goal h g).1;
      }

  -- at the end the machine is the goal
  pub going_done : (words : List ℕ) (i : ℕ) (m goal : Machine S) → length words ≤ i → Going k words i m goal → m ≡ goal
  going_done words i m goal h g = sym (ap (λ (ws : List ℕ). runs k ws m) (drop_all i words h)) ∙ g.leads

  -- words that run from the start of a scan leave the points of that scan
  pub left_scanned : (words held : List ℕ) (points : List S) (m m' : Machine S) → m' ≡ runs k words m → words ≡ held → m ≡ fresh k points → m'.points ≡ scanned k held points
  left_scanned words held points m m' r w f = ap (λ (x : Machine S). x.points) (r ∙ ap (λ (ws : List ℕ). runs k ws m) w ∙ ap (runs k held) f)

  -- what a scan has left is what the paths leave
  pub left_by_paths : Laws k → (words : List ℕ) (points after : List S) → after ≡ scanned k words points → (cs : List Circuit) → Listings cs words → ByPaths k cs points after
  left_by_paths laws words points after e cs l = subst (λ (xs : List S). ByPaths k cs points xs) (sym e) (scans_agree k laws cs words points l)

  -- and points that no coil names hold what they held
  pub left_unnamed : (words : List ℕ) (points after : List S) → after ≡ scanned k words points → (i : ℕ) → (In i (named words) → ⊥) → slice_get after i ≡ slice_get points i
  left_unnamed words points after e i h = ap (λ (xs : List S). slice_get xs i) e ∙ unnamed_stay k words points i h
