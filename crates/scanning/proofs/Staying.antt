-- Points that no coil names stay.
use Rattle.std.proofs.Common.{◌≡◌, ℕ, zero, suc, ◌≢◌, List, [], ◌∷◌, set, Some, None, Option, refl, ap, ◌∙◌, inl}
use Rattle.std.specs.List.{slice_get}
use Rattle.signals.specs.Kind.{Kind}
use Rattle.instructions.specs.declared.instruction.Operand.{Operand}
use Rattle.instructions.specs.declared.instruction.Operand.TheVariants.{True, At}
use Rattle.instructions.specs.declared.instruction.Instruction.{Instruction}
use Rattle.instructions.specs.declared.instruction.Instruction.TheVariants.{Load, LoadNot, And, AndNot, Or, OrNot, AndOpen, OrOpen, Close, Store, StoreNot, Set, Reset}
use Rattle.instructions.specs.Words.{instruction_of}
use Rattle.points.specs.Points.{index_of}
use Rattle.wiring.specs.declared.rung.Action.{Action}
use Rattle.wiring.specs.declared.rung.Action.TheVariants as action
use Rattle.wiring.specs.Lists.{In}
use Rattle.wiring.proofs.Members.{in_left, in_right}
use Rattle.scanning.specs.declared.joining.Joining.{Joining}
use Rattle.scanning.specs.Listings.{index_in, drives, drives_if, named}
use Rattle.scanning.specs.Machine.{Machine, rejoined, coiled_onto, acts, acts_if, runs, fresh, scanned}

pub slice_get_set_other : {A : Type 0} (xs : List A) (j : ℕ) (x : A) (i : ℕ) → i ≢ j → slice_get (set xs j x) i ≡ slice_get xs i
slice_get_set_other [] j x i n = refl
slice_get_set_other (y ∷ xs) zero x zero n = absurd (n refl)
slice_get_set_other (y ∷ xs) zero x (suc i) n = refl
slice_get_set_other (y ∷ xs) (suc j) x zero n = refl
slice_get_set_other (y ∷ xs) (suc j) x (suc i) n = slice_get_set_other xs j x i (λ e. n (ap suc e))

module _ {S : Type 0} (k : Kind S) where
  coil_keeps : (a : Action) (x : Operand) (r : S) (points : List S) (i : ℕ) → (In i (index_in x) → ⊥) → slice_get (coiled_onto k a x r points) i ≡ slice_get points i
  coil_keeps a True r points i n = refl
  coil_keeps a (At p) r points i n = slice_get_set_other points (index_of p) _ i (λ e. n (inl e))

  rejoined-keeps : (aside : List (S × Joining)) (m : Machine S) → (rejoined k aside m).points ≡ m.points
  rejoined-keeps [] m = refl
  rejoined-keeps (x ∷ aside) m = refl

  act_keeps : (i : Instruction) (m : Machine S) (n : ℕ) → (In n (drives i) → ⊥) → slice_get (acts k i m).points n ≡ slice_get m.points n
  act_keeps (Load x) m n h = refl
  act_keeps (LoadNot x) m n h = refl
  act_keeps (And x) m n h = refl
  act_keeps (AndNot x) m n h = refl
  act_keeps (Or x) m n h = refl
  act_keeps (OrNot x) m n h = refl
  act_keeps AndOpen m n h = refl
  act_keeps OrOpen m n h = refl
  act_keeps Close m n h = ap (λ (l : List S). slice_get l n) (rejoined-keeps m.aside m)
  act_keeps (Store x) m n h = coil_keeps action.Store x m.result m.points n h
  act_keeps (StoreNot x) m n h = coil_keeps action.StoreNot x m.result m.points n h
  act_keeps (Set x) m n h = coil_keeps action.Set x m.result m.points n h
  act_keeps (Reset x) m n h = coil_keeps action.Reset x m.result m.points n h

  act_if_keeps : (o : Option Instruction) (m : Machine S) (n : ℕ) → (In n (drives_if o) → ⊥) → slice_get (acts_if k o m).points n ≡ slice_get m.points n
  act_if_keeps None m n h = refl
  act_if_keeps (Some i) m n h = act_keeps i m n h

  runs_keep : (words : List ℕ) (m : Machine S) (n : ℕ) → (In n (named words) → ⊥) → slice_get (runs k words m).points n ≡ slice_get m.points n
  runs_keep [] m n h = refl
  runs_keep (w ∷ ws) m n h =
      runs_keep ws (acts_if k (instruction_of w) m) n (λ p. h (in_right n (drives_if (instruction_of w)) (named ws) p))
      ∙ act_if_keeps (instruction_of w) m n (λ p. h (in_left n (drives_if (instruction_of w)) (named ws) p))

  pub unnamed_stay : (words : List ℕ) (points : List S) (i : ℕ) → (In i (named words) → ⊥) → slice_get (scanned k words points) i ≡ slice_get points i
  unnamed_stay words points i h = runs_keep words (fresh k points) i h
