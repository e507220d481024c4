-- The deepest bracket of words, one word at a time.
use Rattle.std.proofs.Common.{◌≡◌, ℕ, ◌+◌, ◌<◌, ◌≤◌, max, List, [], ◌∷◌, length, get_or, drop, Some, None, Option, ap, arith}
use Rattle.std.proofs.lemmas.List.{at_drop_more}
use Rattle.instructions.specs.declared.instruction.Instruction.{Instruction}
use Rattle.instructions.specs.declared.instruction.Instruction.TheVariants.{Load, LoadNot, And, AndNot, Or, OrNot, AndOpen, OrOpen, Close, Store, StoreNot, Set, Reset}
use Rattle.instructions.specs.Words.{instruction_of}
use Rattle.instructions.specs.Depth.{opened_if, deepest}

pub deepest-from : (n : ℕ) (ws : List ℕ) → n ≤ deepest n ws
deepest-from n [] = omega arith
deepest-from n (w ∷ ws) = omega arith

pub deepest-more : (n m k : ℕ) (ws : List ℕ) (i : ℕ) → i < length ws → m ≡ opened_if n (instruction_of (get_or ws i 0)) → n ≤ k → max (max m k) (deepest m (drop (i + 1) ws)) ≡ max k (deepest n (drop i ws))
deepest-more n m k ws i h e l =
    let d : deepest n (drop i ws) ≡ max n (deepest (opened_if n (instruction_of (get_or ws i 0))) (drop (i + 1) ws)) = at_drop_more (deepest n) ws i 0 h in
    let f = ap (λ x. deepest x (drop (i + 1) ws)) e in
    omega (arith, deepest-from m (drop (i + 1) ws))

-- one bracket more at most
pub opened_bound : (n : ℕ) (i : Option Instruction) → opened_if n i ≤ n + 1
opened_bound n None = omega arith
opened_bound n (Some (Load x)) = omega arith
opened_bound n (Some (LoadNot x)) = omega arith
opened_bound n (Some (And x)) = omega arith
opened_bound n (Some (AndNot x)) = omega arith
opened_bound n (Some (Or x)) = omega arith
opened_bound n (Some (OrNot x)) = omega arith
opened_bound n (Some AndOpen) = omega arith
opened_bound n (Some OrOpen) = omega arith
opened_bound n (Some Close) = omega arith
opened_bound n (Some (Store x)) = omega arith
opened_bound n (Some (StoreNot x)) = omega arith
opened_bound n (Some (Set x)) = omega arith
opened_bound n (Some (Reset x)) = omega arith
