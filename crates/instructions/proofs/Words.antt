-- An instruction and its word.
use Rattle.std.proofs.Common.{◌≡◌, ℕ, ◌+◌, ◌*◌, ◌/◌, ◌%◌, ◌<◌, Bool, true, false, cond, eqb, ltb, ◌⊎◌, Some, None, Option, sym, refl, ◌∙◌, subst, inl, inr, arith}
use Rattle.std.proofs.lemmas.Bool.Decides.{nat_tests, eqb_tells}
use Rattle.points.specs.declared.point.Area.{Area}
use Rattle.points.specs.declared.point.Area.TheVariants.{Input, Output, Marker}
use Rattle.instructions.specs.declared.instruction.Operand.{Operand}
use Rattle.instructions.specs.declared.instruction.Operand.TheVariants.{True, At}
use Rattle.instructions.specs.declared.instruction.Instruction.{Instruction}
use Rattle.instructions.specs.declared.instruction.Instruction.TheVariants.{Load, LoadNot, And, AndNot, Or, OrNot, AndOpen, OrOpen, Close, Store, StoreNot, Set, Reset}
use Rattle.instructions.specs.Words.{operand_code, operand, operation_code, word_of, point_in, operand_of, bare_of, shaped, shaped_if, instruction_of}
use Rattle.instructions.specs.WordLaws.{Numbered, WordLaws}

true_false : true ≡ false → ⊥
true_false e = let z : ◌≡◌ {A = ℕ} 0 1 = cc in omega arith

-- an operand's area and number, out of a word
at_there : (o : ℕ) (a : Area) (n : ℕ) → n < 256 → instruction_of (o * 4096 + operand_code (At (record { area = a; number = n }))) ≡ shaped o (At (record { area = a; number = n }))
at_there o Input n h =
    let p : (o * 4096 + (1 * 1024 + n)) / 4096 ≡ o = omega arith in
    let q : (o * 4096 + (1 * 1024 + n)) / 1024 % 4 ≡ 1 = omega arith in
    let r : (o * 4096 + (1 * 1024 + n)) % 1024 ≡ n = omega arith in
    let small : ltb 255 n ≡ false = grind (arith, nat_tests) in
    rw (p, q, r, small)
at_there o Output n h =
    let p : (o * 4096 + (2 * 1024 + n)) / 4096 ≡ o = omega arith in
    let q : (o * 4096 + (2 * 1024 + n)) / 1024 % 4 ≡ 2 = omega arith in
    let r : (o * 4096 + (2 * 1024 + n)) % 1024 ≡ n = omega arith in
    let small : ltb 255 n ≡ false = grind (arith, nat_tests) in
    rw (p, q, r, small)
at_there o Marker n h =
    let p : (o * 4096 + (3 * 1024 + n)) / 4096 ≡ o = omega arith in
    let q : (o * 4096 + (3 * 1024 + n)) / 1024 % 4 ≡ 3 = omega arith in
    let r : (o * 4096 + (3 * 1024 + n)) % 1024 ≡ n = omega arith in
    let small : ltb 255 n ≡ false = grind (arith, nat_tests) in
    rw (p, q, r, small)

code-there : (o : ℕ) (x : Operand) → Numbered x → instruction_of (o * 4096 + operand_code x) ≡ shaped o x
code-there o True h =
    let p : (o * 4096 + 0) / 4096 ≡ o = omega arith in
    let q : (o * 4096 + 0) / 1024 % 4 ≡ 0 = omega arith in
    let r : (o * 4096 + 0) % 1024 ≡ 0 = omega arith in
    rw (p, q, r)
code-there o (At p) h = at_there o p.area p.number h

there : (i : Instruction) → Numbered (operand i) → instruction_of (word_of i) ≡ Some i
there (Load x) h = code-there 0 x h
there (LoadNot x) h = code-there 1 x h
there (And x) h = code-there 2 x h
there (AndNot x) h = code-there 3 x h
there (Or x) h = code-there 4 x h
there (OrNot x) h = code-there 5 x h
there AndOpen h = refl
there OrOpen h = refl
there Close h = refl
there (Store x) h = code-there 9 x h
there (StoreNot x) h = code-there 10 x h
there (Set x) h = code-there 11 x h
there (Reset x) h = code-there 12 x h

-- what a word holds
point_back : (a n : ℕ) (x : Operand) → point_in a n ≡ Some x → operand_code x ≡ a * 1024 + n
point_back a n x e = grind (arith, nat_tests)

operand-back : (a n : ℕ) (x : Operand) → operand_of a n ≡ Some x → operand_code x ≡ a * 1024 + n
operand-back a n x e = kept (ltb 255 n) (point_in a n) x e (point_back a n x)
  where
    kept : {P : Type 0} (b : Bool) (o : Option Operand) (x : Operand) → cond b None o ≡ Some x → (o ≡ Some x → P) → P
    kept true o x e f = let z : ◌≡◌ {A = ℕ} 0 1 = cc in absurd (omega arith)
    kept false o x e f = f e

-- an instruction with this operation's number and this operand's code
abbrev Has : ℕ → Operand → Instruction → Type 0
Has o x i = (operation_code i ≡ o) × (operand_code (operand i) ≡ operand_code x)

-- one choice of a row of tests
chosen : (o k : ℕ) (x : Operand) (i : Instruction) (here rest : Option Instruction) → (here ≡ Some i → Has k x i) → (rest ≡ Some i → Has o x i) → cond (eqb o k) here rest ≡ Some i → Has o x i
chosen o k x i here rest f g e =
    by (eqb o k) (eqb_tells o k) e
  where
    by : (b : Bool) → ((b ≡ true) × (o ≡ k)) ⊎ ((b ≡ false) × (o ≡ k → ⊥)) → cond b here rest ≡ Some i → Has o x i
    by true (inl t) e = let h = f e in (h.0 ∙ sym t.1, h.1)
    by true (inr t) e = absurd (true_false t.0)
    by false (inl t) e = absurd (true_false (sym t.0))
    by false (inr t) e = g e

is : (k : ℕ) (x : Operand) (j i : Instruction) → Has k x j → Some j ≡ Some i → Has k x i
is k x j i h e = let q : j ≡ i = cc in subst (Has k x) q h

bare-is : (k : ℕ) (x : Operand) (j i : Instruction) → Has k True j → bare_of x j ≡ Some i → Has k x i
bare-is k True j i h e = is k True j i h e
bare-is k (At p) j i h e = let z : ◌≡◌ {A = ℕ} 0 1 = cc in absurd (omega arith)

shape_back : (o : ℕ) (x : Operand) (i : Instruction) → shaped o x ≡ Some i → Has o x i
shape_back o x i =
    chosen o 0 x i _ _ (is 0 x (Load x) i (refl, refl))
    (chosen o 1 x i _ _ (is 1 x (LoadNot x) i (refl, refl))
    (chosen o 2 x i _ _ (is 2 x (And x) i (refl, refl))
    (chosen o 3 x i _ _ (is 3 x (AndNot x) i (refl, refl))
    (chosen o 4 x i _ _ (is 4 x (Or x) i (refl, refl))
    (chosen o 5 x i _ _ (is 5 x (OrNot x) i (refl, refl))
    (chosen o 6 x i _ _ (bare-is 6 x AndOpen i (refl, refl))
    (chosen o 7 x i _ _ (bare-is 7 x OrOpen i (refl, refl))
    (chosen o 8 x i _ _ (bare-is 8 x Close i (refl, refl))
    (chosen o 9 x i _ _ (is 9 x (Store x) i (refl, refl))
    (chosen o 10 x i _ _ (is 10 x (StoreNot x) i (refl, refl))
    (chosen o 11 x i _ _ (is 11 x (Set x) i (refl, refl))
    (chosen o 12 x i _ _ (is 12 x (Reset x) i (refl, refl))
    (λ e. let z : ◌≡◌ {A = ℕ} 0 1 = cc in absurd (omega arith))))))))))))))

back : (word : ℕ) (i : Instruction) → instruction_of word ≡ Some i → word_of i ≡ word
back word i e = by (operand_of (word / 1024 % 4) (word % 1024)) (operand-back (word / 1024 % 4) (word % 1024)) e
  where
    by : (o : Option Operand) → ((x : Operand) → o ≡ Some x → operand_code x ≡ word / 1024 % 4 * 1024 + word % 1024) → shaped_if (word / 4096) o ≡ Some i → word_of i ≡ word
    by None f e = let z : ◌≡◌ {A = ℕ} 0 1 = cc in absurd (omega arith)
    by (Some x) f e =
        let h = shape_back (word / 4096) x i e in
        let c = f x refl in
        let a = h.0 in
        let b = h.1 in
        omega arith

pub word_laws : WordLaws
word_laws = record { there = there; back = back }
