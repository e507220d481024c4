-- The operands of words, and the text of their lines.
use Rattle.std.proofs.Common.{◌≡◌, ℕ, ◌+◌, ◌/◌, ◌%◌, ◌^◌, ◌<◌, ◌≤◌, Bool, true, false, cond, eqb, ltb, List, [], ◌∷◌, ◌++◌, Some, None, decimal, Option, sym, refl, subst, arith}
use Rattle.std.proofs.lemmas.Fmt.{decimal_by_steps}
use Rattle.std.proofs.lemmas.List.{append_assoc}
use Rattle.std.proofs.lemmas.Bool.Decides.{nat_tests}
use Rattle.points.specs.declared.point.Area.{Area}
use Rattle.points.specs.declared.point.Area.TheVariants.{Input, Output, Marker}
use Rattle.instructions.specs.declared.instruction.Operand.{Operand}
use Rattle.instructions.specs.declared.instruction.Operand.TheVariants.{True, At}
use Rattle.instructions.specs.declared.instruction.Instruction.{Instruction}
use Rattle.instructions.specs.declared.instruction.Instruction.TheVariants.{Load, LoadNot, And, AndNot, Or, OrNot, AndOpen, OrOpen, Close, Store, StoreNot, Set, Reset}
use Rattle.instructions.specs.Words.{operand, point_in, operand_of, bare_of, shaped, shaped_if, instruction_of}
use Rattle.instructions.specs.WordLaws.{Numbered}
use Rattle.instructions.specs.Lines.{letter, mnemonic, shown, operand_text, operand_part, line_of}
use Rattle.listings.proofs.Bytes.{lacks, lacks_append}
use Rattle.listings.proofs.LineReading.{line_text}

-- one choice of a row of tests
either : {X : Type 0} {P : Type 0} (b : Bool) (here rest : Option X) (x : X) → (here ≡ Some x → P) → (rest ≡ Some x → P) → cond b here rest ≡ Some x → P
either true here rest x f g e = f e
either false here rest x f g e = g e

none : {X : Type 0} {P : Type 0} (x : X) → None ≡ Some x → P
none x e = let z : ◌≡◌ {A = ℕ} 0 1 = cc in absurd (omega arith)

-- an operand out of a word is numbered
is : (y x : Operand) → Numbered y → Some y ≡ Some x → Numbered x
is y x h e = let q : y ≡ x = cc in subst Numbered q h

pointed : (a n : ℕ) (x : Operand) → n < 256 → point_in a n ≡ Some x → Numbered x
pointed a n x h =
    either (eqb a 0) _ _ x (either (eqb n 0) _ _ x (is True x tt) (none x))
    (either (eqb a 1) _ _ x (is (At (record { area = Input; number = n })) x h)
    (either (eqb a 2) _ _ x (is (At (record { area = Output; number = n })) x h)
    (either (eqb a 3) _ _ x (is (At (record { area = Marker; number = n })) x h) (none x))))

operand_numbered : (a n : ℕ) (x : Operand) → operand_of a n ≡ Some x → Numbered x
operand_numbered a n x = by (ltb 255 n) (small n)
  where
    small : (n : ℕ) → ltb 255 n ≡ false → n < 256
    small n e = grind (arith, nat_tests)

    by : (b : Bool) → (b ≡ false → n < 256) → cond b None (point_in a n) ≡ Some x → Numbered x
    by true f e = none x e
    by false f e = pointed a n x (f refl) e

same : (j i : Instruction) → Numbered (operand j) → Some j ≡ Some i → Numbered (operand i)
same j i h e = let q : j ≡ i = cc in subst (λ k. Numbered (operand k)) q h

bracket : (x : Operand) (j i : Instruction) → Numbered (operand j) → bare_of x j ≡ Some i → Numbered (operand i)
bracket True j i h e = same j i h e
bracket (At p) j i h e = none i e

shaped_numbered : (o : ℕ) (x : Operand) (i : Instruction) → Numbered x → shaped o x ≡ Some i → Numbered (operand i)
shaped_numbered o x i h =
    either (eqb o 0) _ _ i (same (Load x) i h)
    (either (eqb o 1) _ _ i (same (LoadNot x) i h)
    (either (eqb o 2) _ _ i (same (And x) i h)
    (either (eqb o 3) _ _ i (same (AndNot x) i h)
    (either (eqb o 4) _ _ i (same (Or x) i h)
    (either (eqb o 5) _ _ i (same (OrNot x) i h)
    (either (eqb o 6) _ _ i (bracket x AndOpen i tt)
    (either (eqb o 7) _ _ i (bracket x OrOpen i tt)
    (either (eqb o 8) _ _ i (bracket x Close i tt)
    (either (eqb o 9) _ _ i (same (Store x) i h)
    (either (eqb o 10) _ _ i (same (StoreNot x) i h)
    (either (eqb o 11) _ _ i (same (Set x) i h)
    (either (eqb o 12) _ _ i (same (Reset x) i h) (none i)))))))))))))

pub word_numbered : (word : ℕ) (i : Instruction) → instruction_of word ≡ Some i → Numbered (operand i)
word_numbered word i = by (operand_of (word / 1024 % 4) (word % 1024)) (operand_numbered (word / 1024 % 4) (word % 1024))
  where
    by : (o : Option Operand) → ((x : Operand) → o ≡ Some x → Numbered x) → shaped_if (word / 4096) o ≡ Some i → Numbered (operand i)
    by None f e = none i e
    by (Some x) f e = shaped_numbered (word / 4096) x i (f x refl) e

-- no line has byte 10 before its end
digits_lack : (n : ℕ) → n < 2 ^ 64 → lacks 10 (decimal n) ≡ true
digits_lack = decimal_by_steps (λ n ds. lacks 10 ds ≡ true) one more
  where
    one : (n : ℕ) → n < 10 → lacks 10 ((48 + n) ∷ []) ≡ true
    one n h = grind (arith, nat_tests)

    more : (n : ℕ) (ds : List ℕ) → 10 ≤ n → lacks 10 ds ≡ true → lacks 10 (ds ++ ((48 + n % 10) ∷ [])) ≡ true
    more n ds h e = lacks_append 10 ds ((48 + n % 10) ∷ []) e (grind (arith, nat_tests))

letter_lacks : (a : Area) → eqb (letter a) 10 ≡ false
letter_lacks Input = refl
letter_lacks Output = refl
letter_lacks Marker = refl

operand_lacks : (x : Operand) → Numbered x → lacks 10 (operand_text x) ≡ true
operand_lacks True h = refl
operand_lacks (At p) h = rw (letter_lacks p.area) (digits_lack p.number (omega arith))

pub line_lacks : (i : Instruction) → Numbered (operand i) → lacks 10 (line_text i) ≡ true
line_lacks (Load x) h = operand_lacks x h
line_lacks (LoadNot x) h = operand_lacks x h
line_lacks (And x) h = operand_lacks x h
line_lacks (AndNot x) h = operand_lacks x h
line_lacks (Or x) h = operand_lacks x h
line_lacks (OrNot x) h = operand_lacks x h
line_lacks AndOpen h = refl
line_lacks OrOpen h = refl
line_lacks Close h = refl
line_lacks (Store x) h = operand_lacks x h
line_lacks (StoreNot x) h = operand_lacks x h
line_lacks (Set x) h = operand_lacks x h
line_lacks (Reset x) h = operand_lacks x h

-- a line is its text and byte 10
pub line_is : (i : Instruction) → line_of i ≡ line_text i ++ 10 ∷ []
line_is i = sym (append_assoc (mnemonic i) (operand_part (shown i)) (10 ∷ []))
