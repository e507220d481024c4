-- Operands and their texts.
use Rattle.std.proofs.Common.{◌≡◌, ℕ, suc, ◌+◌, ◌-◌, ◌*◌, ◌/◌, ◌%◌, ◌<◌, ◌≤◌, Bool, true, false, cond, ◌&&◌, eqb, leb, ◌⊎◌, List, [], ◌∷◌, ◌++◌, length, Some, None, codes, decimal, Option, sym, refl, ap, ◌∙◌, subst, inl, inr, arith}
use Rattle.std.proofs.lemmas.Fmt.{decimal_digit, decimal_step}
use Rattle.std.proofs.lemmas.Slice.Eq.{text_from_reads}
use Rattle.std.proofs.lemmas.Bool.Decides.{nat_tests, leb_tells}
use Rattle.points.specs.declared.point.Area.{Area}
use Rattle.points.specs.declared.point.Area.TheVariants.{Input, Output, Marker}
use Rattle.instructions.specs.declared.instruction.Operand.{Operand}
use Rattle.instructions.specs.declared.instruction.Operand.TheVariants.{True, At}
use Rattle.instructions.specs.Lines.{letter, operand_text}
use Rattle.instructions.specs.WordLaws.{Numbered}
use Rattle.listings.specs.Operands.{area_read, number_read, point_read, is_true, marked, operand_read}

-- the digits of a number below 256
one_digit : (n : ℕ) → n < 10 → decimal n ≡ (48 + n) ∷ []
one_digit n h = decimal_digit n h

two_digits : (n : ℕ) → 10 ≤ n → n < 100 → decimal n ≡ (48 + n / 10) ∷ (48 + n % 10) ∷ []
two_digits n l h = decimal_step n l (omega arith) ∙ ap (λ ds. ds ++ ((48 + n % 10) ∷ [])) (one_digit (n / 10) (omega arith))

three_digits : (n : ℕ) → 100 ≤ n → n < 256 → decimal n ≡ (48 + n / 10 / 10) ∷ (48 + n / 10 % 10) ∷ (48 + n % 10) ∷ []
three_digits n l h = decimal_step n (omega arith) (omega arith) ∙ ap (λ ds. ds ++ ((48 + n % 10) ∷ [])) (two_digits (n / 10) (omega arith) (omega arith))

read_one : (n : ℕ) → n < 10 → number_read ((48 + n) ∷ []) ≡ Some n
read_one n h = grind (arith, nat_tests)

read_two : (n : ℕ) → 10 ≤ n → n < 100 → number_read ((48 + n / 10) ∷ (48 + n % 10) ∷ []) ≡ Some n
read_two n l h = grind (arith, nat_tests)

read_three : (n : ℕ) → 100 ≤ n → n < 256 → number_read ((48 + n / 10 / 10) ∷ (48 + n / 10 % 10) ∷ (48 + n % 10) ∷ []) ≡ Some n
read_three n l h = grind (arith, nat_tests)

pub number_there : (n : ℕ) → n < 256 → number_read (decimal n) ≡ Some n
number_there n h = by (leb_tells 10 n) (leb_tells 100 n)
  where
    by : {a b : Bool} → ((a ≡ true) × (10 ≤ n)) ⊎ ((a ≡ false) × (n < 10)) → ((b ≡ true) × (100 ≤ n)) ⊎ ((b ≡ false) × (n < 100)) → number_read (decimal n) ≡ Some n
    by (inl t) (inl u) = ap number_read (three_digits n u.1 h) ∙ read_three n u.1 h
    by (inl t) (inr u) = ap number_read (two_digits n t.1 u.1) ∙ read_two n t.1 u.1
    by (inr t) u = ap number_read (one_digit n t.1) ∙ read_one n t.1

-- a number that was read, and its digits
pub number_back : (ds : List ℕ) (n : ℕ) → number_read ds ≡ Some n → (ds ≡ decimal n) × (n < 256)
number_back [] n e = let z : ◌≡◌ {A = ℕ} 0 1 = cc in absurd (omega arith)
number_back (a ∷ []) n e =
    let p : a ≡ 48 + n = grind (arith, nat_tests) in
    let q : n < 10 = grind (arith, nat_tests) in
    (ap (λ x. x ∷ []) p ∙ sym (one_digit n q), omega arith)
number_back (a ∷ b ∷ []) n e =
    let p : (49 ≤ a) × (a ≤ 57) × (48 ≤ b) × (b ≤ 57) × (n ≡ (a - 48) * 10 + (b - 48)) = grind (arith, nat_tests) in
    let x : a ≡ 48 + n / 10 = omega arith in
    let y : b ≡ 48 + n % 10 = omega arith in
    ((λ j. x j ∷ y j ∷ []) ∙ sym (two_digits n (omega arith) (omega arith)), omega arith)
number_back (a ∷ b ∷ c ∷ []) n e =
    let p : (49 ≤ a) × (a ≤ 57) × (48 ≤ b) × (b ≤ 57) × (48 ≤ c) × (c ≤ 57) × (n ≡ (a - 48) * 100 + (b - 48) * 10 + (c - 48)) × (n ≤ 255) = grind (arith, nat_tests) in
    let x : a ≡ 48 + n / 10 / 10 = omega arith in
    let y : b ≡ 48 + n / 10 % 10 = omega arith in
    let z : c ≡ 48 + n % 10 = omega arith in
    ((λ j. x j ∷ y j ∷ z j ∷ []) ∙ sym (three_digits n (omega arith) (omega arith)), omega arith)
number_back (a ∷ b ∷ c ∷ d ∷ ds) n e = let z : ◌≡◌ {A = ℕ} 0 1 = cc in absurd (omega arith)

area_there : (a : Area) → area_read (letter a) ≡ Some a
area_there Input = refl
area_there Output = refl
area_there Marker = refl

area_back : (l : ℕ) (a : Area) → area_read l ≡ Some a → l ≡ letter a
area_back l a e = grind (arith, nat_tests)

long : (n : ℕ) → leb 2 (suc (suc n)) ≡ true
long n = grind (arith, nat_tests)

pub operand-there : (x : Operand) → Numbered x → operand_read (operand_text x) ≡ Some x
operand-there True h = refl
operand-there (At p) h = rw (long (length (decimal p.number)), area_there p.area, number_there p.number h)

is_true_lem : (bs : List ℕ) → is_true bs ≡ true → bs ≡ codes "TRUE"
is_true_lem bs e = text_from_reads bs (codes "TRUE") (grind (arith, nat_tests)) (grind (arith, nat_tests), (grind (arith, nat_tests), (grind (arith, nat_tests), (grind (arith, nat_tests), tt))))

point_back : (l : ℕ) (ds : List ℕ) (x : Operand) (a : Option Area) (n : Option ℕ) → area_read l ≡ a → number_read ds ≡ n → point_read a n ≡ Some x → (37 ∷ l ∷ ds ≡ operand_text x) × Numbered x
point_back l ds x (Some a) (Some n) p q e =
    let y : At (record { area = a; number = n }) ≡ x = cc in
    let d = number_back ds n q in
    subst (λ y. (37 ∷ l ∷ ds ≡ operand_text y) × Numbered y) y ((λ j. 37 ∷ area_back l a p j ∷ d.0 j), d.1)
point_back l ds x (Some a) None p q e = let z : ◌≡◌ {A = ℕ} 0 1 = cc in absurd (omega arith)
point_back l ds x None n p q e = let z : ◌≡◌ {A = ℕ} 0 1 = cc in absurd (omega arith)

same : (a b : ℕ) → eqb a b ≡ true → a ≡ b
same a b e = grind (arith, nat_tests)

marked-back : (bs : List ℕ) (x : Operand) → marked bs ≡ Some x → (bs ≡ operand_text x) × Numbered x
marked-back [] x e = let z : ◌≡◌ {A = ℕ} 0 1 = cc in absurd (omega arith)
marked-back (a ∷ []) x e = by (eqb a 37) e
  where
    by : {P : Type 0} (b : Bool) → cond (b && leb 2 1) None None ≡ Some x → P
    by true e = let z : ◌≡◌ {A = ℕ} 0 1 = cc in absurd (omega arith)
    by false e = let z : ◌≡◌ {A = ℕ} 0 1 = cc in absurd (omega arith)
marked-back (a ∷ l ∷ ds) x e = by (eqb a 37) (leb 2 (suc (suc (length ds)))) (same a 37) e
  where
    by : (b c : Bool) → (b ≡ true → a ≡ 37) → cond (b && c) (point_read (area_read l) (number_read ds)) None ≡ Some x → (a ∷ l ∷ ds ≡ operand_text x) × Numbered x
    by true true f e =
        let p = point_back l ds x (area_read l) (number_read ds) refl refl e in
        (ap (λ h. h ∷ l ∷ ds) (f refl) ∙ p.0, p.1)
    by true false f e = let z : ◌≡◌ {A = ℕ} 0 1 = cc in absurd (omega arith)
    by false c f e = let z : ◌≡◌ {A = ℕ} 0 1 = cc in absurd (omega arith)

pub operand-back : (bs : List ℕ) (x : Operand) → operand_read bs ≡ Some x → (bs ≡ operand_text x) × Numbered x
operand-back bs x e = by (is_true bs) (is_true_lem bs) e
  where
    by : (b : Bool) → (b ≡ true → bs ≡ codes "TRUE") → cond b (Some True) (marked bs) ≡ Some x → (bs ≡ operand_text x) × Numbered x
    by true f e = let q : True ≡ x = cc in subst (λ y. (bs ≡ operand_text y) × Numbered y) q (f refl, tt)
    by false f e = marked-back bs x e
