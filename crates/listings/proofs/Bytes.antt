-- Where a byte stands in a text.
use Rattle.std.proofs.Common.{◌≡◌, ℕ, suc, ◌+◌, ◌<◌, ◌≤◌, Bool, true, false, cond, eqb, ltb, List, [], ◌∷◌, ◌++◌, length, take, drop, Some, None, Option, MatchOption, sym, refl, ap, ◌∙◌, subst, arith}
use Rattle.std.specs.List.{position, position_or_len}
use Rattle.std.proofs.lemmas.List.Recursion.{is_position_or_len}
use Rattle.std.proofs.lemmas.Bool.Decides.{nat_tests}
use Rattle.listings.specs.LineReading.{byte_in}

pub byte_within : (byte : ℕ) (text : List ℕ) → byte_in byte text ≤ length text
byte_within byte [] = omega arith
byte_within byte (b ∷ bs) = by (eqb b byte) (byte_within byte bs)
  where
    by : (t : Bool) → byte_in byte bs ≤ length bs → cond t 0 (1 + byte_in byte bs) ≤ suc (length bs)
    by true h = omega arith
    by false h = omega arith

-- a byte is found where it stands first, or it is not there
pub byte_found : (byte : ℕ) (text : List ℕ) (found : Option ℕ) → found ≡ position (λ b. eqb b byte) text → MatchOption found (byte_in byte text ≡ length text) (λ end. (end ≡ byte_in byte text) × (end < length text))
byte_found byte text found e =
    subst (λ r. MatchOption r (byte_in byte text ≡ length text) (λ end. (end ≡ byte_in byte text) × (end < length text))) (sym (e ∙ ap (λ n. cond (ltb n (length text)) (Some n) None) (sym same)))
    (by (ltb (byte_in byte text) (length text)) (below (byte_in byte text) (length text)) (above (byte_in byte text) (length text)))
  where
    same : byte_in byte text ≡ position_or_len (λ b. eqb b byte) text
    same = is_position_or_len (byte_in byte) (λ b. eqb b byte) refl (λ x xs. refl) text

    below : (m n : ℕ) → ltb m n ≡ true → m < n
    below m n e = grind (arith, nat_tests)

    above : (m n : ℕ) → ltb m n ≡ false → n ≤ m
    above m n e = grind (arith, nat_tests)

    by : (b : Bool) → (b ≡ true → byte_in byte text < length text) → (b ≡ false → length text ≤ byte_in byte text)
        → MatchOption (cond b (Some (byte_in byte text)) None) (byte_in byte text ≡ length text) (λ end. (end ≡ byte_in byte text) × (end < length text))
    by true f g = (refl, f refl)
    by false f g = let h = g refl in omega (arith, byte_within byte text)

-- a text falls into what stands before a byte, the byte, and what follows
pub byte_splits : (byte : ℕ) (text : List ℕ) → byte_in byte text < length text → text ≡ take (byte_in byte text) text ++ byte ∷ drop (byte_in byte text + 1) text
byte_splits byte [] h = absurd (omega arith)
byte_splits byte (b ∷ bs) h = by (eqb b byte) (λ e. same b byte e) (byte_splits byte bs) h
  where
    same : (a b : ℕ) → eqb a b ≡ true → a ≡ b
    same a b e = grind (arith, nat_tests)

    by : (t : Bool) → (t ≡ true → b ≡ byte) → (byte_in byte bs < length bs → bs ≡ take (byte_in byte bs) bs ++ byte ∷ drop (byte_in byte bs + 1) bs) → cond t 0 (1 + byte_in byte bs) < suc (length bs)
        → b ∷ bs ≡ take (cond t 0 (1 + byte_in byte bs)) (b ∷ bs) ++ byte ∷ drop (cond t 0 (1 + byte_in byte bs) + 1) (b ∷ bs)
    by true e f h = ap (λ c. c ∷ bs) (e refl)
    by false e f h =
        let p = f (omega arith) in
        let q : 1 + byte_in byte bs ≡ suc (byte_in byte bs) = omega arith in
        let r : suc (byte_in byte bs) + 1 ≡ suc (byte_in byte bs + 1) = omega arith in
        rw (q, r) (ap (λ l. b ∷ l) p)

-- a text without a byte
abbrev pub lacks : ℕ → List ℕ → Bool
lacks byte [] = true
lacks byte (b ∷ bs) = cond (eqb b byte) false (lacks byte bs)

pub lacks_append : (byte : ℕ) (xs ys : List ℕ) → lacks byte xs ≡ true → lacks byte ys ≡ true → lacks byte (xs ++ ys) ≡ true
lacks_append byte [] ys e f = f
lacks_append byte (x ∷ xs) ys e f = by (eqb x byte) (λ g. lacks_append byte xs ys g f) e
  where
    by : (t : Bool) → (lacks byte xs ≡ true → lacks byte (xs ++ ys) ≡ true) → cond t false (lacks byte xs) ≡ true → cond t false (lacks byte (xs ++ ys)) ≡ true
    by true g e = e
    by false g e = g e

-- a byte behind a text without it
pub byte_behind : (byte : ℕ) (text rest : List ℕ) → lacks byte text ≡ true → length text ≡ byte_in byte (text ++ byte ∷ rest)
byte_behind byte [] rest e = let t : eqb byte byte ≡ true = grind (arith, nat_tests) in rw t
byte_behind byte (b ∷ bs) rest e = by (eqb b byte) (byte_behind byte bs rest) e
  where
    by : (t : Bool) → (lacks byte bs ≡ true → length bs ≡ byte_in byte (bs ++ byte ∷ rest)) → cond t false (lacks byte bs) ≡ true → suc (length bs) ≡ cond t 0 (1 + byte_in byte (bs ++ byte ∷ rest))
    by true g e = let z : ◌≡◌ {A = ℕ} 0 1 = cc in absurd (omega arith)
    by false g e = let h = g e in omega arith
