-- Words led through the rules, one after the other.
use Rattle.std.proofs.Common.{◌≡◌, ℕ, suc, ◌+◌, ◌<◌, ◌≤◌, Bool, true, false, cond, ltb, List, [], ◌∷◌, ◌++◌, length, Some, None, Ok, Err, Option, Result, sym, refl, ap, ◌∙◌, add-zero, arith}
use Rattle.std.proofs.lemmas.Bool.Decides.{nat_tests}
use Rattle.std.proofs.lemmas.List.{append-nil, append_assoc}
use Rattle.instructions.specs.declared.instruction.Instruction.{Instruction}
use Rattle.instructions.specs.Words.{instruction_of}
use Rattle.instructions.specs.Depth.{opened, opened_if}
use Rattle.programs.specs.declared.checker.State.{State}
use Rattle.programs.specs.declared.checker.State.TheVariants.{Begun, Opened, Joining, Stored}
use Rattle.programs.specs.declared.fault.RuleFault.{RuleFault}
use Rattle.programs.specs.declared.fault.RuleFault.TheVariants.{TooDeep, TooManyRungs, TooLong}
use Rattle.programs.specs.Rules.{Place, start, next, starts_rung, counted, step_to, step_if, onward, led, state_code, same_place, led_to, lead_to, concluded, judged_at, accepted, keeps}
use Rattle.programs.specs.Counts.{starts_if, open_after, start_at, starts_from}

-- words after words
pub led-append : (now : Result Place RuleFault) (xs ys : List ℕ) → led now (xs ++ ys) ≡ led (led now xs) ys
led-append now [] ys = refl
led-append now (x ∷ xs) ys = led-append (onward now x) xs ys

-- what is refused stays refused
pub led_refused : (e : RuleFault) (xs : List ℕ) → led (Err e) xs ≡ Err e
led_refused e [] = refl
led_refused e (x ∷ xs) = led_refused e xs

-- words that keep the rules, and words that lead on from there to where a program may end
pub keeps-append : (xs ys : List ℕ) (p q : Place) → led (Ok start) xs ≡ Ok p → led (Ok p) ys ≡ Ok q → concluded q ≡ Ok tt → keeps (xs ++ ys) ≡ true
keeps-append xs ys p q e f h = ap (λ r. accepted (judged_at r)) (led-append (Ok start) xs ys ∙ ap (λ r. led r ys) e ∙ f) ∙ ap accepted h

-- words that lead to a place
state_is : (s t : State) → state_code s ≡ state_code t → s ≡ t
state_is Begun Begun e = refl
state_is Begun Opened e = absurd (omega arith)
state_is Begun Joining e = absurd (omega arith)
state_is Begun Stored e = absurd (omega arith)
state_is Opened Begun e = absurd (omega arith)
state_is Opened Opened e = refl
state_is Opened Joining e = absurd (omega arith)
state_is Opened Stored e = absurd (omega arith)
state_is Joining Begun e = absurd (omega arith)
state_is Joining Opened e = absurd (omega arith)
state_is Joining Joining e = refl
state_is Joining Stored e = absurd (omega arith)
state_is Stored Begun e = absurd (omega arith)
state_is Stored Opened e = absurd (omega arith)
state_is Stored Joining e = absurd (omega arith)
state_is Stored Stored e = refl

same-is : (p q : Place) → same_place p q ≡ true → p ≡ q
same-is p q e =
    let a : state_code p.state ≡ state_code q.state = grind (arith, nat_tests) in
    let s = state_is p.state q.state a in
    let b : p.brackets ≡ q.brackets = grind (arith, nat_tests) in
    let r : p.rungs ≡ q.rungs = grind (arith, nat_tests) in
    let w : p.words ≡ q.words = grind (arith, nat_tests) in
    λ j. record { state = s j; brackets = b j; rungs = r j; words = w j }

is_same : (p : Place) → same_place p p ≡ true
is_same p = grind (arith, nat_tests)

pub led_from_leads : (words : List ℕ) (p : Place) → lead_to words p ≡ true → led (Ok start) words ≡ Ok p
led_from_leads words p = by (led (Ok start) words)
  where
    by : (r : Result Place RuleFault) → led_to r p ≡ true → r ≡ Ok p
    by (Ok q) e = ap Ok (same-is q p e)
    by (Err x) e = let f : ◌≡◌ {A = ℕ} 0 1 = cc in absurd (omega arith)

pub leads_from_led : (words : List ℕ) (p : Place) → led (Ok start) words ≡ Ok p → lead_to words p ≡ true
leads_from_led words p e = ap (λ r. led_to r p) e ∙ is_same p

-- what an allowed word counts
pub record Stepped (p : Place) (i : Option Instruction) (q : Place) : Type 0 where
  pub room : p.words < 4096
  pub words : q.words ≡ p.words + 1
  pub brackets : q.brackets ≡ opened_if p.brackets i
  pub rungs : q.rungs ≡ cond (starts_if p.brackets i) (p.rungs + 1) p.rungs
  pub shallow : q.brackets ≤ 15
  pub few : q.rungs ≤ 128

record Within (p : Place) (n r : ℕ) (q : Place) : Type 0 where
  room : p.words < 4096
  words : q.words ≡ p.words + 1
  brackets : q.brackets ≡ n
  rungs : q.rungs ≡ r
  shallow : q.brackets ≤ 15
  few : q.rungs ≤ 128

not_above : (k n : ℕ) → ltb k n ≡ false → n ≤ k
not_above k n e = grind (arith, nat_tests)

within : (p : Place) (s : State) (n r : ℕ) (q : Place) → counted p s n r ≡ Ok q → Within p n r q
within p s n r q = by (ltb 15 n) (ltb 128 r) (ltb 4095 p.words) (not_above 15 n) (not_above 128 r) (not_above 4095 p.words)
  where
    by : (a b c : Bool) → (a ≡ false → n ≤ 15) → (b ≡ false → r ≤ 128) → (c ≡ false → p.words ≤ 4095)
        → cond a (Err TooDeep) (cond b (Err TooManyRungs) (cond c (Err TooLong) (Ok (record { state = s; brackets = n; rungs = r; words = p.words + 1 })))) ≡ Ok q → Within p n r q
    by true b c x y z e = let f : ◌≡◌ {A = ℕ} 0 1 = cc in absurd (omega arith)
    by false true c x y z e = let f : ◌≡◌ {A = ℕ} 0 1 = cc in absurd (omega arith)
    by false false true x y z e = let f : ◌≡◌ {A = ℕ} 0 1 = cc in absurd (omega arith)
    by false false false x y z e =
        let f : ◌≡◌ {A = Place} (record { state = s; brackets = n; rungs = r; words = p.words + 1 }) q = cc in
        let l = x refl in
        let g = y refl in
        let h = z refl in
        let b = ap (λ p. p.brackets) f in
        let m = ap (λ p. p.rungs) f in
        let w = ap (λ p. p.words) f in
        record { room = omega arith; words = sym w; brackets = sym b; rungs = sym m; shallow = omega arith; few = omega arith }

stepped_to : (p : Place) (i : Instruction) (s : Option State) (q : Place) → step_to p i s ≡ Ok q → Within p (opened p.brackets i) (cond (starts_rung p.brackets i) (p.rungs + 1) p.rungs) q
stepped_to p i None q e = let f : ◌≡◌ {A = ℕ} 0 1 = cc in absurd (omega arith)
stepped_to p i (Some s) q e = within p s _ _ q e

stepped_if : (p q : Place) (i : Option Instruction) → step_if p i ≡ Ok q → Stepped p i q
stepped_if p q None e = let f : ◌≡◌ {A = ℕ} 0 1 = cc in absurd (omega arith)
stepped_if p q (Some i) e =
    let w = stepped_to p i (next p.state p.brackets i) q e in
    record { room = w.room; words = w.words; brackets = w.brackets; rungs = w.rungs; shallow = w.shallow; few = w.few }

pub stepped : (p q : Place) (word : ℕ) → onward (Ok p) word ≡ Ok q → Stepped p (instruction_of word) q
stepped p q word e = stepped_if p q (instruction_of word) e

-- how many brackets are open after words
abbrev pub opens : ℕ → List ℕ → ℕ
opens n [] = n
opens n (word ∷ words) = opens (open_after n word) words

-- what allowed words count
pub record Passed (p : Place) (words : List ℕ) (q : Place) : Type 0 where
  pub words_are : q.words ≡ p.words + length words
  pub brackets_are : q.brackets ≡ opens p.brackets words

pub passed : (p q : Place) (words : List ℕ) → led (Ok p) words ≡ Ok q → Passed p words q
passed p q [] e =
    let f : p ≡ q = cc in
    let w = ap (λ p. p.words) f in
    record { words_are = omega arith; brackets_are = sym (ap (λ p. p.brackets) f) }
passed p q (word ∷ words) e = by (onward (Ok p) word) (λ m. stepped p m word) (λ m. passed m q words) e
  where
    by : (r : Result Place RuleFault) → ((m : Place) → r ≡ Ok m → Stepped p (instruction_of word) m) → ((m : Place) → led (Ok m) words ≡ Ok q → Passed m words q) → led r words ≡ Ok q → Passed p (word ∷ words) q
    by (Err x) f g e = let h = led_refused x words in let z : ◌≡◌ {A = ℕ} 0 1 = cc in absurd (omega arith)
    by (Ok m) f g e =
        let s = f m refl in
        let t = g m e in
        let a = s.words in
        let b = t.words_are in
        record { words_are = omega arith; brackets_are = t.brackets_are ∙ ap (λ n. opens n words) s.brackets }

-- where a rung starts, one word more
pub starts_push : (at n : ℕ) (words : List ℕ) (word : ℕ) → starts_from at n (words ++ word ∷ []) ≡ starts_from at n words ++ start_at (at + length words) (opens n words) word
starts_push at n [] word = append-nil (start_at at n word) ∙ ap (λ k. start_at k n word) (sym (add-zero at))
starts_push at n (w ∷ words) word =
    let e : at + 1 + length words ≡ at + suc (length words) = omega arith in
    ap (λ l. start_at at n w ++ l) (starts_push (at + 1) (open_after n w) words word ∙ ap (λ k. starts_from (at + 1) (open_after n w) words ++ start_at k (opens (open_after n w) words) word) e)
    ∙ sym (append_assoc (start_at at n w) (starts_from (at + 1) (open_after n w) words) (start_at (at + suc (length words)) (opens (open_after n w) words) word))
