-- Words behind words: what they lead to, count and start, and a rung behind a program.
use Rattle.std.proofs.Common.{◌≡◌, ℕ, suc, ◌+◌, ◌<◌, ◌≤◌, max, Bool, true, false, cond, ◌&&◌, eqb, ltb, List, [], ◌∷◌, ◌++◌, length, Some, None, Ok, Err, Option, Result, sym, refl, ap, ◌∙◌, add-zero, arith}
use Rattle.std.proofs.lemmas.Bool.Decides.{nat_tests}
use Rattle.std.proofs.lemmas.List.{append_assoc}
use Rattle.instructions.specs.declared.instruction.Instruction.{Instruction}
use Rattle.instructions.specs.declared.instruction.Instruction.TheVariants.{Load, LoadNot, And, AndNot, Or, OrNot, AndOpen, OrOpen, Close, Store, StoreNot, Set, Reset}
use Rattle.instructions.specs.Words.{instruction_of}
use Rattle.instructions.specs.Depth.{opened, opened_if, deepest, depth}
use Rattle.instructions.proofs.Deepest.{deepest-from}
use Rattle.programs.specs.declared.checker.State.{State}
use Rattle.programs.specs.declared.checker.State.TheVariants.{Begun, Opened, Joining, Stored}
use Rattle.programs.specs.declared.fault.RuleFault.{RuleFault}
use Rattle.programs.specs.declared.fault.RuleFault.TheVariants.{TooDeep, TooManyRungs, TooLong, Unfinished}
use Rattle.programs.specs.Rules.{Place, start, loads, joins, ends, drives, when, next, starts_rung, counted, step_to, step_if, onward, led, judged_at, accepted, keeps}
use Rattle.programs.specs.Counts.{starts_if, open_after, start_at, starts_from, Cut, cut_at, cut, rungs_of}
use Rattle.programs.specs.Passing.{pass_to, pass, passes, Standing, RuleLaws}
use Rattle.programs.proofs.Rules.{led_refused, keeps-append, opens, passed, Stepped, stepped}

-- how many rungs words start
abbrev pub started : ℕ → List ℕ → ℕ
started n [] = 0
started n (word ∷ words) = cond (starts_if n (instruction_of word)) 1 0 + started (open_after n word) words

pub length_starts : (at n : ℕ) (words : List ℕ) → length (starts_from at n words) ≡ started n words
length_starts at n [] = refl
length_starts at n (word ∷ words) = by (starts_if n (instruction_of word)) (length_starts (at + 1) (open_after n word) words)
  where
    by : (b : Bool) → length (starts_from (at + 1) (open_after n word) words) ≡ started (open_after n word) words → length (cond b (at ∷ []) [] ++ starts_from (at + 1) (open_after n word) words) ≡ cond b 1 0 + started (open_after n word) words
    by true e = omega arith
    by false e = omega arith

-- words after words: open brackets, depth, starts
pub opens_append : (n : ℕ) (xs ys : List ℕ) → opens n (xs ++ ys) ≡ opens (opens n xs) ys
opens_append n [] ys = refl
opens_append n (x ∷ xs) ys = opens_append (open_after n x) xs ys

pub deepest-append : (n : ℕ) (xs ys : List ℕ) → deepest n (xs ++ ys) ≡ max (deepest n xs) (deepest (opens n xs) ys)
deepest-append n [] ys = let h = deepest-from n ys in omega arith
deepest-append n (x ∷ xs) ys = let h = deepest-append (open_after n x) xs ys in omega arith

pub started_append : (n : ℕ) (xs ys : List ℕ) → started n (xs ++ ys) ≡ started n xs + started (opens n xs) ys
started_append n [] ys = omega arith
started_append n (x ∷ xs) ys = let h = started_append (open_after n x) xs ys in omega arith

pub starts_append : (at n : ℕ) (xs ys : List ℕ) → starts_from at n (xs ++ ys) ≡ starts_from at n xs ++ starts_from (at + length xs) (opens n xs) ys
starts_append at n [] ys = ap (λ k. starts_from k n ys) (sym (add-zero at))
starts_append at n (x ∷ xs) ys =
    let e : at + 1 + length xs ≡ at + suc (length xs) = omega arith in
    ap (λ l. start_at at n x ++ l) (starts_append (at + 1) (open_after n x) xs ys ∙ ap (λ k. starts_from (at + 1) (open_after n x) xs ++ starts_from k (opens (open_after n x) xs) ys) e)
    ∙ sym (append_assoc (start_at at n x) (starts_from (at + 1) (open_after n x) xs) (starts_from (at + suc (length xs)) (opens (open_after n x) xs) ys))

-- words cut into rungs, before words whose first starts a rung
pub cut-append : (n : ℕ) (xs : List ℕ) (y : ℕ) (ys : List ℕ) → starts_if (opens n xs) (instruction_of y) ≡ true → cut n (xs ++ y ∷ ys) ≡ record { front = (cut n xs).front; rungs = (cut n xs).rungs ++ (cut (opens n xs) (y ∷ ys)).rungs }
cut-append n [] y ys e = by (starts_if n (instruction_of y)) e (cut (open_after n y) ys)
  where
    by : (b : Bool) → b ≡ true → (c : Cut) → cut_at b y c ≡ record { front = []; rungs = (cut_at b y c).rungs }
    by true e c = refl
    by false e c = let z : ◌≡◌ {A = ℕ} 0 1 = cc in absurd (omega arith)
cut-append n (x ∷ xs) y ys e =
    ap (cut_at (starts_if n (instruction_of x)) x) (cut-append (open_after n x) xs y ys e)
    ∙ by (starts_if n (instruction_of x)) (cut (open_after n x) xs) (cut (opens (open_after n x) xs) (y ∷ ys)).rungs
  where
    by : (b : Bool) (c : Cut) (more : List (List ℕ)) → cut_at b x (record { front = c.front; rungs = c.rungs ++ more }) ≡ record { front = (cut_at b x c).front; rungs = (cut_at b x c).rungs ++ more }
    by true c more = refl
    by false c more = refl

-- words that start no rung are not cut
uncut : (n : ℕ) (words : List ℕ) → started n words ≡ 0 → cut n words ≡ record { front = words; rungs = [] }
uncut n [] h = refl
uncut n (word ∷ words) h = by (starts_if n (instruction_of word)) (uncut (open_after n word) words) h
  where
    by : (b : Bool) → (started (open_after n word) words ≡ 0 → cut (open_after n word) words ≡ record { front = words; rungs = [] }) → cond b 1 0 + started (open_after n word) words ≡ 0
        → cut_at b word (cut (open_after n word) words) ≡ record { front = word ∷ words; rungs = [] }
    by true f h = absurd (omega arith)
    by false f h = ap (cut_at false word) (f (omega arith))

-- one rung more behind words whose brackets are closed
pub rungs_push : (xs : List ℕ) (y : ℕ) (ys : List ℕ) → opens 0 xs ≡ 0 → starts_if 0 (instruction_of y) ≡ true → started (open_after 0 y) ys ≡ 0 → rungs_of (xs ++ y ∷ ys) ≡ rungs_of xs ++ (y ∷ ys) ∷ []
rungs_push xs y ys o e f =
    ap (λ c. c.rungs) (cut-append 0 xs y ys (ap (λ n. starts_if n (instruction_of y)) o ∙ e))
    ∙ ap (λ n. rungs_of xs ++ (cut n (y ∷ ys)).rungs) o
    ∙ ap (λ l. rungs_of xs ++ l) (one (starts_if 0 (instruction_of y)) e)
  where
    one : (b : Bool) → b ≡ true → (cut_at b y (cut (open_after 0 y) ys)).rungs ≡ (y ∷ ys) ∷ []
    one true e = ap (λ c. (y ∷ c.front) ∷ c.rungs) (uncut (open_after 0 y) ys f)
    one false e = let z : ◌≡◌ {A = ℕ} 0 1 = cc in absurd (omega arith)

-- words that pass, after words that pass
pub passes_append : (now : Option (State × ℕ)) (xs ys : List ℕ) → passes now (xs ++ ys) ≡ passes (passes now xs) ys
passes_append now [] ys = refl
passes_append now (x ∷ xs) ys = passes_append (pass now (instruction_of x)) xs ys

passes_none : (words : List ℕ) → passes None words ≡ None
passes_none [] = refl
passes_none (word ∷ words) = passes_none words

counted_ok : (p : Place) (s : State) (n r : ℕ) → n ≤ 15 → r ≤ 128 → p.words < 4096 → counted p s n r ≡ Ok (record { state = s; brackets = n; rungs = r; words = p.words + 1 })
counted_ok p s n r a b c =
    let x : ltb 15 n ≡ false = grind (arith, nat_tests) in
    let y : ltb 128 r ≡ false = grind (arith, nat_tests) in
    let z : ltb 4095 p.words ≡ false = grind (arith, nat_tests) in
    rw (x, y, z)

-- where words lead that pass and stay within the limits
abbrev pub passed_to : Place → List ℕ → State → ℕ → Place
passed_to p words s n = record { state = s; brackets = n; rungs = p.rungs + started p.brackets words; words = p.words + length words }

more_rungs : (b : Bool) (r k : ℕ) → cond b (r + 1) r + k ≡ r + (cond b 1 0 + k)
more_rungs true r k = omega arith
more_rungs false r k = omega arith

-- words that pass, within 15 brackets, 128 rungs and 4,096 words, lead on
pub led-passes : (words : List ℕ) (p : Place) (s : State) (n : ℕ) → passes (Some (p.state, p.brackets)) words ≡ Some (s, n) → deepest p.brackets words ≤ 15 → p.rungs + started p.brackets words ≤ 128 → p.words + length words ≤ 4096 → led (Ok p) words ≡ Ok (passed_to p words s n)
led-passes [] p s n e d r l =
    let q : ◌≡◌ {A = State × ℕ} (p.state, p.brackets) (s, n) = cc in
    let a : p.rungs ≡ p.rungs + 0 = omega arith in
    let b : p.words ≡ p.words + 0 = omega arith in
    (λ j. Ok (record { state = (q j).0; brackets = (q j).1; rungs = a j; words = b j }))
led-passes (word ∷ words) p s n e d r l = said (instruction_of word) e (omega arith) r l (λ q. led-passes words q s n)
  where
    On : Type 0
    On = (q : Place) → passes (Some (q.state, q.brackets)) words ≡ Some (s, n) → deepest q.brackets words ≤ 15 → q.rungs + started q.brackets words ≤ 128 → q.words + length words ≤ 4096 → led (Ok q) words ≡ Ok (passed_to q words s n)

    stood : (i : Instruction) (t : Option State) → passes (pass_to p.brackets i t) words ≡ Some (s, n) → deepest (opened p.brackets i) words ≤ 15 → p.rungs + (cond (starts_rung p.brackets i) 1 0 + started (opened p.brackets i) words) ≤ 128 → p.words + suc (length words) ≤ 4096 → On
        → led (step_to p i t) words ≡ Ok (record { state = s; brackets = n; rungs = p.rungs + (cond (starts_rung p.brackets i) 1 0 + started (opened p.brackets i) words); words = p.words + suc (length words) })
    stood i None e d r l on = let f = passes_none words in let z : ◌≡◌ {A = ℕ} 0 1 = cc in absurd (omega arith)
    stood i (Some t) e d r l on =
        let m = opened p.brackets i in
        let rungs = cond (starts_rung p.brackets i) (p.rungs + 1) p.rungs in
        let more = more_rungs (starts_rung p.brackets i) p.rungs (started m words) in
        let low = deepest-from m words in
        let w : p.words + 1 + length words ≡ p.words + suc (length words) = omega arith in
        ap (λ x. led x words) (counted_ok p t m rungs (omega arith) (omega arith) (omega arith))
        ∙ on (record { state = t; brackets = m; rungs = rungs; words = p.words + 1 }) e d (omega arith) (omega arith)
        ∙ (λ j. Ok (record { state = s; brackets = n; rungs = more j; words = w j }))

    said : (o : Option Instruction) → passes (pass (Some (p.state, p.brackets)) o) words ≡ Some (s, n) → deepest (opened_if p.brackets o) words ≤ 15 → p.rungs + (cond (starts_if p.brackets o) 1 0 + started (opened_if p.brackets o) words) ≤ 128 → p.words + suc (length words) ≤ 4096 → On
        → led (step_if p o) words ≡ Ok (record { state = s; brackets = n; rungs = p.rungs + (cond (starts_if p.brackets o) 1 0 + started (opened_if p.brackets o) words); words = p.words + suc (length words) })
    said None e d r l on = let f = passes_none words in let z : ◌≡◌ {A = ℕ} 0 1 = cc in absurd (omega arith)
    said (Some i) e d r l on = stood i (next p.state p.brackets i) e d r l on

-- the rungs of words that were led on
pub rungs_passed : (p q : Place) (words : List ℕ) → led (Ok p) words ≡ Ok q → q.rungs ≡ p.rungs + started p.brackets words
rungs_passed p q [] e = let f : p ≡ q = cc in let r = ap (λ x. x.rungs) f in omega arith
rungs_passed p q (word ∷ words) e = by (onward (Ok p) word) (λ m. stepped p m word) (λ m. rungs_passed m q words) e
  where
    by : (r : Result Place RuleFault) → ((m : Place) → r ≡ Ok m → Stepped p (instruction_of word) m) → ((m : Place) → led (Ok m) words ≡ Ok q → q.rungs ≡ m.rungs + started m.brackets words) → led r words ≡ Ok q
        → q.rungs ≡ p.rungs + (cond (starts_if p.brackets (instruction_of word)) 1 0 + started (open_after p.brackets word) words)
    by (Err x) f g e = let h = led_refused x words in let z : ◌≡◌ {A = ℕ} 0 1 = cc in absurd (omega arith)
    by (Ok m) f g e =
        let s = f m refl in
        let k = started (open_after p.brackets word) words in
        let b = starts_if p.brackets (instruction_of word) in
        g m e ∙ (λ j. s.rungs j + started (s.brackets j) words) ∙ more_rungs b p.rungs k

-- no bracket is open where a program may end
not_there : {P : Type 0} (b : Bool) (u t : State) → ends u ≡ false → when b u ≡ Some t → ends t ≡ true → P
not_there true u t f e g = let q : u ≡ t = cc in let h = ap ends q in let z : ◌≡◌ {A = ℕ} 0 1 = cc in absurd (omega arith)
not_there false u t f e g = let z : ◌≡◌ {A = ℕ} 0 1 = cc in absurd (omega arith)

shut : (a c : Bool) (n : ℕ) (u t : State) → when (a && eqb n 0 && c) u ≡ Some t → n ≡ 0
shut a c n u t e = by a (eqb n 0) c (zero_is n) e
  where
    zero_is : (n : ℕ) → eqb n 0 ≡ true → n ≡ 0
    zero_is n e = grind (arith, nat_tests)

    by : (a b c : Bool) → (b ≡ true → n ≡ 0) → when (a && b && c) u ≡ Some t → n ≡ 0
    by true true true f e = f refl
    by true true false f e = f refl
    by true false c f e = let z : ◌≡◌ {A = ℕ} 0 1 = cc in absurd (omega arith)
    by false b c f e = let z : ◌≡◌ {A = ℕ} 0 1 = cc in absurd (omega arith)

next_shut : (s : State) (n : ℕ) (i : Instruction) (t : State) → next s n i ≡ Some t → ends t ≡ true → opened n i ≡ 0
next_shut s n (Load x) t e h = not_there _ Joining t refl e h
next_shut s n (LoadNot x) t e h = not_there _ Joining t refl e h
next_shut s n (And x) t e h = not_there _ Joining t refl e h
next_shut s n (AndNot x) t e h = not_there _ Joining t refl e h
next_shut s n (Or x) t e h = not_there _ Joining t refl e h
next_shut s n (OrNot x) t e h = not_there _ Joining t refl e h
next_shut s n AndOpen t e h = not_there _ Opened t refl e h
next_shut s n OrOpen t e h = not_there _ Opened t refl e h
next_shut s n Close t e h = not_there _ Joining t refl e h
next_shut s n (Store x) t e h = shut (joins s) (drives x) n Stored t e
next_shut s n (StoreNot x) t e h = shut (joins s) (drives x) n Stored t e
next_shut s n (Set x) t e h = shut (joins s) (drives x) n Stored t e
next_shut s n (Reset x) t e h = shut (joins s) (drives x) n Stored t e

counted_state : (p : Place) (s : State) (n r : ℕ) (q : Place) → counted p s n r ≡ Ok q → (q.state ≡ s) × (q.brackets ≡ n)
counted_state p s n r q = by (ltb 15 n) (ltb 128 r) (ltb 4095 p.words)
  where
    by : (a b c : Bool) → cond a (Err TooDeep) (cond b (Err TooManyRungs) (cond c (Err TooLong) (Ok (record { state = s; brackets = n; rungs = r; words = p.words + 1 })))) ≡ Ok q → (q.state ≡ s) × (q.brackets ≡ n)
    by true b c e = let f : ◌≡◌ {A = ℕ} 0 1 = cc in absurd (omega arith)
    by false true c e = let f : ◌≡◌ {A = ℕ} 0 1 = cc in absurd (omega arith)
    by false false true e = let f : ◌≡◌ {A = ℕ} 0 1 = cc in absurd (omega arith)
    by false false false e =
        let f : ◌≡◌ {A = Place} (record { state = s; brackets = n; rungs = r; words = p.words + 1 }) q = cc in
        (sym (ap (λ p. p.state) f), sym (ap (λ p. p.brackets) f))

onward_shut : (p q : Place) (o : Option Instruction) → step_if p o ≡ Ok q → ends q.state ≡ true → q.brackets ≡ 0
onward_shut p q None e h = let f : ◌≡◌ {A = ℕ} 0 1 = cc in absurd (omega arith)
onward_shut p q (Some i) e h = by (next p.state p.brackets i) (next_shut p.state p.brackets i) e
  where
    by : (t : Option State) → ((u : State) → t ≡ Some u → ends u ≡ true → opened p.brackets i ≡ 0) → step_to p i t ≡ Ok q → q.brackets ≡ 0
    by None f e = let g : ◌≡◌ {A = ℕ} 0 1 = cc in absurd (omega arith)
    by (Some u) f e =
        let c = counted_state p u _ _ q e in
        c.1 ∙ f u refl (ap ends (sym c.0) ∙ h)

pub ended_closed : (p q : Place) (words : List ℕ) → (ends p.state ≡ true → p.brackets ≡ 0) → led (Ok p) words ≡ Ok q → ends q.state ≡ true → q.brackets ≡ 0
ended_closed p q [] k e h =
    let f : p ≡ q = cc in
    let b = ap (λ x. x.brackets) f in
    let c = k (ap (λ x. ends x.state) f ∙ h) in
    omega arith
ended_closed p q (word ∷ words) k e h = by (onward (Ok p) word) (λ m. onward_shut p m (instruction_of word)) (λ m k' e'. ended_closed m q words k' e' h) e
  where
    by : (r : Result Place RuleFault) → ((m : Place) → r ≡ Ok m → ends m.state ≡ true → m.brackets ≡ 0) → ((m : Place) → (ends m.state ≡ true → m.brackets ≡ 0) → led (Ok m) words ≡ Ok q → q.brackets ≡ 0) → led r words ≡ Ok q → q.brackets ≡ 0
    by (Err x) f g e = let i = led_refused x words in let z : ◌≡◌ {A = ℕ} 0 1 = cc in absurd (omega arith)
    by (Ok m) f g e = g m (f m refl) e

loading : (s : State) → ends s ≡ true → loads s ≡ true
loading Begun e = refl
loading Opened e = let z : ◌≡◌ {A = ℕ} 0 1 = cc in absurd (omega arith)
loading Joining e = let z : ◌≡◌ {A = ℕ} 0 1 = cc in absurd (omega arith)
loading Stored e = refl

-- a rung may come wherever a program may end
first_load : (s : State) (o : Option Instruction) → ends s ≡ true → starts_if 0 o ≡ true → pass (Some (s, 0)) o ≡ pass (Some (Begun, 0)) o
first_load s None h e = let z : ◌≡◌ {A = ℕ} 0 1 = cc in absurd (omega arith)
first_load s (Some (Load x)) h e = ap (pass_to 0 (Load x)) (ap (λ b. when b Joining) (loading s h))
first_load s (Some (LoadNot x)) h e = ap (pass_to 0 (LoadNot x)) (ap (λ b. when b Joining) (loading s h))
first_load s (Some (And x)) h e = let z : ◌≡◌ {A = ℕ} 0 1 = cc in absurd (omega arith)
first_load s (Some (AndNot x)) h e = let z : ◌≡◌ {A = ℕ} 0 1 = cc in absurd (omega arith)
first_load s (Some (Or x)) h e = let z : ◌≡◌ {A = ℕ} 0 1 = cc in absurd (omega arith)
first_load s (Some (OrNot x)) h e = let z : ◌≡◌ {A = ℕ} 0 1 = cc in absurd (omega arith)
first_load s (Some AndOpen) h e = let z : ◌≡◌ {A = ℕ} 0 1 = cc in absurd (omega arith)
first_load s (Some OrOpen) h e = let z : ◌≡◌ {A = ℕ} 0 1 = cc in absurd (omega arith)
first_load s (Some Close) h e = let z : ◌≡◌ {A = ℕ} 0 1 = cc in absurd (omega arith)
first_load s (Some (Store x)) h e = let z : ◌≡◌ {A = ℕ} 0 1 = cc in absurd (omega arith)
first_load s (Some (StoreNot x)) h e = let z : ◌≡◌ {A = ℕ} 0 1 = cc in absurd (omega arith)
first_load s (Some (Set x)) h e = let z : ◌≡◌ {A = ℕ} 0 1 = cc in absurd (omega arith)
first_load s (Some (Reset x)) h e = let z : ◌≡◌ {A = ℕ} 0 1 = cc in absurd (omega arith)

-- words that keep the rules, and one rung more: it starts with a load, passes from begun to stored with its brackets closed, and stays within the limits
pub keeps_rung : (xs : List ℕ) (y : ℕ) (ys : List ℕ) → keeps xs ≡ true → starts_if 0 (instruction_of y) ≡ true → passes (Some (Begun, 0)) (y ∷ ys) ≡ Some (Stored, 0) →
    depth (y ∷ ys) ≤ 15 → started 0 xs + started 0 (y ∷ ys) ≤ 128 → length xs + length (y ∷ ys) ≤ 4096 → keeps (xs ++ y ∷ ys) ≡ true
keeps_rung xs y ys k f e d r l = by (led (Ok start) xs) refl k
  where
    from : (p : Place) → led (Ok start) xs ≡ Ok p → ends p.state ≡ true → keeps (xs ++ y ∷ ys) ≡ true
    from p a h =
        let b = ended_closed start p xs (λ _. refl) a h in
        let c = passed start p xs a in
        let w = c.words_are in
        let rungs = rungs_passed start p xs a in
        let there : passes (Some (p.state, p.brackets)) (y ∷ ys) ≡ Some (Stored, 0) =
        ap (λ n. passes (Some (p.state, n)) (y ∷ ys)) b ∙ ap (λ t. passes t ys) (first_load p.state (instruction_of y) h f) ∙ e in
        let deep : deepest p.brackets (y ∷ ys) ≤ 15 = omega (arith, ap (λ n. deepest n (y ∷ ys)) b) in
        let some : p.rungs + started p.brackets (y ∷ ys) ≤ 128 = omega (arith, ap (λ n. started n (y ∷ ys)) b) in
        keeps-append xs (y ∷ ys) p _ a (led-passes (y ∷ ys) p Stored 0 there deep some (omega arith)) refl

    ok : (p : Place) → led (Ok start) xs ≡ Ok p → (t : Bool) → ends p.state ≡ t → accepted {X = Unit {0}} (cond t (Ok tt) (Err Unfinished)) ≡ true → keeps (xs ++ y ∷ ys) ≡ true
    ok p a true h k = from p a h
    ok p a false h k = let z : ◌≡◌ {A = ℕ} 0 1 = cc in absurd (omega arith)

    by : (s : Result Place RuleFault) → led (Ok start) xs ≡ s → accepted (judged_at s) ≡ true → keeps (xs ++ y ∷ ys) ≡ true
    by (Ok p) a k = ok p a (ends p.state) refl k
    by (Err x) a k = let z : ◌≡◌ {A = ℕ} 0 1 = cc in absurd (omega arith)

-- words that were led on have passed
pub passes-led : (p q : Place) (words : List ℕ) → led (Ok p) words ≡ Ok q → passes (Some (p.state, p.brackets)) words ≡ Some (q.state, q.brackets)
passes-led p q [] e = let f : p ≡ q = cc in ap (λ x. Some (x.state, x.brackets)) f
passes-led p q (word ∷ words) e = said (instruction_of word) e (λ m. passes-led m q words)
  where
    refused : {P : Type 0} (x : RuleFault) → led (Err x) words ≡ Ok q → P
    refused x e = let h = led_refused x words in let z : ◌≡◌ {A = ℕ} 0 1 = cc in absurd (omega arith)

    On : Type 0
    On = (m : Place) → led (Ok m) words ≡ Ok q → passes (Some (m.state, m.brackets)) words ≡ Some (q.state, q.brackets)

    counts : (u : State) (n : ℕ) (r : Result Place RuleFault) → ((m : Place) → r ≡ Ok m → (m.state ≡ u) × (m.brackets ≡ n)) → led r words ≡ Ok q → On → passes (Some (u, n)) words ≡ Some (q.state, q.brackets)
    counts u n (Err x) f e on = refused x e
    counts u n (Ok m) f e on = let c = f m refl in (λ j. passes (Some (sym c.0 j, sym c.1 j)) words) ∙ on m e

    stood : (i : Instruction) (t : Option State) → led (step_to p i t) words ≡ Ok q → On → passes (pass_to p.brackets i t) words ≡ Some (q.state, q.brackets)
    stood i None e on = refused _ e
    stood i (Some u) e on = counts u (opened p.brackets i) (step_to p i (Some u)) (λ m. counted_state p u _ _ m) e on

    said : (o : Option Instruction) → led (step_if p o) words ≡ Ok q → On → passes (pass (Some (p.state, p.brackets)) o) words ≡ Some (q.state, q.brackets)
    said None e on = refused _ e
    said (Some i) e on = stood i (next p.state p.brackets i) e on

-- and stay within the limits
pub record Limited (p q : Place) (words : List ℕ) : Type 0 where
  pub shallow : deepest p.brackets words ≤ 15
  pub few : q.rungs ≤ 128
  pub short : q.words ≤ 4096

pub limited : (p q : Place) (words : List ℕ) → p.brackets ≤ 15 → p.rungs ≤ 128 → p.words ≤ 4096 → led (Ok p) words ≡ Ok q → Limited p q words
limited p q [] a b c e =
    let f : p ≡ q = cc in
    let r = ap (λ x. x.rungs) f in
    let w = ap (λ x. x.words) f in
    record { shallow = a; few = omega arith; short = omega arith }
limited p q (word ∷ words) a b c e = by (onward (Ok p) word) (λ m. stepped p m word) (λ m. limited m q words) e
  where
    by : (r : Result Place RuleFault) → ((m : Place) → r ≡ Ok m → Stepped p (instruction_of word) m) → ((m : Place) → m.brackets ≤ 15 → m.rungs ≤ 128 → m.words ≤ 4096 → led (Ok m) words ≡ Ok q → Limited m q words) → led r words ≡ Ok q → Limited p q (word ∷ words)
    by (Err x) f g e = let h = led_refused x words in let z : ◌≡◌ {A = ℕ} 0 1 = cc in absurd (omega arith)
    by (Ok m) f g e =
        let s = f m refl in
        let room = s.room in
        let w = s.words in
        let k = g m s.shallow s.few (omega arith) e in
        let d = k.shallow in
        let same = ap (λ n. deepest n words) s.brackets in
        record { shallow = omega arith; few = k.few; short = k.short }

kept : (words : List ℕ) → keeps words ≡ true → Standing words
kept words = by (led (Ok start) words) refl
  where
    ok : (p : Place) → led (Ok start) words ≡ Ok p → (t : Bool) → ends p.state ≡ t → accepted {X = Unit {0}} (cond t (Ok tt) (Err Unfinished)) ≡ true → Standing words
    ok p a true h k =
        let l = limited start p words (omega arith) (omega arith) (omega arith) a in
        let w = (passed start p words a).words_are in
        let r = rungs_passed start p words a in
        let n = length_starts 0 0 words in
        let few = l.few in
        let short = l.short in
        record { state = p.state; brackets = p.brackets; passed = passes-led start p words a; ended = h; shallow = l.shallow; few = omega arith; short = omega arith }
    ok p a false h k = let z : ◌≡◌ {A = ℕ} 0 1 = cc in absurd (omega arith)

    by : (s : Result Place RuleFault) → led (Ok start) words ≡ s → accepted (judged_at s) ≡ true → Standing words
    by (Ok p) a k = ok p a (ends p.state) refl k
    by (Err x) a k = let z : ◌≡◌ {A = ℕ} 0 1 = cc in absurd (omega arith)

keeping : (words : List ℕ) → Standing words → keeps words ≡ true
keeping words k =
    let n = length_starts 0 0 words in
    let few = k.few in
    let short = k.short in
    ap (λ s. accepted (judged_at s)) (led-passes words start k.state k.brackets k.passed k.shallow (omega arith) (omega arith))
    ∙ ap (λ b. accepted (cond b (Ok tt) (Err Unfinished))) k.ended

pub rule_laws : RuleLaws
rule_laws = record { kept = kept; keeping = keeping }
