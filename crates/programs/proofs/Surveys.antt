-- One pass over words finds the rungs and the deepest of them.
use Rattle.std.proofs.Common.{◌≡◌, ℕ, zero, suc, ◌+◌, ◌-◌, ◌<◌, ◌≤◌, max, Bool, true, false, cond, ◌&&◌, eqb, ltb, ◌⊎◌, List, [], ◌∷◌, map, length, get_or, drop, Some, None, Option, sym, refl, ap, ◌∙◌, subst, inl, inr, add-zero, zero-add, add-one, arith}
use Rattle.std.proofs.lemmas.List.{at_drop_more, at_drop_all}
use Rattle.std.proofs.lemmas.Bool.Decides.{nat_tests, leb_tells}
use Rattle.instructions.specs.declared.instruction.Instruction.{Instruction}
use Rattle.instructions.specs.declared.instruction.Instruction.TheVariants.{Load, LoadNot, And, AndNot, Or, OrNot, AndOpen, OrOpen, Close, Store, StoreNot, Set, Reset}
use Rattle.instructions.specs.Words.{instruction_of}
use Rattle.instructions.specs.Depth.{opened_if, deepest, depth}
use Rattle.instructions.proofs.Deepest.{deepest-from, opened_bound}
use Rattle.programs.specs.declared.survey.Survey.{Survey}
use Rattle.programs.specs.Counts.{starts_if, open_after, Cut, cut_at, cut, rungs_of, greatest, place_in, depths, counts}
use Rattle.programs.specs.Surveys.{seen_after}

true_false : true ≡ false → ⊥
true_false e = let z : ◌≡◌ {A = ℕ} 0 1 = cc in omega arith

-- the greatest of numbers and its place, from the greatest so far on
abbrev pub best : ℕ → ℕ → ℕ → List ℕ → ℕ × ℕ
best d f k [] = (d, f)
best d f k (x ∷ xs) = cond (ltb d x) (best x k (suc k) xs) (best d f (suc k) xs)

best_over : (d f k x : ℕ) (xs : List ℕ) → d < x → best d f k (x ∷ xs) ≡ best x k (suc k) xs
best_over d f k x xs h = let t : ltb d x ≡ true = grind (arith, nat_tests) in rw t

best_under : (d f k x : ℕ) (xs : List ℕ) → x ≤ d → best d f k (x ∷ xs) ≡ best d f (suc k) xs
best_under d f k x xs h = let t : ltb d x ≡ false = grind (arith, nat_tests) in rw t

-- a rung that is open may have reached the greatest depth already
best_more : (d f k n m x : ℕ) (xs : List ℕ) → n ≤ d → m ≤ x → best (cond (ltb d m) m d) (cond (ltb d m) k f) k (x ∷ xs) ≡ best d f k (max n x ∷ xs)
best_more d f k n m x xs h g = by (ltb d m) (leb_tells (suc d) m)
  where
    top : (x' : ℕ) → max n x ≡ x' → best d f k (max n x ∷ xs) ≡ best d f k (x' ∷ xs)
    top x' e = ap (λ y. best d f k (y ∷ xs)) e

    new : d < m → (leb-tell : ((ltb m x ≡ true) × (m < x)) ⊎ ((ltb m x ≡ false) × (x < suc m))) → best m k k (x ∷ xs) ≡ best d f k (max n x ∷ xs)
    new l (inl t) = let lt : m < x = t.1 in best_over m k k x xs lt ∙ sym (best_over d f k x xs (omega arith)) ∙ sym (top x (omega arith))
    new l (inr t) =
        let le = t.1 in
        let e : m ≡ x = omega arith in
        best_under m k k x xs (omega arith) ∙ ap (λ y. best y k (suc k) xs) e ∙ sym (best_over d f k x xs (omega arith)) ∙ sym (top x (omega arith))

    old : m ≤ d → (leb-tell : ((ltb d x ≡ true) × (d < x)) ⊎ ((ltb d x ≡ false) × (x < suc d))) → best d f k (x ∷ xs) ≡ best d f k (max n x ∷ xs)
    old l (inl t) = let lt : d < x = t.1 in sym (top x (omega arith))
    old l (inr t) = let le = t.1 in best_under d f k x xs (omega arith) ∙ sym (best_under d f k (max n x) xs (omega arith))

    by : (b : Bool) → ((b ≡ true) × (d < m)) ⊎ ((b ≡ false) × (m < suc d)) → best (cond b m d) (cond b k f) k (x ∷ xs) ≡ best d f k (max n x ∷ xs)
    by true (inl t) = new t.1 (leb_tells (suc m) x)
    by true (inr t) = absurd (true_false t.0)
    by false (inl t) = absurd (true_false (sym t.0))
    by false (inr t) = let l = t.1 in old (omega arith) (leb_tells (suc d) x)

-- the depth and the rung found in the end: so many rungs were started, so many brackets are open, and words are left
abbrev pub found : ℕ → ℕ → ℕ → ℕ → Cut → ℕ × ℕ
found zero n d f c = best d f 0 (map depth c.rungs)
found (suc r) n d f c = best d f r (deepest n c.front ∷ map depth c.rungs)

-- the open brackets of a rung are counted in the greatest depth
abbrev pub Covered : Survey → Type 0
Covered s = 0 < s.rungs → s.brackets ≤ s.depth

-- a load starts a rung where no bracket is open, and opens none
start_flat : (n : ℕ) (i : Option Instruction) → starts_if n i ≡ true → (n ≡ 0) × (opened_if n i ≡ 0)
start_flat n None e = absurd (true_false (sym e))
start_flat n (Some (Load x)) e = let h : n ≡ 0 = grind (arith, nat_tests) in (h, h)
start_flat n (Some (LoadNot x)) e = let h : n ≡ 0 = grind (arith, nat_tests) in (h, h)
start_flat n (Some (And x)) e = absurd (true_false (sym e))
start_flat n (Some (AndNot x)) e = absurd (true_false (sym e))
start_flat n (Some (Or x)) e = absurd (true_false (sym e))
start_flat n (Some (OrNot x)) e = absurd (true_false (sym e))
start_flat n (Some AndOpen) e = absurd (true_false (sym e))
start_flat n (Some OrOpen) e = absurd (true_false (sym e))
start_flat n (Some Close) e = absurd (true_false (sym e))
start_flat n (Some (Store x)) e = absurd (true_false (sym e))
start_flat n (Some (StoreNot x)) e = absurd (true_false (sym e))
start_flat n (Some (Set x)) e = absurd (true_false (sym e))
start_flat n (Some (Reset x)) e = absurd (true_false (sym e))

-- a rung's first word is no bracket
first_flat : (w : ℕ) (ws : List ℕ) (n m : ℕ) → n ≡ 0 → m ≡ open_after n w → depth (w ∷ ws) ≡ deepest m ws
first_flat w ws n m e g =
    let h : deepest m ws ≡ deepest (open_after 0 w) ws = ap (λ k. deepest k ws) (g ∙ ap (λ k. open_after k w) e) in
    omega arith

-- one word more
found_more : (r n d f w : ℕ) (b : Bool) (m : ℕ) (c : Cut) → (b ≡ true → (n ≡ 0) × (m ≡ 0)) → m ≡ open_after n w → (0 < r → n ≤ d) →
    found (cond b (r + 1) r) m (cond (ltb 0 r && ltb d m) m d) (cond (ltb 0 r && ltb d m) (r - 1) f) c ≡ found r n d f (cut_at b w c)
found_more zero n d f w true m c flat e h =
    let a = flat refl in
    ap (λ x. best d f 0 (x ∷ map depth c.rungs)) (sym (first_flat w c.front n m a.0 e))
found_more zero n d f w false m c flat e h = refl
found_more (suc r) n d f w true m c flat e h =
    let a = flat refl in
    let z : m ≡ 0 = a.1 in
    let y : n ≡ 0 = a.0 in
    let t : ltb d m ≡ false = grind (arith, nat_tests) in
    let u : ltb 0 (suc r) ≡ true = grind (arith, nat_tests) in
    let p : best d f (suc r) (deepest m c.front ∷ map depth c.rungs) ≡ best d f (suc r) (depth (w ∷ c.front) ∷ map depth c.rungs) = ap (λ x. best d f (suc r) (x ∷ map depth c.rungs)) (sym (first_flat w c.front n m y e)) in
    rw (t, u, add-one) (p ∙ sym (best_under d f r n (depth (w ∷ c.front) ∷ map depth c.rungs) (omega arith)))
found_more (suc r) n d f w false m c flat e h =
    let k : suc r - 1 ≡ r = omega arith in
    let t : ltb 0 (suc r) ≡ true = grind (arith, nat_tests) in
    let p = best_more d f r n m (deepest m c.front) (map depth c.rungs) (h (omega arith)) (deepest-from m c.front) in
    rw (k, t) (p ∙ ap (λ x. best d f r (max n (deepest x c.front) ∷ map depth c.rungs)) e)

-- a deeper rung comes later
later : (k x g : ℕ) (xs : List ℕ) → x < g → ◌≡◌ {A = ℕ × ℕ} (g, suc k + place_in g xs) (max x g, k + place_in (max x g) (x ∷ xs))
later k x g xs h =
    let m : max x g ≡ g = omega arith in
    let t : eqb x g ≡ false = grind (arith, nat_tests) in
    let e : suc k + place_in g xs ≡ k + place_in g (x ∷ xs) = rw t (omega arith) in
    let on : ℕ → ℕ × ℕ = λ y. (y, k + place_in y (x ∷ xs)) in
    ap (λ p. (g, p)) e ∙ sym (ap on m)

best_low : (d f k : ℕ) (xs : List ℕ) → greatest xs ≤ d → best d f k xs ≡ (d, f)
best_low d f k [] h = refl
best_low d f k (x ∷ xs) h = best_under d f k x xs (omega arith) ∙ best_low d f (suc k) xs (omega arith)

best_high : (d f k : ℕ) (xs : List ℕ) → d < greatest xs → best d f k xs ≡ (greatest xs, k + place_in (greatest xs) xs)
best_high d f k [] h = absurd (omega arith)
best_high d f k (x ∷ xs) h = by (leb_tells (suc d) x) (leb_tells (suc x) (greatest xs)) (λ d f k h. best_high d f k xs h)
  where
    by : ((ltb d x ≡ true) × (d < x)) ⊎ ((ltb d x ≡ false) × (x < suc d)) → ((ltb x (greatest xs) ≡ true) × (x < greatest xs)) ⊎ ((ltb x (greatest xs) ≡ false) × (greatest xs < suc x)) → ((d f k : ℕ) → d < greatest xs → best d f k xs ≡ (greatest xs, k + place_in (greatest xs) xs)) → best d f k (x ∷ xs) ≡ (max x (greatest xs), k + place_in (max x (greatest xs)) (x ∷ xs))
    by (inl t) (inl u) on = best_over d f k x xs t.1 ∙ on x k (suc k) u.1 ∙ later k x (greatest xs) xs u.1
    by (inl t) (inr u) on =
        let l = u.1 in
        let m : max x (greatest xs) ≡ x = omega arith in
        let e : eqb x x ≡ true = grind (arith, nat_tests) in
        let z : k ≡ k + place_in x (x ∷ xs) = rw e (omega arith) in
        let here : ℕ → ℕ × ℕ = λ y. (y, k + place_in y (x ∷ xs)) in
        best_over d f k x xs t.1 ∙ best_low x k (suc k) xs (omega arith) ∙ ap (λ p. (x, p)) z ∙ sym (ap here m)
    by (inr t) (inl u) on = let l = t.1 in let g = u.1 in best_under d f k x xs (omega arith) ∙ on d f (suc k) (omega arith) ∙ later k x (greatest xs) xs u.1
    by (inr t) (inr u) on = let l = t.1 in let g = u.1 in absurd (omega arith)

flat_first : (xs : List ℕ) → greatest xs ≡ 0 → place_in 0 xs ≡ 0
flat_first [] h = refl
flat_first (x ∷ xs) h = let z : x ≡ 0 = omega arith in rw z

-- the greatest of numbers and its place
pub best_all : (xs : List ℕ) → best 0 0 0 xs ≡ (greatest xs, place_in (greatest xs) xs)
best_all xs = by (leb_tells 1 (greatest xs))
  where
    by : {b : Bool} → ((b ≡ true) × (0 < greatest xs)) ⊎ ((b ≡ false) × (greatest xs < 1)) → best 0 0 0 xs ≡ (greatest xs, place_in (greatest xs) xs)
    by (inl t) = best_high 0 0 0 xs t.1 ∙ ap (λ p. (greatest xs, p)) (zero-add (place_in (greatest xs) xs))
    by (inr t) =
        let l = t.1 in
        let z : greatest xs ≡ 0 = omega arith in
        let whole : ℕ → ℕ × ℕ = λ g. (g, place_in g xs) in
        best_low 0 0 0 xs (omega arith) ∙ ap (λ p. (0, p)) (sym (flat_first xs z)) ∙ sym (ap whole z)

-- what is left of the words gives the outcome of the whole
pub record Surveyed (words : List ℕ) (s : Survey) (i : ℕ) : Type 0 where
  pub left : found s.rungs s.brackets s.depth s.first (cut s.brackets (drop i words)) ≡ (greatest (depths words), place_in (greatest (depths words)) (depths words))
  pub rungs : s.rungs + length (cut s.brackets (drop i words)).rungs ≡ length (rungs_of words)
  pub covered : Covered s
  pub open_bound : s.brackets ≤ i
  pub rungs_bound : s.rungs ≤ i

pub surveyed_none : (words : List ℕ) (s : Survey) → s ≡ record { brackets = 0; rungs = 0; depth = 0; first = 0 } → Surveyed words s 0
surveyed_none words s e =
    subst (λ t. Surveyed words t 0) (sym e)
    record { left = best_all (depths words); rungs = zero-add (length (rungs_of words)); covered = λ h. absurd (omega arith); open_bound = omega arith; rungs_bound = omega arith }

-- a started rung has no brackets yet; an open one that goes deeper than any becomes the deepest
covers : (r n d m : ℕ) (b : Bool) → (b ≡ true → (n ≡ 0) × (m ≡ 0)) → (0 < r → n ≤ d) → 0 < cond b (r + 1) r → m ≤ cond (ltb 0 r && ltb d m) m d
covers r n d m true flat h l = let z : m ≡ 0 = (flat refl).1 in grind (arith, nat_tests)
covers r n d m false flat h l = grind (arith, nat_tests)

rungs_more : (r w : ℕ) (b : Bool) (c : Cut) → cond b (r + 1) r + length c.rungs ≡ r + length (cut_at b w c).rungs
rungs_more r w true c = omega arith
rungs_more r w false c = refl

rungs_low : (r i : ℕ) (b : Bool) → r ≤ i → cond b (r + 1) r ≤ i + 1
rungs_low r i true h = omega arith
rungs_low r i false h = omega arith

pub surveyed_more : (words : List ℕ) (s t : Survey) (i : ℕ) → i < length words → t ≡ seen_after s (instruction_of (get_or words i 0)) → Surveyed words s i → Surveyed words t (i + 1)
surveyed_more words s t i l e k =
    let w = get_or words i 0 in
    let o = instruction_of w in
    let n = s.brackets in
    let m = opened_if n o in
    let b = starts_if n o in
    let rest = cut m (drop (i + 1) words) in
    let was : cut n (drop i words) ≡ cut_at b w rest = at_drop_more (cut n) words i 0 l in
    let bound = opened_bound n o in
    let low = k.open_bound in
    subst (λ t. Surveyed words t (i + 1)) (sym e)
    record {
      left = found_more s.rungs n s.depth s.first w b m rest (start_flat n o) refl k.covered ∙ ap (found s.rungs n s.depth s.first) (sym was) ∙ k.left;
      rungs = rungs_more s.rungs w b rest ∙ ap (λ c. s.rungs + length c.rungs) (sym was) ∙ k.rungs;
      covered = covers s.rungs n s.depth m b (start_flat n o) k.covered;
      open_bound = omega arith;
      rungs_bound = rungs_low s.rungs i b k.rungs_bound;
    }

pub surveyed_all : (words : List ℕ) (s : Survey) (i : ℕ) → length words ≤ i → Surveyed words s i → (s.rungs, length words, s.depth, s.first) ≡ counts words
surveyed_all words s i l k =
    let none : cut s.brackets (drop i words) ≡ record { front = []; rungs = [] } = at_drop_all (cut s.brackets) words i l in
    let r : s.rungs ≡ length (rungs_of words) = sym (add-zero s.rungs) ∙ ap (λ c. s.rungs + length c.rungs) (sym none) ∙ k.rungs in
    let f = sym (ap (found s.rungs s.brackets s.depth s.first) none) ∙ k.left in
    let p : (s.depth, s.first) ≡ (greatest (depths words), place_in (greatest (depths words)) (depths words)) = sym (last s.rungs s.brackets s.depth s.first k.covered) ∙ f in
    (λ j. (r j, length words, (p j).0, (p j).1))
  where
    last : (r n d f : ℕ) → (0 < r → n ≤ d) → found r n d f (record { front = []; rungs = [] }) ≡ (d, f)
    last zero n d f h = refl
    last (suc r) n d f h = best_under d f r n [] (h (omega arith))
