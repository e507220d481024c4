-- In a table whose children lie lower, a position has the wiring of its node.
use Rattle.std.proofs.Common.{◌≡◌, ℕ, zero, suc, ◌+◌, ◌<◌, true, List, [], ◌∷◌, ◌++◌, length, get_or, sym, refl, ap, ◌∙◌, subst, add-zero, zero-add, arith}
use Rattle.std.proofs.lemmas.Bool.{and_parts, and_from}
use Rattle.std.proofs.lemmas.Bool.Decides.{nat_tests}
use Rattle.std.proofs.lemmas.List.{get_or_append_left}
use Rattle.std.proofs.Math.Seq.{get_or-append_seam}
use Rattle.wiring.specs.Wiring.{Wiring}
use Rattle.elimination.specs.declared.table.Node.{Node}
use Rattle.elimination.specs.declared.table.Node.TheVariants.{Link, Series, Parallel}
use Rattle.elimination.specs.Trees.{below, Under, lower, formed, tree_of, tree_at}

-- the test at each position
lower-at : (ns : List Node) (j i : ℕ) → lower j ns ≡ true → below (j + i) (get_or ns i (Link 0)) ≡ true
lower-at [] j i e = refl
lower-at (n ∷ ns) j zero e = subst (λ k. below k n ≡ true) (sym (add-zero j)) (and_parts _ _ e).0
lower-at (n ∷ ns) j (suc i) e =
    let q : suc j + i ≡ j + suc i = omega arith in
    subst (λ k. below k (get_or ns i (Link 0)) ≡ true) q (lower-at ns (suc j) i (and_parts _ _ e).1)

pub below_at : (ns : List Node) (i : ℕ) → lower 0 ns ≡ true → below i (get_or ns i (Link 0)) ≡ true
below_at ns i e = subst (λ k. below k (get_or ns i (Link 0)) ≡ true) (zero-add i) (lower-at ns 0 i e)

same-formed : (f g : ℕ → Wiring ℕ) (i : ℕ) (n : Node) → below i n ≡ true → ((k : ℕ) → k < i → f k ≡ g k) → formed f n ≡ formed g n
same-formed f g i (Link n) b e = refl
same-formed f g i (Series a b) l e =
    let p : a < i = grind (arith, nat_tests) in
    let q : b < i = grind (arith, nat_tests) in
    let x = e a p in let y = e b q in cc
same-formed f g i (Parallel a b) l e =
    let p : a < i = grind (arith, nat_tests) in
    let q : b < i = grind (arith, nat_tests) in
    let x = e a p in let y = e b q in cc

-- following further down changes nothing
enough : (ns : List Node) → lower 0 ns ≡ true → (k m i : ℕ) → i < k → i < m → tree_of k ns i ≡ tree_of m ns i
unfolding tree_of
enough ns e zero m i h l = absurd (omega arith)
enough ns e (suc k) zero i h l = absurd (omega arith)
enough ns e (suc k) (suc m) i h l =
    same-formed (tree_of k ns) (tree_of m ns) i (get_or ns i (Link 0)) (below_at ns i e) (λ j lt. enough ns e k m j (omega arith) (omega arith))

pub tree_is : (ns : List Node) → lower 0 ns ≡ true → (i : ℕ) → tree_at ns i ≡ formed (tree_at ns) (get_or ns i (Link 0))
unfolding tree_at tree_of
tree_is ns e i = same-formed (tree_of i ns) (tree_at ns) i (get_or ns i (Link 0)) (below_at ns i e) (λ k l. enough ns e i (suc k) k l (omega arith))

-- so a reader of the node sees parts that stand lower
under : (i : ℕ) (n : Node) → below i n ≡ true → Under i n
under i (Link n) e = tt
under i (Series a b) e = (grind (arith, nat_tests), grind (arith, nat_tests))
under i (Parallel a b) e = (grind (arith, nat_tests), grind (arith, nat_tests))

pub under_at : (ns : List Node) (i : ℕ) → lower 0 ns ≡ true → Under i (get_or ns i (Link 0))
under_at ns i e = under i (get_or ns i (Link 0)) (below_at ns i e)

-- one more node
made : (i : ℕ) (n : Node) → Under i n → below i n ≡ true
made i (Link n) u = refl
made i (Series a b) u = grind (arith, nat_tests)
made i (Parallel a b) u = grind (arith, nat_tests)

lower-push : (ns : List Node) (j : ℕ) (n : Node) → lower j ns ≡ true → below (j + length ns) n ≡ true → lower j (ns ++ (n ∷ [])) ≡ true
lower-push [] j n e h = and_from _ _ (subst (λ k. below k n ≡ true) (add-zero j) h) refl
lower-push (m ∷ ns) j n e h =
    let q : j + length (m ∷ ns) ≡ suc j + length ns = omega arith in
    and_from _ _ (and_parts _ _ e).0 (lower-push ns (suc j) n (and_parts _ _ e).1 (subst (λ k. below k n ≡ true) q h))

pub falls_more : (ns : List Node) (n : Node) → lower 0 ns ≡ true → Under (length ns) n → lower 0 (ns ++ (n ∷ [])) ≡ true
falls_more ns n e u = lower-push ns 0 n e (subst (λ k. below k n ≡ true) (sym (zero-add (length ns))) (made (length ns) n u))

same-below : (ns : List Node) (n : Node) → lower 0 ns ≡ true → (k i : ℕ) → i < length ns → tree_of k (ns ++ (n ∷ [])) i ≡ tree_of k ns i
unfolding tree_of
same-below ns n e zero i h = refl
same-below ns n e (suc k) i h =
    ap (formed (tree_of k (ns ++ (n ∷ [])))) (get_or_append_left ns (n ∷ []) (Link 0) i h)
    ∙ same-formed (tree_of k (ns ++ (n ∷ []))) (tree_of k ns) i (get_or ns i (Link 0)) (below_at ns i e) (λ j l. same-below ns n e k j (omega arith))

-- the positions before it keep their wirings, and it has its own
pub tree_same : (ns : List Node) (n : Node) → lower 0 ns ≡ true → (i : ℕ) → i < length ns → tree_at (ns ++ (n ∷ [])) i ≡ tree_at ns i
unfolding tree_at
tree_same ns n e i h = same-below ns n e (suc i) i h

pub tree_new : (ns : List Node) (n : Node) → lower 0 ns ≡ true → Under (length ns) n → tree_at (ns ++ (n ∷ [])) (length ns) ≡ formed (tree_at ns) n
tree_new ns n e u =
    tree_is (ns ++ (n ∷ [])) (falls_more ns n e u) (length ns)
    ∙ ap (formed (tree_at (ns ++ (n ∷ [])))) (get_or-append_seam ns n [] (Link 0))
    ∙ same-formed (tree_at (ns ++ (n ∷ []))) (tree_at ns) (length ns) n (made (length ns) n u) (λ k l. tree_same ns n e k l)
