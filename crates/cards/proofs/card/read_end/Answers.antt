use Rattle.std.proofs.Common.{◌≡◌, ℕ, ◌+◌, ◌*◌, ◌/◌, ◌<◌, ◌≤◌, None, Some, Err, get_or, sym, ap, ◌∙◌, rules, tests, arith}
use Rattle.std.proofs.lemmas.Iterator.{first_from_Range}
use Rattle.cards.specs.Bits.{bits}
use Rattle.cards.proofs.Endings.{zeros_but, zeros-follow, zeros_end}
use Rattle.cards.proofs.card.read_end.Goals as goal

pub returns-in-Some : goal.returns-in-Some
returns-in-Some c =
    let bytes = c.args.bytes.now in
    let at = c.args.progress.now.at in
    let end = (at + 7) / 8 * 8 in
    let one = c.in-Some.one in
    let h : (at ≤ one) × (one < end) × (get_or (bits bytes) one 0 ≡ 0 → ⊥) × ((k : ℕ) → at ≤ k → k < one → get_or (bits bytes) k 0 ≡ 0) =
    first_from_Range _ _ _ (Some one) (λ i. get_or (bits bytes) i 0 ≡ 0 → ⊥) (λ i. get_or (bits bytes) i 0 ≡ 0) c.in-Some.ensures.ran
    (λ x q k. grind (arith, tests)) (λ x q k. (search rules, grind (arith, tests))) in
    ap Err c.at.ensures ∙ sym (zeros_but bytes at end one h.0 h.1 h.3 h.2)

pub returns-then-bytes-end : goal.returns-then-bytes-end
returns-then-bytes-end c =
    let bytes = c.args.bytes.now in
    let at = c.args.progress.now.at in
    let end = (at + 7) / 8 * 8 in
    let h : (k : ℕ) → at ≤ k → k < end → get_or (bits bytes) k 0 ≡ 0 =
    first_from_Range _ _ _ None (λ i. get_or (bits bytes) i 0 ≡ 0 → ⊥) (λ i. get_or (bits bytes) i 0 ≡ 0) c.in_default.ensures.ran
    (λ x q k. grind (arith, tests)) (λ x q k. (search rules, grind (arith, tests))) in
    ap Err c.at-then-bytes-end.ensures ∙ sym (zeros-follow bytes at end (omega arith) h (omega arith))

pub returns : goal.returns
returns c =
    let bytes = c.args.bytes.now in
    let at = c.args.progress.now.at in
    let end = (at + 7) / 8 * 8 in
    let h : (k : ℕ) → at ≤ k → k < end → get_or (bits bytes) k 0 ≡ 0 =
    first_from_Range _ _ _ None (λ i. get_or (bits bytes) i 0 ≡ 0 → ⊥) (λ i. get_or (bits bytes) i 0 ≡ 0) c.in_default.ensures.ran
    (λ x q k. grind (arith, tests)) (λ x q k. (search rules, grind (arith, tests))) in
    sym (zeros_end bytes at end (omega arith) h (omega arith))
