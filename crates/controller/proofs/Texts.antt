-- A text written into lent bytes, or refused.
use Rattle.std.proofs.Common.{◌≡◌, ℕ, ◌<◌, ◌≤◌, Bool, true, false, cond, leb, List, ◌++◌, length, drop, Some, None, Ok, Err, Result, refl, arith, leb-false, leb-true, MatchResult}
use Rattle.std.specs.Result.{result_ok}
use Rattle.instructions.specs.declared.report.ShortBuffer.{ShortBuffer}
use Rattle.instructions.specs.Reports.{Written}

pub record Filled (text before : List ℕ) (n : ℕ) (after : List ℕ) : Type 0 where
  pub fits : length text ≤ length before
  pub count : n ≡ length text
  pub bytes : after ≡ text ++ drop (length text) before

pub record Unfilled (text before after : List ℕ) : Type 0 where
  pub short : length before < length text
  pub same : after ≡ before

by_test : (text before after : List ℕ) (r : Result ℕ ShortBuffer) (b : Bool) → leb (length text) (length before) ≡ b
    → result_ok r ≡ cond b (Some (length text)) None → after ≡ cond b (text ++ drop (length text) before) before
    → MatchResult r (λ n. Filled text before n after) (λ _. Unfilled text before after)
by_test text before after (Ok n) true t e f = record { fits = leb-true (length text) (length before) t; count = let q : n ≡ length text = cc in q; bytes = f }
by_test text before after (Ok n) false t e f = let z : ◌≡◌ {A = ℕ} 0 1 = cc in absurd (omega arith)
by_test text before after (Err d) true t e f = let z : ◌≡◌ {A = ℕ} 0 1 = cc in absurd (omega arith)
by_test text before after (Err d) false t e f = record { short = leb-false (length text) (length before) t; same = f }

pub written_cases : (text before after : List ℕ) (r : Result ℕ ShortBuffer) → Written text before r after → MatchResult r (λ n. Filled text before n after) (λ _. Unfilled text before after)
written_cases text before after r w = by_test text before after r (leb (length text) (length before)) refl w.value w.after_is
