-- A card has one verdict.
use Rattle.std.proofs.Common.{◌≡◌, ℕ, ◌+◌, ◌<◌, ◌≤◌, List, [], ◌++◌, length, Ok, Err, Result, sym, refl, ap, ◌∙◌, subst, arith}
use Rattle.wiring.specs.Circuit.{Circuit, SeriesParallel}
use Rattle.cards.specs.declared.fault.CardFault.{CardFault}
use Rattle.cards.specs.Rungs.{rung_at, rung_bits}
use Rattle.cards.specs.Cards.{end_at}
use Rattle.translation.specs.declared.rung_fault.RungFault.TheVariants.{NotSeriesParallel, TooDeep, TooLong}
use Rattle.translation.specs.Translation.{Listed, Shallow}
use Rattle.translation.specs.Judgement.{Verdict, unread, unfit, Judged, ended, trailed, misread, crossed, deep, long, taken, CardJudged, headless, headed}
use Rattle.translation.specs.Acceptance.{OneVerdict}

-- a rung has one listing
listed_once : {c : Circuit} (a b : List ℕ) → Listed c a → Listed c b → a ≡ b
listed_once a b l m = sym (l.every l.some.0 l.some.1) ∙ m.every l.some.0 l.some.1

-- behind the last rung
end_verdict : ℕ → List ℕ → Result Unit CardFault → Verdict
end_verdict rungs words (Ok u) = Ok words
end_verdict rungs words (Err e) = Err (unread e rungs)

at-end : {bytes : List ℕ} {rungs k at : ℕ} {words : List ℕ} {v : Verdict} → Judged bytes rungs k at words v → k ≡ rungs → v ≡ end_verdict rungs words (end_at bytes at)
unfolding end_verdict
at-end {rungs = rungs} (ended at words e) n = ap (end_verdict rungs words) (sym e)
at-end {rungs = rungs} (trailed at words d e) n = ap (end_verdict rungs words) (sym e)
at-end (misread k at words d h f) n = absurd (omega arith)
at-end (crossed k at words c h f g) n = absurd (omega arith)
at-end (deep k at words c new h f g s) n = absurd (omega arith)
at-end (long k at words c new h f g s r) n = absurd (omega arith)
at-end (taken k at words c new v h f g s r j) n = absurd (omega arith)

-- at a rung: which way its verdict goes
data Way (bytes : List ℕ) (rungs k at : ℕ) (words : List ℕ) (v : Verdict) : Type 0 where
  unreadable : (e : CardFault) → rung_at bytes at ≡ Err e → v ≡ Err (unread e k) → Way bytes rungs k at words v
  crossing : (c : Circuit) → rung_at bytes at ≡ Ok c → (SeriesParallel c → ⊥) → v ≡ Err (unfit NotSeriesParallel k at) → Way bytes rungs k at words v
  deepening : (c : Circuit) (new : List ℕ) → rung_at bytes at ≡ Ok c → Listed c new → (Shallow new → ⊥) → v ≡ Err (unfit TooDeep k at) → Way bytes rungs k at words v
  lengthening : (c : Circuit) (new : List ℕ) → rung_at bytes at ≡ Ok c → Listed c new → Shallow new → (length words + length new ≤ 4096 → ⊥) → v ≡ Err (unfit TooLong k at) → Way bytes rungs k at words v
  going : (c : Circuit) (new : List ℕ) → rung_at bytes at ≡ Ok c → Listed c new → Shallow new → length words + length new ≤ 4096 → Judged bytes rungs (k + 1) (at + rung_bits c) (words ++ new) v → Way bytes rungs k at words v

way : {bytes : List ℕ} {rungs k at : ℕ} {words : List ℕ} {v : Verdict} → Judged bytes rungs k at words v → k < rungs → Way bytes rungs k at words v
way (ended at words e) n = absurd (omega arith)
way (trailed at words d e) n = absurd (omega arith)
way (misread k at words d h f) n = unreadable d f refl
way (crossed k at words c h f g) n = crossing c f g refl
way (deep k at words c new h f g s) n = deepening c new f g s refl
way (long k at words c new h f g s r) n = lengthening c new f g s r refl
way (taken k at words c new v h f g s r j) n = going c new f g s r j

-- the rung that is read is one
same_rung : (bytes : List ℕ) (at : ℕ) (c d : Circuit) → rung_at bytes at ≡ Ok c → rung_at bytes at ≡ Ok d → c ≡ d
same_rung bytes at c d e f = cc

misread_same : {bytes : List ℕ} {rungs k at : ℕ} {words : List ℕ} {v : Verdict} (e : CardFault) → rung_at bytes at ≡ Err e → Way bytes rungs k at words v → Err (unread e k) ≡ v
misread_same {k = k} e f (unreadable d g q) = let same : e ≡ d = cc in ap (λ x. Err (unread x k)) same ∙ sym q
misread_same e f (crossing c g x q) = cc
misread_same e f (deepening c new g l s q) = cc
misread_same e f (lengthening c new g l s r q) = cc
misread_same e f (going c new g l s r j) = cc

module _ (bytes : List ℕ) (rungs k at : ℕ) (words : List ℕ) (c : Circuit) (f : rung_at bytes at ≡ Ok c) where
  listed_here : (d : Circuit) (new : List ℕ) → rung_at bytes at ≡ Ok d → Listed d new → Listed c new
  listed_here d new g l = subst (λ (x : Circuit). Listed x new) (same_rung bytes at d c g f) l

  crossed_same : {v : Verdict} → (SeriesParallel c → ⊥) → Way bytes rungs k at words v → Err (unfit NotSeriesParallel k at) ≡ v
  crossed_same x (unreadable d g q) = cc
  crossed_same x (crossing d g y q) = sym q
  crossed_same x (deepening d new g l s q) = absurd (x (listed_here d new g l).some)
  crossed_same x (lengthening d new g l s r q) = absurd (x (listed_here d new g l).some)
  crossed_same x (going d new g l s r j) = absurd (x (listed_here d new g l).some)

  module _ (new : List ℕ) (listed : Listed c new) where
    same-words : (d : Circuit) (other : List ℕ) → rung_at bytes at ≡ Ok d → Listed d other → new ≡ other
    same-words d other g l = listed_once new other listed (listed_here d other g l)

    crossing_not : (d : Circuit) → rung_at bytes at ≡ Ok d → (SeriesParallel d → ⊥) → ⊥
    crossing_not d g y = y (subst SeriesParallel (same_rung bytes at c d f g) listed.some)

    deep_same : {v : Verdict} → (Shallow new → ⊥) → Way bytes rungs k at words v → Err (unfit TooDeep k at) ≡ v
    deep_same x (unreadable d g q) = cc
    deep_same x (crossing d g y q) = absurd (crossing_not d g y)
    deep_same x (deepening d other g l s q) = sym q
    deep_same x (lengthening d other g l s r q) = absurd (x (subst Shallow (sym (same-words d other g l)) s))
    deep_same x (going d other g l s r j) = absurd (x (subst Shallow (sym (same-words d other g l)) s))

    module _ (shallow : Shallow new) where
      long_same : {v : Verdict} → (length words + length new ≤ 4096 → ⊥) → Way bytes rungs k at words v → Err (unfit TooLong k at) ≡ v
      long_same x (unreadable d g q) = cc
      long_same x (crossing d g y q) = absurd (crossing_not d g y)
      long_same x (deepening d other g l s q) = absurd (s (subst Shallow (same-words d other g l) shallow))
      long_same x (lengthening d other g l s r q) = sym q
      long_same x (going d other g l s r j) = absurd (x (subst (λ (n : List ℕ). length words + length n ≤ 4096) (sym (same-words d other g l)) r))

      taken_same : {v v' : Verdict} → length words + length new ≤ 4096 → (Judged bytes rungs (k + 1) (at + rung_bits c) (words ++ new) v' → v ≡ v') → Way bytes rungs k at words v' → v ≡ v'
      taken_same x on (unreadable d g q) = cc
      taken_same x on (crossing d g y q) = absurd (crossing_not d g y)
      taken_same x on (deepening d other g l s q) = absurd (s (subst Shallow (same-words d other g l) shallow))
      taken_same x on (lengthening d other g l s r q) = absurd (r (subst (λ (n : List ℕ). length words + length n ≤ 4096) (same-words d other g l) x))
      taken_same {v' = v'} x on (going d other g l s r j) =
          on
          (subst (λ (n : List ℕ). Judged bytes rungs (k + 1) (at + rung_bits c) (words ++ n) v') (sym (same-words d other g l))
          (subst (λ (y : Circuit). Judged bytes rungs (k + 1) (at + rung_bits y) (words ++ other) v') (same_rung bytes at d c g f) j))

-- from a rung on
judged_once : {bytes : List ℕ} {rungs k at : ℕ} {words : List ℕ} {v v' : Verdict} → Judged bytes rungs k at words v → Judged bytes rungs k at words v' → v ≡ v'
unfolding end_verdict
judged_once {rungs = rungs} (ended at words e) i = ap (end_verdict rungs words) (sym e) ∙ sym (at-end i refl)
judged_once {rungs = rungs} (trailed at words d e) i = ap (end_verdict rungs words) (sym e) ∙ sym (at-end i refl)
judged_once (misread k at words d h f) i = misread_same d f (way i h)
judged_once {bytes} {rungs} (crossed k at words c h f g) i = crossed_same bytes rungs k at words c f g (way i h)
judged_once {bytes} {rungs} (deep k at words c new h f g s) i = deep_same bytes rungs k at words c f new g s (way i h)
judged_once {bytes} {rungs} (long k at words c new h f g s r) i = long_same bytes rungs k at words c f new g s r (way i h)
judged_once {bytes} {rungs} (taken k at words c new v h f g s r j) i = taken_same bytes rungs k at words c f new g s r (judged_once j) (way i h)

-- whole cards
pub one_verdict : OneVerdict
one_verdict bytes v v' j i = both j i
  where
    both : {v v' : Verdict} → CardJudged bytes v → CardJudged bytes v' → v ≡ v'
    both (headless e h) (headless d g) = let same : e ≡ d = cc in ap (λ x. Err (unread x 0)) same
    both (headless e h) (headed n w g i) = cc
    both (headed m v h j) (headless d g) = cc
    both (headed m v h j) (headed n w g i) =
        let same : n ≡ m = cc in
        judged_once j (subst (λ (x : ℕ). Judged bytes x 0 8 [] w) same i)
