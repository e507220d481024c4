-- The verdict on a card, one rung at a time.
use Rattle.std.proofs.Common.{MatchResult, IsErrAnd, ◌≡◌, ℕ, ◌+◌, List, [], Some, None, Ok, Err, Option, Result, sym, refl, ap, ◌∙◌, subst, arith}
use Rattle.instructions.specs.declared.store.Store.{Store}
use Rattle.instructions.specs.Stores.{stored}
use Rattle.wiring.specs.declared.rung.Rung.{Rung}
use Rattle.wiring.specs.Circuit.{circuit}
use Rattle.cards.specs.declared.fault.CardFault.{CardFault}
use Rattle.cards.specs.declared.progress.Progress.{Progress}
use Rattle.cards.specs.Rungs.{rung_at, rung_bits}
use Rattle.cards.specs.Cards.{end_at, progress_rung, HeadRead, RungRead}
use Rattle.translation.specs.declared.rung_fault.RungFault.{RungFault}
use Rattle.translation.specs.declared.rung_fault.RungFault.TheVariants.{NotSeriesParallel, TooDeep, TooLong}
use Rattle.translation.specs.declared.ladder_fault.InRung.{InRung}
use Rattle.translation.specs.declared.ladder_fault.AtRung.{AtRung}
use Rattle.translation.specs.declared.ladder_fault.LadderFault.{LadderFault}
use Rattle.translation.specs.declared.ladder_fault.LadderFault.TheVariants as ladder
use Rattle.translation.specs.Translation.{Translated}
use Rattle.translation.specs.Judgement.{Verdict, unfit, Judged, ended, trailed, misread, crossed, deep, long, taken, CardJudged, headless, headed, JudgedFrom, Told}

-- the card reader's answer, with the rung in which it was asked
abbrev pub in_rung : {A : Type 0} → Result A CardFault → ℕ → Result A InRung
in_rung (Ok x) rung = Ok x
in_rung (Err e) rung = Err (record { fault = e; rung = rung })

-- the answer on a rung, with its number and the bit at which it starts
abbrev pub at_rung : {A : Type 0} → Result A RungFault → ℕ → ℕ → Result A AtRung
at_rung (Ok x) rung bit = Ok x
at_rung (Err e) rung bit = Err (record { fault = e; rung = rung; bit = bit })

-- what `map_err` leaves, where the closure adds the rung, or the rung and its place
pub in_rung_is : {A : Type 0} (r : Result A CardFault) (k : ℕ) (q : Result A InRung) (P : CardFault → InRung → Type 0) → ((e : CardFault) (x : InRung) → P e x → x ≡ record { fault = e; rung = k }) → MatchResult r (λ y. q ≡ Ok y) (λ e. IsErrAnd q (P e)) → in_rung r k ≡ q
in_rung_is (Ok y) k q P f m = sym m
in_rung_is (Err e) k (Ok y) P f m = absurd m
in_rung_is (Err e) k (Err x) P f m = ap Err (sym (f e x m))

pub at_rung_is : {A : Type 0} (r : Result A RungFault) (k bit : ℕ) (q : Result A AtRung) (P : RungFault → AtRung → Type 0) → ((e : RungFault) (x : AtRung) → P e x → x ≡ record { fault = e; rung = k; bit = bit }) → MatchResult r (λ y. q ≡ Ok y) (λ e. IsErrAnd q (P e)) → at_rung r k bit ≡ q
at_rung_is (Ok y) k bit q P f m = sym m
at_rung_is (Err e) k bit (Ok y) P f m = absurd m
at_rung_is (Err e) k bit (Err x) P f m = ap Err (sym (f e x m))

-- the same verdict under other names
judged-at : {bytes : List ℕ} {r r' k k' a a' : ℕ} {ws ws' : List ℕ} {v : Verdict} → r ≡ r' → k ≡ k' → a ≡ a' → ws ≡ ws' → Judged bytes r k a ws v → Judged bytes r' k' a' ws' v
judged-at {bytes} {r} {r'} {k} {k'} {a} {a'} {ws} {ws'} {v} e f g h j =
    subst (λ (x : ℕ). Judged bytes x k' a' ws' v) e
    (subst (λ (x : ℕ). Judged bytes r x a' ws' v) f
    (subst (λ (x : ℕ). Judged bytes r k x ws' v) g
    (subst (λ (x : List ℕ). Judged bytes r k a x v) h j)))

-- a rung that cannot be read
pub misread_step : (bytes : List ℕ) (p p' : Progress) (s : Store) (r : Result (Option Rung) CardFault) (k : ℕ) (x : InRung) → k ≡ progress_rung p → RungRead bytes p r p' → in_rung r k ≡ Err x → JudgedFrom bytes p s (Err (ladder.Card x))
misread_step bytes p p' s (Ok o) k x e R i = cc
misread_step bytes p p' s (Err d) k x e R i =
    let q : record { fault = d; rung = k } ≡ x = cc in
    let w = p.within in
    let l = R.1 in
    subst (λ (y : InRung). JudgedFrom bytes p s (Err (ladder.Card y))) (ap (λ n. record { fault = d; rung = n }) (sym e) ∙ q)
    (misread (progress_rung p) p.at (stored s) d (omega arith) R.0)

-- a rung that was read
pub record RungFound (bytes : List ℕ) (p : Progress) (rung : Rung) (p' : Progress) : Type 0 where
  pub reads : rung_at bytes p.at ≡ Ok (circuit rung)
  pub left : p'.left + 1 ≡ p.left
  pub rungs : p'.rungs ≡ p.rungs
  pub at : p'.at ≡ p.at + rung_bits (circuit rung)

pub rung_found : (bytes : List ℕ) (p p' : Progress) (r : Result (Option Rung) CardFault) (k : ℕ) (rung : Rung) → RungRead bytes p r p' → in_rung r k ≡ Ok (Some rung) → RungFound bytes p rung p'
rung_found bytes p p' (Err d) k rung R i = cc
rung_found bytes p p' (Ok None) k rung R i = cc
rung_found bytes p p' (Ok (Some x)) k rung R i =
    let q : x ≡ rung = cc in
    subst (λ (y : Rung). RungFound bytes p y p') q (record { reads = R.0; left = R.1; rungs = R.2; at = R.3 })

-- a rung that is refused
pub refused_step : {U : Type 0} (bytes : List ℕ) (p p' : Progress) (s s' : Store) (rung : Rung) (r : Result U RungFault) (k bit : ℕ) (x : AtRung) → k ≡ progress_rung p → bit ≡ p.at → RungFound bytes p rung p' → Translated (circuit rung) s r s' → at_rung r k bit ≡ Err x → JudgedFrom bytes p s (Err (ladder.Rung x))
refused_step bytes p p' s s' rung (Ok u) k bit x e f R T i = cc
refused_step {U = U} bytes p p' s s' rung (Err d) k bit x e f R T i =
    let q : record { fault = d; rung = k; bit = bit } ≡ x = cc in
    subst (λ (y : AtRung). JudgedFrom bytes p s (Err (ladder.Rung y))) ((λ t. record { fault = d; rung = sym e t; bit = sym f t }) ∙ q) (by d T)
  where
    by : (d : RungFault) → Translated {U = U} (circuit rung) s (Err d) s' → JudgedFrom bytes p s (Err (unfit d (progress_rung p) p.at))
    by NotSeriesParallel T = let w = p.within in let l = R.left in crossed (progress_rung p) p.at (stored s) (circuit rung) (omega arith) R.reads T.0
    by TooDeep T = let w = p.within in let l = R.left in deep (progress_rung p) p.at (stored s) (circuit rung) T.0 (omega arith) R.reads T.1 T.2
    by TooLong T = let w = p.within in let l = R.left in long (progress_rung p) p.at (stored s) (circuit rung) T.0 (omega arith) R.reads T.1 T.2 T.3

-- a rung that is taken
pub taken_step : {U : Type 0} (bytes : List ℕ) (p p' : Progress) (s s' : Store) (rung : Rung) (r : Result U RungFault) (k bit : ℕ) (u : U) → RungFound bytes p rung p' → Translated (circuit rung) s r s' → at_rung r k bit ≡ Ok u → (v : Verdict) → JudgedFrom bytes p' s' v → JudgedFrom bytes p s v
taken_step bytes p p' s s' rung (Err d) k bit u R T i v j = cc
taken_step bytes p p' s s' rung (Ok x) k bit u R T i v j =
    let w = p.within in
    let w' = p'.within in
    let l = R.left in
    let n = R.rungs in
    let m : progress_rung p' ≡ progress_rung p + 1 = omega arith in
    taken (progress_rung p) p.at (stored s) (circuit rung) T.0 v (omega arith) R.reads T.1 T.2 T.3
    (judged-at n m R.at T.4 j)

-- the exit of a `?`
pub told_err : {U : Type 0} {bytes : List ℕ} (s : Store) {r : Result U LadderFault} {y z : LadderFault} → r ≡ Err y → y ≡ z → CardJudged bytes (Err z) → Told bytes r s
told_err {U} {bytes} s {r} {y} {z} e f j = subst (λ (x : Result U LadderFault). Told bytes x s) (sym (e ∙ ap Err f)) j

-- the head
pub head_err : {bytes : List ℕ} (r : Result Progress CardFault) (x : InRung) → HeadRead bytes r → in_rung r 0 ≡ Err x → CardJudged bytes (Err (ladder.Card x))
head_err (Ok p) x H i = cc
head_err {bytes} (Err d) x H i =
    let q : record { fault = d; rung = 0 } ≡ x = cc in
    subst (λ (y : InRung). CardJudged bytes (Err (ladder.Card y))) q (headless d H)

pub head_ok : {bytes : List ℕ} (r : Result Progress CardFault) (p : Progress) (s : Store) → HeadRead bytes r → in_rung r 0 ≡ Ok p → stored s ≡ [] → (v : Verdict) → JudgedFrom bytes p s v → CardJudged bytes v
head_ok (Err d) p s H i e v j = cc
head_ok {bytes} (Ok q) p s H i e v j =
    let same : q ≡ p = cc in
    let h = subst (λ (x : Progress). HeadRead bytes (Ok x)) same H in
    let l = h.1 in
    let k : progress_rung p ≡ 0 = omega arith in
    headed p.rungs v h.0 (judged-at refl k h.2 e j)

-- behind the last rung
pub end_err : {bytes : List ℕ} (p : Progress) (s : Store) (r : Result Unit CardFault) (k : ℕ) (x : InRung) → p.left ≡ 0 → k ≡ progress_rung p → r ≡ end_at bytes p.at → in_rung r k ≡ Err x → JudgedFrom bytes p s (Err (ladder.Card x))
end_err p s (Ok u) k x l e R i = cc
end_err {bytes} p s (Err d) k x l e R i =
    let w = p.within in
    let n : p.rungs ≡ progress_rung p = omega arith in
    let q : record { fault = d; rung = k } ≡ x = cc in
    judged-at refl n refl refl
    (subst (λ (y : InRung). Judged bytes p.rungs p.rungs p.at (stored s) (Err (ladder.Card y))) (ap (λ m. record { fault = d; rung = m }) (n ∙ sym e) ∙ q)
    (trailed p.at (stored s) d (sym R)))

pub end_ok : {bytes : List ℕ} (p : Progress) (s : Store) (r : Result Unit CardFault) (k : ℕ) (u : Unit) → p.left ≡ 0 → r ≡ end_at bytes p.at → in_rung r k ≡ Ok u → JudgedFrom bytes p s (Ok (stored s))
end_ok p s (Err d) k u l R i = cc
end_ok {bytes} p s (Ok x) k u l R i =
    let w = p.within in
    let n : p.rungs ≡ progress_rung p = omega arith in
    judged-at refl n refl refl (ended p.at (stored s) (sym R))

-- no rung is left
pub none_left : (bytes : List ℕ) (p p' : Progress) (r : Result (Option Rung) CardFault) (k : ℕ) (o : Option Rung) → RungRead bytes p r p' → in_rung r k ≡ Ok o → o ≡ None → (p.left ≡ 0) × (p' ≡ p)
none_left bytes p p' (Err d) k o R i n = cc
none_left bytes p p' (Ok None) k o R i n = R
none_left bytes p p' (Ok (Some x)) k o R i n = cc

pub stopped : (bytes : List ℕ) (p p' : Progress) (s : Store) → ((v : Verdict) → JudgedFrom bytes p s v → CardJudged bytes v) → (p.left ≡ 0) × (p' ≡ p) → (p'.left ≡ 0) × ((v : Verdict) → JudgedFrom bytes p' s v → CardJudged bytes v)
stopped bytes p p' s inv h = (ap (λ (x : Progress). x.left) h.1 ∙ h.0, λ v j. inv v (subst (λ (x : Progress). JudgedFrom bytes x s v) h.1 j))
