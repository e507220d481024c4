-- The brackets of words that keep the rules fit the working signals.
use Rattle.std.proofs.Common.{◌≡◌, ℕ, ◌+◌, ◌<◌, ◌≤◌, Bool, true, false, cond, ◌&&◌, ltb, ◌⊎◌, List, [], ◌∷◌, Some, None, Ok, Err, Option, Result, sym, refl, ap, ◌∙◌, subst, inl, inr, arith}
use Rattle.std.specs.Cmp.Derive.{both_true}
use Rattle.std.proofs.lemmas.Bool.Decides.{nat_tests, leb_tells}
use Rattle.instructions.specs.declared.instruction.Instruction.{Instruction}
use Rattle.instructions.specs.declared.instruction.Instruction.TheVariants.{Load, LoadNot, And, AndNot, Or, OrNot, AndOpen, OrOpen, Close, Store, StoreNot, Set, Reset}
use Rattle.instructions.specs.Words.{instruction_of}
use Rattle.instructions.specs.Depth.{opened, opened_if}
use Rattle.programs.specs.declared.checker.State.{State}
use Rattle.programs.specs.declared.checker.State.TheVariants.{Joining}
use Rattle.programs.specs.declared.fault.RuleFault.{RuleFault}
use Rattle.programs.specs.declared.fault.RuleFault.TheVariants.{TooDeep, TooManyRungs, TooLong}
use Rattle.programs.specs.Rules.{Place, start, closes, when, next, counted, step_to, step, step_if, led, judged_at, accepted, keeps}
use Rattle.programs.proofs.Rules.{led_refused}
use Rattle.scanning.specs.Working.{roomy, roomy_if, fitting}
use Rattle.scanning.proofs.Apart.{no_err}

-- an instruction within the limits leaves as many brackets open as it says, at most 15
counted_tells : (p : Place) (s : State) (b r : ℕ) (q : Place) → counted p s b r ≡ Ok q → (q.brackets ≡ b) × (b ≤ 15)
counted_tells p s b r q e = by (ltb 15 b) (leb_tells 16 b) (ltb 128 r) (ltb 4095 p.words) e
  where
    by : (x : Bool) → ((x ≡ true) × (16 ≤ b)) ⊎ ((x ≡ false) × (b < 16)) → (y z : Bool) → cond x (Err TooDeep) (cond y (Err TooManyRungs) (cond z (Err TooLong) (Ok (record { state = s; brackets = b; rungs = r; words = p.words + 1 })))) ≡ Ok q → (q.brackets ≡ b) × (b ≤ 15)
    by true t y z e = absurd (no_err e)
    by false t true z e = absurd (no_err e)
    by false t false true e = absurd (no_err e)
    by false (inl t) false false e = let z : ◌≡◌ {A = ℕ} 0 1 = cc in absurd (omega arith)
    by false (inr t) false false e =
        let same : record { state = s; brackets = b; rungs = r; words = p.words + 1 } ≡ q = cc in
        let h = t.1 in
        (ap (λ (x : Place). x.brackets) (sym same), omega arith)

step_to_tells : (p : Place) (i : Instruction) (o : Option State) (q : Place) → step_to p i o ≡ Ok q → ((s : State) × (o ≡ Some s)) × (q.brackets ≡ opened p.brackets i) × (opened p.brackets i ≤ 15)
step_to_tells p i None q e = absurd (no_err e)
step_to_tells p i (Some s) q e = let h = counted_tells p s _ _ q e in ((s, refl), h.0, h.1)

when_tells : (b : Bool) (s t : State) → when b s ≡ Some t → b ≡ true
when_tells true s t e = refl
when_tells false s t e = cc

and_right : (a b : Bool) → (a && b) ≡ true → b ≡ true
and_right true b e = e
and_right false b e = cc

-- an allowed instruction finds room
room : (p : Place) (i : Instruction) → ((s : State) × (next p.state p.brackets i ≡ Some s)) → opened p.brackets i ≤ 15 → roomy p.brackets i ≡ true
room p (Load x) n h = refl
room p (LoadNot x) n h = refl
room p (And x) n h = refl
room p (AndNot x) n h = refl
room p (Or x) n h = refl
room p (OrNot x) n h = refl
room p AndOpen n h = grind (arith, nat_tests)
room p OrOpen n h = grind (arith, nat_tests)
room p Close n h = and_right (closes p.state) (ltb 0 p.brackets) (when_tells (closes p.state && ltb 0 p.brackets) Joining n.0 n.1)
room p (Store x) n h = refl
room p (StoreNot x) n h = refl
room p (Set x) n h = refl
room p (Reset x) n h = refl

led-fits : (ws : List ℕ) (p q : Place) → led (Ok p) ws ≡ Ok q → fitting p.brackets ws ≡ true
led-fits [] p q e = refl
led-fits (w ∷ ws) p q e = by (instruction_of w) (λ r f. led-fits ws r q f) e
  where
    next_place : (i : Instruction) → ((r : Place) → led (Ok r) ws ≡ Ok q → fitting r.brackets ws ≡ true) → (x : Result Place RuleFault) → step p i ≡ x → led x ws ≡ Ok q → (roomy p.brackets i && fitting (opened p.brackets i) ws) ≡ true
    next_place i f (Err d) h e = absurd (no_err (sym (led_refused d ws) ∙ e))
    next_place i f (Ok r) h e =
        let t = step_to_tells p i (next p.state p.brackets i) r h in
        both_true (room p i t.0 t.2) (subst (λ (n : ℕ). fitting n ws ≡ true) t.1 (f r e))

    by : (o : Option Instruction) → ((r : Place) → led (Ok r) ws ≡ Ok q → fitting r.brackets ws ≡ true) → led (step_if p o) ws ≡ Ok q → (roomy_if p.brackets o && fitting (opened_if p.brackets o) ws) ≡ true
    by None f e = absurd (no_err (sym (led_refused _ ws) ∙ e))
    by (Some i) f e = next_place i f (step p i) refl e

pub keeps-fits : (ws : List ℕ) → keeps ws ≡ true → fitting 0 ws ≡ true
keeps-fits ws k = by (led (Ok start) ws) refl k
  where
    by : (r : Result Place RuleFault) → led (Ok start) ws ≡ r → accepted (judged_at r) ≡ true → fitting 0 ws ≡ true
    by (Ok q) e h = led-fits ws start q e
    by (Err d) e h = cc
