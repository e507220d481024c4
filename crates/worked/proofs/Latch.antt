-- What the definitions make of the worked cards, rungs and lines.
use Rattle.std.proofs.Common.{◌≡◌, ℕ, zero, suc, ◌<◌, ◌⊎◌, List, [], ◌∷◌, ◌++◌, Ok, sym, refl, ap, ◌∙◌, inl, inr, ⊎_elim, arith, lit<, lit≤}
use Rattle.std.specs.Fmt.{digits}
use Rattle.wiring.specs.Circuit.{Circuit, ends, Reads}
use Rattle.wiring.specs.Lists.{In, Distinct}
use Rattle.wiring.specs.Text.{in_series, in_parallel, link_text, Text}
use Rattle.wiring.specs.Wiring.{Wiring, link, series, parallel, Joint, Runs}
use Rattle.wiring.specs.Worked.{detour, detour_wiring, bridge}
use Rattle.wiring.proofs.Circuits.{one_text}
use Rattle.wiring.proofs.Worked.{worked_circuits}
use Rattle.cards.specs.Bits.{field_of}
use Rattle.cards.specs.Rungs.{fault_at}
use Rattle.cards.specs.declared.fault.CardCause.TheVariants.{EndsEarly}
use Rattle.translation.specs.Spelling.{spell, coil_words, rung_words}
use Rattle.translation.specs.Translation.{Listed}
use Rattle.translation.specs.Judgement.{headed, ended, misread, crossed, taken}
use Rattle.worked.specs.Examples.{latch, latch_words, detour_words, WorkedExamples}

-- links 0 and 1 are branches, and link 2 follows
latch_wiring : Wiring ℕ
latch_wiring = series (parallel (link 0) (link 1)) (link 2)

-- the joint y is an end of one of these links
abbrev AtEnds : Circuit → ℕ → List ℕ → Type 0
AtEnds c y [] = ⊥
AtEnds c y (i ∷ l) = ((y ≡ (ends c i).0) ⊎ (y ≡ (ends c i).1)) ⊎ AtEnds c y l

at-ends : (c : Circuit) (y : ℕ) (l : List ℕ) → Joint (ends c) y l → AtEnds c y l
at-ends c y [] j = j.1
at-ends c y (i ∷ l) j =
    ⊎_elim
    (λ p. inl (⊎_elim (λ q. inl (sym q ∙ ap (λ z. (ends c z).0) p)) (λ q. inr (sym q ∙ ap (λ z. (ends c z).1) p)) j.2))
    (λ k. inr (at-ends c y l (j.0, k, j.2)))
    j.1

latch-runs : Runs (ends latch) (series (parallel (link 0) (link 1)) (link 2)) 0 2
latch-runs = (
  1,
  (
    (refl, refl, omega arith),
    (refl, refl, omega arith),
    λ y j k.
        let a : ((y ≡ 0) ⊎ (y ≡ 1)) ⊎ ⊥ = at-ends latch y (0 ∷ []) j in
        ⊎_elim (λ h. h) absurd a,
  ),
  (refl, refl, omega arith),
  λ y j k.
      let a : ((y ≡ 0) ⊎ (y ≡ 1)) ⊎ (((y ≡ 0) ⊎ (y ≡ 1)) ⊎ ⊥) = at-ends latch y (0 ∷ (1 ∷ [])) j in
      let b : ((y ≡ 1) ⊎ (y ≡ 2)) ⊎ ⊥ = at-ends latch y (2 ∷ []) k in
      omega arith,
)

below_three : (i : ℕ) → i < 3 → In i (0 ∷ (1 ∷ (2 ∷ [])))
below_three zero h = inl refl
below_three (suc zero) h = inr (inl refl)
below_three (suc (suc zero)) h = inr (inr (inl refl))
below_three (suc (suc (suc n))) h = absurd (omega arith)

three_below : (i : ℕ) → In i (0 ∷ (1 ∷ (2 ∷ []))) → i < 3
three_below i j = let h : (i ≡ 0) ⊎ ((i ≡ 1) ⊎ ((i ≡ 2) ⊎ ⊥)) = j in omega arith

three_once : Distinct {A = ℕ} (0 ∷ (1 ∷ (2 ∷ [])))
three_once = (
  λ j. let h : (◌≡◌ {A = ℕ} 0 1) ⊎ ((◌≡◌ {A = ℕ} 0 2) ⊎ ⊥) = j in omega arith,
  (λ j. let h : (◌≡◌ {A = ℕ} 1 2) ⊎ ⊥ = j in omega arith, ((λ j. j), tt)),
)

latch_touched : (y : ℕ) → y < 3 → Joint (ends latch) y (0 ∷ (1 ∷ (2 ∷ [])))
latch_touched zero h = (0, inl refl, inl refl)
latch_touched (suc zero) h = (0, inl refl, inr refl)
latch_touched (suc (suc zero)) h = (2, inr (inr (inl refl)), inr refl)
latch_touched (suc (suc (suc n))) h = absurd (omega arith)

latch_reads : Reads latch (series (parallel (link 0) (link 1)) (link 2))
unfolding in_series in_parallel link_text
latch_reads = record {
  runs = latch-runs;
  links_are = λ i. (three_below i, below_three i);
  once = three_once;
  touched = latch_touched;
  ordered = ((tt, tt, λ x y i j. let p : (x ≡ 0) ⊎ ⊥ = i in let q : (y ≡ 1) ⊎ ⊥ = j in omega arith), tt);
}

-- every wiring that reads a circuit gives the words of one that does
listed : (c : Circuit) (w : Wiring ℕ) → Reads c w → Listed c (rung_words c w)
listed c w R = record { some = (w, R); every = λ v S. ap (λ (t : Text). spell c t.first ++ coil_words c.coils) (one_text c v w S R) }

latch-listed : Listed latch latch_words
unfolding in_series in_parallel link_text
latch-listed = listed latch (series (parallel (link 0) (link 1)) (link 2)) latch_reads

detour-listed : Listed detour detour_words
unfolding in_series in_parallel link_text
detour-listed = listed detour detour_wiring worked_circuits.detour_reads

pub worked : WorkedExamples
unfolding field_of digits
worked = record {
  latch_drawn = refl;
  latch-accepted = headed 1 (Ok latch_words) refl (taken 0 8 [] latch latch_words (Ok latch_words) (lit< tt) refl latch-listed (lit≤ tt) (lit≤ tt) (ended 103 latch_words refl));
  latch-listed = refl;
  latch-counted = refl;
  short_refused = headed 1 _ refl (misread 0 8 [] (fault_at EndsEarly 8) (lit< tt) refl);
  short_told = refl;
  none-accepted = headed 0 (Ok []) refl (ended 8 [] refl);
  none-counted = refl;
  detour-listed = detour-listed;
  detour-told = refl;
  detour_deep = refl;
  detour-accepted = headed 1 (Ok detour_words) refl (taken 0 8 [] detour detour_words (Ok detour_words) (lit< tt) refl detour-listed (lit≤ tt) (lit≤ tt) (ended 125 detour_words refl));
  bridge_refused = worked_circuits.bridge_refused;
  bridge_card_refused = headed 1 _ refl (crossed 0 8 [] bridge (lit< tt) refl worked_circuits.bridge_refused);
  bridge-told = refl;
  or_m255 = refl;
  ld_i255 = refl;
  ld_i256 = refl;
  ld_i256_number = refl;
}
