-- A card that is not refused means rungs, and its words are their listings.
use Rattle.std.proofs.Common.{◌≡◌, ℕ, ◌+◌, List, [], ◌∷◌, ◌++◌, length, Ok, sym, refl, ap, ◌∙◌, subst, arith}
use Rattle.std.proofs.lemmas.List.{append_assoc, append-nil}
use Rattle.signals.specs.Kind.{Kind, Laws}
use Rattle.wiring.specs.Circuit.{Circuit}
use Rattle.cards.specs.Rungs.{rung_bits}
use Rattle.translation.specs.Translation.{Listed}
use Rattle.translation.specs.Judgement.{Verdict, Judged, ended, trailed, misread, crossed, deep, long, taken, CardJudged, headless, headed}
use Rattle.scanning.specs.ByPaths.{ByPaths}
use Rattle.scanning.specs.Cards.{RungsFrom, CardMeans}
use Rattle.scanning.specs.Listings.{Lists, Listings}
use Rattle.scanning.specs.Machine.{scanned}
use Rattle.scanning.proofs.Agreement.{scans_agree}
use Rattle.scanning.proofs.Apart.{no_err}
use Rattle.scanning.proofs.Numbers.{rung_numbered}

-- the rungs from a bit on, and their words behind those of the rungs before them
record Found (bytes : List ℕ) (rungs k at : ℕ) (words all : List ℕ) : Type 0 where
  pub cs : List Circuit
  pub stand : RungsFrom bytes at cs
  pub counted : k + length cs ≡ rungs
  pub new : List ℕ
  pub listed : Listings cs new
  pub whole : all ≡ words ++ new

listing_of : (c : Circuit) (words : List ℕ) → Listed c words → Lists c words
listing_of c words l = record { wiring = l.some.0; reads = l.some.1; listing = sym (l.every l.some.0 l.some.1) }

found : (bytes : List ℕ) (rungs k at : ℕ) (words : List ℕ) (v : Verdict) (all : List ℕ) → Judged bytes rungs k at words v → v ≡ Ok all → Found bytes rungs k at words all
found bytes rungs k at words v all (ended a ws h) e =
    let q : ws ≡ all = cc in
    record { cs = []; stand = h; counted = omega arith; new = []; listed = refl; whole = sym q ∙ sym (append-nil ws) }
found bytes rungs k at words v all (trailed a ws d h) e = absurd (no_err e)
found bytes rungs k at words v all (misread j a ws d l h) e = absurd (no_err e)
found bytes rungs k at words v all (crossed j a ws c l h s) e = absurd (no_err e)
found bytes rungs k at words v all (deep j a ws c new l h s d) e = absurd (no_err e)
found bytes rungs k at words v all (long j a ws c new l h s d f) e = absurd (no_err e)
found bytes rungs k at words v all (taken j a ws c new u l h s d f next) e =
    let r = found bytes rungs (j + 1) (a + rung_bits c) (ws ++ new) u all next e in
    let n = r.counted in
    record {
      cs = c ∷ r.cs;
      stand = (h, r.stand);
      counted = omega arith;
      new = new ++ r.new;
      listed = (new, r.new, listing_of c new s, rung_numbered bytes a c h, r.listed, refl);
      whole = r.whole ∙ append_assoc ws new r.new;
    }

of_card : (bytes : List ℕ) (v : Verdict) (words : List ℕ) → CardJudged bytes v → v ≡ Ok words → (cs : List Circuit) × CardMeans bytes cs × Listings cs words
of_card bytes v words (headless d h) e = absurd (no_err e)
of_card bytes v words (headed rungs u h j) e =
    let r = found bytes rungs 0 8 [] u words j e in
    let n = r.counted in
    let q : rungs ≡ length r.cs = omega arith in
    (r.cs, record { head = h ∙ ap (λ x. Ok x) q; rungs = r.stand }, subst (λ (ws : List ℕ). Listings r.cs ws) (sym r.whole) r.listed)

pub cards_listed : (bytes words : List ℕ) → CardJudged bytes (Ok words) → (cs : List Circuit) × CardMeans bytes cs × Listings cs words
cards_listed bytes words j = of_card bytes (Ok words) words j refl

same_rungs : (bytes : List ℕ) (at : ℕ) (cs cs' : List Circuit) → length cs ≡ length cs' → RungsFrom bytes at cs → RungsFrom bytes at cs' → cs ≡ cs'
same_rungs bytes at [] [] n p q = refl
same_rungs bytes at [] (c ∷ cs') n p q = absurd (omega arith)
same_rungs bytes at (c ∷ cs) [] n p q = absurd (omega arith)
same_rungs bytes at (c ∷ cs) (d ∷ cs') n p q =
    let e : c ≡ d = cc (p.0, q.0) in
    let m : length cs ≡ length cs' = omega arith in
    let r = same_rungs bytes (at + rung_bits c) cs cs' m p.1 (subst (λ (x : Circuit). RungsFrom bytes (at + rung_bits x) cs') (sym e) q.1) in
    cc

pub one_meaning : (bytes : List ℕ) (cs cs' : List Circuit) → CardMeans bytes cs → CardMeans bytes cs' → cs ≡ cs'
one_meaning bytes cs cs' p q = let n : length cs ≡ length cs' = cc (p.head, q.head) in same_rungs bytes 8 cs cs' n p.rungs q.rungs

pub cards_agree : {S : Type 0} (k : Kind S) → Laws k → (bytes words : List ℕ) (cs : List Circuit) (points : List S) → CardJudged bytes (Ok words) → CardMeans bytes cs → ByPaths k cs points (scanned k words points)
cards_agree k laws bytes words cs points j m =
    let r = cards_listed bytes words j in
    scans_agree k laws cs words points (subst (λ (x : List Circuit). Listings x words) (one_meaning bytes r.0 cs r.1 m) r.2)
