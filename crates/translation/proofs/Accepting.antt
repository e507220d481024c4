-- A card is accepted exactly if it is the encoding of rungs within the limits.
use Rattle.std.proofs.Common.{◌≡◌, ℕ, ◌+◌, ◌<◌, ◌≤◌, List, [], ◌∷◌, ◌++◌, length, drop, replicate, Ok, sym, refl, ap, ◌∙◌, subst, arith, length-append}
use Rattle.std.specs.List.{flat_map, AllByRecursion}
use Rattle.std.proofs.lemmas.List.{append_assoc, append-nil}
use Rattle.wiring.specs.Circuit.{Circuit}
use Rattle.cards.specs.Bits.{bits}
use Rattle.cards.specs.Rungs.{rung_bits}
use Rattle.cards.specs.Encoding.{field_bits, circuit_bits, Drawable, Encoded}
use Rattle.cards.proofs.Numbers.{length-field_bits}
use Rattle.cards.proofs.Stretches.{onward, stretch_of, rest_of}
use Rattle.cards.proofs.RungBits.{length-circuit_bits, rung_read, rung_reads}
use Rattle.cards.proofs.CardBits.{head_read, head_reads}
use Rattle.cards.proofs.Endings.{end_read, end_reads}
use Rattle.translation.specs.Judgement.{Verdict, Judged, ended, trailed, misread, crossed, deep, long, taken, CardJudged, headless, headed}
use Rattle.translation.specs.Acceptance.{Written, none, more, Translates, AcceptedExactly}

-- what stands behind the rungs read so far: more rungs, and then the padding
record Ahead (bytes : List ℕ) (rungs k at : ℕ) (words out : List ℕ) : Type 0 where
  cs : List Circuit
  count : k + length cs ≡ rungs
  padding : ℕ
  short : padding < 8
  are : drop at (bits bytes) ≡ flat_map circuit_bits cs ++ replicate padding 0
  drawable : AllByRecursion Drawable cs
  rest : List ℕ
  written : Written cs rest
  all : words ++ rest ≡ out
  few : length out ≤ 4096

ahead : {bytes : List ℕ} {rungs k at : ℕ} {words : List ℕ} {v : Verdict} → Judged bytes rungs k at words v → (out : List ℕ) → v ≡ Ok out → at ≤ length (bits bytes) → length words ≤ 4096 → Ahead bytes rungs k at words out
ahead {bytes} {rungs} (ended at words e) out q w few =
    let p = end_read bytes at w e in
    let same : words ≡ out = cc in
    record {
      cs = [];
      count = omega arith;
      padding = p.padding;
      short = p.short;
      are = p.are;
      drawable = tt;
      rest = [];
      written = none;
      all = append-nil words ∙ same;
      few = subst (λ (l : List ℕ). length l ≤ 4096) same few;
    }
ahead (trailed at words e h) out q w few = cc
ahead (misread k at words e h f) out q w few = cc
ahead (crossed k at words c h f g) out q w few = cc
ahead (deep k at words c new h f g s) out q w few = cc
ahead (long k at words c new h f g s r) out q w few = cc
ahead {bytes} {rungs} (taken k at words c new v h f g s r j) out q w few =
    let read = rung_read bytes at c f in
    let room : length (words ++ new) ≤ 4096 = omega (arith, length-append words new) in
    let i = ahead j out q read.stretch.within room in
    let n = i.count in
    record {
      cs = c ∷ i.cs;
      count = omega arith;
      padding = i.padding;
      short = i.short;
      are = onward at (rung_bits c) read.stretch i.are ∙ sym (append_assoc (circuit_bits c) (flat_map circuit_bits i.cs) (replicate i.padding 0));
      drawable = (read.drawable, i.drawable);
      rest = new ++ i.rest;
      written = more c new i.cs i.rest g s i.written;
      all = sym (append_assoc words new i.rest) ∙ i.all;
      few = i.few;
    }

-- and back
judged : {cs : List Circuit} {rest : List ℕ} → Written cs rest → (bytes : List ℕ) (rungs k at : ℕ) (words : List ℕ) (padding : ℕ) → padding < 8 → k + length cs ≡ rungs → AllByRecursion Drawable cs → at ≤ length (bits bytes) → drop at (bits bytes) ≡ flat_map circuit_bits cs ++ replicate padding 0 → length words + length rest ≤ 4096 → Judged bytes rungs k at words (Ok (words ++ rest))
judged none bytes rungs k at words padding short n d w e few =
    let m : rungs ≡ k = omega arith in
    let end = end_reads bytes at w (record { padding = padding; short = short; are = e }) in
    subst (λ (l : List ℕ). Judged bytes rungs k at words (Ok l)) (sym (append-nil words))
    (subst (λ (x : ℕ). Judged bytes rungs x at words (Ok words)) m (ended at words end))
judged (more c new cs rest g s more-words) bytes rungs k at words padding short n d w e few =
    let e' = e ∙ append_assoc (circuit_bits c) (flat_map circuit_bits cs) (replicate padding 0) in
    let long-enough = length-circuit_bits c in
    let st = stretch_of at (rung_bits c) (circuit_bits c) (flat_map circuit_bits cs ++ replicate padding 0) w long-enough e' in
    let behind = rest_of (bits bytes) at (rung_bits c) (circuit_bits c) (flat_map circuit_bits cs ++ replicate padding 0) long-enough e' in
    let room : length words + length new ≤ 4096 = omega (arith, length-append new rest) in
    let room' : length (words ++ new) + length rest ≤ 4096 = omega (arith, length-append new rest, length-append words new) in
    let n' : k + 1 + length cs ≡ rungs = omega arith in
    let j = judged more-words bytes rungs (k + 1) (at + rung_bits c) (words ++ new) padding short n' d.1 st.within behind room' in
    taken k at words c new (Ok (words ++ (new ++ rest))) (omega arith) (rung_reads bytes at c d.0 st) g s room
    (subst (λ (l : List ℕ). Judged bytes rungs (k + 1) (at + rung_bits c) (words ++ new) (Ok l)) (append_assoc words new rest) j)

-- whole cards
abbrev Accepted : List ℕ → List ℕ → Type 0
Accepted bytes words = (cs : List Circuit) × Encoded bytes cs × (length cs ≤ 128) × AllByRecursion Drawable cs × Translates cs words

encodes : {bytes : List ℕ} {v : Verdict} → CardJudged bytes v → (words : List ℕ) → v ≡ Ok words → Accepted bytes words
encodes (headless e h) words q = cc
encodes {bytes} (headed rungs v h j) words q =
    let head = head_read bytes rungs h in
    let few = head.few in
    let a = ahead j words q head.stretch.within (omega arith) in
    let n = a.count in
    let m : rungs ≡ length a.cs = omega arith in
    let e = onward 0 8 head.stretch a.are ∙ sym (append_assoc (field_bits 8 rungs) (flat_map circuit_bits a.cs) (replicate a.padding 0)) in (
      a.cs,
      record { padding = a.padding; short = a.short; are = e ∙ ap (λ (x : ℕ). field_bits 8 x ++ flat_map circuit_bits a.cs ++ replicate a.padding 0) m },
      omega arith,
      a.drawable,
      record { written = subst (Written a.cs) a.all a.written; few = a.few },
    )

accepted : (bytes words : List ℕ) → Accepted bytes words → CardJudged bytes (Ok words)
accepted bytes words (cs, encoded, few, drawable, translates) =
    let n = length cs in
    let rest = flat_map circuit_bits cs ++ replicate encoded.padding 0 in
    let e = encoded.are ∙ append_assoc (field_bits 8 n) (flat_map circuit_bits cs) (replicate encoded.padding 0) in
    let st = stretch_of 0 8 (field_bits 8 n) rest (omega arith) (length-field_bits 8 n) e in
    let behind = rest_of (bits bytes) 0 8 (field_bits 8 n) rest (length-field_bits 8 n) e in
    let room = translates.few in
    headed n (Ok words) (head_reads bytes n (record { stretch = st; few = few }))
    (judged translates.written bytes n 0 8 [] encoded.padding encoded.short (omega arith) drawable st.within behind (omega arith))

pub accepted_exactly : AcceptedExactly
accepted_exactly bytes words = (λ j. encodes j words refl, accepted bytes words)
