-- Two bits of a byte, and the points of a row of bytes.
use Rattle.std.proofs.Common.{◌≡◌, ℕ, zero, suc, ◌*◌, ◌/◌, ◌%◌, ◌<◌, min, ◌≢◌, ◌⊎◌, List, length, get_or, drop, set, Some, sym, refl, ap, ◌∙◌, subst, inl, inr, ⊎_elim, zero-add, arith, length-set, get_or-set_other, get_or-set_same, drop-set-lt}
use Rattle.std.specs.List.{slice_get}
use Rattle.std.proofs.lemmas.List.FromFn.{get_or-map-range_with_len}
use Rattle.std.proofs.lemmas.List.{ext_get_or}
use Rattle.std.proofs.lemmas.Option.{slice_get-get_or}
use Rattle.std.proofs.lemmas.Bool.{cases_eq}
use Rattle.signals.specs.declared.doubtful.Doubtful.{Doubtful}
use Rattle.signals.specs.declared.doubtful.Doubtful.TheVariants.{Off, Unknown, On}
use Rattle.banks.specs.Packing.{meant, written, pair, with_pair, held, bits_of, unpacked}
use Rattle.banks.specs.Short.{length-unpacked}

meant-written : (s : Doubtful) → meant (written s) ≡ s
meant-written Off = refl
meant-written Unknown = refl
meant-written On = refl

written_small : (s : Doubtful) → written s < 4
written_small Off = omega arith
written_small Unknown = omega arith
written_small On = omega arith

pair_same : (b q v : ℕ) → v < 4 → pair (with_pair b q v) q ≡ v
pair_same b zero v h = omega arith
pair_same b (suc zero) v h = omega arith
pair_same b (suc (suc zero)) v h = omega arith
pair_same b (suc (suc (suc q))) v h = omega arith

pair-other : (b q p v : ℕ) → v < 4 → q < 4 → p < 4 → p ≢ q → pair (with_pair b q v) p ≡ pair b p
pair-other b zero zero v h hq hp n = absurd (n refl)
pair-other b zero (suc zero) v h hq hp n = omega arith
pair-other b zero (suc (suc zero)) v h hq hp n = omega arith
pair-other b zero (suc (suc (suc p))) v h hq hp n = omega arith
pair-other b (suc zero) zero v h hq hp n = omega arith
pair-other b (suc zero) (suc zero) v h hq hp n = absurd (n refl)
pair-other b (suc zero) (suc (suc zero)) v h hq hp n = omega arith
pair-other b (suc zero) (suc (suc (suc p))) v h hq hp n = omega arith
pair-other b (suc (suc zero)) zero v h hq hp n = omega arith
pair-other b (suc (suc zero)) (suc zero) v h hq hp n = omega arith
pair-other b (suc (suc zero)) (suc (suc zero)) v h hq hp n = absurd (n refl)
pair-other b (suc (suc zero)) (suc (suc (suc p))) v h hq hp n = omega arith
pair-other b (suc (suc (suc q))) zero v h hq hp n = omega arith
pair-other b (suc (suc (suc q))) (suc zero) v h hq hp n = omega arith
pair-other b (suc (suc (suc q))) (suc (suc zero)) v h hq hp n = omega arith
pair-other b (suc (suc (suc q))) (suc (suc (suc p))) v h hq hp n = absurd (n (omega arith))

at-unpacked : (bytes : List ℕ) (i : ℕ) (d : Doubtful) → i < held bytes → get_or (unpacked bytes) i d ≡ meant (bits_of bytes i)
at-unpacked bytes i d h = get_or-map-range_with_len (λ k. meant (bits_of bytes k)) 0 (held bytes) i i d h (zero-add i)

pub slice_get-unpacked : (bytes : List ℕ) (i : ℕ) → i < held bytes → slice_get (unpacked bytes) i ≡ Some (meant (bits_of bytes i))
slice_get-unpacked bytes i h =
    let k : i < length (unpacked bytes) = omega (arith, length-unpacked bytes) in
    slice_get-get_or (unpacked bytes) i Off k ∙ ap Some (at-unpacked bytes i Off h)

module _ (bytes : List ℕ) (i : ℕ) (s : Doubtful) (h : i < held bytes) where
  -- the bytes with the point i replaced
  abbrev after : List ℕ
  after = set bytes (i / 4) (with_pair (get_or bytes (i / 4) 0) (i % 4) (written s))

  there : i / 4 < length bytes
  there = omega arith

  pub bits-same : bits_of after i ≡ written s
  bits-same = ap (λ (b : ℕ). pair b (i % 4)) (get_or-set_same bytes (i / 4) (with_pair (get_or bytes (i / 4) 0) (i % 4) (written s)) 0 there) ∙ pair_same (get_or bytes (i / 4) 0) (i % 4) (written s) (written_small s)

  same_byte : (k : ℕ) → k ≢ i → (k / 4 ≡ i / 4) ⊎ (k / 4 ≢ i / 4) → bits_of after k ≡ bits_of bytes k
  same_byte k n (inl e) =
      let q : k % 4 ≢ i % 4 = λ x. n (omega arith) in
      ap (λ (j : ℕ). pair (get_or after j 0) (k % 4)) e
      ∙ ap (λ (b : ℕ). pair b (k % 4)) (get_or-set_same bytes (i / 4) (with_pair (get_or bytes (i / 4) 0) (i % 4) (written s)) 0 there)
      ∙ pair-other (get_or bytes (i / 4) 0) (i % 4) (k % 4) (written s) (written_small s) (omega arith) (omega arith) q
      ∙ ap (λ (j : ℕ). pair (get_or bytes j 0) (k % 4)) (sym e)
  same_byte k n (inr m) = ap (λ (b : ℕ). pair b (k % 4)) (get_or-set_other bytes (i / 4) (k / 4) (with_pair (get_or bytes (i / 4) 0) (i % 4) (written s)) 0 m)

  -- every other point keeps its two bits
  pub bits-other : (k : ℕ) → k ≢ i → bits_of after k ≡ bits_of bytes k
  bits-other k n = same_byte k n (cases_eq (k / 4) (i / 4))

  held_after : held after ≡ held bytes
  held_after = ap (λ (n : ℕ). 4 * min 192 n) (length-set bytes (i / 4) (with_pair (get_or bytes (i / 4) 0) (i % 4) (written s)))

  pub set-unpacked : unpacked after ≡ set (unpacked bytes) i s
  set-unpacked =
      ext_get_or Off (unpacked after) (set (unpacked bytes) i s)
      (length-unpacked after ∙ held_after ∙ sym (length-unpacked bytes) ∙ sym (length-set (unpacked bytes) i s))
      (λ k hk.
      let kc : k < held after = subst (λ (n : ℕ). k < n) (length-unpacked after) hk in
      let kb : k < held bytes = subst (λ (n : ℕ). k < n) (length-unpacked after ∙ held_after) hk in
      let iu : i < length (unpacked bytes) = subst (λ (n : ℕ). i < n) (sym (length-unpacked bytes)) h in
      at-unpacked after k Off kc ∙
      ⊎_elim
      (λ e. ap (λ (j : ℕ). meant (bits_of after j)) e ∙ ap meant bits-same ∙ meant-written s
      ∙ sym (ap (λ (j : ℕ). get_or (set (unpacked bytes) i s) j Off) e ∙ get_or-set_same (unpacked bytes) i s Off iu))
      (λ n. ap meant (bits-other k n) ∙ sym (at-unpacked bytes k Off kb) ∙ sym (get_or-set_other (unpacked bytes) i k s Off n))
      (cases_eq k i))

  -- the bytes beyond the points are not reached
  pub drop-after : drop 192 after ≡ drop 192 bytes
  drop-after = let k : i / 4 < 192 = omega arith in drop-set-lt 192 bytes (i / 4) (with_pair (get_or bytes (i / 4) 0) (i % 4) (written s)) k
