-- Rungs: what is read is what the bits encode, and what is encoded is read.
use Rattle.std.proofs.Common.{◌≡◌, ℕ, ◌+◌, ◌*◌, ◌<◌, true, List, [], ◌∷◌, ◌++◌, length, Ok, sym, refl, ◌∙◌, subst, arith, length-append}
use Rattle.std.specs.List.{flat_map, AllByRecursion}
use Rattle.std.proofs.lemmas.Bool.{and_parts, and_from, le-leb, cond-true}
use Rattle.wiring.specs.declared.rung.Link.{Link}
use Rattle.wiring.specs.declared.rung.Coil.{Coil}
use Rattle.wiring.specs.Drawn.{between, linked, drivable, driven}
use Rattle.wiring.specs.Circuit.{Circuit}
use Rattle.cards.specs.declared.sizes.Sizes.{Sizes}
use Rattle.cards.specs.Bits.{bits, field_at}
use Rattle.cards.specs.Rungs.{link_at, links_at, coil_at, coils_at, countable, sized, sizes_at, rung_at, rung_bits}
use Rattle.cards.specs.Encoding.{field_bits, contact_number, link_bits, coil_bits, circuit_bits, Drawable}
use Rattle.cards.proofs.Limits.{opened, chosen_ok, Counted, sizes_counted, links_linked, coils-driven}
use Rattle.cards.proofs.Rows.{rung_from}
use Rattle.cards.proofs.Stretches.{Stretch, behind, front, back, field-read, field_reads}
use Rattle.cards.proofs.PartBits.{length-link_bits, link_read, FitLink, link_reads, length-coil_bits, coil_read, FitCoil, coil_reads}
use Rattle.cards.proofs.RowBits.{length-joined, row_read, row_reads}

-- the three counts
abbrev sizes_bits : Sizes → List ℕ
sizes_bits n = field_bits 6 n.joints ++ field_bits 7 n.links ++ field_bits 4 n.coils

length_sizes_bits : (n : Sizes) → length (sizes_bits n) ≡ 17
unfolding field_bits
length_sizes_bits n = refl

sizes_read : (bytes : List ℕ) (at : ℕ) (n : Sizes) → sizes_at bytes at ≡ Ok n → Stretch (bits bytes) at 17 (sizes_bits n)
sizes_read bytes at n e =
    let a = opened (field_at bytes at 6) _ n e in
    let b = opened (field_at bytes (at + 6) 7) _ n a.2 in
    let c = opened (field_at bytes (at + 13) 4) _ n b.2 in
    let k = chosen_ok (countable a.0 b.0 c.0) _ _ n c.2 in
    let fa = field-read bytes at 6 a.0 a.1 in
    let fb = field-read bytes (at + 6) 7 b.0 b.1 in
    let fc = field-read bytes (at + 13) 4 c.0 c.1 in
    subst (λ (m : Sizes). Stretch (bits bytes) at 17 (sizes_bits m)) k.1 (behind at 13 4 (at + 13) refl (behind at 6 7 (at + 6) refl fa.stretch fb.stretch) fc.stretch)

sizes_from : (bytes : List ℕ) (at : ℕ) {joints links coils : ℕ} → field_at bytes at 6 ≡ Ok joints → field_at bytes (at + 6) 7 ≡ Ok links → field_at bytes (at + 13) 4 ≡ Ok coils → sizes_at bytes at ≡ sized at joints links coils
sizes_from bytes at e1 e2 e3 = rw (e1, e2, e3)

counts : (n : Sizes) → Counted n → countable n.joints n.links n.coils ≡ true
counts n k =
    and_from _ _ (le-leb 2 n.joints k.two)
    (and_from _ _ (le-leb n.joints 32 k.most)
    (and_from _ _ (le-leb 1 n.links k.some_link)
    (and_from _ _ (le-leb n.links 64 k.most_links)
    (and_from _ _ (le-leb 1 n.coils k.some_coil) (le-leb n.coils 8 k.most_coils)))))

sizes_reads : (bytes : List ℕ) (at : ℕ) (n : Sizes) → Counted n → Stretch (bits bytes) at 17 (sizes_bits n) → sizes_at bytes at ≡ Ok n
unfolding field_bits
sizes_reads bytes at n k s =
    let j = field_bits 6 n.joints in
    let l = field_bits 7 n.links in
    let c = field_bits 4 n.coils in
    let kj = k.most in
    let kl = k.most_links in
    let kc = k.most_coils in
    let s13 = front at 13 4 (j ++ l) c refl s in
    let ej = field_reads bytes at 6 n.joints (omega arith) (front at 6 7 j l refl s13) in
    let el = field_reads bytes (at + 6) 7 n.links (omega arith) (back at 6 7 (at + 6) j l refl refl s13) in
    let ec = field_reads bytes (at + 13) 4 n.coils (omega arith) (back at 13 4 (at + 13) (j ++ l) c refl refl s) in
    sizes_from bytes at ej el ec ∙ cond-true (countable n.joints n.links n.coils) _ _ (counts n k)

-- what links and coils must keep, one by one
fit_links : (joints : ℕ) (ls : List Link) → linked joints ls ≡ true → AllByRecursion (λ (l : Link). contact_number l.contact < 256) ls → AllByRecursion (FitLink joints) ls
fit_links joints [] t p = tt
fit_links joints (l ∷ ls) t p = let b = and_parts (between joints l) (linked joints ls) t in (record { placed = b.0; point = p.0 }, fit_links joints ls b.1 p.1)

fit_coils : (cs : List Coil) → driven cs ≡ true → AllByRecursion (λ (c : Coil). c.point.number < 256) cs → AllByRecursion FitCoil cs
fit_coils [] t p = tt
fit_coils (c ∷ cs) t p = let b = and_parts (drivable c.point.area) (driven cs) t in (record { drives = b.0; point = p.0 }, fit_coils cs b.1 p.1)

-- a rung
abbrev sizes_of : Circuit → Sizes
sizes_of c = record { joints = c.joints; links = length c.links; coils = length c.coils }

pub length-circuit_bits : (c : Circuit) → length (circuit_bits c) ≡ rung_bits c
length-circuit_bits c =
    let n = sizes_of c in
    let l = length_sizes_bits n in
    let ll = length-joined link_bits 22 length-link_bits c.links in
    let lc = length-joined coil_bits 12 length-coil_bits c.coils in
    length-append _ (flat_map coil_bits c.coils) ∙ (λ i. length-append (sizes_bits n) (flat_map link_bits c.links) i + lc i) ∙ (λ i. l i + ll i + 12 * length c.coils)

pub record RungHeld (bytes : List ℕ) (at : ℕ) (c : Circuit) : Type 0 where
  pub stretch : Stretch (bits bytes) at (rung_bits c) (circuit_bits c)
  pub drawable : Drawable c

pub rung_read : (bytes : List ℕ) (at : ℕ) (c : Circuit) → rung_at bytes at ≡ Ok c → RungHeld bytes at c
rung_read bytes at c e =
    let all = bits bytes in
    let a = opened (sizes_at bytes at) _ c e in
    let n = a.0 in
    let b = opened (links_at n.links bytes n.joints (at + 17)) _ c a.2 in
    let d = opened (coils_at n.coils bytes (at + 17 + 22 * n.links)) _ c b.2 in
    let ls = b.0 in
    let ks = d.0 in
    let d2 = d.2 in
    let q : record { joints = n.joints; links = ls; coils = ks } ≡ c = cc in
    let k = sizes_counted bytes at n a.1 in
    let s = sizes_read bytes at n a.1 in
    let w0 = s.within in
    let rl = row_read all (link_at bytes n.joints) 22 link_bits (λ (l : Link). contact_number l.contact < 256) (λ p l f. let h = link_read bytes n.joints p l f in (h.stretch, h.point)) n.links (at + 17) ls w0 b.1 in
    let w1 = rl.stretch.within in
    let rk = row_read all (coil_at bytes) 12 coil_bits (λ (x : Coil). x.point.number < 256) (λ p x f. let h = coil_read bytes p x f in (h.stretch, h.point)) n.coils (at + 17 + 22 * n.links) ks w1 d.1 in
    let cl = rl.count in
    let ck = rk.count in
    let place : at + 17 + 22 * n.links ≡ at + (17 + 22 * n.links) = omega arith in
    let whole = behind at (17 + 22 * n.links) (12 * n.coils) (at + 17 + 22 * n.links) place (behind at 17 (22 * n.links) (at + 17) refl s rl.stretch) rk.stretch in
    let c0 = k.two in
    let c1 = k.most in
    let c2 = k.some_link in
    let c3 = k.most_links in
    let c4 = k.some_coil in
    let c5 = k.most_coils in
    subst (RungHeld bytes at) q
    (record {
      stretch = subst (λ (x : ℕ). Stretch all at (17 + 22 * length ls + 12 * x) (field_bits 6 n.joints ++ field_bits 7 (length ls) ++ field_bits 4 x ++ flat_map link_bits ls ++ flat_map coil_bits ks)) (sym ck)
          (subst (λ (x : ℕ). Stretch all at (17 + 22 * x + 12 * n.coils) (field_bits 6 n.joints ++ field_bits 7 x ++ field_bits 4 n.coils ++ flat_map link_bits ls ++ flat_map coil_bits ks)) (sym cl) whole);
      drawable = record {
        two = c0;
        most = c1;
        some_link = omega arith;
        most_links = omega arith;
        some_coil = omega arith;
        most_coils = omega arith;
        linked = links_linked n.links bytes n.joints (at + 17) ls b.1;
        driven = coils-driven n.coils bytes (at + 17 + 22 * n.links) ks d.1;
        contact_points = rl.good;
        coil_points = rk.good;
      };
    })

pub rung_reads : (bytes : List ℕ) (at : ℕ) (c : Circuit) → Drawable c → Stretch (bits bytes) at (rung_bits c) (circuit_bits c) → rung_at bytes at ≡ Ok c
rung_reads bytes at c d s =
    let all = bits bytes in
    let n = sizes_of c in
    let ls = flat_map link_bits c.links in
    let ks = flat_map coil_bits c.coils in
    let k : Counted n = record { two = d.two; most = d.most; some_link = d.some_link; most_links = d.most_links; some_coil = d.some_coil; most_coils = d.most_coils } in
    let l17 = length_sizes_bits n in
    let ll = length-joined link_bits 22 length-link_bits c.links in
    let lfront : length (sizes_bits n ++ ls) ≡ 17 + 22 * n.links = length-append (sizes_bits n) ls ∙ (λ i. l17 i + ll i) in
    let place : at + 17 + 22 * n.links ≡ at + (17 + 22 * n.links) = omega arith in
    let s1 = front at (17 + 22 * n.links) (12 * n.coils) (sizes_bits n ++ ls) ks lfront s in
    let s2 = back at (17 + 22 * n.links) (12 * n.coils) (at + 17 + 22 * n.links) (sizes_bits n ++ ls) ks place lfront s in
    let s3 = front at 17 (22 * n.links) (sizes_bits n) ls l17 s1 in
    let s4 = back at 17 (22 * n.links) (at + 17) (sizes_bits n) ls refl l17 s1 in
    let e1 = sizes_reads bytes at n k s3 in
    let e2 = row_reads all (link_at bytes c.joints) 22 link_bits (FitLink c.joints) length-link_bits (λ p l g t. link_reads bytes c.joints p l d.most g t) (at + 17) c.links (fit_links c.joints c.links d.linked d.contact_points) s4 in
    let e3 = row_reads all (coil_at bytes) 12 coil_bits FitCoil length-coil_bits (coil_reads bytes) (at + 17 + 22 * n.links) c.coils (fit_coils c.coils d.driven d.coil_points) s2 in
    rung_from bytes at n e1 e2 e3
