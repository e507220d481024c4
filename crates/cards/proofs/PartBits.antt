-- Links and coils: what is read is what the bits encode, and what is encoded is read.
use Rattle.std.proofs.Common.{◌≡◌, ℕ, ◌+◌, ◌<◌, ◌≤◌, true, ltb, List, ◌++◌, length, Ok, sym, refl, ap, ◌∙◌, subst, arith}
use Rattle.std.specs.Option.{ok_or}
use Rattle.std.proofs.lemmas.Bool.{and_parts, ltb-true}
use Rattle.points.specs.Points.{area_code}
use Rattle.wiring.specs.declared.rung.Link.{Link}
use Rattle.wiring.specs.declared.rung.Coil.{Coil}
use Rattle.wiring.specs.Drawn.{between, drivable}
use Rattle.cards.specs.declared.fault.CardCause.TheVariants.{LinkField, CoilField}
use Rattle.cards.specs.Bits.{bits, field_at}
use Rattle.cards.specs.Rungs.{fault_at, link_of, contact_of, link_at, coil_of, point_of, coil_at}
use Rattle.cards.specs.Encoding.{field_bits, kind_code, contact_area, contact_number, action_code, link_bits, coil_bits}
use Rattle.cards.proofs.Limits.{opened, kept}
use Rattle.cards.proofs.Rows.{link_from}
use Rattle.cards.proofs.Codes.{link_code, link_of_code, kind_small, contact_area_small, coil_code, coil_of_code, action_small, area_small}
use Rattle.cards.proofs.Stretches.{Stretch, behind, front, back, field-read, field_reads}

-- links
pub length-link_bits : (l : Link) → length (link_bits l) ≡ 22
unfolding field_bits
length-link_bits l = refl

pub record LinkRead (bytes : List ℕ) (at : ℕ) (l : Link) : Type 0 where
  pub stretch : Stretch (bits bytes) at 22 (link_bits l)
  pub point : contact_number l.contact < 256

pub link_read : (bytes : List ℕ) (joints at : ℕ) (l : Link) → link_at bytes joints at ≡ Ok l → LinkRead bytes at l
link_read bytes joints at l e =
    let a = opened (field_at bytes at 5) _ l e in
    let b = opened (field_at bytes (at + 5) 5) _ l a.2 in
    let c = opened (field_at bytes (at + 10) 2) _ l b.2 in
    let d = opened (field_at bytes (at + 12) 2) _ l c.2 in
    let n = opened (field_at bytes (at + 14) 8) _ l d.2 in
    let k = link_code joints a.0 b.0 c.0 d.0 n.0 l (kept (link_of joints a.0 b.0 (contact_of c.0 d.0 n.0)) (fault_at LinkField at) l n.2) in
    let fa = field-read bytes at 5 a.0 a.1 in
    let fb = field-read bytes (at + 5) 5 b.0 b.1 in
    let fc = field-read bytes (at + 10) 2 c.0 c.1 in
    let fd = field-read bytes (at + 12) 2 d.0 d.1 in
    let fn = field-read bytes (at + 14) 8 n.0 n.1 in
    let s = behind at 14 8 (at + 14) refl (behind at 12 2 (at + 12) refl (behind at 10 2 (at + 10) refl (behind at 5 5 (at + 5) refl fa.stretch fb.stretch) fc.stretch) fd.stretch) fn.stretch in
    let p : field_bits 5 a.0 ++ field_bits 5 b.0 ++ field_bits 2 c.0 ++ field_bits 2 d.0 ++ field_bits 8 n.0 ≡ link_bits l =
    (λ i. field_bits 5 (sym k.from_is i) ++ field_bits 5 (sym k.to_is i) ++ field_bits 2 (sym k.contact.kind_is i) ++ field_bits 2 (sym k.contact.area_is i) ++ field_bits 8 (sym k.contact.number_is i)) in
    record {
      stretch = subst (Stretch (bits bytes) at 22) p s;
      point = subst (λ (x : ℕ). x < 256) (sym k.contact.number_is) fn.small;
    }

-- a link that a card can hold
pub record FitLink (joints : ℕ) (l : Link) : Type 0 where
  pub placed : between joints l ≡ true
  pub point : contact_number l.contact < 256

pub link_reads : (bytes : List ℕ) (joints at : ℕ) (l : Link) → joints ≤ 32 → FitLink joints l → Stretch (bits bytes) at 22 (link_bits l) → link_at bytes joints at ≡ Ok l
unfolding field_bits
link_reads bytes joints at l most g s =
    let x = l.contact in
    let b1 = and_parts (ltb l.from joints) _ g.placed in
    let b2 = and_parts (ltb l.to joints) _ b1.1 in
    let from-small : l.from < 32 = omega (arith, ltb-true l.from joints b1.0) in
    let to-small : l.to < 32 = omega (arith, ltb-true l.to joints b2.0) in
    let s14 = front at 14 8 (field_bits 5 l.from ++ field_bits 5 l.to ++ field_bits 2 (kind_code x) ++ field_bits 2 (contact_area x)) (field_bits 8 (contact_number x)) refl s in
    let s12 = front at 12 2 (field_bits 5 l.from ++ field_bits 5 l.to ++ field_bits 2 (kind_code x)) (field_bits 2 (contact_area x)) refl s14 in
    let s10 = front at 10 2 (field_bits 5 l.from ++ field_bits 5 l.to) (field_bits 2 (kind_code x)) refl s12 in
    let ea = field_reads bytes at 5 l.from from-small (front at 5 5 (field_bits 5 l.from) (field_bits 5 l.to) refl s10) in
    let eb = field_reads bytes (at + 5) 5 l.to to-small (back at 5 5 (at + 5) (field_bits 5 l.from) (field_bits 5 l.to) refl refl s10) in
    let ec = field_reads bytes (at + 10) 2 (kind_code x) (kind_small x) (back at 10 2 (at + 10) (field_bits 5 l.from ++ field_bits 5 l.to) (field_bits 2 (kind_code x)) refl refl s12) in
    let ed = field_reads bytes (at + 12) 2 (contact_area x) (contact_area_small x) (back at 12 2 (at + 12) (field_bits 5 l.from ++ field_bits 5 l.to ++ field_bits 2 (kind_code x)) (field_bits 2 (contact_area x)) refl refl s14) in
    let en = field_reads bytes (at + 14) 8 (contact_number x) g.point (back at 14 8 (at + 14) (field_bits 5 l.from ++ field_bits 5 l.to ++ field_bits 2 (kind_code x) ++ field_bits 2 (contact_area x)) (field_bits 8 (contact_number x)) refl refl s) in
    link_from bytes joints at ea eb ec ed en ∙ ap (λ o. ok_or o (fault_at LinkField at)) (link_of_code joints l g.placed)

-- coils
pub length-coil_bits : (c : Coil) → length (coil_bits c) ≡ 12
unfolding field_bits
length-coil_bits c = refl

pub record CoilRead (bytes : List ℕ) (at : ℕ) (c : Coil) : Type 0 where
  pub stretch : Stretch (bits bytes) at 12 (coil_bits c)
  pub point : c.point.number < 256

pub coil_read : (bytes : List ℕ) (at : ℕ) (c : Coil) → coil_at bytes at ≡ Ok c → CoilRead bytes at c
coil_read bytes at c e =
    let a = opened (field_at bytes at 2) _ c e in
    let b = opened (field_at bytes (at + 2) 2) _ c a.2 in
    let n = opened (field_at bytes (at + 4) 8) _ c b.2 in
    let fa = field-read bytes at 2 a.0 a.1 in
    let fb = field-read bytes (at + 2) 2 b.0 b.1 in
    let fn = field-read bytes (at + 4) 8 n.0 n.1 in
    let k = coil_code a.0 b.0 n.0 c fa.small (kept (coil_of a.0 (point_of b.0 n.0)) (fault_at CoilField at) c n.2) in
    let s = behind at 4 8 (at + 4) refl (behind at 2 2 (at + 2) refl fa.stretch fb.stretch) fn.stretch in
    let p : field_bits 2 a.0 ++ field_bits 2 b.0 ++ field_bits 8 n.0 ≡ coil_bits c =
    (λ i. field_bits 2 (sym k.action_is i) ++ field_bits 2 (sym k.point.area_is i) ++ field_bits 8 (sym k.point.number_is i)) in
    record {
      stretch = subst (Stretch (bits bytes) at 12) p s;
      point = subst (λ (x : ℕ). x < 256) (sym k.point.number_is) fn.small;
    }

-- a coil that a card can hold
pub record FitCoil (c : Coil) : Type 0 where
  pub drives : drivable c.point.area ≡ true
  pub point : c.point.number < 256

coil_from : (bytes : List ℕ) (at : ℕ) {action area number : ℕ} → field_at bytes at 2 ≡ Ok action → field_at bytes (at + 2) 2 ≡ Ok area → field_at bytes (at + 4) 8 ≡ Ok number → coil_at bytes at ≡ ok_or (coil_of action (point_of area number)) (fault_at CoilField at)
coil_from bytes at e1 e2 e3 = rw (e1, e2, e3)

pub coil_reads : (bytes : List ℕ) (at : ℕ) (c : Coil) → FitCoil c → Stretch (bits bytes) at 12 (coil_bits c) → coil_at bytes at ≡ Ok c
unfolding field_bits
coil_reads bytes at c g s =
    let a = action_code c.action in
    let r = area_code c.point.area in
    let n = c.point.number in
    let s4 = front at 4 8 (field_bits 2 a ++ field_bits 2 r) (field_bits 8 n) refl s in
    let ea = field_reads bytes at 2 a (action_small c.action) (front at 2 2 (field_bits 2 a) (field_bits 2 r) refl s4) in
    let eb = field_reads bytes (at + 2) 2 r (area_small c.point.area) (back at 2 2 (at + 2) (field_bits 2 a) (field_bits 2 r) refl refl s4) in
    let en = field_reads bytes (at + 4) 8 n g.point (back at 4 8 (at + 4) (field_bits 2 a ++ field_bits 2 r) (field_bits 8 n) refl refl s) in
    coil_from bytes at ea eb en ∙ ap (λ o. ok_or o (fault_at CoilField at)) (coil_of_code c g.drives)
