-- What a scan never does.
use Rattle.std.proofs.Common.{◌≡◌, ℕ, zero, suc, ◌<◌, ◌↔◌, List, [], ◌∷◌, get_or, set, Some, sym, refl, ap, subst, inl, inr, ⊎_elim, arith}
use Rattle.std.specs.List.{slice_get}
use Rattle.signals.specs.Kinds.{either, plain}
use Rattle.signals.specs.declared.plain.Plain.{Plain}
use Rattle.signals.specs.declared.plain.Plain.TheVariants.{Off, On}
use Rattle.points.specs.Points.{index_of}
use Rattle.instructions.specs.declared.instruction.Operand.{Operand}
use Rattle.instructions.specs.declared.instruction.Operand.TheVariants.{True, At}
use Rattle.instructions.specs.declared.instruction.Instruction.TheVariants as instruction
use Rattle.wiring.specs.declared.rung.Coil.{Coil}
use Rattle.wiring.specs.declared.rung.Link.{Link}
use Rattle.wiring.specs.Circuit.{ends, Reads}
use Rattle.wiring.specs.Lists.{In}
use Rattle.wiring.specs.Text.{link_text}
use Rattle.wiring.specs.Wiring.{link, Joint}
use Rattle.scanning.specs.Listings.{Within, Numbered, Listings}
use Rattle.scanning.specs.Machine.{Machine, acts, scanned}
use Rattle.scanning.specs.RuledOut.{self_feeding, self_feeding_words, FedAlike}
use Rattle.scanning.proofs.Agreement.{scans_agree, one_outcome}

only_link : (i : ℕ) → In i (0 ∷ []) ↔ (i < 1)
only_link i = (λ p. ⊎_elim (λ e. omega arith) absurd p, λ h. inl (omega arith))

joints_touched : (y : ℕ) → y < 2 → Joint (ends self_feeding) y (0 ∷ [])
joints_touched zero h = (0, inl refl, inl refl)
joints_touched (suc zero) h = (0, inl refl, inr refl)
joints_touched (suc (suc y)) h = absurd (omega arith)

self_feeding_reads : Reads self_feeding (link 0)
self_feeding_reads = record {
  runs = (refl, refl, omega arith);
  links_are = only_link;
  once = (λ p. absurd p, tt);
  touched = joints_touched;
  ordered = tt;
}

self_feeding_numbered : Numbered self_feeding
self_feeding_numbered = record { contacts = contacts; coils = coils }
  where
    contacts : (l : Link) → In l self_feeding.links → Within l.contact
    contacts l (inl e) = let P : Link → Type 0 = λ x. Within x.contact in subst P (sym e) (omega arith)
    contacts l (inr p) = absurd p

    coils : (x : Coil) → In x self_feeding.coils → x.point.number < 256
    coils x (inl e) = let n = ap (λ (y : Coil). y.point.number) e in omega arith
    coils x (inr (inl e)) = let n = ap (λ (y : Coil). y.point.number) e in omega arith
    coils x (inr (inr p)) = absurd p

self_feeding_listed : Listings (self_feeding ∷ []) self_feeding_words
unfolding link_text
self_feeding_listed = (self_feeding_words, [], record { wiring = link 0; reads = self_feeding_reads; listing = refl }, self_feeding_numbered, refl, refl)

pub fed_alike : {S : Type 0} → FedAlike S
fed_alike {S} = record { by_words = λ k points. refl; by_paths = λ k laws points after h. one_outcome k laws (self_feeding ∷ []) points after (scanned k self_feeding_words points) h (scans_agree k laws (self_feeding ∷ []) self_feeding_words points self_feeding_listed) }

set_on : (xs : List Plain) (j i : ℕ) (r : Plain) → slice_get xs i ≡ Some On → slice_get (set xs j (either (get_or xs j Off) r)) i ≡ Some On
set_on [] j i r h = h
set_on (x ∷ xs) zero zero r h = let e : x ≡ On = cc in ap (λ y. Some (either y r)) e
set_on (x ∷ xs) zero (suc i) r h = h
set_on (x ∷ xs) (suc j) zero r h = h
set_on (x ∷ xs) (suc j) (suc i) r h = set_on xs j i r h

pub set_keeps_on : (m : Machine Plain) (x : Operand) (i : ℕ) → slice_get m.points i ≡ Some On → slice_get (acts plain (instruction.Set x) m).points i ≡ Some On
set_keeps_on m True i h = h
set_keeps_on m (At p) i h = set_on m.points (index_of p) i m.result h
