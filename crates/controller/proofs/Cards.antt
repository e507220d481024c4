-- An accepted card has rungs, and its words are their listings.
use Rattle.std.proofs.Common.{ℕ, ◌<◌, List, [], ◌∷◌, Ok, sym, refl, subst, inl, inr}
use Rattle.std.specs.List.{AllByRecursion}
use Rattle.wiring.specs.declared.rung.Contact.{Contact}
use Rattle.wiring.specs.declared.rung.Contact.TheVariants.{Wire, Open, Closed}
use Rattle.wiring.specs.declared.rung.Link.{Link}
use Rattle.wiring.specs.declared.rung.Coil.{Coil}
use Rattle.wiring.specs.Circuit.{Circuit}
use Rattle.wiring.specs.Lists.{In}
use Rattle.cards.specs.Encoding.{Drawable, contact_number}
use Rattle.translation.specs.Acceptance.{Written, none, more}
use Rattle.translation.specs.Judgement.{CardJudged}
use Rattle.translation.proofs.Accepting.{accepted_exactly}
use Rattle.scanning.specs.Listings.{Within, Numbered, Listings}
use Rattle.controller.specs.Promise.{CardAccepted}

-- what holds of all holds of a member
member : {A : Type 0} (P : A → Type 0) (xs : List A) → AllByRecursion P xs → (x : A) → In x xs → P x
member P [] a x i = absurd i
member P (y ∷ ys) a x (inl e) = subst P (sym e) a.0
member P (y ∷ ys) a x (inr i) = member P ys a.1 x i

within : (x : Contact) → contact_number x < 256 → Within x
within Wire h = tt
within (Open p) h = h
within (Closed p) h = h

numbered : (c : Circuit) → Drawable c → Numbered c
numbered c d =
    record {
      contacts = λ l i. within l.contact (member (λ (x : Link). contact_number x.contact < 256) c.links d.contact_points l i);
      coils = λ x i. member (λ (y : Coil). y.point.number < 256) c.coils d.coil_points x i;
    }

listings_of : (cs : List Circuit) (words : List ℕ) → AllByRecursion Drawable cs → Written cs words → Listings cs words
listings_of cs words d none = refl
listings_of cs words d (more c new ds rest l s w) =
    (new, rest, record { wiring = l.some.0; reads = l.some.1; listing = sym (l.every l.some.0 l.some.1) }, numbered c d.0, listings_of ds rest d.1 w, refl)

pub card_accepted : (bytes words : List ℕ) → CardJudged bytes (Ok words) → (cs : List Circuit) × CardAccepted bytes cs words
card_accepted bytes words j =
    let r = (accepted_exactly bytes words).0 j in (
      r.0,
      record {
        judged = j;
        encoded = r.1;
        few = r.2;
        drawable = r.3;
        translates = r.4;
        listed = listings_of r.0 words r.3 r.4.written;
      },
    )
