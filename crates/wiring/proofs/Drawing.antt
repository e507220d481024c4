-- What the limits of a drawn rung say of the circuit that it means.
use Rattle.std.proofs.Common.{◌≡◌, ℕ, zero, suc, ◌<◌, ◌≤◌, Bool, true, false, ◌&&◌, ◌≢◌, List, [], ◌∷◌, length, get_or, refl, arith}
use Rattle.std.proofs.lemmas.Bool.Decides.{nat_tests}
use Rattle.wiring.specs.declared.rung.Link.{Link}
use Rattle.wiring.specs.declared.rung.Rung.{Rung}
use Rattle.wiring.specs.Circuit.{circuit, bare, link_at}
use Rattle.wiring.specs.Drawn.{between, linked}

-- the ends of a link that lies between joints
pub record Joins (joints : ℕ) (l : Link) : Type 0 where
  pub from : l.from < joints
  pub to : l.to < joints
  pub apart : l.from ≢ l.to

and_left : (a b : Bool) → (a && b) ≡ true → a ≡ true
and_left true b e = refl
and_left false b e = e

and_right : (a b : Bool) → (a && b) ≡ true → b ≡ true
and_right true b e = e
and_right false b e = grind (arith, nat_tests)

joins : (joints : ℕ) (l : Link) → between joints l ≡ true → Joins joints l
joins joints l e = record { from = grind (arith, nat_tests); to = grind (arith, nat_tests); apart = grind (arith, nat_tests) }

-- every link of a list that is linked
pub linked-at : (joints : ℕ) (ls : List Link) → linked joints ls ≡ true → (i : ℕ) → i < length ls → Joins joints (get_or ls i bare)
linked-at joints [] e i h = absurd (omega arith)
linked-at joints (l ∷ ls) e zero h = joins joints l (and_left _ _ e)
linked-at joints (l ∷ ls) e (suc i) h = linked-at joints ls (and_right _ _ e) i (omega arith)

-- a drawn rung has 64 links at most
pub links_few : (r : Rung) → length (circuit r).links ≤ 64
links_few r = r.most_links

-- every link of a drawn rung lies between two of its joints
pub link_joins : (r : Rung) (i : ℕ) → i < length (circuit r).links → Joins r.joints (link_at (circuit r) i)
link_joins r i h = linked-at r.joints (circuit r).links r.linked i h
