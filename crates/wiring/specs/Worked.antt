-- Two worked circuits.
use Rattle.std.specs.Prelude.{ℕ, List, [], ◌∷◌}
use Rattle.points.specs.declared.point.Area.TheVariants.{Input, Output}
use Rattle.wiring.specs.Circuit.{Circuit}
use Rattle.wiring.specs.declared.rung.Action.TheVariants.{Store}
use Rattle.wiring.specs.declared.rung.Coil.{Coil}
use Rattle.wiring.specs.declared.rung.Contact.TheVariants.{Open}
use Rattle.wiring.specs.declared.rung.Link.{Link}
use Rattle.wiring.specs.Text.{Word, ld, and, and_open, or_open, close}
use Rattle.wiring.specs.Wiring.{Wiring, link, series, parallel}

-- a link whose contact is open at rest, on the input of that number
abbrev pub reads_input : ℕ → ℕ → ℕ → Link
reads_input from to n = record { from = from; to = to; contact = Open (record { area = Input; number = n }) }

-- a coil that stores to output 0
abbrev pub stores_output : Coil
stores_output = record { action = Store; point = record { area = Output; number = 0 } }

-- from joint 1 to the coil joint there are two branches: straight, and by joint 2
abbrev pub detour : Circuit
detour = record {
  joints = 4;
  links = reads_input 0 1 0 ∷ (reads_input 1 3 1 ∷ (reads_input 1 2 2 ∷ (reads_input 2 3 3 ∷ [])));
  coils = stores_output ∷ [];
}

-- link 0, and then link 1 beside links 2 and 3
abbrev pub detour_wiring : Wiring ℕ
detour_wiring = series (link 0) (parallel (link 1) (series (link 2) (link 3)))

-- its text
abbrev pub detour-text : List Word
detour-text = ld 0 ∷ (and_open ∷ (ld 1 ∷ (or_open ∷ (ld 2 ∷ (and 3 ∷ (close ∷ (close ∷ [])))))))

-- two ways from the left rail to the coil joint, by joint 1 and by joint 2, with a cross-link from 1 to 2
abbrev pub bridge : Circuit
bridge = record {
  joints = 4;
  links = reads_input 0 1 0 ∷ (reads_input 0 2 1 ∷ (reads_input 1 2 2 ∷ (reads_input 1 3 3 ∷ (reads_input 2 3 4 ∷ []))));
  coils = stores_output ∷ [];
}
