-- A circuit: what a drawn rung means, and the wirings that read it.
use Rattle.std.specs.Prelude.{ℕ, ◌-◌, ◌<◌, ◌↔◌, List, length, slice_index_or}
use Rattle.rows.specs.Rows.{parts_of}
use Rattle.wiring.specs.declared.rung.Coil.{Coil}
use Rattle.wiring.specs.declared.rung.Contact.TheVariants.{Wire}
use Rattle.wiring.specs.declared.rung.Link.{Link}
use Rattle.wiring.specs.declared.rung.Rung.{Rung}
use Rattle.wiring.specs.Lists.{In, Distinct}
use Rattle.wiring.specs.Text.{link_text, Ordered}
use Rattle.wiring.specs.Wiring.{Wiring, leaves, Joint, Runs}

-- joints 0 to joints - 1, the links between them by number, and the coils
pub record Circuit : Type 0 where
  pub joints : ℕ
  pub links : List Link
  pub coils : List Coil

-- the links and coils of a drawn rung
abbrev pub circuit : Rung → Circuit
circuit r = record { joints = r.joints; links = parts_of r.links; coils = parts_of r.coils }

-- the joint that feeds the coils
abbrev pub coil_joint : Circuit → ℕ
coil_joint c = c.joints - 1

-- a wire that joins nothing
abbrev pub bare : Link
bare = record { from = 0; to = 0; contact = Wire }

-- link number i; past the last number it is bare
abbrev pub link_at : Circuit → ℕ → Link
link_at c i = slice_index_or c.links i bare

-- the joint that link number i comes from, and the joint that it goes to
abbrev pub ends : Circuit → ℕ → ℕ × ℕ
ends c i = ((link_at c i).from, (link_at c i).to)

-- the wiring w reads the circuit
pub record Reads (c : Circuit) (w : Wiring ℕ) : Type 0 where
  -- it runs from the left rail to the coil joint
  pub runs : Runs (ends c) w 0 (coil_joint c)
  -- its leaves are the numbers of all links, each once
  pub links_are : (i : ℕ) → In i (leaves w) ↔ (i < length c.links)
  pub once : Distinct (leaves w)
  -- a link touches every joint
  pub touched : (y : ℕ) → y < c.joints → Joint (ends c) y (leaves w)
  -- the branches of each group rise by their lowest link
  pub ordered : Ordered link_text w

-- some wiring reads the circuit
abbrev pub SeriesParallel : Circuit → Type 0
SeriesParallel c = (w : Wiring ℕ) × Reads c w
