use Rattle.std.proofs.Common.{◌≡◌, ◌-◌, ◌≤◌, length, drop, Ok}
use Rattle.listings.specs.Reading.{read_from, verdict}
use Rattle.listings.specs.Progress.{reached}
use Rattle.listings.proofs.listing.read.Given as goal

abbrev pub invariant-loop-at : goal.invariant-loop-at
invariant-loop-at l = (read_from (Ok (reached l.draft l.at.byte l.at.line)) (drop l.at.byte l.bytes) ≡ verdict l.bytes) × (l.at.byte ≤ length l.bytes) × (l.at.line ≤ l.at.byte)

abbrev pub decreases-loop-at : goal.decreases-loop-at
decreases-loop-at l = length l.bytes - l.at.byte
