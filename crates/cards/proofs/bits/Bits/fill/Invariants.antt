use Rattle.std.proofs.Common.{◌≡◌, ◌+◌, ◌*◌, length}
use Rattle.rows.specs.Rows.{parts_of}
use Rattle.cards.proofs.Rows.{Filled}
use Rattle.cards.proofs.bits.Bits.fill.Given as goal

abbrev pub invariant-loop : goal.invariant-loop
invariant-loop g l = record {
  at : l.self.at ≡ l.initial.self.at + g.T.Part.width * l.counter;
  same : l.self.bytes.now ≡ l.initial.self.bytes.now;
  filled : Filled (g.T.Part.part_at l.initial.self.bytes.now l.joints) g.T.Part.width l.count l.initial.self.at l.counter (parts_of l.row);
  many : length (parts_of l.row) ≡ l.counter;
}
