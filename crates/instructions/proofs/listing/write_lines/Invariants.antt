use Rattle.std.proofs.Common.{◌≡◌, ◌++◌, length, take, drop}
use Rattle.instructions.specs.Lines.{listing}
use Rattle.instructions.proofs.listing.write_lines.Given as goal

abbrev pub invariant-loop-word : goal.invariant-loop-word
invariant-loop-word l = record {
  written : l.end ≡ length (listing (take l.word-index l.words));
  after : l.buffer ≡ listing (take l.word-index l.words) ++ drop l.end l.initial.buffer;
}
