use Rattle.std.proofs.Common.{◌≡◌, ◌++◌, ◌*◌, ◌+◌, ◌≤◌, take}
use Rattle.arrayvec.specs.ArrayVec.{array_vec_len}
use Rattle.instructions.specs.Texts.{fields}
use Rattle.instructions.proofs.report.record.Given as goal

abbrev pub invariant-loop-number : goal.invariant-loop-number
invariant-loop-number l = record {
  so_far : l.line.items ≡ l.fn.word ++ fields (take l.number-index l.numbers);
  room : array_vec_len l.line ≤ 2 + 21 * l.number-index;
}
