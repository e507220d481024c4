use Rattle.std.proofs.Common.{sym, ◌∙◌}
use Rattle.banks.specs.Short.{length-unpacked}
use Rattle.banks.proofs.packed.PackedBankBank.count.Goals as goal

pub returns : goal.returns
returns c = c.bytes_count.ensures ∙ sym (length-unpacked c.args.self.now.bytes.now)
