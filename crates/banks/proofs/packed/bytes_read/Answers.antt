use Rattle.std.proofs.Common.{◌<◌, ◌≤◌, length, Some, sym, ap, ◌∙◌, arith}
use Rattle.std.proofs.lemmas.Option.{slice_get_past}
use Rattle.banks.specs.Packing.{unpacked, meant, held}
use Rattle.banks.specs.Short.{length-unpacked}
use Rattle.banks.proofs.Pairs.{slice_get-unpacked}
use Rattle.banks.proofs.packed.bytes_read.Goals as goal

pub returns-then-index-bytes_count : goal.returns-then-index-bytes_count
returns-then-index-bytes_count c =
    let h : c.args.index < held c.args.bytes.now = omega (arith, c.bytes_count.ensures) in
    ap Some (c.from.ensures ∙ ap meant c.at.ensures) ∙ sym (slice_get-unpacked c.args.bytes.now c.args.index h)

pub returns-else-index-bytes_count : goal.returns-else-index-bytes_count
returns-else-index-bytes_count c =
    let h : length (unpacked c.args.bytes.now) ≤ c.args.index = omega (arith, c.bytes_count.ensures, length-unpacked c.args.bytes.now) in
    sym (slice_get_past (unpacked c.args.bytes.now) c.args.index h)
