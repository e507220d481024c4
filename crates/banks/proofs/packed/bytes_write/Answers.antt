use Rattle.std.proofs.Common.{◌/◌, ◌%◌, ◌<◌, ◌≤◌, length, get_or, drop, set, sym, ap, ◌∙◌, arith}
use Rattle.std.proofs.lemmas.List.{set_past}
use Rattle.std.proofs.lemmas.Bool.{lt-ltb, le-ltb}
use Rattle.banks.specs.Packing.{unpacked, with_pair, held}
use Rattle.banks.specs.Short.{length-unpacked}
use Rattle.banks.proofs.Pairs.{set-unpacked, drop-after}
use Rattle.banks.proofs.packed.bytes_write.Goals as goal

pub returns-then-index-bytes_count-clause-told : goal.returns-then-index-bytes_count-clause-told
returns-then-index-bytes_count-clause-told c =
    let k : c.args.index < length (unpacked c.args.bytes.now) = omega (arith, c.bytes_count.ensures, length-unpacked c.args.bytes.now) in
    sym (lt-ltb c.args.index (length (unpacked c.args.bytes.now)) k)

pub returns-then-index-bytes_count-clause-after : goal.returns-then-index-bytes_count-clause-after
returns-then-index-bytes_count-clause-after c =
    let bytes = c.args.bytes.now in
    let i = c.args.index in
    let h : c.args.index < held c.args.bytes.now = omega (arith, c.bytes_count.ensures) in
    let e = c.put.ensures ∙ ap (with_pair (get_or bytes (i / 4) 0) (i % 4)) c.from.ensures in
    ap (λ b. unpacked (set bytes (i / 4) b)) e ∙ set-unpacked bytes i c.args.signal h

pub returns-then-index-bytes_count-clause-untouched : goal.returns-then-index-bytes_count-clause-untouched
returns-then-index-bytes_count-clause-untouched c =
    let bytes = c.args.bytes.now in
    let i = c.args.index in
    let h : c.args.index < held c.args.bytes.now = omega (arith, c.bytes_count.ensures) in
    let e = c.put.ensures ∙ ap (with_pair (get_or bytes (i / 4) 0) (i % 4)) c.from.ensures in
    ap (λ b. drop 192 (set bytes (i / 4) b)) e ∙ drop-after bytes i c.args.signal h

pub returns-else-index-bytes_count-clause-told : goal.returns-else-index-bytes_count-clause-told
returns-else-index-bytes_count-clause-told c =
    let k : length (unpacked c.args.bytes.now) ≤ c.args.index = omega (arith, c.bytes_count.ensures, length-unpacked c.args.bytes.now) in
    sym (le-ltb c.args.index (length (unpacked c.args.bytes.now)) k)

pub returns-else-index-bytes_count-clause-after : goal.returns-else-index-bytes_count-clause-after
returns-else-index-bytes_count-clause-after c =
    let k : length (unpacked c.args.bytes.now) ≤ c.args.index = omega (arith, c.bytes_count.ensures, length-unpacked c.args.bytes.now) in
    sym (set_past (unpacked c.args.bytes.now) c.args.index c.args.signal k)
