use Rattle.std.proofs.Common.{◌+◌, ◌≤◌, ◌++◌, length, get_or, take, drop, sym, ap, ◌∙◌, arith}
use Rattle.std.proofs.lemmas.List.{length-append}
use Rattle.instructions.specs.Lines.{word_line, listing}
use Rattle.instructions.proofs.Texts.{joined-next, joined-within, put_after}
use Rattle.instructions.proofs.listing.write_lines.Goals as goal

pub slice_bounds-copy_from_slice-end : goal.slice_bounds-copy_from_slice-end
slice_bounds-copy_from_slice-end c =
    let i = c.loop-word.word-index in
    let ws = c.args.words.now in
    let line = word_line (get_or ws i 0) in
    let n = ap length (joined-next word_line ws i 0 (omega arith)) ∙ length-append (listing (take i ws)) line in
    let w = c.loop-word.invariant.written in
    let within = joined-within word_line ws (i + 1) in
    let len = c.len.ensures.value ∙ ap length c.line-line.ensures in
    let same = c.loop-word.auto.buffer in
    let h : c.loop-word.end + c.len.result ≤ length c.loop-word.buffer = omega arith in
    h

pub loop-word-preserved : goal.loop-word-preserved
loop-word-preserved c =
    let i = c.loop-word.word-index in
    let ws = c.args.words.now in
    let line = word_line (get_or ws i 0) in
    let next = joined-next word_line ws i 0 (omega arith) in
    let n = ap length next ∙ length-append (listing (take i ws)) line in
    let w = c.loop-word.invariant.written in
    let within = joined-within word_line ws (i + 1) in
    let len = c.len.ensures.value ∙ ap length c.line-line.ensures in
    let text = c.copy_from_slice.ensures.after ∙ c.deref.ensures.0 ∙ c.line-line.ensures in
    record {
      written = omega arith;
      after = put_after (listing (take i ws)) line c.args.buffer.now c.loop-word.buffer c.copy_from_slice.new.self c.loop-word.end c.len.result w len (omega arith) c.loop-word.invariant.after text ∙ ap (λ l. l ++ drop (c.loop-word.end + c.len.result) c.args.buffer.now) (sym next);
    }
