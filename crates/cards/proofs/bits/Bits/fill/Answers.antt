use Rattle.std.proofs.Common.{◌≡◌, ◌+◌, ◌*◌, ◌<◌, length, sym, ◌∙◌, arith}
use Rattle.rows.specs.Rows.{parts_of}
use Rattle.rows.proofs.Keeping.{kept_one, kept_len}
use Rattle.std.proofs.lemmas.Result.{err_from_is_err_and}
use Rattle.cards.proofs.Rows.{filled_more, filled_fault, filled_all, took_fault}
use Rattle.cards.proofs.bits.Bits.fill.Goals as goal

pub returns-in_err-read-clause-value : goal.returns-in_err-read-clause-value
returns-in_err-read-clause-value g c =
    let part = g.T.Part.part_at c.args.self.now.bytes.now c.args.joints in
    let is : part (c.args.self.now.at + g.T.Part.width * c.loop.counter) ≡ _ = sym (rw (c.loop.invariant.same, c.loop.invariant.at) at c.read.ensures.value) ∙ c.in_err-read.was in
    let out = err_from_is_err_and c.from_residual.result c.from_residual.ensures.1 in
    took_fault _ (filled_fault part g.T.Part.width c.args.count c.args.self.now.at c.loop.counter (parts_of c.loop.row) _ (omega arith) is c.loop.invariant.filled) out.1 out.2

pub loop-preserved : goal.loop-preserved
loop-preserved g c =
    let part = g.T.Part.part_at c.args.self.now.bytes.now c.args.joints in
    let w = g.T.Part.width in
    let at = c.args.self.now.at in
    let i = c.loop.counter in
    let is : part (at + w * i) ≡ _ = sym (rw (c.loop.invariant.same, c.loop.invariant.at) at c.read.ensures.value) ∙ c.in_ok-read.was in
    let room : length (parts_of c.loop.row) < g.row.N = omega (arith, c.loop.invariant.many, c.requires.few) in
    record {
      at = omega (arith, c.in_ok-read.ensures.ahead.1, c.loop.invariant.at);
      same = c.read.ensures.ahead.0 ∙ c.loop.invariant.same;
      filled = rw (kept_one _ _ c.push.result _ room c.push.ensures) (filled_more part w c.args.count at i (parts_of c.loop.row) _ (omega arith) is c.loop.invariant.filled);
      many = omega (arith, kept_len _ _ c.push.result _ room c.push.ensures, c.loop.invariant.many);
    }

pub returns-clause-value : goal.returns-clause-value
returns-clause-value g c =
    let e : c.loop.counter ≡ c.args.count = omega arith in
    filled_all _ _ c.args.count c.args.self.now.at c.loop.counter (parts_of c.loop.row) e c.loop.invariant.filled
