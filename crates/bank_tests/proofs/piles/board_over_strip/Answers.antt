use Rattle.std.proofs.Common.{ℕ, cond, ltb, length, Some, None, ap, ◌∙◌}
use Rattle.banks.specs.Marks.{shown}
use Rattle.banks.specs.Short.{length-shown, length-patched}
use Rattle.bank_tests.proofs.piles.board_over_strip.Goals as goal

pub returns : goal.returns
returns g c =
    let k = g.B.Kind.Signal.kind in
    let top = c.exchange.new.self in
    let home = ap (λ l. l.bank) (c.exchange.ensures.below ∙ c.over-board.ensures.below) ∙ c.mark.ensures.below ∙ c.over-strip.ensures.below in
    let handed = c.into_bank-2.ensures ∙ ap (λ l. l.bank) c.into_bank.ensures in
    let done = c.write_and_read-read.ensures in
    record {
      back = done.back ∙ ap (λ (n : ℕ). cond (ltb c.args.input n) (Some c.args.signal) None) (length-patched k top.table.to (shown k top.bank.marks (g.B.Bank.points top.bank.bank)) ∙ length-shown k top.bank.marks (g.B.Bank.points top.bank.bank) ∙ ap (λ b. length (g.B.Bank.points b)) home);
      untouched = ap g.B.Bank.rest handed ∙ ap (λ l. l.1.1) done.untouched ∙ ap g.B.Bank.rest home;
    }
