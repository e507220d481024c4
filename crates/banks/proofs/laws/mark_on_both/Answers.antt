use Rattle.std.proofs.Common.{true, set, sym, ap, ◌∙◌}
use Rattle.banks.specs.Marks.{shown}
use Rattle.banks.proofs.Marking.{shown_twice}
use Rattle.banks.proofs.laws.mark_on_both.Goals as goal

pub returns : goal.returns
returns g c =
    let k = g.B.Kind.Signal.kind in
    let pile = c.mark-2.new.self in
    let xs = g.B.Bank.points c.mark-2.new.self.bank.bank in
    let inner = c.mark-2.ensures.below ∙ c.over-upper.ensures.below in
    let below = ap (λ s. s.bank) inner ∙ c.mark.ensures.below ∙ c.over-lower.ensures.below in
    let upper = c.mark-2.ensures.marked ∙ ap (λ ms. set ms c.args.input true) c.over-upper.ensures.unmarked in
    let lower = ap (λ s. s.marks) inner ∙ c.mark.ensures.marked ∙ ap (λ ms. set ms c.args.input true) c.over-lower.ensures.unmarked in
    record {
      below = below;
      upper = upper;
      lower = lower;
      shows = ap (λ ms. shown k ms (shown k pile.bank.marks xs)) (upper ∙ sym lower) ∙ shown_twice k g.met.B.Kind.Signal.laws pile.bank.marks xs ∙ ap g.B.Bank.points below;
    }
