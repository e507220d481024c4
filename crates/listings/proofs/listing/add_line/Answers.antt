use Rattle.std.proofs.Common.{◌≡◌, Some, Ok, Err, sym, ap, ◌∙◌, subst}
use Rattle.std.proofs.lemmas.Result.{err_from_is_err_and}
use Rattle.programs.specs.Drafts.{drafted, standing}
use Rattle.listings.specs.LineReading.{line_read}
use Rattle.listings.specs.Progress.{LineAdded}
use Rattle.listings.proofs.Progress.{line_led_lem, line_drafted}
use Rattle.listings.proofs.listing.add_line.Goals as goal

pub returns-in_err-add : goal.returns-in_err-add
returns-in_err-add c =
    let text = c.args.text.now in
    let i = c.in_ok-instruction.instruction in
    let word = c.from.result in
    let before = c.args.draft.now in
    let says : Some i ≡ line_read text = sym c.in_ok-instruction.ensures.ok_part ∙ c.read_line.ensures in
    let a = c.in_err-add.ensures in
    let p = err_from_is_err_and c.from_residual-in_err-add.result c.from_residual-in_err-add.ensures.1 in
    subst (λ r. LineAdded before text r c.add.new.self) (sym (p.1 ∙ ap Err p.2))
    (line_led_lem text i word (standing before) (Err c.in_err-add.field-0.0) says c.from.ensures a.0, a.1)

pub returns : goal.returns
returns c =
    let text = c.args.text.now in
    let i = c.in_ok-instruction.instruction in
    let word = c.from.result in
    let before = c.args.draft.now in
    let after = c.add.new.self in
    let says : Some i ≡ line_read text = sym c.in_ok-instruction.ensures.ok_part ∙ c.read_line.ensures in
    let a = c.in_ok-add.ensures in
    (line_led_lem text i word (standing before) (Ok (standing after)) says c.from.ensures a.0, line_drafted text i word (drafted before) (drafted after) says c.from.ensures a.1)
