use Rattle.std.proofs.Common.{◌≡◌, ℕ, ◌++◌, length, take, drop, None, Some, Option, MatchOption, Err, sym, refl, ap, ◌∙◌, arith}
use Rattle.std.proofs.lemmas.List.{take_rest, length-drop}
use Rattle.programs.specs.Drafts.{drafted, standing}
use Rattle.listings.specs.LineReading.{byte_in, line_read}
use Rattle.listings.specs.Reading.{line_led, line_word}
use Rattle.listings.specs.Progress.{reached}
use Rattle.listings.proofs.Cuts.{from_rest}
use Rattle.listings.proofs.Progress.{next-read, next_refused}
use Rattle.listings.proofs.listing.read_next.Goals as goal

none_is : (r : Option ℕ) (A : Type 0) (P : ℕ → Type 0) → ((n : ℕ) → r ≡ Some n → ⊥) → MatchOption r A P → A
none_is None A P f m = m
none_is (Some n) A P f m = absurd (f n refl)

pub returns-in_default : goal.returns-in_default
returns-in_default c =
    let bytes = c.args.bytes.now in
    let byte = c.args.at.byte in
    let whole = take_rest bytes byte in
    let n = length-drop byte bytes in
    let p = c.requires.more in
    let none = none_is c.find_byte.result _ _ (λ n e. c.in_default.not-Some n e) c.find_byte.ensures in
    from_rest (reached c.args.draft.now byte c.args.at.line) (drop byte bytes) (omega arith)
    (ap (byte_in 10) (sym whole) ∙ none ∙ ap length whole)
    ∙ ap Err (sym c.refused.ensures)

pub returns-in-Ok : goal.returns-in-Ok
returns-in-Ok c =
    let bytes = c.args.bytes.now in
    let byte = c.args.at.byte in
    let end = c.in-Some.end in
    let d = c.args.draft.now in
    let whole = take_rest bytes byte in
    let n = length-drop byte bytes in
    let m = ap length whole in
    let f = c.in-Some.ensures in
    let w = f.1 in
    let p = c.requires.more in
    let line = ap (take end) whole in
    let a = c.in-Ok.ensures in (
      next-read bytes d c.add_line.new.draft byte c.args.at.line end p (f.0 ∙ ap (byte_in 10) whole) (omega arith)
          (ap (λ t. line_led (standing d) (line_read t)) (sym line) ∙ a.0) (a.1 ∙ ap (λ t. drafted d ++ line_word (line_read t)) line),
      omega arith,
      omega arith,
      refl,
    )

pub returns-in-Err : goal.returns-in-Err
returns-in-Err c =
    let bytes = c.args.bytes.now in
    let byte = c.args.at.byte in
    let end = c.in-Some.end in
    let d = c.args.draft.now in
    let whole = take_rest bytes byte in
    let n = length-drop byte bytes in
    let m = ap length whole in
    let f = c.in-Some.ensures in
    let w = f.1 in
    let line = ap (take end) whole in
    next_refused bytes d byte c.args.at.line end c.in-Err.cause (f.0 ∙ ap (byte_in 10) whole) (omega arith)
    (ap (λ t. line_led (standing d) (line_read t)) (sym line) ∙ c.in-Err.ensures.0)
    ∙ ap Err (sym c.refused-in-Err.ensures)
