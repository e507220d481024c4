use Rattle.std.proofs.Common.{◌≡◌, ◌+◌, sym, refl, ap, ◌∙◌, arith}
use Rattle.std.specs.Option.{ok_or}
use Rattle.cards.specs.Rungs.{link_of}
use Rattle.cards.proofs.Rows.{there, link_from}
use Rattle.cards.proofs.parts.LinkPart.read.Goals as goal

pub returns-clause-value : goal.returns-clause-value
returns-clause-value c =
    let at = c.args.bits.now.at in
    let bs = c.args.bits.now.bytes.now in
    let a1 : c.field.new.self.at ≡ at + 5 = c.in_ok-from.ensures.after in
    let a2 : c.field-2.new.self.at ≡ at + 10 = omega (arith, c.in_ok-to.ensures.after, a1) in
    let a3 : c.field-3.new.self.at ≡ at + 12 = omega (arith, c.in_ok-kind.ensures.after, a2) in
    let a4 : c.field-4.new.self.at ≡ at + 14 = omega (arith, c.in_ok-area.ensures.after, a3) in
    let s1 = c.field.ensures.same in
    let s2 = c.field-2.ensures.same ∙ s1 in
    let s3 = c.field-3.ensures.same ∙ s2 in
    let s4 = c.field-4.ensures.same ∙ s3 in
    let e1 = there 5 c.field.ensures.value c.in_ok-from.was refl refl in
    let e2 = there 5 c.field-2.ensures.value c.in_ok-to.was s1 a1 in
    let e3 = there 2 c.field-3.ensures.value c.in_ok-kind.was s2 a2 in
    let e4 = there 2 c.field-4.ensures.value c.in_ok-area.was s3 a3 in
    let e5 = there 8 c.field-5.ensures.value c.in_ok-number.was s4 a4 in
    let whole = c.link_of-link.ensures ∙ ap (link_of c.args.joints c.in_ok-from.from c.in_ok-to.to) c.contact_of.ensures in
    c.ok_or.ensures.value ∙ (λ i. ok_or (whole i) (c.at.ensures i)) ∙ sym (link_from bs c.args.joints at e1 e2 e3 e4 e5)
