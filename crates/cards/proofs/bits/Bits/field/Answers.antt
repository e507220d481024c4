use Rattle.std.proofs.Common.{◌≡◌, ◌+◌, ◌*◌, ◌^◌, ◌<◌, ◌≤◌, leb, length, get_or, Ok, sym, refl, ap, ◌∙◌, arith, rules, tests, lit<}
use Rattle.std.proofs.lemmas.Bool.{le-leb, cond-true}
use Rattle.std.proofs.lemmas.Fn.{serves_by}
use Rattle.std.proofs.iter.Serving.{serving}
use Rattle.std.proofs.lemmas.Iterator.{YieldsList-from_range}
use Rattle.std.proofs.lemmas.Iterator.Consumers.{YieldsList-turn, fold_from_yields_List}
use Rattle.std.proofs.lemmas.List.FromFn.{length-range_with_len}
use Rattle.cards.specs.Bits.{bits, field_at}
use Rattle.cards.proofs.Places.{fold_field, doubled, below_15}
use Rattle.cards.proofs.Stretches.{field-read}
use Rattle.cards.proofs.bits.Bits.field.Goals as goal

pub fold-value-requires-clause-callable : goal.fold-value-requires-clause-callable
fold-value-requires-clause-callable c =
    let at = c.args.self.now.at in
    let road = YieldsList-from_range at (at + c.args.width) c.args.width refl (omega arith) in
    serves_by _ (λ xs q. q.1 < 2 ^ length xs)
    (λ xs q x v j r. let h : v.1 < q.1 * 2 + 2 = search (rules, tests, arith) in doubled xs x q.1 v.1 j h) _ _ _ _ (lit< tt)
    (λ xs t q x u y e j. let h : q.1 < 32768 = below_15 q.1 (length xs) j (let m = YieldsList-turn road xs t y _ u x refl e in omega (arith, m.0, length-range_with_len at c.args.width)) in grind (arith, serving))

pub returns : goal.returns
returns c =
    let at = c.args.self.now.at in
    let w = c.args.width in
    let bs = c.args.self.now.bytes.now in
    let road = YieldsList-from_range at (at + w) w refl (omega arith) in
    let f = fold_from_yields_List _ (λ a i. a * 2 + get_or (bits bs) i 0) 0 c.fold-value.result c.fold-value.ensures.ran road (λ a x b q k. (search rules, search (rules, tests))) in
    let inside : at + w ≤ 8 * length bs = omega arith in
    let e : field_at bs at w ≡ Ok c.fold-value.result = cond-true (leb (at + w) (8 * length bs)) _ _ (le-leb (at + w) (8 * length bs) inside) ∙ ap Ok (sym (f ∙ fold_field bs at w inside)) in
    record {
      value = sym e;
      small = (field-read bs at w c.fold-value.result e).small;
      after = refl;
      same = refl;
    }
