use Rattle.std.proofs.Common.{◌≡◌, ◌+◌, ◌*◌, Ok, sym, ◌∙◌, arith}
use Rattle.rows.specs.Rows.{parts_of}
use Rattle.cards.specs.Rungs.{links_at, coils_at}
use Rattle.cards.proofs.Limits.{sizes_counted, links_linked, coils-driven}
use Rattle.cards.proofs.Rows.{rung_from}
use Rattle.cards.proofs.bits.Bits.rung.Goals as goal

pub invariant_of-result : goal.invariant_of-result
invariant_of-result c =
    let n = c.in_ok-sizes.sizes in
    let k = sizes_counted c.args.self.now.bytes.now c.args.self.now.at n (sym c.sizes.ensures.value ∙ c.in_ok-sizes.was) in
    let ll = c.in_ok-fill.ensures.many in
    let lc = c.in_ok-fill-2.ensures.many in
    record {
      two = k.two;
      most = k.most;
      some_link = omega (arith, k.some_link, ll);
      most_links = omega (arith, k.most_links, ll);
      some_coil = omega (arith, k.some_coil, lc);
      most_coils = omega (arith, k.most_coils, lc);
      linked = links_linked n.links c.sizes.new.self.bytes.now n.joints c.sizes.new.self.at (parts_of c.fill.new.row) c.in_ok-fill.ensures.value;
      driven = coils-driven n.coils c.fill.new.self.bytes.now c.fill.new.self.at (parts_of c.fill-2.new.row) c.in_ok-fill-2.ensures.value;
    }

pub returns : goal.returns
returns c =
    let at = c.args.self.now.at in
    let bs = c.args.self.now.bytes.now in
    let n = c.in_ok-sizes.sizes in
    let a1 : c.sizes.new.self.at ≡ at + 17 = c.in_ok-sizes.ensures.ahead.1 in
    let a2 : c.fill.new.self.at ≡ at + 17 + 22 * n.links = omega (arith, c.in_ok-fill.ensures.ahead.1, a1) in
    let s1 = c.sizes.ensures.ahead.0 in
    let s2 = c.fill.ensures.ahead.0 ∙ s1 in
    let e1 = sym c.sizes.ensures.value ∙ c.in_ok-sizes.was in
    let e2 : links_at n.links bs n.joints (at + 17) ≡ Ok (parts_of c.fill.new.row) = (λ i. links_at n.links (sym s1 i) n.joints (sym a1 i)) ∙ c.in_ok-fill.ensures.value in
    let e3 : coils_at n.coils bs (at + 17 + 22 * n.links) ≡ Ok (parts_of c.fill-2.new.row) = (λ i. coils_at n.coils (sym s2 i) (sym a2 i)) ∙ c.in_ok-fill-2.ensures.value in
    record {
      value = rung_from bs at n e1 e2 e3;
      ahead = (c.fill-2.ensures.ahead.0 ∙ s2, omega (arith, c.in_ok-fill-2.ensures.ahead.1, a2, c.in_ok-fill.ensures.many, c.in_ok-fill-2.ensures.many));
    }
