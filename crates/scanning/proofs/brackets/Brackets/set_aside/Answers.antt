use Rattle.std.proofs.Common.{◌<◌, length, arith}
use Rattle.std.proofs.Math.ListN.{length-set}
use Rattle.scanning.proofs.Piles.{length_pile, pile_more}
use Rattle.scanning.proofs.brackets.Brackets.set_aside.Goals as goal

pub bounds-self-len : goal.bounds-self-len
bounds-self-len g c = let h = length_pile c.args.self.now.aside.now c.args.self.now.joinings.items in omega arith

pub push-requires : goal.push-requires
push-requires g c = let h = length_pile c.args.self.now.aside.now c.args.self.now.joinings.items in (omega arith, omega arith)

pub invariant_of-self-clause-few : goal.invariant_of-self-clause-few
invariant_of-self-clause-few g c = let h = length_pile c.args.self.now.aside.now c.args.self.now.joinings.items in omega (arith, c.push.ensures.len)

pub invariant_of-self-clause-enough : goal.invariant_of-self-clause-enough
invariant_of-self-clause-enough g c = omega (arith, length-set c.args.self.now.aside.now c.len.result c.args.signal)

pub returns : goal.returns
returns g c =
    let b = c.args.self.now in
    let h = length_pile b.aside.now b.joinings.items in
    let lt : length b.joinings.items < length b.aside.now = omega arith in
    rw (c.push.ensures.items, c.len.ensures.value) (pile_more b.aside.now b.joinings.items c.args.signal c.args.joining lt)
