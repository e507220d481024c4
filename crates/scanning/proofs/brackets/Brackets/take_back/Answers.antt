use Rattle.std.proofs.Common.{◌≡◌, ◌<◌, List, [], ◌∷◌, false, true, length, refl, ap, ◌∙◌, arith}
use Rattle.scanning.proofs.Piles.{pile_none, pile_last}
use Rattle.scanning.proofs.brackets.Brackets.take_back.Goals as goal

nothing : {Y : Type 0} (ys : List Y) → (0 < length ys → false ≡ true) → ys ≡ []
nothing [] f = refl
nothing (y ∷ ys) f = let e = f (omega arith) in cc

pub returns-in_err-joining : goal.returns-in_err-joining
returns-in_err-joining g c =
    let e = nothing _ c.in_err-joining.ensures.variant.1 in
    rw c.from_residual.ensures (pile_none _ _ e, pile_none _ _ (ap (λ v. v.items) c.in_err-joining.ensures.empty ∙ e))

pub bounds-self-len : goal.bounds-self-len
bounds-self-len g c = omega (arith, c.in_ok-joining.ensures.len)

pub returns : goal.returns
returns g c =
    let b = c.args.self.now in
    let lt : length c.pop.new.self.items < length b.aside.now = omega (arith, c.in_ok-joining.ensures.len) in
    rw (c.in_ok-joining.ensures.items, c.len.ensures.value) (pile_last b.aside.now c.pop.new.self.items c.index-self-len.result c.in_ok-joining.joining lt)
