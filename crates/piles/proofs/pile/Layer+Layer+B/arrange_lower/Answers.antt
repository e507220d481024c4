use Rattle.std.proofs.Common.{sym, refl, ap, ◌∙◌, rules}
use Rattle.piles.specs.Layered.{bottom}
use Rattle.piles.proofs.pile.Layer+Layer+B.arrange_lower.Goals as goal

pub returns-in-Bare : goal.returns-in-Bare
returns-in-Bare g c =
    (c.arrange.new.arg2, record { shown = _; shows = sym (ap bottom c.in-Bare.is); left = _; met = c.arrange.ensures; leaves = refl }, search rules)

pub returns-in-Marked : goal.returns-in-Marked
returns-in-Marked g c =
    (c.arrange-in-Marked.new.arg2, record { shown = _; shows = c.below_mut.ensures.value ∙ sym (ap bottom c.in-Marked.is); left = _; met = c.arrange-in-Marked.ensures; leaves = refl }, search rules)

pub returns-in-Patched : goal.returns-in-Patched
returns-in-Patched g c =
    (c.arrange-in-Patched.new.arg2, record { shown = _; shows = c.below_mut-in-Patched.ensures.value ∙ sym (ap bottom c.in-Patched.is); left = _; met = c.arrange-in-Patched.ensures; leaves = refl }, search rules)
