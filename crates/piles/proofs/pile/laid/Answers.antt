use Rattle.std.proofs.Common.{refl}
use Rattle.piles.proofs.pile.laid.Goals as goal

pub returns-in-Bare-Bare : goal.returns-in-Bare-Bare
returns-in-Bare-Bare g c = record { is = rw (c.in-Bare-Bare.is, c.in-Bare-Bare.field-0-is) (c.on_bank.result, c.on_bank.ensures, refl) }

pub returns-in-Bare-Marked : goal.returns-in-Bare-Marked
returns-in-Bare-Marked g c = record { is = rw (c.in-Bare-Marked.is, c.in-Bare-Marked.field-0-is) (c.on_layer.result, c.on_layer.ensures, refl) }

pub returns-in-Bare-Patched : goal.returns-in-Bare-Patched
returns-in-Bare-Patched g c = record { is = rw (c.in-Bare-Patched.is, c.in-Bare-Patched.field-0-is) (c.on_layer-in-Bare-Patched.result, c.on_layer-in-Bare-Patched.ensures, refl) }
