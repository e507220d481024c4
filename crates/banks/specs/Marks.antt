-- What a strip shows of the bank below.
use Rattle.std.specs.Prelude.{Bool, true, false, List, [], ◌∷◌}
use Rattle.signals.specs.Kind.{Kind}

-- a signal on its way past a mark: a mark inverts it
abbrev pub past : {S : Type 0} → Kind S → Bool → S → S
past k true x = k.inverse x
past k false x = x

-- the signals of a bank, each past the mark of its index; beyond the inputs there are no marks
abbrev pub shown : {S : Type 0} → Kind S → List Bool → List S → List S
shown k [] xs = xs
shown k (m ∷ ms) [] = []
shown k (m ∷ ms) (x ∷ xs) = past k m x ∷ shown k ms xs
