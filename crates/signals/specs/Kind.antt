-- What a kind of signal is, and the laws that it keeps.
use Rattle.std.specs.Prelude.{◌≡◌}

-- the signals off and on, the two ways to join signals, and the inverse
pub record Kind (S : Type 0) : Type 0 where
  pub off : S
  pub on : S
  pub series : S → S → S
  pub parallel : S → S → S
  pub inverse : S → S

-- all that may be assumed of a kind: series need not commute, parallel need not be idempotent, off need not annihilate
pub record Laws {S : Type 0} (k : Kind S) : Type 0 where
  -- parallel joining is associative and commutative, and off is neutral in it
  pub parallel_assoc : (x y z : S) → k.parallel (k.parallel x y) z ≡ k.parallel x (k.parallel y z)
  pub parallel_comm : (x y : S) → k.parallel x y ≡ k.parallel y x
  pub parallel_off : (x : S) → k.parallel k.off x ≡ x
  -- series joining is associative, and on is neutral on both sides
  pub series_assoc : (x y z : S) → k.series (k.series x y) z ≡ k.series x (k.series y z)
  pub series_on_left : (x : S) → k.series k.on x ≡ x
  pub series_on_right : (x : S) → k.series x k.on ≡ x
  -- series joining distributes over parallel joining on both sides
  pub spread_left : (x y z : S) → k.series x (k.parallel y z) ≡ k.parallel (k.series x y) (k.series x z)
  pub spread_right : (x y z : S) → k.series (k.parallel x y) z ≡ k.parallel (k.series x z) (k.series y z)
  -- the inverse taken twice gives the signal back, the inverse of on is off, and on differs from off
  pub inverse_twice : (x : S) → k.inverse (k.inverse x) ≡ x
  pub inverse_on : k.inverse k.on ≡ k.off
  pub apart : k.on ≡ k.off → ⊥
