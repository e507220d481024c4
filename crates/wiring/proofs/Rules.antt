-- The rules of the text, one by one.
use Rattle.std.proofs.Common.{◌≡◌, ℕ, [], ◌∷◌, ◌++◌, refl}
use Rattle.wiring.specs.Text.{ld, and, or, and_open, or_open, close, in_series, in_parallel, link_text, text}
use Rattle.wiring.specs.Wiring.{Wiring, link, series, parallel}

-- where a part stands first
pub first_link : (i : ℕ) → (text link_text (link i)).first ≡ ld i ∷ []
unfolding link_text
first_link i = refl

pub first_series : (a b : Wiring ℕ) → (text link_text (series a b)).first ≡ (text link_text a).first ++ (text link_text b).later_and
unfolding in_series
first_series a b = refl

pub first_parallel : (a b : Wiring ℕ) → (text link_text (parallel a b)).first ≡ (text link_text a).first ++ (text link_text b).later_or
unfolding in_parallel
first_parallel a b = refl

-- where it joins in series
pub and_link : (i : ℕ) → (text link_text (link i)).later_and ≡ and i ∷ []
unfolding link_text
and_link i = refl

pub and_series : (a b : Wiring ℕ) → (text link_text (series a b)).later_and ≡ (text link_text a).later_and ++ (text link_text b).later_and
unfolding in_series
and_series a b = refl

pub and_parallel : (a b : Wiring ℕ) → (text link_text (parallel a b)).later_and ≡ and_open ∷ ((text link_text (parallel a b)).first ++ (close ∷ []))
unfolding in_parallel
and_parallel a b = refl

-- where it joins in parallel
pub or_link : (i : ℕ) → (text link_text (link i)).later_or ≡ or i ∷ []
unfolding link_text
or_link i = refl

pub or_series : (a b : Wiring ℕ) → (text link_text (series a b)).later_or ≡ or_open ∷ ((text link_text (series a b)).first ++ (close ∷ []))
unfolding in_series
or_series a b = refl

pub or_parallel : (a b : Wiring ℕ) → (text link_text (parallel a b)).later_or ≡ (text link_text a).later_or ++ (text link_text b).later_or
unfolding in_parallel
or_parallel a b = refl
