-- The text of a wiring, and the order of its branches.
use Rattle.std.specs.Prelude.{ℕ, ◌<◌, min, List, [], ◌∷◌, ◌++◌}
use Rattle.wiring.specs.Lists.{In}
use Rattle.wiring.specs.Wiring.{Wiring, link, series, parallel}

-- a word of the text, with the number of its link
pub data Word : Type 0 where
  ld : ℕ → Word
  and : ℕ → Word
  or : ℕ → Word
  and_open : Word
  or_open : Word
  close : Word

-- how a part reads where it stands first, where it joins in series and where it joins in parallel, and the number of its lowest link
pub record Text : Type 0 where
  pub first : List Word
  pub later_and : List Word
  pub later_or : List Word
  pub low : ℕ

-- of a single link
unfoldable pub link_text : ℕ → Text
link_text i = record { first = ld i ∷ []; later_and = and i ∷ []; later_or = or i ∷ []; low = i }

-- of two parts in series: brackets only where the series joins in parallel
unfoldable pub in_series : Text → Text → Text
in_series a b = record {
  first = a.first ++ b.later_and;
  later_and = a.later_and ++ b.later_and;
  later_or = or_open ∷ ((a.first ++ b.later_and) ++ (close ∷ []));
  low = min a.low b.low;
}

-- of two branches: brackets only where the group joins in series
unfoldable pub in_parallel : Text → Text → Text
in_parallel a b = record {
  first = a.first ++ b.later_or;
  later_and = and_open ∷ ((a.first ++ b.later_or) ++ (close ∷ []));
  later_or = a.later_or ++ b.later_or;
  low = min a.low b.low;
}

-- given the text of each leaf
module _ {L : Type 0} (val : L → Text) where
  -- the text of a wiring
  abbrev pub text : Wiring L → Text
  text (link e) = val e
  text (series a b) = in_series (text a) (text b)
  text (parallel a b) = in_parallel (text a) (text b)

  -- the lowest link of each branch of the group that the wiring is, nested groups taken as one
  abbrev pub branches : Wiring L → List ℕ
  branches (link e) = (val e).low ∷ []
  branches (series a b) = (in_series (text a) (text b)).low ∷ []
  branches (parallel a b) = branches a ++ branches b

  -- the branches of each group rise by their lowest link
  abbrev pub Ordered : Wiring L → Type 0
  Ordered (link e) = Unit {0}
  Ordered (series a b) = Ordered a × Ordered b
  Ordered (parallel a b) = Ordered a × Ordered b × ((x y : ℕ) → In x (branches a) → In y (branches b) → x < y)
