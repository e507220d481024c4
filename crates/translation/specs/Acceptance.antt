-- Which cards are accepted, and with which words.
use Rattle.std.specs.Prelude.{◌≡◌, ℕ, ◌≤◌, ◌↔◌, List, [], ◌∷◌, ◌++◌, length, Ok}
use Rattle.std.specs.List.{AllByRecursion}
use Rattle.wiring.specs.Circuit.{Circuit}
use Rattle.cards.specs.Encoding.{Drawable, Encoded}
use Rattle.translation.specs.Translation.{Listed, Shallow}
use Rattle.translation.specs.Judgement.{Verdict, CardJudged}

-- the words of rungs, one rung after the other, each series-parallel and within its brackets
pub data Written : List Circuit → List ℕ → Type 0 where
  none : Written [] []
  more : (c : Circuit) (new : List ℕ) (cs : List Circuit) (rest : List ℕ) → Listed c new → Shallow new → Written cs rest → Written (c ∷ cs) (new ++ rest)

-- the rungs have these words, at most 4,096 in all
pub record Translates (cs : List Circuit) (words : List ℕ) : Type 0 where
  pub written : Written cs words
  pub few : length words ≤ 4096

-- a card is accepted with these words exactly if it encodes at most 128 rungs that a card can hold, and the words are theirs
abbrev pub AcceptedExactly : Type 0
AcceptedExactly = (bytes words : List ℕ) → CardJudged bytes (Ok words) ↔ ((cs : List Circuit) × Encoded bytes cs × (length cs ≤ 128) × AllByRecursion Drawable cs × Translates cs words)

-- a card has at most one verdict
abbrev pub OneVerdict : Type 0
OneVerdict = (bytes : List ℕ) (v v' : Verdict) → CardJudged bytes v → CardJudged bytes v' → v ≡ v'
