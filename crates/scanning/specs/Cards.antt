-- The rungs that a card means, and the scan of their words.
use Rattle.std.specs.Prelude.{◌≡◌, ℕ, ◌+◌, List, [], ◌∷◌, length, Ok}
use Rattle.signals.specs.Kind.{Kind, Laws}
use Rattle.wiring.specs.Circuit.{Circuit}
use Rattle.cards.specs.Rungs.{rung_at, rung_bits}
use Rattle.cards.specs.Cards.{head_at, end_at}
use Rattle.translation.specs.Judgement.{CardJudged}
use Rattle.scanning.specs.ByPaths.{ByPaths}
use Rattle.scanning.specs.Listings.{Listings}
use Rattle.scanning.specs.Machine.{scanned}

-- from a bit on the rungs stand one after the other; then zero bits fill the last byte, and nothing follows
abbrev pub RungsFrom : List ℕ → ℕ → List Circuit → Type 0
RungsFrom bytes at [] = end_at bytes at ≡ Ok tt
RungsFrom bytes at (c ∷ cs) = (rung_at bytes at ≡ Ok c) × RungsFrom bytes (at + rung_bits c) cs

-- the card means these rungs: its head counts them, and they stand behind it
pub record CardMeans (bytes : List ℕ) (cs : List Circuit) : Type 0 where
  pub head : head_at bytes ≡ Ok (length cs)
  pub rungs : RungsFrom bytes 8 cs

-- a card that is not refused means rungs, and its words are their listings
abbrev pub CardsListed : Type 0
CardsListed = (bytes words : List ℕ) → CardJudged bytes (Ok words) → (cs : List Circuit) × CardMeans bytes cs × Listings cs words

-- a card means no other rungs
abbrev pub OneMeaning : Type 0
OneMeaning = (bytes : List ℕ) (cs cs' : List Circuit) → CardMeans bytes cs → CardMeans bytes cs' → cs ≡ cs'

-- for every kind with the laws and all points, a scan of a card's words leaves what the scan by paths of its rungs leaves
abbrev pub CardsAgree : Type 0 → Type 0
CardsAgree S =
    (k : Kind S) → Laws k → (bytes words : List ℕ) (cs : List Circuit) (points : List S) → CardJudged bytes (Ok words) → CardMeans bytes cs → ByPaths k cs points (scanned k words points)
