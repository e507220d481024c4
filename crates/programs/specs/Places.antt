-- Where a checker stands.
use Rattle.programs.specs.Rules.{Place}
use Rattle.programs.specs.declared.checker.Checker.{Checker}

-- what a checker has seen
abbrev pub place_of : Checker → Place
place_of c = record { state = c.state; brackets = c.brackets; rungs = c.rungs; words = c.words }
