-- Where the rungs of a program start, as they are kept.
use Rattle.std.specs.Prelude.{ℕ, List, take}
use Rattle.programs.specs.declared.starts.Starts.{Starts}

-- the places that are noted
abbrev pub noted : Starts → List ℕ
noted s = take s.len s.places
