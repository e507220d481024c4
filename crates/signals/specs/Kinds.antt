-- The plain and the doubtful kind.
use Rattle.std.specs.Prelude.{cond, ℕ, leb}
use Rattle.signals.specs.Kind.{Kind}
use Rattle.signals.specs.declared.plain.Plain.{Plain}
use Rattle.signals.specs.declared.plain.Plain.TheVariants as p
use Rattle.signals.specs.declared.doubtful.Doubtful.{Doubtful}
use Rattle.signals.specs.declared.doubtful.Doubtful.TheVariants as d

-- on where both are on
abbrev pub both : Plain → Plain → Plain
both p.Off y = p.Off
both p.On y = y

-- on where at least one is on
abbrev pub either : Plain → Plain → Plain
either p.Off y = y
either p.On y = p.On

-- the signal that it is not
abbrev pub other : Plain → Plain
other p.Off = p.On
other p.On = p.Off

-- the plain kind joins as AND and OR
abbrev pub plain : Kind Plain
plain = record { off = p.Off; on = p.On; series = both; parallel = either; inverse = other }

-- the order off, unknown, on
abbrev pub rank : Doubtful → ℕ
rank d.Off = 0
rank d.Unknown = 1
rank d.On = 2

abbrev pub lower : Doubtful → Doubtful → Doubtful
lower x y = cond (leb (rank x) (rank y)) x y

abbrev pub higher : Doubtful → Doubtful → Doubtful
higher x y = cond (leb (rank x) (rank y)) y x

-- off and on change places, unknown stays
abbrev pub mirrored : Doubtful → Doubtful
mirrored d.Off = d.On
mirrored d.Unknown = d.Unknown
mirrored d.On = d.Off

-- the doubtful kind joins by its order
abbrev pub doubtful : Kind Doubtful
doubtful = record { off = d.Off; on = d.On; series = lower; parallel = higher; inverse = mirrored }
