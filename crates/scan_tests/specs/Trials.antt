-- The kind for tests.
use Rattle.signals.specs.Kind.{Kind}
use Rattle.scan_tests.specs.declared.trial.Trial.{Trial}
use Rattle.scan_tests.specs.declared.trial.Trial.TheVariants.{Off, On, Left, Right, Many}

-- off ends a series, on leaves it as it is, many stays many, and of left and right the first holds
abbrev pub after : Trial → Trial → Trial
after Off y = Off
after On y = y
after Left Off = Off
after Left On = Left
after Left Left = Left
after Left Right = Left
after Left Many = Many
after Right Off = Off
after Right On = Right
after Right Left = Right
after Right Right = Right
after Right Many = Many
after Many Off = Off
after Many On = Many
after Many Left = Many
after Many Right = Many
after Many Many = Many

-- two branches of anything but off are many
abbrev pub beside : Trial → Trial → Trial
beside Off y = y
beside On Off = On
beside On On = Many
beside On Left = Many
beside On Right = Many
beside On Many = Many
beside Left Off = Left
beside Left On = Many
beside Left Left = Many
beside Left Right = Many
beside Left Many = Many
beside Right Off = Right
beside Right On = Many
beside Right Left = Many
beside Right Right = Many
beside Right Many = Many
beside Many Off = Many
beside Many On = Many
beside Many Left = Many
beside Many Right = Many
beside Many Many = Many

abbrev pub turned : Trial → Trial
turned Off = On
turned On = Off
turned Left = Right
turned Right = Left
turned Many = Many

abbrev pub trial : Kind Trial
trial = record { off = Off; on = On; series = after; parallel = beside; inverse = turned }
