-- Points: the number of an area, and the index of a point.
use Rattle.std.specs.Prelude.{ℕ, ◌+◌, cond, Some, None, Option, ◌==◌}
use Rattle.points.specs.declared.point.Area.{Area}
use Rattle.points.specs.declared.point.Area.TheVariants.{Input, Output, Marker}
use Rattle.points.specs.declared.point.Point.{Point}

-- the number of an area in cards and words; 0 stands for no point
abbrev pub area_code : Area → ℕ
area_code Input = 1
area_code Output = 2
area_code Marker = 3

-- the area of a number, if there is one
abbrev pub area_of : ℕ → Option Area
area_of n = cond (n == 1) (Some Input) (cond (n == 2) (Some Output) (cond (n == 3) (Some Marker) None))

-- the index of an area's first point
abbrev pub first_index : Area → ℕ
first_index Input = 0
first_index Output = 256
first_index Marker = 512

-- where a bank keeps a point
abbrev pub index_of : Point → ℕ
index_of p = first_index p.area + p.number
