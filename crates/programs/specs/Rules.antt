-- The rules that the words of a program keep.
use Rattle.std.specs.Prelude.{ℕ, ◌+◌, Bool, true, false, cond, ◌&&◌, List, [], ◌∷◌, Some, None, Ok, Err, Option, Result, ◌==◌, nat_lt}
use Rattle.points.specs.declared.point.Area.{Area}
use Rattle.points.specs.declared.point.Area.TheVariants.{Input, Output, Marker}
use Rattle.instructions.specs.declared.instruction.Operand.{Operand}
use Rattle.instructions.specs.declared.instruction.Operand.TheVariants.{True, At}
use Rattle.instructions.specs.declared.instruction.Instruction.{Instruction}
use Rattle.instructions.specs.declared.instruction.Instruction.TheVariants.{Load, LoadNot, And, AndNot, Or, OrNot, AndOpen, OrOpen, Close, Store, StoreNot, Set, Reset}
use Rattle.instructions.specs.Words.{instruction_of}
use Rattle.instructions.specs.Depth.{opened}
use Rattle.programs.specs.declared.checker.State.{State}
use Rattle.programs.specs.declared.checker.State.TheVariants.{Begun, Opened, Joining, Stored}
use Rattle.programs.specs.declared.fault.RuleFault.{RuleFault}
use Rattle.programs.specs.declared.fault.RuleFault.TheVariants.{NotAllowed, TooDeep, TooManyRungs, TooLong, Unfinished}

-- where a row of instructions stands: its state, the brackets open, the rungs started and the words so far
pub record Place : Type 0 where
  pub state : State
  pub brackets : ℕ
  pub rungs : ℕ
  pub words : ℕ

-- where every row begins
abbrev pub start : Place
start = record { state = Begun; brackets = 0; rungs = 0; words = 0 }

-- a load may come
abbrev pub loads : State → Bool
loads Begun = true
loads Opened = true
loads Joining = false
loads Stored = true

-- another contact, an opening bracket or a coil may come
abbrev pub joins : State → Bool
joins Begun = false
joins Opened = false
joins Joining = true
joins Stored = true

-- a closing bracket may come
abbrev pub closes : State → Bool
closes Begun = false
closes Opened = false
closes Joining = true
closes Stored = false

-- a row of instructions may end
abbrev pub ends : State → Bool
ends Begun = true
ends Opened = false
ends Joining = false
ends Stored = true

-- outputs and markers can be driven
abbrev pub drives_area : Area → Bool
drives_area Input = false
drives_area Output = true
drives_area Marker = true

-- a coil may drive an output or a marker
abbrev pub drives : Operand → Bool
drives True = false
drives (At p) = drives_area p.area

-- a coil with something to drive
abbrev pub coil_drives : Instruction → Bool
coil_drives (Load x) = false
coil_drives (LoadNot x) = false
coil_drives (And x) = false
coil_drives (AndNot x) = false
coil_drives (Or x) = false
coil_drives (OrNot x) = false
coil_drives AndOpen = false
coil_drives OrOpen = false
coil_drives Close = false
coil_drives (Store x) = drives x
coil_drives (StoreNot x) = drives x
coil_drives (Set x) = drives x
coil_drives (Reset x) = drives x

-- the state that an allowed instruction leads to
abbrev pub when : Bool → State → Option State
when true s = Some s
when false s = None

-- the next state, by the state and the instruction together, with so many brackets open; nothing where it is not allowed
abbrev pub next : State → ℕ → Instruction → Option State
next s n (Load x) = when (loads s) Joining
next s n (LoadNot x) = when (loads s) Joining
next s n (And x) = when (joins s) Joining
next s n (AndNot x) = when (joins s) Joining
next s n (Or x) = when (joins s) Joining
next s n (OrNot x) = when (joins s) Joining
next s n AndOpen = when (joins s) Opened
next s n OrOpen = when (joins s) Opened
next s n Close = when (closes s && nat_lt 0 n) Joining
next s n (Store x) = when (joins s && n == 0 && drives x) Stored
next s n (StoreNot x) = when (joins s && n == 0 && drives x) Stored
next s n (Set x) = when (joins s && n == 0 && drives x) Stored
next s n (Reset x) = when (joins s && n == 0 && drives x) Stored

-- a rung starts at each load with no bracket open
abbrev pub starts_rung : ℕ → Instruction → Bool
starts_rung n (Load x) = n == 0
starts_rung n (LoadNot x) = n == 0
starts_rung n (And x) = false
starts_rung n (AndNot x) = false
starts_rung n (Or x) = false
starts_rung n (OrNot x) = false
starts_rung n AndOpen = false
starts_rung n OrOpen = false
starts_rung n Close = false
starts_rung n (Store x) = false
starts_rung n (StoreNot x) = false
starts_rung n (Set x) = false
starts_rung n (Reset x) = false

-- the limits, for an instruction that is allowed: brackets first, then rungs, then words
abbrev pub counted : Place → State → ℕ → ℕ → Result Place RuleFault
counted p s brackets rungs =
    cond (nat_lt 15 brackets) (Err TooDeep)
    (cond (nat_lt 128 rungs) (Err TooManyRungs)
    (cond (nat_lt 4095 p.words) (Err TooLong)
    (Ok (record { state = s; brackets = brackets; rungs = rungs; words = p.words + 1 }))))

-- where an instruction leads, once it is known whether it is allowed
abbrev pub step_to : Place → Instruction → Option State → Result Place RuleFault
step_to p i None = Err NotAllowed
step_to p i (Some s) = counted p s (opened p.brackets i) (cond (starts_rung p.brackets i) (p.rungs + 1) p.rungs)

-- where an instruction leads, or why it is refused
abbrev pub step : Place → Instruction → Result Place RuleFault
step p i = step_to p i (next p.state p.brackets i)

-- a word that stands for no instruction is not allowed
abbrev pub step_if : Place → Option Instruction → Result Place RuleFault
step_if p None = Err NotAllowed
step_if p (Some i) = step p i

-- one word more; the first refusal stays
abbrev pub onward : Result Place RuleFault → ℕ → Result Place RuleFault
onward (Ok p) word = step_if p (instruction_of word)
onward (Err e) word = Err e

-- where words lead, or why the first of them that is refused is refused
abbrev pub led : Result Place RuleFault → List ℕ → Result Place RuleFault
led now [] = now
led now (word ∷ words) = led (onward now word) words

-- the states, told apart by numbers
abbrev pub state_code : State → ℕ
state_code Begun = 0
state_code Opened = 1
state_code Joining = 2
state_code Stored = 3

-- two places are the same
abbrev pub same_place : Place → Place → Bool
same_place p q = state_code p.state == state_code q.state && p.brackets == q.brackets && p.rungs == q.rungs && p.words == q.words

-- the instructions were allowed, and lead to a place
abbrev pub led_to : Result Place RuleFault → Place → Bool
led_to (Ok q) p = same_place q p
led_to (Err e) p = false

-- words are allowed in turn, and lead to a place
abbrev pub lead_to : List ℕ → Place → Bool
lead_to words p = led_to (led (Ok start) words) p

-- words may end begun or stored
abbrev pub concluded : Place → Result Unit RuleFault
concluded p = cond (ends p.state) (Ok tt) (Err Unfinished)

-- the verdict, once it is known where words lead
abbrev pub judged_at : Result Place RuleFault → Result Unit RuleFault
judged_at (Ok p) = concluded p
judged_at (Err e) = Err e

-- the verdict on words: they keep the rules, or why they do not
abbrev pub judged : List ℕ → Result Unit RuleFault
judged words = judged_at (led (Ok start) words)

-- a verdict that is no refusal
abbrev pub accepted : {X : Type 0} → Result X RuleFault → Bool
accepted (Ok x) = true
accepted (Err e) = false

-- words keep the rules: each stands for an instruction and is allowed in turn, within 15 brackets, 128 rungs and 4,096 words, and they end begun or stored
abbrev pub keeps : List ℕ → Bool
keeps words = accepted (judged words)

-- whether a step was taken
abbrev pub verdict : Result Place RuleFault → Result Unit RuleFault
verdict (Ok p) = Ok tt
verdict (Err e) = Err e

-- where a step leaves: a refusal alters nothing
abbrev pub after : Result Place RuleFault → Place → Place
after (Ok q) p = q
after (Err e) p = p
