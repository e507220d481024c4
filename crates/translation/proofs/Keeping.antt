-- The words of a card's rungs keep the rules of a program.
use Rattle.std.proofs.Common.{◌≡◌, ℕ, zero, suc, ◌+◌, ◌-◌, ◌<◌, ◌≤◌, max, Bool, true, false, cond, ◌&&◌, eqb, ltb, ◌⊎◌, List, [], ◌∷◌, ◌++◌, length, get_or, Some, Ok, Err, Result, IsOk, sym, refl, ap, ◌∙◌, subst, inl, inr, arith, lit≤}
use Rattle.std.proofs.lemmas.Bool.Decides.{nat_tests, leb_tells}
use Rattle.std.proofs.lemmas.List.{append_assoc, append-nil, length-append, length-map}
use Rattle.points.specs.declared.point.Area.{Area}
use Rattle.points.specs.declared.point.Area.TheVariants.{Input, Output, Marker}
use Rattle.points.specs.declared.point.Point.{Point}
use Rattle.instructions.specs.declared.instruction.Operand.TheVariants.{True, At}
use Rattle.instructions.specs.declared.instruction.Instruction.{Instruction}
use Rattle.instructions.specs.declared.instruction.Instruction.TheVariants.{Load, LoadNot, And, AndNot, Or, OrNot, AndOpen, OrOpen, Close, Store, StoreNot, Set, Reset}
use Rattle.instructions.specs.Words.{operand, word_of, instruction_of}
use Rattle.instructions.specs.WordLaws.{Numbered}
use Rattle.instructions.specs.Depth.{opened, opened_if, deepest, depth}
use Rattle.instructions.proofs.Words.{word_laws}
use Rattle.instructions.proofs.Deepest.{deepest-from}
use Rattle.programs.specs.declared.checker.State.{State}
use Rattle.programs.specs.declared.checker.State.TheVariants.{Begun, Opened, Joining, Stored}
use Rattle.programs.specs.declared.fault.RuleFault.{RuleFault}
use Rattle.programs.specs.declared.fault.RuleFault.TheVariants.{Unfinished}
use Rattle.programs.specs.declared.program.Program.{Program}
use Rattle.programs.specs.Programs.{Taken}
use Rattle.programs.specs.Rules.{Place, start, loads, joins, drives_area, when, next, starts_rung, counted, step_to, step, step_if, onward, led, ends, judged_at, judged, accepted, keeps}
use Rattle.programs.proofs.Rules.{led-append}
use Rattle.wiring.specs.declared.rung.Action.{Action}
use Rattle.wiring.specs.declared.rung.Action.TheVariants as action
use Rattle.wiring.specs.declared.rung.Coil.{Coil}
use Rattle.wiring.specs.declared.rung.Contact.{Contact}
use Rattle.wiring.specs.declared.rung.Contact.TheVariants.{Wire, Open, Closed}
use Rattle.wiring.specs.Circuit.{Circuit, link_at}
use Rattle.wiring.specs.Drawn.{drivable, driven}
use Rattle.wiring.specs.Wiring.{Wiring, link, series, parallel}
use Rattle.cards.specs.declared.fault.CardCause.TheVariants.{TooManyRungs}
use Rattle.cards.specs.declared.fault.CardFault.{CardFault}
use Rattle.cards.specs.Bits.{field_at}
use Rattle.cards.specs.Rungs.{and_then, fault_at}
use Rattle.cards.specs.Cards.{few_rungs, head_at}
use Rattle.cards.specs.Encoding.{contact_number, Drawable}
use Rattle.cards.proofs.RungBits.{rung_read}
use Rattle.std.specs.List.{AllByRecursion}
use Rattle.wiring.specs.declared.rung.Link.{Link}
use Rattle.translation.specs.Judgement.{Verdict, Judged, ended, trailed, misread, crossed, deep, long, taken, CardJudged, headless, headed}
use Rattle.translation.specs.declared.emitters.Place.TheVariants.{First, Later}
use Rattle.translation.specs.Spelling.{loading, anding, oring, acting, coiling, coil_words, rung_words}
use Rattle.translation.specs.Drafts.{series_words, branch_words}
use Rattle.translation.proofs.Texts.{series_link, series_series, series_parallel, branch_link, branch_parallel, branch_series}

-- a place by its parts
abbrev pub at : State → ℕ → ℕ → ℕ → Place
at s b r n = record { state = s; brackets = b; rungs = r; words = n }

-- rungs started after a load
abbrev pub started : ℕ → ℕ → ℕ
started b r = cond (eqb b 0) (r + 1) r

-- brackets open after words
abbrev left : ℕ → List ℕ → ℕ
left b [] = b
left b (w ∷ ws) = left (opened_if b (instruction_of w)) ws

left-append : (b : ℕ) (xs ys : List ℕ) → left b (xs ++ ys) ≡ left (left b xs) ys
left-append b [] ys = refl
left-append b (x ∷ xs) ys = left-append (opened_if b (instruction_of x)) xs ys

deepest-append : (b : ℕ) (xs ys : List ℕ) → deepest b (xs ++ ys) ≡ max (deepest b xs) (deepest (left b xs) ys)
deepest-append b [] ys = let h = deepest-from b ys in omega arith
deepest-append b (x ∷ xs) ys =
    let h = deepest-append (opened_if b (instruction_of x)) xs ys in
    omega arith

-- words that start with a load; words that go on; words that leave as many brackets open as they find
abbrev pub LeadsFirst : List ℕ → Type 0
LeadsFirst ws = (s : State) (b r n : ℕ) → loads s ≡ true → deepest b ws ≤ 15 → n + length ws ≤ 4096 → started b r ≤ 128 → led (Ok (at s b r n)) ws ≡ Ok (at Joining b (started b r) (n + length ws))

abbrev pub LeadsLater : List ℕ → Type 0
LeadsLater ws = (b r n : ℕ) → deepest b ws ≤ 15 → n + length ws ≤ 4096 → r ≤ 128 → led (Ok (at Joining b r n)) ws ≡ Ok (at Joining b r (n + length ws))

abbrev pub Level : List ℕ → Type 0
Level ws = (b : ℕ) → left b ws ≡ b

-- one row after another
level_append : (xs ys : List ℕ) → Level xs → Level ys → Level (xs ++ ys)
level_append xs ys p q b = left-append b xs ys ∙ ap (λ k. left k ys) (p b) ∙ q b

split : (xs ys : List ℕ) (b : ℕ) → Level xs → deepest b (xs ++ ys) ≤ 15 → (deepest b xs ≤ 15) × (deepest b ys ≤ 15)
split xs ys b p h =
    let e = deepest-append b xs ys in
    let f = ap (λ k. deepest k ys) (p b) in
    (omega arith, omega arith)

first-later : (xs ys : List ℕ) → LeadsFirst xs → Level xs → LeadsLater ys → LeadsFirst (xs ++ ys)
first-later xs ys p l q s b r n h d k m =
    let e = length-append xs ys in
    let t = split xs ys b l d in
    let j : n + length xs + length ys ≡ n + length (xs ++ ys) = omega arith in
    led-append (Ok (at s b r n)) xs ys
    ∙ ap (λ x. led x ys) (p s b r n h t.0 (omega arith) m)
    ∙ q b (started b r) (n + length xs) t.1 (omega arith) m
    ∙ ap (λ x. Ok (at Joining b (started b r) x)) j

later-later : (xs ys : List ℕ) → LeadsLater xs → Level xs → LeadsLater ys → LeadsLater (xs ++ ys)
later-later xs ys p l q b r n d k m =
    let e = length-append xs ys in
    let t = split xs ys b l d in
    let j : n + length xs + length ys ≡ n + length (xs ++ ys) = omega arith in
    led-append (Ok (at Joining b r n)) xs ys
    ∙ ap (λ x. led x ys) (p b r n t.0 (omega arith) m)
    ∙ q b r (n + length xs) t.1 (omega arith) m
    ∙ ap (λ x. Ok (at Joining b r x)) j

-- a word is its instruction
onward-is : (p : Place) (i : Instruction) → Numbered (operand i) → onward (Ok p) (word_of i) ≡ step p i
onward-is p i h = ap (step_if p) (word_laws.there i h)

-- within the limits
counted_is : (p : Place) (s : State) (b r : ℕ) → b ≤ 15 → r ≤ 128 → p.words < 4096 → counted p s b r ≡ Ok (at s b r (p.words + 1))
counted_is p s b r h k m =
    let x : ltb 15 b ≡ false = grind (arith, nat_tests) in
    let y : ltb 128 r ≡ false = grind (arith, nat_tests) in
    let z : ltb 4095 p.words ≡ false = grind (arith, nat_tests) in
    rw (x, y, z)

-- a single word that stands for an allowed instruction
single_first : (i : Instruction) → Numbered (operand i) → ((s : State) (b : ℕ) → next s b i ≡ when (loads s) Joining) → ((b : ℕ) → opened b i ≡ b) → ((b : ℕ) → starts_rung b i ≡ eqb b 0) → LeadsFirst (word_of i ∷ [])
single_first i h f o t s b r n l d k m =
    let up = deepest-from b (word_of i ∷ []) in
    onward-is (at s b r n) i h
    ∙ ap (step_to (at s b r n) i) (f s b ∙ ap (λ x. when x Joining) l)
    ∙ (λ j. counted (at s b r n) Joining (o b j) (cond (t b j) (r + 1) r))
    ∙ counted_is (at s b r n) Joining b (started b r) (omega arith) m (omega arith)

single_later : (i : Instruction) → Numbered (operand i) → ((b : ℕ) → next Joining b i ≡ Some Joining) → ((b : ℕ) → opened b i ≡ b) → ((b : ℕ) → starts_rung b i ≡ false) → LeadsLater (word_of i ∷ [])
single_later i h f o t b r n d k m =
    let up = deepest-from b (word_of i ∷ []) in
    onward-is (at Joining b r n) i h
    ∙ ap (step_to (at Joining b r n) i) (f b)
    ∙ (λ j. counted (at Joining b r n) Joining (o b j) (cond (t b j) (r + 1) r))
    ∙ counted_is (at Joining b r n) Joining b r (omega arith) m (omega arith)

single_level : (i : Instruction) → Numbered (operand i) → ((b : ℕ) → opened b i ≡ b) → Level (word_of i ∷ [])
single_level i h o b = ap (opened_if b) (word_laws.there i h) ∙ o b

-- the points of a contact have numbers below 256
abbrev pub PlainContact : Contact → Type 0
PlainContact Wire = Unit {0}
PlainContact (Open p) = p.number < 256
PlainContact (Closed p) = p.number < 256

load_first : (x : Contact) → PlainContact x → LeadsFirst (word_of (loading x) ∷ [])
load_first Wire h = single_first (Load True) tt (λ s b. refl) (λ b. refl) (λ b. refl)
load_first (Open p) h = single_first (Load (At p)) h (λ s b. refl) (λ b. refl) (λ b. refl)
load_first (Closed p) h = single_first (LoadNot (At p)) h (λ s b. refl) (λ b. refl) (λ b. refl)

load_level : (x : Contact) → PlainContact x → Level (word_of (loading x) ∷ [])
load_level Wire h = single_level (Load True) tt (λ b. refl)
load_level (Open p) h = single_level (Load (At p)) h (λ b. refl)
load_level (Closed p) h = single_level (LoadNot (At p)) h (λ b. refl)

and_later : (x : Contact) → PlainContact x → LeadsLater (word_of (anding x) ∷ [])
and_later Wire h = single_later (And True) tt (λ b. refl) (λ b. refl) (λ b. refl)
and_later (Open p) h = single_later (And (At p)) h (λ b. refl) (λ b. refl) (λ b. refl)
and_later (Closed p) h = single_later (AndNot (At p)) h (λ b. refl) (λ b. refl) (λ b. refl)

and_level : (x : Contact) → PlainContact x → Level (word_of (anding x) ∷ [])
and_level Wire h = single_level (And True) tt (λ b. refl)
and_level (Open p) h = single_level (And (At p)) h (λ b. refl)
and_level (Closed p) h = single_level (AndNot (At p)) h (λ b. refl)

or_later : (x : Contact) → PlainContact x → LeadsLater (word_of (oring x) ∷ [])
or_later Wire h = single_later (Or True) tt (λ b. refl) (λ b. refl) (λ b. refl)
or_later (Open p) h = single_later (Or (At p)) h (λ b. refl) (λ b. refl) (λ b. refl)
or_later (Closed p) h = single_later (OrNot (At p)) h (λ b. refl) (λ b. refl) (λ b. refl)

or_level : (x : Contact) → PlainContact x → Level (word_of (oring x) ∷ [])
or_level Wire h = single_level (Or True) tt (λ b. refl)
or_level (Open p) h = single_level (Or (At p)) h (λ b. refl)
or_level (Closed p) h = single_level (OrNot (At p)) h (λ b. refl)

-- words in brackets
module _ (i : Instruction) (bare : operand i ≡ True) (opens : (b : ℕ) → next Joining b i ≡ Some Opened) (one : (b : ℕ) → opened b i ≡ b + 1) (none : (b : ℕ) → starts_rung b i ≡ false) where
  numbered : Numbered (operand i)
  numbered = subst Numbered (sym bare) tt

  is_here : instruction_of (word_of i) ≡ Some i
  is_here = word_laws.there i numbered

  bracket_level : (xs : List ℕ) → Level xs → Level (word_of i ∷ (xs ++ word_of Close ∷ []))
  bracket_level xs l b =
      let e : opened_if b (instruction_of (word_of i)) ≡ b + 1 = ap (opened_if b) is_here ∙ one b in
      let f : b + 1 - 1 ≡ b = omega arith in
      ap (λ k. left k (xs ++ word_of Close ∷ [])) e
      ∙ left-append (b + 1) xs (word_of Close ∷ [])
      ∙ ap (λ k. left k (word_of Close ∷ [])) (l (b + 1))
      ∙ f

  bracket_later : (xs : List ℕ) → LeadsFirst xs → Level xs → LeadsLater (word_of i ∷ (xs ++ word_of Close ∷ []))
  bracket_later xs p l b r n d k m =
      let cs = word_of Close ∷ [] in
      let e : opened_if b (instruction_of (word_of i)) ≡ b + 1 = ap (opened_if b) is_here ∙ one b in
      let inner : deepest (b + 1) (xs ++ cs) ≤ 15 = (let q = ap (λ j. deepest j (xs ++ cs)) e in omega arith) in
      let up = deepest-from (b + 1) (xs ++ cs) in
      let t = split xs cs (b + 1) l inner in
      let lens = length-append xs cs in
      let same : started (b + 1) r ≡ r = (let z : eqb (b + 1) 0 ≡ false = grind (arith, nat_tests) in ap (λ x. cond x (r + 1) r) z) in
      let down : b + 1 - 1 ≡ b = omega arith in
      let sum : n + 1 + length xs + 1 ≡ n + suc (length (xs ++ cs)) = omega arith in
      let deep : ltb 0 (b + 1) ≡ true = grind (arith, nat_tests) in
      ap (λ x. led x (xs ++ cs)) (onward-is (at Joining b r n) i numbered ∙ ap (step_to (at Joining b r n) i) (opens b) ∙ (λ j. counted (at Joining b r n) Opened (one b j) (cond (none b j) (r + 1) r)) ∙ counted_is (at Joining b r n) Opened (b + 1) r (omega arith) m (omega arith))
      ∙ led-append (Ok (at Opened (b + 1) r (n + 1))) xs cs
      ∙ ap (λ x. led x cs) (p Opened (b + 1) r (n + 1) refl t.0 (omega arith) (omega (arith, same)) ∙ ap (λ x. Ok (at Joining (b + 1) x (n + 1 + length xs))) same)
      ∙ ap (λ x. step_to (at Joining (b + 1) r (n + 1 + length xs)) Close (when x Joining)) deep
      ∙ counted_is (at Joining (b + 1) r (n + 1 + length xs)) Joining (b + 1 - 1) r (omega arith) m (omega arith)
      ∙ (λ j. Ok (at Joining (down j) r (sum j)))

-- the text of a wiring, wherever it stands
pub record KeepsText (c : Circuit) (w : Wiring ℕ) : Type 0 where
  pub first : LeadsFirst (series_words c First w)
  pub first_level : Level (series_words c First w)
  pub later_and : LeadsLater (series_words c Later w)
  pub and_level : Level (series_words c Later w)
  pub later_or : LeadsLater (branch_words c Later w)
  pub or_level : Level (branch_words c Later w)

as_first : {us ws : List ℕ} → ws ≡ us → LeadsFirst us → LeadsFirst ws
as_first e p = subst LeadsFirst (sym e) p

as_later : {us ws : List ℕ} → ws ≡ us → LeadsLater us → LeadsLater ws
as_later e p = subst LeadsLater (sym e) p

as_level : {us ws : List ℕ} → ws ≡ us → Level us → Level ws
as_level e p = subst Level (sym e) p

module _ (c : Circuit) (plain : (i : ℕ) → PlainContact (link_at c i).contact) where
  pub keeps-text : (w : Wiring ℕ) → KeepsText c w
  keeps-text (link i) = record {
    first = as_first (series_link c First i) (load_first (link_at c i).contact (plain i));
    first_level = as_level (series_link c First i) (load_level (link_at c i).contact (plain i));
    later_and = as_later (series_link c Later i) (and_later (link_at c i).contact (plain i));
    and_level = as_level (series_link c Later i) (and_level (link_at c i).contact (plain i));
    later_or = as_later (branch_link c Later i) (or_later (link_at c i).contact (plain i));
    or_level = as_level (branch_link c Later i) (or_level (link_at c i).contact (plain i));
  }
  keeps-text (series a b) =
      let A = keeps-text a in
      let B = keeps-text b in
      let xs = series_words c First a in
      let ys = series_words c Later b in
      let wrapped = branch_series c Later a b ∙ ap (λ l. word_of OrOpen ∷ l) (sym (append_assoc xs ys (word_of Close ∷ []))) in
      record {
        first = as_first (series_series c First a b) (first-later xs ys A.first A.first_level B.later_and);
        first_level = as_level (series_series c First a b) (level_append xs ys A.first_level B.and_level);
        later_and = as_later (series_series c Later a b) (later-later (series_words c Later a) ys A.later_and A.and_level B.later_and);
        and_level = as_level (series_series c Later a b) (level_append (series_words c Later a) ys A.and_level B.and_level);
        later_or = as_later wrapped (bracket_later OrOpen refl (λ b. refl) (λ b. refl) (λ b. refl) (xs ++ ys) (first-later xs ys A.first A.first_level B.later_and) (level_append xs ys A.first_level B.and_level));
        or_level = as_level wrapped (bracket_level OrOpen refl (λ b. refl) (λ b. refl) (λ b. refl) (xs ++ ys) (level_append xs ys A.first_level B.and_level));
      }
  keeps-text (parallel a b) =
      let A = keeps-text a in
      let B = keeps-text b in
      let xs = branch_words c First a in
      let ys = branch_words c Later b in
      let bare = series_parallel c First a b ∙ ap (λ l. xs ++ l) (append-nil ys) in
      let wrapped = series_parallel c Later a b ∙ ap (λ l. word_of AndOpen ∷ l) (sym (append_assoc xs ys (word_of Close ∷ []))) in
      record {
        first = as_first bare (first-later xs ys A.first A.first_level B.later_or);
        first_level = as_level bare (level_append xs ys A.first_level B.or_level);
        later_and = as_later wrapped (bracket_later AndOpen refl (λ b. refl) (λ b. refl) (λ b. refl) (xs ++ ys) (first-later xs ys A.first A.first_level B.later_or) (level_append xs ys A.first_level B.or_level));
        and_level = as_level wrapped (bracket_level AndOpen refl (λ b. refl) (λ b. refl) (λ b. refl) (xs ++ ys) (level_append xs ys A.first_level B.or_level));
        later_or = as_later (branch_parallel c Later a b) (later-later (branch_words c Later a) ys A.later_or A.or_level B.later_or);
        or_level = as_level (branch_parallel c Later a b) (level_append (branch_words c Later a) ys A.or_level B.or_level);
      }

-- an output or a marker can be driven
area_driven : (a : Area) → drivable a ≡ true → drives_area a ≡ true
area_driven Input d = d
area_driven Output d = refl
area_driven Marker d = refl

-- coils: each leads from joining or stored to stored
stores : (i : Instruction) (s : State) (r n : ℕ) → Numbered (operand i) → next s 0 i ≡ Some Stored → opened 0 i ≡ 0 → starts_rung 0 i ≡ false → r ≤ 128 → n < 4096 → onward (Ok (at s 0 r n)) (word_of i) ≡ Ok (at Stored 0 r (n + 1))
stores i s r n h f o t k m =
    onward-is (at s 0 r n) i h
    ∙ ap (step_to (at s 0 r n) i) f
    ∙ (λ j. counted (at s 0 r n) Stored (o j) (cond (t j) (r + 1) r))
    ∙ counted_is (at s 0 r n) Stored 0 r (lit≤ tt) k m

coil_step : (a : Action) (p : Point) (s : State) (r n : ℕ) → joins s ≡ true → drivable p.area ≡ true → p.number < 256 → r ≤ 128 → n < 4096 → onward (Ok (at s 0 r n)) (word_of (acting a (At p))) ≡ Ok (at Stored 0 r (n + 1))
coil_step action.Store p s r n j d h k m = let e = area_driven p.area d in stores (Store (At p)) s r n h (rw (j, e)) refl refl k m
coil_step action.StoreNot p s r n j d h k m = let e = area_driven p.area d in stores (StoreNot (At p)) s r n h (rw (j, e)) refl refl k m
coil_step action.Set p s r n j d h k m = let e = area_driven p.area d in stores (Set (At p)) s r n h (rw (j, e)) refl refl k m
coil_step action.Reset p s r n j d h k m = let e = area_driven p.area d in stores (Reset (At p)) s r n h (rw (j, e)) refl refl k m

-- the points of coils have numbers below 256
abbrev pub PlainCoils : List Coil → Type 0
PlainCoils [] = Unit {0}
PlainCoils (x ∷ xs) = (x.point.number < 256) × PlainCoils xs

and_left : (a b : Bool) → (a && b) ≡ true → a ≡ true
and_left true b e = refl
and_left false b e = e

and_right : (a b : Bool) → (a && b) ≡ true → b ≡ true
and_right true b e = e
and_right false b e = grind (arith, nat_tests)

more-coils : (xs : List Coil) (r n : ℕ) → driven xs ≡ true → PlainCoils xs → r ≤ 128 → n + length xs ≤ 4096 → led (Ok (at Stored 0 r n)) (coil_words xs) ≡ Ok (at Stored 0 r (n + length xs))
more-coils [] r n d h k m = let e : n ≡ n + 0 = omega arith in ap (λ x. Ok (at Stored 0 r x)) e
more-coils (x ∷ xs) r n d h k m =
    let e : n + 1 + length xs ≡ n + suc (length xs) = omega arith in
    ap (λ y. led y (coil_words xs)) (coil_step x.action x.point Stored r n refl (and_left _ _ d) h.0 k (omega arith))
    ∙ more-coils xs r (n + 1) (and_right _ _ d) h.1 k (omega arith)
    ∙ ap (λ y. Ok (at Stored 0 r y)) e

coils_lead : (xs : List Coil) (r n : ℕ) → 1 ≤ length xs → driven xs ≡ true → PlainCoils xs → r ≤ 128 → n + length xs ≤ 4096 → led (Ok (at Joining 0 r n)) (coil_words xs) ≡ Ok (at Stored 0 r (n + length xs))
coils_lead [] r n l d h k m = absurd (omega arith)
coils_lead (x ∷ xs) r n l d h k m =
    let e : n + 1 + length xs ≡ n + suc (length xs) = omega arith in
    ap (λ y. led y (coil_words xs)) (coil_step x.action x.point Joining r n refl (and_left _ _ d) h.0 k (omega arith))
    ∙ more-coils xs r (n + 1) (and_right _ _ d) h.1 k (omega arith)
    ∙ ap (λ y. Ok (at Stored 0 r y)) e

-- what a rung must have so that its words keep the rules
pub record PlainRung (c : Circuit) : Type 0 where
  pub contacts : (i : ℕ) → PlainContact (link_at c i).contact
  pub coils : PlainCoils c.coils
  pub some_coil : 1 ≤ length c.coils
  pub drives : driven c.coils ≡ true

-- the words of a rung lead from where a program may end to where it may end
pub rung_leads : (c : Circuit) (w : Wiring ℕ) → PlainRung c → (s : State) (r n : ℕ) → loads s ≡ true → depth (rung_words c w) ≤ 15 → n + length (rung_words c w) ≤ 4096 → r + 1 ≤ 128 → led (Ok (at s 0 r n)) (rung_words c w) ≡ Ok (at Stored 0 (r + 1) (n + length (rung_words c w)))
rung_leads c w P s r n l d m k =
    let T = keeps-text c P.contacts w in
    let xs = series_words c First w in
    let ys = coil_words c.coils in
    let t = split xs ys 0 T.first_level d in
    let e = length-append xs ys in
    let f = length-map c.coils (λ x. word_of (coiling x)) in
    let j : n + length xs + length c.coils ≡ n + length (rung_words c w) = omega arith in
    led-append (Ok (at s 0 r n)) xs ys
    ∙ ap (λ y. led y ys) (T.first s 0 r n l t.0 (omega arith) k)
    ∙ coils_lead c.coils (r + 1) (n + length xs) P.some_coil P.drives P.coils k (omega arith)
    ∙ ap (λ y. Ok (at Stored 0 (r + 1) y)) j

-- a rung that a card draws has plain points
contacts-plain : (ls : List Link) → AllByRecursion (λ (l : Link). contact_number l.contact < 256) ls → (i : ℕ) → PlainContact (get_or ls i (record { from = 0; to = 0; contact = Wire })).contact
contacts-plain [] h i = tt
contacts-plain (l ∷ ls) h zero = plain l.contact h.0
  where
    plain : (x : Contact) → contact_number x < 256 → PlainContact x
    plain Wire k = tt
    plain (Open p) k = k
    plain (Closed p) k = k
contacts-plain (l ∷ ls) h (suc i) = contacts-plain ls h.1 i

coils-plain : (xs : List Coil) → AllByRecursion (λ (x : Coil). x.point.number < 256) xs → PlainCoils xs
coils-plain [] h = tt
coils-plain (x ∷ xs) h = (h.0, coils-plain xs h.1)

pub rung_plain : (c : Circuit) → Drawable c → PlainRung c
rung_plain c D = record { contacts = contacts-plain c.links D.contact_points; coils = coils-plain c.coils D.coil_points; some_coil = D.some_coil; drives = D.driven }

-- from rung k on: the words so far have led to a place where a program may end
kept_from : {bytes : List ℕ} {rungs k at' : ℕ} {words all : List ℕ} → rungs ≤ 128 → (s : State) → loads s ≡ true → ends s ≡ true → led (Ok start) words ≡ Ok (at s 0 k (length words)) → (v : Verdict) → v ≡ Ok all → Judged bytes rungs k at' words v → keeps all ≡ true
kept_from {all = all} m s l e p v q (ended at' words h) =
    let w : words ≡ all = cc in
    subst (λ (x : List ℕ). keeps x ≡ true) w
    (ap (λ r. accepted (judged_at r)) p ∙ ap (λ b. accepted {X = Unit} (cond b (Ok tt) (Err Unfinished))) e)
kept_from m s l e p v q (trailed at' words x h) = cc
kept_from m s l e p v q (misread k at' words x n h) = cc
kept_from m s l e p v q (crossed k at' words c n h x) = cc
kept_from m s l e p v q (deep k at' words c new n h x y) = cc
kept_from m s l e p v q (long k at' words c new n h x y z) = cc
kept_from {bytes = bytes} m s l e p v q (taken k at' words c new v' n h x y z j) =
    let w = x.some.0 in
    let is : rung_words c w ≡ new = x.every w x.some.1 in
    let d = ap depth is in
    let len = ap length is in
    let sum : length words + length (rung_words c w) ≡ length (words ++ new) = omega (arith, length-append words new) in
    let on = rung_leads c w (rung_plain c (rung_read bytes at' c h).drawable) s k (length words) l (omega arith) (omega arith) (omega arith) in
    kept_from m Stored refl refl
    (led-append (Ok start) words new ∙ ap (λ r. led r new) p ∙ ap (led (Ok (at s 0 k (length words)))) (sym is) ∙ on ∙ ap (λ (i : ℕ). Ok (at Stored 0 (k + 1) i)) sum)
    v' q j

head_few : (bytes : List ℕ) (rungs : ℕ) → head_at bytes ≡ Ok rungs → rungs ≤ 128
head_few bytes rungs e = by (field_at bytes 0 8) e
  where
    by : (r : Result ℕ CardFault) → and_then r few_rungs ≡ Ok rungs → rungs ≤ 128
    by (Err d) e = cc
    by (Ok n) e = few (ltb 128 n) (leb_tells (suc 128) n) e
      where
        few : (b : Bool) → ((b ≡ true) × (suc 128 ≤ n)) ⊎ ((b ≡ false) × (n < suc 128)) → cond b (Err (fault_at TooManyRungs 0)) (Ok n) ≡ Ok rungs → rungs ≤ 128
        few true t e = cc
        few false (inl t) e = cc
        few false (inr t) e = let q : n ≡ rungs = cc in let h = t.1 in omega arith

-- the words of an accepted card keep the rules
pub card_keeps : (bytes words : List ℕ) (v : Verdict) → v ≡ Ok words → CardJudged bytes v → keeps words ≡ true
card_keeps bytes words v q (headless e h) = cc
card_keeps bytes words v q (headed rungs v' h j) = kept_from (head_few bytes rungs h) Begun refl refl refl v' q j

-- so a program never refuses them
pub never_refused : (bytes words ws : List ℕ) (e : RuleFault) → CardJudged bytes (Ok words) → ws ≡ words → judged ws ≡ Err e → ⊥
never_refused bytes words ws e j s q =
    let k : keeps ws ≡ true = ap keeps s ∙ card_keeps bytes words (Ok words) refl j in
    let f : keeps ws ≡ false = ap accepted q in
    cc

pub always_taken : (bytes words ws : List ℕ) (r : Result Program RuleFault) → CardJudged bytes (Ok words) → ws ≡ words → Taken ws (judged ws) r → IsOk r
always_taken bytes words ws (Ok p) j s t = refl
always_taken bytes words ws (Err e) j s t = absurd (never_refused bytes words ws e j s t)
