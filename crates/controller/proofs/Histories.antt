-- Whole runs grow at their end.
use Rattle.std.proofs.Common.{◌≡◌, ℕ, zero, suc, ◌+◌, ◌<◌, ◌≤◌, List, [], ◌∷◌, ◌++◌, map, length, get_or, take, drop, set, Ok, Err, Result, sym, refl, ap, ◌∙◌, subst, arith, length-take-le, drop-drop, drop-set-lt, MatchResult}
use lib.Seq.{take-nil}
use Rattle.std.proofs.lemmas.List.{get_or-map, length-map, take_all, take_more, take_more_set}
use Rattle.signals.specs.Kind.{Kind}
use Rattle.instructions.specs.declared.report.ShortBuffer.{ShortBuffer}
use Rattle.controller.specs.declared.call.Call.{Call}
use Rattle.controller.specs.declared.call.Answer.{Answer}
use Rattle.controller.specs.declared.controller.Controller.{Controller}
use Rattle.controller.specs.Promise.{State, Happens, Run, still, onwards}
use Rattle.controller.specs.Runs.{Event, NoScan, Throughout}
use Rattle.controller.specs.Standing.{Stands, Step, lending, paired, made, Lent, Performed, Performs, Declined, Operated}
use Rattle.controller.proofs.Steps.{stands_same}
use Rattle.controller.proofs.Laws.{run_program, run_points, run_bytes}

run_push : {S : Type 0} (k : Kind S) (s t u : State S) (call : Call S) (answer : Answer S) (run : List (Event S)) → Run k s run t → Happens k t call answer u → Run k s (run ++ (call, answer) ∷ []) u
run_push k s t u call answer run (still x) a = onwards x u u call answer [] a (still u)
run_push k s t u call answer run (onwards x m y c b rest one r) a = onwards x m u c b (rest ++ (call, answer) ∷ []) one (run_push k m y u call answer rest r a)

throughout_split : {S : Type 0} (P : Event S → Type 0) (es : List (Event S)) (e : Event S) → Throughout P (es ++ e ∷ []) → Throughout P es × P e
throughout_split P [] e h = (tt, h.0)
throughout_split P (x ∷ xs) e h = let r = throughout_split P xs e h.1 in ((h.0, r.0), r.1)

paired_push : {X Y : Type 0} (xs : List X) (ys : List Y) (x : X) (y : Y) → length xs ≡ length ys → paired (xs ++ x ∷ []) (ys ++ y ∷ []) ≡ paired xs ys ++ (x, y) ∷ []
paired_push [] [] x y e = refl
paired_push [] (b ∷ ys) x y e = absurd (omega arith)
paired_push (a ∷ xs) [] x y e = absurd (omega arith)
paired_push (a ∷ xs) (b ∷ ys) x y e = ap (λ l. (a, b) ∷ l) (paired_push xs ys x y (omega arith))

-- one event more, whose answer is written at i
events_more : {S : Type 0} (calls : List (Call S)) (answers : List (Answer S)) (i : ℕ) (call : Call S) (answer : Answer S)
    → i < length calls → length calls ≤ length answers → call ≡ get_or calls i call
    → paired (take (i + 1) calls) (take (i + 1) (set answers i answer)) ≡ paired (take i calls) (take i answers) ++ (call, answer) ∷ []
events_more {S = S} calls answers i call answer h le read =
    let ha : i < length answers = omega arith in
    let ea = take_more_set answers i answer ha in
    let ec = take_more calls i call h ∙ ap (λ x. take i calls ++ x ∷ []) (sym read) in
    let lc = length-take-le i calls (omega arith) in
    let la = length-take-le i answers (omega arith) in
    let p = paired_push (take i calls) (take i answers) call answer (lc ∙ sym la) in
    ap (λ xs. paired xs (take (i + 1) (set answers i answer))) ec ∙ ap (λ ys. paired (take i calls ++ call ∷ []) ys) ea ∙ p

-- the answers past the calls pair with nothing
paired-take : {X Y : Type 0} (xs : List X) (ys : List Y) (n : ℕ) → length xs ≤ n → paired xs (take n ys) ≡ paired xs ys
paired-take [] ys n h = refl
paired-take (x ∷ xs) [] n h = ap (λ l. paired (x ∷ xs) l) (take-nil n)
paired-take (x ∷ xs) (y ∷ ys) zero h = absurd (omega arith)
paired-take (x ∷ xs) (y ∷ ys) (suc n) h = ap (λ l. (x, y) ∷ l) (paired-take xs ys n (omega arith))

events_all : {S : Type 0} (calls : List (Call S)) (answers : List (Answer S)) (i : ℕ) → length calls ≤ i → paired (take i calls) (take i answers) ≡ paired calls answers
events_all calls answers i h = ap (λ xs. paired xs (take i answers)) (take_all i calls h) ∙ paired-take calls answers i h

drop-same : {X : Type 0} (xs ys : List X) (i : ℕ) (x : X) → drop i xs ≡ drop i ys → drop (i + 1) (set xs i x) ≡ drop (i + 1) ys
drop-same xs ys i x e =
    drop-set-lt (i + 1) xs i x (omega arith) ∙ sym (drop-drop 1 i xs) ∙ ap (drop 1) e ∙ drop-drop 1 i ys

-- what is read at i, after a change of each element
read-map : {X : Type 0} (f : X → X) (xs : List X) (i : ℕ) (x : X) → i < length xs → x ≡ get_or xs i x → f x ≡ get_or (map f xs) i (f x)
read-map f xs i x h e = ap f e ∙ sym (get_or-map f xs i x (f x) h)

-- how far the calls were performed: the first i of them, as lent at the start
pub record Going {B S : Type 0} (k : Kind S) (points : B → List S) (c₀ : Controller B S) (before : Lent S) (calls : List (Call S)) (i : ℕ) (c : Controller B S) (after : Lent S) : Type 0 where
  pub led : (s : State S) → Stands points c₀ before.bytes s
      → (t : State S) × Run k s (paired (take i (map (lending (length before.work) (length before.bytes)) calls)) (take i after.answers)) t × Stands points c after.bytes t
  pub later : drop i after.answers ≡ drop i before.answers
  pub work_stays : Throughout NoScan (paired (take i (map (lending (length before.work) (length before.bytes)) calls)) (take i after.answers)) → after.work ≡ before.work

module _ {B S : Type 0} (k : Kind S) (points : B → List S) (c₀ : Controller B S) (before : Lent S) (calls : List (Call S)) where
  pub going_start : Going k points c₀ before calls 0 c₀ before
  going_start = record { led = λ s st. (s, still s, st); later = refl; work_stays = λ h. refl }

  pub going_more : (i : ℕ) (c c' : Controller B S) (answers : List (Answer S)) (work work' : List S) (bytes bytes' : List ℕ) (call : Call S) (answer : Answer S)
      → i < length calls → length calls ≤ length answers → call ≡ get_or calls i call → length work ≡ length before.work → length bytes ≡ length before.bytes
      → Going k points c₀ before calls i c (record { work = work; bytes = bytes; answers = answers })
      → Step k points c bytes (lending (length work) (length bytes) call) answer c' bytes'
      → (NoScan (lending (length work) (length bytes) call, answer) → work' ≡ work)
      → Going k points c₀ before calls (i + 1) c' (record { work = work'; bytes = bytes'; answers = set answers i answer })
  going_more i c c' answers work work' bytes bytes' call answer h le read lw lb going step stay =
      let f = lending (length before.work) (length before.bytes) in
      let lm = length-map calls f in
      let same : lending (length work) (length bytes) call ≡ f call =
      ap (λ (m : ℕ). lending m (length bytes) call) lw ∙ ap (λ (n : ℕ). lending (length before.work) n call) lb in
      let e = events_more (map f calls) answers i (f call) answer (omega arith) (omega arith) (read-map f calls i call h read) in
      record {
        led = λ s st.
            let r = going.led s st in
            let q = step r.0 r.2 in
            let one = subst (λ (x : Call S). Happens k r.0 x answer q.0) same q.1 in
            (q.0, subst (λ (es : List (Event S)). Run k s es q.0) (sym e) (run_push k s r.0 q.0 (f call) answer _ r.1 one), q.2);
        later = drop-same answers before.answers i answer going.later;
        work_stays = λ all.
            let p = throughout_split NoScan (paired (take i (map f calls)) (take i answers)) (f call, answer) (subst (Throughout NoScan) e all) in
            stay (subst (λ (x : Call S). NoScan (x, answer)) (sym same) p.1) ∙ going.work_stays p.0;
      }

  pub going_end : (i : ℕ) (c : Controller B S) (after : Lent S) → i ≡ length calls → length calls ≤ length before.answers → Going k points c₀ before calls i c after
      → (s : State S) → Stands points c₀ before.bytes s → Performed k points s calls before after c
  going_end i c after e room going s st =
      let f = lending (length before.work) (length before.bytes) in
      let lm = length-map calls f in
      let all = events_all (map f calls) after.answers i (omega arith) in
      let r = going.led s st in
      let run = subst (λ (es : List (Event S)). Run k s es r.0) all r.1 in
      record {
        room = room;
        ran = record {
          end = r.0;
          run = run;
          stands = r.2;
          program = run_program k s r.0 _ run;
          points_stay = run_points k s r.0 _ run;
          bytes_stay = run_bytes k s r.0 _ run;
        };
        later = subst (λ (n : ℕ). drop n after.answers ≡ drop n before.answers) e going.later;
        work_stays = λ h. going.work_stays (subst (Throughout NoScan) (sym all) h);
      }

-- what was performed on the controller at its making
pub operated : {B S U : Type 0} (k : Kind S) (points : B → List S) (making : List S) (calls : List (Call S)) (before after : Lent S) (c₀ c : Controller B S) (r : Result U ShortBuffer)
    → Stands points c₀ before.bytes (made making before.bytes)
    → MatchResult r (λ _. Performs k points c₀ calls before after c) (λ _. Declined calls before after × (c ≡ c₀))
    → Operated k points making calls before c r after
operated k points making calls before after c₀ c (Ok u) st p = p (made making before.bytes) st
operated k points making calls before after c₀ c (Err e) st d = (d.0, stands_same points c₀ c before.bytes (made making before.bytes) d.1 st)
