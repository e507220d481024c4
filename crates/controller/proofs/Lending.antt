-- Calls that are lent a part of the working signals or of the bytes.
use Rattle.std.proofs.Common.{◌≡◌, ℕ, ◌≤◌, min, List, ◌++◌, length, take, drop, Ok, Err, Result, sym, refl, ap, ◌∙◌, subst, append_assoc, arith, length-append, take-append-drop, length-take, OnErr}
use lib.Seq.{drop-append-le}
use Rattle.signals.specs.Kind.{Kind}
use Rattle.instructions.specs.Lines as lines
use Rattle.instructions.specs.Reports.{status_line}
use Rattle.programs.specs.Counts.{counts}
use Rattle.controller.specs.declared.refusal.Refusal.{Refusal}
use Rattle.controller.specs.declared.call.Call.{Call}
use Rattle.controller.specs.declared.call.Call.TheVariants.{Scan, WriteListing, WriteStatus}
use Rattle.controller.specs.declared.call.Answer.{Answer}
use Rattle.controller.specs.declared.call.Answer.TheVariants.{Change}
use Rattle.controller.specs.declared.controller.Controller.{Controller}
use Rattle.controller.specs.Promise.{words_of, State, with_text, Happens, listing_short, listing-written, status_short, status_written}
use Rattle.controller.specs.Runs.{NoScan}
use Rattle.controller.specs.Standing.{Step, DryStep, lending}

-- a part at the start has as many as were asked for, or all that there are
part_length : {X : Type 0} (xs : List X) (m n : ℕ) → m ≡ min n (length xs) → length (take m xs) ≡ min n (length xs)
part_length xs m n e = let l = length-take m xs in omega arith

-- a part put back as it was
pub part_back : {X : Type 0} (xs ys : List X) (m : ℕ) → ys ≡ take m xs → ys ++ drop m xs ≡ xs
part_back xs ys m e = ap (λ zs. zs ++ drop m xs) e ∙ take-append-drop m xs

module _ {B S : Type 0} (k : Kind S) (points : B → List S) (c c' : Controller B S) where
  pub scan_part : (work : List S) (m n : ℕ) (a : Answer S) → m ≡ min n (length work) → DryStep k points c (Scan (length (take m work))) a c'
      → DryStep k points c (Scan (min n (length work))) a c'
  scan_part work m n a e d = subst (λ (x : ℕ). DryStep k points c (Scan x) a c') (part_length work m n e) d

refused : {S : Type 0} (call : Call S) (n : ℕ) (r : Result (Unit {0}) Refusal) (P : Type 0) → call ≡ Scan n → NoScan (call, Change r) → OnErr r P → P
refused {S = S} call n (Ok u) P e q h = absurd (subst (λ (x : Call S). NoScan (x, Change (Ok u))) e q)
refused {S = S} call n (Err x) P e q h = h

-- what a scan leaves where it is refused
pub scan_refused : {S : Type 0} (m b n : ℕ) (call : Call S) (r : Result (Unit {0}) Refusal) (P : Type 0) → call ≡ Scan n → NoScan (lending m b call, Change r) → OnErr r P → P
scan_refused {S = S} m b n call r P e q h = refused (lending m b call) (min n m) r P (ap (λ (x : Call S). lending m b x) e) q h

-- the state with more bytes behind those that are lent
abbrev grown : {S : Type 0} → State S → List ℕ → State S
grown s more = record { points = s.points; program = s.program; buffer = s.buffer ++ more }

-- a text at the start leaves the bytes behind those that are lent
text-grown : {S : Type 0} (s : State S) (text more : List ℕ) → length text ≤ length s.buffer → grown (with_text s text) more ≡ with_text (grown s more) text
text-grown {S = S} s text more h =
    ap (λ (b : List ℕ). record { points = s.points; program = s.program; buffer = b })
    (append_assoc text (drop (length text) s.buffer) more ∙ ap (λ (b : List ℕ). text ++ b) (sym (drop-append-le (length text) s.buffer more h)))

module _ {S : Type 0} (k : Kind S) where
  listing-grown : (s t : State S) (more : List ℕ) (n : ℕ) (a : Answer S) → Happens k s (WriteListing n) a t → Happens k (grown s more) (WriteListing n) a (grown t more)
  listing-grown s t more n a (listing_short x lent e le lt) = let l = length-append x.buffer more in listing_short (grown x more) lent e (omega arith) lt
  listing-grown s t more n a (listing-written x y lent le fit e) =
      let l = length-append x.buffer more in
      listing-written (grown x more) (grown y more) lent (omega arith) fit
      (ap (λ (z : State S). grown z more) e ∙ text-grown x (lines.listing (words_of x.program)) more (omega arith))

  status_grown : (s t : State S) (more : List ℕ) (n : ℕ) (a : Answer S) → Happens k s (WriteStatus n) a t → Happens k (grown s more) (WriteStatus n) a (grown t more)
  status_grown s t more n a (status_short x lent e le lt) = let l = length-append x.buffer more in status_short (grown x more) lent e (omega arith) lt
  status_grown s t more n a (status_written x y lent le fit e) =
      let l = length-append x.buffer more in
      status_written (grown x more) (grown y more) lent (omega arith) fit
      (ap (λ (z : State S). grown z more) e ∙ text-grown x (status_line (counts (words_of x.program))) more (omega arith))

module _ {B S : Type 0} (k : Kind S) (points : B → List S) (c : Controller B S) where
  -- a writing into a part is one into the whole
  writing_part : (call : ℕ → Call S) → ((s t : State S) (more : List ℕ) (n : ℕ) (a : Answer S) → Happens k s (call n) a t → Happens k (grown s more) (call n) a (grown t more))
      → (buffer after : List ℕ) (m n : ℕ) (a : Answer S) → m ≡ min n (length buffer)
      → Step k points c (take m buffer) (call (length (take m buffer))) a c after
      → Step k points c buffer (call (min n (length buffer))) a c (after ++ drop m buffer)
  writing_part call grows buffer after m n a e d s st =
      let part = take m buffer in
      let more = drop m buffer in
      let s₁ : State S = record { points = s.points; program = s.program; buffer = part } in
      let r = d s₁ (record { points_are = st.points_are; words_are = st.words_are; listed = st.listed; bytes_are = refl }) in
      let whole : grown s₁ more ≡ s =
      ap (λ (b : List ℕ). record { points = s.points; program = s.program; buffer = b }) (take-append-drop m buffer ∙ sym st.bytes_are) in
      let h = grows s₁ r.0 more (length part) a r.1 in
      let h₁ = subst (λ (x : State S). Happens k x (call (length part)) a (grown r.0 more)) whole h in (
        grown r.0 more,
        subst (λ (x : ℕ). Happens k s (call x) a (grown r.0 more)) (part_length buffer m n e) h₁,
        record {
          points_are = r.2.points_are;
          words_are = r.2.words_are;
          listed = r.2.listed;
          bytes_are = ap (λ (b : List ℕ). b ++ more) r.2.bytes_are;
        },
      )

  pub listing_part : (buffer after : List ℕ) (m n : ℕ) (a : Answer S) → m ≡ min n (length buffer)
      → Step k points c (take m buffer) (WriteListing (length (take m buffer))) a c after
      → Step k points c buffer (WriteListing (min n (length buffer))) a c (after ++ drop m buffer)
  listing_part = writing_part (λ n. WriteListing n) (listing-grown k)

  pub status_part : (buffer after : List ℕ) (m n : ℕ) (a : Answer S) → m ≡ min n (length buffer)
      → Step k points c (take m buffer) (WriteStatus (length (take m buffer))) a c after
      → Step k points c buffer (WriteStatus (min n (length buffer))) a c (after ++ drop m buffer)
  status_part = writing_part (λ n. WriteStatus n) (status_grown k)
