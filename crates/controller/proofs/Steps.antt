-- Each call is a step, from every state that the controller stands for.
use Rattle.std.proofs.Common.{◌≡◌, ℕ, zero, suc, ◌<◌, ◌≤◌, List, [], ◌∷◌, ◌++◌, length, drop, set, Option, Some, None, Ok, Err, Result, sym, refl, ap, ◌∙◌, subst, arith, Bor}
use Rattle.std.specs.List.{slice_get}
use Rattle.std.specs.Option.{ok_or}
use Rattle.signals.specs.Kind.{Kind, Laws}
use Rattle.instructions.specs.declared.report.ShortBuffer.{ShortBuffer}
use Rattle.instructions.specs.Lines as lines
use Rattle.instructions.specs.Reports.{status_line, Written}
use Rattle.programs.specs.Counts.{counts}
use Rattle.programs.specs.Programs.{held}
use Rattle.wiring.specs.Circuit.{Circuit}
use Rattle.translation.specs.declared.ladder_fault.LadderFault.{LadderFault}
use Rattle.translation.specs.Judgement.{CardJudged}
use Rattle.listings.specs.declared.fault.ListingFault.{ListingFault}
use Rattle.listings.specs.Reading.{verdict}
use Rattle.listings.proofs.Laws.{listing_laws}
use Rattle.scanning.specs.ByPaths.{ByPaths}
use Rattle.scanning.specs.Listings.{Listings, named}
use Rattle.scanning.specs.Machine.{scanned}
use Rattle.scanning.specs.Refusals.{KeptUnnamed}
use Rattle.controller.specs.declared.refusal.Refusal.{Refusal}
use Rattle.controller.specs.declared.refusal.Refusal.TheVariants.{SmallBank, FewSignals, NoSuchPoint}
use Rattle.controller.specs.declared.install_fault.InstallFault.TheVariants as install
use Rattle.controller.specs.declared.call.Call.{Call}
use Rattle.controller.specs.declared.call.Call.TheVariants.{InstallCard, InstallListing, SetInput, ReadPoint, Scan, WriteListing, WriteStatus}
use Rattle.controller.specs.declared.call.Answer.{Answer}
use Rattle.controller.specs.declared.call.Answer.TheVariants.{Install, Change, Reading, Writing}
use Rattle.controller.specs.declared.controller.Controller.{Controller}
use Rattle.controller.specs.Promise.{from_card, from-listing, words_of, Scanned, State, with_points, with_program, with_text, Happens, card_small, card_refused, card, listing-small, listing_refused, listing, input_small, no_input, input, point_small, no_point, point, scan_small, few_signals, scan, listing_short, listing-written, status_short, status_written}
use Rattle.controller.specs.Standing.{Stands, Step, DryStep}
use Rattle.controller.proofs.Cards.{card_accepted}
use Rattle.controller.proofs.Scans.{scanned_for}
use Rattle.controller.proofs.Texts.{Filled, Unfilled, written_cases}

pub slice_get-none : {S : Type 0} (xs : List S) (i : ℕ) → slice_get xs i ≡ None → length xs ≤ i
slice_get-none [] i e = omega arith
slice_get-none (x ∷ xs) zero e = let z : ◌≡◌ {A = ℕ} 0 1 = cc in omega arith
slice_get-none (x ∷ xs) (suc i) e = let h = slice_get-none xs i e in omega arith

module _ {B S : Type 0} (k : Kind S) (points : B → List S) (c c' : Controller B S) where
  -- a call that leaves the state as it was
  unmoved : (call : Call S) (answer : Answer S) → points c'.bank ≡ points c.bank → held c'.program ≡ held c.program
      → ((s : State S) → s.points ≡ points c.bank → Happens k s call answer s) → DryStep k points c call answer c'
  unmoved call answer p w h buffer s st =
      (s, h s st.points_are, record { points_are = st.points_are ∙ sym p; words_are = st.words_are ∙ sym w; listed = st.listed; bytes_are = st.bytes_are })

  pub card_small_step : (bytes : Bor (List ℕ)) → points c'.bank ≡ points c.bank → held c'.program ≡ held c.program
      → length (points c.bank) < 768 → DryStep k points c (InstallCard bytes) (Install (Err install.SmallBank)) c'
  card_small_step bytes p w h = unmoved _ _ p w (λ s e. let l = ap length e in card_small s bytes (omega arith))

  pub card_refused_step : (bytes : Bor (List ℕ)) (e : LadderFault) → points c'.bank ≡ points c.bank → held c'.program ≡ held c.program
      → 768 ≤ length (points c.bank) → CardJudged bytes.now (Err e) → DryStep k points c (InstallCard bytes) (Install (Err (install.Card e))) c'
  card_refused_step bytes e p w h j = unmoved _ _ p w (λ s q. let l = ap length q in card_refused s bytes e (omega arith) j)

  pub card_step : (bytes : Bor (List ℕ)) (numbers : ℕ × ℕ × ℕ × ℕ) → points c'.bank ≡ points c.bank → 768 ≤ length (points c.bank)
      → CardJudged bytes.now (Ok (held c'.program)) → numbers ≡ counts (held c'.program) → DryStep k points c (InstallCard bytes) (Install (Ok numbers)) c'
  card_step bytes numbers p h j n buffer s st =
      let a = card_accepted bytes.now (held c'.program) j in
      let t = with_program s (from_card a.0 (held c'.program)) in
      let l = ap length st.points_are in (
        t,
        subst (λ (x : ℕ × ℕ × ℕ × ℕ). Happens k s (InstallCard bytes) (Install (Ok x)) t) (sym n) (card s t bytes a.0 (held c'.program) (omega arith) a.1 refl),
        record { points_are = st.points_are ∙ sym p; words_are = refl; listed = a.1.listed; bytes_are = st.bytes_are },
      )

  pub listing_small_step : (bytes : Bor (List ℕ)) → points c'.bank ≡ points c.bank → held c'.program ≡ held c.program
      → length (points c.bank) < 768 → DryStep k points c (InstallListing bytes) (Install (Err install.SmallBank)) c'
  listing_small_step bytes p w h = unmoved _ _ p w (λ s e. let l = ap length e in listing-small s bytes (omega arith))

  pub listing_refused_step : (bytes : Bor (List ℕ)) (e : ListingFault) → points c'.bank ≡ points c.bank → held c'.program ≡ held c.program
      → 768 ≤ length (points c.bank) → verdict bytes.now ≡ Err e → DryStep k points c (InstallListing bytes) (Install (Err (install.Listing e))) c'
  listing_refused_step bytes e p w h j = unmoved _ _ p w (λ s q. let l = ap length q in listing_refused s bytes e (omega arith) j)

  pub listing_step : (bytes : Bor (List ℕ)) (numbers : ℕ × ℕ × ℕ × ℕ) → points c'.bank ≡ points c.bank → 768 ≤ length (points c.bank)
      → verdict bytes.now ≡ Ok (held c'.program) → numbers ≡ counts (held c'.program) → DryStep k points c (InstallListing bytes) (Install (Ok numbers)) c'
  listing_step bytes numbers p h j n buffer s st =
      let a = listing_laws.read bytes.now (held c'.program) j in
      let t = with_program s (from-listing (held c'.program)) in
      let l = ap length st.points_are in (
        t,
        subst (λ (x : ℕ × ℕ × ℕ × ℕ). Happens k s (InstallListing bytes) (Install (Ok x)) t) (sym n)
            (listing s t bytes (held c'.program) (omega arith) (record { read = j; text = a.0; keeps = a.1 }) refl),
        record { points_are = st.points_are ∙ sym p; words_are = refl; listed = tt; bytes_are = st.bytes_are },
      )

  pub input_small_step : (n : ℕ) (x : S) → points c'.bank ≡ points c.bank → held c'.program ≡ held c.program
      → length (points c.bank) < 768 → DryStep k points c (SetInput n x) (Change (Err SmallBank)) c'
  input_small_step n x p w h = unmoved _ _ p w (λ s e. let l = ap length e in input_small s n x (omega arith))

  pub no_input_step : (n : ℕ) (x : S) → points c'.bank ≡ points c.bank → held c'.program ≡ held c.program
      → 768 ≤ length (points c.bank) → 256 ≤ n → DryStep k points c (SetInput n x) (Change (Err NoSuchPoint)) c'
  no_input_step n x p w h g = unmoved _ _ p w (λ s e. let l = ap length e in no_input s n x (omega arith) g)

  pub input_step : (n : ℕ) (x : S) → points c'.bank ≡ set (points c.bank) n x → held c'.program ≡ held c.program
      → 768 ≤ length (points c.bank) → n < 256 → DryStep k points c (SetInput n x) (Change (Ok tt)) c'
  input_step n x p w h g buffer s st =
      let t = with_points s (set s.points n x) in
      let l = ap length st.points_are in (
        t,
        input s t n x (omega arith) g refl,
        record { points_are = ap (λ (xs : List S). set xs n x) st.points_are ∙ sym p; words_are = st.words_are ∙ sym w; listed = st.listed; bytes_are = st.bytes_are },
      )

  pub point_small_step : (i : ℕ) → points c'.bank ≡ points c.bank → held c'.program ≡ held c.program
      → length (points c.bank) < 768 → DryStep k points c (ReadPoint i) (Reading (Err SmallBank)) c'
  point_small_step i p w h = unmoved _ _ p w (λ s e. let l = ap length e in point_small s i (omega arith))

  pub no_point_step : (i : ℕ) → points c'.bank ≡ points c.bank → held c'.program ≡ held c.program
      → 768 ≤ length (points c.bank) → slice_get (points c.bank) i ≡ None → DryStep k points c (ReadPoint i) (Reading (Err NoSuchPoint)) c'
  no_point_step i p w h g =
      let f = slice_get-none (points c.bank) i g in
      unmoved _ _ p w (λ s e. let l = ap length e in no_point s i (omega arith) (omega arith))

  pub point_step : (i : ℕ) (x : S) → points c'.bank ≡ points c.bank → held c'.program ≡ held c.program
      → 768 ≤ length (points c.bank) → slice_get (points c.bank) i ≡ Some x → DryStep k points c (ReadPoint i) (Reading (Ok x)) c'
  point_step i x p w h g = unmoved _ _ p w (λ s e. let l = ap length e in point s i x (omega arith) (ap (λ (xs : List S). slice_get xs i) e ∙ g))

  -- a reading answers the signal of its point, or refuses where there is none
  pub point_read_step : (i : ℕ) (o : Option S) (r : Result S Refusal) → points c'.bank ≡ points c.bank → held c'.program ≡ held c.program
      → 768 ≤ length (points c.bank) → slice_get (points c.bank) i ≡ o → r ≡ ok_or o NoSuchPoint → DryStep k points c (ReadPoint i) (Reading r) c'
  point_read_step i (Some x) r p w h g e = subst (λ (z : Result S Refusal). DryStep k points c (ReadPoint i) (Reading z) c') (sym e) (point_step i x p w h g)
  point_read_step i None r p w h g e = subst (λ (z : Result S Refusal). DryStep k points c (ReadPoint i) (Reading z) c') (sym e) (no_point_step i p w h g)

  pub scan_small_step : (n : ℕ) → points c'.bank ≡ points c.bank → held c'.program ≡ held c.program
      → length (points c.bank) < 768 → DryStep k points c (Scan n) (Change (Err SmallBank)) c'
  scan_small_step n p w h = unmoved _ _ p w (λ s e. let l = ap length e in scan_small s n (omega arith))

  pub few_signals_step : (n : ℕ) → points c'.bank ≡ points c.bank → held c'.program ≡ held c.program
      → 768 ≤ length (points c.bank) → n < 15 → DryStep k points c (Scan n) (Change (Err FewSignals)) c'
  few_signals_step n p w h g = unmoved _ _ p w (λ s e. let l = ap length e in few_signals s n (omega arith) g)

  pub scan_step : (n : ℕ) → Laws k → held c'.program ≡ held c.program → 768 ≤ length (points c.bank) → 15 ≤ n
      → points c'.bank ≡ scanned k (held c.program) (points c.bank)
      → KeptUnnamed (named (held c.program)) (points c.bank) (points c'.bank)
      → ((cs : List Circuit) → Listings cs (held c.program) → ByPaths k cs (points c.bank) (points c'.bank))
      → DryStep k points c (Scan n) (Change (Ok tt)) c'
  scan_step n laws w h g by kept paths buffer s st =
      let t = with_points s (points c'.bank) in
      let l = ap length st.points_are in
      let did = scanned_for k laws s.program (held c.program) (points c.bank) (points c'.bank) st.words_are st.listed by kept paths in (
        t,
        scan s t n (omega arith) g (subst (λ (xs : List S). Scanned k s.program xs (points c'.bank)) (sym st.points_are) did) refl,
        record { points_are = refl; words_are = st.words_are ∙ sym w; listed = st.listed; bytes_are = st.bytes_are },
      )

module _ {B S : Type 0} (k : Kind S) (points : B → List S) (c : Controller B S) where
  -- a writing of the text that some words have
  writing_step : (call : ℕ → Call S) (text : List ℕ → List ℕ)
      → ((s : State S) (lent : ℕ) (e : ShortBuffer) → lent ≤ length s.buffer → lent < length (text (words_of s.program)) → Happens k s (call lent) (Writing (Err e)) s)
      → ((s t : State S) (lent : ℕ) → lent ≤ length s.buffer → length (text (words_of s.program)) ≤ lent → t ≡ with_text s (text (words_of s.program)) → Happens k s (call lent) (Writing (Ok (length (text (words_of s.program))))) t)
      → (before after : List ℕ) (r : Result ℕ ShortBuffer) → Written (text (held c.program)) before r after
      → Step k points c before (call (length before)) (Writing r) c after
  writing_step call text short written before after (Ok n) w s st =
      let f : Filled (text (held c.program)) before n after = written_cases (text (held c.program)) before after (Ok n) w in
      let e : text (words_of s.program) ≡ text (held c.program) = ap text st.words_are in
      let q : length (text (words_of s.program)) ≡ length (text (held c.program)) = ap length e in
      let b : length s.buffer ≡ length before = ap length st.bytes_are in
      let m : length (text (words_of s.program)) ≡ n = q ∙ sym f.count in
      let t = with_text s (text (words_of s.program)) in
      let fit = f.fits in (
        t,
        subst (λ (x : ℕ). Happens k s (call (length before)) (Writing (Ok x)) t) m (written s t (length before) (omega arith) (omega arith) refl),
        record {
          points_are = st.points_are;
          words_are = st.words_are;
          listed = st.listed;
          bytes_are = ap (λ (x : List ℕ). x ++ drop (length x) s.buffer) e ∙ ap (λ (x : List ℕ). text (held c.program) ++ drop (length (text (held c.program))) x) st.bytes_are ∙ sym f.bytes;
        },
      )
  writing_step call text short written before after (Err d) w s st =
      let f : Unfilled (text (held c.program)) before after = written_cases (text (held c.program)) before after (Err d) w in
      let q : length (text (words_of s.program)) ≡ length (text (held c.program)) = ap (λ (x : List ℕ). length (text x)) st.words_are in
      let b : length s.buffer ≡ length before = ap length st.bytes_are in
      let few = f.short in (
        s,
        short s (length before) d (omega arith) (omega arith),
        record { points_are = st.points_are; words_are = st.words_are; listed = st.listed; bytes_are = st.bytes_are ∙ sym f.same },
      )

  pub write_listing_step : (before after : List ℕ) (r : Result ℕ ShortBuffer) → Written (lines.listing (held c.program)) before r after
      → Step k points c before (WriteListing (length before)) (Writing r) c after
  write_listing_step =
      writing_step (λ n. WriteListing n) lines.listing (λ s lent e h g. listing_short s lent e h g) (λ s t lent h g e. listing-written s t lent h g e)

  pub write_status_step : (before after : List ℕ) (r : Result ℕ ShortBuffer) → Written (status_line (counts (held c.program))) before r after
      → Step k points c before (WriteStatus (length before)) (Writing r) c after
  write_status_step =
      writing_step (λ n. WriteStatus n) (λ (x : List ℕ). status_line (counts x)) (λ s lent e h g. status_short s lent e h g) (λ s t lent h g e. status_written s t lent h g e)

-- the same controller stands for the same states
pub stands_same : {B S : Type 0} (points : B → List S) (c c' : Controller B S) (buffer : List ℕ) (s : State S) → c' ≡ c → Stands points c buffer s → Stands points c' buffer s
stands_same {B = B} {S = S} points c c' buffer s e st = subst (λ (x : Controller B S). Stands points x buffer s) (sym e) st
