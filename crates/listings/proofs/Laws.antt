-- Reading and writing listings agree.
use Rattle.std.proofs.Common.{◌≡◌, ℕ, ◌+◌, Bool, true, false, eqb, List, [], ◌∷◌, ◌++◌, length, drop, Some, None, Ok, Err, Option, Result, sym, refl, ap, ◌∙◌, arith}
use Rattle.std.specs.List.{flat_map}
use Rattle.std.proofs.lemmas.List.{append-nil, append_assoc, length-append, take_at, drop_at}
use Rattle.std.proofs.lemmas.Bool.Decides.{nat_tests}
use Rattle.instructions.specs.declared.instruction.Instruction.{Instruction}
use Rattle.instructions.specs.Words.{word_of, instruction_of}
use Rattle.instructions.specs.Lines.{line_of, line_if, word_line, listing}
use Rattle.instructions.proofs.Words.{word_laws}
use Rattle.programs.specs.declared.fault.RuleFault.{RuleFault}
use Rattle.programs.specs.declared.program.Program.{Program}
use Rattle.programs.specs.Programs.{held}
use Rattle.programs.specs.Rules.{Place, start, step, step_if, led, concluded, judged_at, accepted, keeps}
use Rattle.programs.proofs.Rules.{led_refused}
use Rattle.listings.specs.declared.fault.ListingFault.{ListingFault}
use Rattle.listings.specs.LineReading.{line_read}
use Rattle.listings.specs.Reading.{cut_at, cut, Reached, begun, ruled, line_led, line_word, read_to, read_on, read_lines, end_to, ended, read_from, verdict}
use Rattle.listings.specs.Answers.{words_in, Exact, ListingLaws}
use Rattle.listings.proofs.Bytes.{byte_behind}
use Rattle.listings.proofs.LineReading.{line_text, line_there, line_back}
use Rattle.listings.proofs.Cuts.{from_line, lines_refused}
use Rattle.listings.proofs.Words.{word_numbered, line_lacks, line_is}

-- the verdict on a line of an instruction, and what follows it
from-text : (now : Result Reached ListingFault) (i : Instruction) (rest : List ℕ) (word : ℕ) → instruction_of word ≡ Some i → read_from now (line_of i ++ rest) ≡ read_from (read_on now (line_text i)) rest
from-text now i rest word e =
    let text = line_text i in
    let b = byte_behind 10 text rest (line_lacks i (word_numbered word i e)) in
    let l = length-append text (10 ∷ rest) in
    let whole : line_of i ++ rest ≡ text ++ 10 ∷ rest = ap (λ t. t ++ rest) (line_is i) ∙ append_assoc text (10 ∷ []) rest in
    let d : drop (length text + 1) (text ++ 10 ∷ rest) ≡ rest = ap (drop (length text + 1)) (sym (append_assoc text (10 ∷ []) rest)) ∙ drop_at (text ++ 10 ∷ []) rest (length text + 1) (length-append text (10 ∷ [])) in
    ap (read_from now) whole
    ∙ from_line now (text ++ 10 ∷ rest) (length text) b (omega arith)
    ∙ (λ j. read_from (read_on now (take_at text (10 ∷ rest) (length text) refl j)) (d j))

-- how far one line more leads
abbrev further : Reached → List ℕ → Place → Reached
further r l p = record { place = p; words = r.words ++ line_word (line_read l); byte = r.byte + length l + 1; line = r.line + 1 }

-- reading what is written, from any place on
written_on : (words : List ℕ) (r : Reached) (q : Place) → led (Ok r.place) words ≡ Ok q → concluded q ≡ Ok tt → read_from (Ok r) (listing words) ≡ Ok (r.words ++ words)
written_on [] r q e h =
    let p : r.place ≡ q = cc in
    ap (end_to r) (ap concluded p ∙ h) ∙ ap Ok (sym (append-nil r.words))
written_on (word ∷ words) r q e h =
    said (instruction_of word) refl e (λ r' e'. written_on words r' q e' h)
  where
    refused : {P : Type 0} (f : RuleFault) → led (Err f) words ≡ Ok q → P
    refused f e = let g = led_refused f words in let z : ◌≡◌ {A = ℕ} 0 1 = cc in absurd (omega arith)

    stood : (i : Instruction) → instruction_of word ≡ Some i → (s : Result Place RuleFault) → step r.place i ≡ s → led s words ≡ Ok q → ((r' : Reached) → led (Ok r'.place) words ≡ Ok q → read_from (Ok r') (listing words) ≡ Ok (r'.words ++ words))
        → read_from (Ok r) (line_of i ++ listing words) ≡ Ok (r.words ++ word ∷ words)
    stood i f (Err x) s e on = refused x e
    stood i f (Ok p) s e on =
        let says = line_there i (word_numbered word i f) in
        let one : line_word (line_read (line_text i)) ≡ word ∷ [] = ap line_word says ∙ ap (λ w. w ∷ []) (word_laws.back word i f) in
        from-text (Ok r) i (listing words) word f
        ∙ ap (λ t. read_from (read_to r (line_text i) t) (listing words)) (ap (line_led r.place) says ∙ ap ruled s)
        ∙ on (further r (line_text i) p) e
        ∙ ap Ok (ap (λ l. (r.words ++ l) ++ words) one ∙ append_assoc r.words (word ∷ []) words)

    said : (o : Option Instruction) → instruction_of word ≡ o → led (step_if r.place o) words ≡ Ok q → ((r' : Reached) → led (Ok r'.place) words ≡ Ok q → read_from (Ok r') (listing words) ≡ Ok (r'.words ++ words))
        → read_from (Ok r) (line_if o ++ listing words) ≡ Ok (r.words ++ word ∷ words)
    said None f e on = refused _ e
    said (Some i) f e on = stood i f (step r.place i) refl e on

-- reading what is written
written : (words : List ℕ) → keeps words ≡ true → verdict (listing words) ≡ Ok words
written words = by (led (Ok start) words) refl
  where
    end : (p : Place) (v : Result Unit RuleFault) → concluded p ≡ v → led (Ok start) words ≡ Ok p → accepted v ≡ true → verdict (listing words) ≡ Ok words
    end p (Ok u) c e k = written_on words begun p e c
    end p (Err f) c e k = let z : ◌≡◌ {A = ℕ} 0 1 = cc in absurd (omega arith)

    by : (s : Result Place RuleFault) → led (Ok start) words ≡ s → accepted (judged_at s) ≡ true → verdict (listing words) ≡ Ok words
    by (Ok p) e k = end p (concluded p) refl e k
    by (Err f) e k = let z : ◌≡◌ {A = ℕ} 0 1 = cc in absurd (omega arith)

-- a line with its end
abbrev closed : List ℕ → List ℕ
closed l = l ++ 10 ∷ []

-- bytes are their lines and what stands behind them
cut-joined : (bs : List ℕ) → bs ≡ flat_map closed (cut bs).lines ++ (cut bs).rest
cut-joined [] = refl
cut-joined (b ∷ bs) = by (eqb b 10) (ten b) (cut bs).lines (cut bs).rest (cut-joined bs)
  where
    ten : (b : ℕ) → eqb b 10 ≡ true → b ≡ 10
    ten b e = grind (arith, nat_tests)

    by : (t : Bool) → (t ≡ true → b ≡ 10) → (ls : List (List ℕ)) (rest : List ℕ) → bs ≡ flat_map closed ls ++ rest → b ∷ bs ≡ flat_map closed (cut_at t b (record { lines = ls; rest = rest })).lines ++ (cut_at t b (record { lines = ls; rest = rest })).rest
    by true f ls rest e = (λ j. f refl j ∷ e j)
    by false f [] rest e = ap (λ l. b ∷ l) e
    by false f (l ∷ ls) rest e = ap (λ l. b ∷ l) e

-- lines that were read are the lines of their words
pub record Lined (r : Reached) (ls : List (List ℕ)) (r' : Reached) : Type 0 where
  pub more : List ℕ
  pub words : r'.words ≡ r.words ++ more
  pub text : flat_map closed ls ≡ listing more
  pub place : led (Ok r.place) more ≡ Ok r'.place

lined : (ls : List (List ℕ)) (r r' : Reached) → read_lines (Ok r) ls ≡ Ok r' → Lined r ls r'
lined [] r r' e =
    let q : r ≡ r' = cc in
    record { more = []; words = sym (ap (λ x. x.words) q) ∙ sym (append-nil r.words); text = refl; place = ap (λ x. Ok x.place) q }
lined (l ∷ ls) r r' e = said (line_read l) refl e (λ r'' e'. lined ls r'' r' e')
  where
    refused : {P : Type 0} (f : ListingFault) → read_lines (Err f) ls ≡ Ok r' → P
    refused f e = let g = lines_refused f ls in let z : ◌≡◌ {A = ℕ} 0 1 = cc in absurd (omega arith)

    stood : (i : Instruction) → line_read l ≡ Some i → (s : Result Place RuleFault) → step r.place i ≡ s → read_lines (read_to r l (ruled s)) ls ≡ Ok r' → ((r'' : Reached) → read_lines (Ok r'') ls ≡ Ok r' → Lined r'' ls r') → Lined r (l ∷ ls) r'
    stood i f (Err x) s e on = refused _ e
    stood i f (Ok p) s e on =
        let k = on (further r l p) e in
        let b = line_back l i f in
        let there = word_laws.there i b.1 in
        let line : closed l ≡ word_line (word_of i) = ap closed b.0 ∙ sym (line_is i) ∙ ap line_if (sym there) in
        record {
          more = word_of i ∷ k.more;
          words = k.words ∙ ap (λ o. (r.words ++ line_word o) ++ k.more) f ∙ append_assoc r.words (word_of i ∷ []) k.more;
          text = (λ j. line j ++ k.text j);
          place = ap (λ t. led t k.more) (ap (step_if r.place) there ∙ s) ∙ k.place;
        }

    said : (o : Option Instruction) → line_read l ≡ o → read_lines (read_to r l (line_led r.place o)) ls ≡ Ok r' → ((r'' : Reached) → read_lines (Ok r'') ls ≡ Ok r' → Lined r'' ls r') → Lined r (l ∷ ls) r'
    said None f e on = refused _ e
    said (Some i) f e on = stood i f (step r.place i) refl e on

-- writing what was read
read : (bytes words : List ℕ) → verdict bytes ≡ Ok words → (bytes ≡ listing words) × (keeps words ≡ true)
read bytes words e = by (read_lines (Ok begun) (cut bytes).lines) (cut bytes).rest refl (cut-joined bytes) e
  where
    end : (r : Reached) (v : Result Unit RuleFault) → concluded r.place ≡ v → Lined begun (cut bytes).lines r → bytes ≡ flat_map closed (cut bytes).lines ++ [] → end_to r v ≡ Ok words → (bytes ≡ listing words) × (keeps words ≡ true)
    end r (Err f) c k j e = let z : ◌≡◌ {A = ℕ} 0 1 = cc in absurd (omega arith)
    end r (Ok u) c k j e =
        let q : r.words ≡ words = cc in
        let w : k.more ≡ words = sym k.words ∙ q in (
          j ∙ append-nil (flat_map closed (cut bytes).lines) ∙ k.text ∙ ap listing w,
          ap keeps (sym w) ∙ ap (λ s. accepted (judged_at s)) k.place ∙ ap accepted c,
        )

    by : (s : Result Reached ListingFault) (rest : List ℕ) → read_lines (Ok begun) (cut bytes).lines ≡ s → bytes ≡ flat_map closed (cut bytes).lines ++ rest → ended s rest ≡ Ok words → (bytes ≡ listing words) × (keeps words ≡ true)
    by (Err f) rest s j e = let z : ◌≡◌ {A = ℕ} 0 1 = cc in absurd (omega arith)
    by (Ok r) (b ∷ bs) s j e = let z : ◌≡◌ {A = ℕ} 0 1 = cc in absurd (omega arith)
    by (Ok r) [] s j e = end r (concluded r.place) refl (lined (cut bytes).lines begun r s) j e

pub listing_laws : ListingLaws
listing_laws = record { written = written; read = read }

-- the verdict tells whether bytes are the listing of words that keep the rules
pub exact : (bytes : List ℕ) (answer : Result Program ListingFault) → words_in answer ≡ verdict bytes → Exact bytes answer
exact bytes (Ok p) e = read bytes (held p) (sym e)
exact bytes (Err f) e = λ words k b. let w = written words k in let v = ap verdict b in let z : ◌≡◌ {A = ℕ} 0 1 = cc in omega arith

-- a refusal on the way is the verdict
pub refused_value : (bytes : List ℕ) (answer : Result Program ListingFault) (e f : ListingFault) (now : Result (List ℕ) ListingFault) → answer ≡ Err e → e ≡ f → now ≡ Err f → now ≡ verdict bytes → words_in answer ≡ verdict bytes
refused_value bytes answer e f now a b c d = ap words_in (a ∙ ap Err b) ∙ sym c ∙ d
