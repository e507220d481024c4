-- A listing read into a draft, line by line.
use Rattle.std.proofs.Common.{◌≡◌, ℕ, ◌+◌, ◌<◌, ◌≤◌, List, [], ◌∷◌, ◌++◌, length, take, drop, Some, Ok, Err, Result, sym, ap, ◌∙◌, arith}
use Rattle.std.proofs.lemmas.List.{length-take-le, drop-drop, drop_all}
use Rattle.instructions.specs.declared.instruction.Instruction.{Instruction}
use Rattle.instructions.specs.Words.{word_of}
use Rattle.instructions.proofs.Words.{word_laws}
use Rattle.programs.specs.declared.draft.Draft.{Draft}
use Rattle.programs.specs.declared.fault.RuleFault.{RuleFault}
use Rattle.programs.specs.Rules.{Place, step, step_if, onward, concluded}
use Rattle.programs.specs.Drafts.{drafted, standing}
use Rattle.listings.specs.declared.fault.Cause.{Cause}
use Rattle.listings.specs.LineReading.{byte_in, line_read}
use Rattle.listings.specs.Reading.{Reached, ruled, line_led, line_word, refused_at, read_to, read_on, read_from, end_to}
use Rattle.listings.specs.Progress.{reached}
use Rattle.listings.proofs.LineReading.{line_back}
use Rattle.listings.proofs.Cuts.{from_line, from_refused}

-- the word of a line that says an instruction stands for it
pub line_onward : (text : List ℕ) (i : Instruction) (p : Place) → line_read text ≡ Some i → onward (Ok p) (word_of i) ≡ step p i
line_onward text i p e = ap (step_if p) (word_laws.there i (line_back text i e).1)

-- where a line leads, and its word
pub line_led_lem : (text : List ℕ) (i : Instruction) (word : ℕ) (p : Place) (to : Result Place RuleFault) → Some i ≡ line_read text → word ≡ word_of i → onward (Ok p) word ≡ to → line_led p (line_read text) ≡ ruled to
line_led_lem text i word p to e w o = ap (line_led p) (sym e) ∙ ap ruled (sym (line_onward text i p (sym e)) ∙ ap (onward (Ok p)) (sym w) ∙ o)

pub line_drafted : (text : List ℕ) (i : Instruction) (word : ℕ) (before after : List ℕ) → Some i ≡ line_read text → word ≡ word_of i → after ≡ before ++ word ∷ [] → after ≡ before ++ line_word (line_read text)
line_drafted text i word before after e w f = f ∙ ap (λ x. before ++ x ∷ []) w ∙ ap (λ o. before ++ line_word o) e

-- one line more
pub next-read : (bytes : List ℕ) (before after : Draft) (byte line end : ℕ) → byte < length bytes → end ≡ byte_in 10 (drop byte bytes) → end < length (drop byte bytes) →
    line_led (standing before) (line_read (take end (drop byte bytes))) ≡ Ok (standing after) → drafted after ≡ drafted before ++ line_word (line_read (take end (drop byte bytes))) →
    read_from (Ok (reached before byte line)) (drop byte bytes) ≡ read_from (Ok (reached after (byte + end + 1) (line + 1))) (drop (byte + end + 1) bytes)
next-read bytes before after byte line end h e l led words =
    let rest = drop byte bytes in
    let len : length (take end rest) ≡ end = length-take-le end rest (omega arith) in
    let n : byte + (end + 1) ≡ byte + end + 1 = omega arith in
    let d : drop (end + 1) rest ≡ drop (byte + end + 1) bytes = drop-drop (end + 1) byte bytes ∙ ap (λ k. drop k bytes) n in
    let r : read_on (Ok (reached before byte line)) (take end rest) ≡ Ok (reached after (byte + end + 1) (line + 1)) =
    ap (read_to (reached before byte line) (take end rest)) led
    ∙ (λ j. Ok (record { place = standing after; words = sym words j; byte = byte + len j + 1; line = line + 1 })) in
    from_line (Ok (reached before byte line)) rest end e l ∙ (λ j. read_from (r j) (d j))

-- a line that is refused
pub next_refused : (bytes : List ℕ) (before : Draft) (byte line end : ℕ) (cause : Cause) → end ≡ byte_in 10 (drop byte bytes) → end < length (drop byte bytes) →
    line_led (standing before) (line_read (take end (drop byte bytes))) ≡ Err cause → read_from (Ok (reached before byte line)) (drop byte bytes) ≡ Err (record { cause = cause; byte = byte; line = line })
next_refused bytes before byte line end cause e l led =
    let rest = drop byte bytes in
    from_line (Ok (reached before byte line)) rest end e l
    ∙ ap (λ s. read_from (read_to (reached before byte line) (take end rest) s) (drop (end + 1) rest)) led
    ∙ from_refused (refused_at (reached before byte line) cause) (drop (end + 1) rest)

-- the end
pub at-end : (bytes : List ℕ) (r : Reached) → length bytes ≤ r.byte → read_from (Ok r) (drop r.byte bytes) ≡ end_to r (concluded r.place)
at-end bytes r h = ap (read_from (Ok r)) (drop_all r.byte bytes h)
