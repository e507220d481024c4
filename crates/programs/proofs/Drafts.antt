-- A word more of a draft.
use Rattle.std.proofs.Common.{◌≡◌, ℕ, ◌+◌, ◌<◌, ◌≤◌, Bool, true, false, cond, ltb, List, [], ◌∷◌, ◌++◌, length, get_or, take, drop, Ok, Err, Result, sym, ap, ◌∙◌, arith}
use Rattle.std.proofs.lemmas.Bool.Decides.{nat_tests}
use Rattle.std.proofs.lemmas.List.{take_more, at_drop_more, at_drop_all}
use Rattle.instructions.specs.declared.store.Store.{Store}
use Rattle.instructions.specs.declared.store.Full.{Full}
use Rattle.instructions.specs.Stores.{stored, Kept}
use Rattle.instructions.specs.Words.{instruction_of}
use Rattle.programs.specs.Rules.{Place, start, onward, led, lead_to, concluded, judged_at, judged}
use Rattle.programs.specs.declared.fault.RuleFault.{RuleFault}
use Rattle.programs.specs.Counts.{starts_if, start_at, starts_of}
use Rattle.programs.proofs.Rules.{led-append, led_refused, led_from_leads, leads_from_led, stepped, passed, starts_push}

-- the words with one more
pub leads_more : (words : List ℕ) (p q : Place) (word : ℕ) → lead_to words p ≡ true → onward (Ok p) word ≡ Ok q → lead_to (words ++ word ∷ []) q ≡ true
leads_more words p q word h e =
    leads_from_led (words ++ word ∷ []) q
    (led-append (Ok start) words (word ∷ [])
    ∙ ap (λ r. onward r word) (led_from_leads words p h)
    ∙ e)

-- there is room for it
pub room_more : (words : List ℕ) (p q : Place) (word : ℕ) → lead_to words p ≡ true → onward (Ok p) word ≡ Ok q → length words + 1 ≤ 4096
room_more words p q word h e =
    let s = stepped p q word e in
    let t = passed start p words (led_from_leads words p h) in
    let room = s.room in
    let all = t.words_are in
    omega arith

pub kept_one : {U : Type 0} (before : Store) (word : ℕ) (answer : Result U Full) (after : Store) → length (stored before) + 1 ≤ 4096 → Kept before (word ∷ []) answer after → stored after ≡ stored before ++ word ∷ []
kept_one before word (Ok u) after h k = k.1
kept_one before word (Err f) after h k = let m = k.0 in absurd (omega arith)

-- the starts with one more, if the word starts a rung
starts_at : (r m at : ℕ) (b : Bool) → m ≡ cond b (r + 1) r → cond (ltb r m) (at ∷ []) [] ≡ cond b (at ∷ []) []
starts_at r m at true e = let t : ltb r m ≡ true = grind (arith, nat_tests) in ap (λ b. cond b (at ∷ []) []) t
starts_at r m at false e = let t : ltb r m ≡ false = grind (arith, nat_tests) in ap (λ b. cond b (at ∷ []) []) t

pub starts_more : (starts words : List ℕ) (p q : Place) (word : ℕ) → lead_to words p ≡ true → starts ≡ starts_of words → onward (Ok p) word ≡ Ok q → starts ++ cond (ltb p.rungs q.rungs) (p.words ∷ []) [] ≡ starts_of (words ++ word ∷ [])
starts_more starts words p q word h g e =
    let s = stepped p q word e in
    let t = passed start p words (led_from_leads words p h) in
    let all = t.words_are in
    let len : 0 + length words ≡ p.words = omega arith in
    (λ j. g j ++ starts_at p.rungs q.rungs p.words (starts_if p.brackets (instruction_of word)) s.rungs j)
    ∙ (λ j. starts_of words ++ start_at (sym len j) (t.brackets_are j) word)
    ∙ sym (starts_push 0 0 words word)

counted_at : (r m : ℕ) (b : Bool) → m ≡ cond b (r + 1) r → cond (ltb r m) (r + 1) r ≡ m
counted_at r m true e = let t : ltb r m ≡ true = grind (arith, nat_tests) in ap (λ b. cond b (r + 1) r) t ∙ sym e
counted_at r m false e = let t : ltb r m ≡ false = grind (arith, nat_tests) in ap (λ b. cond b (r + 1) r) t ∙ sym e

pub count_more : (p q : Place) (word count : ℕ) → onward (Ok p) word ≡ Ok q → count ≡ p.rungs → cond (ltb p.rungs q.rungs) (count + 1) count ≡ q.rungs
count_more p q word count e c =
    ap (λ n. cond (ltb p.rungs q.rungs) (n + 1) n) c ∙ counted_at p.rungs q.rungs (starts_if p.brackets (instruction_of word)) (stepped p q word e).rungs

pub count_below : (r m count : ℕ) → count ≡ r → m ≤ 128 → ltb r m ≡ true → count < 128
count_below r m count e h t = grind (arith, nat_tests)

-- words taken one by one: one more, a refusal, and the end
pub led-more : (words : List ℕ) (i : ℕ) (p q : Place) → i < length words → led (Ok p) (drop i words) ≡ led (Ok start) words → onward (Ok p) (get_or words i 0) ≡ Ok q → led (Ok q) (drop (i + 1) words) ≡ led (Ok start) words
led-more words i p q h l e =
    let m : led (Ok p) (drop i words) ≡ led (onward (Ok p) (get_or words i 0)) (drop (i + 1) words) = at_drop_more (led (Ok p)) words i 0 h in
    sym (ap (λ r. led r (drop (i + 1) words)) e) ∙ sym m ∙ l

pub judged_refused : (words : List ℕ) (i : ℕ) (p : Place) (fault : RuleFault) → i < length words → led (Ok p) (drop i words) ≡ led (Ok start) words → onward (Ok p) (get_or words i 0) ≡ Err fault → judged words ≡ Err fault
judged_refused words i p fault h l e =
    let m : led (Ok p) (drop i words) ≡ led (onward (Ok p) (get_or words i 0)) (drop (i + 1) words) = at_drop_more (led (Ok p)) words i 0 h in
    ap judged_at (sym l ∙ m ∙ ap (λ r. led r (drop (i + 1) words)) e ∙ led_refused fault (drop (i + 1) words))

pub judged-all : (words : List ℕ) (i : ℕ) (p : Place) → length words ≤ i → led (Ok p) (drop i words) ≡ led (Ok start) words → concluded p ≡ judged words
judged-all words i p h l = ap judged_at (sym (at_drop_all (led (Ok p)) words i h) ∙ l)

pub taken_more : (words : List ℕ) (i : ℕ) (before after : List ℕ) → i < length words → before ≡ take i words → after ≡ before ++ get_or words i 0 ∷ [] → after ≡ take (i + 1) words
taken_more words i before after h e f = f ∙ ap (λ l. l ++ get_or words i 0 ∷ []) e ∙ sym (take_more words i 0 h)
