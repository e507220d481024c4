-- Texts joined one after the other.
use Rattle.std.proofs.Common.{◌≡◌, ℕ, zero, suc, ◌+◌, ◌/◌, ◌%◌, ◌^◌, ◌<◌, ◌≤◌, List, [], ◌∷◌, ◌++◌, length, get_or, take, drop, decimal, ◌-◌, sym, ap, ◌∙◌, arith, lit<}
use borrow.Rule.Slice.PartMut.{put_mid}
use Rattle.std.proofs.lemmas.List.{length-append, take_more, append_assoc, append-nil, take_at, drop_at, drop-drop}
use Rattle.std.proofs.lemmas.List.Concat.{length-flat_map}
use Rattle.std.proofs.lemmas.List.Edits.{paste_all}
use Rattle.std.proofs.lemmas.Slice.{put_mid-paste}
use Rattle.std.proofs.lemmas.Fmt.{decimal_step, decimal_digit, length-decimal-le}
use Rattle.std.specs.List.{flat_map, sum_by}
use Rattle.instructions.specs.Lines.{word_line, listing}

-- the digits of a number, its last one apart
pub length_decimal_step : (n : ℕ) → 10 ≤ n → n < 2 ^ 64 → length (decimal n) ≡ length (decimal (n / 10)) + 1
length_decimal_step n h k = ap length (decimal_step n h k) ∙ length-append (decimal (n / 10)) ((48 + n % 10) ∷ [])

-- how many digits a small number has
pub one_digit : (n : ℕ) → n < 10 → length (decimal n) ≡ 1
one_digit n h = ap length (decimal_digit n h)

pub two_digits : (n : ℕ) → 10 ≤ n → n < 100 → length (decimal n) ≡ 2
two_digits n h k = length_decimal_step n h (omega arith) ∙ ap (λ m. m + 1) (one_digit (n / 10) (omega arith))

pub all_three : (n : ℕ) → 100 ≤ n → n < 256 → length (decimal n) ≡ 3
all_three n h k = length_decimal_step n (omega arith) (omega arith) ∙ ap (λ m. m + 1) (two_digits (n / 10) (omega arith) (omega arith))

-- how many digits a number has at most
pub few_digits : (n : ℕ) → n < 2 ^ 64 → length (decimal n) ≤ 20
few_digits n h = length-decimal-le 20 n (lit< tt) (omega arith) (omega arith)

pub three_digits : (n : ℕ) → n < 256 → length (decimal n) ≤ 3
three_digits n h = length-decimal-le 3 n (lit< tt) (omega arith) (omega arith)

-- the next one of a row of texts
joined_push : {X A : Type 0} (f : X → List A) (xs : List X) (x : X) → flat_map f (xs ++ x ∷ []) ≡ flat_map f xs ++ f x
joined_push f [] x = append-nil (f x)
joined_push f (y ∷ xs) x = ap (λ l. f y ++ l) (joined_push f xs x) ∙ sym (append_assoc (f y) (flat_map f xs) (f x))

pub joined-next : {X A : Type 0} (f : X → List A) (xs : List X) (i : ℕ) (d : X) → i < length xs → flat_map f (take (i + 1) xs) ≡ flat_map f (take i xs) ++ f (get_or xs i d)
joined-next f xs i d h = ap (flat_map f) (take_more xs i d h) ∙ joined_push f (take i xs) (get_or xs i d)

pub joined-within : {X A : Type 0} (f : X → List A) (xs : List X) (i : ℕ) → length (flat_map f (take i xs)) ≤ length (flat_map f xs)
joined-within f xs zero = omega arith
joined-within f [] (suc i) = omega arith
joined-within f (x ∷ xs) (suc i) =
    let h = joined-within f xs i in
    omega (arith, length-append (f x) (flat_map f (take i xs)), length-append (f x) (flat_map f xs))

-- a text written behind what was written before
pub put_after : {X : Type 0} (done text old now part : List X) (at n : ℕ) → at ≡ length done → n ≡ length text → at + n ≤ length old → now ≡ done ++ drop at old → part ≡ text → put_mid at (at + n - at) now part ≡ (done ++ text) ++ drop (at + n) old
put_after done text old now part at n e l h f g =
    let k : n ≡ at + n - at = omega arith in
    let front : take at now ≡ done = ap (take at) f ∙ take_at done (drop at old) at (sym e) in
    let rest : drop (at + n) now ≡ drop (at + n) old = sym (drop-drop n at now) ∙ ap (drop n) (ap (drop at) f ∙ drop_at done (drop at old) at (sym e)) ∙ drop-drop n at old in
    put_mid-paste at (at + n - at) now part text n g k l
    ∙ paste_all now at text n l
    ∙ (λ i. front i ++ (text ++ rest i))
    ∙ sym (append_assoc done text (drop (at + n) old))

-- the length of a listing, line by line
pub length_listing : (ws : List ℕ) → length (listing ws) ≡ sum_by (λ w. length (word_line w)) ws
length_listing ws = length-flat_map word_line ws
