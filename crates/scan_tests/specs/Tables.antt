-- The laws of the kind for tests, each by one test over all its signals.
use Rattle.std.specs.Prelude.{◌≡◌, ℕ, Bool, true, false, ◌&&◌, ◌==◌, refl}
use Rattle.std.proofs.Common.{arith}
use Rattle.std.proofs.lemmas.Bool.Decides.{nat_tests}
use Rattle.signals.specs.Kind.{Laws}
use Rattle.scan_tests.specs.declared.trial.Trial.{Trial}
use Rattle.scan_tests.specs.declared.trial.Trial.TheVariants.{Off, On, Left, Right, Many}
use Rattle.scan_tests.specs.Trials.{after, beside, turned, trial}

-- signals told apart by numbers
abbrev code : Trial → ℕ
code Off = 0
code On = 1
code Left = 2
code Right = 3
code Many = 4

abbrev all : (Trial → Bool) → Bool
all f = f Off && (f On && (f Left && (f Right && f Many)))

first : (a b : Bool) → (a && b) ≡ true → a ≡ true
first true b e = refl
first false b e = e

second : (a b : Bool) → (a && b) ≡ true → b ≡ true
second true b e = e
second false b e = grind (arith, nat_tests)

at : (f : Trial → Bool) → all f ≡ true → (x : Trial) → f x ≡ true
at f e Off = first (f Off) _ e
at f e On = first (f On) _ (second (f Off) _ e)
at f e Left = first (f Left) _ (second (f On) _ (second (f Off) _ e))
at f e Right = first (f Right) _ (second (f Left) _ (second (f On) _ (second (f Off) _ e)))
at f e Many = second (f Right) _ (second (f Left) _ (second (f On) _ (second (f Off) _ e)))

same : (x y : Trial) → code x ≡ code y → x ≡ y
same Off Off e = refl
same Off On e = absurd (omega arith)
same Off Left e = absurd (omega arith)
same Off Right e = absurd (omega arith)
same Off Many e = absurd (omega arith)
same On Off e = absurd (omega arith)
same On On e = refl
same On Left e = absurd (omega arith)
same On Right e = absurd (omega arith)
same On Many e = absurd (omega arith)
same Left Off e = absurd (omega arith)
same Left On e = absurd (omega arith)
same Left Left e = refl
same Left Right e = absurd (omega arith)
same Left Many e = absurd (omega arith)
same Right Off e = absurd (omega arith)
same Right On e = absurd (omega arith)
same Right Left e = absurd (omega arith)
same Right Right e = refl
same Right Many e = absurd (omega arith)
same Many Off e = absurd (omega arith)
same Many On e = absurd (omega arith)
same Many Left e = absurd (omega arith)
same Many Right e = absurd (omega arith)
same Many Many e = refl

abbrev equal : Trial → Trial → Bool
equal x y = code x == code y

told : (x y : Trial) → equal x y ≡ true → x ≡ y
told x y e = same x y (let h : code x ≡ code y = grind (arith, nat_tests) in h)

law_1 : (l r : Trial → Trial) → all (λ x. equal (l x) (r x)) ≡ true → (x : Trial) → l x ≡ r x
law_1 l r e x = told (l x) (r x) (at (λ x. equal (l x) (r x)) e x)

law_2 : (l r : Trial → Trial → Trial) → all (λ x. all (λ y. equal (l x y) (r x y))) ≡ true → (x y : Trial) → l x y ≡ r x y
law_2 l r e x y = law_1 (l x) (r x) (at (λ x. all (λ y. equal (l x y) (r x y))) e x) y

law_3 : (l r : Trial → Trial → Trial → Trial) → all (λ x. all (λ y. all (λ z. equal (l x y z) (r x y z)))) ≡ true → (x y z : Trial) → l x y z ≡ r x y z
law_3 l r e x y z = law_2 (l x) (r x) (at (λ x. all (λ y. all (λ z. equal (l x y z) (r x y z)))) e x) y z

pub trial_laws : Laws trial
trial_laws = record {
  parallel_assoc = law_3 (λ x y z. beside (beside x y) z) (λ x y z. beside x (beside y z)) refl;
  parallel_comm = law_2 (λ x y. beside x y) (λ x y. beside y x) refl;
  parallel_off = law_1 (λ x. beside Off x) (λ x. x) refl;
  series_assoc = law_3 (λ x y z. after (after x y) z) (λ x y z. after x (after y z)) refl;
  series_on_left = law_1 (λ x. after On x) (λ x. x) refl;
  series_on_right = law_1 (λ x. after x On) (λ x. x) refl;
  spread_left = law_3 (λ x y z. after x (beside y z)) (λ x y z. beside (after x y) (after x z)) refl;
  spread_right = law_3 (λ x y z. after (beside x y) z) (λ x y z. beside (after x z) (after y z)) refl;
  inverse_twice = law_1 (λ x. turned (turned x)) (λ x. x) refl;
  inverse_on = refl;
  apart = λ e. let z : ◌≡◌ {A = ℕ} 0 1 = cc in omega arith;
}
