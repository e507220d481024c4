-- A strip or a board laid on a pile, by what is laid on a bank and on a layer.
use Rattle.std.proofs.Common.{◌≡◌, Ok, Result, sym, ap, subst, ◌∙◌}
use Rattle.piles.specs.declared.layer.Layer.{Layer}
use Rattle.piles.specs.declared.layer.Layer.TheVariants.{Bare, Marked, Patched}
use Rattle.piles.specs.Piles.{stripped, Boarded, LaidAs, Laid, with_strip, WithBoard}

module _ {B : Type 0} (on_bank : B → Layer B → Type 0) (on_layer : Layer B → Layer (Layer B) → Type 0) where
  strip_cases : (pile : Layer (Layer B)) (r : Result (Layer (Layer B)) (Layer (Layer B))) → LaidAs on_bank on_layer pile r → ((b : B) (l : Layer B) → on_bank b l → l ≡ stripped b) → ((l : Layer B) (p : Layer (Layer B)) → on_layer l p → p ≡ stripped l) → r ≡ with_strip pile
  strip_cases (Bare (Bare b)) r h f g = h.2 ∙ ap (λ (l : Layer B). Ok (Bare l)) (f b h.0 h.1)
  strip_cases (Bare (Marked strip)) r h f g = h.2 ∙ ap Ok (g (Marked strip) h.0 h.1)
  strip_cases (Bare (Patched board)) r h f g = h.2 ∙ ap Ok (g (Patched board) h.0 h.1)
  strip_cases (Marked strip) r h f g = h
  strip_cases (Patched board) r h f g = h

  board_cases : (pile : Layer (Layer B)) (r : Result (Layer (Layer B)) (Layer (Layer B))) → LaidAs on_bank on_layer pile r → ((b : B) (l : Layer B) → on_bank b l → Boarded b l) → ((l : Layer B) (p : Layer (Layer B)) → on_layer l p → Boarded l p) → WithBoard pile r
  board_cases (Bare (Bare b)) r h f g =
      let v = f b h.0 h.1 in
      subst (λ (t : Result (Layer (Layer B)) (Layer (Layer B))). WithBoard (Bare (Bare b)) t) (sym h.2) (v.0, v.1, ap Bare v.2)
  board_cases (Bare (Marked strip)) r h f g = subst (λ (t : Result (Layer (Layer B)) (Layer (Layer B))). WithBoard (Bare (Marked strip)) t) (sym h.2) (g (Marked strip) h.0 h.1)
  board_cases (Bare (Patched board)) r h f g = subst (λ (t : Result (Layer (Layer B)) (Layer (Layer B))). WithBoard (Bare (Patched board)) t) (sym h.2) (g (Patched board) h.0 h.1)
  board_cases (Marked strip) r h f g = h
  board_cases (Patched board) r h f g = h

module _ {B : Type 0} {on_bank : B → Layer B → Type 0} {on_layer : Layer B → Layer (Layer B) → Type 0} {pile : Layer (Layer B)} {r : Result (Layer (Layer B)) (Layer (Layer B))} (h : Laid on_bank on_layer pile r) where
  pub strip_laid : ((b : B) (l : Layer B) → on_bank b l → l ≡ stripped b) → ((l : Layer B) (p : Layer (Layer B)) → on_layer l p → p ≡ stripped l) → r ≡ with_strip pile
  strip_laid f g = strip_cases on_bank on_layer pile r h.is f g

  pub board_laid : ((b : B) (l : Layer B) → on_bank b l → Boarded b l) → ((l : Layer B) (p : Layer (Layer B)) → on_layer l p → Boarded l p) → WithBoard pile r
  board_laid f g = board_cases on_bank on_layer pile r h.is f g
