-- With two signals, coils receive on exactly by a path whose links are all on.
use Rattle.std.proofs.Common.{◌≡◌, ℕ, ◌⊎◌, ◌↔◌, List, sym, refl, ◌∙◌, inl, inr}
use Rattle.signals.specs.Kind.{Kind, Laws}
use Rattle.signals.specs.Kinds.{plain}
use Rattle.signals.specs.declared.plain.Plain.{Plain}
use Rattle.signals.specs.declared.plain.Plain.TheVariants.{Off, On}
use Rattle.wiring.specs.Circuit.{Circuit}
use Rattle.wiring.specs.Lists.{In}
use Rattle.wiring.specs.Paths.{Path}
use Rattle.wiring.specs.Value.{TwoSignals}
use Rattle.wiring.proofs.Values as values
use Rattle.scanning.specs.ByPaths.{link_signal, Received}

pub on_by_a_path : {S : Type 0} (k : Kind S) → Laws k → TwoSignals k → (points : List S) (c : Circuit) (r : S) → Received k points c r → (r ≡ k.on) ↔ ((p : List ℕ) × Path c p × ((i : ℕ) → In i p → link_signal k points c i ≡ k.on))
on_by_a_path k laws two points c r got =
    let by = values.on_by_a_path k laws (link_signal k points c) two got.ways in (
      λ e. let x = by.0 (sym got.joining ∙ e) in (x.0, (got.all.are x.0).0 x.1, x.2),
      λ x. got.joining ∙ by.1 (x.0, (got.all.are x.0).1 x.1, x.2),
    )

on_or_off : (x : Plain) → (x ≡ On) ⊎ (x ≡ Off)
on_or_off Off = inr refl
on_or_off On = inl refl

pub plain_is_two : TwoSignals plain
plain_is_two = record { either = on_or_off; both_on = refl }
