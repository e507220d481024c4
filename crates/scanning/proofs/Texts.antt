-- The words of a wiring's text make its signal the result.
use Rattle.std.proofs.Common.{◌≡◌, ℕ, zero, suc, ◌<◌, List, [], ◌∷◌, ◌++◌, get_or, refl, ap, ◌∙◌, inl, inr}
use Rattle.std.proofs.lemmas.List.{map-append}
use Rattle.signals.specs.Kind.{Kind, Laws}
use Rattle.instructions.specs.declared.instruction.Operand.TheVariants.{At}
use Rattle.instructions.specs.declared.instruction.Instruction.TheVariants.{AndOpen, OrOpen, Close}
use Rattle.instructions.specs.Words.{operand, word_of}
use Rattle.instructions.specs.WordLaws as law
use Rattle.wiring.specs.declared.rung.Action.{Action}
use Rattle.wiring.specs.declared.rung.Action.TheVariants as action
use Rattle.wiring.specs.declared.rung.Coil.{Coil}
use Rattle.wiring.specs.declared.rung.Contact.{Contact}
use Rattle.wiring.specs.declared.rung.Contact.TheVariants.{Wire, Open, Closed}
use Rattle.wiring.specs.declared.rung.Link.{Link}
use Rattle.wiring.specs.Circuit.{Circuit, bare, link_at}
use Rattle.wiring.specs.Lists.{In}
use Rattle.wiring.specs.Text.{Word, and_open, or_open, close, link_text, text}
use Rattle.wiring.specs.Value.{value}
use Rattle.wiring.specs.Wiring.{Wiring, link, series, parallel}
use Rattle.wiring.proofs.Rules.{first_link, first_series, first_parallel, and_link, and_series, and_parallel, or_link, or_series, or_parallel}
use Rattle.translation.specs.Spelling.{loading, anding, oring, acting, coiling, spelled, spell, coil_words}
use Rattle.scanning.specs.ByPaths.{passed, link_signal, all-coiled}
use Rattle.scanning.specs.Listings.{Within, Numbered}
use Rattle.scanning.specs.Machine.{Machine, with_result, with_points, coiled, acts, runs}
use Rattle.scanning.proofs.Running.{runs_append, runs_word}

-- what holds of every link of a list and of a bare one holds at every number
within-at : (ls : List Link) (i : ℕ) → ((l : Link) → In l ls → Within l.contact) → Within (get_or ls i bare).contact
within-at [] i h = tt
within-at (l ∷ ls) zero h = h l (inl refl)
within-at (l ∷ ls) (suc i) h = within-at ls i (λ x p. h x (inr p))

load_numbered : (x : Contact) → Within x → law.Numbered (operand (loading x))
load_numbered Wire h = tt
load_numbered (Open p) h = h
load_numbered (Closed p) h = h

and_numbered : (x : Contact) → Within x → law.Numbered (operand (anding x))
and_numbered Wire h = tt
and_numbered (Open p) h = h
and_numbered (Closed p) h = h

or_numbered : (x : Contact) → Within x → law.Numbered (operand (oring x))
or_numbered Wire h = tt
or_numbered (Open p) h = h
or_numbered (Closed p) h = h

act_numbered : (x : Coil) → x.point.number < 256 → law.Numbered (operand (coiling x))
act_numbered x h = by x.action
  where
    by : (a : Action) → law.Numbered (operand (acting a (At x.point)))
    by action.Store = h
    by action.StoreNot = h
    by action.Set = h
    by action.Reset = h

module _ {S : Type 0} (k : Kind S) where
  loads : (x : Contact) (m : Machine S) → acts k (loading x) m ≡ with_result (passed k m.points x) m
  loads Wire m = refl
  loads (Open p) m = refl
  loads (Closed p) m = refl

  ands : (x : Contact) (m : Machine S) → acts k (anding x) m ≡ with_result (k.series m.result (passed k m.points x)) m
  ands Wire m = refl
  ands (Open p) m = refl
  ands (Closed p) m = refl

  ors : (x : Contact) (m : Machine S) → acts k (oring x) m ≡ with_result (k.parallel m.result (passed k m.points x)) m
  ors Wire m = refl
  ors (Open p) m = refl
  ors (Closed p) m = refl

  coils : (x : Coil) (m : Machine S) → acts k (coiling x) m ≡ with_points (coiled k x.action x.point m.result m.points) m
  coils x m = by x.action
    where
      by : (a : Action) → acts k (acting a (At x.point)) m ≡ with_points (coiled k a x.point m.result m.points) m
      by action.Store = refl
      by action.StoreNot = refl
      by action.Set = refl
      by action.Reset = refl

  -- coils in turn, each with the result
  pub coils_run : (xs : List Coil) (m : Machine S) → ((x : Coil) → In x xs → x.point.number < 256) → (runs k (coil_words xs) m).points ≡ all-coiled k xs m.result m.points
  coils_run [] m h = refl
  coils_run (x ∷ xs) m h =
      ap (λ (n : Machine S). n.points) (runs_word k (coiling x) (coil_words xs) m (act_numbered x (h x (inl refl))) ∙ ap (runs k (coil_words xs)) (coils x m))
      ∙ coils_run xs (with_points (coiled k x.action x.point m.result m.points) m) (λ y p. h y (inr p))

  module _ (laws : Laws k) (c : Circuit) (numbered : Numbered c) where
    -- the signal of a wiring, its contacts read from the machine's points
    abbrev signal : Wiring ℕ → Machine S → S
    signal w m = value k (link_signal k m.points c) w

    -- the words of a text, from a machine on
    abbrev says : List Word → Machine S → Machine S
    says ws m = runs k (spell c ws) m

    then_says : (us vs : List Word) (m : Machine S) → says (us ++ vs) m ≡ says vs (says us m)
    then_says us vs m = ap (λ ws. runs k ws m) (map-append (λ w. word_of (spelled c w)) us vs) ∙ runs_append k (spell c us) (spell c vs) m

    -- what a wiring's text does where it stands first, where it joins in series and where it joins in parallel
    pub record Does (w : Wiring ℕ) : Type 0 where
      pub first : (m : Machine S) → says (text link_text w).first m ≡ with_result (signal w m) m
      pub later_and : (m : Machine S) → says (text link_text w).later_and m ≡ with_result (k.series m.result (signal w m)) m
      pub later_or : (m : Machine S) → says (text link_text w).later_or m ≡ with_result (k.parallel m.result (signal w m)) m

    link_does : (i : ℕ) → Does (link i)
    link_does i =
        let x = (link_at c i).contact in
        let h = within-at c.links i numbered.contacts in
        record {
          first = λ m. ap (λ ws. says ws m) (first_link i) ∙ runs_word k (loading x) [] m (load_numbered x h) ∙ loads x m;
          later_and = λ m. ap (λ ws. says ws m) (and_link i) ∙ runs_word k (anding x) [] m (and_numbered x h) ∙ ands x m;
          later_or = λ m. ap (λ ws. says ws m) (or_link i) ∙ runs_word k (oring x) [] m (or_numbered x h) ∙ ors x m;
        }

    -- a text in brackets
    in_brackets_and : (w : Wiring ℕ) (us : List Word) → ((m : Machine S) → says us m ≡ with_result (signal w m) m) → (m : Machine S) → says (and_open ∷ (us ++ (close ∷ []))) m ≡ with_result (k.series m.result (signal w m)) m
    in_brackets_and w us h m =
        runs_word k AndOpen (spell c (us ++ (close ∷ []))) m tt
        ∙ then_says us (close ∷ []) (acts k AndOpen m)
        ∙ ap (says (close ∷ [])) (h (acts k AndOpen m))
        ∙ runs_word k Close [] (with_result (signal w m) (acts k AndOpen m)) tt

    in_brackets_or : (w : Wiring ℕ) (us : List Word) → ((m : Machine S) → says us m ≡ with_result (signal w m) m) → (m : Machine S) → says (or_open ∷ (us ++ (close ∷ []))) m ≡ with_result (k.parallel m.result (signal w m)) m
    in_brackets_or w us h m =
        runs_word k OrOpen (spell c (us ++ (close ∷ []))) m tt
        ∙ then_says us (close ∷ []) (acts k OrOpen m)
        ∙ ap (says (close ∷ [])) (h (acts k OrOpen m))
        ∙ runs_word k Close [] (with_result (signal w m) (acts k OrOpen m)) tt

    series_does : (a b : Wiring ℕ) → Does a → Does b → Does (series a b)
    series_does a b p q =
        let one : (m : Machine S) → says (text link_text (series a b)).first m ≡ with_result (signal (series a b) m) m
        = λ m.
        ap (λ ws. says ws m) (first_series a b)
        ∙ then_says (text link_text a).first (text link_text b).later_and m
        ∙ ap (says (text link_text b).later_and) (p.first m)
        ∙ q.later_and (with_result (signal a m) m) in
        record {
          first = one;
          later_and = λ m.
              ap (λ ws. says ws m) (and_series a b)
              ∙ then_says (text link_text a).later_and (text link_text b).later_and m
              ∙ ap (says (text link_text b).later_and) (p.later_and m)
              ∙ q.later_and (with_result (k.series m.result (signal a m)) m)
              ∙ ap (λ r. with_result r m) (laws.series_assoc m.result (signal a m) (signal b m));
          later_or = λ m. ap (λ ws. says ws m) (or_series a b) ∙ in_brackets_or (series a b) (text link_text (series a b)).first one m;
        }

    parallel_does : (a b : Wiring ℕ) → Does a → Does b → Does (parallel a b)
    parallel_does a b p q =
        let one : (m : Machine S) → says (text link_text (parallel a b)).first m ≡ with_result (signal (parallel a b) m) m
        = λ m.
        ap (λ ws. says ws m) (first_parallel a b)
        ∙ then_says (text link_text a).first (text link_text b).later_or m
        ∙ ap (says (text link_text b).later_or) (p.first m)
        ∙ q.later_or (with_result (signal a m) m) in
        record {
          first = one;
          later_and = λ m. ap (λ ws. says ws m) (and_parallel a b) ∙ in_brackets_and (parallel a b) (text link_text (parallel a b)).first one m;
          later_or = λ m.
              ap (λ ws. says ws m) (or_parallel a b)
              ∙ then_says (text link_text a).later_or (text link_text b).later_or m
              ∙ ap (says (text link_text b).later_or) (p.later_or m)
              ∙ q.later_or (with_result (k.parallel m.result (signal a m)) m)
              ∙ ap (λ r. with_result r m) (laws.parallel_assoc m.result (signal a m) (signal b m));
        }

    pub does : (w : Wiring ℕ) → Does w
    does (link i) = link_does i
    does (series a b) = series_does a b (does a) (does b)
    does (parallel a b) = parallel_does a b (does a) (does b)
