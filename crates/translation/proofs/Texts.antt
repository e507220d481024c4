-- The words of a part, made of the words of its own parts.
use Rattle.std.proofs.Common.{◌≡◌, ℕ, ◌≤◌, List, [], ◌∷◌, ◌++◌, length, sym, refl, ap, ◌∙◌, subst, arith}
use Rattle.std.proofs.lemmas.List.{append_assoc, append-nil, length-append, length-map, map-append}
use Rattle.rows.specs.Rows.{parts_of}
use Rattle.instructions.specs.declared.instruction.Instruction.{Instruction}
use Rattle.instructions.specs.declared.instruction.Instruction.TheVariants.{AndOpen, OrOpen, Close}
use Rattle.instructions.specs.Words.{word_of}
use Rattle.wiring.specs.declared.rung.Contact.{Contact}
use Rattle.wiring.specs.Circuit.{Circuit, circuit, link_at}
use Rattle.wiring.specs.Text.{Word, and_open, or_open, close, in_series, in_parallel, link_text, text}
use Rattle.wiring.specs.Wiring.{Wiring, link, series, parallel, leaves}
use Rattle.wiring.proofs.Lengths.{text_short}
use Rattle.elimination.specs.Trees.{tree_at}
use Rattle.translation.specs.declared.emitters.Emitter.{Emitter}
use Rattle.translation.specs.declared.emitters.Place.{Place}
use Rattle.translation.specs.declared.emitters.Place.TheVariants.{First, Later}
use Rattle.translation.specs.Spelling.{anding, oring, spelled, spell, coiling, coil_words, rung_words}
use Rattle.translation.specs.Drafts.{series_at, branches_at, coils_at, series_words, branch_words, series_contact, branch_contact, bracketed, ReadsAt, Room, Adds}

-- one row of words after another
pub then_adds : {before mid after : Emitter} {us vs : List ℕ} → Adds before us mid → Adds mid vs after → Adds before (us ++ vs) after
then_adds {before} {us = us} {vs = vs} p q = record {
  is = q.is ∙ ap (λ l. l ++ vs) p.is ∙ append_assoc before.draft.items us vs;
  rung = q.rung ∙ p.rung;
  table = q.table ∙ p.table;
}

-- words that are known by another name
pub adds_as : {before after : Emitter} {us ws : List ℕ} → ws ≡ us → Adds before us after → Adds before ws after
adds_as {before} {after} e p = subst (λ (l : List ℕ). Adds before l after) (sym e) p

pub room_as : {before : Emitter} {us ws : List ℕ} → ws ≡ us → Room before ws → Room before us
room_as {before} e p = subst (λ (l : List ℕ). Room before l) e p

-- room for both is room for each
room-first : {before : Emitter} (us vs : List ℕ) → Room before (us ++ vs) → Room before us
room-first us vs p = let h = p.fits in record { fits = omega (arith, length-append us vs) }

room_next : {before mid : Emitter} (us vs : List ℕ) → Room before (us ++ vs) → Adds before us mid → Room mid vs
room_next {before} us vs p q = let h = p.fits in let e = ap length q.is in record { fits = omega (arith, length-append us vs, length-append before.draft.items us) }

-- words that stay the same while words are added
abbrev pub Steady : (Emitter → List ℕ) → Type 0
Steady f = (before : Emitter) (us : List ℕ) (after : Emitter) → Adds before us after → f after ≡ f before

pub steady_series : (place : Place) (at : ℕ) → Steady (λ e. series_at e place at)
steady_series place at before us after p = λ t. series_words (circuit (p.rung t).now) place (tree_at (parts_of (p.table t).now.nodes) at)

pub steady_branches : (place : Place) (at : ℕ) → Steady (λ e. branches_at e place at)
steady_branches place at before us after p = λ t. branch_words (circuit (p.rung t).now) place (tree_at (parts_of (p.table t).now.nodes) at)

pub steady_coils : Steady coils_at
steady_coils before us after p = λ t. coil_words (circuit (p.rung t).now).coils

-- words that are two rows, one after the other
pub record InTwo (before : Emitter) (ws : List ℕ) (f g : Emitter → List ℕ) : Type 0 where
  pub first : Room before (f before)
  pub second : {mid : Emitter} → Adds before (f before) mid → Room mid (g mid)
  pub whole : {mid after : Emitter} → Adds before (f before) mid → Adds mid (g mid) after → Adds before ws after

pub in_two : {before : Emitter} {ws : List ℕ} (f g : Emitter → List ℕ) → Steady g → ws ≡ f before ++ g before → Room before ws → InTwo before ws f g
in_two {before} f g steady e r = record {
  first = room-first (f before) (g before) (room_as e r);
  second = λ p. room_as (sym (steady _ _ _ p)) (room_next (f before) (g before) (room_as e r) p);
  whole = λ p q. adds_as e (then_adds p (adds_as (sym (steady _ _ _ p)) q));
}

-- words that are two rows between brackets
pub record InBrackets (before : Emitter) (ws opening : List ℕ) (f g : Emitter → List ℕ) (closing : List ℕ) : Type 0 where
  pub outer : InTwo before ws (λ _. opening) (λ e. f e ++ (g e ++ closing))
  pub first : {mid : Emitter} → Adds before opening mid → InTwo mid (f mid ++ (g mid ++ closing)) f (λ e. g e ++ closing)
  pub second : {mid next : Emitter} → Adds before opening mid → Adds mid (f mid) next → InTwo next (g next ++ closing) g (λ _. closing)

pub in_brackets : {before : Emitter} {ws : List ℕ} (opening : List ℕ) (f g : Emitter → List ℕ) (closing : List ℕ) → Steady f → Steady g → ws ≡ opening ++ (f before ++ (g before ++ closing)) → Room before ws → InBrackets before ws opening f g closing
in_brackets {before} {ws} opening f g closing steady_f steady_g e r =
    let behind : Steady (λ e. g e ++ closing) = λ b us a p. ap (λ l. l ++ closing) (steady_g b us a p) in
    let inner : Steady (λ e. f e ++ (g e ++ closing)) = λ b us a p. (λ t. steady_f b us a p t ++ (steady_g b us a p t ++ closing)) in
    let o : InTwo before ws (λ _. opening) (λ e. f e ++ (g e ++ closing)) = in_two (λ _. opening) (λ e. f e ++ (g e ++ closing)) inner e r in
    record {
      outer = o;
      first = λ {mid} p. in_two f (λ e. g e ++ closing) behind refl (o.second p);
      second = λ {mid} {next} p q. in_two g (λ _. closing) (λ b us a k. refl) refl ((in_two f (λ e. g e ++ closing) behind refl (o.second p)).second q);
    }

-- how the emitters read a contact
pub series_reads : (later : Contact → Instruction → Type 0) (x : Contact) (i : Instruction) (place : Place) → (later x i → i ≡ anding x) → ReadsAt place later x i → i ≡ series_contact place x
series_reads later x i First p e = e
series_reads later x i Later p e = p e

pub branch_reads : (later : Contact → Instruction → Type 0) (x : Contact) (i : Instruction) (place : Place) → (later x i → i ≡ oring x) → ReadsAt place later x i → i ≡ branch_contact place x
branch_reads later x i First p e = e
branch_reads later x i Later p e = p e

module _ (c : Circuit) where
  pub spell-append : (us vs : List Word) → spell c (us ++ vs) ≡ spell c us ++ spell c vs
  spell-append us vs = map-append (λ w. word_of (spelled c w)) us vs

  bracket_around : (opening : Word) (us vs : List Word) → spell c (opening ∷ ((us ++ vs) ++ close ∷ [])) ≡ word_of (spelled c opening) ∷ (spell c us ++ (spell c vs ++ word_of Close ∷ []))
  bracket_around opening us vs =
      ap (λ l. word_of (spelled c opening) ∷ l) (spell-append (us ++ vs) (close ∷ []) ∙ ap (λ l. l ++ word_of Close ∷ []) (spell-append us vs) ∙ append_assoc (spell c us) (spell c vs) (word_of Close ∷ []))

  bare_around : (us vs : List Word) → spell c (us ++ vs) ≡ spell c us ++ (spell c vs ++ [])
  bare_around us vs = spell-append us vs ∙ ap (λ l. spell c us ++ l) (sym (append-nil (spell c vs)))

  -- a series in a series, and a branch group in a branch group: no brackets
  pub series_link : (place : Place) (i : ℕ) → series_words c place (link i) ≡ word_of (series_contact place (link_at c i).contact) ∷ []
  unfolding link_text
  series_link First i = refl
  series_link Later i = refl

  pub branch_link : (place : Place) (i : ℕ) → branch_words c place (link i) ≡ word_of (branch_contact place (link_at c i).contact) ∷ []
  unfolding link_text
  branch_link First i = refl
  branch_link Later i = refl

  pub series_series : (place : Place) (a b : Wiring ℕ) → series_words c place (series a b) ≡ series_words c place a ++ series_words c Later b
  unfolding in_series
  series_series First a b = spell-append (text link_text a).first (text link_text b).later_and
  series_series Later a b = spell-append (text link_text a).later_and (text link_text b).later_and

  pub branch_parallel : (place : Place) (a b : Wiring ℕ) → branch_words c place (parallel a b) ≡ branch_words c place a ++ branch_words c Later b
  unfolding in_parallel
  branch_parallel First a b = spell-append (text link_text a).first (text link_text b).later_or
  branch_parallel Later a b = spell-append (text link_text a).later_or (text link_text b).later_or

  -- a branch group in a series, and a series in a branch group: brackets around a later part
  pub series_parallel : (place : Place) (a b : Wiring ℕ) → series_words c place (parallel a b) ≡ bracketed place AndOpen ++ (branch_words c First a ++ (branch_words c Later b ++ bracketed place Close))
  unfolding in_parallel
  series_parallel First a b = bare_around (text link_text a).first (text link_text b).later_or
  series_parallel Later a b = bracket_around and_open (text link_text a).first (text link_text b).later_or

  pub branch_series : (place : Place) (a b : Wiring ℕ) → branch_words c place (series a b) ≡ bracketed place OrOpen ++ (series_words c First a ++ (series_words c Later b ++ bracketed place Close))
  unfolding in_series
  branch_series First a b = bare_around (text link_text a).first (text link_text b).later_and
  branch_series Later a b = bracket_around or_open (text link_text a).first (text link_text b).later_and

-- the same at a position of an emitter's table
module _ (e : Emitter) (place : Place) where
  pub series_leaf : (at i : ℕ) {x : Instruction} → tree_at (parts_of e.table.now.nodes) at ≡ link i → x ≡ series_contact place (link_at (circuit e.rung.now) i).contact → series_at e place at ≡ word_of x ∷ []
  series_leaf at i tree q = ap (series_words (circuit e.rung.now) place) tree ∙ series_link (circuit e.rung.now) place i ∙ ap (λ j. word_of j ∷ []) (sym q)

  pub branch_leaf : (at i : ℕ) {x : Instruction} → tree_at (parts_of e.table.now.nodes) at ≡ link i → x ≡ branch_contact place (link_at (circuit e.rung.now) i).contact → branches_at e place at ≡ word_of x ∷ []
  branch_leaf at i tree q = ap (branch_words (circuit e.rung.now) place) tree ∙ branch_link (circuit e.rung.now) place i ∙ ap (λ j. word_of j ∷ []) (sym q)

  module _ (at a b : ℕ) where
    pub series_in_two : tree_at (parts_of e.table.now.nodes) at ≡ series (tree_at (parts_of e.table.now.nodes) a) (tree_at (parts_of e.table.now.nodes) b) → Room e (series_at e place at) → InTwo e (series_at e place at) (λ x. series_at x place a) (λ x. series_at x Later b)
    series_in_two tree r =
        in_two (λ x. series_at x place a) (λ x. series_at x Later b) (steady_series Later b)
        (ap (series_words (circuit e.rung.now) place) tree ∙ series_series (circuit e.rung.now) place _ _) r

    pub branches_in_two : tree_at (parts_of e.table.now.nodes) at ≡ parallel (tree_at (parts_of e.table.now.nodes) a) (tree_at (parts_of e.table.now.nodes) b) → Room e (branches_at e place at) → InTwo e (branches_at e place at) (λ x. branches_at x place a) (λ x. branches_at x Later b)
    branches_in_two tree r =
        in_two (λ x. branches_at x place a) (λ x. branches_at x Later b) (steady_branches Later b)
        (ap (branch_words (circuit e.rung.now) place) tree ∙ branch_parallel (circuit e.rung.now) place _ _) r

    pub group_in_brackets : tree_at (parts_of e.table.now.nodes) at ≡ parallel (tree_at (parts_of e.table.now.nodes) a) (tree_at (parts_of e.table.now.nodes) b) → Room e (series_at e place at) → InBrackets e (series_at e place at) (bracketed place AndOpen) (λ x. branches_at x First a) (λ x. branches_at x Later b) (bracketed place Close)
    group_in_brackets tree r =
        in_brackets (bracketed place AndOpen) (λ x. branches_at x First a) (λ x. branches_at x Later b) (bracketed place Close) (steady_branches First a) (steady_branches Later b)
        (ap (series_words (circuit e.rung.now) place) tree ∙ series_parallel (circuit e.rung.now) place _ _) r

    pub series_in_brackets : tree_at (parts_of e.table.now.nodes) at ≡ series (tree_at (parts_of e.table.now.nodes) a) (tree_at (parts_of e.table.now.nodes) b) → Room e (branches_at e place at) → InBrackets e (branches_at e place at) (bracketed place OrOpen) (λ x. series_at x First a) (λ x. series_at x Later b) (bracketed place Close)
    series_in_brackets tree r =
        in_brackets (bracketed place OrOpen) (λ x. series_at x First a) (λ x. series_at x Later b) (bracketed place Close) (steady_series First a) (steady_series Later b)
        (ap (branch_words (circuit e.rung.now) place) tree ∙ branch_series (circuit e.rung.now) place _ _) r

-- the text of a rung's wiring, and then its coils
pub rung_in_two : (e : Emitter) (root : ℕ) → e.draft.items ≡ [] → length (rung_words (circuit e.rung.now) (tree_at (parts_of e.table.now.nodes) root)) ≤ 200 → InTwo e (rung_words (circuit e.rung.now) (tree_at (parts_of e.table.now.nodes) root)) (λ x. series_at x First root) coils_at
rung_in_two e root n h = let k = ap length n in in_two (λ x. series_at x First root) coils_at steady_coils refl (record { fits = omega arith })

-- a draft has room for every rung
pub room_for : (c : Circuit) (w : Wiring ℕ) → length (leaves w) ≡ length c.links → length c.links ≤ 64 → length c.coils ≤ 8 → length (rung_words c w) ≤ 200
room_for c w n l k =
    let s = (text_short w).first in
    let a = length-append (spell c (text link_text w).first) (coil_words c.coils) in
    let b = length-map (text link_text w).first (λ x. word_of (spelled c x)) in
    let d = length-map c.coils (λ x. word_of (coiling x)) in
    omega arith
