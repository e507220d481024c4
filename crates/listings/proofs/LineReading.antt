-- Lines and the instructions that they say.
use Rattle.std.proofs.Common.{◌≡◌, ℕ, ◌+◌, ◌<◌, Bool, true, false, cond, ltb, List, [], ◌∷◌, ◌++◌, length, take, drop, Some, None, codes, Option, sym, refl, ap, ◌∙◌, subst, arith}
use Rattle.std.proofs.lemmas.List.{length-append, take_at, drop_at, append-nil, append_assoc}
use Rattle.std.proofs.lemmas.Slice.Eq.{bytes_eq-Decides}
use Rattle.std.proofs.lemmas.Bool.Decides.{nat_tests}
use Rattle.std.specs.Str.{bytes_eq}
use Rattle.instructions.specs.declared.instruction.Operand.{Operand}
use Rattle.instructions.specs.declared.instruction.Operand.TheVariants.{True}
use Rattle.instructions.specs.declared.instruction.Instruction.{Instruction}
use Rattle.instructions.specs.declared.instruction.Instruction.TheVariants.{Load, LoadNot, And, AndNot, Or, OrNot, AndOpen, OrOpen, Close, Store, StoreNot, Set, Reset}
use Rattle.instructions.specs.Words.{operand}
use Rattle.instructions.specs.Lines.{mnemonic, shown, operand_text, operand_part}
use Rattle.instructions.specs.WordLaws.{Numbered}
use Rattle.listings.specs.Operands.{operand_read}
use Rattle.listings.specs.LineReading.{byte_in, either, named, bare, alone, joined_by, spaced, line_read}
use Rattle.listings.proofs.Bytes.{byte_splits}
use Rattle.listings.proofs.Operands.{operand-there, operand-back}

-- a line with a space
pub line_spaced : (bs : List ℕ) (n : ℕ) → n ≡ byte_in 32 bs → n < length bs → line_read bs ≡ spaced (take n bs) (operand_read (drop (n + 1) bs))
line_spaced bs n e h =
    let t : ltb (byte_in 32 bs) (length bs) ≡ true = grind (arith, nat_tests) in
    rw t (ap (λ k. spaced (take k bs) (operand_read (drop (k + 1) bs))) (sym e))

-- the text of a line, without its end
abbrev pub line_text : Instruction → List ℕ
line_text i = mnemonic i ++ operand_part (shown i)

spaced-there : (name text : List ℕ) → length name ≡ byte_in 32 (name ++ 32 ∷ text) → line_read (name ++ 32 ∷ text) ≡ spaced name (operand_read text)
spaced-there name text e =
    let l = length-append name (32 ∷ text) in
    let d : drop (length name + 1) (name ++ 32 ∷ text) ≡ text = ap (drop (length name + 1)) (sym (append_assoc name (32 ∷ []) text)) ∙ drop_at (name ++ 32 ∷ []) text (length name + 1) (length-append name (32 ∷ [])) in
    line_spaced (name ++ 32 ∷ text) (length name) e (omega arith)
    ∙ (λ j. spaced (take_at name (32 ∷ text) (length name) refl j) (operand_read (d j)))

onto : (name : List ℕ) (x : Operand) (i : Instruction) → length name ≡ byte_in 32 (name ++ 32 ∷ operand_text x) → joined_by (named name x) ≡ Some i → Numbered x → line_read (name ++ 32 ∷ operand_text x) ≡ Some i
onto name x i e f h = spaced-there name (operand_text x) e ∙ ap (spaced name) (operand-there x h) ∙ f

-- the line of an instruction says it
pub line_there : (i : Instruction) → Numbered (operand i) → line_read (line_text i) ≡ Some i
line_there (Load x) h = onto (codes "LD") x (Load x) refl refl h
line_there (LoadNot x) h = onto (codes "LDN") x (LoadNot x) refl refl h
line_there (And x) h = onto (codes "AND") x (And x) refl refl h
line_there (AndNot x) h = onto (codes "ANDN") x (AndNot x) refl refl h
line_there (Or x) h = onto (codes "OR") x (Or x) refl refl h
line_there (OrNot x) h = onto (codes "ORN") x (OrNot x) refl refl h
line_there AndOpen h = refl
line_there OrOpen h = refl
line_there Close h = refl
line_there (Store x) h = onto (codes "ST") x (Store x) refl refl h
line_there (StoreNot x) h = onto (codes "STN") x (StoreNot x) refl refl h
line_there (Set x) h = onto (codes "S") x (Set x) refl refl h
line_there (Reset x) h = onto (codes "R") x (Reset x) refl refl h

-- a name is the mnemonic of an instruction, which shows the operand unless it is a bracket
abbrev Says : List ℕ → Operand → Instruction → Type 0
Says name x i = (name ≡ mnemonic i) × (shown i ≡ cond (bare i) None (Some x))

-- one choice of a row of names
chosen : (bs : List ℕ) (x : Operand) (j : Instruction) (rest : Option Instruction) (i : Instruction) → shown j ≡ cond (bare j) None (Some x) → (rest ≡ Some i → Says bs x i) → either bs (mnemonic j) j rest ≡ Some i → Says bs x i
chosen bs x j rest i s f e = by (bytes_eq bs (mnemonic j)) (bytes_eq-Decides bs (mnemonic j)).0 e
  where
    by : (b : Bool) → (b ≡ true → bs ≡ mnemonic j) → cond b (Some j) rest ≡ Some i → Says bs x i
    by true g e = let q : j ≡ i = cc in subst (Says bs x) q (g refl, s)
    by false g e = f e

named_back : (bs : List ℕ) (x : Operand) (i : Instruction) → named bs x ≡ Some i → Says bs x i
named_back bs x i =
    chosen bs x (Load x) _ i refl
    (chosen bs x (LoadNot x) _ i refl
    (chosen bs x (And x) _ i refl
    (chosen bs x (AndNot x) _ i refl
    (chosen bs x (Or x) _ i refl
    (chosen bs x (OrNot x) _ i refl
    (chosen bs x AndOpen _ i refl
    (chosen bs x OrOpen _ i refl
    (chosen bs x Close _ i refl
    (chosen bs x (Store x) _ i refl
    (chosen bs x (StoreNot x) _ i refl
    (chosen bs x (Set x) _ i refl
    (chosen bs x (Reset x) _ i refl
    (λ e. let z : ◌≡◌ {A = ℕ} 0 1 = cc in absurd (omega arith))))))))))))))

joined_back : (o : Option Instruction) (i : Instruction) → joined_by o ≡ Some i → (o ≡ Some i) × (bare i ≡ false)
joined_back None i e = let z : ◌≡◌ {A = ℕ} 0 1 = cc in absurd (omega arith)
joined_back (Some j) i e = by (bare j) refl e
  where
    by : (b : Bool) → bare j ≡ b → cond b None (Some j) ≡ Some i → (Some j ≡ Some i) × (bare i ≡ false)
    by true f e = let z : ◌≡◌ {A = ℕ} 0 1 = cc in absurd (omega arith)
    by false f e = let q : j ≡ i = cc in (e, ap bare (sym q) ∙ f)

alone-back : (o : Option Instruction) (i : Instruction) → alone o ≡ Some i → (o ≡ Some i) × (bare i ≡ true)
alone-back None i e = let z : ◌≡◌ {A = ℕ} 0 1 = cc in absurd (omega arith)
alone-back (Some j) i e = by (bare j) refl e
  where
    by : (b : Bool) → bare j ≡ b → cond b (Some j) None ≡ Some i → (Some j ≡ Some i) × (bare i ≡ true)
    by true f e = let q : j ≡ i = cc in (e, ap bare (sym q) ∙ f)
    by false f e = let z : ◌≡◌ {A = ℕ} 0 1 = cc in absurd (omega arith)

-- the operand that a line shows is the instruction's; what shows none has none
same_numbered : (y x : Operand) → Some y ≡ Some x → Numbered x → Numbered y
same_numbered y x e = let q : x ≡ y = cc in subst Numbered q

shown_numbered : (i : Instruction) (x : Operand) → shown i ≡ Some x → Numbered x → Numbered (operand i)
shown_numbered (Load y) x e h = same_numbered y x e h
shown_numbered (LoadNot y) x e h = same_numbered y x e h
shown_numbered (And y) x e h = same_numbered y x e h
shown_numbered (AndNot y) x e h = same_numbered y x e h
shown_numbered (Or y) x e h = same_numbered y x e h
shown_numbered (OrNot y) x e h = same_numbered y x e h
shown_numbered AndOpen x e h = tt
shown_numbered OrOpen x e h = tt
shown_numbered Close x e h = tt
shown_numbered (Store y) x e h = same_numbered y x e h
shown_numbered (StoreNot y) x e h = same_numbered y x e h
shown_numbered (Set y) x e h = same_numbered y x e h
shown_numbered (Reset y) x e h = same_numbered y x e h

bare_numbered : (i : Instruction) → bare i ≡ true → Numbered (operand i)
bare_numbered (Load x) e = let z : ◌≡◌ {A = ℕ} 0 1 = cc in absurd (omega arith)
bare_numbered (LoadNot x) e = let z : ◌≡◌ {A = ℕ} 0 1 = cc in absurd (omega arith)
bare_numbered (And x) e = let z : ◌≡◌ {A = ℕ} 0 1 = cc in absurd (omega arith)
bare_numbered (AndNot x) e = let z : ◌≡◌ {A = ℕ} 0 1 = cc in absurd (omega arith)
bare_numbered (Or x) e = let z : ◌≡◌ {A = ℕ} 0 1 = cc in absurd (omega arith)
bare_numbered (OrNot x) e = let z : ◌≡◌ {A = ℕ} 0 1 = cc in absurd (omega arith)
bare_numbered AndOpen e = tt
bare_numbered OrOpen e = tt
bare_numbered Close e = tt
bare_numbered (Store x) e = let z : ◌≡◌ {A = ℕ} 0 1 = cc in absurd (omega arith)
bare_numbered (StoreNot x) e = let z : ◌≡◌ {A = ℕ} 0 1 = cc in absurd (omega arith)
bare_numbered (Set x) e = let z : ◌≡◌ {A = ℕ} 0 1 = cc in absurd (omega arith)
bare_numbered (Reset x) e = let z : ◌≡◌ {A = ℕ} 0 1 = cc in absurd (omega arith)

-- a line that says an instruction is its line
pub line_back : (bs : List ℕ) (i : Instruction) → line_read bs ≡ Some i → (bs ≡ line_text i) × Numbered (operand i)
line_back bs i e = by (ltb (byte_in 32 bs) (length bs)) (below (byte_in 32 bs) (length bs)) e
  where
    below : (m n : ℕ) → ltb m n ≡ true → m < n
    below m n e = grind (arith, nat_tests)

    parted : (name rest : List ℕ) (o : Option Operand) → operand_read rest ≡ o → bs ≡ name ++ 32 ∷ rest → spaced name o ≡ Some i → (bs ≡ line_text i) × Numbered (operand i)
    parted name rest None f p e = let z : ◌≡◌ {A = ℕ} 0 1 = cc in absurd (omega arith)
    parted name rest (Some x) f p e =
        let j = joined_back (named name x) i e in
        let s = named_back name x i j.0 in
        let o = operand-back rest x f in
        let sh : shown i ≡ Some x = s.1 ∙ ap (λ b. cond b None (Some x)) j.1 in
        (p ∙ (λ k. s.0 k ++ 32 ∷ o.0 k) ∙ ap (λ y. mnemonic i ++ operand_part y) (sym sh), shown_numbered i x sh o.1)

    whole : alone (named bs True) ≡ Some i → (bs ≡ line_text i) × Numbered (operand i)
    whole e =
        let j = alone-back (named bs True) i e in
        let s = named_back bs True i j.0 in
        let sh : shown i ≡ None = s.1 ∙ ap (λ b. cond b None (Some True)) j.1 in
        (s.0 ∙ sym (append-nil (mnemonic i)) ∙ ap (λ y. mnemonic i ++ operand_part y) (sym sh), bare_numbered i j.1)

    by : (b : Bool) → (b ≡ true → byte_in 32 bs < length bs) → cond b (spaced (take (byte_in 32 bs) bs) (operand_read (drop (byte_in 32 bs + 1) bs))) (alone (named bs True)) ≡ Some i → (bs ≡ line_text i) × Numbered (operand i)
    by true f e = parted (take (byte_in 32 bs) bs) (drop (byte_in 32 bs + 1) bs) (operand_read (drop (byte_in 32 bs + 1) bs)) refl (byte_splits 32 bs (f refl)) e
    by false f e = whole e
