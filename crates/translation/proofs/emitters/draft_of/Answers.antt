use Rattle.std.proofs.Common.{List, ◌++◌, ℕ, ap, ◌∙◌}
use Rattle.rows.specs.Rows.{parts_of}
use Rattle.elimination.specs.Trees.{tree_at}
use Rattle.wiring.specs.Circuit.{circuit}
use Rattle.translation.specs.declared.emitters.Emitter.{Emitter}
use Rattle.translation.specs.Spelling.{rung_words}
use Rattle.translation.proofs.Texts.{rung_in_two}
use Rattle.translation.proofs.emitters.draft_of.Goals as goal

pub series-requires : goal.series-requires
series-requires c =
    let e : Emitter = record { rung = c.args.rung; table = c.args.table; draft = c.new.result } in
    (rung_in_two e c.args.root c.new.ensures c.requires).first

pub coils-requires : goal.coils-requires
coils-requires c =
    let e : Emitter = record { rung = c.args.rung; table = c.args.table; draft = c.new.result } in
    (rung_in_two e c.args.root c.new.ensures c.requires).second c.series.ensures

pub returns : goal.returns
returns c =
    let e : Emitter = record { rung = c.args.rung; table = c.args.table; draft = c.new.result } in
    let w = rung_words (circuit c.args.rung.now) (tree_at (parts_of c.args.table.now.nodes) c.args.root) in
    ((rung_in_two e c.args.root c.new.ensures c.requires).whole c.series.ensures c.coils.ensures).is ∙ ap (λ (l : List ℕ). l ++ w) c.new.ensures
