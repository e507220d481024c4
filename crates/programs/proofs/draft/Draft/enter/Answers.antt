use Rattle.std.proofs.Common.{ap, ◌∙◌, sym}
use Rattle.instructions.specs.Stores.{stored}
use Rattle.programs.specs.Places.{place_of}
use Rattle.programs.specs.Rules.{lead_to}
use Rattle.programs.specs.Counts.{starts_of}
use Rattle.programs.proofs.Drafts.{leads_more, room_more, kept_one, starts_more, count_more}
use Rattle.programs.proofs.draft.Draft.enter.Goals as goal

pub invariant_of-self : goal.invariant_of-self
invariant_of-self c =
    let d = c.args.self.now in
    let p = place_of d.checker in
    let q = place_of c.args.checker in
    let ws = stored d.words in
    let word = c.args.word in
    let k = kept_one d.words word c.append.result c.append.new.self (room_more ws p q word d.leads c.requires) c.append.ensures in
    record {
      leads = ap (λ l. lead_to l q) k ∙ leads_more ws p q word d.leads c.requires;
      started = c.note.ensures.value ∙ starts_more _ ws p q word d.leads d.started c.requires ∙ ap starts_of (sym k);
      counted = c.note.ensures.len ∙ count_more p q word d.starts.len c.requires d.counted;
    }

pub returns-clause-words : goal.returns-clause-words
returns-clause-words c =
    let d = c.args.self.now in
    let word = c.args.word in
    kept_one d.words word c.append.result c.append.new.self (room_more (stored d.words) (place_of d.checker) (place_of c.args.checker) word d.leads c.requires) c.append.ensures
