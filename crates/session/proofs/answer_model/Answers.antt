-- `session::answer_model`: the graph, or the refusal.
use mathlib.Core.Path.{refl}
use Rattle.session.proofs.Models.{whole_rows, model_few, model_on, model_refused}
use Rattle.session.proofs.answer_model.Goals as goal

pub words_of-words-requires : goal.words_of-words-requires
words_of-words-requires c =
    let t = c.args.read.now in
    let read = whole_rows c.args.n c.args.state t.probability_bits.now t.counts.now t.entries.now t.shot.now _ _ _ c.requires.1 c.model_graph-compiled.ensures.graph in
    model_few c.args.n c.args.state _ _ _ _ read c.requires.1 _ c.in-Ok.is c.model_graph-compiled.ensures.same.edge_u_long

pub returns-in-Err-clause-answers : goal.returns-in-Err-clause-answers
returns-in-Err-clause-answers c =
    let t = c.args.read.now in
    let read = whole_rows c.args.n c.args.state t.probability_bits.now t.counts.now t.entries.now t.shot.now _ _ _ c.requires.1 c.model_graph-compiled.ensures.graph in
    model_refused c.args.n c.args.state _ _ _ _ read _ c.args.out.now _ _ refl c.in-Err.is c.refuse.ensures

pub returns-in-Ok-clause-answers : goal.returns-in-Ok-clause-answers
returns-in-Ok-clause-answers c =
    let t = c.args.read.now in
    let read = whole_rows c.args.n c.args.state t.probability_bits.now t.counts.now t.entries.now t.shot.now _ _ _ c.requires.1 c.model_graph-compiled.ensures.graph in
    model_on c.args.n c.args.state _ _ _ _ read _ _ c.args.out.now refl c.in-Ok.is c.model_graph-compiled.ensures.same.edge_u_long c.words_of-words.ensures
