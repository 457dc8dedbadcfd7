use Rattle.std.proofs.Common.{rules, [], sym, ap, ◌∙◌, arith}
use Rattle.flow_word_shared.specs.Tokens.{post_of_reads, post_of}
use Rattle.flow_word_shared.specs.View.{reading_at}
use Rattle.flow_word_shared.proofs.ReadSteps.{looking}
use Rattle.flow_word_shared.proofs.token.WordFlow.look.Goals as goal

pub load-requires : goal.load-requires
load-requires g c = let r = c.requires.reading in
    (search rules, search rules, looking _ _ _ _ _ _ _ (reading_at (post_of c.args.seat.now) c.args.number c.args.position []) (ap (λ m. m.0) r.0.0) r.1 r.2)

pub returns-clause-few : goal.returns-clause-few
returns-clause-few g c = λ _.
    let less = (c.load.ensures.2 (reading_at (post_of c.args.seat.now) c.args.number c.args.position []) c.requires.reading.1).6 in
    let same = ap (λ z. z.start.config.limit) c.requires.flow ∙ ap (λ z. z.table_id.start.config.limit) (sym c.self.view_is) in let limit = c.self.invariant.1.limit in omega (arith, less, same, limit)

pub returns-clause-post : goal.returns-clause-post
returns-clause-post g c = ap post_of_reads (c.load.ensures.2 (reading_at (post_of c.args.seat.now) c.args.number c.args.position []) c.requires.reading.1).3
