use Rattle.sc_text.proofs.Outcomes.{either_way}
use Rattle.scl_reader.proofs.Programs.{body_reads, close_stops}
use Rattle.scl_reader.proofs.text_drafts.program.body.Goals as goal

pub returns : goal.returns
returns c =
    either_way _ c.past_sign-2.ensures
    (λ x. body_reads c.args.tokens.now c.in_ok-inside.inside.now c.in_ok-inside.ensures c.args.variables.now c.declarations.new.declarations
    c.in_ok-start.start.now c.in_ok-start.ensures c.args.into.now c.statements.new.into c.in_ok-rest.rest.now c.in_ok-rest.ensures x.now)
    (λ f. close_stops c.args.tokens.now c.in_ok-inside.inside.now c.in_ok-inside.ensures c.args.variables.now c.declarations.new.declarations
    c.in_ok-start.start.now c.in_ok-start.ensures c.args.into.now c.statements.new.into c.in_ok-rest.rest.now c.in_ok-rest.ensures c.args.end f)
