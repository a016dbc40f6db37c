use Rattle.std.proofs.Common.{rules, ◌≡◌, true}
use Rattle.grammar.specs.Read.{starts}
use Rattle.sc_text.specs.Expression.{text_tokens}
use Rattle.sc_text.proofs.Outcomes.{either_way}
use Rattle.extended_reader.specs.Phrases.{parameter_first}
use Rattle.extended_reader.proofs.HeadParts.{parameters_there, parameters_stop, parameters_missing}
use Rattle.extended_reader.proofs.modules.heads.parameters.Goals as goal

pub returns : goal.returns
returns c =
    let on = c.if-not-parameter_follows.false in
    let more : starts text_tokens parameter_first c.args.ahead.now.tokens.now ≡ true = search (rules, on, c.parameter_follows.ensures) in
    either_way _ c.some_parameters.ensures (λ x. parameters_there _ _ _ more) (λ f. parameters_stop _ _ f more)

pub returns-then-not-parameter_follows : goal.returns-then-not-parameter_follows
returns-then-not-parameter_follows c = search (rules, parameters_missing)
