use Rattle.std.proofs.Common.{rules, ◌≡◌, true}
use Rattle.grammar.specs.Read.{starts}
use Rattle.sc_text.specs.Expression.{text_tokens}
use Rattle.sc_text.proofs.Outcomes.{either_way}
use Rattle.extended_reader.specs.Phrases.{argument_classes}
use Rattle.extended_reader.proofs.UseParts.{arguments_there, arguments_stop, arguments_missing}
use Rattle.extended_reader.proofs.modules.phrases.arguments.Goals as goal

pub returns : goal.returns
returns c =
    let on = c.if-not-argument_follows.false in
    let more : starts text_tokens argument_classes c.args.ahead.now.tokens.now ≡ true = search (rules, on, c.argument_follows.ensures) in
    either_way _ c.some_arguments.ensures (λ x. arguments_there _ _ _ more) (λ f. arguments_stop _ _ f more)

pub returns-then-not-argument_follows : goal.returns-then-not-argument_follows
returns-then-not-argument_follows c = search (rules, arguments_missing)
