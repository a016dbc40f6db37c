use mathlib.Core.Bool.{true≢false}
use Rattle.std.proofs.Common.{sym, ◌∙◌}
use Rattle.sc_text.proofs.FirstToken.{blank_first, comment_first, neither}
use Rattle.sc_text.proofs.first_token.passed_length.Goals as goal

pub returns-then-is_blank : goal.returns-then-is_blank
returns-then-is_blank c = blank_first c.args.text.now c.requires (sym c.if-is_blank.ensures)

pub returns-then-starts_comment : goal.returns-then-starts_comment
returns-then-starts_comment c =
    comment_first c.args.text.now c.line_length.result (c.starts_comment.ensures.0 c.if-starts_comment.true) c.line_length.ensures

pub returns : goal.returns
returns c =
    neither c.args.text.now (sym c.if-is_blank.ensures)
    (λ h. let t = c.starts_comment.ensures.1 h in let f = c.if-starts_comment.false in true≢false (sym t ∙ f))
