use mathlib.Core.Bool.{true≢false}
use Rattle.std.proofs.Common.{sym, ◌∙◌}
use Rattle.sc_text.proofs.Cutting.{word_piece, digits_piece, blank_piece, comment_piece, pair_piece, one_piece, no_piece}
use Rattle.sc_text.proofs.piece.longest_piece.Goals as goal

pub returns-then-is_letter_byte : goal.returns-then-is_letter_byte
returns-then-is_letter_byte c = word_piece _ _ c.requires (sym c.if-is_letter_byte.ensures) c.length.ensures

pub returns-then-is_digit_byte : goal.returns-then-is_digit_byte
returns-then-is_digit_byte c = digits_piece _ _ c.requires (sym c.if-is_digit_byte.ensures) c.length-then-is_digit_byte.ensures

pub returns-then-is_blank_byte : goal.returns-then-is_blank_byte
returns-then-is_blank_byte c = blank_piece _ c.requires (sym c.if-is_blank_byte.ensures)

pub returns-then-starts_comment : goal.returns-then-starts_comment
returns-then-starts_comment c = comment_piece _ _ (c.starts_comment.ensures.0 c.if-starts_comment.true) c.length-then-starts_comment.ensures

pub returns-in-Some : goal.returns-in-Some
returns-in-Some c = pair_piece _ _ c.in-Some.ensures

pub returns-in-Some-front_sign : goal.returns-in-Some-front_sign
returns-in-Some-front_sign c =
    one_piece _ _ (λ h. let t = c.starts_comment.ensures.1 h in let f = c.if-starts_comment.false in true≢false (sym t ∙ f)) c.in_default.ensures
    c.in-Some-front_sign.ensures

pub returns-in-None : goal.returns-in-None
returns-in-None c =
    no_piece _ (sym c.if-is_letter_byte.ensures) (sym c.if-is_digit_byte.ensures) (sym c.if-is_blank_byte.ensures)
    (λ h. let t = c.starts_comment.ensures.1 h in let f = c.if-starts_comment.false in true≢false (sym t ∙ f)) c.in_default.ensures c.in-None.ensures
