use Rattle.std.proofs.Common.{◌≡◌, ◌+◌, ◌≤◌, ℕ, true, false, length, refl, sym, subst, ◌∙◌}
use Rattle.node_sources.specs.LinesColumns.{begins_character}
use Rattle.node_sources.proofs.LineColumns.{more_line, more_column, same_line_column, is_feed, is_no_feed, line_fits, column_fits, one_more}
use Rattle.node_sources.proofs.line_columns.LineColumn.behind.Goals as goal

pub returns-then-byte-eq10 : goal.returns-then-byte-eq10
returns-then-byte-eq10 c = λ text i within short is_byte is.
    let fits : c.args.self.line ≤ 1 + length text = subst (λ (n : ℕ). n ≤ 1 + length text) (sym is.line) (line_fits text i) in
    more_line text i 0 c.args.self (record { line = c.saturating_add-line.result; column = 1 }) within is (is_feed _ (sym is_byte ∙ c.if-byte-eq10.true))
    (one_more _ _ _ c.saturating_add-line.ensures fits short) refl

pub returns-then-begins_character : goal.returns-then-begins_character
returns-then-begins_character c = λ text i within short is_byte is.
    let fits : c.args.self.column ≤ 1 + length text = subst (λ (n : ℕ). n ≤ 1 + length text) (sym is.column) (column_fits text i) in
    more_column text i 0 c.args.self (record { line = c.args.self.line; column = c.saturating_add-column.result }) within is
    (is_no_feed _ (λ e. c.if-byte-eq10.false (is_byte ∙ e)))
    (subst (λ (b : ℕ). begins_character b ≡ true) is_byte (sym c.begins_character.ensures ∙ c.if-begins_character.true)) refl
    (one_more _ _ _ c.saturating_add-column.ensures fits short)

pub returns : goal.returns
returns c = λ text i within short is_byte is.
    same_line_column text i 0 c.args.self c.args.self within is (is_no_feed _ (λ e. c.if-byte-eq10.false (is_byte ∙ e)))
    (subst (λ (b : ℕ). begins_character b ≡ false) is_byte (sym c.begins_character.ensures ∙ c.if-begins_character.false)) refl
