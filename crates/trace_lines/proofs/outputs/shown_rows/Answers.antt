use Rattle.std.proofs.Common.{◌≡◌, ◌∙◌, ◌++◌, ap, sym, length, vec_len, string_bytes, rules, refl}
use Rattle.serde_json.specs.Written.{members_text}
use Rattle.trace_lines.specs.Inside.Rows.{placed, rows_text, has_rows, key_text}
use Rattle.trace_lines.proofs.Shown.{one_row, has_rows-length}
use Rattle.trace_lines.proofs.outputs.shown_rows.Goals as goal

pub loop-name-preserved : goal.loop-name-preserved
loop-name-preserved c = λ values.
    let l = c.loop-name in
    let rows = l.rows.items in
    let name = c.in-Some.name.now in
    let row = c.push.new.value in
    let length_is : vec_len l.rows ≡ length rows = search rules in
    let later = has_rows-length rows (vec_len l.rows) length_is in
    let key : string_bytes c.in_ok-before.before ≡ key_text (has_rows rows) (string_bytes name) = search (rules, later) in
    one_row rows c.push.new.self.items _ (name, c.in-Some.place.now) c.next.new.self values c.in_ok-push.ensures.items key refl
    ∙ ap (λ left. rows_text rows values ++ members_text (has_rows rows) (placed left values)) (sym c.in-Some.ensures.steps)
    ∙ l.invariant values
