use Rattle.std.proofs.Common.{◌≡◌, ◌++◌, List, false}
use Rattle.sc_values.specs.declared.value.Value.{Value}
use Rattle.serde_json.specs.Written.{members_text}
use Rattle.trace_lines.specs.Inside.Rows.{placed, rows_text, has_rows}
use Rattle.trace_lines.proofs.outputs.shown_rows.Given as goal

-- what is left shows what is missing
abbrev pub invariant-loop-name : goal.invariant-loop-name
invariant-loop-name l =
    (values : List Value) → rows_text l.rows.items values ++ members_text (has_rows l.rows.items) (placed l.name-iterator values)
    ≡ members_text false (placed l.places.entries values)
