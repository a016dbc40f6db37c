use Rattle.std.proofs.Common.{◌≡◌, ◌∙◌, true, ap, sym, if◌then◌else◌, string_bytes, rules}
use Rattle.serde_json.specs.Data.{put}
use Rattle.trace_lines.specs.Output.{is_output}
use Rattle.trace_lines.specs.Inside.Rows.{data_at, placed}
use Rattle.trace_lines.proofs.Placing.{placed-insert_entry}
use Rattle.trace_lines.proofs.outputs.add.Goals as goal

pub returns-in_ok-insert : goal.returns-in_ok-insert
returns-in_ok-insert c = λ values.
    let old = c.args.places.now.entries in
    let place = c.args.place in
    let a = c.args.variable.now in
    let name = c.in_ok-name.name in
    let named : string_bytes name ≡ a.name = search rules in
    let output : is_output a.role ≡ true = search rules in
    ap (λ es. placed es values) c.in_ok-insert.ensures.entries
    ∙ placed-insert_entry old name place values
    ∙ ap (λ k. put k (data_at values place) (placed old values)) named
    ∙ sym (ap (λ b. if b then put a.name (data_at values place) (placed old values) else placed old values) output)
