use Rattle.std.proofs.Common.{◌≡◌, ◌∙◌, true, false, Some, ap, cond, is_some, bytes_eq, string_bytes, rules}
use Rattle.std.specs.BTreeMap.{get_by_text}
use Rattle.std.proofs.lemmas.Map.Text.{btree_map_updates_text}
use Rattle.trace_lines.specs.Line.{is_input}
use Rattle.trace_lines.proofs.AddedInputs.{adds_new, none_of}
use Rattle.trace_lines.proofs.inputs.add.Goals as goal

pub returns-in_ok-insert : goal.returns-in_ok-insert
returns-in_ok-insert c =
    let a = c.args.variable.now in
    let old = c.args.named.now in
    let new = c.insert.new.self in
    let key = string_bytes c.in_ok-from_str.field-0 in
    let named : key ≡ a.name = search rules in
    let input : is_input a.role ≡ true = search rules in
    let absent : is_some (get_by_text old a.name) ≡ false = search rules in
    adds_new a old new input (none_of (get_by_text old a.name) absent) (λ name.
    btree_map_updates_text key old new (Some a) c.in_ok-insert.ensures.updates name
    ∙ ap (λ k. cond (bytes_eq k name) (Some a) (get_by_text old name)) named)
