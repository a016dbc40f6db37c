use Rattle.std.proofs.Common.{◌≡◌, IfOk, Some, string_bytes, rules}
use Rattle.serde_json.specs.Read.{read}
use Rattle.serde_json.specs.View.{view}
use Rattle.ruled_runs.proofs.Lists.{saved_text}
use Rattle.ruled_runs.proofs.controls.writing.control_text.Goals as goal

pub returns : goal.returns
returns c =
    let json = c.in_ok-control_json.field-0 in
    let reads : IfOk c.to_string.result (λ text. read (string_bytes text) ≡ Some (view json)) = search rules in
    saved_text c.to_string.result (view json) c.args.ticks c.args.control.now c.in_ok-control_json.ensures.holds reads
