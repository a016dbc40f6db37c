use Rattle.std.proofs.Common.{◌≡◌, ◌≤◌, Some, take}
use Rattle.serde_json.specs.Data.{items_depth}
use Rattle.serde_json.specs.View.{items_view}
use Rattle.ruled_runs.specs.Texts.{all_in, status_in}
use Rattle.ruled_runs.proofs.controls.statuses.statuses_json.Given as goal

abbrev pub invariant-loop-status : goal.invariant-loop-status
invariant-loop-status l = record {
  given : all_in status_in (items_view l.list.items) ≡ Some (take l.status-index l.statuses);
  depth : items_depth (items_view l.list.items) ≤ 1;
}
