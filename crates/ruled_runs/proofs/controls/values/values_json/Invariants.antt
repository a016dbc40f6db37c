use Rattle.std.proofs.Common.{◌≡◌, ◌≤◌, Some, take}
use Rattle.serde_json.specs.Data.{items_depth}
use Rattle.serde_json.specs.View.{items_view}
use Rattle.ruled_runs.specs.Texts.{all_in, value_in}
use Rattle.ruled_runs.proofs.controls.values.values_json.Given as goal

abbrev pub invariant-loop-value : goal.invariant-loop-value
invariant-loop-value l = record {
  given : all_in value_in (items_view l.list.items) ≡ Some (take l.value-index l.values);
  depth : items_depth (items_view l.list.items) ≤ 1;
}
