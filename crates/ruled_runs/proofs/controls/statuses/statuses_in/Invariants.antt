use Rattle.std.proofs.Common.{◌≡◌, ◌++◌, drop, option_map}
use Rattle.serde_json.specs.View.{items_view}
use Rattle.ruled_runs.specs.Texts.{all_in, status_in}
use Rattle.ruled_runs.proofs.controls.statuses.statuses_in.Given as goal

-- what is left gives what is missing
abbrev pub invariant-loop-json : goal.invariant-loop-json
invariant-loop-json l =
    option_map (λ rest. l.statuses ++ rest) (all_in status_in (items_view (drop l.json-index l.list))) ≡ all_in status_in (items_view l.list)
