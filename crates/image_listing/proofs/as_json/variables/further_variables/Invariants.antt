use Rattle.std.proofs.Common.{◌≡◌, ◌++◌, drop, map, string_bytes}
use Rattle.image_listing.specs.Json.{further, variable_json}
use Rattle.image_listing.proofs.as_json.variables.further_variables.Given as goal

abbrev pub invariant-loop-variable : goal.invariant-loop-variable
invariant-loop-variable l =
    string_bytes l.text ++ further (map variable_json (drop l.variable-index l.variables)) ≡ further (map variable_json l.variables)
