use Rattle.std.proofs.Common.{◌≡◌, ◌++◌, drop, map, string_bytes}
use Rattle.image_listing.specs.Json.{further, quoted}
use Rattle.image_listing.proofs.as_json.image.further_paths.Given as goal

abbrev pub invariant-loop-path : goal.invariant-loop-path
invariant-loop-path l =
    string_bytes l.text ++ further (map quoted (map string_bytes (drop l.path-index l.paths))) ≡ further (map quoted (map string_bytes l.paths))
