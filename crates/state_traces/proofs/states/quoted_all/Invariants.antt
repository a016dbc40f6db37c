use Rattle.std.proofs.Common.{◌≡◌, ◌++◌, drop, map, string_bytes}
use Rattle.json.specs.Print.{quoted}
use Rattle.state_traces.proofs.states.quoted_all.Given as goal

-- what is left shows what is missing
abbrev pub invariant-loop-text : goal.invariant-loop-text
invariant-loop-text l = map string_bytes l.shown.items ++ map quoted (map string_bytes (drop l.text-index l.texts)) ≡ map quoted (map string_bytes l.texts)
