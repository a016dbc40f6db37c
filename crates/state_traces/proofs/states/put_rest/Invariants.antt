use Rattle.std.proofs.Common.{◌≡◌, ◌++◌, true, drop, map, string_bytes}
use Rattle.state_traces.specs.Listed.{list_text}
use Rattle.state_traces.proofs.states.put_rest.Given as goal

-- what is left shows what is missing
abbrev pub invariant-loop-place : goal.invariant-loop-place
invariant-loop-place l =
    l.line.items ++ list_text true (map string_bytes l.shown) (drop l.place-index l.places)
    ≡ l.fn.line.items ++ list_text true (map string_bytes l.shown) l.places
