use Rattle.std.proofs.Common.{map, string_bytes}
use Rattle.state_traces.proofs.Listed.{ended}
use Rattle.state_traces.proofs.states.put_states.Goals as goal

pub returns : goal.returns
returns c =
    ended c.extend_from_slice-2.result c.args.line.now.items c.extend_from_slice.new.self.items c.put_all.new.line.items c.extend_from_slice-2.new.self.items
    (map string_bytes c.args.shown.now) c.args.active.now
    c.in_ok-extend_from_slice.ensures.items c.in_ok-put_all.ensures c.extend_from_slice-2.ensures.items
