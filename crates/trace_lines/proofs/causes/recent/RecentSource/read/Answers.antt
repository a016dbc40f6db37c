use Rattle.std.proofs.Common.{◌≡◌, ◌<◌, take, length, rules}
use Rattle.trace_lines.specs.Inside.Causes.{LeadsOn}
use Rattle.trace_lines.proofs.Behind.{has_ended, read_on}
use Rattle.trace_lines.proofs.causes.recent.RecentSource.read.Goals as goal

pub invariant_of-self-in-Some : goal.invariant_of-self-in-Some
invariant_of-self-in-Some g c =
    let start = g.N.OfInput.start in
    let old = c.args.self.now in
    let to_come = g.S.Source.to_come old.source.now in
    let left = g.S.Source.to_come c.read.new.self in
    let more = take c.in-Ok.count c.read.new.buf in
    let on : LeadsOn old.kept.items more old.before c.in-Some.kept.items c.in-Some.before = rw c.deref.ensures.value at c.in-Some.ensures in
    record {
      of_input = old.of_input;
      behind = λ _. on start left (read_on start to_come left old.kept.items more old.before c.in-Ok.ensures.bytes.0 (old.behind c.if-was_lost.false));
      ended = λ said.
          let end = c.says_end-is_ended.ensures said in
          let room : 0 < length c.read.new.buf = search rules in
          has_ended left (c.in-Ok.ensures.bytes.1 end.0 room);
    }
