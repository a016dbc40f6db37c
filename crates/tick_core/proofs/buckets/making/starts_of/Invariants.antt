use Rattle.tick_core.proofs.Counting.{Begun}
use Rattle.tick_core.proofs.buckets.making.starts_of.Given as goal

abbrev pub invariant-loop-room : goal.invariant-loop-room
invariant-loop-room l = Begun l.starts.items l.rooms l.room-index l.next
