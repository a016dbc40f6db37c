use Rattle.tick_core.proofs.Counting.{Counted}
use Rattle.tick_core.proofs.buckets.making.rooms_of.Given as goal

abbrev pub invariant-loop-place : goal.invariant-loop-place
invariant-loop-place l = Counted l.rooms.items l.places l.place-index l.classes
