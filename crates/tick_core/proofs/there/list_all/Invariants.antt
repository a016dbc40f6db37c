use Rattle.std.proofs.Common.{◌≡◌, ◌-◌, ◌≤◌, length, vec_capacity}
use Rattle.tick_core.specs.Space.There.{ListedBelow, CountedBelow}
use Rattle.tick_core.proofs.there.list_all.Given as goal

abbrev pub invariant-loop-at : goal.invariant-loop-at
invariant-loop-at l = record {
  within : length l.listed.items ≤ l.room;
  kept : vec_capacity l.listed ≡ vec_capacity l.initial.listed;
  places : length l.living.items ≡ length l.initial.living.items;
  below : ListedBelow l.program l.control l.at l.listed.items;
  counted : CountedBelow l.program l.control l.at l.listed.items l.living.items;
  passed : l.at ≤ length l.listed.items;
}

abbrev pub decreases-loop-at : goal.decreases-loop-at
decreases-loop-at l = l.room - l.at
