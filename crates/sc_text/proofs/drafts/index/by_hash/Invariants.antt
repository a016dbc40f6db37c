use Rattle.std.proofs.Common.{◌≡◌, ◌≤◌, ℕ, List, length}
use Rattle.std.specs.Prelude.{nat_eq}
use Rattle.std.specs.HashMap.{get}
use Rattle.std.specs.Cmp.Lexicographic.{pointwise}
use Rattle.sc_text.proofs.Indexed.{place_from}
use Rattle.sc_text.proofs.drafts.index.by_hash.Given as goal

abbrev pub invariant-loop-left : goal.invariant-loop-left
invariant-loop-left l = record {
  within : l.left ≤ length l.names;
  places : (q : List ℕ) → get (pointwise nat_eq) l.hashed q ≡ place_from l.left l.names q;
}

abbrev pub decreases-loop-left : goal.decreases-loop-left
decreases-loop-left l = l.left
