use Rattle.std.proofs.Common.{ℕ, ◌≡◌, length}
use Rattle.sc_graph.specs.declared.links.Found.TheVariants.{Nobody}
use Rattle.sc_graph.specs.Links.{found_at}
use Rattle.sc_graph.proofs.links.nobody.Given as goal

abbrev pub invariant-loop : goal.invariant-loop
invariant-loop l = record { count : length l.slots ≡ l.counter; blank : (k : ℕ) → found_at l.slots k ≡ Nobody }
