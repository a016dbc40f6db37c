-- What stands for the nodes that use a variable, over the lists of these.
use Rattle.std.proofs.Common.{ℕ, ◌≡◌, ◌<◌, List, [], length, get_or, sym, subst}
use Rattle.sc_graph.specs.declared.tables.Tables.{Tables}
use Rattle.sc_graph.specs.Program.{Program}
use Rattle.program_edges.specs.declared.extremes.Extreme.TheVariants as extreme
use Rattle.program_edges.specs.declared.users.Users.{Users}
use Rattle.program_edges.specs.Extremes.{StandFor}
use Rattle.verifier.specs.declared.extremes.Extremes.{Extremes}
use Rattle.verifier.specs.Inside.Chosen.{ExtremesOf, StandOver}

pub stand_over : (p : Program) (q : Tables) (u : Users) (e : Extremes) (x : ℕ) (inits updates reads : List ℕ) → ExtremesOf p q u e
    → x < length p.variables → inits ≡ get_or u.inits x [] → updates ≡ get_or u.updates x [] → reads ≡ get_or u.reads x []
    → StandOver p q e x inits updates reads
stand_over p q u e x inits updates reads of lt i v r = record {
  least_inits = subst (λ (l : List ℕ). StandFor p q.priorities extreme.Least l (get_or e.least_inits x [])) (sym i) (of.least_inits.each x lt);
  least_updates = subst (λ (l : List ℕ). StandFor p q.priorities extreme.Least l (get_or e.least_updates x [])) (sym v) (of.least_updates.each x lt);
  greatest_updates = subst (λ (l : List ℕ). StandFor p q.priorities extreme.Greatest l (get_or e.greatest_updates x [])) (sym v)
      (of.greatest_updates.each x lt);
  greatest_reads = subst (λ (l : List ℕ). StandFor p q.priorities extreme.Greatest l (get_or e.greatest_reads x [])) (sym r) (of.greatest_reads.each x lt);
}
