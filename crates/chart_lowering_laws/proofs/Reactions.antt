-- Reactions to a list of inputs, tick for tick.
use Rattle.std.proofs.Common.{List, [], ◌∷◌}
use Rattle.sc_values.specs.Runs.{Machine, Ends}
use Rattle.sc_graph.specs.Tick.{Inputs}
use Rattle.chart_machine.specs.declared.table.Table.{Table}
use Rattle.chart_machine.specs.Machine as chart
use Rattle.scl.specs.Numbering.{Numbered}
use Rattle.scl.specs.Meaning as text
use Rattle.scl_graph_laws.specs.Alike.{EndsAlike}
use Rattle.chart_lowering_laws.specs.Layout.{Layout}
use Rattle.chart_lowering_laws.specs.Keeps.{AtRest, AtRestBack, KeepsTicks, Reaction, ReactsAlike, KeepsReactions}

-- where each end of a tick of the one is an end of the other, each reaction is
module _ (m n : Machine) (begin : Inputs → m.Configuration → m.Configuration) (begin_too : Inputs → n.Configuration → n.Configuration)
    (R : m.Configuration → n.Configuration → Type 0)
    (ends : (inputs : Inputs) (c : m.Configuration) (b : n.Configuration) (d : m.Configuration) → R c b → Ends m (begin inputs c) d →
    EndsAlike n m.Configuration R d (begin_too inputs b)) where
  reacts_alike : (inputs : List Inputs) (ds : List m.Configuration) (c : m.Configuration) (b : n.Configuration) → R c b → Reaction m begin c inputs ds →
      ReactsAlike n begin_too m.Configuration R b inputs ds
  reacts_alike [] [] c b rest h = record { ends = []; reacts = tt; alike = tt }
  reacts_alike (g ∷ inputs) (d ∷ ds) c b rest h =
      let first : EndsAlike n m.Configuration R d (begin_too g b) = ends g c b d rest h.0 in
      let more : ReactsAlike n begin_too m.Configuration R first.end inputs ds = reacts_alike inputs ds d first.end first.corresponds h.1 in
      record { ends = first.end ∷ more.ends; reacts = (first.is_end, more.reacts); alike = (first.corresponds, more.alike) }
  reacts_alike [] (d ∷ ds) c b rest h = absurd h
  reacts_alike (g ∷ inputs) [] c b rest h = absurd h

pub keeps_reactions : (k : Table) (p : Numbered) (l : Layout) → KeepsTicks k p l → KeepsReactions k p l
keeps_reactions k p l keeps = record {
  there = λ inputs ds h. reacts_alike (chart.machine k) (text.machine p) (chart.start k) (text.start p) (AtRest k p l) keeps.ends inputs ds (chart.initial k)
      (text.initial p) keeps.begins h;
  back = λ inputs es h. reacts_alike (text.machine p) (chart.machine k) (text.start p) (chart.start k) (AtRestBack k p l)
      (λ inputs s c e. keeps.ends_back inputs c s e) inputs es (text.initial p) (chart.initial k) keeps.begins h;
}
