-- Who waits at a join of the graph of a compiled chart stands in the superstate of that join.
use Rattle.std.proofs.Common.{◌≡◌, ℕ, zero, suc, ◌<◌, Option, Some, None, List, [], ◌∷◌, length, slice_get, unwrap_or}
use Rattle.std.proofs.Common.{refl, sym, ap, subst, ◌∙◌, arith}
use Rattle.std.proofs.lemmas.Option.{slice_get_within}
use Rattle.sc_graph.specs.declared.control.Control.{Control}
use Rattle.sc_graph.specs.declared.control.Status.TheVariants as status
use Rattle.sc_graph.specs.Program.{Program}
use Rattle.sc_graph.specs.Control.{status_of}
use Rattle.core_charts.specs.declared.region.Transition.{Transition}
use Rattle.core_charts.specs.Chart.{Chart}
use Rattle.chart_machine.specs.declared.standing.Standing.{Standing}
use Rattle.chart_machine.specs.declared.standing.Standing.TheVariants as stand
use Rattle.chart_machine.specs.declared.standing.Configuration.{Configuration}
use Rattle.chart_machine.specs.declared.table.StateRow.{StateRow}
use Rattle.chart_machine.specs.declared.table.Table.{Table}
use Rattle.chart_machine.specs.Table.{table, region_at}
use Rattle.chart_machine.specs.Turns.{standing_of}
use Rattle.scl.specs.declared.program.Scl.{Scl}
use Rattle.scl.specs.Block.{Block, End, Assign, Label, Goto, Pause, If, Fork}
use Rattle.scl.specs.Numbering.{Numbered, numbered}
use Rattle.scl.specs.Meaning.{Doing, Away, Todo, Forked, Resting, Resuming, Finished, doing}
use Rattle.scl_graph.specs.Graph.{program_of}
use Rattle.scl_graph_laws.specs.Standing.{standing}
use Rattle.node_states.specs.Nodes.{state_of_node}
use Rattle.chart_lowering_laws.specs.Layout.{Layout, IsRegionOf, Lowers}
use Rattle.chart_lowering_laws.specs.Corresponds.{Live, HeldBy, IsAtRoot, Giving, Nothing as NotGiven, Ready, Turn, Past, given}
use Rattle.chart_lowering_laws.specs.Corresponds.{Fits}
use Rattle.chart_lowering_laws.specs.Laws.{IsLowering}
use Rattle.chart_lowering_laws.specs.Marks.{layout}
use Rattle.chart_lowering_laws.proofs.Lowered.{chart_is_lowered}
use Rattle.compiled_charts_laws.specs.Nodes.{StandForStates}
use Rattle.compiled_charts_laws.specs.Stands.{StandAlike}
use Rattle.compiled_charts_laws.proofs.Told.{nodes_stand}
use Rattle.compiled_charts_laws.proofs.StepsFollowed.{status_is, waits_forked}

waits_at : (n j : ℕ) → status.Waiting n ≡ status.Waiting j → n ≡ j
waits_at n j h = cc

abbrev pub join_at : Block → ℕ
join_at (Fork n branches rest) = suc n
join_at other = 0

module _ (c : Chart) (p : Scl) (low : IsLowering c p) where
  abbrev K : Table
  K = table c

  abbrev P : Numbered
  P = numbered p

  abbrev G : Program
  G = program_of P

  abbrev L : Layout
  L = layout c P.root

  abbrev Alike : Configuration → Control → Type 0
  Alike = StandAlike K P L G

  lowers : Lowers K P L
  lowers = chart_is_lowered c p low

  told : StandForStates K P.root L (state_of_node c)
  told = nodes_stand c p low

  -- ---- who waits at a join stands in its superstate
  abbrev pub join_in : Option StateRow → ℕ → ℕ
  join_in None s = 0
  join_in (Some r) s = join_at (L.fork s)

  abbrev pub join_of : ℕ → ℕ
  join_of s = join_in (slice_get K.states s) s

  join_told : (s n : ℕ) → suc n ≡ join_of s → slice_get (state_of_node c) (suc n) ≡ Some (Some s)
  join_told s n = by (slice_get K.states s) refl
    where
      by_fork : s < length K.states → (b : Block) → L.fork s ≡ b → suc n ≡ join_at b → slice_get (state_of_node c) (suc n) ≡ Some (Some s)
      by_fork less (Fork k branches rest) is same = subst (λ z. slice_get (state_of_node c) z ≡ Some (Some s)) (sym same) (told.forks s k branches rest less is)
      by_fork less (End k) is same = absurd (cc)
      by_fork less (Assign k x e rest) is same = absurd (cc)
      by_fork less (Label name rest) is same = absurd (cc)
      by_fork less (Goto g name rest) is same = absurd (cc)
      by_fork less (Pause k rest) is same = absurd (cc)
      by_fork less (If k e a b rest) is same = absurd (cc)

      by : (o : Option StateRow) → slice_get K.states s ≡ o → suc n ≡ join_in o s → slice_get (state_of_node c) (suc n) ≡ Some (Some s)
      by None is same = absurd (cc)
      by (Some r) is same = by_fork (slice_get_within K.states s r is) (L.fork s) refl same

  abbrev pub InState : ℕ → Standing → Type 0
  InState s z = (tests : List Transition) × (z ≡ stand.Within s tests)

  same_state : (u s : ℕ) (o : Option (Option ℕ)) → o ≡ Some (Some u) → o ≡ Some (Some s) → u ≡ s
  same_state u s o h i = let same : Some (Some u) ≡ Some (Some s) = sym h ∙ i in cc

  no_state : (s : ℕ) (o : Option (Option ℕ)) → o ≡ Some None → o ≡ Some (Some s) → ⊥
  no_state s o h i = let same : Some None ≡ Some (Some s) = sym h ∙ i in absurd (cc)

  live_waits : (t s : ℕ) (z : Standing) (d : Doing) → Live K P.root L t z d → HeldBy K P.root L t z → standing d ≡ status.Waiting (join_of s) → InState s z
  live_waits t s (stand.Within u tests) (Forked n branches rest) live held w =
      let same : u ≡ s = same_state u s (slice_get (state_of_node c) (suc n)) (told.forks u n branches rest held.0.there live.1)
      (join_told s n (waits_at (suc n) (join_of s) w)) in (tests, ap (λ y. stand.Within y tests) same)
  live_waits t s z Away live held w = absurd (waits_forked Away (join_of s) w)
  live_waits t s z (Todo todo) live held w = absurd (waits_forked (Todo todo) (join_of s) w)
  live_waits t s z (Resting n rest) live held w = absurd (waits_forked (Resting n rest) (join_of s) w)
  live_waits t s z (Resuming n rest) live held w = absurd (waits_forked (Resuming n rest) (join_of s) w)
  live_waits t s z Finished live held w = absurd (waits_forked Finished (join_of s) w)
  live_waits t s stand.Outside (Forked n branches rest) live held w = absurd live
  live_waits t s stand.Ended (Forked n branches rest) live held w = absurd live
  live_waits t s (stand.Trying u tests) (Forked n branches rest) live held w = absurd live
  live_waits t s (stand.Entering u tests) (Forked n branches rest) live held w = absurd live
  live_waits t s (stand.Guarding u tests) (Forked n branches rest) live held w = absurd live
  live_waits t s (stand.Acting u [] place) (Forked n branches rest) live held w = absurd live
  live_waits t s (stand.Acting u (e ∷ effects) place) (Forked n branches rest) live held w = absurd live

  away_waits : (s : ℕ) (z : Standing) (d : Doing) → d ≡ Away → standing d ≡ status.Waiting (join_of s) → InState s z
  away_waits s z d away w = absurd (waits_forked Away (join_of s) (ap standing (sym away) ∙ w))

  given_waits : (t s : ℕ) (g : Giving) (z : Standing) (d : Doing) → Fits K P.root L t g z d → standing d ≡ status.Waiting (join_of s) → InState s z
  given_waits t s NotGiven z d fits w = away_waits s z d fits.1 w
  given_waits t s Ready z d fits w = away_waits s z d fits.1 w
  given_waits t s Past z d fits w = away_waits s z d fits.1 w
  given_waits t s Turn z d fits w = live_waits t s z d fits.0 fits.1 w

  root_waits : (s : ℕ) (z : Standing) (d : Doing) → IsAtRoot P.root d → standing d ≡ status.Waiting (join_of s) → InState s z
  root_waits s z (Forked n branches rest) at w =
      absurd (no_state s (slice_get (state_of_node c) (suc n)) (told.top n branches rest at) (join_told s n (waits_at (suc n) (join_of s) w)))
  root_waits s z Away at w = absurd (waits_forked Away (join_of s) w)
  root_waits s z (Todo todo) at w = absurd (waits_forked (Todo todo) (join_of s) w)
  root_waits s z (Resting n rest) at w = absurd at
  root_waits s z (Resuming n rest) at w = absurd at
  root_waits s z Finished at w = absurd (waits_forked Finished (join_of s) w)

  pub waits_back : (d : Configuration) (m : Control) (t s : ℕ) → Alike d m → status_of m t ≡ status.Waiting (join_of s) → InState s (standing_of d t)
  waits_back d m t s x waits = by t (sym (status_is P x.state m x.of_graph t) ∙ waits)
    where
      by : (r : ℕ) → standing (doing x.state r) ≡ status.Waiting (join_of s) → InState s (standing_of d r)
      by zero w = root_waits s (standing_of d zero) (doing x.state zero) x.of_chart.root w
      by (suc r) w = there (slice_get x.state.threads (suc r)) refl
        where
          there : (o : Option Doing) → slice_get x.state.threads (suc r) ≡ o → InState s (standing_of d (suc r))
          there None is = away_waits s (standing_of d (suc r)) (doing x.state (suc r)) (ap (λ o. unwrap_or o Away) is) w
          there (Some y) is =
              let less : suc r < length x.state.threads = slice_get_within x.state.threads (suc r) y is in
              let many : length x.state.threads ≡ suc (length K.regions) = x.of_chart.threads in
              let region : IsRegionOf K (suc r) = (omega arith, omega (arith, less, many)) in
              given_waits (suc r) s (given K d x.state (region_at K (suc r)).around) (standing_of d (suc r)) (doing x.state (suc r))
              (x.of_chart.each (suc r) region) w
