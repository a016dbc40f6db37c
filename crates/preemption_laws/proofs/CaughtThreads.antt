-- Threads of a graph that have caught up with a core chart: who goes on, who waits at a join, and who comes to an effect.
use Rattle.std.proofs.Common.{◌≡◌, ◌≢◌, ℕ, suc, ◌<◌, true, Some, List, [], ◌∷◌, length, slice_get, unwrap_or}
use Rattle.std.proofs.Common.{refl, sym, ap}
use Rattle.std.proofs.Common.{subst, ◌∙◌}
use Rattle.sc_values.specs.declared.expression.Expr.{Expr}
use Rattle.sc_graph.specs.declared.control.Control.{Control}
use Rattle.sc_graph.specs.declared.control.Status.TheVariants as status
use Rattle.sc_graph.specs.Control.{status_of}
use Rattle.sc_graph.specs.Program.{Program}
use Rattle.tick_laws.proofs.Lists.{slice_get_there}
use Rattle.core_charts.specs.declared.region.Effect.{Effect}
use Rattle.core_charts.specs.declared.region.Transition.{Transition}
use Rattle.core_charts.specs.Chart.{Chart}
use Rattle.chart_machine.specs.declared.standing.Standing.{Standing}
use Rattle.chart_machine.specs.declared.standing.Standing.TheVariants as at
use Rattle.chart_machine.specs.declared.standing.Configuration.{Configuration}
use Rattle.chart_machine.specs.declared.table.StateRow.{StateRow}
use Rattle.chart_machine.specs.declared.table.Table.{Table}
use Rattle.chart_machine.specs.Table.{table}
use Rattle.chart_machine.specs.Turns.{standing_of}
use Rattle.scl.specs.declared.program.Scl.{Scl}
use Rattle.scl.specs.Block.{Block, Branches, Assign, Label, Goto, Pause, End, Fork, If}
use Rattle.scl.specs.Numbering.{Numbered, numbered}
use Rattle.scl.specs.Meaning.{State, Doing, Away, Todo, Forked, Resting, Resuming, Finished, doing}
use Rattle.scl_graph.specs.Graph.{program_of}
use Rattle.scl_graph_laws.specs.Keeps.{Corresponds as StandsInGraph}
use Rattle.scl_graph_laws.specs.Standing.{standing, IsOfText}
use Rattle.chart_lowering_laws.specs.Corresponds.{Live, HeldBy, Fits, Corresponds, ComesTo}
use Rattle.chart_lowering_laws.specs.Laws.{IsLowering}
use Rattle.chart_lowering_laws.specs.Layout.{Layout, IsRegionOf, Lowers}
use Rattle.chart_lowering_laws.specs.Marks.{layout}
use Rattle.chart_lowering_laws.proofs.Catching.{caught, Caught, has_turn}
use Rattle.chart_lowering_laws.proofs.Lowered.{chart_is_lowered}
use Rattle.chart_lowering_laws.proofs.Showing.{region_of}
use Rattle.compiled_charts_laws.proofs.AtJoins as at_joins
use Rattle.compiled_charts_laws.proofs.StepsFollowed.{standing_in}
use Rattle.preemption_laws.specs.LowLines.{IsGoing}
use Rattle.preemption_laws.proofs.RaiseNodes.{LeadsToEffect, leads_to_effect}

-- ---- where a thread stands

-- whoever is there and has not ended goes on in the graph
abbrev pub GoOn : Configuration → Control → Type 0
GoOn d m = (t : ℕ) → standing_of d t ≢ at.Outside → standing_of d t ≢ at.Ended → IsGoing (status_of m t)

module _ (c : Chart) (p : Scl) (low : IsLowering c p) where
  abbrev K : Table
  K = table c

  abbrev P : Numbered
  P = numbered p

  abbrev G : Program
  G = program_of P

  abbrev L : Layout
  L = layout c P.root

  lowers : Lowers K P L
  lowers = chart_is_lowered c p low

  abbrev pub WaitsAtJoins : Configuration → Control → Type 0
  WaitsAtJoins d m =
      (t u : ℕ) (w : Transition) (ws : List Transition) → standing_of d t ≡ at.Within u (w ∷ ws) →
      status_of m t ≡ status.Waiting (at_joins.join_of c p low u)

  -- who is there and has not ended goes on

  live_goes : (t : ℕ) (x : Standing) (z : Doing) → Live K P.root L t x z → x ≢ at.Ended → IsGoing (standing z)
  live_goes t x (Todo todo) live lasts = tt
  live_goes t x (Forked n branches rest) live lasts = tt
  live_goes t x (Resting n rest) live lasts = tt
  live_goes t x (Resuming n rest) live lasts = tt
  live_goes t at.Outside Away live lasts = absurd live
  live_goes t at.Ended Away live lasts = absurd live
  live_goes t (at.Trying s tests) Away live lasts = absurd live
  live_goes t (at.Entering s tests) Away live lasts = absurd live
  live_goes t (at.Guarding s tests) Away live lasts = absurd live
  live_goes t (at.Within s tests) Away live lasts = absurd live
  live_goes t (at.Acting s [] place) Away live lasts = absurd live
  live_goes t (at.Acting s (e ∷ effects) place) Away live lasts = absurd live
  live_goes t at.Outside Finished live lasts = absurd live
  live_goes t at.Ended Finished live lasts = absurd (lasts refl)
  live_goes t (at.Trying s tests) Finished live lasts = absurd live
  live_goes t (at.Entering s tests) Finished live lasts = absurd live
  live_goes t (at.Guarding s tests) Finished live lasts = absurd live
  live_goes t (at.Within s tests) Finished live lasts = absurd live
  live_goes t (at.Acting s [] place) Finished live lasts = absurd live
  live_goes t (at.Acting s (e ∷ effects) place) Finished live lasts = absurd live

  pub goes_at : (d : Configuration) (s : State) (m : Control) → Corresponds K P L d s → StandsInGraph P s m → Caught d s → (t : ℕ) →
      standing_of d t ≢ at.Outside → standing_of d t ≢ at.Ended → IsGoing (status_of m t)
  goes_at d s m corr in_graph up t entered going =
      let there : IsRegionOf K t = region_of K P L d s corr t entered in
      let fits : Live K P.root L t (standing_of d t) (doing s t) × HeldBy K P.root L t (standing_of d t) =
      subst (λ g. Fits K P.root L t g (standing_of d t) (doing s t)) (has_turn K P L lowers d s corr up t there entered going) (corr.each t there) in
      subst IsGoing (sym (ap (λ z. unwrap_or (slice_get z t) status.Absent) in_graph.statuses ∙ standing_in s.threads t))
      (live_goes t (standing_of d t) (doing s t) fits.0 going)

  -- who is in a superstate that is to be tested waits at its join

  join_is : (u n : ℕ) (branches : Branches) (rest : Block) → u < length K.states → L.fork u ≡ Fork n branches rest → at_joins.join_of c p low u ≡ suc n
  join_is u n branches rest less fork =
      let row : (x : StateRow) × (slice_get K.states u ≡ Some x) = slice_get_there K.states u less in
      ap (λ o. at_joins.join_in c p low o u) row.1 ∙ ap at_joins.join_at fork

  forked_at : (t u : ℕ) (w : Transition) (ws : List Transition) (z : Doing) → Live K P.root L t (at.Within u (w ∷ ws)) z → u < length K.states →
      caught (at.Within u (w ∷ ws)) z ≡ true → standing z ≡ status.Waiting (at_joins.join_of c p low u)
  forked_at t u w ws (Forked n branches rest) live less caught_up = ap status.Waiting (sym (join_is u n branches rest less live.1))
  forked_at t u w ws (Todo todo) live less caught_up = by todo live.1 caught_up
    where
      by : (b : Block) → ComesTo L u (w ∷ ws) b → caught (at.Within u (w ∷ ws)) (Todo b) ≡ true →
          standing (Todo b) ≡ status.Waiting (at_joins.join_of c p low u)
      by (Fork n branches rest) comes_there up_to = absurd cc
      by (Pause n rest) comes_there up_to = let none : w ∷ ws ≡ [] = comes_there.0 in absurd cc
      by (End n) comes_there up_to = absurd comes_there
      by (Assign n x e rest) comes_there up_to = absurd comes_there
      by (Label name rest) comes_there up_to = absurd comes_there
      by (Goto g name rest) comes_there up_to = absurd comes_there
      by (If n e a b rest) comes_there up_to = absurd comes_there
  forked_at t u w ws (Resting n rest) live less caught_up = let none : w ∷ ws ≡ [] = live.0 in absurd cc
  forked_at t u w ws (Resuming n rest) live less caught_up = let none : w ∷ ws ≡ [] = live.0 in absurd cc
  forked_at t u w ws Away live less caught_up = absurd live
  forked_at t u w ws Finished live less caught_up = absurd live

  pub waits_at : (d : Configuration) (s : State) (m : Control) → Corresponds K P L d s → StandsInGraph P s m → Caught d s → WaitsAtJoins d m
  waits_at d s m corr in_graph up t u w ws is =
      let entered : standing_of d t ≢ at.Outside = λ out. let wrong : at.Within u (w ∷ ws) ≡ at.Outside = sym is ∙ out in absurd cc in
      let lasts : standing_of d t ≢ at.Ended = λ end. let wrong : at.Within u (w ∷ ws) ≡ at.Ended = sym is ∙ end in absurd cc in
      let there : IsRegionOf K t = region_of K P L d s corr t entered in
      let fits : Live K P.root L t (standing_of d t) (doing s t) × HeldBy K P.root L t (standing_of d t) =
      subst (λ g. Fits K P.root L t g (standing_of d t) (doing s t)) (has_turn K P L lowers d s corr up t there entered lasts) (corr.each t there) in
      let held : HeldBy K P.root L t (at.Within u (w ∷ ws)) = subst (HeldBy K P.root L t) is fits.1 in
      ap (λ z. unwrap_or (slice_get z t) status.Absent) in_graph.statuses
      ∙ (standing_in s.threads t
      ∙ forked_at t u w ws (doing s t) (subst (λ z. Live K P.root L t z (doing s t)) is fits.0) held.0.there
      (subst (λ z. caught z (doing s t) ≡ true) is (up t)))

  -- who tries a transition with effects is at a node that leads to the first of them

  abbrev pub AtFirstEffects : Configuration → Control → Type 0
  AtFirstEffects d m =
      (t u : ℕ) (y : Transition) (tests : List Transition) (e : Expr) (f : Effect) (fs : List Effect) → standing_of d t ≡ at.Trying u (y ∷ tests) →
      y.trigger ≡ Some e → y.effects ≡ f ∷ fs → LeadsToEffect G m t f

  pub first_effects : (d : Configuration) (s : State) (m : Control) → Corresponds K P L d s → StandsInGraph P s m → Caught d s → AtFirstEffects d m
  first_effects d s m corr in_graph up t u y tests e f fs is triggered effects =
      let entered : standing_of d t ≢ at.Outside = λ out. let wrong : at.Trying u (y ∷ tests) ≡ at.Outside = sym is ∙ out in absurd cc in
      let lasts : standing_of d t ≢ at.Ended = λ end. let wrong : at.Trying u (y ∷ tests) ≡ at.Ended = sym is ∙ end in absurd cc in
      let there : IsRegionOf K t = region_of K P L d s corr t entered in
      let fits : Live K P.root L t (standing_of d t) (doing s t) × HeldBy K P.root L t (standing_of d t) =
      subst (λ g. Fits K P.root L t g (standing_of d t) (doing s t)) (has_turn K P L lowers d s corr up t there entered lasts) (corr.each t there) in
      by (doing s t) refl (subst (λ z. Live K P.root L t z (doing s t)) is fits.0) (subst (λ z. caught z (doing s t) ≡ true) is (up t))
    where
      by : (z : Doing) → doing s t ≡ z → Live K P.root L t (at.Trying u (y ∷ tests)) z → caught (at.Trying u (y ∷ tests)) z ≡ true → LeadsToEffect G m t f
      by (Todo todo) does live caught_up =
          leads_to_effect c p low t u y tests e triggered f fs effects todo live.0 (subst (IsOfText P.root t) does (in_graph.places t)).0 live.1 m
          (ap (λ z. unwrap_or (slice_get z t) status.Absent) in_graph.statuses ∙ (standing_in s.threads t ∙ ap standing does))
      by (Resting n rest) does live caught_up = let none : y ∷ tests ≡ [] = live.0 in absurd cc
      by (Resuming n rest) does live caught_up = absurd cc
      by Away does live caught_up = absurd live
      by (Forked n branches rest) does live caught_up = absurd live
      by Finished does live caught_up = absurd live
