-- Who comes to see a flag raised by a step of another region: the join of the fork around it is no higher than that region's line.
use Rattle.std.proofs.Common.{◌≡◌, ◌≢◌, ℕ, suc, ◌<◌, ◌≤◌, pos, ⊎_elim, inl, true, false, Some, unwrap_or, List, [], ◌∷◌, slice_set, Contains}
use Rattle.std.proofs.Common.{refl, sym, ap, subst, ◌∙◌, arith}
use Rattle.sc_values.specs.declared.value.Value.{Value}
use Rattle.sc_values.specs.declared.value.Value.TheVariants as value_is
use Rattle.sc_values.specs.Access.{Access, Init, Nothing, no_access, Precedes, init_read}
use Rattle.sc_graph.specs.declared.control.Control.{Control}
use Rattle.sc_graph.specs.declared.tables.Tables.{Tables}
use Rattle.sc_graph.specs.Accesses.{accesses}
use Rattle.sc_graph.specs.Control.{status_of}
use Rattle.sc_graph.specs.Program.{Program}
use Rattle.sc_graph.specs.Tables.{priority, priority_of}
use Rattle.sc_graph.specs.Valid.{IsValid}
use Rattle.tick_laws.proofs.EnabledPairs.{edge_falls}
use Rattle.tick_laws.proofs.Kin.{below_self}
use Rattle.tick_laws.proofs.Lists.{same_or_not, contains_head}
use Rattle.scl_graph_laws.proofs.Searching.{unlike}
use Rattle.core_charts.specs.declared.region.Effect.{Effect}
use Rattle.core_charts.specs.declared.region.Transition.{Transition}
use Rattle.core_charts.specs.Chart.{Chart}
use Rattle.chart_machine.specs.declared.standing.Configuration.{Configuration}
use Rattle.chart_machine.specs.declared.standing.Standing.TheVariants as at
use Rattle.chart_machine.specs.declared.table.Table.{Table}
use Rattle.chart_machine.specs.Steps.{verdict, access_of, step}
use Rattle.chart_machine.specs.Table.{table}
use Rattle.chart_machine.specs.Turns.{standing_of, is_enabled, LiesIn, itself, deeper, ForkedApart}
use Rattle.chart_machine_laws.specs.Tree.{around, holder}
use Rattle.scl.specs.declared.program.Scl.{Scl}
use Rattle.scl.specs.Numbering.{numbered}
use Rattle.scl_graph.specs.Graph.{program_of}
use Rattle.abort_expansion.specs.Transitions.{put, is_raised}
use Rattle.abort_expansion_laws.proofs.FlagAccess.{put_access}
use Rattle.abort_expansion_laws.proofs.Supplying.{sets}
use Rattle.chart_lowering_laws.specs.Laws.{IsLowering}
use Rattle.preemption_laws.specs.StepNodes.{AtOwnNode}
use Rattle.preemption_laws.proofs.LinesAhead.{LowAhead}
use Rattle.preemption_laws.proofs.ApartTogether.{present_apart}
use Rattle.preemption_laws.specs.Looks.{look, Looks}
use Rattle.preemption_laws.specs.Waiting.{holds}
use Rattle.preemption_laws.proofs.CoreTries.{held, writes}
use Rattle.preemption_laws.proofs.FlagsStayDown.{raised_same, raised_reads}
use Rattle.preemption_laws.proofs.GraphMoves.{apart_there}
use Rattle.preemption_laws.proofs.Ground.{Ground, enclosed_on}
use Rattle.preemption_laws.proofs.LookNodes.{LookNode, trying_outside}
use Rattle.preemption_laws.proofs.OneWrite.{MakesEffect, one_write}
use Rattle.preemption_laws.proofs.StaysThere.{is_within, within_around}
use Rattle.preemption_laws.proofs.WaitLow.{Stands, join_at, at_node}

trying_acting : (s u p : ℕ) (ts : List Transition) (es : List Effect) → at.Trying s ts ≡ at.Acting u es p → ⊥
trying_acting s u p ts es e = absurd cc

acting_out : (u p : ℕ) (es : List Effect) → at.Acting u es p ≡ at.Outside → ⊥
acting_out u p es e = absurd cc

sets_some : (x : ℕ) (v : Value) → sets x v ≡ no_access → ⊥
sets_some x v e = let wrong : Init x (Some v) ≡ Nothing = ap (λ (a : Access). a.writes) e in absurd cc

module _ (e : Chart) (p : Scl) (q : Tables) (low : IsLowering e p) (valid : IsValid (program_of (numbered p)) q) (looks : ℕ → List Transition)
    (l : Looks (table e) looks) (g : Ground (table e)) where
  abbrev K : Table
  K = table e

  abbrev G : Program
  G = program_of (numbered p)

  module _ (c d : Configuration) (m : Control) (all : Stands e p q low valid looks l g c m) (t : ℕ) (steps : step K t c ≡ Some d)
      (on : is_enabled K c t ≡ true) (next : ℕ) (ahead : is_within (standing_of c t) ≡ false → LowAhead G q next t m)
      (u v s x : ℕ) (ts : List Transition) (stands : standing_of c u ≡ at.Trying s ts) (seen : Contains (l.seen s) x) (out : ¬ LiesIn K u t)
      (node : LookNode G q u x (join_at e p q low valid looks l g v)) where
    u_here : standing_of c u ≢ at.Outside
    u_here is = trying_outside s ts (sym stands ∙ is)

    module _ (w : MakesEffect (standing_of c t)) where
      now : access_of (standing_of c t) ≡ access_of (at.Acting w.state (w.effect ∷ w.effects) w.target)
      now = ap access_of w.stands

      t_here : standing_of c t ≢ at.Outside
      t_here is = acting_out w.state w.target (w.effect ∷ w.effects) (sym w.stands ∙ is)

      t_out : ¬ LiesIn K t u
      t_out (itself same) =
          trying_acting s w.state w.target ts (w.effect ∷ w.effects) (sym stands ∙ (ap (standing_of c) (sym same) ∙ w.stands))
      t_out (deeper o inner holds_it) =
          unlike (is_within (standing_of c (holder K o))) (within_around K looks l g c all.sound.core t o t_here inner)
          (ap (λ r. is_within (standing_of c r)) holds_it ∙ ap is_within stands)

      -- it raises the flag
      module _ (n : ℕ) (raises : w.effect ≡ put x (suc n)) where
        access_is : access_of (standing_of c t) ≡ sets x (value_is.Int (pos (suc n)))
        access_is =
            now
            ∙ (ap (λ (f : Effect). access_of (at.Acting w.state (f ∷ w.effects) w.target)) raises ∙ put_access x (suc n))

        some : access_of (standing_of c t) ≢ no_access
        some none = sets_some x (value_is.Int (pos (suc n))) (sym access_is ∙ none)

        own : AtOwnNode G m t (access_of (standing_of c t))
        own = all.nodes t on some

        apart : (a : ℕ) × ForkedApart K t u a
        apart = present_apart K g.tree g.holder_there c (enclosed_on K g c all.sound.core.sits) t u t_here u_here t_out out

        before : Precedes (accesses G own.node) (accesses G node.node)
        before =
            init_read x (Some (value_is.Int (pos (suc n))), ap (λ (a : Access). a.writes) (own.does ∙ access_is))
            (subst (λ (a : Access). Contains a.reads x) (sym node.does) (subst (λ zs. Contains zs x) (sym (raised_reads x)) (contains_head x [])))

        pub by_raising : priority q (join_at e p q low valid looks l g v) ≤ next
        by_raising =
            let falls : priority q node.node < priority q own.node =
            edge_falls G q valid own.node node.node t u apart.0 own.owned node.owned
            (apart_there e p q low valid t u apart.0 apart.1) before in
            let free : is_within (standing_of c t) ≡ false = ap is_within w.stands in
            let within : priority_of q (status_of m t) ≤ next =
            ahead free [] m refl t (inl (below_self G t)) (at_node e p q low valid looks l g c m all t on some) in
            let is : priority_of q (status_of m t) ≡ priority q own.node = ap (priority_of q) own.at in
            let above : priority q (join_at e p q low valid looks l g v) ≤ priority q node.node = node.above in
            omega (falls, within, is, above, arith)

      -- the region that holds its superstate does not act
      by_holder : t ≡ holder K (l.superstate_of x) → ⊥
      by_holder one =
          let inner : Contains (around K u) (l.superstate_of x) =
          subst (λ r. Contains (around K r) (l.superstate_of x)) (held K looks l g c all.sound.core u s ts stands) (l.lies_inside s x seen) in
          unlike (is_within (standing_of c (holder K (l.superstate_of x))))
          (within_around K looks l g c all.sound.core u (l.superstate_of x) u_here inner)
          (ap (λ r. is_within (standing_of c r)) (sym one) ∙ ap is_within w.stands)

    -- a flag that comes to be raised is raised so
    pub raise_low : holds c (look (l.left s) x) ≡ false → holds d (look (l.left s) x) ≡ true → priority q (join_at e p q low valid looks l g v) ≤ next
    raise_low was is_now =
        ⊎_elim
        (λ same.
        absurd (unlike (holds d (look (l.left s) x)) is_now
        (ap (λ vs. unwrap_or (verdict vs (Some (is_raised x))) false) same ∙ was)))
        (λ wrote. by_write wrote.0 wrote.1 wrote.2) (one_write K c t d steps)
      where
        by_write : (w : MakesEffect (standing_of c t)) (y : Value) → d.variables ≡ slice_set c.variables w.effect.variable y →
            priority q (join_at e p q low valid looks l g v) ≤ next
        by_write w y is =
            ⊎_elim
            (λ same.
            ⊎_elim (λ raises. by_raising w raises.0 raises.1) (λ one. absurd (by_holder w one))
            (writes K looks l g c all.sound.core t w.state w.target w.effect w.effects w.stands s x seen same))
            (λ other.
            absurd (unlike (holds d (look (l.left s) x)) is_now
            (ap (λ vs. unwrap_or (verdict vs (Some (is_raised x))) false) is
            ∙ (ap (λ o. unwrap_or o false) (raised_same x w.effect.variable y c.variables other) ∙ was))))
            (same_or_not w.effect.variable x)
