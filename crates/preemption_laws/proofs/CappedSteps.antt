-- What is to be known of a chart, its core chart and its graph, so that the priorities of its steps, capped, are ranks; and what follows at once.
use Rattle.std.proofs.Common.{◌≡◌, ◌≢◌, ℕ, ◌≤◌, Bool, true, false, ◌&&◌, ◌⊎◌, inl, inr, ⊎_elim, min, List, [], ◌∷◌, refl, sym, ap, subst, ◌∙◌}
use Rattle.std.proofs.lemmas.Bool.{and_parts}
use Rattle.sc_values.specs.Access.{Access, Writing, Nothing, Init, Update, no_access}
use Rattle.sc_graph.specs.declared.control.Control.{Control}
use Rattle.sc_graph.specs.declared.tables.Tables.{Tables}
use Rattle.sc_graph.specs.Control.{IsEnabled}
use Rattle.sc_graph.specs.Program.{Program}
use Rattle.sc_graph.specs.Threads.{Below}
use Rattle.sc_graph.specs.Valid.{IsValid}
use Rattle.tick_laws.proofs.Kin.{below_self}
use Rattle.tick_laws.proofs.Views.{stands, enabled_from}
use Rattle.core_charts.specs.declared.features.Features.TheVariants as features
use Rattle.core_charts.specs.Chart.{Chart}
use Rattle.core_charts.specs.Rules.{IsChart}
use Rattle.chart_machine.specs.declared.standing.Standing.{Standing}
use Rattle.chart_machine.specs.declared.standing.Standing.TheVariants as at
use Rattle.chart_machine.specs.declared.standing.Configuration.{Configuration}
use Rattle.chart_machine.specs.declared.table.Table.{Table}
use Rattle.chart_machine.specs.Table.{table}
use Rattle.chart_machine.specs.Turns.{standing_of, is_enabled}
use Rattle.chart_machine.specs.Steps.{access_of}
use Rattle.scl.specs.declared.program.Scl.{Scl}
use Rattle.scl.specs.Numbering.{numbered}
use Rattle.scl_graph.specs.Graph.{program_of}
use Rattle.abort_expansion.specs.Expansion.{expanded}
use Rattle.chart_lowering_laws.specs.Laws.{IsLowering}
use Rattle.compiled_charts_laws.proofs.Stands.{trigger_writes}
use Rattle.abort_expansion_laws.specs.CoreRows.{Images}
use Rattle.abort_expansion_laws.proofs.TicksOfCharts as ticks
use Rattle.preemption_laws.specs.CappedRanks.{capped}
use Rattle.preemption_laws.specs.StepNodes.{AtOwnNode, Alike}
use Rattle.preemption_laws.proofs.ChartOrder.{AllAt, step_priority}
use Rattle.preemption_laws.proofs.CoreTurns.{HasTurn, taker, TakenBy, by_thread, by_monitor, by_nobody, taken_by}
use Rattle.preemption_laws.proofs.StepsInside.{IsWithin}
use Rattle.preemption_laws.proofs.LinesAhead.{LowAhead, LowOnceStepped, ahead_less, ahead_both, enabled_ahead}

-- a step that neither reads nor writes
abbrev reads_nothing : List ℕ → Bool
reads_nothing [] = true
reads_nothing (x ∷ xs) = false

abbrev writes_nothing : Writing → Bool
writes_nothing Nothing = true
writes_nothing (Init x literal) = false
writes_nothing (Update x f) = false

abbrev pub is_idle : Access → Bool
is_idle a = reads_nothing a.reads && writes_nothing a.writes

pub idle_is : (a : Access) → is_idle a ≡ true → a ≡ no_access
idle_is a idle =
    let both = and_parts (reads_nothing a.reads) (writes_nothing a.writes) idle in
    ap (λ rs. record { reads = rs; writes = a.writes }) (none a.reads both.0) ∙ ap (λ w. record { reads = []; writes = w }) (nothing a.writes both.1)
  where
    none : (rs : List ℕ) → reads_nothing rs ≡ true → rs ≡ []
    none [] h = refl
    none (x ∷ xs) h = absurd cc

    nothing : (w : Writing) → writes_nothing w ≡ true → w ≡ Nothing
    nothing Nothing h = refl
    nothing (Init x literal) h = absurd cc
    nothing (Update x f) h = absurd cc

pub busy_is : (a : Access) → is_idle a ≡ false → a ≢ no_access
busy_is a busy none = let wrong : true ≡ false = sym (ap is_idle none) ∙ busy in absurd cc

-- a strong abort is to be tested
abbrev pub IsGuarding : Standing → Type 0
IsGuarding (at.Guarding s tests) = Unit {0}
IsGuarding other = ⊥

module _ (c : Chart) (rules : IsChart features.Extended c) (core_rules : IsChart features.Core (expanded c)) (p : Scl) (q : Tables)
    (low : IsLowering (expanded c) p) (valid : IsValid (program_of (numbered p)) q) where
  abbrev k : Table
  k = table c

  abbrev i : Images
  i = ticks.i c rules core_rules

  abbrev G : Program
  G = program_of (numbered p)

  -- whoever is on the line of a region that has its turn is no higher than the cap, nor will be: of one in an opened superstate, once its thread
  -- has left the join. While a region guards, those on its line are no higher than its monitor
  pub record IsCapped (now d : Configuration) (m : Control) (cap : ℕ) : Type 0 where
    pub all : AllAt c rules core_rules p q low valid now d m
    pub alike : Alike (expanded c) p d m
    pub lines : (t : ℕ) → is_enabled k now t ≡ true → ¬ IsWithin (standing_of now t) → LowAhead G q cap (i.thread_of t) m
    pub joins : (t : ℕ) → is_enabled k now t ≡ true → IsWithin (standing_of now t) → LowOnceStepped G q cap (i.thread_of t) m
    pub guarded : (t : ℕ) → is_enabled k now t ≡ true → IsGuarding (standing_of now t) → access_of (standing_of now t) ≢ no_access →
        LowAhead G q (step_priority c rules core_rules p q low valid now m t) (i.thread_of t) m

  -- who writes acts
  acts_only : (x : Standing) → (access_of x).writes ≢ Nothing → (¬ IsWithin x) × ((t : ℕ) → taker c rules core_rules x t ≡ i.thread_of t)
  acts_only (at.Acting s effects place) writes = ((λ h. h), (λ t. refl))
  acts_only (at.Trying s tests) writes = ((λ h. h), (λ t. refl))
  acts_only (at.Entering s tests) writes = ((λ h. h), (λ t. refl))
  acts_only at.Outside writes = absurd (writes refl)
  acts_only at.Ended writes = absurd (writes refl)
  acts_only (at.Guarding s []) writes = absurd (writes refl)
  acts_only (at.Guarding s (y ∷ tests)) writes = absurd (writes (trigger_writes y.trigger))
  acts_only (at.Within s []) writes = absurd (writes refl)
  acts_only (at.Within s (y ∷ tests)) writes = absurd (writes (trigger_writes y.trigger))

  -- the thread of a region that reads or writes is enabled in the graph, and so is who takes its step
  module _ (now d : Configuration) (m : Control) (all : AllAt c rules core_rules p q low valid now d m) (t : ℕ) (on : is_enabled k now t ≡ true) where
    at_node : (v : ℕ) → HasTurn c rules core_rules d v (access_of (standing_of now t)) → access_of (standing_of now t) ≢ no_access → IsEnabled G m v
    at_node v turn some =
        let n : AtOwnNode G m v (access_of (standing_of d v)) = all.nodes v turn.on (λ none. some (sym turn.does ∙ none)) in
        enabled_from G m v (stands n.node n.at)

    pub taker_there : access_of (standing_of now t) ≢ no_access → IsEnabled G m (taker c rules core_rules (standing_of now t) t)
    taker_there some = by (taken_by c rules core_rules now d all.related all.ready all.owns t on)
      where
        by : TakenBy c rules core_rules now d t → IsEnabled G m (taker c rules core_rules (standing_of now t) t)
        by (by_nobody none) = absurd (some none)
        by (by_thread is turn) = subst (IsEnabled G m) (sym is) (at_node (i.thread_of t) turn some)
        by (by_monitor o o_there held has is turn) = subst (IsEnabled G m) (sym is) (at_node (i.watcher_of o) turn some)

  module _ (now d : Configuration) (m : Control) (cap : ℕ) (capped_now : IsCapped now d m cap) (t : ℕ) (on : is_enabled k now t ≡ true) where
    taker_on : access_of (standing_of now t) ≢ no_access → IsEnabled G m (taker c rules core_rules (standing_of now t) t)
    taker_on some = taker_there now d m capped_now.all t on some

    -- with its line it comes to no greater priority
    pub taker_low : access_of (standing_of now t) ≢ no_access →
        LowAhead G q (step_priority c rules core_rules p q low valid now m t) (taker c rules core_rules (standing_of now t) t) m
    taker_low some = enabled_ahead G q valid m capped_now.alike.is_configuration (taker c rules core_rules (standing_of now t) t) (taker_on some)

    -- a step that writes is not above the cap
    pub uncapped : (access_of (standing_of now t)).writes ≢ Nothing → step_priority c rules core_rules p q low valid now m t ≤ cap
    uncapped writes =
        capped_now.lines t on acts.0 [] m refl (taker c rules core_rules (standing_of now t) t)
        (subst (λ w. (Below G (taker c rules core_rules (standing_of now t) t) w) ⊎ (Below G w (taker c rules core_rules (standing_of now t) t))) (acts.1 t)
        (inl (below_self G (taker c rules core_rules (standing_of now t) t))))
        (taker_on (λ none. writes (ap (λ z. z.writes) none)))
      where
        acts : (¬ IsWithin (standing_of now t)) × ((v : ℕ) → taker c rules core_rules (standing_of now t) v ≡ i.thread_of v)
        acts = acts_only (standing_of now t) writes

    -- however low a number is chosen that its capped priority is within, so is its line
    module _ (out : ¬ IsWithin (standing_of now t)) (some : access_of (standing_of now t) ≢ no_access) where
      abbrev own_priority : ℕ
      own_priority = step_priority c rules core_rules p q low valid now m t

      by_sort : (x : Standing) → ¬ IsWithin x → IsGuarding x ⊎ ((v : ℕ) → taker c rules core_rules x v ≡ i.thread_of v)
      by_sort (at.Guarding s tests) none = inl tt
      by_sort (at.Within s tests) none = absurd (none tt)
      by_sort at.Outside none = inr (λ v. refl)
      by_sort at.Ended none = inr (λ v. refl)
      by_sort (at.Trying s tests) none = inr (λ v. refl)
      by_sort (at.Entering s tests) none = inr (λ v. refl)
      by_sort (at.Acting s effects place) none = inr (λ v. refl)

      thread_low : taker c rules core_rules (standing_of now t) t ≡ i.thread_of t → LowAhead G q own_priority (i.thread_of t) m
      thread_low is_thread = subst (λ v. LowAhead G q own_priority v m) is_thread (taker_low some)

      own_low : LowAhead G q own_priority (i.thread_of t) m
      own_low = ⊎_elim (λ guards. capped_now.guarded t on guards some) (λ takes. thread_low (takes t)) (by_sort (standing_of now t) out)

      pub line_within_rank : (next : ℕ) → min own_priority cap ≤ next → LowAhead G q next (i.thread_of t) m
      line_within_rank next le =
          ahead_less G q (min own_priority cap) next (i.thread_of t) m le
          (ahead_both G q own_priority cap (i.thread_of t) m own_low (capped_now.lines t on out))

    -- so it is of each step, also of one without access
    pub line_kept : (next : ℕ) → ¬ IsWithin (standing_of now t) →
        capped (is_idle (access_of (standing_of now t))) cap (step_priority c rules core_rules p q low valid now m t) ≤ next →
        LowAhead G q next (i.thread_of t) m
    line_kept next out le = by (is_idle (access_of (standing_of now t))) refl le
      where
        by : (b : Bool) → is_idle (access_of (standing_of now t)) ≡ b → capped b cap (step_priority c rules core_rules p q low valid now m t) ≤ next →
            LowAhead G q next (i.thread_of t) m
        by true idle below = ahead_less G q cap next (i.thread_of t) m below (capped_now.lines t on out)
        by false busy below = line_within_rank out (busy_is (access_of (standing_of now t)) busy) next below
