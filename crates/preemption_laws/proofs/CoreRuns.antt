-- Within a tick each run of a core chart is bounded, since those of its graph are, and between two steps of a thread there are so many
-- tests without a trigger at most.
use Rattle.std.proofs.Common.{◌≡◌, ℕ, zero, suc, ◌+◌, ◌<◌, ◌≤◌, ◌⊎◌, inl, inr, ⊎_elim, Bool, true, false, Option, Some, None, option_map, option_and_then, List}
use Rattle.std.proofs.Common.{[], ◌∷◌, length, unwrap_or, refl, sym, ap, subst, ◌∙◌, arith}
use Rattle.std.proofs.lemmas.Option.{same_Some}
use Rattle.sc_values.specs.Runs.{Machine, act_of, replay}
use Rattle.sc_graph.specs.declared.control.Control.{Control}
use Rattle.sc_graph.specs.declared.tables.Tables.{Tables}
use Rattle.sc_graph.specs.Machine as graph
use Rattle.sc_graph.specs.Tick as graph_tick
use Rattle.sc_graph.specs.Tick.{Inputs, AreAccepted}
use Rattle.sc_graph.specs.Valid.{IsValid}
use Rattle.core_charts.specs.Chart.{Chart}
use Rattle.chart_machine.specs.declared.standing.Standing.{Standing}
use Rattle.chart_machine.specs.declared.standing.Standing.TheVariants as at
use Rattle.chart_machine.specs.declared.standing.Configuration.{Configuration}
use Rattle.chart_machine.specs.declared.table.Table.{Table}
use Rattle.chart_machine.specs.Table.{table}
use Rattle.chart_machine.specs.Steps.{state_in}
use Rattle.chart_machine.specs.Machine.{machine, start}
use Rattle.chart_machine.specs.Turns.{standing_of}
use Rattle.core_charts.specs.declared.region.Effect.{Effect}
use Rattle.sc_values.specs.declared.expression.Expr.{Expr}
use Rattle.scl.specs.declared.program.Scl.{Scl}
use Rattle.scl.specs.Block.{Block}
use Rattle.scl.specs.Labels.{Front, Begins, Jumps, front, behind_label, label_count}
use Rattle.scl.specs.Numbering.{Numbered, numbered}
use Rattle.scl.specs.Meaning.{State, Doing, Away, Todo, Forked, Resting, Resuming, Finished, doing}
use Rattle.scl.specs.Meaning as text
use Rattle.scl_graph.specs.Graph.{program_of}
use Rattle.scl_graph_laws.specs.Keeps.{Keeps}
use Rattle.scl_graph_laws.specs.Keeps.{Corresponds as StandsInGraph}
use Rattle.scl_graph_laws.proofs.Alike.{from_both}
use Rattle.scl_graph_laws.proofs.RunsKept.{program_keeps_runs}
use Rattle.tick_laws.specs.WithinTick.{total}
use Rattle.tick_laws.specs.OneEnd.{OneEnd}
use Rattle.tick_laws.proofs.Final.{one_end_of_tick}
use Rattle.chart_lowering_laws.specs.Corresponds.{Corresponds}
use Rattle.chart_lowering_laws.specs.Follows.{Answers, AnswersBy}
use Rattle.chart_lowering_laws.specs.Keeps.{KeepsSteps}
use Rattle.chart_lowering_laws.specs.Laws.{IsLowering}
use Rattle.chart_lowering_laws.specs.Layout.{Layout, Lowers}
use Rattle.chart_lowering_laws.specs.Marks.{layout, hops}
use Rattle.chart_lowering_laws.specs.Shown.{move, moves, shown_acts}
use Rattle.chart_lowering_laws.specs.WhichShow.{region_shows, thread_shows}
use Rattle.chart_lowering_laws.proofs.Catching.{CaughtUp, NoJoin, catch_up}
use Rattle.chart_lowering_laws.proofs.Lowered.{chart_is_lowered}
use Rattle.chart_lowering_laws.proofs.TicksKept.{keeps_runs}
use Rattle.compiled_charts_laws.proofs.TickStarts as tick_starts
use Rattle.preemption_laws.proofs.ByRank.{Begins as FirstStep, begins}
use Rattle.preemption_laws.proofs.SilentTests.{by_effects, by_trigger, silent_left, counted, left_of, silent_tests, total_within, fewer_silent}

-- ---- no run from here is longer than this

abbrev pub Within : (m : Machine) → ℕ → m.Configuration → Type 0
Within m most c = (run : List ℕ) (d : m.Configuration) → replay m run c ≡ Some d → length run ≤ most

module _ (m : Machine) where
  -- after a step
  within_step : (t most : ℕ) (c d : m.Configuration) → m.step t c ≡ Some d → (run : List ℕ) (e : m.Configuration) → replay m run d ≡ Some e →
      Within m most c → suc (length run) ≤ most
  within_step t most c d steps run e runs within = within (t ∷ run) e (ap (option_and_then (replay m run)) steps ∙ runs)

  pub within_on : (run : List ℕ) (most : ℕ) (c d : m.Configuration) → replay m run c ≡ Some d → Within m most c → Within m most d
  within_on [] most c d runs within = subst (Within m most) (same_Some c d runs) within
  within_on (t ∷ run) most c d runs within =
      let b : FirstStep m t run c d = begins m t run c d runs in
      within_on run most b.next d b.rest
      (λ more e goes. let longer = within_step t most c b.next b.steps more e goes within in omega (longer, arith))

  -- after a run that takes a step fewer are left
  pub within_less : (t : ℕ) (run : List ℕ) (most : ℕ) (c d : m.Configuration) → replay m (t ∷ run) c ≡ Some d → Within m most c →
      (fewer : ℕ) × (most ≡ suc fewer) × Within m fewer d
  within_less t run zero c d runs within = let none : suc (length run) ≤ zero = within (t ∷ run) d runs in absurd (omega (none, arith))
  within_less t run (suc most) c d runs within =
      let b : FirstStep m t run c d = begins m t run c d runs in (
        most,
        refl,
        within_on run most b.next d b.rest
            (λ more e goes. let longer = within_step t (suc most) c b.next b.steps more e goes within in omega (longer, arith)),
      )

-- ---- how many tests without a trigger there are at most

hops_within : (root : Block) (m : ℕ) (f : Front) → hops root m f ≤ m
hops_within root m (Begins todo) = omega arith
hops_within root zero (Jumps g name) = omega arith
hops_within root (suc m) (Jumps g name) = by (behind_label root name) (hops_within root m)
  where
    by : (o : Option Block) → ((f : Front) → hops root m f ≤ m) → suc (unwrap_or (option_map (λ k. hops root m (front k)) o) 0) ≤ suc m
    by None each = omega arith
    by (Some k) each = let less = each (front k) in omega (less, arith)

module _ (chart : Chart) (p : Scl) where
  abbrev K : Table
  K = table chart

  abbrev P : Numbered
  P = numbered p

  abbrev L : Layout
  L = layout chart P.root

  abbrev most_each : ℕ
  most_each = 2 + label_count P.root

  rank_within : (s : ℕ) → L.rank s ≤ label_count P.root
  rank_within s = hops_within P.root (label_count P.root) (front (L.begin s))

  silent_within : (r : ℕ) (x : Standing) → silent_left K L r x ≤ most_each
  silent_within r (at.Trying s (t ∷ tests)) = by t.trigger
    where
      effects : (es : List Effect) → by_effects K L r t.target es ≤ most_each
      effects [] = let low = rank_within (state_in K r t.target) in omega (low, arith)
      effects (e ∷ es) = omega arith

      by : (o : Option Expr) → by_trigger K L r t o ≤ most_each
      by None = effects t.effects
      by (Some e) = omega arith
  silent_within r (at.Trying s []) = omega arith
  silent_within r at.Outside = omega arith
  silent_within r at.Ended = omega arith
  silent_within r (at.Entering s tests) = omega arith
  silent_within r (at.Guarding s tests) = omega arith
  silent_within r (at.Within s tests) = omega arith
  silent_within r (at.Acting s effects target) = omega arith

  counted_within : (y : Doing) (n : ℕ) → counted K L y n ≤ n
  counted_within Away n = omega arith
  counted_within (Todo todo) n = omega arith
  counted_within (Forked m branches rest) n = omega arith
  counted_within (Resting m rest) n = omega arith
  counted_within (Resuming m rest) n = omega arith
  counted_within Finished n = omega arith

  abbrev pub most_silent : ℕ
  most_silent = total (λ q. most_each) (suc (length K.regions))

  all_silent_within : (c : Configuration) (s : State) → silent_tests K L c s ≤ most_silent
  all_silent_within c s =
      total_within (left_of K L c s) most_each
      (λ q. let less = silent_within q (standing_of c q) in let fewer = counted_within (doing s q) (silent_left K L q (standing_of c q)) in
      omega (less, fewer, arith)) (suc (length K.regions))

  -- with so many steps of threads left
  abbrev pub longest : ℕ → ℕ
  longest zero = 0
  longest (suc n) = suc most_silent + longest n

  module _ (low : IsLowering chart p) where
    lowers : Lowers K P L
    lowers = chart_is_lowered chart p low

    steps : KeepsSteps K P L
    steps = (keeps_runs K P L lowers).steps

    abbrev of_text : Machine
    of_text = text.machine P

    -- after a step of the chart: a thread stepped too, or fewer tests without a trigger are left
    record Goes (c d : Configuration) (s : State) : Type 0 where
      end : State
      corresponds : Corresponds K P L d end
      fewer : ((most : ℕ) → Within of_text most s → (fewer : ℕ) × (most ≡ suc fewer) × Within of_text fewer end)
          ⊎ ((end ≡ s) × (silent_tests K L d s < silent_tests K L c s))

    module _ (c d : Configuration) (s : State) (corr : Corresponds K P L c s) (t : ℕ) (goes : (machine K).step t c ≡ Some d) where
      up : AnswersBy of_text thread_shows s (NoJoin K P L lowers c) (CaughtUp K P L lowers c) []
      up = catch_up K P L lowers c s corr

      one : Answers of_text thread_shows up.answers.end (Corresponds K P L d)
          (shown_acts (move (region_shows c t) (act_of (machine K) c t) ∷ []))
      one = steps.there.step c d up.answers.end t up.answers.good.corresponds goes

      shows_nothing : (b : Bool) → [] ≡ shown_acts (move b (act_of (machine K) c t) ∷ []) → b ≡ false
      shows_nothing false h = refl
      shows_nothing true h = absurd cc

      still : up.answers.end ≡ s → one.end ≡ s → region_shows c t ≡ false → Goes c d s
      still same same_too silent =
          record {
            end = one.end;
            corresponds = one.good;
            fewer = inr (
              same_too,
              subst (λ z. silent_tests K L d z < silent_tests K L c z) same
                  (fewer_silent chart low.core P L lowers c d up.answers.end up.answers.good.corresponds
                  (subst (Corresponds K P L d) (same_too ∙ sym same) one.good) up.answers.good.all t goes silent),
            );
          }

      by_runs : (first second : List ℕ) → up.answers.run ≡ first → one.run ≡ second → Goes c d s
      by_runs (u ∷ first) second is is_too =
          record {
            end = one.end;
            corresponds = one.good;
            fewer = inl (λ most within.
                let less = within_less of_text u first most s up.answers.end (ap (λ run. replay of_text run s) (sym is) ∙ up.answers.runs) within in
                (less.0, less.1, within_on of_text one.run less.0 up.answers.end one.end one.runs less.2));
          }
      by_runs [] (u ∷ second) is is_too =
          let same : s ≡ up.answers.end = same_Some s up.answers.end (ap (λ run. replay of_text run s) (sym is) ∙ up.answers.runs) in
          record {
            end = one.end;
            corresponds = one.good;
            fewer = inl (λ most within.
                within_less of_text u second most up.answers.end one.end (ap (λ run. replay of_text run up.answers.end) (sym is_too) ∙ one.runs)
                (subst (Within of_text most) same within));
          }
      by_runs [] [] is is_too =
          let same : s ≡ up.answers.end = same_Some s up.answers.end (ap (λ run. replay of_text run s) (sym is) ∙ up.answers.runs) in
          let same_too : up.answers.end ≡ one.end =
          same_Some up.answers.end one.end (ap (λ run. replay of_text run up.answers.end) (sym is_too) ∙ one.runs) in
          still (sym same) (sym (same ∙ same_too))
          (shows_nothing (region_shows c t)
          (ap (λ run. shown_acts (moves of_text thread_shows run up.answers.end)) (sym is_too) ∙ one.shown))

      step_goes : Goes c d s
      step_goes = by_runs up.answers.run one.run refl refl

    bounded : (run : List ℕ) (c d : Configuration) (s : State) (most : ℕ) → Corresponds K P L c s → Within of_text most s →
        replay (machine K) run c ≡ Some d → length run ≤ silent_tests K L c s + longest most
    bounded [] c d s most corr within runs = omega arith
    bounded (t ∷ run) c d s most corr within runs =
        let b : FirstStep (machine K) t run c d = begins (machine K) t run c d runs in
        let g : Goes c b.next s = step_goes c b.next s corr t b.steps in
        ⊎_elim
        (λ less.
        let f = less most within in
        let rest = bounded run b.next d g.end f.0 g.corresponds f.2 b.rest in
        let few = all_silent_within b.next g.end in
        let same : longest most ≡ suc most_silent + longest f.0 = ap longest f.1 in
        omega (rest, few, same, arith))
        (λ still.
        let rest = bounded run b.next d g.end most g.corresponds (subst (Within of_text most) (sym still.0) within) b.rest in
        let less = still.1 in
        let same : silent_tests K L b.next g.end ≡ silent_tests K L b.next s = ap (silent_tests K L b.next) still.0 in
        omega (rest, less, same, arith))
        g.fewer

    -- ---- the start of a tick

    module _ (q : Tables) (valid : IsValid (program_of P) q) (inputs : Inputs) (accepted : AreAccepted (program_of P) inputs) (d : Configuration) (e : Control)
        (x : tick_starts.Between chart p q low valid d e) where
      nodes : Keeps P (program_of P)
      nodes = program_keeps_runs p low.rules low.no_loop

      text_within : Within of_text q.budget (text.start P inputs x.state)
      text_within run f runs =
          let in_graph = from_both (StandsInGraph P) (replay of_text run (text.start P inputs x.state)) (replay (graph.machine (program_of P)) run
          (graph_tick.start (program_of P) inputs e)) f
          (nodes.goes_on.runs run (text.start P inputs x.state) (graph_tick.start (program_of P) inputs e)
          (nodes.starts inputs x.state e accepted x.corresponds))
          runs in
          let one : OneEnd (program_of P) q (graph_tick.start (program_of P) inputs e) = one_end_of_tick (program_of P) q e inputs valid x.rests accepted in
          (one.of_each run in_graph.0 in_graph.1).bounded

      pub tick_within : Within (machine K) (most_silent + longest q.budget) (start K inputs d)
      tick_within run f runs =
          let low_tests = all_silent_within (start K inputs d) (text.start P inputs x.state) in
          let rest = bounded run (start K inputs d) f (text.start P inputs x.state) q.budget (steps.starts inputs d x.state x.alike) text_within runs in
          omega (low_tests, rest, arith)
