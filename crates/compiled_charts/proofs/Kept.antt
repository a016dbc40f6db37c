-- The ticks of a compiled chart are the reactions of its chart.
use Rattle.std.proofs.Common.{ℕ, zero, suc, ◌≡◌, Option, List, [], ◌∷◌, length, take}
use Rattle.std.proofs.Common.{Result, Ok, Err, IfOk, refl, sym, ap, subst, ◌∙◌, arith}
use Rattle.std.proofs.Math.Logic.{∥∥₁_map}
use Rattle.sc_text.proofs.EachItem.{Each}
use Rattle.sc_values.specs.Runs.{Ends}
use Rattle.sc_graph.specs.declared.control.Control.{Control}
use Rattle.sc_graph.specs.Machine.{machine}
use Rattle.sc_graph.specs.Program.{Program}
use Rattle.sc_graph.specs.Tick.{Inputs, AreAccepted, initial, start}
use Rattle.sc_graph.specs.Valid.{IsValid}
use Rattle.core_charts.specs.declared.features.Features.TheVariants as features
use Rattle.core_charts.specs.Chart.{Chart}
use Rattle.core_charts.specs.Rules.{IsChart}
use Rattle.chart_machine.specs.declared.standing.Configuration.{Configuration}
use Rattle.chart_machine.specs.Table.{table}
use Rattle.chart_machine.specs.Machine as chart
use Rattle.scl.specs.Numbering.{numbered}
use Rattle.scl.specs.Rules.{KeepsRules}
use Rattle.scl_graph.specs.Graph.{program_of}
use Rattle.abort_expansion.specs.Expansion.{expanded}
use Rattle.chart_lowering_laws.specs.Keeps.{Reaction, EachPair}
use Rattle.chart_lowering_laws.specs.Laws.{IsLowering}
use Rattle.chart_lowering_laws.specs.Marks.{layout}
use Rattle.bytecode.specs.Image.{Image}
use Rattle.compiler.specs.Charts.{IsImageOfChart}
use Rattle.node_states.specs.Active.{is_active, numbers_where}
use Rattle.node_states.specs.Nodes.{state_of_node, state_count}
use Rattle.node_states.specs.StandsFor.{stands_for}
use Rattle.tick_core.specs.State.{threads_of}
use Rattle.worker_pool.specs.Ticks.{IsTick}
use Rattle.compiled_charts_laws.specs.Nodes.{StandForStates}
use Rattle.compiled_charts_laws.specs.Reactions.{AllAccepted, IsReactionOfChart, HasOneReaction}
use Rattle.compiled_charts_laws.specs.Reactions.{AreSeenAlike as AreSeenAlikeBy}
use Rattle.compiled_charts_laws.proofs.Ticks.{one_reaction}
use Rattle.compiled_charts_laws.proofs.Told.{nodes_stand}
use Rattle.abort_expansion_laws.specs.Preemption.{HasImage}
use Rattle.abort_expansion_laws.specs.Ticks.{AllOf}
use Rattle.preemption_laws.proofs.RanksOfCharts.{charts_react}
use Rattle.preemption_laws.specs.Reacts.{ReactsInOneWay}
use Rattle.preemption_laws.proofs.Proved.{kept as kept_by_core}
use Rattle.compiled_charts.specs.Ticks.{AreTicks}
use Rattle.compiled_charts.specs.Compiled.{CompiledChart}
use Rattle.compiled_charts.specs.Kept.{AreSeenAlike, IsReactionSeen, Reacts, ShowsItsReaction}
use Rattle.compiled_charts.proofs.ActiveStates.{same_numbers}
use Rattle.compiled_charts.proofs.KeptCharts.{kept_shown, chart_reacts, chart_only}

-- ---- ticks

-- ticks are a reaction of the program to accepted inputs
record AreReaction (image : Image) (ticks : List Inputs) (c : Control) (controls : List Control) : Type 0 where
  accepted : AllAccepted image.program ticks
  reacts : Reaction (machine image.program) (start image.program) c ticks controls
  long : Each (λ d. length d.variables ≡ length image.program.variables) controls

are_reaction : (image : Image) (ticks : List Inputs) (c : Control) (controls : List Control) → AreTicks image ticks c controls →
    AreReaction image ticks c controls
are_reaction image [] c [] h = record { accepted = tt; reacts = tt; long = tt }
are_reaction image (inputs ∷ ticks) c (d ∷ ds) h =
    let tick : IsTick image inputs c d h.0.0 = h.0.1 in
    let more : AreReaction image ticks d ds = are_reaction image ticks d ds h.1 in
    let ends : Ends (machine image.program) (start image.program inputs c) d = record {
      run = threads_of h.0.0.history;
      complete = tick.whole.complete;
      admissible = tick.whole.admissible;
    } in
    record {
      accepted = (tick.accepted, more.accepted);
      reacts = (ends, more.reacts);
      long = (tick.rests.configuration.values, more.long);
    }
are_reaction image [] c (d ∷ ds) h = absurd h
are_reaction image (inputs ∷ ticks) c [] h = absurd h

-- ---- what is seen

take_all : {A : Type 0} (xs : List A) (n : ℕ) → length xs ≡ n → take n xs ≡ xs
take_all [] zero h = refl
take_all [] (suc n) h = absurd cc
take_all (x ∷ xs) zero h = absurd cc
take_all (x ∷ xs) (suc n) h = ap (λ ys. x ∷ ys) (take_all xs n (let one : suc (length xs) ≡ suc n = h in omega (arith, one)))

module _ (c : Chart) (nodes : List (Option ℕ)) (states : ℕ) (many : states ≡ length (table c).states) where
  seen : (d : Configuration) (control : Control) → length control.variables ≡ length c.variables → AreSeenAlikeBy (table c) nodes d control →
      AreSeenAlike c nodes states d control
  seen d control long alike = record {
    variables = take_all control.variables (length c.variables) long ∙ alike.variables;
    active =
        ap (λ n. numbers_where (is_active nodes control) 0 n) many
        ∙ same_numbers (is_active nodes control) (chart.is_active (table c) d) 0 (length (table c).states)
        (λ m low high. alike.active m (omega (arith, high)));
  }

  all_seen : (ds : List Configuration) (controls : List Control) → Each (λ e. length e.variables ≡ length c.variables) controls →
      EachPair (AreSeenAlikeBy (table c) nodes) ds controls → EachPair (AreSeenAlike c nodes states) ds controls
  all_seen [] [] long alike = tt
  all_seen (d ∷ ds) (e ∷ es) long alike = (seen d e long.0 alike.0, all_seen ds es long.1 alike.1)
  all_seen [] (e ∷ es) long alike = absurd alike
  all_seen (d ∷ ds) [] long alike = absurd alike

  shows : (image : Image) → length image.program.variables ≡ length c.variables → HasOneReaction c nodes image.program → (ticks : List Inputs)
      (controls : List Control) → AreTicks image ticks (initial image.program) controls → IsReactionSeen c nodes states ticks controls
  shows image long one ticks controls are =
      let r : AreReaction image ticks (initial image.program) controls = are_reaction image ticks (initial image.program) controls are in
      let each_long : Each (λ e. length e.variables ≡ length c.variables) controls =
      subst (λ n. Each (λ e. length e.variables ≡ n) controls) long r.long in
      let from : IsReactionOfChart c nodes ticks controls = one.some ticks controls r.accepted r.reacts in
      record {
        each = λ ends reacts. all_seen ends controls each_long (one.each ticks ends controls r.accepted reacts r.reacts);
        some = (from.ends, from.reacts);
      }

-- ---- compiled charts

module _ (c : Chart) (image : Image) (is : IsImageOfChart c image) (kept : KeepsRules is.scl.name is.scl.variables is.scl.body) (ticks : List Inputs)
    (controls : List Control) (are : AreTicks image ticks (initial image.program) controls) where
  abbrev core : Chart
  core = expanded c

  low : IsLowering core is.scl
  low = record { core = is.lowers.core; rules = kept; variables = is.lowers.declared; body = is.lowers.body; no_loop = is.image_of.graph.no_loop }

  valid : IsValid (program_of (numbered is.scl)) image.tables
  valid = subst (λ p. IsValid p image.tables) is.image_of.graph.is is.image_of.valid

  long : length image.program.variables ≡ length core.variables
  long = ap (λ (p : Program). length p.variables) is.image_of.graph.is ∙ ap length is.lowers.declared

  abbrev Stand : List (Option ℕ) → Type 0
  Stand nodes = StandForStates (table core) (numbered is.scl).root (layout core (numbered is.scl).root) nodes

  one : (nodes : List (Option ℕ)) → Stand nodes → HasOneReaction core nodes image.program
  one nodes stands = subst (λ p. HasOneReaction core nodes p) (sym is.image_of.graph.is) (one_reaction core is.scl image.tables low valid nodes stands)

  own : Stand (state_of_node core)
  own = nodes_stand core is.scl low

  core_shown : IsReactionSeen core (state_of_node core) (length (table core).states) ticks controls
  core_shown = shows core (state_of_node core) (length (table core).states) refl image long (one (state_of_node core) own) ticks controls are

  -- the chart is kept by its core chart
  has_image : HasImage c
  has_image = record {
    scl = is.scl;
    declared = is.lowers.declared;
    body = is.lowers.body;
    program = image.program;
    graph = is.image_of.graph;
    tables = image.tables;
    valid = is.image_of.valid;
  }

  accepted : AllAccepted image.program ticks
  accepted = (are_reaction image ticks (initial image.program) controls are).accepted

  one_way : IsChart features.Extended c → (inputs : List Inputs) → AllOf (AreAccepted image.program) inputs → ReactsInOneWay c inputs
  unfolding has_image
  one_way rules inputs accepted = charts_react c rules has_image low inputs accepted

  some_reaction : IsChart features.Extended c → (ends : List Configuration) × Reacts c ticks ends
  some_reaction rules = chart_reacts c rules image.program (one_way rules) ticks accepted

  in_one_way : IsChart features.Extended c → (ds es : List Configuration) → Reacts c ticks ds → Reacts c ticks es → ds ≡ es
  in_one_way rules ds es first second = chart_only c rules image.program (one_way rules) ticks accepted ds es first second

  chart_shown : IsChart features.Extended c → IsReactionSeen c (stands_for c) (state_count c) ticks controls
  unfolding has_image
  chart_shown rules =
      let r : AreReaction image ticks (initial image.program) controls = are_reaction image ticks (initial image.program) controls are in
      record {
        each = kept_shown c rules image.program (kept_by_core c rules has_image low) ticks controls r.accepted
            (λ ends reacts. (one (state_of_node core) own).each ticks ends controls r.accepted reacts r.reacts);
        some = some_reaction rules;
      }

pub shows_its_reaction : (x : CompiledChart) (ticks : List Inputs) (controls : List Control) → AreTicks x.image ticks (initial x.image.program) controls →
    ShowsItsReaction x ticks controls
shows_its_reaction x ticks controls are c is = ∥∥₁_map is.image.lowers.rules (λ kept. record {
  core = core_shown c x.image is.image kept ticks controls are;
  chart =
      subst (λ nodes. IsReactionSeen c nodes x.states ticks controls) (sym is.nodes)
      (subst (λ states. IsReactionSeen c (stands_for c) states ticks controls) (sym is.states)
      (chart_shown c x.image is.image kept ticks controls are is.rules));
  only = λ ds es first second. in_one_way c x.image is.image kept ticks controls are is.rules ds es first second;
})

-- ticks that were run show it
pub run_shows : {E : Type 0} (x : CompiledChart) (ticks : List Inputs) (r : Result (List Control) E) →
    IfOk r (AreTicks x.image ticks (initial x.image.program)) → IfOk r (ShowsItsReaction x ticks)
run_shows x ticks (Ok controls) are = shows_its_reaction x ticks controls are
run_shows x ticks (Err fault) are = tt
