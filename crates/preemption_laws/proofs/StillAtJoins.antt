-- Who waits at a join and waits there no more has stepped; and by steps of threads that wait at no join all who wait stay.
use Rattle.std.proofs.Common.{◌≡◌, ◌≢◌, ℕ, Some, option_and_then, unwrap_or, slice_get, List, [], ◌∷◌, Contains, sym, ap, subst, ◌∙◌, ⊎_elim}
use Rattle.std.proofs.lemmas.Option.{same_Some}
use Rattle.sc_values.specs.Runs.{replay}
use Rattle.sc_graph.specs.declared.control.Control.{Control}
use Rattle.sc_graph.specs.declared.control.Status.TheVariants as status
use Rattle.sc_graph.specs.declared.tables.Tables.{Tables}
use Rattle.sc_graph.specs.Control.{status_of}
use Rattle.sc_graph.specs.Machine as graph
use Rattle.sc_graph.specs.Program.{Program}
use Rattle.sc_graph.specs.Steps.{after}
use Rattle.sc_graph.specs.Steps as nodes
use Rattle.sc_graph.specs.Tick.{IsConfiguration}
use Rattle.sc_graph.specs.Valid.{IsFormed, IsValid}
use Rattle.scl.specs.declared.program.Scl.{Scl}
use Rattle.scl.specs.Meaning.{State, doing}
use Rattle.scl.specs.Meaning as text
use Rattle.scl.specs.Numbering.{Numbered, numbered}
use Rattle.scl_graph.specs.Graph.{program_of}
use Rattle.scl_graph_laws.specs.Keeps.{Keeps}
use Rattle.scl_graph_laws.specs.Keeps.{Corresponds as StandsInGraph}
use Rattle.scl_graph_laws.specs.Standing.{standing}
use Rattle.scl_graph_laws.proofs.Alike.{from_both}
use Rattle.tick_laws.proofs.ConfigurationKept.{after_other, configuration_kept}
use Rattle.tick_laws.proofs.Formed.{valid_formed}
use Rattle.tick_laws.proofs.Lists.{and_then_some, contained, contains_head, contains_tail}
use Rattle.tick_laws.proofs.RunsOn.{SteppedBy, stepped_by}
use Rattle.tick_laws.proofs.StepMoves.{StepMoves, step_moves}
use Rattle.tick_laws.proofs.Views.{does}
use Rattle.tick_laws.proofs.WithinTick.{laws_within_tick}
use Rattle.chart_lowering_laws.specs.Follows.{EachMay, HoldsAfter}
use Rattle.chart_lowering_laws.specs.Keeps.{IsForked}
use Rattle.chart_machine_laws.proofs.LyingIn.{head_or_tail, none_in}
use Rattle.compiled_charts_laws.proofs.StepsFollowed.{waits_forked, standing_in}
use Rattle.preemption_laws.proofs.ByRank.{Begins, begins}

-- ---- who waits is moved by nobody else

module _ (p : Program) (formed : IsFormed p) (h j : ℕ) where
  pub still_waits : (run : List ℕ) (m n : Control) → IsConfiguration p m → replay (graph.machine p) run m ≡ Some n → ¬ Contains run h →
      status_of m h ≡ status.Waiting j → status_of n h ≡ status.Waiting j
  still_waits [] m n ok leads out waits = ap (λ z. status_of z h) (sym (same_Some m n leads)) ∙ waits
  still_waits (t ∷ run) m n ok leads out waits =
      let mid = and_then_some (replay (graph.machine p) run) (nodes.step p t m) n leads in
      let s : SteppedBy p t m mid.0 = stepped_by p t m mid.0 mid.1 in
      let moves : StepMoves p m t s.e = step_moves p formed m ok t s.e (does p m t s.e s.is) in
      let still : status_of (after s.e m) h ≡ status.Waiting j =
      after_other p formed m t s.e moves h (λ same. out (subst (Contains (t ∷ run)) (sym same) (contains_head t run)))
      (λ child. moves.was_idle h j child waits) ∙ waits in
      still_waits run mid.0 n (subst (IsConfiguration p) s.leads (configuration_kept p formed m t s.e ok s.is)) mid.2
      (λ has. out (contains_tail t h run has)) (subst (λ z. status_of z h ≡ status.Waiting j) s.leads still)

  pub has_stepped : (run : List ℕ) (m n : Control) → IsConfiguration p m → replay (graph.machine p) run m ≡ Some n → status_of m h ≡ status.Waiting j →
      status_of n h ≢ status.Waiting j → Contains run h
  has_stepped run m n ok leads waits gone = ⊎_elim (λ has. has) (λ out. absurd (gone (still_waits run m n ok leads out waits))) (contained run h)

-- ---- a run of a text by threads that wait at no join, in the graph

module _ (p : Scl) (q : Tables) (valid : IsValid (program_of (numbered p)) q) (kept : Keeps (numbered p) (program_of (numbered p))) where
  abbrev P : Numbered
  P = numbered p

  abbrev G : Program
  G = program_of P

  -- who steps waits at no join
  abbrev pub StepsAwake : ℕ → State → Type 0
  StepsAwake t s = ¬ IsForked (doing s t)

  -- a shorter run does not move who waits
  abbrev Later : List ℕ → State → (u j : ℕ) → Type 0
  Later run last u j =
      (e : State) (f : Control) → StandsInGraph P e f → IsConfiguration G f → replay (text.machine P) run e ≡ Some last →
      EachMay (text.machine P) StepsAwake run e → Contains run u → status_of f u ≢ status.Waiting j

  pub none_waiting : (run : List ℕ) (s last : State) (m : Control) → StandsInGraph P s m → IsConfiguration G m → replay (text.machine P) run s ≡ Some last →
      EachMay (text.machine P) StepsAwake run s → (u j : ℕ) → Contains run u → status_of m u ≢ status.Waiting j
  none_waiting [] s last m x ok leads each u j inside waits = none_in u inside
  none_waiting (v ∷ run) s last m x ok leads each u j inside waits = ⊎_elim (λ same. now (sym same))
      (tail (λ e f y kept_too goes may later. none_waiting run e last f y kept_too goes may u j later)) (head_or_tail v u run inside)
    where
      now : u ≡ v → ⊥
      now same = each.0 (subst (λ z. IsForked (doing s z)) same (waits_forked (doing s u) j (sym stands ∙ waits)))
        where
          stands : status_of m u ≡ standing (doing s u)
          stands = ap (λ z. unwrap_or (slice_get z u) status.Absent) x.statuses ∙ standing_in s.threads u

      tail : Later run last u j → Contains run u → ⊥
      tail further later =
          let b : Begins (text.machine P) v run s last = begins (text.machine P) v run s last leads in
          let f : (f : Control) × (replay (graph.machine G) (v ∷ []) m ≡ Some f) × StandsInGraph P b.next f = from_both (StandsInGraph P)
          (replay (text.machine P) (v ∷ []) s) (replay (graph.machine G) (v ∷ []) m) b.next (kept.goes_on.runs (v ∷ []) s m x)
          (ap (option_and_then (replay (text.machine P) [])) b.steps) in
          let rest : EachMay (text.machine P) StepsAwake run b.next =
          subst (HoldsAfter (text.machine P) (EachMay (text.machine P) StepsAwake run)) b.steps each.1 in
          let gone : status_of f.0 u ≢ status.Waiting j =
          further b.next f.0 f.2 ((laws_within_tick G q valid).kept (v ∷ []) m f.0 ok f.1) b.rest rest later in
          ⊎_elim (λ same. now (sym same)) (λ none. none_in u none)
          (head_or_tail v u [] (has_stepped G (valid_formed G q valid) u j (v ∷ []) m f.0 ok f.1 waits gone))
