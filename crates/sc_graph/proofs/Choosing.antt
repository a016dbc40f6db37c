-- Tables choose among the runs of a program, and nothing else depends on them.
use Rattle.std.proofs.Common.{ℕ, ◌≡◌, ◌<◌, ◌≤◌, inl, inr, length, Bool, true, false, Option, Some, None, List, [], ◌∷◌, option_map, option_and_then, refl, sym}
use Rattle.std.proofs.Common.{ap, ◌∙◌, arith}
use Rattle.std.proofs.lemmas.Option.{none-some, same_Some, option_and_then_some, slice_get_cases}
use Rattle.std.proofs.lemmas.List.{get_or_past}
use Rattle.sc_values.specs.Runs.{replay}
use Rattle.sc_graph.specs.declared.control.Control.{Control}
use Rattle.sc_graph.specs.declared.control.Status.{Status}
use Rattle.sc_graph.specs.declared.control.Status.TheVariants as status
use Rattle.sc_graph.specs.declared.tables.Tables.{Tables}
use Rattle.sc_graph.specs.declared.program.Step.{Step}
use Rattle.sc_graph.specs.Program.{Program, step_at}
use Rattle.sc_graph.specs.Control.{status_of, status_enabled, IsEnabled, joined_at, all_ended}
use Rattle.sc_graph.specs.Steps.{after, only_if, join_effect, node_effect, status_effect, step}
use Rattle.sc_graph.specs.Machine.{machine}
use Rattle.sc_graph.specs.Tables.{priority, priority_of}
use Rattle.sc_graph.specs.Priority.{HaveOnePriority, Leads, PriorityRun}
use Rattle.sc_graph.proofs.Nodes.{step_within}

only_if_true : {A B : Type 0} (f : A → B) (b : Bool) (o : Option A) (y : B) → option_map f (only_if b o) ≡ Some y → b ≡ true
only_if_true f true o y h = refl
only_if_true f false o y h = absurd (none-some y h)

status_steps : (p : Program) (c : Control) (t : ℕ) (s : Status) (d : Control) → option_map (λ e. after e c) (status_effect p c t s) ≡ Some d
    → status_enabled p c s ≡ true
status_steps p c t status.Absent d h = absurd (none-some d h)
status_steps p c t (status.At n) d h = refl
status_steps p c t (status.Waiting j) d h =
    only_if_true (λ e. after e c) (all_ended c (joined_at p j)) (join_effect p t (joined_at p j) (step_at p j)) d h
status_steps p c t (status.Paused n) d h = absurd (none-some d h)
status_steps p c t status.Ended d h = absurd (none-some d h)

-- a thread that steps is enabled
pub steps_enabled : (p : Program) (t : ℕ) (c d : Control) → step p t c ≡ Some d → IsEnabled p c t
steps_enabled p t c d h = status_steps p c t (status_of c t) d h

-- a priority run is a run
pub priority_replay : (p : Program) (q : Tables) (run : List ℕ) (c d : Control) → PriorityRun p q run c d → replay (machine p) run c ≡ Some d
priority_replay p q [] c d h = ap Some h
priority_replay p q (t ∷ run) c d h = ap (option_and_then (replay (machine p) run)) h.1.1 ∙ priority_replay p q run h.1.0 d h.1.2

-- where all nodes have one priority, no number has a greater one than a node
no_greater : (p : Program) (q : Tables) → HaveOnePriority p q → (m n : ℕ) → n < length p.nodes → priority q m ≤ priority q n
no_greater p q one m n lt =
    let places = one.places in
    elim (slice_get_cases q.priorities m).1 [
      | inl found ↦ (let before = found.1 in
          let same = one.same m n (omega (arith, before, places)) lt in
          omega (arith, same))
      | inr past ↦ (let none = get_or_past q.priorities m 0 past.0 in omega (arith, none))
    ]

joins_none : (p : Program) (t : ℕ) (children : Option (List ℕ)) → join_effect p t children None ≡ None
joins_none p t None = refl
joins_none p t (Some children) = refl

only_none : {A : Type 0} (b : Bool) (o : Option A) → o ≡ None → only_if b o ≡ None
only_none true o is = is
only_none false o is = refl

-- a thread that steps has the priority of a node
has_greatest : (p : Program) (q : Tables) → HaveOnePriority p q → (c : Control) (t : ℕ) (s : Status) (d : Control)
    → option_map (λ e. after e c) (status_effect p c t s) ≡ Some d → (m : ℕ) → priority q m ≤ priority_of q s
has_greatest p q one c t status.Absent d h m = absurd (none-some d h)
has_greatest p q one c t (status.At n) d h m = stands (step_at p n) refl h
  where
    stands : (o : Option Step) → step_at p n ≡ o → option_map (λ e. after e c) (option_and_then (node_effect p c t) o) ≡ Some d → priority q m ≤ priority q n
    stands None is e = absurd (none-some d e)
    stands (Some s) is e = no_greater p q one m n (step_within p n s is)
has_greatest p q one c t (status.Waiting j) d h m = waits (step_at p j) refl h
  where
    waits : (o : Option Step) → step_at p j ≡ o → option_map (λ e. after e c) (only_if (all_ended c (joined_at p j)) (join_effect p t (joined_at p j) o))
        ≡ Some d → priority q m ≤ priority q j
    waits None is e =
        let none = only_none (all_ended c (joined_at p j)) (join_effect p t (joined_at p j) None) (joins_none p t (joined_at p j)) in
        absurd (none-some d (sym (ap (option_map (λ e. after e c)) none) ∙ e))
    waits (Some s) is e = no_greater p q one m j (step_within p j s is)
has_greatest p q one c t (status.Paused n) d h m = absurd (none-some d h)
has_greatest p q one c t status.Ended d h m = absurd (none-some d h)

-- who is enabled has the priority of a number
numbered : (q : Tables) (s : Status) (greatest : ℕ) → ((m : ℕ) → priority q m ≤ greatest) → priority_of q s ≤ greatest
numbered q status.Absent greatest each = omega arith
numbered q (status.At n) greatest each = each n
numbered q (status.Waiting j) greatest each = each j
numbered q (status.Paused n) greatest each = omega arith
numbered q status.Ended greatest each = omega arith

leads : (p : Program) (q : Tables) → HaveOnePriority p q → (c : Control) (t : ℕ) (d : Control) → step p t c ≡ Some d → Leads p q c t
leads p q one c t d h = record {
  enabled = steps_enabled p t c d h;
  greatest = λ u other. numbered q (status_of c u) (priority_of q (status_of c t)) (has_greatest p q one c t (status_of c t) d h);
}

-- where all nodes have one priority, each run is a priority run
pub runs_by_priority : (p : Program) (q : Tables) → HaveOnePriority p q → (run : List ℕ) (c d : Control) → replay (machine p) run c ≡ Some d
    → PriorityRun p q run c d
runs_by_priority p q one [] c d h = same_Some c d h
runs_by_priority p q one (t ∷ run) c d h =
    option_and_then_some (replay (machine p) run) (step p t c) d h (λ mid is rest.
    (leads p q one c t mid is, (mid, is, runs_by_priority p q one run mid d rest)))
