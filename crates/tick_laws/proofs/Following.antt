-- A run by its threads and the same run by its steps; and that each priority run is in order.
use Rattle.std.proofs.Common.{◌≡◌, ◌≢◌, ℕ, ◌<◌, ◌≤◌, List, [], ◌∷◌, Some, refl, sym, ap, subst, subst₂, ◌∙◌, arith}
use Rattle.std.proofs.lemmas.Option.{same_Some}
use Rattle.sc_values.specs.Access.{MayPrecede}
use Rattle.sc_values.specs.Runs.{replay, Act, act_of, acts_after, acts}
use Rattle.sc_values.proofs.Order.{EachIsOpen, Clear, Orderly}
use Rattle.sc_graph.specs.declared.control.Control.{Control}
use Rattle.sc_graph.specs.declared.tables.Tables.{Tables}
use Rattle.sc_graph.specs.Program.{Program, owner_of}
use Rattle.sc_graph.specs.Threads.{ForkedApart}
use Rattle.sc_graph.specs.Accesses.{accesses}
use Rattle.sc_graph.specs.Control.{status_of, access_at}
use Rattle.sc_graph.specs.Steps.{Effect, after, effect, step}
use Rattle.sc_graph.specs.Machine.{machine}
use Rattle.sc_graph.specs.Tables.{priority, priority_of}
use Rattle.sc_graph.specs.Priority.{PriorityRun}
use Rattle.sc_graph.specs.Tick.{IsConfiguration}
use Rattle.sc_graph.specs.Valid.{IsValid}
use Rattle.tick_laws.specs.WithinTick.{Tops}
use Rattle.tick_laws.proofs.Lists.{map_some, and_then_some}
use Rattle.tick_laws.proofs.Formed.{valid_formed}
use Rattle.tick_laws.proofs.Views.{Enabled, enabled_from, enabled_from_effect}
use Rattle.tick_laws.proofs.EnabledPairs.{no_clash, edge_falls, StepsFrom, steps_from}
use Rattle.tick_laws.proofs.Kin.{apart_turned}
use Rattle.tick_laws.proofs.ConfigurationKept.{configuration_kept}
use Rattle.tick_laws.proofs.Falling.{low_kept}
use Rattle.tick_laws.proofs.RunsOn.{SteppedBy, stepped_by, effect_steps, priority_replay}
use Rattle.tick_laws.proofs.Confluent.{Follows, threads_of}

-- the first step of a run, by its effect
pub record Begins (p : Program) (t : ℕ) (run : List ℕ) (c d : Control) : Type 0 where
  pub first : Effect
  pub is : effect p c t ≡ Some first
  pub rest : replay (machine p) run (after first c) ≡ Some d

pub begins : (p : Program) (t : ℕ) (run : List ℕ) (c d : Control) → replay (machine p) (t ∷ run) c ≡ Some d → Begins p t run c d
begins p t run c d h =
    let mid = and_then_some (replay (machine p) run) (step p t c) d h in
    let one = map_some (λ e. after e c) (effect p c t) mid.0 mid.1 in
    record { first = one.0; is = one.1; rest = ap (replay (machine p) run) one.2 ∙ mid.2 }

later_acts : (p : Program) (run : List ℕ) (c : Control) (t : ℕ) (e : Effect) → effect p c t ≡ Some e →
    acts_after (machine p) (acts (machine p) run) (step p t c) ≡ acts (machine p) run (after e c)
later_acts p run c t e h = ap (acts_after (machine p) (acts (machine p) run)) (effect_steps p t c e h)

-- the steps of a run lead where the run leads
pub follows_run : (p : Program) (run : List ℕ) (c d : Control) → replay (machine p) run c ≡ Some d → Follows p (acts (machine p) run c) c d
follows_run p [] c d h = same_Some c d h
follows_run p (t ∷ run) c d h =
    let b : Begins p t run c d = begins p t run c d h in (
      b.first,
      record { effect = b.is; access = refl },
      subst (λ log. Follows p log (after b.first c) d) (sym (later_acts p run c t b.first b.is)) (follows_run p run (after b.first c) d b.rest),
    )

-- and are of its threads
pub threads_acts : (p : Program) (run : List ℕ) (c d : Control) → replay (machine p) run c ≡ Some d → threads_of (acts (machine p) run c) ≡ run
threads_acts p [] c d h = refl
threads_acts p (t ∷ run) c d h =
    let b : Begins p t run c d = begins p t run c d h in
    ap (λ l. t ∷ l) (ap threads_of (later_acts p run c t b.first b.is) ∙ threads_acts p run (after b.first c) d b.rest)

module _ (p : Program) (q : Tables) (valid : IsValid p q) where
  -- a step from a node may precede each that is forked apart from it and has no greater priority
  may_precede : (m n t u a : ℕ) → owner_of p m ≡ Some t → owner_of p n ≡ Some u → ForkedApart p t u a → priority q n ≤ priority q m
      → MayPrecede (accesses p m) (accesses p n)
  may_precede m n t u a of_m of_n apart low =
      record {
        no_order = λ before.
            let less : priority q m < priority q n = edge_falls p q valid n m u t a of_n of_m (apart_turned p t u a apart) before in
            absurd (omega arith);
        no_clash = no_clash p q valid m n t u a of_m of_n apart;
      }

  clear_here : (t n : ℕ) (m : Act) → m.thread ≡ t → owner_of p n ≡ Some t → m.access ≡ accesses p n → (u : ℕ) → (c : Control) → (from : StepsFrom p q c u)
      → priority_of q (status_of c u) ≤ priority q n →
      (a : ℕ) → ForkedApart p m.thread u a → MayPrecede m.access (access_at p (status_of c u))
  clear_here t n m thread owned access u c from low a apart =
      subst₂ MayPrecede (sym access) (sym from.access)
      (may_precede n from.node t u a owned from.owned (subst (λ v. ForkedApart p v u a) thread apart) (subst (λ k. k ≤ priority q n) from.priority low))

  -- a step of the greatest priority may precede all that follow
  clear_leader : (t n : ℕ) (m : Act) → m.thread ≡ t → owner_of p n ≡ Some t → m.access ≡ accesses p n → (IsOpen : ℕ → Type 0) →
      (run : List ℕ) (c d : Control) → IsConfiguration p c → Tops p q (priority q n) c → replay (machine p) run c ≡ Some d
      → Clear (ForkedApart p) m IsOpen (acts (machine p) run c)
  clear_leader t n m thread owned access IsOpen [] c d ok low h = tt
  clear_leader t n m thread owned access IsOpen (u ∷ run) c d ok low h =
      let b : Begins p u run c d = begins p u run c d h in
      let here : Enabled p c u = enabled_from_effect p c u b.first b.is in (
        λ a apart is_open. clear_here t n m thread owned access u c (steps_from p q valid c ok u here) (low u (enabled_from p c u here)) a apart,
        subst (Clear (ForkedApart p) m (λ a. IsOpen a × (u ≢ a))) (sym (later_acts p run c u b.first b.is))
            (clear_leader t n m thread owned access (λ a. IsOpen a × (u ≢ a)) run (after b.first c) d
            (configuration_kept p (valid_formed p q valid) c u b.first ok b.is) (low_kept p q valid (priority q n) c ok u b.first b.is low) b.rest),
      )

  -- a priority run is in order, complete or not
  pub orderly_priority : (run : List ℕ) (c d : Control) → IsConfiguration p c → PriorityRun p q run c d → Orderly (ForkedApart p) (acts (machine p) run c)
  orderly_priority [] c d ok h = tt
  orderly_priority (t ∷ run) c d ok h =
      let by : SteppedBy p t c h.1.0 = stepped_by p t c h.1.0 h.1.1 in
      let here : Enabled p c t = enabled_from_effect p c t by.e by.is in
      let from : StepsFrom p q c t = steps_from p q valid c ok t here in
      let rest : PriorityRun p q run (after by.e c) d = subst (λ b. PriorityRun p q run b d) (sym by.leads) h.1.2 in
      let ok_after : IsConfiguration p (after by.e c) = configuration_kept p (valid_formed p q valid) c t by.e ok by.is in
      let low : Tops p q (priority q from.node) c = λ u on. subst (λ k. priority_of q (status_of c u) ≤ k) from.priority (h.0.greatest u on) in (
        subst (Clear (ForkedApart p) (act_of (machine p) c t) EachIsOpen) (sym (later_acts p run c t by.e by.is))
            (clear_leader t from.node (act_of (machine p) c t) refl from.owned from.access EachIsOpen run (after by.e c) d ok_after
            (low_kept p q valid (priority q from.node) c ok t by.e by.is low) (priority_replay p q run (after by.e c) d rest)),
        subst (Orderly (ForkedApart p)) (sym (later_acts p run c t by.e by.is)) (orderly_priority run (after by.e c) d ok_after rest),
      )
