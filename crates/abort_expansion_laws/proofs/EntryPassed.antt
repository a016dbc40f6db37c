-- The last strong abort of a superstate on entry is not taken: the chart opens the superstate, its core prepares it and follows.
use Rattle.std.proofs.Common.{◌≡◌, ℕ, Bool, true, false, Some, None, [], ◌∷◌, length, sym, ap, subst, ◌∙◌, arith}
use Rattle.std.proofs.lemmas.Option.{same_Some}
use Rattle.sc_values.specs.Runs.{act_of}
use Rattle.core_charts.specs.declared.region.Transition.{Transition}
use Rattle.chart_machine.specs.declared.standing.Standing.TheVariants as at
use Rattle.chart_machine.specs.declared.standing.Configuration.{Configuration}
use Rattle.chart_machine.specs.declared.table.Table.{Table}
use Rattle.chart_machine.specs.Table.{state_at}
use Rattle.chart_machine.specs.Turns.{standing_of, inside, is_guarded}
use Rattle.chart_machine.specs.Steps.{after, verdict, entering_on, change_of, step, access_of, access_of_trigger}
use Rattle.chart_machine.specs.Machine.{machine}
use Rattle.abort_expansion.specs.Flags.{has_join}
use Rattle.abort_expansion.specs.Transitions.{go, led_by}
use Rattle.abort_expansion.specs.Superstates.{is_prepared, resets}
use Rattle.chart_machine_laws.specs.Tree.{IsThere, around, holder}
use Rattle.abort_expansion_laws.specs.CoreRows.{own, IsState, IsSuper, Images, flags_around}
use Rattle.abort_expansion_laws.specs.Related.{Related}
use Rattle.abort_expansion_laws.specs.Stages.{Entry, Image, Correspondence}
use Rattle.abort_expansion_laws.proofs.Segments.{Segment, segment_on}
use Rattle.abort_expansion_laws.proofs.MoreValues.{verdict_over_more}
use Rattle.abort_expansion_laws.proofs.Unchanged.{never_guarded}
use Rattle.abort_expansion_laws.proofs.StageReached.{Stage}
use Rattle.abort_expansion_laws.proofs.ImageSteps.{pair}
use Rattle.abort_expansion_laws.proofs.KnownVariables.{Stepped, stepped, trigger_known}
use Rattle.abort_expansion_laws.proofs.TestFails.{tested_is, fails}
use Rattle.abort_expansion_laws.proofs.Pending.{Sound, Pending, Reached}
use Rattle.abort_expansion_laws.proofs.EnteredMonitors.{Unflagged}
use Rattle.abort_expansion_laws.proofs.JustEntered.{EntryRows}
use Rattle.abort_expansion_laws.proofs.ArrivedSound.{arrived_sound}
use Rattle.abort_expansion_laws.proofs.ArrivedPending.{arrived_pending}
use Rattle.abort_expansion_laws.proofs.ArrivedSteps.{arrived_step}
use Rattle.abort_expansion_laws.proofs.EntryArrives.{thread, next, core_next, entry_arrives}

module _ (k core : Table) (i : Images) (more : EntryRows k core i) (holds_there : (s : ℕ) → IsState k s → IsThere k (holder k s))
    (alone : (v : ℕ) → (state_at core v).regions ≡ [] → inside core v ≡ []) (counts : ℕ → Bool) (written_at : ℕ → ℕ)
    (counter_joins : (s x : ℕ) → (i.flags_of s).counter ≡ Some x → has_join (own k s) ≡ true)
    (unflagged : (u : ℕ) → IsSuper k u → is_prepared (flags_around k core i (holder k u)) (own k u) ≡ false → Unflagged k core i u)
    (Told : Configuration → Entry → Type 0)
    (settle : (c d : Configuration) → Sound k core i c → Pending k core i c 0 d →
    Segment (machine core) (pair k core i more.rows more.tree.nested counts written_at) Told d (Reached k core i c d) (Stage k i.thread_of c) []
    (Related k core i c))
    (c d : Configuration) (related : Related k core i c d) (q s : ℕ) (t : Transition) (stands : standing_of c q ≡ at.Entering s (t ∷ []))
    (free : is_guarded k c (around k q) ≡ false) (false_there : verdict c.variables t.trigger ≡ Some false) where
  abbrev corr : Correspondence
  corr = pair k core i more.rows more.tree.nested counts written_at

  abbrev opened : Configuration
  opened = next k core i more c d related q s t stands free

  abbrev preparing : Configuration
  preparing = core_next k core i more c d related q s t stands free

  core_stands : standing_of d (i.thread_of q) ≡ at.Trying (i.entry_of s) (led_by (i.places_of q) t.trigger t ∷
      go true None (resets (i.flags_of s) (length (state_at k s).regions)) (thread k core i more c d related q s t stands free).fork ∷ [])
  core_stands = (thread k core i more c d related q s t stands free).is

  steps : step core (i.thread_of q) d ≡ Some preparing
  steps =
      fails core d (i.thread_of q) (i.entry_of s) (led_by (i.places_of q) t.trigger t)
      (go true None (resets (i.flags_of s) (length (state_at k s).regions)) (thread k core i more c d related q s t stands free).fork ∷ [])
      (never_guarded k core i more.rows c d related (around core (i.thread_of q))) core_stands
      (subst (λ vs. verdict vs t.trigger ≡ Some false) (sym related.variables) (verdict_over_more related.more c.variables t.trigger false false_there))

  image : Told d (Image q (access_of_trigger t.trigger)) →
      Segment (machine core) corr Told d (Stage k i.thread_of c d) (λ e. Reached k core i opened preparing) (act_of (machine k) c q ∷ [])
      (λ e. e ≡ preparing)
  image told =
      arrived_step k core i more holds_there alone counts written_at Told c d related q opened preparing
      (entry_arrives k core i more c d related q s t stands free) (access_of_trigger t.trigger) (ap access_of stands) (ap access_of core_stands)
      (λ x touches. let lt = trigger_known c.variables t.trigger false false_there x touches in omega (lt, related.values, arith)) steps told

  settled_then : Segment (machine core) corr Told preparing (Reached k core i opened preparing) (Stage k i.thread_of opened) [] (Related k core i opened)
  settled_then =
      settle opened preparing
      (arrived_sound k core i more holds_there alone c d related q opened preparing (entry_arrives k core i more c d related q s t stands free))
      (arrived_pending k core i more holds_there alone counter_joins unflagged c d related q opened preparing
      (entry_arrives k core i more c d related q s t stands free))

  passed : Told d (Image q (access_of_trigger t.trigger)) →
      Segment (machine core) corr Told d (Stage k i.thread_of c d) (Stage k i.thread_of opened) (act_of (machine k) c q ∷ []) (Related k core i opened)
  passed told =
      let first = image told in
      segment_on (machine core) corr Told d (Stage k i.thread_of c d) (λ e. Reached k core i opened preparing) (Stage k i.thread_of opened)
      (act_of (machine k) c q ∷ []) [] (λ e. e ≡ preparing) (Related k core i opened) first
      (subst (λ e. Segment (machine core) corr Told e (Reached k core i opened preparing) (Stage k i.thread_of opened) [] (Related k core i opened))
      (sym first.reaches) settled_then)

  -- the whole of it
  pub entry_passed : Told d (Image q (access_of_trigger t.trigger)) → (last : Configuration) → step k q c ≡ Some last →
      Segment (machine core) corr Told d (Stage k i.thread_of c d) (Stage k i.thread_of last) (act_of (machine k) c q ∷ []) (Related k core i last)
  entry_passed told last chart_steps =
      let parts : Stepped k q c last = stepped k q c last chart_steps in
      let change : record { write = None; moves = entering_on k q s [] } ≡ parts.change =
      same_Some _ parts.change (sym (ap (change_of k c q) stands ∙ tested_is k c q s t (entering_on k q s []) false false_there) ∙ parts.does) in
      let is : opened ≡ last = ap (λ w. after w c) change ∙ parts.is in
      subst (λ w. Segment (machine core) corr Told d (Stage k i.thread_of c d) (Stage k i.thread_of w) (act_of (machine k) c q ∷ []) (Related k core i w)) is
      (passed told)
