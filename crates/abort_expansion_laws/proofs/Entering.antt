-- The law of entering: whatever state a transition enters, what follows of it in the core settles.
use Rattle.std.proofs.Common.{◌≡◌, ℕ, Bool, true, false, List, [], ◌∷◌, ◌++◌, refl, subst}
use Rattle.sc_values.specs.declared.value.Value.{Value}
use Rattle.core_charts.specs.declared.region.Effect.{Effect}
use Rattle.chart_machine.specs.declared.standing.Standing.TheVariants as at
use Rattle.chart_machine.specs.declared.standing.Configuration.{Configuration}
use Rattle.chart_machine.specs.declared.table.Table.{Table}
use Rattle.chart_machine.specs.Table.{state_at}
use Rattle.chart_machine.specs.Turns.{standing_of, inside, is_guarded}
use Rattle.chart_machine.specs.Steps.{state_in}
use Rattle.chart_machine.specs.Machine.{machine}
use Rattle.abort_expansion.specs.Superstates.{is_prepared}
use Rattle.chart_machine_laws.specs.Tree.{IsNested, IsThere, around, holder}
use Rattle.abort_expansion_laws.specs.Stages.{Entry}
use Rattle.abort_expansion_laws.specs.StageReached.{Stage}
use Rattle.abort_expansion_laws.specs.CoreRows.{own, IsState, is_final, IsSuper, Images, flags_around, counter_over, pair}
use Rattle.abort_expansion_laws.specs.Related.{Related}
use Rattle.abort_expansion_laws.proofs.Supplying.{climbs_fewer}
use Rattle.abort_expansion_laws.proofs.Segments.{Segment}
use Rattle.abort_expansion_laws.proofs.Owed.{Counts, Enters, chart_enters, core_enters}
use Rattle.abort_expansion_laws.proofs.StartingRegions.{CounterRows}
use Rattle.abort_expansion_laws.proofs.EnteredMonitors.{Unflagged}
use Rattle.abort_expansion_laws.proofs.EnteringSimple.{no_count}
use Rattle.abort_expansion_laws.proofs.JustEntered.{EntryRows}
use Rattle.abort_expansion_laws.proofs.Pending.{Sound, Pending, Reached}
use Rattle.abort_expansion_laws.proofs.Arrives.{Arrives}
use Rattle.abort_expansion_laws.proofs.ArrivedPending.{arrived_pending}
use Rattle.abort_expansion_laws.proofs.ArrivedSound.{arrived_sound}
use Rattle.abort_expansion_laws.proofs.ArrivedStages.{arrived_stages}
use Rattle.abort_expansion_laws.proofs.TargetArrives.{target_arrives}
use Rattle.abort_expansion_laws.proofs.FinalTarget.{final_sound}
use Rattle.abort_expansion_laws.proofs.FinalTargetPending.{final_pending, final_stages}

module _ (k core : Table) (i : Images) (more : EntryRows k core i) (tree : IsNested k) (holds_there : (s : ℕ) → IsState k s → IsThere k (holder k s))
    (nothing_inside : (v : ℕ) → (state_at core v).regions ≡ [] → inside core v ≡ [])
    (no_flags : (u : ℕ) → IsSuper k u → is_prepared (flags_around k core i (holder k u)) (own k u) ≡ false → Unflagged k core i u)
    (counts : ℕ → Bool) (written_at : ℕ → ℕ) (counters : CounterRows k core i more.rows counts written_at)
    (Told : Configuration → Entry → Type 0)
    (settle : (c d : Configuration) → Sound k core i c → Pending k core i c 0 d →
    Segment (machine core) (pair k core i more.rows tree counts written_at) Told d (Reached k core i c d) (Stage k i.thread_of c) []
    (Related k core i c)) where
  abbrev Settles : Configuration → Configuration → Configuration → Configuration → Type 0
  Settles c d next core_next =
      Segment (machine core) (pair k core i more.rows tree counts written_at) Told core_next (Stage k i.thread_of c d) (Stage k i.thread_of next) []
      (Related k core i next)

  from_reached : (c d next core_next : Configuration) → Sound k core i next → Pending k core i next 0 core_next →
      ((h n : ℕ) → Stage k i.thread_of c d h n → Reached k core i next core_next h n) → Settles c d next core_next
  from_reached c d next core_next sound pending stages =
      let g = settle next core_next sound pending in
      record {
        log = g.log;
        last = g.last;
        follows = g.follows;
        charted = g.charted;
        fits = g.fits;
        climbs = λ rest climbs.
            climbs_fewer (pair k core i more.rows tree counts written_at) (Reached k core i next core_next) (Stage k i.thread_of c d) (g.log ++ rest) stages
            (g.climbs rest climbs);
        reaches = g.reaches;
      }

  module _ (c d : Configuration) (related : Related k core i c d) (r s p : ℕ) (e : Effect) (stands : standing_of c r ≡ at.Acting s (e ∷ []) p)
      (free : is_guarded k c (around k r) ≡ false) (values : List Value)
      (counted : Counts k core i (is_final k (state_in k r p)) (counter_over k core i (around k r)) d.variables values) where
    open_target : is_final k (state_in k r p) ≡ false → Settles c d (chart_enters k core i c r p) (core_enters k core i d values r p)
    open_target open_ends =
        let same = no_count k core i (is_final k (state_in k r p)) (counter_over k core i (around k r)) d.variables values open_ends counted in
        let a : Arrives k core i more c d r (chart_enters k core i c r p) (core_enters k core i d values r p) =
        target_arrives k core i more c d related r s p e stands free values open_ends same in
        from_reached c d (chart_enters k core i c r p) (core_enters k core i d values r p)
        (arrived_sound k core i more holds_there nothing_inside c d related r (chart_enters k core i c r p) (core_enters k core i d values r p) a)
        (arrived_pending k core i more holds_there nothing_inside counters.counter_joins no_flags c d related r (chart_enters k core i c r p)
        (core_enters k core i d values r p) a)
        (arrived_stages k core i more holds_there nothing_inside c d related r (chart_enters k core i c r p) (core_enters k core i d values r p) a)

    final_target : is_final k (state_in k r p) ≡ true → Settles c d (chart_enters k core i c r p) (core_enters k core i d values r p)
    final_target final =
        let one_less : Counts k core i true (counter_over k core i (around k r)) d.variables values =
        subst (λ b. Counts k core i b (counter_over k core i (around k r)) d.variables values) final counted in
        from_reached c d (chart_enters k core i c r p) (core_enters k core i d values r p)
        (final_sound k core i more c d related r s p e stands values final)
        (final_pending k core i more holds_there counts written_at counters c d related r s p e stands free values final one_less)
        (final_stages k core i more holds_there counts written_at counters c d related r s p e stands free values final one_less)

    by_target : (b : Bool) → is_final k (state_in k r p) ≡ b → Settles c d (chart_enters k core i c r p) (core_enters k core i d values r p)
    by_target true final = final_target final
    by_target false open_ends = open_target open_ends

  pub enters : Enters k core i more.rows tree counts written_at Told
  enters c d related r s p e stands free values counted =
      by_target c d related r s p e stands free values counted (is_final k (state_in k r p)) refl
