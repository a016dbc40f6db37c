-- A region is to enter a state: its thread's step is followed to where what stands for the state is entered, final or not, as
-- if the region stood before a last effect; and from there by the law of entering.
use Rattle.std.proofs.Common.{◌≡◌, ℕ, ◌<◌, Bool, true, false, Option, Some, None, List, [], ◌∷◌, length, slice_get, slice_set, unwrap_or, Contains}
use Rattle.std.proofs.Common.{refl, sym, ap, subst, ◌∙◌}
use Rattle.sc_values.specs.declared.value.Value.{Value}
use Rattle.sc_values.specs.Access.{Access}
use Rattle.sc_values.specs.Runs.{Act}
use Rattle.core_charts.specs.declared.region.Effect.{Effect}
use Rattle.core_charts.specs.declared.region.Transition.{Transition}
use Rattle.chart_machine.specs.declared.standing.Standing.{Standing}
use Rattle.chart_machine.specs.declared.standing.Standing.TheVariants as at
use Rattle.chart_machine.specs.declared.standing.Configuration.{Configuration}
use Rattle.chart_machine.specs.declared.table.Table.{Table}
use Rattle.chart_machine.specs.Table.{state_at, region_at}
use Rattle.chart_machine.specs.Turns.{standing_of, is_guarded, is_enabled, inside}
use Rattle.chart_machine.specs.Steps.{to, state_in, verdict, taken, change_of, step}
use Rattle.chart_machine.specs.Machine.{machine}
use Rattle.abort_expansion.specs.Transitions.{count_down, counting, place_of}
use Rattle.chart_machine_laws.proofs.LyingIn.{IsNested, around, head_in}
use Rattle.abort_expansion_laws.specs.CoreRows.{IsState, is_final, Images, CoreRows, RegionImage, counter_over}
use Rattle.abort_expansion_laws.specs.Related.{Related}
use Rattle.abort_expansion_laws.specs.Stages.{Entry, Silent}
use Rattle.abort_expansion_laws.proofs.TablesCorrespond.{IsThere}
use Rattle.abort_expansion_laws.proofs.Segments.{Segment, segment_on}
use Rattle.abort_expansion_laws.proofs.StageReached.{Stage}
use Rattle.abort_expansion_laws.proofs.ImageSteps.{pair}
use Rattle.abort_expansion_laws.proofs.TestFails.{tested_is}
use Rattle.abort_expansion_laws.proofs.CoreSteps.{takes}
use Rattle.abort_expansion_laws.proofs.StartingRegions.{CounterRows}
use Rattle.abort_expansion_laws.proofs.EffectAhead.{BeginsAt, overwritten, not_counting, staged}
use Rattle.abort_expansion_laws.proofs.CountsFirst.{values, counted, before, arrived, counts_first}
use Rattle.abort_expansion_laws.proofs.Owed.{Counts, Enters, chart_enters, core_enters}
use Rattle.abort_expansion_laws.proofs.Unchanged.{set_twice}

module _ (k core : Table) (i : Images) (rows : CoreRows k core i) (tree : IsNested k) (counts : ℕ → Bool) (written_at : ℕ → ℕ)
    (Told : Configuration → Entry → Type 0) where
  -- what is entered behind the steps that come before
  pub entered_after : Enters k core i rows tree counts written_at Told → (c d c1 d1 : Configuration) → Related k core i c1 d1 → (q s p : ℕ) (e : Effect) →
      standing_of c1 q ≡ at.Acting s (e ∷ []) p → is_guarded k c1 (around k q) ≡ false → (values : List Value) →
      Counts k core i (is_final k (state_in k q p)) (counter_over k core i (around k q)) d1.variables values → (act : Act) →
      Segment (machine core) (pair k core i rows tree counts written_at) Told d (Stage k i.thread_of c d) (Stage k i.thread_of c1) (act ∷ [])
      (λ z. z ≡ core_enters k core i d1 values q p) →
      Segment (machine core) (pair k core i rows tree counts written_at) Told d (Stage k i.thread_of c d)
      (Stage k i.thread_of (chart_enters k core i c1 q p)) (act ∷ []) (Related k core i (chart_enters k core i c1 q p))
  entered_after enters c d c1 d1 related1 q s p e here1 free1 values counted act part =
      segment_on (machine core) (pair k core i rows tree counts written_at) Told d (Stage k i.thread_of c d) (Stage k i.thread_of c1)
      (Stage k i.thread_of (chart_enters k core i c1 q p)) (act ∷ []) [] (λ z. z ≡ core_enters k core i d1 values q p)
      (Related k core i (chart_enters k core i c1 q p)) part
      (subst (λ z. Segment (machine core) (pair k core i rows tree counts written_at) Told z (Stage k i.thread_of c1 z)
      (Stage k i.thread_of (chart_enters k core i c1 q p)) [] (Related k core i (chart_enters k core i c1 q p))) (sym part.reaches)
      (staged k core i rows tree counts written_at Told c1 d1 (chart_enters k core i c1 q p) (core_enters k core i d1 values q p)
      (enters c1 d1 related1 q s p e here1 free1 values counted)))

  -- the core's part of such a step
  pub record GoesIn (c d c1 d1 : Configuration) (q p : ℕ) (act : Act) : Type 0 where
    pub values : List Value
    pub counted : Counts k core i (is_final k (state_in k q p)) (counter_over k core i (around k q)) d1.variables values
    pub part : Segment (machine core) (pair k core i rows tree counts written_at) Told d (Stage k i.thread_of c d) (Stage k i.thread_of c1) (act ∷ [])
        (λ z. z ≡ core_enters k core i d1 values q p)

  module _ (told : (d : Configuration) (t : ℕ) (stage : Option (ℕ × ℕ)) (a : Access) → Told d (Silent t stage a))
      (counters : CounterRows k core i rows counts written_at) (super_there : (q u : ℕ) → IsThere k q → Contains (around k q) u → IsState k u)
      (c d : Configuration) (q s p : ℕ) (e : Effect) (there : IsThere k q)
      (target_there : p < length (region_at k q).states) (v : ℕ) (stored : List Value)
      -- the first step of the thread: it enters the target, or it has still to count down
      (enters_target : counting (i.places_of q) p [] ≡ [] → step core (i.thread_of q) d ≡ Some (core_enters k core i d stored q p))
      (counts_still : (x : ℕ) → counting (i.places_of q) p [] ≡ count_down x ∷ [] → step core (i.thread_of q) d ≡ Some (record {
        variables = stored;
        regions = slice_set d.regions (i.thread_of q) (at.Acting v (count_down x ∷ []) (place_of (i.places_of q) p));
      }))
      (core_first : BeginsAt (i.thread_of q) (state_at core (i.entry_of (state_in k q p))).entered)
      -- as if the region stood before one effect more
      (c1 : Configuration) (z : Standing)
      (related1 : Related k core i c1 (record { variables = stored; regions = slice_set d.regions (i.thread_of q) z }))
      (here1 : standing_of c1 q ≡ at.Acting s (e ∷ []) p) (free1 : is_guarded k c1 (around k q) ≡ false) (act : Act)
      (to_first : (f : Configuration) → step core (i.thread_of q) d ≡ Some f →
      Segment (machine core) (pair k core i rows tree counts written_at) Told d (Stage k i.thread_of c d) (Stage k i.thread_of c1) (act ∷ []) (λ y. y ≡ f))
    where
      abbrev g : ℕ
      g = i.thread_of q

      abbrev pub d1 : Configuration
      d1 = record { variables = stored; regions = slice_set d.regions g z }

      abbrev t : ℕ
      t = state_in k q p

      image : RegionImage k core i q
      image = rows.region q there

      -- ---- nothing is to be counted

      core_same : core_enters k core i d stored q p ≡ core_enters k core i d1 stored q p
      core_same =
          ap (λ zs. record { variables = stored; regions = zs }) (sym (overwritten g (state_at core (i.entry_of t)).entered core_first d.regions z))

      uncounted : counting (i.places_of q) p [] ≡ [] → Counts k core i (is_final k t) (counter_over k core i (around k q)) stored stored →
          GoesIn c d c1 d1 q p act
      uncounted none alike =
          let first = to_first (core_enters k core i d stored q p) (enters_target none) in
          record {
            values = stored;
            counted = alike;
            part =
                subst (λ f. Segment (machine core) (pair k core i rows tree counts written_at) Told d (Stage k i.thread_of c d) (Stage k i.thread_of c1)
                (act ∷ []) (λ y. y ≡ f)) core_same first;
          }

      -- ---- the thread counts down first

      module _ (final : is_final k t ≡ true) (u : ℕ) (us : List ℕ) (direct : around k q ≡ u ∷ us) (x : ℕ) (counter : (i.flags_of u).counter ≡ Some x) where
        u_there : IsState k u
        u_there = super_there q u there (subst (λ zs. Contains zs u) (sym direct) (head_in u us))

        counts_down : counting (i.places_of q) p [] ≡ count_down x ∷ []
        counts_down =
            let ends : unwrap_or (slice_get (i.places_of q).finals p) false ≡ true = image.finals p target_there ∙ final in
            let over : (i.places_of q).counter ≡ Some x = image.counter ∙ (ap (counter_over k core i) direct ∙ counter) in
            rw (ends, over) refl

        abbrev waits : Configuration
        waits =
            before k core i rows tree counts written_at Told told counters c1 d1 related1 q s p e here1 free1 final u us direct u_there x counter v

        counting_steps : step core g d ≡ Some waits
        counting_steps =
            counts_still x counts_down
            ∙ ap (λ zs. Some (record { variables = stored; regions = zs }))
            (sym (set_twice d.regions g z (at.Acting v (count_down x ∷ []) (place_of (i.places_of q) p))))

        counted_first : GoesIn c d c1 d1 q p act
        counted_first =
            let first = to_first waits counting_steps in
            let then =
            counts_first k core i rows tree counts written_at Told told counters c1 d1 related1 q s p e here1 free1 final u us direct u_there x counter v in
            record {
              values = values k core i rows tree counts written_at Told told counters c1 d1 related1 q s p e here1 free1 final u us direct u_there x counter;
              counted = counted k core i rows tree counts written_at Told told counters c1 d1 related1 q s p e here1 free1 final u us direct u_there x counter;
              part =
                  segment_on (machine core) (pair k core i rows tree counts written_at) Told d (Stage k i.thread_of c d) (Stage k i.thread_of c1)
                  (Stage k i.thread_of c1) (act ∷ []) [] (λ y. y ≡ waits)
                  (λ y. y ≡ arrived k core i rows tree counts written_at Told told counters c1 d1 related1 q s p e here1 free1 final u us direct u_there x
                  counter v) first
                  (subst (λ y. Segment (machine core) (pair k core i rows tree counts written_at) Told y (Stage k i.thread_of c1 y) (Stage k i.thread_of c1) []
                  (λ y. y ≡ arrived k core i rows tree counts written_at Told told counters c1 d1 related1 q s p e here1 free1 final u us direct u_there x
                  counter v)) (sym first.reaches) then);
            }

      -- ---- whichever the target is

      plain : is_final k t ≡ false → GoesIn c d c1 d1 q p act
      plain open_ends =
          uncounted (not_counting (i.places_of q) p [] (image.finals p target_there ∙ open_ends))
          (subst (λ b. Counts k core i b (counter_over k core i (around k q)) stored stored) (sym open_ends) refl)

      no_counter : is_final k t ≡ true → counter_over k core i (around k q) ≡ None → GoesIn c d c1 d1 q p act
      no_counter final none =
          let ends : unwrap_or (slice_get (i.places_of q).finals p) false ≡ true = image.finals p target_there ∙ final in
          let over : (i.places_of q).counter ≡ None = image.counter ∙ none in
          uncounted (rw (ends, over) refl)
          (subst (λ b. Counts k core i b (counter_over k core i (around k q)) stored stored) (sym final)
          (subst (λ o. Counts k core i true o stored stored) (sym none) refl))

      by_counter : is_final k t ≡ true → (zs : List ℕ) → around k q ≡ zs → (o : Option ℕ) → counter_over k core i zs ≡ o → GoesIn c d c1 d1 q p act
      by_counter final zs direct None is = no_counter final (ap (counter_over k core i) direct ∙ is)
      by_counter final [] direct (Some x) is = absurd cc
      by_counter final (u ∷ us) direct (Some x) is = counted_first final u us direct x is

      pub goes_in : GoesIn c d c1 d1 q p act
      goes_in = by_target (is_final k t) refl
        where
          by_target : (b : Bool) → is_final k t ≡ b → GoesIn c d c1 d1 q p act
          by_target false open_ends = plain open_ends
          by_target true final = by_counter final (around k q) refl (counter_over k core i (around k q)) refl

  -- a test of a state in which nothing is: its thread takes the transition
  module _ (d : Configuration) (q p v : ℕ) (w : Transition) (rest : List Transition) (there : IsThere k q) (target_there : p < length (region_at k q).states)
      (unguarded_here : is_guarded core d (around core (i.thread_of q)) ≡ false)
      (core_stands : standing_of d (i.thread_of q) ≡ at.Trying v (w ∷ rest)) (holds : verdict d.variables w.trigger ≡ Some true)
      (does : w.effects ≡ counting (i.places_of q) p []) (leads : w.target ≡ place_of (i.places_of q) p) (core_alone : inside core v ≡ []) where
    core_moves : counting (i.places_of q) p [] ≡ [] → taken core (i.thread_of q) v w ≡ (state_at core (i.entry_of (state_in k q p))).entered
    core_moves none =
        let no_effects : w.effects ≡ [] = does ∙ none in
        let target : state_in core (i.thread_of q) w.target ≡ i.entry_of (state_in k q p) =
        ap (state_in core (i.thread_of q)) leads ∙ (rows.region q there).places p target_there in
        rw (core_alone, no_effects) (ap (λ n. (state_at core n).entered) target)

    pub test_enters : counting (i.places_of q) p [] ≡ [] → step core (i.thread_of q) d ≡ Some (core_enters k core i d d.variables q p)
    test_enters none =
        let on_turn : is_enabled core d (i.thread_of q) ≡ true = rw (core_stands, unguarded_here) refl in
        let change : change_of core d (i.thread_of q) (standing_of d (i.thread_of q)) ≡
        Some (record { write = None; moves = (state_at core (i.entry_of (state_in k q p))).entered }) =
        ap (change_of core d (i.thread_of q)) core_stands
        ∙ (tested_is core d (i.thread_of q) v w (to (i.thread_of q) (at.Trying v rest) ∷ []) true holds ∙
        ap (λ ms. Some (record { write = None; moves = ms })) (core_moves none)) in
        rw (on_turn, change) refl

    pub test_counts : (x : ℕ) → counting (i.places_of q) p [] ≡ count_down x ∷ [] → step core (i.thread_of q) d ≡ Some (record {
      variables = d.variables;
      regions = slice_set d.regions (i.thread_of q) (at.Acting v (count_down x ∷ []) (place_of (i.places_of q) p));
    })
    test_counts x counts_down =
        takes core d (i.thread_of q) v w rest (count_down x) [] unguarded_here core_stands holds core_alone (does ∙ counts_down)
        ∙ ap (λ n. Some (record { variables = d.variables; regions = slice_set d.regions (i.thread_of q) (at.Acting v (count_down x ∷ []) n) })) leads
