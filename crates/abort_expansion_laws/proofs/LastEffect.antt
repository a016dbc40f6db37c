-- The last effect of a transition, from the law of entering.
use Rattle.std.proofs.Common.{◌≡◌, ℕ, ◌<◌, Bool, true, false, Option, Some, List, [], ◌∷◌, length, slice_get, slice_set, Contains, refl}
use Rattle.std.proofs.Common.{sym, ap, subst, ◌∙◌, arith}
use Rattle.std.specs.Prelude.{option_map}
use Rattle.sc_values.specs.Runs.{Act, act_of}
use Rattle.core_charts.specs.declared.region.Effect.{Effect}
use Rattle.chart_machine.specs.declared.standing.Standing.{Standing}
use Rattle.chart_machine.specs.declared.standing.Standing.TheVariants as at
use Rattle.chart_machine.specs.declared.standing.Configuration.{Configuration}
use Rattle.chart_machine.specs.declared.table.Table.{Table}
use Rattle.chart_machine.specs.Table.{state_at}
use Rattle.chart_machine.specs.Turns.{standing_of, guards, is_guarded, is_enabled}
use Rattle.chart_machine.specs.Steps.{to, state_in, acts, moved, change_of, step, access_of}
use Rattle.chart_machine.specs.Machine.{machine}
use Rattle.abort_expansion_laws.specs.Stages.{Entry, Image, Silent}
use Rattle.abort_expansion_laws.proofs.Segments.{Segment}
use Rattle.chart_machine_laws.proofs.LyingIn.{IsNested, around, holder}
use Rattle.abort_expansion_laws.proofs.TablesCorrespond.{IsThere}
use Rattle.abort_expansion_laws.specs.CoreRows.{IsState, Images, CoreRows, RegionImage}
use Rattle.abort_expansion_laws.specs.Related.{acting, Watches, Related}
use Rattle.abort_expansion_laws.proofs.Unchanged.{never_guarded, stands_same}
use Rattle.abort_expansion_laws.proofs.RegionGoesOn.{GoesOn, goes_on, same_shape}
use Rattle.abort_expansion_laws.proofs.StageReached.{Stage}
use Rattle.abort_expansion_laws.proofs.ImageSteps.{pair, ImageMove, image_to}
use Rattle.abort_expansion_laws.proofs.KnownVariables.{present_there}
use Rattle.std.specs.Prelude.{option_and_then}
use Rattle.sc_values.specs.declared.value.Value.{Value}
use Rattle.sc_values.specs.Operator.{kind_of}
use Rattle.sc_values.specs.Expr.{value as value_of}
use Rattle.sc_values.specs.Assignment.{assignment_of, access_of_assignment}
use Rattle.sc_graph.specs.Steps.{takes_kind}
use Rattle.sc_graph.specs.declared.program.Variable.{Variable}
use Rattle.abort_expansion.specs.Transitions.{counting, place_of, count_down}
use Rattle.abort_expansion.proofs.Lists.{at_front}
use Rattle.chart_machine.specs.Steps.{effected}
use Rattle.std.proofs.lemmas.Option.{slice_get_within}
use Rattle.abort_expansion_laws.proofs.TestFails.{watch_other}
use Rattle.abort_expansion_laws.proofs.MoreValues.{value_over_more}
use Rattle.abort_expansion_laws.proofs.Unchanged.{get_other}
use Rattle.abort_expansion_laws.proofs.TestHolds.{acting_no_inside}
use Rattle.abort_expansion_laws.proofs.AssignedVariables.{assigned_known}
use Rattle.abort_expansion_laws.proofs.EffectFollowed.{IsActing, acting_back, some_kind, there_variable, set_front, value_size}
use Rattle.abort_expansion_laws.proofs.EffectAhead.{BeginsAt, overwritten, any_same}
use Rattle.abort_expansion_laws.proofs.TakesTarget.{GoesIn, goes_in, entered_after}
use Rattle.abort_expansion_laws.proofs.StartingRegions.{CounterRows}
use Rattle.abort_expansion_laws.proofs.TestHolds.{counting_first}
use Rattle.chart_machine.specs.declared.standing.Move.{Move}
use Rattle.sc_values.specs.Access.{Access}
use Rattle.abort_expansion_laws.proofs.Owed.{Enters, chart_enters, core_enters}

module _ (k core : Table) (i : Images) (rows : CoreRows k core i) (tree : IsNested k) (counts : ℕ → Bool) (written_at : ℕ → ℕ)
    (Told : Configuration → Entry → Type 0)
    (told_silent : (d : Configuration) (t : ℕ) (stage : Option (ℕ × ℕ)) (a : Access) → Told d (Silent t stage a))
    (counters : CounterRows k core i rows counts written_at) (super_there : (q u : ℕ) → IsThere k q → Contains (around k q) u → IsState k u)
    (enters : Enters k core i rows tree counts written_at Told)
    (c d : Configuration) (related : Related k core i c d) (q s p : ℕ) (e : Effect) (stands : standing_of c q ≡ at.Acting s (e ∷ []) p)
    (chart_first : BeginsAt q (state_at k (state_in k q p)).entered)
    (core_first : BeginsAt (i.thread_of q) (state_at core (i.entry_of (state_in k q p))).entered)
    (free : is_guarded k c (around k q) ≡ false)
    (v : Value) (is : value_of e.value c.variables ≡ Some v) (fits : takes_kind (option_map (λ z. z.kind) (slice_get k.variables e.variable)) (kind_of v) ≡
    true) where
  there : IsThere k q
  there = present_there k core i c d related q (λ w. let wrong : at.Acting s (e ∷ []) p ≡ at.Outside = sym stands ∙ w in absurd cc)

  thread : IsActing k i q p (e ∷ []) (standing_of d (i.thread_of q))
  thread = acting_back k core i c q (standing_of c q) (standing_of d (i.thread_of q)) (related.regions q there) s p (e ∷ []) stands

  image : RegionImage k core i q
  image = rows.region q there

  core_stands : standing_of d (i.thread_of q) ≡ at.Acting thread.from (e ∷ counting (i.places_of q) p []) (place_of (i.places_of q) p)
  core_stands = thread.is ∙ ap (λ zs. at.Acting thread.from zs (place_of (i.places_of q) p)) (counting_first (i.places_of q) p e [])

  known_variable : (a : Variable) × (slice_get k.variables e.variable ≡ Some a)
  known_variable =
      let z = some_kind (option_map (λ z. z.kind) (slice_get k.variables e.variable)) (kind_of v) fits in
      there_variable (slice_get k.variables e.variable) z.0 z.1

  in_range : e.variable < length k.variables
  in_range = slice_get_within k.variables e.variable known_variable.0 known_variable.1

  core_variable : slice_get core.variables e.variable ≡ slice_get k.variables e.variable
  core_variable =
      ap (λ vs. slice_get vs e.variable) rows.variables ∙ (at_front k.variables rows.added e.variable known_variable.0 known_variable.1 ∙ sym known_variable.1)

  core_fits : takes_kind (option_map (λ z. z.kind) (slice_get core.variables e.variable)) (kind_of v) ≡ true
  core_fits = ap (λ o. takes_kind (option_map (λ (z : Variable). z.kind) o) (kind_of v)) core_variable ∙ fits

  core_is : value_of e.value d.variables ≡ Some v
  core_is = subst (λ vs. value_of e.value vs ≡ Some v) (sym related.variables) (value_over_more related.more e.value c.variables v is)

  -- as if the effect were still to come, with what it wrote
  abbrev y : Standing
  y = at.Acting s (e ∷ []) p

  abbrev z : Standing
  z = at.Acting thread.from (counting (i.places_of q) p (e ∷ [])) (place_of (i.places_of q) p)

  abbrev written : List Value
  written = slice_set d.variables e.variable v

  abbrev c1 : Configuration
  c1 = record { variables = slice_set c.variables e.variable v; regions = slice_set c.regions q y }

  abbrev d1 : Configuration
  d1 = record { variables = written; regions = slice_set d.regions (i.thread_of q) z }

  goes : GoesOn k core i rows c d q y z c1 d1
  goes =
      record {
        there = there;
        chart = refl;
        core_too = refl;
        ends = rw (stands) refl;
        guards_alike = rw (stands) refl;
        was_there = λ w. let wrong : at.Acting s (e ∷ []) p ≡ at.Outside = sym stands ∙ w in absurd cc;
        is_there = λ w. absurd cc;
        stands = acting s thread.from p e [] thread.there;
        watches = λ o in_chart has held.
            watch_other k core i o (standing_of c q) (standing_of d (i.watcher_of o)) y
            (subst (λ r. Watches k core i o (standing_of c r) (standing_of d (i.watcher_of o))) held (related.watchers o in_chart has))
            (λ others w. let wrong : at.Acting s (e ∷ []) p ≡ at.Guarding o others = sym stands ∙ w in absurd cc)
            (λ others w. let wrong : at.Acting s (e ∷ []) p ≡ at.Within o others = sym stands ∙ w in absurd cc)
            (λ others w. absurd cc) (λ others w. absurd cc);
        inside = λ u held inner. absurd (acting_no_inside k core i u s p (e ∷ []) (standing_of c q) stands inner);
        inside_back = λ u held inner. absurd (acting_no_inside k core i u s p (e ∷ []) y refl inner);
        closes = λ u others its w. absurd cc;
        free = free;
        more = related.more;
        variables =
            ap (λ vs. slice_set vs e.variable v) related.variables ∙ set_front c.variables related.more e.variable v (omega (in_range, related.values, arith));
        flag_count = value_size d.variables e.variable v ∙ related.flag_count;
        values = value_size c.variables e.variable v ∙ related.values;
        flags = λ x le. get_other d.variables e.variable x v (λ same. let lt = in_range in omega (lt, le, same, arith));
      }

  move : ImageMove k core i rows tree counts written_at c d q y z c1 d1 (access_of_assignment e.variable (assignment_of e.variable e.value))
  move =
      record {
        goes = goes;
        works = rw (stands) refl;
        free = free;
        chart_access = ap access_of stands;
        core_access = ap access_of core_stands;
        declared = λ x touches.
            let lt = assigned_known e.variable e.value c.variables v is (omega (in_range, related.values, arith)) x touches in
            omega (lt, related.values, arith);
      }

  -- ---- the thread makes the effect, and enters the target or counts down then

  steps_to : (rest : List Effect) (moves : List Move) → counting (i.places_of q) p [] ≡ rest →
      acts core (i.thread_of q) thread.from rest (place_of (i.places_of q) p) ≡ moves →
      step core (i.thread_of q) d ≡ Some (record { variables = written; regions = moved moves d.regions })
  steps_to rest moves are goes_so =
      let unguarded : is_guarded core d (around core (i.thread_of q)) ≡ false = never_guarded k core i rows c d related (around core (i.thread_of q)) in
      let on_turn : is_enabled core d (i.thread_of q) ≡ true = rw (core_stands, unguarded) refl in
      let one : effected core (i.thread_of q) thread.from e rest (place_of (i.places_of q) p) v
      ≡ Some (record { write = Some (record { variable = e.variable; value = v }); moves = moves }) =
      rw (core_fits) (ap (λ ms. Some (record { write = Some (record { variable = e.variable; value = v }); moves = ms })) goes_so) in
      let does : change_of core d (i.thread_of q) (standing_of d (i.thread_of q))
      ≡ Some (record { write = Some (record { variable = e.variable; value = v }); moves = moves }) =
      ap (change_of core d (i.thread_of q)) (core_stands ∙ ap (λ zs. at.Acting thread.from (e ∷ zs) (place_of (i.places_of q) p)) are)
      ∙ (ap (option_and_then (effected core (i.thread_of q) thread.from e rest (place_of (i.places_of q) p))) core_is ∙ one) in
      rw (on_turn, does) refl

  enters_target : counting (i.places_of q) p [] ≡ [] → step core (i.thread_of q) d ≡ Some (core_enters k core i d written q p)
  enters_target none =
      steps_to [] (state_at core (i.entry_of (state_in k q p))).entered none (ap (λ n. (state_at core n).entered) (image.places p thread.there))

  counts_still : (x : ℕ) → counting (i.places_of q) p [] ≡ count_down x ∷ [] → step core (i.thread_of q) d ≡ Some (record {
    variables = written;
    regions = slice_set d.regions (i.thread_of q) (at.Acting thread.from (count_down x ∷ []) (place_of (i.places_of q) p));
  })
  counts_still x some =
      steps_to (count_down x ∷ []) (to (i.thread_of q) (at.Acting thread.from (count_down x ∷ []) (place_of (i.places_of q) p)) ∷ []) some refl

  related1 : Related k core i c1 d1
  related1 = goes_on k core i rows c d related q y z c1 d1 goes

  here1 : standing_of c1 q ≡ y
  here1 = let lt = there.1 in stands_same c c1 q y refl (omega (lt, related.chart_regions, arith))

  free1 : is_guarded k c1 (around k q) ≡ false
  free1 =
      any_same (λ u. guards (standing_of c1 (holder k u))) (λ u. guards (standing_of c (holder k u))) (around k q)
      (λ u. (same_shape k core i rows c d related q y z c1 d1 goes).guards_alike (holder k u)) ∙ free

  abbrev pub next : Configuration
  next = record { variables = slice_set c.variables e.variable v; regions = moved (state_at k (state_in k q p)).entered c.regions }

  chart_same : chart_enters k core i c1 q p ≡ next
  chart_same = ap (λ zs. record { variables = slice_set c.variables e.variable v; regions = zs })
      (overwritten q (state_at k (state_in k q p)).entered chart_first c.regions y)

  abbrev act : Act
  act = act_of (machine k) c q

  into : Told d (Image q (access_of_assignment e.variable (assignment_of e.variable e.value))) →
      GoesIn k core i rows tree counts written_at Told c d c1 d1 q p act
  into told =
      goes_in k core i rows tree counts written_at Told told_silent counters super_there c d q s p e there thread.there thread.from written enters_target
      counts_still core_first c1 z related1 here1 free1 act
      (λ f steps. image_to k core i rows tree counts written_at c d related q y z c1 d1
      (access_of_assignment e.variable (assignment_of e.variable e.value)) move f steps Told told)

  -- the last effect is made, and its target is entered
  pub last_effect : Told d (Image q (access_of_assignment e.variable (assignment_of e.variable e.value))) →
      Segment (machine core) (pair k core i rows tree counts written_at) Told d (Stage k i.thread_of c d) (Stage k i.thread_of next)
      (act ∷ []) (Related k core i next)
  last_effect told =
      let g = into told in
      subst (λ w. Segment (machine core) (pair k core i rows tree counts written_at) Told d (Stage k i.thread_of c d) (Stage k i.thread_of w)
      (act ∷ []) (Related k core i w)) chart_same
      (entered_after k core i rows tree counts written_at Told enters c d c1 d1 related1 q s p e here1 free1 g.values g.counted act g.part)
