-- A transition without effects, from the law of entering: it is taken as if it had one effect more.
use Rattle.std.proofs.Common.{◌≡◌, ℕ, ◌<◌, Bool, true, false, Option, Some, List, [], ◌∷◌, ◌++◌, map, length, slice_set, Contains, refl}
use Rattle.std.proofs.Common.{sym, ap, subst, ◌∙◌, arith}
use Rattle.sc_values.specs.Runs.{Act, act_of}
use Rattle.core_charts.specs.declared.region.Effect.{Effect}
use Rattle.core_charts.specs.declared.region.Transition.{Transition}
use Rattle.chart_machine.specs.declared.standing.Standing.{Standing}
use Rattle.chart_machine.specs.declared.standing.Standing.TheVariants as at
use Rattle.chart_machine.specs.declared.standing.Configuration.{Configuration}
use Rattle.chart_machine.specs.declared.table.Table.{Table}
use Rattle.chart_machine.specs.Table.{state_at, region_at}
use Rattle.chart_machine.specs.Turns.{standing_of, guards, is_guarded}
use Rattle.chart_machine.specs.Steps.{state_in, verdict, access_of, access_of_trigger}
use Rattle.chart_machine.specs.Machine.{machine}
use Rattle.abort_expansion.specs.Transitions.{led}
use Rattle.abort_expansion_laws.specs.Stages.{Entry, Image, Silent}
use Rattle.abort_expansion_laws.proofs.Segments.{Segment}
use Rattle.chart_machine_laws.proofs.LyingIn.{IsNested, around, holder}
use Rattle.abort_expansion_laws.proofs.TablesCorrespond.{IsThere}
use Rattle.abort_expansion_laws.proofs.MoreValues.{verdict_over_more}
use Rattle.abort_expansion_laws.specs.CoreRows.{IsState, Images, CoreRows}
use Rattle.abort_expansion_laws.specs.Related.{held_back, Related}
use Rattle.abort_expansion_laws.proofs.Unchanged.{never_guarded, stands_same}
use Rattle.abort_expansion_laws.proofs.RegionGoesOn.{GoesOn, goes_on, same_shape}
use Rattle.abort_expansion_laws.proofs.StageReached.{Stage}
use Rattle.abort_expansion_laws.proofs.ImageSteps.{pair, ImageMove, image_to}
use Rattle.abort_expansion_laws.proofs.KnownVariables.{trigger_known}
use Rattle.chart_machine.specs.Turns.{inside}
use Rattle.abort_expansion.specs.Transitions.{counting, place_of}
use Rattle.abort_expansion_laws.proofs.TestFails.{trying_there, trying_stands}
use Rattle.abort_expansion.specs.Transitions.{put}
use Rattle.abort_expansion_laws.proofs.TestHolds.{acting_goes_on}
use Rattle.abort_expansion_laws.proofs.Owed.{Enters, chart_enters}
use Rattle.abort_expansion_laws.proofs.EffectAhead.{BeginsAt, overwritten, any_same}
use Rattle.abort_expansion_laws.proofs.TakesTarget.{GoesIn, goes_in, entered_after, test_enters, test_counts}
use Rattle.abort_expansion_laws.proofs.StartingRegions.{CounterRows}
use Rattle.sc_values.specs.Access.{Access}

module _ (k core : Table) (i : Images) (rows : CoreRows k core i) (tree : IsNested k) (counts : ℕ → Bool) (written_at : ℕ → ℕ)
    (Told : Configuration → Entry → Type 0)
    (told_silent : (d : Configuration) (t : ℕ) (stage : Option (ℕ × ℕ)) (a : Access) → Told d (Silent t stage a))
    (counters : CounterRows k core i rows counts written_at) (super_there : (q u : ℕ) → IsThere k q → Contains (around k q) u → IsState k u)
    (enters : Enters k core i rows tree counts written_at Told)
    (c d : Configuration) (related : Related k core i c d) (q s : ℕ) (t : Transition) (tests : List Transition)
    (stands : standing_of c q ≡ at.Trying s (t ∷ tests))
    (no_effects : t.effects ≡ []) (target_there : t.target < length (region_at k q).states)
    (alone : inside k s ≡ []) (core_alone : inside core (i.main_of s) ≡ [])
    (chart_first : BeginsAt q (state_at k (state_in k q t.target)).entered)
    (core_first : BeginsAt (i.thread_of q) (state_at core (i.entry_of (state_in k q t.target))).entered)
    (free : is_guarded k c (around k q) ≡ false) (true_there : verdict c.variables t.trigger ≡ Some true) where
  there : IsThere k q
  there = trying_there k core i c d related q s t tests stands

  -- as if there were one effect more
  abbrev one : Effect
  one = put 0 0

  abbrev y : Standing
  y = at.Acting s (one ∷ []) t.target

  abbrev z : Standing
  z = at.Acting (i.main_of s) (counting (i.places_of q) t.target (one ∷ [])) (place_of (i.places_of q) t.target)

  abbrev c1 : Configuration
  c1 = record { variables = c.variables; regions = slice_set c.regions q y }

  abbrev d1 : Configuration
  d1 = record { variables = d.variables; regions = slice_set d.regions (i.thread_of q) z }

  core_stands : standing_of d (i.thread_of q) ≡ at.Trying (i.main_of s) (led (i.places_of q) t ∷ (map (led (i.places_of q)) tests ++ held_back k core i q))
  core_stands = trying_stands k core i c d related q s t tests stands free

  goes : GoesOn k core i rows c d q y z c1 d1
  goes = acting_goes_on k core i rows c d related q s t tests stands free one [] target_there

  move : ImageMove k core i rows tree counts written_at c d q y z c1 d1 (access_of_trigger t.trigger)
  move =
      record {
        goes = goes;
        works = rw (stands) refl;
        free = free;
        chart_access = ap access_of stands;
        core_access = ap access_of core_stands;
        declared = λ x touches. let lt = trigger_known c.variables t.trigger true true_there x touches in omega (lt, related.values, arith);
      }

  related1 : Related k core i c1 d1
  related1 = goes_on k core i rows c d related q y z c1 d1 goes

  here1 : standing_of c1 q ≡ y
  here1 = let lt = there.1 in stands_same c c1 q y refl (omega (lt, related.chart_regions, arith))

  free1 : is_guarded k c1 (around k q) ≡ false
  free1 =
      any_same (λ u. guards (standing_of c1 (holder k u))) (λ u. guards (standing_of c (holder k u))) (around k q)
      (λ u. (same_shape k core i rows c d related q y z c1 d1 goes).guards_alike (holder k u)) ∙ free

  abbrev pub next : Configuration
  next = chart_enters k core i c q t.target

  chart_same : chart_enters k core i c1 q t.target ≡ next
  chart_same = ap (λ zs. record { variables = c.variables; regions = zs }) (overwritten q (state_at k (state_in k q t.target)).entered chart_first c.regions y)

  abbrev act : Act
  act = act_of (machine k) c q

  into : Told d (Image q (access_of_trigger t.trigger)) → GoesIn k core i rows tree counts written_at Told c d c1 d1 q t.target act
  into told =
      let unguarded : is_guarded core d (around core (i.thread_of q)) ≡ false = never_guarded k core i rows c d related (around core (i.thread_of q)) in
      let holds : verdict d.variables t.trigger ≡ Some true =
      subst (λ vs. verdict vs t.trigger ≡ Some true) (sym related.variables) (verdict_over_more related.more c.variables t.trigger true true_there) in
      let does : counting (i.places_of q) t.target t.effects ≡ counting (i.places_of q) t.target [] = ap (counting (i.places_of q) t.target) no_effects in
      let rest : List Transition = map (led (i.places_of q)) tests ++ held_back k core i q in
      goes_in k core i rows tree counts written_at Told told_silent counters super_there c d q s t.target one there target_there (i.main_of s) d.variables
      (test_enters k core i rows tree counts written_at Told d q t.target (i.main_of s) (led (i.places_of q) t) rest there target_there unguarded core_stands
      holds does refl core_alone)
      (test_counts k core i rows tree counts written_at Told d q t.target (i.main_of s) (led (i.places_of q) t) rest there target_there unguarded core_stands
      holds does refl core_alone)
      core_first c1 z related1 here1 free1 act
      (λ f steps. image_to k core i rows tree counts written_at c d related q y z c1 d1 (access_of_trigger t.trigger) move f steps Told told)

  -- a transition without effects is taken
  pub taken_on : Told d (Image q (access_of_trigger t.trigger)) →
      Segment (machine core) (pair k core i rows tree counts written_at) Told d (Stage k i.thread_of c d) (Stage k i.thread_of next)
      (act ∷ []) (Related k core i next)
  taken_on told =
      let g = into told in
      subst (λ w. Segment (machine core) (pair k core i rows tree counts written_at) Told d (Stage k i.thread_of c d) (Stage k i.thread_of w)
      (act ∷ []) (Related k core i w)) chart_same
      (entered_after k core i rows tree counts written_at Told enters c d c1 d1 related1 q s t.target one here1 free1 g.values g.counted act g.part)
