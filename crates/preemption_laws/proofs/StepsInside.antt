-- A step of a region moves it and what lies inside of it. So whoever is tested or acts after it, and lies elsewhere, was so before.
use Rattle.std.proofs.Common.{◌≡◌, ◌≢◌, ℕ, ◌<◌, not, ◌&&◌, Some, List, [], ◌∷◌, length, slice_set, Contains, refl, sym, ap, subst, ◌∙◌}
use Rattle.core_charts.specs.declared.features.Features.TheVariants as features
use Rattle.core_charts.specs.declared.region.Effect.{Effect}
use Rattle.core_charts.specs.declared.region.Transition.{Transition}
use Rattle.core_charts.specs.Chart.{Chart}
use Rattle.core_charts.specs.Rules.{IsChart}
use Rattle.core_charts.specs.Tests.{at_once, closing_tests, first_closing_tests}
use Rattle.chart_machine.specs.declared.standing.Standing.{Standing}
use Rattle.chart_machine.specs.declared.standing.Standing.TheVariants as at
use Rattle.chart_machine.specs.declared.standing.Configuration.{Configuration}
use Rattle.chart_machine.specs.declared.standing.Move.{Move}
use Rattle.chart_machine.specs.declared.table.Table.{Table}
use Rattle.chart_machine.specs.Table.{table, state_at, region_at}
use Rattle.chart_machine.specs.Turns.{standing_of, guards, is_guarded, has_work, inside, inside_is_done, is_enabled}
use Rattle.chart_machine.specs.Steps.{to, moved, state_in, dropped, acts, taken, step}
use Rattle.abort_expansion.specs.Expansion.{expanded}
use Rattle.chart_machine_laws.specs.Tree.{IsThere}
use Rattle.chart_machine_laws.proofs.LyingIn.{around, holder, around_around, head_in, tail_in}
use Rattle.abort_expansion_laws.specs.CoreRows.{own, Images}
use Rattle.abort_expansion_laws.specs.Related.{Related, Stands, outside, ended, left, trying, acting, entering, guarding, staying, within, behind}
use Rattle.abort_expansion_laws.proofs.InsideAround.{inside_around}
use Rattle.abort_expansion_laws.proofs.ChartSteps.{Makes, takes_trying, takes_entering, takes_guarding, takes_within, tries_on, enters_on, guards_on}
use Rattle.abort_expansion_laws.proofs.ChartSteps.{waits_on, acts_on, StepMade, step_made}
use Rattle.abort_expansion_laws.proofs.InitialPairs.{held_there}
use Rattle.abort_expansion_laws.proofs.KnownVariables.{present_there}
use Rattle.abort_expansion_laws.proofs.Leaving.{at_number, set_other, drops_out, moved_append}
use Rattle.abort_expansion_laws.proofs.OpenedInside.{opened_elsewhere, charts_enter}
use Rattle.abort_expansion_laws.proofs.OwnTests.{OwnTests, IsOwn}
use Rattle.abort_expansion_laws.proofs.StateEntry.{Entry, entry_ends, entry_tries, entry_guards, entry_opens}
use Rattle.abort_expansion_laws.proofs.TestTargets.{targets_there}
use Rattle.abort_expansion_laws.proofs.TicksOfCharts as ticks

-- in an opened superstate
abbrev pub IsWithin : Standing → Type 0
IsWithin (at.Within s tests) = Unit {0}
IsWithin other = ⊥

module _ (c : Chart) (rules : IsChart features.Extended c) (core_rules : IsChart features.Core (expanded c)) where
  abbrev k : Table
  k = table c

  abbrev core : Table
  core = table (expanded c)

  abbrev i : Images
  i = ticks.i c rules core_rules

  -- region q is not r, and lies in no superstate that r holds
  pub record LiesElsewhere (r q : ℕ) : Type 0 where
    pub other : q ≢ r
    pub apart : (s : ℕ) → Contains (around k q) s → holder k s ≢ r

  -- ---- moves leave it where it is

  module _ (r q : ℕ) (far : LiesElsewhere r q) (there : IsThere k r) where
    abbrev Stays : List Move → Type 0
    Stays ms = (zs : List Standing) → at_number (moved ms zs) q ≡ at_number zs q

    one_stays : (x : Standing) → Stays (to r x ∷ [])
    one_stays x zs = set_other zs r q x far.other

    drop_stays : (s : ℕ) → holder k s ≡ r → Stays (dropped k s)
    drop_stays s held zs = drops_out (inside k s) zs q (λ h. far.apart s (inside_around k s q h) held)

    open_stays : (s : ℕ) → holder k s ≡ r → Stays (state_at k s).opened
    open_stays s held zs =
        opened_elsewhere features.Extended c rules s q zs (held_there k s r held there) (λ h. far.apart s h held)

    opened_too : (s : ℕ) (x : Standing) → holder k s ≡ r → Stays (to r x ∷ (state_at k s).opened)
    opened_too s x held zs = open_stays s held (slice_set zs r x) ∙ one_stays x zs

    enter_stays : (v : ℕ) → holder k v ≡ r → Stays (state_at k v).entered
    enter_stays v held = by (charts_enter features.Extended c rules v (held_there k v r held there))
      where
        by_moves : (x : Standing) (ms : List Move) → (state_at k v).entered ≡ to (holder k v) x ∷ ms → Stays (to r x ∷ ms) → Stays (state_at k v).entered
        by_moves x ms e stays = subst Stays (sym (e ∙ ap (λ h. to h x ∷ ms) held)) stays

        by : Entry k v → Stays (state_at k v).entered
        by (entry_ends e) = by_moves at.Ended [] e (one_stays at.Ended)
        by (entry_tries none e) = by_moves (at.Trying v (at_once (own k v))) [] e (one_stays (at.Trying v (at_once (own k v))))
        by (entry_guards t tests some strong e) = by_moves (at.Entering v (t ∷ tests)) [] e (one_stays (at.Entering v (t ∷ tests)))
        by (entry_opens some strong e) =
            by_moves (at.Within v (first_closing_tests (own k v))) (state_at k v).opened e (opened_too v (at.Within v (first_closing_tests (own k v))) held)

    acts_stay : (s : ℕ) (effects : List Effect) (p : ℕ) → p < length (region_at k r).states → Stays (acts k r s effects p)
    acts_stay s [] p lt = enter_stays (state_in k r p) (((ticks.rows c rules core_rules).region r there).holds p lt)
    acts_stay s (e ∷ effects) p lt = one_stays (at.Acting s (e ∷ effects) p)

    -- it takes a transition of a state of its own, to another one
    abbrev LeavesOwn : ℕ → Transition → Type 0
    LeavesOwn s t = (holder k s ≡ r) × (t.target < length (region_at k r).states)

    taken_stay : (s : ℕ) (t : Transition) → LeavesOwn s t → Stays (taken k r s t)
    taken_stay s t own_one zs =
        ap (λ ys. at_number ys q) (moved_append (dropped k s) (acts k r s t.effects t.target) zs)
        ∙ (acts_stay s t.effects t.target own_one.1 (moved (dropped k s) zs) ∙ drop_stays s own_one.0 zs)

    abbrev Knows : Standing → Type 0
    Knows (at.Trying s (t ∷ tests)) = LeavesOwn s t
    Knows (at.Entering s (t ∷ tests)) = LeavesOwn s t
    Knows (at.Guarding s (t ∷ tests)) = LeavesOwn s t
    Knows (at.Within s (t ∷ tests)) = LeavesOwn s t
    Knows (at.Acting s effects p) = p < length (region_at k r).states
    Knows other = Unit {0}

    makes_stay : (x : Standing) (ms : List Move) → Makes k r x ms → Knows x → Stays ms
    makes_stay _ _ (takes_trying s t tests) knows = taken_stay s t knows
    makes_stay _ _ (takes_entering s t tests) knows = taken_stay s t knows
    makes_stay _ _ (takes_guarding s t tests) knows = taken_stay s t knows
    makes_stay _ _ (takes_within s t tests) knows = taken_stay s t knows
    makes_stay _ _ (tries_on s t tests) knows = one_stays (at.Trying s tests)
    makes_stay _ _ (enters_on s t []) knows = opened_too s (at.Within s (first_closing_tests (own k s))) knows.0
    makes_stay _ _ (enters_on s t (u ∷ tests)) knows = one_stays (at.Entering s (u ∷ tests))
    makes_stay _ _ (guards_on s t []) knows = one_stays (at.Within s (closing_tests (own k s)))
    makes_stay _ _ (guards_on s t (u ∷ tests)) knows = one_stays (at.Guarding s (u ∷ tests))
    makes_stay _ _ (waits_on s t tests) knows = one_stays (at.Within s tests)
    makes_stay _ _ (acts_on s p e effects) knows = acts_stay s effects p knows

    -- ---- what is known of where r stands

    leads : (s : ℕ) (t : Transition) → Contains (own k s) t → holder k s ≡ r → LeavesOwn s t
    leads s t own_one held = (
      held,
      subst (λ h. t.target < length (region_at k h).states) held (targets_there features.Extended c rules s (held_there k s r held there) t own_one),
    )

    knows : (now : Configuration) (x y : Standing) → Stands k core i now r x y → IsOwn k x → Knows x
    knows now _ _ outside owns = tt
    knows now _ _ (ended inner) owns = tt
    knows now _ _ (left s ss e over) owns = tt
    knows now _ _ (trying s [] simple held) owns = tt
    knows now _ _ (trying s (t ∷ tests) simple held) owns = leads s t owns.0 held
    knows now _ _ (acting s u p e effects lt) owns = lt
    knows now _ _ (entering s fork t tests super held to_fork) owns = leads s t owns.1.0 held
    knows now _ _ (guarding s join t tests has held to_join) owns = leads s t owns.0 held
    knows now _ _ (staying s [] super held stay) owns = tt
    knows now _ _ (staying s (t ∷ tests) super held stay) owns = leads s t owns.0.0 held
    knows now _ _ (within s join [] super held stay open_still to_join) owns = tt
    knows now _ _ (within s join (t ∷ tests) super held stay open_still to_join) owns = leads s t owns.0.0 held
    knows now _ _ (behind s [] super held over) owns = tt
    knows now _ _ (behind s (t ∷ tests) super held over) owns = leads s t owns.0.0 held

  makes_present : (r : ℕ) (x : Standing) (ms : List Move) → Makes k r x ms → x ≢ at.Outside
  makes_present r _ _ (takes_trying s t tests) e = absurd cc
  makes_present r _ _ (takes_entering s t tests) e = absurd cc
  makes_present r _ _ (takes_guarding s t tests) e = absurd cc
  makes_present r _ _ (takes_within s t tests) e = absurd cc
  makes_present r _ _ (tries_on s t tests) e = absurd cc
  makes_present r _ _ (enters_on s t tests) e = absurd cc
  makes_present r _ _ (guards_on s t tests) e = absurd cc
  makes_present r _ _ (waits_on s t tests) e = absurd cc
  makes_present r _ _ (acts_on s p f effects) e = absurd cc

  -- ---- a step

  module _ (now d next : Configuration) (r : ℕ) (related : Related k core i now d) (owns : OwnTests k now) (steps : step k r now ≡ Some next) where
    pub stays : (q : ℕ) → LiesElsewhere r q → standing_of next q ≡ standing_of now q
    stays q far =
        ap (λ (z : Configuration). at_number z.regions q) (sym made.is)
        ∙ makes_stay r q far there (standing_of now r) made.change.moves made.makes
        (knows r q far there now (standing_of now r) (standing_of d (i.thread_of r)) (related.regions r there) (owns r)) now.regions
      where
        made : StepMade k r now next
        made = step_made k r now next steps

        there : IsThere k r
        there = present_there k core i now d related r (makes_present r (standing_of now r) made.change.moves made.makes)

    module _ (q : ℕ) (far : LiesElsewhere r q) where
      -- who holds a superstate around it lies elsewhere too
      around_far : (s : ℕ) → Contains (around k q) s → LiesElsewhere r (holder k s)
      around_far s h =
          record {
            other = far.apart s h;
            apart = λ u outer. far.apart u (around_around k (ticks.nested c rules core_rules) (around k q) q s u refl h outer);
          }

      pub guarded_same : (zs : List ℕ) → ((s : ℕ) → Contains zs s → Contains (around k q) s) → is_guarded k next zs ≡ is_guarded k now zs
      guarded_same [] all = refl
      guarded_same (s ∷ zs) all =
          rw (ap guards (stays (holder k s) (around_far s (all s (head_in s zs)))), guarded_same zs (λ u h. all u (tail_in s u zs h))) refl

      work_same : (x : Standing) → ¬ IsWithin x → has_work k next x ≡ has_work k now x
      work_same at.Outside busy = refl
      work_same at.Ended busy = refl
      work_same (at.Trying s []) busy = refl
      work_same (at.Trying s (t ∷ tests)) busy = refl
      work_same (at.Entering s tests) busy = refl
      work_same (at.Guarding s tests) busy = refl
      work_same (at.Acting s effects p) busy = refl
      work_same (at.Within s tests) busy = absurd (busy tt)

      done_same : (x : Standing) → ¬ IsWithin x → inside_is_done k next x ≡ inside_is_done k now x
      done_same at.Outside busy = refl
      done_same at.Ended busy = refl
      done_same (at.Trying s tests) busy = refl
      done_same (at.Entering s tests) busy = refl
      done_same (at.Guarding s tests) busy = refl
      done_same (at.Acting s effects p) busy = refl
      done_same (at.Within s tests) busy = absurd (busy tt)

      -- its turn is as it was
      pub turn_same : ¬ IsWithin (standing_of now q) → is_enabled k next q ≡ is_enabled k now q
      turn_same busy =
          ap (λ x. has_work k next x && (not (is_guarded k next (around k q)) && inside_is_done k next x)) (stays q far)
          ∙ (ap (λ b. b && (not (is_guarded k next (around k q)) && inside_is_done k next (standing_of now q))) (work_same (standing_of now q) busy)
          ∙ (ap (λ b. has_work k now (standing_of now q) && (not b && inside_is_done k next (standing_of now q))) (guarded_same (around k q) (λ s h. h))
          ∙ ap (λ b. has_work k now (standing_of now q) && (not (is_guarded k now (around k q)) && b)) (done_same (standing_of now q) busy)))
