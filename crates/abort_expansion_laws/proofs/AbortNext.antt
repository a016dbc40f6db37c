-- An abort whose test is next and holds, be it strong or weak: what its step needs of the chart, of the core, and of the abort's flag.
use Rattle.std.specs.Prelude.{◌≡◌, ◌≢◌, ℕ, suc, ◌<◌, ◌≤◌, ◌⊎◌, Bool, true, false, pos, Some, List, [], ◌∷◌, ◌++◌, length, slice_get, option_map}
use Rattle.std.specs.Prelude.{Contains}
use Rattle.sc_values.specs.declared.value.Value.{Value}
use Rattle.sc_values.specs.declared.value.Value.TheVariants as value_is
use Rattle.sc_values.specs.Operator.{kind_of}
use Rattle.sc_graph.specs.Steps.{takes_kind}
use Rattle.core_charts.specs.declared.region.Transition.{Transition}
use Rattle.core_charts.specs.Tests.{at_once}
use Rattle.core_charts.specs.Aborts.{has_aborts}
use Rattle.chart_machine.specs.declared.standing.Standing.TheVariants as at
use Rattle.chart_machine.specs.declared.standing.Configuration.{Configuration}
use Rattle.chart_machine.specs.declared.table.Table.{Table}
use Rattle.chart_machine.specs.Turns.{standing_of, has_work, is_guarded, inside}
use Rattle.chart_machine.specs.Steps.{state_in, verdict, access_of, access_of_trigger}
use Rattle.abort_expansion.specs.Transitions.{put, is_raised, go, answers, strong_checks}
use Rattle.chart_machine_laws.specs.Tree.{IsNested, IsThere, around, holder}
use Rattle.abort_expansion_laws.specs.CoreRows.{own, IsState, IsSuper, joins, Images, CoreRows, flags_around, behind_transitions, pair}
use Rattle.abort_expansion_laws.specs.Stages.{ReadsFlag}
use Rattle.abort_expansion_laws.specs.Related.{IsInside}
use Rattle.abort_expansion_laws.specs.StageReached.{stage_of}
use Rattle.abort_expansion_laws.proofs.MayLeave.{MayLeave}
use Rattle.abort_expansion_laws.proofs.Answering.{AllFail}

module _ (k core : Table) (i : Images) (rows : CoreRows k core i) (tree : IsNested k) (counts : ℕ → Bool) (written_at : ℕ → ℕ) where
  -- y, a strong flag of a superstate s around region r, is not raised, and is another one than x
  pub record IsDownAround (d : Configuration) (r x s y : ℕ) : Type 0 where
    pub added : length k.variables ≤ y
    pub differs : y ≢ x
    pub low : slice_get d.variables y ≡ Some (value_is.Int (pos 0))
    pub home_is : (pair k core i rows tree counts written_at).home y ≡ i.thread_of (holder k s)
    pub reads : ReadsFlag (pair k core i rows tree counts written_at) (i.thread_of r) (Some ((pair k core i rows tree counts written_at).home y, 1)) y

  -- region r holds superstate o, whose abort t is tested at this stage, and raises flag x
  pub record AbortNext (c d : Configuration) (r o stage x : ℕ) (t : Transition) : Type 0 where
    pub there : IsThere k r
    pub o_there : IsState k o
    pub has : has_aborts (own k o) ≡ true
    pub held : holder k o ≡ r
    pub super : IsSuper k o
    pub was_inside : IsInside k core i o (standing_of c r)
    pub works : has_work k c (standing_of c r) ≡ true
    pub free : is_guarded k c (around k r) ≡ false
    pub chart_access : access_of (standing_of c r) ≡ access_of_trigger t.trigger
    pub true_there : verdict c.variables t.trigger ≡ Some true
    pub staged : (stage ≡ 0) ⊎ (stage ≡ 2)
    pub stage_now : stage_of k c (standing_of c r) ≡ stage
    -- where the region's thread stands, and the monitor
    pub join : ℕ
    pub leads : state_in core (i.thread_of r) join ≡ i.behind_of o
    pub forked : standing_of d (i.thread_of r) ≡ at.Within (i.main_of o) (joins join ∷ [])
    pub number : ℕ
    pub immediate : Bool
    pub other_tests : List Transition
    pub watching : standing_of d (i.watcher_of o) ≡ at.Trying (i.watching_of o) (go immediate t.trigger (put x (suc number) ∷ []) 1 ∷ other_tests)
    pub watching_alone : inside core (i.watching_of o) ≡ []
    -- the flag
    pub added : length k.variables ≤ x
    pub in_range : x < length core.variables
    pub is_int : takes_kind (option_map (λ z. z.kind) (slice_get core.variables x)) (kind_of (value_is.Int (pos 0))) ≡ true
    pub of_flag : rows.of_flag x ≡ o
    pub no_counter : counts x ≡ false
    pub written : written_at x ≡ stage
    pub flags_differ : (s : ℕ) → s ≢ o → ((i.flags_of s).strong ≢ Some x) × ((i.flags_of s).weak ≢ Some x) × ((i.flags_of s).counter ≢ Some x)
    -- once it is raised, everybody inside leaves
    pub leaves : (first : Configuration) → verdict first.variables (Some (is_raised x)) ≡ Some true →
        ((y : ℕ) → y ≢ x → slice_get first.variables y ≡ slice_get d.variables y) →
        ((g : ℕ) → g ≢ i.watcher_of o → standing_of first g ≡ standing_of d g) → standing_of first (i.watcher_of o) ≡ at.Ended → (g : ℕ) →
        Contains (around core g) (i.main_of o) →
        MayLeave core (pair k core i rows tree counts written_at) (i.thread_of r) (suc stage) (i.main_of o) first g (standing_of first g)
    -- the continuation looks at the strong flags around, and answers it, after tests that fail
    pub around_down : (s y : ℕ) → Contains (around k r) s → (i.flags_of s).strong ≡ Some y → IsDownAround d r x s y
    pub earlier : List Transition
    pub aborts : List Transition
    pub behind_them : List Transition
    pub numbered : slice_get aborts number ≡ Some t
    pub continues : at_once (behind_transitions k core i r o) ≡
        strong_checks true (i.places_of r).left (flags_around k core i r)
        ++ (earlier ++ at_once (answers (i.places_of r) (Some x) 1 aborts ++ behind_them))
    pub earlier_fail : (values : List Value) → ((y : ℕ) → y ≢ x → slice_get values y ≡ slice_get d.variables y) →
        AllFail (pair k core i rows tree counts written_at) (i.thread_of r) values earlier
