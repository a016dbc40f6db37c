-- A superstate is left, and all inside it dropped: the transition goes on with its effects, or enters its target.
use Rattle.std.proofs.Common.{◌≡◌, ℕ, ◌<◌, Bool, true, false, Option, Some, None, List, [], ◌∷◌, length, slice_set, Contains}
use Rattle.std.proofs.Common.{refl, sym, ap, subst, ◌∙◌}
use Rattle.std.proofs.lemmas.Option.{same_Some}
use Rattle.sc_values.specs.declared.value.Value.{Value}
use Rattle.sc_values.specs.Access.{Access}
use Rattle.sc_values.specs.Runs.{act_of}
use Rattle.core_charts.specs.declared.region.Effect.{Effect}
use Rattle.core_charts.specs.declared.region.Transition.{Transition}
use Rattle.chart_machine.specs.declared.standing.Standing.{Standing}
use Rattle.chart_machine.specs.declared.standing.Standing.TheVariants as at
use Rattle.chart_machine.specs.declared.standing.Move.{Move}
use Rattle.chart_machine.specs.declared.standing.Configuration.{Configuration}
use Rattle.chart_machine.specs.declared.table.Table.{Table}
use Rattle.chart_machine.specs.Table.{state_at, region_at}
use Rattle.chart_machine.specs.Turns.{standing_of, is_guarded, inside}
use Rattle.chart_machine.specs.Steps.{state_in, moved, acts, taken, tested, after, change_of, verdict, step}
use Rattle.chart_machine.specs.Machine.{machine}
use Rattle.abort_expansion.specs.Transitions.{put, counting, place_of}
use Rattle.abort_expansion_laws.specs.Stages.{Entry, Silent}
use Rattle.abort_expansion_laws.proofs.Segments.{Segment, segment_on}
use Rattle.chart_machine_laws.proofs.LyingIn.{IsNested, around}
use Rattle.abort_expansion_laws.specs.CoreRows.{IsState, Images, CoreRows, pair}
use Rattle.abort_expansion_laws.specs.Related.{Related}
use Rattle.abort_expansion_laws.proofs.StageReached.{Stage}
use Rattle.abort_expansion_laws.proofs.KnownVariables.{Stepped, stepped}
use Rattle.abort_expansion_laws.proofs.TestFails.{tested_is}
use Rattle.abort_expansion_laws.proofs.Leaving.{drops, moved_append}
use Rattle.abort_expansion_laws.proofs.StartingRegions.{CounterRows}
use Rattle.abort_expansion_laws.proofs.EffectAhead.{BeginsAt, overwritten, staged}
use Rattle.abort_expansion_laws.proofs.Owed.{Enters, chart_enters}
use Rattle.abort_expansion_laws.proofs.TestHolds.{counting_first}
use Rattle.abort_expansion_laws.proofs.Arriving.{arrives}

-- where the chart's step leads by which a transition out of a superstate is taken
pub chart_takes : (k : Table) (c : Configuration) (r o : ℕ) (t : Transition) (otherwise : List Move) → verdict c.variables t.trigger ≡ Some true →
    change_of k c r (standing_of c r) ≡ tested k c r o t otherwise → (last : Configuration) → step k r c ≡ Some last →
    last ≡ record { variables = c.variables; regions = moved (acts k r o t.effects t.target) (moved (drops (inside k o)) c.regions) }
chart_takes k c r o t otherwise true_there change last steps =
    let parts : Stepped k r c last = stepped k r c last steps in
    let same : record { write = None; moves = taken k r o t } ≡ parts.change =
    same_Some _ parts.change (sym (change ∙ tested_is k c r o t otherwise true true_there) ∙ parts.does) in
    sym (ap (λ zs. record { variables = c.variables; regions = zs }) (sym (moved_append (drops (inside k o)) (acts k r o t.effects t.target) c.regions))
    ∙ (ap (λ w. after w c) same ∙ parts.is))

module _ (k core : Table) (i : Images) (rows : CoreRows k core i) (tree : IsNested k) (counts : ℕ → Bool) (written_at : ℕ → ℕ)
    (Told : Configuration → Entry → Type 0) (c d : Configuration) (r o : ℕ) (t : Transition) where
  -- the chart's configuration where it goes on with these effects, whatever its own are
  abbrev pub goes_on_with : Effect → List Effect → Configuration
  goes_on_with e es = record { variables = c.variables; regions = slice_set (moved (drops (inside k o)) c.regions) r (at.Acting o (e ∷ es) t.target) }

  -- the core's, from these standings
  abbrev pub core_goes_on : ℕ → List Value → List Standing → Effect → List Effect → Configuration
  core_goes_on u values from e es = record {
    variables = values;
    regions = slice_set from (i.thread_of r) (at.Acting u (counting (i.places_of r) t.target (e ∷ es)) (place_of (i.places_of r) t.target));
  }

  -- where the core's step leads
  abbrev pub core_leads : ℕ → List Value → List Standing → Configuration
  core_leads u values from = record {
    variables = values;
    regions = moved (acts core (i.thread_of r) u (counting (i.places_of r) t.target t.effects) (place_of (i.places_of r) t.target)) from;
  }

  abbrev pub Followed : Configuration → (Configuration → Type 0) → Type 0
  Followed last Reaches = Segment (machine core) (pair k core i rows tree counts written_at) Told d (Stage k i.thread_of c d) (Stage k i.thread_of last)
      (act_of (machine k) c r ∷ []) Reaches

  module _ (u : ℕ) (values : List Value) (from : List Standing) (last : Configuration)
      (leads : last ≡ record { variables = c.variables; regions = moved (acts k r o t.effects t.target) (moved (drops (inside k o)) c.regions) }) where
    -- it has effects
    pub with_effects : (e : Effect) (es : List Effect) → Related k core i (goes_on_with e es) (core_goes_on u values from e es) →
        Followed (goes_on_with e es) (λ w. w ≡ core_leads u values from) → t.effects ≡ e ∷ es → Followed last (Related k core i last)
    with_effects e es related s some =
        let chart_is : goes_on_with e es ≡ last =
        sym (leads ∙ ap (λ fs. record { variables = c.variables; regions = moved (acts k r o fs t.target) (moved (drops (inside k o)) c.regions) }) some) in
        let counted : counting (i.places_of r) t.target t.effects ≡ e ∷ counting (i.places_of r) t.target es =
        ap (counting (i.places_of r) t.target) some ∙ counting_first (i.places_of r) t.target e es in
        let core_is : core_goes_on u values from e es ≡ core_leads u values from =
        ap (λ fs. record { variables = values; regions = slice_set from (i.thread_of r) (at.Acting u fs (place_of (i.places_of r) t.target)) })
        (counting_first (i.places_of r) t.target e es)
        ∙ sym (ap (λ fs. record {
          variables = values;
          regions = moved (acts core (i.thread_of r) u fs (place_of (i.places_of r) t.target)) from;
        }) counted) in
        subst (λ w. Followed w (Related k core i w)) chart_is
        (record {
          log = s.log;
          last = s.last;
          follows = s.follows;
          charted = s.charted;
          fits = s.fits;
          climbs = s.climbs;
          reaches = subst (Related k core i (goes_on_with e es)) (core_is ∙ sym s.reaches) related;
        })

    abbrev made_now : Configuration
    made_now = record {
      variables = values;
      regions = moved (acts core (i.thread_of r) u (counting (i.places_of r) t.target []) (place_of (i.places_of r) t.target)) from;
    }

    -- it has none, and enters its target: it is taken as if it had one effect more
    pub without_effects : (told : (e : Configuration) (g : ℕ) (at_stage : Option (ℕ × ℕ)) (a : Access) → Told e (Silent g at_stage a))
        (enters : Enters k core i rows tree counts written_at Told) (counters : CounterRows k core i rows counts written_at)
        (super_there : (q s : ℕ) → Contains (around k q) s → IsState k s) → t.target < length (region_at k r).states →
        BeginsAt r (state_at k (state_in k r t.target)).entered → BeginsAt (i.thread_of r) (state_at core (i.entry_of (state_in k r t.target))).entered →
        standing_of (goes_on_with (put 0 0) []) r ≡ at.Acting o (put 0 0 ∷ []) t.target → is_guarded k (goes_on_with (put 0 0) []) (around k r) ≡ false →
        Related k core i (goes_on_with (put 0 0) []) (core_goes_on u values from (put 0 0) []) →
        Followed (goes_on_with (put 0 0) []) (λ w. w ≡ core_leads u values from) → t.effects ≡ [] → Followed last (Related k core i last)
    without_effects told enters counters super_there target_there chart_first core_first here free related s none =
        subst (λ w. Followed w (Related k core i w)) chart_is
        (segment_on (machine core) (pair k core i rows tree counts written_at) Told d (Stage k i.thread_of c d) (Stage k i.thread_of (goes_on_with
        (put 0 0) []))
        (Stage k i.thread_of (chart_enters k core i (goes_on_with (put 0 0) []) r t.target)) (act_of (machine k) c r ∷ []) []
        (λ w. w ≡ core_leads u values from) (Related k core i (chart_enters k core i (goes_on_with (put 0 0) []) r t.target)) s
        (subst (λ w. Segment (machine core) (pair k core i rows tree counts written_at) Told w (Stage k i.thread_of (goes_on_with (put 0 0) []) w)
        (Stage k i.thread_of (chart_enters k core i (goes_on_with (put 0 0) []) r t.target)) []
        (Related k core i (chart_enters k core i (goes_on_with (put 0 0) []) r t.target)))
        (core_is ∙ sym s.reaches)
        (staged k core i rows tree counts written_at Told (goes_on_with (put 0 0) []) (core_goes_on u values from (put 0 0) [])
        (chart_enters k core i (goes_on_with (put 0 0) []) r t.target) made_now rest)))
      where
        z : Standing
        z = at.Acting u (counting (i.places_of r) t.target (put 0 0 ∷ [])) (place_of (i.places_of r) t.target)

        rest : Segment (machine core) (pair k core i rows tree counts written_at) Told made_now
            (Stage k i.thread_of (goes_on_with (put 0 0) []) (core_goes_on u values from (put 0 0) []))
            (Stage k i.thread_of (chart_enters k core i (goes_on_with (put 0 0) []) r t.target)) []
            (Related k core i (chart_enters k core i (goes_on_with (put 0 0) []) r t.target))
        rest = arrives k core i rows tree counts written_at Told told enters counters super_there (goes_on_with (put 0 0) [])
            (core_goes_on u values from (put 0 0) []) related r o t.target (put 0 0) here target_there free core_first u from z refl

        core_is : made_now ≡ core_leads u values from
        core_is = ap (λ fs. record {
          variables = values;
          regions = moved (acts core (i.thread_of r) u (counting (i.places_of r) t.target fs) (place_of (i.places_of r) t.target)) from;
        }) (sym none)

        chart_is : chart_enters k core i (goes_on_with (put 0 0) []) r t.target ≡ last
        chart_is =
            ap (λ zs. record { variables = c.variables; regions = zs })
            (overwritten r (state_at k (state_in k r t.target)).entered chart_first (moved (drops (inside k o)) c.regions) (at.Acting o
            (put 0 0 ∷ []) t.target))
            ∙ sym (leads ∙ ap (λ fs. record { variables = c.variables; regions = moved (acts k r o fs t.target) (moved (drops (inside k o)) c.regions) }) none)
