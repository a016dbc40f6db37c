-- An effect of a transition with another one behind it: region and thread do the same.
use Rattle.std.proofs.Common.{◌≡◌, ℕ, zero, suc, ◌<◌, Bool, true, false, Option, Some, None, List, [], ◌∷◌, ◌++◌, length, slice_get, slice_set, refl, sym, ap}
use Rattle.std.proofs.Common.{subst, ◌∙◌, arith}
use Rattle.std.specs.Prelude.{option_map}
use Rattle.std.proofs.lemmas.Option.{same_Some}
use Rattle.sc_values.specs.Runs.{act_of}
use Rattle.core_charts.specs.declared.region.Effect.{Effect}
use Rattle.chart_machine.specs.declared.standing.Standing.{Standing}
use Rattle.chart_machine.specs.declared.standing.Standing.TheVariants as at
use Rattle.chart_machine.specs.declared.standing.Configuration.{Configuration}
use Rattle.chart_machine.specs.declared.table.Table.{Table}
use Rattle.chart_machine.specs.Table.{region_at}
use Rattle.chart_machine.specs.Turns.{standing_of, has_work, is_guarded, is_enabled}
use Rattle.chart_machine.specs.Steps.{to, after, change_of, step, access_of}
use Rattle.chart_machine.specs.Machine.{machine}
use Rattle.abort_expansion_laws.specs.Stages.{Entry, Image}
use Rattle.abort_expansion_laws.proofs.Segments.{Segment}
use Rattle.chart_machine_laws.proofs.LyingIn.{IsNested, around}
use Rattle.abort_expansion_laws.proofs.TablesCorrespond.{IsThere}
use Rattle.abort_expansion_laws.specs.CoreRows.{Images, CoreRows}
use Rattle.abort_expansion_laws.specs.Related.{Stands, outside, ended, left, trying, acting, entering, guarding, staying, within, behind, Watches, Related}
use Rattle.abort_expansion_laws.proofs.Unchanged.{never_guarded}
use Rattle.abort_expansion_laws.proofs.StageReached.{Stage}
use Rattle.abort_expansion_laws.proofs.ImageSteps.{pair, ImageStep, image_segment}
use Rattle.abort_expansion_laws.proofs.KnownVariables.{Stepped, stepped, present_there}
use Rattle.std.specs.Prelude.{option_and_then}
use Rattle.sc_values.specs.declared.value.Value.{Value}
use Rattle.sc_values.specs.Operator.{kind_of}
use Rattle.sc_values.specs.Expr.{value as value_of}
use Rattle.sc_values.specs.Assignment.{assignment_of, access_of_assignment}
use Rattle.sc_graph.specs.Steps.{takes_kind}
use Rattle.sc_graph.specs.declared.program.Variable.{Variable}
use Rattle.sc_values.specs.declared.value.Kind.{Kind}
use Rattle.abort_expansion.specs.Transitions.{counting, place_of}
use Rattle.abort_expansion.proofs.Lists.{at_front}
use Rattle.chart_machine.specs.Steps.{effected}
use Rattle.std.proofs.lemmas.Option.{slice_get_within}
use Rattle.tick_laws.proofs.Lists.{and_then_some}
use Rattle.tick_laws.proofs.Views.{only_if_some}
use Rattle.abort_expansion_laws.proofs.TestFails.{watch_other}
use Rattle.abort_expansion_laws.proofs.MoreValues.{value_over_more}
use Rattle.abort_expansion_laws.proofs.Unchanged.{get_other}
use Rattle.abort_expansion_laws.proofs.TestHolds.{acting_no_inside}
use Rattle.abort_expansion_laws.proofs.TestHolds.{counting_first}
use Rattle.abort_expansion_laws.proofs.AssignedVariables.{assigned_known}

-- ---- an effect of any chart

pub some_kind : (o : Option Kind) (kd : Kind) → takes_kind o kd ≡ true → (z : Kind) × (o ≡ Some z)
some_kind None kd e = absurd cc
some_kind (Some z) kd e = (z, refl)

pub there_variable : (o : Option Variable) (z : Kind) → option_map (λ v. v.kind) o ≡ Some z → (v : Variable) × (o ≡ Some v)
there_variable None z e = absurd cc
there_variable (Some v) z e = (v, refl)

module _ (k : Table) where
  pub does_effect : (c : Configuration) (q s p : ℕ) (e f : Effect) (es : List Effect) (v : Value) → is_guarded k c (around k q) ≡ false →
      standing_of c q ≡ at.Acting s (e ∷ f ∷ es) p →
      value_of e.value c.variables ≡ Some v → takes_kind (option_map (λ z. z.kind) (slice_get k.variables e.variable)) (kind_of v) ≡ true →
      step k q c ≡ Some (record { variables = slice_set c.variables e.variable v; regions = slice_set c.regions q (at.Acting s (f ∷ es) p) })
  does_effect c q s p e f es v free stands is fits =
      let on : is_enabled k c q ≡ true = rw (stands, free) refl in
      let one : effected k q s e (f ∷ es) p v ≡ Some (record {
        write = Some (record { variable = e.variable; value = v });
        moves =
            to q (at.Acting s (f ∷ es) p) ∷ [];
      }) = rw (fits) refl in
      let does : change_of k c q (standing_of c q) ≡ Some (record {
        write = Some (record { variable = e.variable; value = v });
        moves =
            to q (at.Acting s (f ∷ es) p) ∷ [];
      }) =
      ap (change_of k c q) stands ∙ (ap (option_and_then (effected k q s e (f ∷ es) p)) is ∙ one) in
      rw (on, does) refl

-- ---- where a thread acts, taken apart

pub record IsActing (k : Table) (i : Images) (r p : ℕ) (effects : List Effect) (y : Standing) : Type 0 where
  pub from : ℕ
  pub there : p < length (region_at k r).states
  pub is : y ≡ at.Acting from (counting (i.places_of r) p effects) (place_of (i.places_of r) p)

module _ (k core : Table) (i : Images) (c : Configuration) (r : ℕ) where
  pub acting_back : (x y : Standing) → Stands k core i c r x y → (s p : ℕ) (effects : List Effect) → x ≡ at.Acting s effects p → IsActing k i r p effects y
  acting_back _ _ outside s p effects e = absurd cc
  acting_back _ _ (ended inner) s p effects e = absurd cc
  acting_back _ _ (left u ss f over) s p effects e = absurd cc
  acting_back _ _ (trying u others simple held) s p effects e = absurd cc
  acting_back _ _ (acting u v p' f fs lt) s p effects e =
      let target : p' ≡ p = cc in
      let same : f ∷ fs ≡ effects = cc in
      record {
        from = v;
        there = subst (λ z. z < length (region_at k r).states) target lt;
        is = ap (λ z. at.Acting v (counting (i.places_of r) z (f ∷ fs)) (place_of (i.places_of r) z)) target ∙
            ap (λ zs. at.Acting v (counting (i.places_of r) p zs) (place_of (i.places_of r) p)) same;
      }
  acting_back _ _ (entering u fork t others super held leads) s p effects e = absurd cc
  acting_back _ _ (guarding u join t others has held leads) s p effects e = absurd cc
  acting_back _ _ (staying u others super held stays) s p effects e = absurd cc
  acting_back _ _ (within u join others super held stays open_still leads) s p effects e = absurd cc
  acting_back _ _ (behind u others super held over) s p effects e = absurd cc

pub set_front : (xs ys : List Value) (j : ℕ) (v : Value) → j < length xs → slice_set (xs ++ ys) j v ≡ slice_set xs j v ++ ys
set_front [] ys j v lt = absurd (omega (lt, arith))
set_front (w ∷ xs) ys zero v lt = refl
set_front (w ∷ xs) ys (suc j) v lt = ap (λ zs. w ∷ zs) (set_front xs ys j v (omega (lt, arith)))

pub value_size : (xs : List Value) (j : ℕ) (v : Value) → length (slice_set xs j v) ≡ length xs
value_size [] j v = refl
value_size (w ∷ xs) zero v = refl
value_size (w ∷ xs) (suc j) v = ap suc (value_size xs j v)

module _ (k core : Table) (i : Images) (rows : CoreRows k core i) (tree : IsNested k) (counts : ℕ → Bool) (written_at : ℕ → ℕ)
    (c d : Configuration) (related : Related k core i c d) (q s p : ℕ) (e f : Effect) (es : List Effect)
    (stands : standing_of c q ≡ at.Acting s (e ∷ f ∷ es) p) where
  there : IsThere k q
  there = present_there k core i c d related q (λ w. let wrong : at.Acting s (e ∷ f ∷ es) p ≡ at.Outside = sym stands ∙ w in absurd cc)

  pub thread : IsActing k i q p (e ∷ f ∷ es) (standing_of d (i.thread_of q))
  thread = acting_back k core i c q (standing_of c q) (standing_of d (i.thread_of q)) (related.regions q there) s p (e ∷ f ∷ es) stands

  core_stands : standing_of d (i.thread_of q) ≡ at.Acting thread.from (e ∷ f ∷ counting (i.places_of q) p es) (place_of (i.places_of q) p)
  core_stands =
      thread.is
      ∙ ap (λ zs. at.Acting thread.from zs (place_of (i.places_of q) p))
      (counting_first (i.places_of q) p e (f ∷ es) ∙ ap (λ zs. e ∷ zs) (counting_first (i.places_of q) p f es))

  abbrev pub core_goes : Standing
  core_goes = at.Acting thread.from (f ∷ counting (i.places_of q) p es) (place_of (i.places_of q) p)

  module _ (v : Value) (is : value_of e.value c.variables ≡ Some v) (fits : takes_kind (option_map (λ z. z.kind) (slice_get k.variables e.variable))
      (kind_of v) ≡ true) (free : is_guarded k c (around k q) ≡ false)
      (works : has_work k c (standing_of c q) ≡ true) where
    known_variable : (a : Variable) × (slice_get k.variables e.variable ≡ Some a)
    known_variable =
        let z = some_kind (option_map (λ z. z.kind) (slice_get k.variables e.variable)) (kind_of v) fits in
        there_variable (slice_get k.variables e.variable) z.0 z.1

    in_range : e.variable < length k.variables
    in_range = slice_get_within k.variables e.variable known_variable.0 known_variable.1

    core_variable : slice_get core.variables e.variable ≡ slice_get k.variables e.variable
    core_variable =
        ap (λ vs. slice_get vs e.variable) rows.variables ∙ (at_front k.variables rows.added e.variable known_variable.0 known_variable.1 ∙
        sym known_variable.1)

    core_fits : takes_kind (option_map (λ z. z.kind) (slice_get core.variables e.variable)) (kind_of v) ≡ true
    core_fits = ap (λ o. takes_kind (option_map (λ (z : Variable). z.kind) o) (kind_of v)) core_variable ∙ fits

    pub effect_step : ImageStep k core i rows tree counts written_at c d q (at.Acting s (f ∷ es) p) core_goes
        (record { variables = slice_set c.variables e.variable v; regions = slice_set c.regions q (at.Acting s (f ∷ es) p) })
        (record { variables = slice_set d.variables e.variable v; regions = slice_set d.regions (i.thread_of q) core_goes })
        (access_of_assignment e.variable (assignment_of e.variable e.value))
    effect_step =
        record {
          goes =
              record {
                there = there;
                chart = refl;
                core_too = refl;
                ends = rw (stands) refl;
                guards_alike = rw (stands) refl;
                was_there = λ w. let wrong : at.Acting s (e ∷ f ∷ es) p ≡ at.Outside = sym stands ∙ w in absurd cc;
                is_there = λ w. absurd cc;
                stands =
                    subst (λ fs. Stands k core i c q (at.Acting s (f ∷ es) p) (at.Acting thread.from fs (place_of (i.places_of q) p)))
                    (counting_first (i.places_of q) p f es)
                    (acting s thread.from p f es thread.there);
                watches = λ o in_chart has held.
                    watch_other k core i o (standing_of c q) (standing_of d (i.watcher_of o)) (at.Acting s (f ∷ es) p)
                    (subst (λ r. Watches k core i o (standing_of c r) (standing_of d (i.watcher_of o))) held (related.watchers o in_chart has))
                    (λ others w. let wrong : at.Acting s (e ∷ f ∷ es) p ≡ at.Guarding o others = sym stands ∙ w in absurd cc)
                    (λ others w. let wrong : at.Acting s (e ∷ f ∷ es) p ≡ at.Within o others = sym stands ∙ w in absurd cc)
                    (λ others w. absurd cc) (λ others w. absurd cc);
                inside = λ u held inner. absurd (acting_no_inside k core i u s p (e ∷ f ∷ es) (standing_of c q) stands inner);
                inside_back = λ u held inner. absurd (acting_no_inside k core i u s p (f ∷ es) (at.Acting s (f ∷ es) p) refl inner);
                free = free;
                closes = λ v others its w. absurd cc;
                more = related.more;
                variables =
                    ap (λ vs. slice_set vs e.variable v) related.variables ∙
                    set_front c.variables related.more e.variable v (omega (in_range, related.values, arith));
                flag_count = value_size d.variables e.variable v ∙ related.flag_count;
                values = value_size c.variables e.variable v ∙ related.values;
                flags = λ x le. get_other d.variables e.variable x v (λ same. let lt = in_range in omega (lt, le, same, arith));
              };
          works = works;
          free = free;
          steps =
              does_effect core d (i.thread_of q) thread.from (place_of (i.places_of q) p) e f (counting (i.places_of q) p es) v
              (never_guarded k core i rows c d related (around core (i.thread_of q))) core_stands
              (subst (λ vs. value_of e.value vs ≡ Some v) (sym related.variables) (value_over_more related.more e.value c.variables v is)) core_fits;
          chart_access = ap access_of stands;
          core_access = ap access_of core_stands;
          declared = λ x touches.
              let lt = assigned_known e.variable e.value c.variables v is (omega (in_range, related.values, arith)) x touches in
              omega (lt, related.values, arith);
        }

  -- the whole of it
  pub effect_followed : (Told : Configuration → Entry → Type 0) → Told d (Image q (access_of_assignment e.variable (assignment_of e.variable e.value))) →
      (next : Configuration) → step k q c ≡ Some next →
      Segment (machine core) (pair k core i rows tree counts written_at) Told d (Stage k i.thread_of c d) (Stage k i.thread_of next)
      (act_of (machine k) c q ∷ []) (Related k core i next)
  effect_followed Told told next steps =
      let parts : Stepped k q c next = stepped k q c next steps in
      let got = and_then_some (effected k q s e (f ∷ es) p) (value_of e.value c.variables) parts.change (sym (ap (change_of k c q) stands) ∙ parts.does) in
      let kinds = only_if_some (takes_kind (option_map (λ z. z.kind) (slice_get k.variables e.variable)) (kind_of got.0))
      (Some (record { write = Some (record { variable = e.variable; value = got.0 }); moves = to q (at.Acting s (f ∷ es) p) ∷ [] })) parts.change got.2 in
      let change : record { write = Some (record { variable = e.variable; value = got.0 }); moves = to q (at.Acting s (f ∷ es) p) ∷ [] } ≡ parts.change =
      same_Some _ parts.change kinds.1 in
      let is : record { variables = slice_set c.variables e.variable got.0; regions = slice_set c.regions q (at.Acting s (f ∷ es) p) } ≡ next =
      ap (λ w. after w c) change ∙ parts.is in
      subst (λ c'. Segment (machine core) (pair k core i rows tree counts written_at) Told d (Stage k i.thread_of c d) (Stage k i.thread_of c')
      (act_of (machine k) c q ∷ []) (Related k core i c')) is
      (image_segment k core i rows tree counts written_at c d related q (at.Acting s (f ∷ es) p) core_goes
      (record { variables = slice_set c.variables e.variable got.0; regions = slice_set c.regions q (at.Acting s (f ∷ es) p) })
      (record { variables = slice_set d.variables e.variable got.0; regions = slice_set d.regions (i.thread_of q) core_goes })
      (access_of_assignment e.variable (assignment_of e.variable e.value)) (effect_step got.0 got.1 kinds.0 parts.free parts.works) Told told)
