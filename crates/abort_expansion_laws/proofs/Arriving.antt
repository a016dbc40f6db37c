-- The effects of a transition are made: the core counts down where the target is final, and enters it.
use Rattle.std.proofs.Common.{◌≡◌, ◌≢◌, ℕ, suc, ◌+◌, ◌<◌, ◌≤◌, inl, inr, ⊎_elim, Bool, true, false, pos, Option, Some, None, List, [], ◌∷◌}
use Rattle.std.proofs.Common.{length, slice_get, slice_set, unwrap_or, Contains, refl, sym, ap, subst, ◌∙◌, arith, if◌then◌else◌}
use Rattle.std.proofs.lemmas.Option.{same_Some}
use Rattle.std.proofs.lemmas.List.{length-set}
use Rattle.sc_values.specs.declared.value.Value.{Value}
use Rattle.sc_values.specs.declared.value.Value.TheVariants as value_is
use Rattle.sc_values.specs.Expr.{value as value_of}
use Rattle.sc_values.specs.Access.{Access}
use Rattle.core_charts.specs.declared.region.Effect.{Effect}
use Rattle.core_charts.specs.Aborts.{has_aborts}
use Rattle.chart_machine.specs.declared.standing.Standing.{Standing}
use Rattle.chart_machine.specs.declared.standing.Standing.TheVariants as at
use Rattle.chart_machine.specs.declared.standing.Configuration.{Configuration}
use Rattle.chart_machine.specs.declared.table.Table.{Table}
use Rattle.chart_machine.specs.Table.{state_at, region_at}
use Rattle.chart_machine.specs.Turns.{standing_of, has_ended, has_work, guards as has_to_guard, is_guarded, inside}
use Rattle.chart_machine.specs.Steps.{state_in, acts, moved, access_of, step}
use Rattle.chart_machine.specs.Machine.{machine}
use Rattle.abort_expansion.specs.Transitions.{on, count_down, counting, place_of}
use Rattle.tick_laws.proofs.Lists.{same_or_not}
use Rattle.abort_expansion_laws.specs.Stages.{Entry, Silent, Correspondence, IsSilent, Climbs}
use Rattle.abort_expansion_laws.proofs.Supplying.{climbs_step, silent_count, combines}
use Rattle.abort_expansion_laws.proofs.Segments.{Segment, segment_on}
use Rattle.abort_expansion_laws.proofs.SilentSteps.{silent_step}
use Rattle.chart_machine_laws.proofs.LyingIn.{IsNested, around, holder, head_in}
use Rattle.abort_expansion_laws.proofs.TablesCorrespond.{IsThere}
use Rattle.abort_expansion_laws.specs.CoreRows.{own, IsState, is_final, Images, CoreRows, RegionImage, counter_over, pair}
use Rattle.abort_expansion_laws.specs.Related.{IsInside, guarded, open_inside, still_in, not_ended, Stores, Related}
use Rattle.abort_expansion_laws.specs.StageReached.{some_work}
use Rattle.abort_expansion_laws.proofs.StageReached.{Stage, stage_of, any_in, inside_in, one_at_least, one_at_most}
use Rattle.abort_expansion_laws.proofs.Unchanged.{no_guards, unguarded, none_among}
use Rattle.abort_expansion_laws.proofs.KnownVariables.{present_there}
use Rattle.abort_expansion_laws.proofs.CounterValues.{counted_value, counted_access}
use Rattle.abort_expansion_laws.proofs.StartingRegions.{Once, CounterRows}
use Rattle.abort_expansion_laws.proofs.CoreSteps.{writes_on}
use Rattle.abort_expansion_laws.proofs.Leaving.{at_number, set_here, set_other}
use Rattle.abort_expansion_laws.proofs.EffectAhead.{BeginsAt, overwritten, none_counted}
use Rattle.abort_expansion_laws.proofs.Owed.{Counts, Enters, chart_enters, core_enters}
use Rattle.abort_expansion_laws.proofs.StandsInside.{inside_present}
use Rattle.abort_expansion_laws.proofs.ThreadsAround.{thread_within}

-- ---- how many are still in

module _ (k core : Table) (i : Images) (c : Configuration) where
  some_in : (r : ℕ) (rs : List ℕ) → has_ended (standing_of c r) ≡ false → Once r rs → (m : ℕ) × (still_in k core i c rs ≡ suc m)
  some_in r [] not_ended_yet once = absurd once
  some_in r (q ∷ rs) not_ended_yet (inl (is, out)) =
      let one : has_ended (standing_of c q) ≡ false = ap (λ p. has_ended (standing_of c p)) is ∙ not_ended_yet in
      (still_in k core i c rs, rw (one) (first_one (still_in k core i c rs)))
    where
      first_one : (n : ℕ) → 1 + n ≡ suc n
      first_one n = omega arith
  some_in r (q ∷ rs) not_ended_yet (inr (ne, once)) =
      let rest = some_in r rs not_ended_yet once in
      ((if has_ended (standing_of c q) then 0 else 1) + rest.0, rw (rest.1) (one_more (if has_ended (standing_of c q) then 0 else 1) rest.0))
    where
      one_more : (a b : ℕ) → a + suc b ≡ suc (a + b)
      one_more a b = omega arith

  pub at_most : (rs : List ℕ) → still_in k core i c rs ≤ length rs
  at_most [] = omega arith
  at_most (q ∷ rs) = let rest = at_most rs in one_or_none (has_ended (standing_of c q)) (still_in k core i c rs) (length rs) rest
    where
      one_or_none : (b : Bool) (n l : ℕ) → n ≤ l → (if b then 0 else 1) + n ≤ suc l
      one_or_none true n l le = omega (le, arith)
      one_or_none false n l le = omega (le, arith)

module _ (k core : Table) (i : Images) (rows : CoreRows k core i) (tree : IsNested k) (counts : ℕ → Bool) (written_at : ℕ → ℕ)
    (Told : Configuration → Entry → Type 0) (told : (e : Configuration) (t : ℕ) (at_stage : Option (ℕ × ℕ)) (a : Access) → Told e (Silent t at_stage a))
    (enters : Enters k core i rows tree counts written_at Told) (counters : CounterRows k core i rows counts written_at)
    (super_there : (q s : ℕ) → Contains (around k q) s → IsState k s)
    (c d : Configuration) (related : Related k core i c d) (r s p : ℕ) (e : Effect) (stands : standing_of c r ≡ at.Acting s (e ∷ []) p)
    (p_there : p < length (region_at k r).states) (free : is_guarded k c (around k r) ≡ false)
    (core_first : BeginsAt (i.thread_of r) (state_at core (i.entry_of (state_in k r p))).entered)
    (u : ℕ) (zs : List Standing) (z : Standing) (core_regions : d.regions ≡ slice_set zs (i.thread_of r) z) where
  abbrev corr : Correspondence
  corr = pair k core i rows tree counts written_at

  abbrev c' : Configuration
  c' = chart_enters k core i c r p

  -- the core has made the effects that the chart has; it counts down or enters next
  abbrev pub made : Configuration
  made = record { variables = d.variables; regions = moved (acts core (i.thread_of r) u (counting (i.places_of r) p []) (place_of (i.places_of r) p)) zs }

  there : IsThere k r
  there = present_there k core i c d related r (λ w. let wrong : at.Acting s (e ∷ []) p ≡ at.Outside = sym stands ∙ w in absurd cc)

  image : RegionImage k core i r
  image = rows.region r there

  leads : (state_at core (state_in core (i.thread_of r) (place_of (i.places_of r) p))).entered ≡ (state_at core (i.entry_of (state_in k r p))).entered
  leads = ap (λ n. (state_at core n).entered) (image.places p p_there)

  -- what is entered overwrites where the thread stood
  entering_from : (values : List Value) → core_enters k core i d values r p ≡ record {
    variables = values;
    regions = moved (state_at core (i.entry_of (state_in k r p))).entered zs;
  }
  entering_from values =
      ap (λ ws. record { variables = values; regions = moved (state_at core (i.entry_of (state_in k r p))).entered ws }) core_regions
      ∙ ap (λ ws. record { variables = values; regions = ws }) (overwritten (i.thread_of r) (state_at core (i.entry_of
      (state_in k r p))).entered core_first zs z)

  abbrev Arrives : Configuration → Type 0
  Arrives from = Segment (machine core) corr Told from (Stage k i.thread_of c d) (Stage k i.thread_of c') [] (Related k core i c')

  at_once_in : counting (i.places_of r) p [] ≡ [] →
      Counts k core i (is_final k (state_in k r p)) (counter_over k core i (around k r)) d.variables d.variables → Arrives made
  at_once_in none not_counted =
      subst Arrives
      (entering_from d.variables
      ∙ (ap (λ ms. record { variables = d.variables; regions = moved ms zs }) (sym leads)
      ∙ ap (λ fs. record { variables = d.variables; regions = moved (acts core (i.thread_of r) u fs (place_of (i.places_of r) p)) zs }) (sym none)))
      (enters c d related r s p e stands free d.variables not_counted)

  -- ---- counting down

  module _ (x : ℕ) (o : ℕ) (os : List ℕ) (round : around k r ≡ o ∷ os) (counter : (i.flags_of o).counter ≡ Some x)
      (counted : counting (i.places_of r) p [] ≡ count_down x ∷ []) (final : is_final k (state_in k r p) ≡ true) where
    in_o : Contains (around k r) o
    in_o = subst (λ ss. Contains ss o) (sym round) (head_in o os)

    present : standing_of c r ≢ at.Outside
    present w = let wrong : at.Acting s (e ∷ []) p ≡ at.Outside = sym stands ∙ w in absurd cc

    inside_o : IsInside k core i o (standing_of c (holder k o))
    inside_o = related.enclosed r o there present in_o

    how_many : (m : ℕ) × (not_ended k core i c o ≡ suc m)
    how_many = some_in k core i c r (state_at k o).regions (ap has_ended stands) (counters.once r o os there round)

    stored : slice_get d.variables x ≡ Some (value_is.Int (pos (suc how_many.0)))
    stored =
        subst (λ f. Stores k core i d.variables f (not_ended k core i c o)) counter (related.flags o (super_there r o in_o) inside_o).counter
        ∙ ap (λ n. Some (value_is.Int (pos n))) how_many.1

    few : how_many.0 < 2147483648
    few = let most = at_most k core i c (state_at k o).regions in let lt = counters.few o in let is = how_many.1 in omega (most, lt, is, arith)

    value_is_there : value_of (count_down x).value d.variables ≡ Some (value_is.Int (pos how_many.0))
    value_is_there = counted_value x how_many.0 d.variables few stored

    abbrev less : Value
    less = value_is.Int (pos how_many.0)

    abbrev acting_now : Standing
    acting_now = at.Acting u (count_down x ∷ []) (place_of (i.places_of r) p)

    abbrev counting_now : Configuration
    counting_now = record { variables = d.variables; regions = slice_set zs (i.thread_of r) acting_now }

    abbrev counted_now : Configuration
    counted_now = record {
      variables = slice_set d.variables x less;
      regions = moved (state_at core (i.entry_of (state_in k r p))).entered (slice_set zs (i.thread_of r) acting_now);
    }

    size : length zs ≡ length d.regions
    size = sym (ap length core_regions ∙ length-set zs (i.thread_of r) z)

    here : standing_of counting_now (i.thread_of r) ≡ acting_now
    here = let lt = image.there.1 in let same = size in set_here zs (i.thread_of r) acting_now (omega (lt, same, related.core_regions, arith))

    other : (t : ℕ) → t ≢ i.thread_of r → standing_of counting_now t ≡ standing_of d t
    other t ne = set_other zs (i.thread_of r) t acting_now ne ∙ sym (ap (λ ws. at_number ws t) core_regions ∙ set_other zs (i.thread_of r) t z ne)

    quiet : (t : ℕ) → has_to_guard (standing_of counting_now t) ≡ false
    quiet t =
        ⊎_elim (λ same. ap (λ q. has_to_guard (standing_of counting_now q)) same ∙ ap has_to_guard here)
        (λ ne. ap has_to_guard (other t ne) ∙ no_guards k core i rows c d related t) (same_or_not t (i.thread_of r))

    steps : step core (i.thread_of r) counting_now ≡ Some counted_now
    steps =
        writes_on core counting_now (i.thread_of r) u (place_of (i.places_of r) p) (count_down x) less (state_at core (i.entry_of (state_in k r p))).entered
        (unguarded core counting_now quiet (around core (i.thread_of r))) here value_is_there (counters.counter_kind o x counter) leads

    -- the stage of the superstate is 1

    owner : rows.of_flag x ≡ o
    owner = counters.counter_of o x counter

    home_is : corr.home x ≡ i.thread_of (holder k o)
    home_is = ap (λ v. holder core (i.main_of v)) owner ∙ rows.held o

    busy : some_work k c o ≡ true
    busy = any_in (λ q. has_work k c (standing_of c q)) (inside k o) r (inside_in k o r there in_o) (ap (has_work k c) stands)

    not_guarding : has_to_guard (standing_of c (holder k o)) ≡ false
    not_guarding = none_among (λ v. has_to_guard (standing_of c (holder k v))) (around k r) o free in_o

    holder_there : IsThere k (holder k o)
    holder_there = present_there k core i c d related (holder k o) (inside_present k core i o (standing_of c (holder k o)) inside_o)

    low : (w : Standing) → IsInside k core i o w → stage_of k c w ≤ 1
    low _ (guarded tests) = omega arith
    low _ (open_inside tests) = rw (busy) (one_at_most (has_aborts (own k o)))

    high : (w : Standing) → IsInside k core i o w → has_to_guard w ≡ false → 1 ≤ stage_of k c w
    high _ (guarded tests) on = absurd cc
    high _ (open_inside tests) on = one_at_least (has_aborts (own k o)) _ _

    most : (n : ℕ) → Stage k i.thread_of c d (corr.home x) n → n ≤ 1
    most n before =
        let le = before.regions (holder k o) holder_there home_is in
        let one = low (standing_of c (holder k o)) inside_o in omega (le, one, arith)

    reaches : Stage k i.thread_of c d (corr.home x) 1
    reaches =
        record {
          regions = λ q q_there is.
              let same : holder k o ≡ q = rows.region_once (holder k o) q (sym home_is ∙ is) in
              subst (λ v. 1 ≤ stage_of k c (standing_of c v)) same (high (standing_of c (holder k o)) inside_o not_guarding);
          chart = λ is. omega arith;
        }

    climbs_one : (rest : List Entry) → Climbs corr (Stage k i.thread_of c d) rest →
        Climbs corr (Stage k i.thread_of c d) (Silent (i.thread_of r) (Some (corr.home x, 1)) (combines x corr.counting) ∷ rest)
    climbs_one rest climbs =
        climbs_step corr (Stage k i.thread_of c d) (Stage k i.thread_of c d) (Silent (i.thread_of r) (Some (corr.home x, 1)) (combines x corr.counting)) rest
        (λ h n is.
        let both : ◌≡◌ {A = ℕ × ℕ} (corr.home x, 1) (h, n) = same_Some (corr.home x, 1) (h, n) is in
        let at_home : corr.home x ≡ h = ap (λ v. v.0) both in
        let one : 1 ≡ n = ap (λ v. v.1) both in (
          λ v before. let le = most v (subst (λ w. Stage k i.thread_of c d w v) (sym at_home) before) in omega (le, one, arith),
          subst (λ w. Stage k i.thread_of c d w n) at_home (subst (Stage k i.thread_of c d (corr.home x)) one reaches),
        ))
        (λ h n ne before. before) climbs

    within : corr.Within (i.thread_of r) x
    within =
        subst (λ v. Contains (around core (i.thread_of r)) (i.main_of v)) (sym owner)
        (thread_within k core i rows r o in_o)

    fits : IsSilent corr (i.thread_of r) (Some (corr.home x, 1)) (combines x corr.counting)
    fits =
        silent_count corr (i.thread_of r) (Some (corr.home x, 1)) x (rows.counter_added o x counter)
        (counters.counter_counts o x counter, refl, within, stage_is)
      where
        stage_is : ◌≡◌ {A = Option (ℕ × ℕ)} (Some (corr.home x, 1)) (Some (corr.home x, written_at x))
        stage_is = ap (λ (n : ℕ). Some (corr.home x, n)) (sym (counters.counter_at o x counter))

    counts_it : Counts k core i (is_final k (state_in k r p)) (counter_over k core i (around k r)) d.variables (slice_set d.variables x less)
    counts_it =
        subst (λ b. Counts k core i b (counter_over k core i (around k r)) d.variables (slice_set d.variables x less)) (sym final)
        (subst (λ f. Counts k core i true f d.variables (slice_set d.variables x less)) (sym (ap (counter_over k core i) round ∙ counter))
        (less, value_is_there, refl))

    arrived : counted_now ≡ core_enters k core i d (slice_set d.variables x less) r p
    arrived =
        ap (λ ws. record { variables = slice_set d.variables x less; regions = ws })
        (overwritten (i.thread_of r) (state_at core (i.entry_of (state_in k r p))).entered core_first zs acting_now)
        ∙ sym (entering_from (slice_set d.variables x less))

    count_step : Segment (machine core) corr Told counting_now (Stage k i.thread_of c d) (λ last. Stage k i.thread_of c d) [] (λ w. w ≡ counted_now)
    count_step =
        silent_step (machine core) corr Told told counting_now counted_now (i.thread_of r) (Some (corr.home x, 1)) (combines x corr.counting)
        (Stage k i.thread_of c d) (Stage k i.thread_of c d) (λ w. w ≡ counted_now) steps (ap access_of here ∙ counted_access x) fits climbs_one refl

    counts_in : Arrives made
    counts_in =
        subst Arrives
        (ap (λ fs. record { variables = d.variables; regions = moved (acts core (i.thread_of r) u fs (place_of (i.places_of r) p)) zs }) (sym counted))
        (segment_on (machine core) corr Told counting_now (Stage k i.thread_of c d) (λ last. Stage k i.thread_of c d) (Stage k i.thread_of c') [] []
        (λ w. w ≡ counted_now) (Related k core i c') count_step
        (subst Arrives (sym arrived ∙ sym count_step.reaches)
        (enters c d related r s p e stands free (slice_set d.variables x less) counts_it)))

  -- whatever the target is
  pub arrives : Segment (machine core) corr Told made (Stage k i.thread_of c d) (Stage k i.thread_of c') [] (Related k core i c')
  arrives = by_end (is_final k (state_in k r p)) refl
    where
      finals : unwrap_or (slice_get (i.places_of r).finals p) false ≡ is_final k (state_in k r p)
      finals = image.finals p p_there

      counted_by : (f : Option ℕ) → (i.places_of r).counter ≡ f → is_final k (state_in k r p) ≡ true → counting (i.places_of r) p [] ≡ on f count_down
      counted_by f e final = let b : unwrap_or (slice_get (i.places_of r).finals p) false ≡ true = finals ∙ final in rw (b, e) refl

      by_counter : is_final k (state_in k r p) ≡ true → (os : List ℕ) → around k r ≡ os → (f : Option ℕ) → counter_over k core i os ≡ f → Arrives made
      by_counter final os round None e =
          let counter : (i.places_of r).counter ≡ None = image.counter ∙ (ap (counter_over k core i) round ∙ e) in
          at_once_in (counted_by None counter final)
          (subst (λ b. Counts k core i b (counter_over k core i (around k r)) d.variables d.variables) (sym final)
          (subst (λ g. Counts k core i true g d.variables d.variables) (sym (ap (counter_over k core i) round ∙ e)) refl))
      by_counter final [] round (Some x) e = absurd cc
      by_counter final (o ∷ os) round (Some x) e =
          counts_in x o os round e (counted_by (Some x) (image.counter ∙ (ap (counter_over k core i) round ∙ e)) final) final

      by_end : (b : Bool) → is_final k (state_in k r p) ≡ b → Arrives made
      by_end true final = by_counter final (around k r) refl (counter_over k core i (around k r)) refl
      by_end false not_final =
          let b : unwrap_or (slice_get (i.places_of r).finals p) false ≡ false = finals ∙ not_final in
          at_once_in (rw (b) refl) (none_counted k core i (is_final k (state_in k r p)) (counter_over k core i (around k r)) d.variables not_final)
