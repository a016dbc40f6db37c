-- A transition to a final state of a superstate that counts: its thread counts down, and then enters what stands for the state.
use Rattle.std.proofs.Common.{◌≡◌, ℕ, suc, pos, ◌+◌, ◌<◌, ◌≤◌, inl, inr, ⊎_elim, Bool, true, false, Option, Some, List, [], ◌∷◌}
use Rattle.std.proofs.Common.{map, length, slice_get, slice_set, Contains, refl, sym, ap, subst, ◌∙◌, arith, if◌then◌else◌}
use Rattle.std.proofs.lemmas.Option.{same_Some}
use Rattle.sc_values.specs.declared.value.Value.{Value}
use Rattle.sc_values.specs.declared.value.Value.TheVariants as value_is
use Rattle.sc_values.specs.declared.operator.Combination.TheVariants as combine
use Rattle.sc_values.specs.Access.{Access}
use Rattle.core_charts.specs.declared.region.Effect.{Effect}
use Rattle.core_charts.specs.Aborts.{has_aborts}
use Rattle.chart_machine.specs.declared.standing.Standing.{Standing}
use Rattle.chart_machine.specs.declared.standing.Standing.TheVariants as at
use Rattle.chart_machine.specs.declared.standing.Configuration.{Configuration}
use Rattle.chart_machine.specs.declared.table.Table.{Table}
use Rattle.chart_machine.specs.Table.{state_at}
use Rattle.chart_machine.specs.Turns.{standing_of, has_ended, has_work, guards, is_guarded, inside}
use Rattle.chart_machine.specs.Steps.{to, moved, state_in, step, access_of}
use Rattle.chart_machine.specs.Machine.{machine}
use Rattle.abort_expansion.specs.Transitions.{count_down, place_of}
use Rattle.tick_laws.proofs.Lists.{same_or_not}
use Rattle.chart_machine_laws.proofs.LyingIn.{IsNested, around, holder, head_in}
use Rattle.abort_expansion_laws.specs.CoreRows.{own, IsState, is_final, Images, CoreRows, RegionImage, counter_over}
use Rattle.abort_expansion_laws.specs.Related.{IsInside, guarded, open_inside, Stores, still_in, not_ended, Related}
use Rattle.abort_expansion_laws.specs.Stages.{Entry, Silent, Correspondence, IsSilent}
use Rattle.abort_expansion_laws.proofs.Supplying.{climbs_step, silent_count, combines}
use Rattle.abort_expansion_laws.proofs.TablesCorrespond.{IsThere}
use Rattle.abort_expansion_laws.proofs.Segments.{Segment}
use Rattle.abort_expansion_laws.proofs.Unchanged.{stands_same, stands_other, no_guards, unguarded, set_twice, none_among}
use Rattle.abort_expansion_laws.proofs.StageReached.{some_work, stage_of, Stage, any_in, inside_in}
use Rattle.abort_expansion_laws.proofs.ImageSteps.{pair}
use Rattle.abort_expansion_laws.proofs.KnownVariables.{present_there}
use Rattle.abort_expansion_laws.proofs.CoreSteps.{writes_last}
use Rattle.abort_expansion_laws.proofs.CounterValues.{counted_value, counted_access}
use Rattle.abort_expansion_laws.proofs.StartingRegions.{Once, CounterRows}
use Rattle.abort_expansion_laws.proofs.EffectFollowed.{IsActing, acting_back}
use Rattle.abort_expansion_laws.proofs.Owed.{Counts, core_enters}
use Rattle.abort_expansion_laws.proofs.StandsInside.{inside_present}
use Rattle.abort_expansion_laws.proofs.Arriving.{at_most}

module _ (k core : Table) (i : Images) (rows : CoreRows k core i) (tree : IsNested k) (counts : ℕ → Bool) (written_at : ℕ → ℕ)
    (Told : Configuration → Entry → Type 0)
    (told : (d : Configuration) (t : ℕ) (stage : Option (ℕ × ℕ)) (a : Access) → Told d (Silent t stage a))
    (counters : CounterRows k core i rows counts written_at)
    (c d : Configuration) (related : Related k core i c d) (q s p : ℕ) (e : Effect) (stands : standing_of c q ≡ at.Acting s (e ∷ []) p)
    (free : is_guarded k c (around k q) ≡ false) (final : is_final k (state_in k q p) ≡ true) (u : ℕ) (us : List ℕ) (direct : around k q ≡ u ∷ us)
    (u_there : IsState k u) (x : ℕ) (counter : (i.flags_of u).counter ≡ Some x) where
  abbrev g : ℕ
  g = i.thread_of q

  abbrev corr : Correspondence
  corr = pair k core i rows tree counts written_at

  there : IsThere k q
  there = present_there k core i c d related q (λ w. let wrong : at.Acting s (e ∷ []) p ≡ at.Outside = sym stands ∙ w in absurd cc)

  image : RegionImage k core i q
  image = rows.region q there

  acts : IsActing k i q p (e ∷ []) (standing_of d g)
  acts = acting_back k core i c q (standing_of c q) (standing_of d g) (related.regions q there) s p (e ∷ []) stands

  inner : Contains (around k q) u
  inner = subst (λ zs. Contains zs u) (sym direct) (head_in u us)

  stands_inside : IsInside k core i u (standing_of c (holder k u))
  stands_inside =
      related.enclosed q u there (λ w. let wrong : at.Acting s (e ∷ []) p ≡ at.Outside = sym stands ∙ w in absurd cc) inner

  holder_there : IsThere k (holder k u)
  holder_there = present_there k core i c d related (holder k u) (inside_present k core i u (standing_of c (holder k u)) stands_inside)

  -- ---- the counter holds how many regions have not ended, this one among them

  going : has_ended (standing_of c q) ≡ false
  going = ap has_ended stands

  one_more : (rs : List ℕ) → Once q rs → (n : ℕ) × (still_in k core i c rs ≡ suc n)
  one_more [] once = absurd once
  one_more (r ∷ rs) (inl (is, out)) =
      let not_over : has_ended (standing_of c r) ≡ false = ap (λ z. has_ended (standing_of c z)) is ∙ going in
      (still_in k core i c rs, rw (not_over) (one_up (still_in k core i c rs)))
    where
      one_up : (n : ℕ) → 1 + n ≡ suc n
      one_up n = omega arith
  one_more (r ∷ rs) (inr (ne, once)) =
      let rest = one_more rs once in
      let sum = rest.1 in
      ((if has_ended (standing_of c r) then 0 else 1) + rest.0, rw (sum) (up (if has_ended (standing_of c r) then 0 else 1) rest.0))
    where
      up : (a b : ℕ) → a + suc b ≡ suc (a + b)
      up a b = omega arith

  pub left_over : (n : ℕ) × (not_ended k core i c u ≡ suc n)
  left_over = one_more (state_at k u).regions (counters.once q u us there direct)

  abbrev pub n : ℕ
  n = left_over.0

  few : n < 2147483648
  few = let top = at_most k core i c (state_at k u).regions in let bound = counters.few u in let is = left_over.1 in omega (top, bound, is, arith)

  stored : slice_get d.variables x ≡ Some (value_is.Int (pos (suc n)))
  stored =
      subst (λ o. Stores k core i d.variables o (suc n)) counter
      (subst (Stores k core i d.variables (i.flags_of u).counter) left_over.1 (related.flags u u_there stands_inside).counter)

  abbrev pub values : List Value
  values = slice_set d.variables x (value_is.Int (pos n))

  pub counted : Counts k core i (is_final k (state_in k q p)) (counter_over k core i (around k q)) d.variables values
  counted =
      subst (λ b. Counts k core i b (counter_over k core i (around k q)) d.variables values) (sym final)
      (subst (λ o. Counts k core i true o d.variables values) (sym (ap (counter_over k core i) direct ∙ counter))
      (value_is.Int (pos n), counted_value x n d.variables few stored, refl))

  -- ---- the step

  module _ (v : ℕ) where
    abbrev acting_on : Standing
    acting_on = at.Acting v (count_down x ∷ []) (place_of (i.places_of q) p)

    -- before it, and after it
    abbrev pub before : Configuration
    before = record { variables = d.variables; regions = slice_set d.regions g acting_on }

    abbrev pub arrived : Configuration
    arrived = core_enters k core i d values q p

    in_core : g < length d.regions
    in_core = let lt = image.there.1 in omega (lt, related.core_regions, arith)

    acts_there : standing_of before g ≡ acting_on
    acts_there = stands_same d before g acting_on refl in_core

    calm : (t : ℕ) → guards (standing_of before t) ≡ false
    calm t =
        ⊎_elim (λ same. ap (λ z. guards (standing_of before z)) same ∙ ap guards acts_there)
        (λ ne. ap guards (stands_other d before g t acting_on refl ne) ∙ no_guards k core i rows c d related t) (same_or_not t g)

    ends : (state_at core (state_in core g (place_of (i.places_of q) p))).entered ≡ to g at.Ended ∷ []
    ends =
        ap (λ z. (state_at core z).entered) (image.places p acts.there)
        ∙ ((rows.final (state_in k q p) final).ended ∙ ap (λ z. to (i.thread_of z) at.Ended ∷ []) (image.holds p acts.there))

    arrives : slice_set (slice_set d.regions g acting_on) g at.Ended ≡ moved (state_at core (i.entry_of (state_in k q p))).entered d.regions
    arrives =
        set_twice d.regions g acting_on at.Ended
        ∙ ap (λ ms. moved ms d.regions)
        (sym ((rows.final (state_in k q p) final).ended ∙ ap (λ z. to (i.thread_of z) at.Ended ∷ []) (image.holds p acts.there)))

    steps : step core g before ≡ Some arrived
    steps =
        writes_last core before g v (place_of (i.places_of q) p) (count_down x) (value_is.Int (pos n)) at.Ended
        (unguarded core before calm (around core g)) acts_there (counted_value x n d.variables few stored) (counters.counter_kind u x counter) ends
        ∙ ap (λ zs. Some (record { variables = values; regions = zs })) arrives

    -- ---- its stage

    home_is : corr.home x ≡ i.thread_of (holder k u)
    home_is = ap (λ z. holder core (i.main_of z)) (counters.counter_of u x counter) ∙ rows.held u

    within_it : corr.Within g x
    within_it =
        subst (λ z. Contains (around core g) (i.main_of z)) (sym (counters.counter_of u x counter))
        (subst (λ zs. Contains zs (i.main_of u)) (sym (rows.encloses q ∙ ap (map i.main_of) direct)) (head_in (i.main_of u) (map i.main_of us)))

    abbrev at_one : Option (ℕ × ℕ)
    at_one = Some (corr.home x, written_at x)

    fits : IsSilent corr g at_one (combines x combine.Add)
    fits = silent_count corr g at_one x (rows.counter_added u x counter) (counters.counter_counts u x counter, refl, within_it, refl)

    busy : some_work k c u ≡ true
    busy = any_in (λ r. has_work k c (standing_of c r)) (inside k u) q (inside_in k u q there inner) (ap (has_work k c) stands)

    not_guarding : guards (standing_of c (holder k u)) ≡ false
    not_guarding = none_among (λ z. guards (standing_of c (holder k z))) (around k q) u free inner

    at_stage_one : (z : Standing) → IsInside k core i u z → guards z ≡ false → stage_of k c z ≡ 1
    at_stage_one _ (guarded tests) w = absurd cc
    at_stage_one _ (open_inside tests) w = rw (busy) (one_of (has_aborts (own k u)))
      where
        one_of : (b : Bool) → ◌≡◌ {A = ℕ} (if b then 1 else 1) 1
        one_of true = refl
        one_of false = refl

    home_stage : stage_of k c (standing_of c (holder k u)) ≡ 1
    home_stage = at_stage_one (standing_of c (holder k u)) stands_inside not_guarding

    abbrev Before : ℕ → ℕ → Type 0
    Before = Stage k i.thread_of c before

    abbrev After : ℕ → ℕ → Type 0
    After = Stage k i.thread_of c arrived

    own_stage : (h m : ℕ) → at_one ≡ Some (h, m) → ((w : ℕ) → Before h w → w ≤ m) × After h m
    own_stage h m is = (
      λ w reached. let le = reached.regions (holder k u) holder_there at_home in let one = home_stage in omega (le, one, is_one, arith),
      record {
        regions = λ r r_there f.
            let same : holder k u ≡ r = rows.region_once (holder k u) r (sym at_home ∙ f) in
            let one : stage_of k c (standing_of c r) ≡ 1 = subst (λ z. stage_of k c (standing_of c z) ≡ 1) same home_stage in omega (one, is_one, arith);
        chart = λ f. omega (is_one, arith);
      },
    )
      where
        both : ◌≡◌ {A = ℕ × ℕ} (corr.home x, written_at x) (h, m)
        both = same_Some (corr.home x, written_at x) (h, m) is

        at_home : h ≡ i.thread_of (holder k u)
        at_home = sym (ap (λ z. z.0) both) ∙ home_is

        is_one : m ≡ 1
        is_one = sym (ap (λ z. z.1) both) ∙ counters.counter_at u x counter

    pub counts_first : Segment (machine core) corr Told before (Stage k i.thread_of c before) (Stage k i.thread_of c) [] (λ z. z ≡ arrived)
    counts_first =
        record {
          log = Silent g at_one (combines x combine.Add) ∷ [];
          last = arrived;
          follows = (
            ap (λ a. record { thread = g; access = a }) (sym (ap access_of acts_there ∙ counted_access x)),
            told before g at_one (combines x combine.Add),
            (arrived, steps, refl),
          );
          charted = refl;
          fits = (fits, tt);
          climbs = λ more climbs.
              climbs_step corr Before After (Silent g at_one (combines x combine.Add)) more own_stage
              (λ h m ne reached. record { regions = reached.regions; chart = reached.chart }) climbs;
          reaches = refl;
        }
