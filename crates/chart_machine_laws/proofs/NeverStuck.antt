-- Wherever a chart comes, each enabled region has a step.
use Rattle.std.proofs.Common.{◌≡◌, ℕ, zero, suc, Bool, true, false, not, ◌&&◌, Option, Some, None, List, [], ◌∷◌, map, slice_get, slice_set}
use Rattle.std.proofs.Common.{unwrap_or, option_map, option_and_then, if◌then◌else◌, refl, sym, ap, subst, ◌∙◌}
use Rattle.std.specs.List.{list_all}
use Rattle.sc_values.specs.declared.expression.Expr.{Expr}
use Rattle.sc_values.specs.declared.value.Kind.{Kind}
use Rattle.sc_values.specs.declared.value.Kind.TheVariants as of_kind
use Rattle.sc_values.specs.declared.value.Value.{Value}
use Rattle.sc_values.specs.declared.value.Value.TheVariants as value
use Rattle.sc_values.specs.Operator.{kind_of}
use Rattle.sc_values.specs.Expr.{value as value_of}
use Rattle.sc_values.proofs.WellKinded.{Gives, value_gives}
use Rattle.sc_graph.specs.declared.program.Variable.{Variable}
use Rattle.sc_graph.specs.Steps.{only_if, takes_kind, is_kind}
use Rattle.sc_graph.specs.Tick.{Inputs}
use Rattle.sc_text.specs.Parts.{IsExpression}
use Rattle.sc_text.proofs.EachItem.{Each, each_append}
use Rattle.core_charts.specs.declared.region.Effect.{Effect}
use Rattle.core_charts.specs.declared.region.Transition.{Transition}
use Rattle.core_charts.specs.Rules.{kinds_of, IsEffect, depth_limit}
use Rattle.core_charts.specs.Tests.{strong_aborts, closing_tests}
use Rattle.chart_machine.specs.declared.region_change.RegionChange.{RegionChange}
use Rattle.chart_machine.specs.declared.region_change.Write.{Write}
use Rattle.chart_machine.specs.declared.standing.Configuration.{Configuration}
use Rattle.chart_machine.specs.declared.standing.Move.{Move}
use Rattle.chart_machine.specs.declared.standing.Standing.{Standing}
use Rattle.chart_machine.specs.declared.standing.Standing.TheVariants as at
use Rattle.chart_machine.specs.declared.table.RegionRow.{RegionRow}
use Rattle.chart_machine.specs.declared.table.Table.{Table}
use Rattle.chart_machine.specs.Table.{table, state_at, region_at}
use Rattle.chart_machine.specs.Turns.{standing_of, has_work, is_guarded, inside, inside_is_done, is_enabled}
use Rattle.chart_machine.specs.Steps.{to, moved, written, after, truth, verdict, state_in, dropped, acts, taken, tested, entering_on, guarding_on}
use Rattle.chart_machine.specs.Steps.{effected, change_of, step}
use Rattle.chart_machine.specs.Machine.{guarded_first, woken, is_outside, regions_at_start, start}
use Rattle.chart_machine_laws.specs.Progress.{KeepKinds, IsReached, first, begun, stepped, ChartsNeverStick}
use Rattle.chart_machine_laws.proofs.SoundRows.{SoundTest, SoundStanding, SoundMove, SoundRow, strong_sound, closing_sound, first_closing_sound}
use Rattle.chart_machine_laws.proofs.SoundRows.{rows_sound, row_sound}
use Rattle.chart_machine_laws.proofs.SoundValues.{Kinded, are_of_kinds, kept_kinds, initial_kinds, started_kinds}

each_set : {X : Type 0} (P : X → Type 0) (xs : List X) (i : ℕ) (x : X) → Each P xs → P x → Each P (slice_set xs i x)
each_set P [] i x h k = tt
each_set P (y ∷ xs) zero x h k = (k, h.1)
each_set P (y ∷ xs) (suc i) x h k = (h.0, each_set P xs i x h.1 k)

both_parts : (a b : Bool) → (a && b) ≡ true → a ≡ true
both_parts true b h = refl
both_parts false b h = absurd cc

of_bool : (v : Value) → kind_of v ≡ of_kind.Bool → (b : Bool) × (v ≡ value.Bool b)
of_bool (value.Bool b) h = (b, refl)
of_bool (value.Int n) h = absurd cc

same_kind : (k : Kind) → is_kind k k ≡ true
same_kind of_kind.Bool = refl
same_kind of_kind.Int = refl

and_then_parts : {A B : Type 0} (o : Option A) (f : A → B) (y : B) → option_map f o ≡ Some y → (x : A) × (o ≡ Some x) × (f x ≡ y)
and_then_parts None f y h = absurd cc
and_then_parts (Some x) f y h = (x, refl, cc)

only_parts : {A : Type 0} (b : Bool) (o : Option A) (y : A) → only_if b o ≡ Some y → (b ≡ true) × (o ≡ Some y)
only_parts true o y h = (refl, h)
only_parts false o y h = absurd cc

-- the table of a chart that keeps its rules
pub record SoundTable (k : Table) : Type 0 where
  pub rows : Each (SoundRow k.variables) k.states
  pub opened : Each (SoundMove k.variables) k.opened

pub record Sound (k : Table) (c : Configuration) : Type 0 where
  pub values : Kinded k.variables c.variables
  pub regions : Each (SoundStanding k.variables) c.regions

module _ (k : Table) (rows : SoundTable k) where
  abbrev Tests : List Transition → Type 0
  Tests tests = Each (SoundTest k.variables) tests

  abbrev Moves : List Move → Type 0
  Moves moves = Each (SoundMove k.variables) moves

  row : (s : ℕ) → SoundRow k.variables (state_at k s)
  row s = row_sound k rows.rows s

  moved_sound : (moves : List Move) (regions : List Standing) → Moves moves → Each (SoundStanding k.variables) regions →
      Each (SoundStanding k.variables) (moved moves regions)
  moved_sound [] regions h g = g
  moved_sound (m ∷ moves) regions h g = moved_sound moves (slice_set regions m.region m.standing) h.1 (each_set (SoundStanding k.variables) regions
      m.region m.standing g h.0)

  -- ---- what a step does

  abbrev SoundWrite : Option Write → Type 0
  SoundWrite None = Unit {0}
  SoundWrite (Some w) = (x : Variable) × (slice_get k.variables w.variable ≡ Some x) × (kind_of w.value ≡ x.kind)

  record HasChange (o : Option RegionChange) : Type 0 where
    change : RegionChange
    is : o ≡ Some change
    write : SoundWrite change.write
    moves : Moves change.moves

  all_outside : (rs : List ℕ) → Moves (map (λ r. to r at.Outside) rs)
  all_outside [] = tt
  all_outside (r ∷ rs) = (tt, all_outside rs)

  acts_sound : (r s : ℕ) (effects : List Effect) (target : ℕ) → Each (IsEffect k.variables) effects → Moves (acts k r s effects target)
  acts_sound r s [] target h = (row (state_in k r target)).entered
  acts_sound r s (e ∷ effects) target h = ((h, λ none. absurd cc), tt)

  taken_sound : (r s : ℕ) (t : Transition) → SoundTest k.variables t → Moves (taken k r s t)
  taken_sound r s t h = each_append (SoundMove k.variables) (dropped k s) (acts k r s t.effects t.target) (all_outside (inside k s)) (acts_sound r s
      t.effects t.target h.effects)

  entering_sound : (r s : ℕ) (tests : List Transition) → Tests tests → Moves (entering_on k r s tests)
  entering_sound r s [] h = (first_closing_sound k.variables (state_at k s).transitions (row s).transitions, (row s).opened)
  entering_sound r s (t ∷ tests) h = ((h, λ none. absurd cc), tt)

  guarding_sound : (r s : ℕ) (tests : List Transition) → Tests tests → Moves (guarding_on k r s tests)
  guarding_sound r s [] h = (closing_sound k.variables (state_at k s).transitions (row s).transitions, tt)
  guarding_sound r s (t ∷ tests) h = ((h, λ none. absurd cc), tt)

  module _ (c : Configuration) (sound : Sound k c) where
    known : (trigger : Option Expr) → ((e : Expr) → trigger ≡ Some e → IsExpression (kinds_of k.variables) of_kind.Bool e) →
        (b : Bool) × (verdict c.variables trigger ≡ Some b)
    known None h = (true, refl)
    known (Some e) h =
        let g : Gives (value_of e c.variables) of_kind.Bool = value_gives e (kinds_of k.variables) c.variables of_kind.Bool
        (are_of_kinds k.variables c.variables sound.values) (h e refl).kinded in
        let b : (b : Bool) × (g.value ≡ value.Bool b) = of_bool g.value g.kind in
        (b.0, ap (option_and_then truth) g.is ∙ ap truth b.1)

    tested_has : (r s : ℕ) (t : Transition) (otherwise : List Move) → SoundTest k.variables t → Moves otherwise → HasChange (tested k c r s t otherwise)
    tested_has r s t otherwise h others =
        let b : (b : Bool) × (verdict c.variables t.trigger ≡ Some b) = known t.trigger h.trigger in
        record {
          change = record { write = None; moves = if b.0 then taken k r s t else otherwise };
          is = ap (option_map (λ (holds : Bool). record { write = None; moves = if holds then taken k r s t else otherwise })) b.1;
          write = tt;
          moves = by b.0;
        }
      where
        by : (b : Bool) → Moves (if b then taken k r s t else otherwise)
        by true = taken_sound r s t h
        by false = others

    effected_has : (r s : ℕ) (e : Effect) (effects : List Effect) (target : ℕ) → IsEffect k.variables e → Each (IsEffect k.variables) effects →
        HasChange (option_and_then (effected k r s e effects target) (value_of e.value c.variables))
    effected_has r s e effects target h more =
        let g : Gives (value_of e.value c.variables) h.target.kind = value_gives e.value (kinds_of k.variables) c.variables h.target.kind
        (are_of_kinds k.variables c.variables sound.values) h.value.kinded in
        let d : RegionChange = record { write = Some (record { variable = e.variable; value = g.value }); moves = acts k r s effects target } in
        let fits : takes_kind (option_map (λ (x : Variable). x.kind) (slice_get k.variables e.variable)) (kind_of g.value) ≡ true =
        ap (λ o. takes_kind (option_map (λ (x : Variable). x.kind) o) (kind_of g.value)) h.is_target ∙ (ap (is_kind h.target.kind) g.kind ∙ same_kind
        h.target.kind) in
        record {
          change = d;
          is = ap (option_and_then (effected k r s e effects target)) g.is ∙ ap (λ b. only_if b (Some d)) fits;
          write = (h.target, h.is_target, g.kind);
          moves = acts_sound r s effects target more;
        }

    has_change : (r : ℕ) (x : Standing) → SoundStanding k.variables x → has_work k c x ≡ true → HasChange (change_of k c r x)
    has_change r (at.Trying s (t ∷ tests)) h work = tested_has r s t (to r (at.Trying s tests) ∷ []) h.0 (h.1, tt)
    has_change r (at.Entering s (t ∷ tests)) h work = tested_has r s t (entering_on k r s tests) h.0.0 (entering_sound r s tests h.0.1)
    has_change r (at.Guarding s (t ∷ tests)) h work = tested_has r s t (guarding_on k r s tests) h.0.0 (guarding_sound r s tests h.0.1)
    has_change r (at.Within s (t ∷ tests)) h work = tested_has r s t (to r (at.Within s tests) ∷ []) h.0 (h.1, tt)
    has_change r (at.Acting s (e ∷ effects) target) h work = effected_has r s e effects target h.0.0 h.0.1
    has_change r (at.Trying s []) h work = absurd cc
    has_change r (at.Entering s []) h work = absurd (h.1 refl)
    has_change r (at.Guarding s []) h work = absurd (h.1 refl)
    has_change r (at.Within s []) h work = absurd cc
    has_change r (at.Acting s [] target) h work = absurd (h.1 refl)
    has_change r at.Outside h work = absurd cc
    has_change r at.Ended h work = absurd cc

    standing_sound : (r : ℕ) → SoundStanding k.variables (standing_of c r)
    standing_sound r = by c.regions sound.regions r
      where
        by : (xs : List Standing) → Each (SoundStanding k.variables) xs → (i : ℕ) → SoundStanding k.variables (unwrap_or (slice_get xs i) at.Outside)
        by [] h i = tt
        by (x ∷ xs) h zero = h.0
        by (x ∷ xs) h (suc i) = by xs h.1 i

    enabled_has : (r : ℕ) → is_enabled k c r ≡ true → HasChange (change_of k c r (standing_of c r))
    enabled_has r enabled =
        has_change r (standing_of c r) (standing_sound r)
        (both_parts (has_work k c (standing_of c r)) (not (is_guarded k c (region_at k r).around) && inside_is_done k c (standing_of c r)) enabled)

    written_sound : (w : Option Write) → SoundWrite w → Kinded k.variables (written w c.variables)
    written_sound None h = sound.values
    written_sound (Some w) h = kept_kinds k.variables c.variables sound.values w.variable h.0 h.1 w.value h.2

    after_sound : (d : RegionChange) → SoundWrite d.write → Moves d.moves → Sound k (after d c)
    after_sound d write moves = record { values = written_sound d.write write; regions = moved_sound d.moves c.regions moves sound.regions }

    pub has_step : (r : ℕ) → is_enabled k c r ≡ true → (d : Configuration) × (step k r c ≡ Some d)
    has_step r enabled =
        let h : HasChange (change_of k c r (standing_of c r)) = enabled_has r enabled in (
          after h.change c,
          ap (λ b. only_if b (option_map (λ d. after d c) (change_of k c r (standing_of c r)))) enabled ∙
              ap (option_map (λ d. after d c)) h.is,
        )

    step_sound : (r : ℕ) (d : Configuration) → step k r c ≡ Some d → Sound k d
    step_sound r d steps =
        let parts : (is_enabled k c r ≡ true) × (option_map (λ d. after d c) (change_of k c r (standing_of c r)) ≡ Some d) =
        only_parts (is_enabled k c r) (option_map (λ d. after d c) (change_of k c r (standing_of c r))) d steps in
        let h : HasChange (change_of k c r (standing_of c r)) = enabled_has r parts.0 in
        let led : Some (after h.change c) ≡ Some d = sym (ap (option_map (λ d. after d c)) h.is) ∙ parts.1 in
        let same : after h.change c ≡ d = cc in
        subst (Sound k) same (after_sound h.change h.write h.moves)

  -- ---- the start of a tick

  guarded_sound : (s : ℕ) (strong closing : List Transition) → Tests strong → Tests closing → SoundStanding k.variables (guarded_first s strong closing)
  guarded_sound s [] closing strongs closings = closings
  guarded_sound s (t ∷ strong) closing strongs closings = (strongs, λ none. absurd cc)

  woken_sound : (x : Standing) → SoundStanding k.variables x → SoundStanding k.variables (woken k x)
  woken_sound (at.Trying s tests) h = (row s).transitions
  woken_sound (at.Within s tests) h =
      guarded_sound s (strong_aborts (state_at k s).transitions) (closing_tests (state_at k s).transitions)
      (strong_sound k.variables (state_at k s).transitions (row s).transitions) (closing_sound k.variables (state_at k s).transitions (row s).transitions)
  woken_sound at.Outside h = h
  woken_sound at.Ended h = h
  woken_sound (at.Entering s tests) h = h
  woken_sound (at.Guarding s tests) h = h
  woken_sound (at.Acting s effects target) h = h

  all_woken : (xs : List Standing) → Each (SoundStanding k.variables) xs → Each (SoundStanding k.variables) (map (woken k) xs)
  all_woken [] h = tt
  all_woken (x ∷ xs) h = (woken_sound x h.0, all_woken xs h.1)

  start_sound : (inputs : Inputs) (c : Configuration) → KeepKinds k.variables inputs → Sound k c → Sound k (start k inputs c)
  start_sound inputs c keep sound = record {
    values = started_kinds inputs k.variables c.variables keep sound.values;
    regions = by (list_all is_outside c.regions);
  }
    where
      by : (b : Bool) → Each (SoundStanding k.variables) (regions_at_start k b c.regions)
      by true = moved_sound k.opened c.regions rows.opened sound.regions
      by false = all_woken c.regions sound.regions

  nobody : (xs : List RegionRow) → Each (SoundStanding k.variables) (map (λ r. at.Outside) xs)
  nobody [] = tt
  nobody (x ∷ xs) = (tt, nobody xs)

  reached_sound : (c : Configuration) → IsReached k c → Sound k c
  reached_sound c first = record { values = initial_kinds k.variables; regions = (tt, nobody k.regions) }
  reached_sound c (begun b inputs before keep) = start_sound inputs b keep (reached_sound b before)
  reached_sound c (stepped b d r before steps) = step_sound b (reached_sound b before) r d steps

pub never_stuck : ChartsNeverStick
never_stuck f h rules c reached r enabled =
    let both : Each (SoundRow h.variables) (table h).states × Each (SoundMove h.variables) (table h).opened = rows_sound h.variables f depth_limit
    h.regions rules.regions in
    let rows : SoundTable (table h) = record { rows = both.0; opened = both.1 } in
    has_step (table h) rows c (reached_sound (table h) rows c reached) r enabled
