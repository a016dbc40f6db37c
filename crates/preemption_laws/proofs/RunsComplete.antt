-- Where the runs of a chart are bounded, each one can be completed, since each enabled region has a step.
use Rattle.std.proofs.Common.{◌≡◌, ℕ, zero, suc, ◌<◌, ◌≤◌, ◌⊎◌, inl, inr, ⊎_elim, true, false, not, ◌&&◌, Option, Some, None, option_and_then, List, []}
use Rattle.std.proofs.Common.{◌∷◌, ◌++◌}
use Rattle.std.proofs.Common.{map, option_map, length, slice_get, unwrap_or, refl, sym, ap, ◌∙◌, arith}
use Rattle.std.proofs.lemmas.Bool.{cases_lt, cases_Bool, and_parts}
use Rattle.std.proofs.lemmas.Option.{none-some, same_Some, slice_get_within}
use Rattle.sc_values.specs.declared.value.Value.{Value}
use Rattle.sc_values.specs.Operator.{kind_of, initial_value}
use Rattle.sc_values.specs.Runs.{replay, IsOver, Completes}
use Rattle.sc_graph.specs.declared.program.Role.TheVariants as role
use Rattle.sc_graph.specs.declared.program.Variable.{Variable}
use Rattle.sc_graph.specs.Tick.{Inputs, given, value_at_start, values_at_start}
use Rattle.core_charts.specs.declared.features.Features.{Features}
use Rattle.core_charts.specs.Chart.{Chart}
use Rattle.core_charts.specs.Rules.{IsChart}
use Rattle.chart_machine.specs.declared.standing.Standing.{Standing}
use Rattle.chart_machine.specs.declared.standing.Standing.TheVariants as at
use Rattle.chart_machine.specs.declared.standing.Configuration.{Configuration}
use Rattle.chart_machine.specs.declared.table.Table.{Table}
use Rattle.chart_machine.specs.Table.{table, region_at}
use Rattle.chart_machine.specs.Turns.{standing_of, has_work, is_enabled, is_guarded, inside_is_done}
use Rattle.chart_machine.specs.Steps.{step, change_of, after}
use Rattle.tick_laws.proofs.Views.{only_if_some}
use Rattle.chart_machine.specs.Machine.{machine}
use Rattle.chart_machine_laws.specs.Progress.{IsReached, stepped}
use Rattle.chart_machine_laws.proofs.NeverStuck.{never_stuck}
use Rattle.preemption_laws.proofs.ByRank.{holds_along}
use Rattle.preemption_laws.proofs.CoreRuns.{Within}

-- ---- what is given for an input is of its kind

pub start_value : (inputs : Inputs) (xs : List Variable) (vs : List Value) (i : ℕ) (x : Variable) (v : Value) → length xs ≡ length vs →
    slice_get xs i ≡ Some x → x.role ≡ role.Input → given inputs x.name ≡ Some v → slice_get (values_at_start inputs xs vs) i ≡ Some v
start_value inputs [] vs i x v same is input gives = absurd (none-some x is)
start_value inputs (y ∷ xs) [] i x v same is input gives = absurd (omega (same, arith))
start_value inputs (y ∷ xs) (w ∷ vs) zero x v same is input gives =
    let here : y ≡ x = same_Some y x is in
    ap Some (ap (λ (z : Variable). value_at_start inputs z z.role w) here ∙ (ap (λ r. value_at_start inputs x r w) input
    ∙ ap (λ o. unwrap_or o (initial_value x.kind)) gives))
start_value inputs (y ∷ xs) (w ∷ vs) (suc i) x v same is input gives = start_value inputs xs vs i x v (omega (same, arith)) is input gives

pub kind_at : (vs : List Value) (xs : List Variable) (i : ℕ) (v : Value) (x : Variable) → map kind_of vs ≡ map (λ (y : Variable). y.kind) xs →
    slice_get vs i ≡ Some v → slice_get xs i ≡ Some x → kind_of v ≡ x.kind
kind_at [] xs i v x kinds is is_too = absurd (none-some v is)
kind_at (w ∷ vs) [] i v x kinds is is_too = absurd (none-some x is_too)
kind_at (w ∷ vs) (y ∷ xs) zero v x kinds is is_too =
    let same : kind_of w ≡ y.kind = cc in ap kind_of (sym (same_Some w v is)) ∙ (same ∙ ap (λ (z : Variable). z.kind) (same_Some y x is_too))
kind_at (w ∷ vs) (y ∷ xs) (suc i) v x kinds is is_too =
    let rest : map kind_of vs ≡ map (λ (z : Variable). z.kind) xs = cc in kind_at vs xs i v x rest is is_too

pub in_front : (xs ys : List Variable) (i : ℕ) (x : Variable) → slice_get xs i ≡ Some x → slice_get (xs ++ ys) i ≡ Some x
in_front [] ys i x is = absurd (none-some x is)
in_front (z ∷ xs) ys zero x is = is
in_front (z ∷ xs) ys (suc i) x is = in_front xs ys i x is

-- who has a step is enabled
pub turn_of : (k : Table) (now d : Configuration) (t : ℕ) → step k t now ≡ Some d → is_enabled k now t ≡ true
turn_of k now d t steps =
    (only_if_some (is_enabled k now t) (option_map (λ e. after e now) (change_of k now t (standing_of now t))) d steps).0

-- ---- a run that goes on

module _ (f : Features) (c : Chart) (rules : IsChart f c) where
  abbrev k : Table
  k = table c

  pub reached_on : (run : List ℕ) (now last : Configuration) → IsReached k now → replay (machine k) run now ≡ Some last → IsReached k last
  reached_on = holds_along (machine k) (IsReached k) stepped

  -- somebody of the first n is enabled, or nobody is
  abbrev Someone : Configuration → ℕ → Type 0
  Someone now n = ((t : ℕ) × (is_enabled k now t ≡ true)) ⊎ ((t : ℕ) → t < n → is_enabled k now t ≡ false)

  someone : (now : Configuration) (n : ℕ) → Someone now n
  someone now zero = inr (λ t lt. absurd (omega (lt, arith)))
  someone now (suc n) = by (someone now n) (cases_Bool (is_enabled k now n))
    where
      by : Someone now n → (is_enabled k now n ≡ true) ⊎ (is_enabled k now n ≡ false) → Someone now (suc n)
      by (inl one) here = inl one
      by (inr none) (inl on) = inl (n, on)
      by (inr none) (inr off) =
          inr (λ t lt. ⊎_elim (none t) (λ le. let same : t ≡ n = omega (le, lt, arith) in ap (is_enabled k now) same ∙ off) (cases_lt t n))

  -- who is enabled is a region
  pub enabled_there : (now : Configuration) (t : ℕ) → is_enabled k now t ≡ true → t < length now.regions
  enabled_there now t on = by (slice_get now.regions t) refl
    where
      work : has_work k now (standing_of now t) ≡ true
      work = (and_parts (has_work k now (standing_of now t))
          (not (is_guarded k now (region_at k t).around) && inside_is_done k now (standing_of now t)) on).0

      by : (o : Option Standing) → slice_get now.regions t ≡ o → t < length now.regions
      by (Some x) is = slice_get_within now.regions t x is
      by None is =
          let outside : standing_of now t ≡ at.Outside = ap (λ o. unwrap_or o at.Outside) is in
          let wrong : true ≡ false = sym work ∙ ap (has_work k now) outside in absurd cc

  over_there : (now : Configuration) → ((t : ℕ) → t < length now.regions → is_enabled k now t ≡ false) → IsOver (machine k) now
  over_there now none t = ⊎_elim (λ on. let off = none t (enabled_there now t on) in absurd cc) (λ off. off) (cases_Bool (is_enabled k now t))

  pub record Completed (now : Configuration) : Type 0 where
    pub run : List ℕ
    pub end : Configuration
    pub completes : Completes (machine k) run now end

  done : (now : Configuration) → ((t : ℕ) → t < length now.regions → is_enabled k now t ≡ false) → Completed now
  done now none = record { run = []; end = now; completes = record { runs = refl; over = over_there now none } }

  pub has_step : (now : Configuration) → IsReached k now → (t : ℕ) → is_enabled k now t ≡ true → (d : Configuration) × (step k t now ≡ Some d)
  has_step now reached t on = never_stuck f c rules now reached t on

  first_step : (now d : Configuration) (t : ℕ) → step k t now ≡ Some d → Completed d → Completed now
  first_step now d t steps rest =
      record {
        run = t ∷ rest.run;
        end = rest.end;
        completes = record {
          runs = ap (option_and_then (replay (machine k) rest.run)) steps ∙ rest.completes.runs;
          over = rest.completes.over;
        };
      }

  pub one_less : (most t : ℕ) (now d : Configuration) → step k t now ≡ Some d → Within (machine k) (suc most) now → Within (machine k) most d
  one_less most t now d steps within run e runs =
      let longer : suc (length run) ≤ suc most = within (t ∷ run) e (ap (option_and_then (replay (machine k) run)) steps ∙ runs) in omega (longer, arith)

  pub completed : (most : ℕ) (now : Configuration) → IsReached k now → Within (machine k) most now → Completed now
  completed zero now reached within =
      ⊎_elim
      (λ one.
      let d = has_step now reached one.0 one.1 in
      let none : suc zero ≤ zero = within (one.0 ∷ []) d.0 (ap (option_and_then (replay (machine k) [])) d.1) in absurd (omega (none, arith)))
      (done now) (someone now (length now.regions))
  completed (suc most) now reached within =
      ⊎_elim
      (λ one.
      let d = has_step now reached one.0 one.1 in
      first_step now d.0 one.0 d.1 (completed most d.0 (stepped now d.0 one.0 reached d.1) (one_less most one.0 now d.0 d.1 within)))
      (done now) (someone now (length now.regions))
