-- The strong flag of a superstate that is open, with work inside of it, is down, and whoever lies there may look at it now.
use Rattle.std.proofs.Common.{◌≡◌, ℕ, ◌≤◌, inl, inr, Bool, true, false, Option, Some, List, [], ◌∷◌, map, Contains, refl, sym, ap, subst, ◌∙◌, arith}
use Rattle.std.specs.List.{list_any}
use Rattle.sc_values.specs.Access.{Access}
use Rattle.core_charts.specs.Tests.{is_weak}
use Rattle.core_charts.specs.Aborts.{has_aborts}
use Rattle.chart_machine.specs.declared.standing.Standing.{Standing}
use Rattle.chart_machine.specs.declared.standing.Configuration.{Configuration}
use Rattle.chart_machine.specs.declared.table.Table.{Table}
use Rattle.chart_machine.specs.Turns.{standing_of, guards as has_to_guard}
use Rattle.abort_expansion_laws.specs.Stages.{Entry, Silent, Correspondence}
use Rattle.chart_machine_laws.proofs.LyingIn.{IsNested, around, holder, head_in, tail_in}
use Rattle.chart_machine_laws.specs.Tree.{IsThere}
use Rattle.abort_expansion_laws.specs.CoreRows.{own, IsState, Images, CoreRows}
use Rattle.abort_expansion_laws.specs.Related.{Stores, IsInside, guarded, open_inside, Related}
use Rattle.abort_expansion_laws.proofs.StageReached.{some_work, stage_of, Stage, one_at_least, one_at_most}
use Rattle.abort_expansion_laws.proofs.ImageSteps.{pair}
use Rattle.abort_expansion_laws.proofs.KnownVariables.{present_there}
use Rattle.abort_expansion_laws.proofs.StandsInside.{inside_present}
use Rattle.abort_expansion_laws.proofs.StartingRegions.{CounterRows}
use Rattle.abort_expansion_laws.proofs.OpensFork.{OpeningRows}
use Rattle.abort_expansion_laws.proofs.FailedChecks.{IsDown, AllDown}
use Rattle.abort_expansion_laws.proofs.ThreadsAround.{thread_within}

module _ (k core : Table) (i : Images) (rows : CoreRows k core i) (tree : IsNested k) (counts : ℕ → Bool) (written_at : ℕ → ℕ)
    (counters : CounterRows k core i rows counts written_at) (opening : OpeningRows k core i rows)
    (strong_at : (s x : ℕ) → (i.flags_of s).strong ≡ Some x → written_at x ≡ 0)
    (Told : Configuration → Entry → Type 0)
    (told : (e : Configuration) (t : ℕ) (stage : Option (ℕ × ℕ)) (a : Access) → Told e (Silent t stage a))
    (c d : Configuration) (related : Related k core i c d) (g u : ℕ) where
  abbrev corr : Correspondence
  corr = pair k core i rows tree counts written_at

  abbrev Now : ℕ → ℕ → Type 0
  Now = Stage k i.thread_of c d

  -- a superstate in which thread g lies, in state u
  pub record IsOpen (s : ℕ) : Type 0 where
    pub here : IsState k s
    pub opened : IsInside k core i s (standing_of c (holder k s))
    pub busy : some_work k c s ≡ true
    pub free : has_to_guard (standing_of c (holder k s)) ≡ false
    pub lies : Contains (around core g) (i.main_of s)

  module _ (s : ℕ) (is_open : IsOpen s) where
    low_at : (w : Standing) → IsInside k core i s w → stage_of k c w ≤ 1
    low_at _ (guarded tests) = omega arith
    low_at _ (open_inside tests) = rw (is_open.busy) (one_at_most (has_aborts (own k s)))

    high_at : (w : Standing) → IsInside k core i s w → has_to_guard w ≡ false → 1 ≤ stage_of k c w
    high_at _ (guarded tests) e = absurd cc
    high_at _ (open_inside tests) e = one_at_least (has_aborts (own k s)) (some_work k c s) (list_any (λ t. is_weak t.kind) tests)

    low : stage_of k c (standing_of c (holder k s)) ≤ 1
    low = low_at (standing_of c (holder k s)) is_open.opened

    high : 1 ≤ stage_of k c (standing_of c (holder k s))
    high = high_at (standing_of c (holder k s)) is_open.opened is_open.free

    holder_there : IsThere k (holder k s)
    holder_there = present_there k core i c d related (holder k s) (inside_present k core i s (standing_of c (holder k s)) is_open.opened)

    pub is_down : (x : ℕ) → (i.flags_of s).strong ≡ Some x → IsDown core corr Told told g u 1 Now d x
    is_down x flag =
        record {
          flag = rows.strong_added s x flag;
          low = subst (λ f. Stores k core i d.variables f 0) flag (related.flags s is_open.here is_open.opened).strong;
          reads = inr (inr (counters.strong_not s x flag, within), (1, refl, (let zero_is = strong_at s x flag in omega (zero_is, arith))));
          reached = λ n before. let le = before.regions (holder k s) holder_there home_is in let one = low in omega (le, one, arith);
          reaches =
              record {
                regions = λ q q_there e.
                    let same : holder k s ≡ q = rows.region_once (holder k s) q (sym home_is ∙ e) in
                    subst (λ p. 1 ≤ stage_of k c (standing_of c p)) same high;
                chart = λ e. omega arith;
              };
        }
      where
        owner : rows.of_flag x ≡ s
        owner = (opening.flag_of s x (inl flag)).0

        home_is : corr.home x ≡ i.thread_of (holder k s)
        home_is = ap (λ v. holder core (i.main_of v)) owner ∙ rows.held s

        within : Contains (around core g) (i.main_of (rows.of_flag x))
        within = subst (λ v. Contains (around core g) (i.main_of v)) (sym owner) is_open.lies

  pub all_down : (zs : List ℕ) → ((s : ℕ) → Contains zs s → IsOpen s) → AllDown core corr Told told g u 1 Now d (map i.flags_of zs)
  all_down [] each = tt
  all_down (s ∷ zs) each = ((λ x flag. is_down s (each s (head_in s zs)) x flag), all_down zs (λ v h. each v (tail_in s v zs h)))

-- the monitor of a superstate lies in what is around that
pub monitor_lies : (k core : Table) (i : Images) (rows : CoreRows k core i) (o : ℕ) → IsState k o → has_aborts (own k o) ≡ true → (s : ℕ) →
    Contains (around k (holder k o)) s → Contains (around core (i.watcher_of o)) (i.main_of s)
monitor_lies k core i rows o here has s inner =
    subst (λ zs. Contains zs (i.main_of s)) (sym (rows.watcher o here has).encloses)
    (tail_in (i.main_of o) (i.main_of s) (around core (i.thread_of (holder k o)))
    (thread_within k core i rows (holder k o) s inner))
