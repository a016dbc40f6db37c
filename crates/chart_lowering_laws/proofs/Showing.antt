-- What shows of a step of a region shows of its thread's, and reads and writes the same.
use Rattle.std.proofs.Common.{◌≡◌, ◌≢◌, ℕ, zero, suc, ◌<◌, true, Option, Some, None, List, ◌∷◌, length, slice_get, unwrap_or, refl, sym, ap, subst, arith}
use Rattle.std.proofs.lemmas.Option.{slice_get_within}
use Rattle.sc_values.specs.declared.expression.Expr.{Expr}
use Rattle.sc_values.specs.Access.{Access}
use Rattle.sc_values.specs.Runs.{Act}
use Rattle.core_charts.specs.declared.region.Effect.{Effect}
use Rattle.core_charts.specs.declared.region.Transition.{Transition}
use Rattle.chart_machine.specs.declared.standing.Standing.{Standing}
use Rattle.chart_machine.specs.declared.standing.Standing.TheVariants as stand
use Rattle.chart_machine.specs.declared.standing.Configuration.{Configuration}
use Rattle.chart_machine.specs.declared.table.Table.{Table}
use Rattle.chart_machine.specs.Table.{state_at}
use Rattle.chart_machine.specs.Turns.{standing_of}
use Rattle.chart_machine.specs.Steps.{access_of as access_of_region, access_of_trigger}
use Rattle.scl.specs.Block.{Block, Assign, If}
use Rattle.scl.specs.Numbering.{Numbered}
use Rattle.scl.specs.Meaning.{State, Doing, Todo}
use Rattle.scl.specs.Meaning.{access_of as access_of_thread}
use Rattle.chart_lowering_laws.specs.Layout.{Layout, Tests, Tries, Takes, Acts, IsRegionOf}
use Rattle.chart_lowering_laws.specs.Corresponds.{Live, Corresponds}
use Rattle.chart_lowering_laws.specs.WhichShow.{shows_doing, shows_standing, has_trigger}
use Rattle.chart_lowering_laws.proofs.LeadAlike.{is_there}

-- a step that shows in both, with the same access
pub record ShowsAlike (x : Standing) (d : Doing) : Type 0 where
  pub shows : shows_doing d ≡ true
  pub shows_too : shows_standing x ≡ true
  pub access : access_of_thread d ≡ access_of_region x

pub test_shows : (k : Table) (root : Block) (l : Layout) (r u : ℕ) (t : Transition) (tests : List Transition) (e : Expr) (todo : Block) → t.trigger ≡ Some e →
    Live k root l r (stand.Trying u (t ∷ tests)) (Todo todo) →
    ShowsAlike (stand.Trying u (t ∷ tests)) (Todo todo)
test_shows k root l r u t tests e todo is live =
    let h : Tests root (Some e) (Takes k root l (state_at k u).holder t) (Tries root (Takes k root l (state_at k u).holder) (l.pause u) tests) todo =
    subst (λ o. Tests root o (Takes k root l (state_at k u).holder t) (Tries root (Takes k root l (state_at k u).holder) (l.pause u) tests) todo) is live.1 in
    subst (λ b. ShowsAlike (stand.Trying u (t ∷ tests)) (Todo b)) (sym (is_there root todo (If h.0 e h.1 h.2 h.3) live.0 h.4))
    (record { shows = refl; shows_too = ap (λ o. has_trigger o) is; access = sym (ap access_of_trigger is) })

pub effect_shows : (k : Table) (root : Block) (l : Layout) (r u place : ℕ) (e : Effect) (effects : List Effect) (todo : Block) →
    Live k root l r (stand.Acting u (e ∷ effects) place) (Todo todo) →
    ShowsAlike (stand.Acting u (e ∷ effects) place) (Todo todo)
effect_shows k root l r u place e effects todo live =
    let h : Acts root (l.begin (Rattle.chart_machine.specs.Steps.state_in k r place)) (e ∷ effects) todo = live.2 in
    subst (λ b. ShowsAlike (stand.Acting u (e ∷ effects) place) (Todo b)) (sym (is_there root todo (Assign h.0 e.variable e.value h.1) live.0 h.2))
    (record { shows = refl; shows_too = refl; access = refl })

-- the act of a step
abbrev pub act : ℕ → Access → Act
act t a = record { thread = t; access = a }

pub same_act : (t : ℕ) (a b : Access) → a ≡ b → act t a ≡ act t b
same_act t a b same = ap (act t) same

module _ (k : Table) (p : Numbered) (l : Layout) (c : Configuration) (s : State) (corr : Corresponds k p l c s) where
  -- who stands somewhere is a region
  pub region_of : (t : ℕ) → standing_of c t ≢ stand.Outside → IsRegionOf k t
  region_of zero entered = absurd (entered corr.chart)
  region_of (suc t) entered = by (slice_get c.regions (suc t)) refl
    where
      by : (o : Option Standing) → slice_get c.regions (suc t) ≡ o → IsRegionOf k (suc t)
      by None is = absurd (entered (ap (λ o. unwrap_or o stand.Outside) is))
      by (Some x) is =
          let less : suc t < length c.regions = slice_get_within c.regions (suc t) x is in
          let same : length c.regions ≡ suc (length k.regions) = corr.regions in
          (omega arith, omega (arith, less, same))
