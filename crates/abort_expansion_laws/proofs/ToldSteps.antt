-- What is told of the core's steps that stand for one of the chart: that the chart's configuration is related, unless the step
-- neither reads nor writes; of a strong test also which one it is.
use Rattle.std.proofs.Common.{◌≡◌, ◌≢◌, ℕ, ◌⊎◌, inr, true, false, Option, Some, List, ◌∷◌, Contains, refl, sym, ap, subst, ◌∙◌}
use Rattle.sc_values.specs.Access.{Access, no_access}
use Rattle.core_charts.specs.declared.features.Features.TheVariants as features
use Rattle.core_charts.specs.declared.region.Transition.{Transition}
use Rattle.core_charts.specs.Chart.{Chart}
use Rattle.core_charts.specs.Rules.{IsChart}
use Rattle.chart_machine.specs.declared.standing.Standing.{Standing}
use Rattle.chart_machine.specs.declared.standing.Standing.TheVariants as at
use Rattle.chart_machine.specs.declared.standing.Configuration.{Configuration}
use Rattle.chart_machine.specs.declared.table.Table.{Table}
use Rattle.chart_machine.specs.Table.{table}
use Rattle.chart_machine.specs.Turns.{standing_of, has_work}
use Rattle.chart_machine.specs.Steps.{step}
use Rattle.abort_expansion.specs.Expansion.{expanded}
use Rattle.chart_machine_laws.proofs.LyingIn.{around, holder}
use Rattle.abort_expansion_laws.specs.Stages.{Entry, Image, Watched, Silent}
use Rattle.abort_expansion_laws.specs.CoreRows.{Images, CoreRows}
use Rattle.abort_expansion_laws.specs.Related.{Stands, outside, ended, left, trying, acting, entering, guarding, staying, within, behind}
use Rattle.abort_expansion_laws.specs.Related.{IsInside, guarded, open_inside, Related}
use Rattle.abort_expansion_laws.proofs.KnownVariables.{present_there, stepped}
use Rattle.abort_expansion_laws.proofs.StrongNotTaken.{inside_guarding}
use Rattle.abort_expansion_laws.proofs.QuietBegins.{GuardTold}
use Rattle.abort_expansion_laws.proofs.TicksOfCharts as ticks
use Rattle.tick_laws.proofs.Lists.{contains_map}

-- of a step that stands for one of region r
pub record ImageTold (k core : Table) (i : Images) (d : Configuration) (r : ℕ) : Type 0 where
  pub now : Configuration
  pub related : Related k core i now d
  pub present : standing_of now r ≢ at.Outside

abbrev pub Told : (k core : Table) (i : Images) → Configuration → Entry → Type 0
Told k core i d (Image r a) = (a ≡ no_access) ⊎ ImageTold k core i d r
Told k core i d (Watched r g stage a) = stage ≡ 0 → GuardTold k core i d r g a
Told k core i d (Silent t stage a) = Unit {0}

pub told_silent : (k core : Table) (i : Images) (d : Configuration) (t : ℕ) (stage : Option (ℕ × ℕ)) (a : Access) → Told k core i d (Silent t stage a)
told_silent k core i d t stage a = tt

-- a weak test is no strong one
pub told_weak : (k core : Table) (i : Images) (d : Configuration) (r g : ℕ) (a : Access) → Told k core i d (Watched r g 2 a)
told_weak k core i d r g a = λ e. absurd cc

-- who steps is there
pub told_image : (k core : Table) (i : Images) (c d next : Configuration) (r : ℕ) (a : Access) → Related k core i c d → step k r c ≡ Some next →
    Told k core i d (Image r a)
told_image k core i c d next r a related steps =
    inr (record {
      now = c;
      related = related;
      present = λ out. let wrong : true ≡ false = sym (stepped k r c next steps).works ∙ ap (has_work k c) out in absurd cc;
    })

-- ---- who holds a superstate around it stands in its fork, or in no fork

inside_within : (k core : Table) (i : Images) (s u : ℕ) (x : Standing) → IsInside k core i s x → (tests : List Transition) → x ≡ at.Within u tests → s ≡ u
inside_within k core i s u _ (guarded others) tests e = absurd cc
inside_within k core i s u _ (open_inside others) tests e = cc

same_fork : (f s : ℕ) (xs ys : List Transition) → at.Within s xs ≡ at.Within f ys → f ≡ s
same_fork f s xs ys e = cc

module _ (k core : Table) (i : Images) (c : Configuration) where
  fork_is : (r v f : ℕ) (tests : List Transition) (x y : Standing) → Stands k core i c r x y → IsInside k core i v x → y ≡ at.Within f tests → f ≡ i.main_of v
  fork_is r v f tests _ _ outside inner e = absurd cc
  fork_is r v f tests _ _ (ended over) inner e = absurd cc
  fork_is r v f tests _ _ (left s ss round over_it) inner e = absurd cc
  fork_is r v f tests _ _ (trying s others simple held) inner e = absurd cc
  fork_is r v f tests _ _ (acting s u p g effects lt) inner e = absurd cc
  fork_is r v f tests _ _ (entering s fork t others super held leads) inner e = absurd cc
  fork_is r v f tests _ _ (guarding s join t others has_some held leads) inner e =
      same_fork f (i.main_of s) _ tests e ∙ ap i.main_of (sym (inside_guarding k core i s v (at.Guarding s (t ∷ others)) inner (t ∷ others) refl))
  fork_is r v f tests _ _ (staying s others super held stay) inner e =
      same_fork f (i.main_of s) _ tests e ∙ ap i.main_of (sym (inside_within k core i v s (at.Within s others) inner others refl))
  fork_is r v f tests _ _ (within s join others super held stay open_still leads) inner e =
      same_fork f (i.main_of s) _ tests e ∙ ap i.main_of (sym (inside_within k core i v s (at.Within s others) inner others refl))
  fork_is r v f tests _ _ (behind s others super held over_it) inner e = absurd cc

pub fork_around : (k core : Table) (i : Images) (rows : CoreRows k core i) (d : Configuration) (u : ℕ) → ImageTold k core i d u →
    (s f : ℕ) (tests : List Transition) → Contains (around core (i.thread_of u)) s → standing_of d (holder core s) ≡ at.Within f tests → f ≡ s
fork_around k core i rows d u told s f tests inner stands =
    let v = contains_map i.main_of (around k u) s (subst (λ zs. Contains zs s) (rows.encloses u) inner) in
    let there = present_there k core i told.now d told.related u told.present in
    let enclosed : IsInside k core i v.0 (standing_of told.now (holder k v.0)) = told.related.enclosed u v.0 there told.present v.1 in
    let present : standing_of told.now (holder k v.0) ≢ at.Outside = λ out. not_outside v.0 (standing_of told.now (holder k v.0)) enclosed out in
    fork_is k core i told.now (holder k v.0) v.0 f tests (standing_of told.now (holder k v.0)) (standing_of d (i.thread_of (holder k v.0)))
    (told.related.regions (holder k v.0) (present_there k core i told.now d told.related (holder k v.0) present)) enclosed
    (sym (ap (standing_of d) (ap (holder core) (sym v.2) ∙ rows.held v.0)) ∙ stands)
    ∙ v.2
  where
    not_outside : (s : ℕ) (x : Standing) → IsInside k core i s x → x ≢ at.Outside
    not_outside s _ (guarded others) e = absurd cc
    not_outside s _ (open_inside others) e = absurd cc

-- so of the steps of each chart's core
abbrev pub ToldHere : (c : Chart) → IsChart features.Extended c → IsChart features.Core (expanded c) → Configuration → Entry → Type 0
ToldHere c rules core_rules = Told (table c) (table (expanded c)) (ticks.i c rules core_rules)
