-- When the program is over, so is the chart.
use Rattle.std.proofs.Common.{◌≡◌, ◌≢◌, ℕ, Bool, true, false, not, ◌&&◌, ◌||◌, List, [], ◌∷◌, Contains, refl, sym, ap, subst, ◌∙◌}
use Rattle.std.specs.List.{list_all}
use Rattle.sc_values.specs.Runs.{IsOver}
use Rattle.core_charts.specs.declared.region.Transition.{Transition}
use Rattle.core_charts.specs.Tests.{terminations, is_join}
use Rattle.chart_machine.specs.declared.standing.Standing.{Standing}
use Rattle.chart_machine.specs.declared.standing.Standing.TheVariants as stand
use Rattle.chart_machine.specs.declared.standing.Configuration.{Configuration}
use Rattle.chart_machine.specs.declared.table.Table.{Table}
use Rattle.chart_machine.specs.Table.{state_at, region_at}
use Rattle.chart_machine.specs.Turns.{standing_of, has_work, has_ended, is_enabled, is_guarded, inside_is_done}
use Rattle.chart_machine.specs.Machine.{machine as chart_machine}
use Rattle.scl.specs.Places.{threads_of}
use Rattle.scl.specs.Numbering.{Numbered}
use Rattle.scl.specs.Meaning.{State, Doing, Away, Todo, Forked, Resting, Resuming, Finished, doing, machine, is_ready, all_finished}
use Rattle.chart_lowering_laws.specs.Layout.{Layout, LiesIn, IsRegionOf, Lowers}
use Rattle.chart_lowering_laws.specs.Corresponds.{Live, HeldBy, Turn, given, Fits, Corresponds}
use Rattle.chart_lowering_laws.proofs.Joins.{InFork, in_fork, given_forked}
use Rattle.chart_lowering_laws.proofs.Finished.{finished_all, all_each}
use Rattle.chart_lowering_laws.proofs.Catching.{caught, Caught, has_turn}
use Rattle.chart_lowering_laws.proofs.Showing.{region_of}
use Rattle.chart_lowering_laws.proofs.ByRegions.{chosen_first, and_first}

pub idle_caught : (s : State) (x : Standing) (d : Doing) → is_ready s d ≡ false → caught x d ≡ true
idle_caught s x (Todo todo) h = absurd (cc)
idle_caught s x (Resuming n more) h = absurd (cc)
idle_caught s stand.Outside Away h = refl
idle_caught s stand.Outside (Forked n branches more) h = refl
idle_caught s stand.Outside (Resting n more) h = refl
idle_caught s stand.Outside Finished h = refl
idle_caught s stand.Ended Away h = refl
idle_caught s stand.Ended (Forked n branches more) h = refl
idle_caught s stand.Ended (Resting n more) h = refl
idle_caught s stand.Ended Finished h = refl
idle_caught s (stand.Trying u tests) Away h = refl
idle_caught s (stand.Trying u tests) (Forked n branches more) h = refl
idle_caught s (stand.Trying u tests) (Resting n more) h = refl
idle_caught s (stand.Trying u tests) Finished h = refl
idle_caught s (stand.Within u tests) Away h = refl
idle_caught s (stand.Within u tests) (Forked n branches more) h = refl
idle_caught s (stand.Within u tests) (Resting n more) h = refl
idle_caught s (stand.Within u tests) Finished h = refl
idle_caught s (stand.Entering u tests) d h = refl
idle_caught s (stand.Guarding u tests) d h = refl
idle_caught s (stand.Acting u effects target) d h = refl

module _ (k : Table) (p : Numbered) (l : Layout) (low : Lowers k p l) (c : Configuration) (s : State) (corr : Corresponds k p l c s)
    (over : IsOver (machine p) s) where
  up : Caught c s
  up q = idle_caught s (standing_of c q) (doing s q) (over q)

  module _ (t : ℕ) (there : IsRegionOf k t) (turn : given k c s (region_at k t).around ≡ Turn) where
    closing : (u : ℕ) (tests : List Transition) → standing_of c t ≡ stand.Within u tests → has_work k c (stand.Within u tests) ≡ true → (d : Doing) →
        doing s t ≡ d → is_ready s d ≡ false → Live k p.root l t (stand.Within u tests) d → ⊥
    closing u [] stands work d is h live = absurd (cc)
    closing u (x ∷ tests) stands work (Todo todo) is h live = absurd (cc)
    closing u (x ∷ tests) stands work (Resuming n rest) is h live = absurd (cc)
    closing u (x ∷ tests) stands work (Resting n rest) is h live = let none : x ∷ tests ≡ [] = live.0 in absurd (cc)
    closing u (x ∷ tests) stands work Away is h live = live
    closing u (x ∷ tests) stands work Finished is h live = live
    closing u (x ∷ tests) stands work (Forked n branches rest) is h live =
        let every : terminations (state_at k u).transitions ≡ x ∷ tests = sym live.0 in
        let fork : InFork k p l low c s corr t u n branches rest = in_fork k p l low c s corr t u n branches rest there turn
        (stands ∙ ap (stand.Within u) (sym every)) is in
        let ended : list_all (λ r. has_ended (standing_of c r)) (state_at k u).regions ≡ true = either (is_join x.kind)
        (list_all (λ r. has_ended (standing_of c r)) (state_at k u).regions) (chosen_first (λ y. is_join y.kind) (state_at k u).transitions x tests every)
        work in
        let all : all_finished s (threads_of branches) ≡ true = finished_all s (threads_of branches) (λ q in_threads.
        let held : Contains (state_at k u).regions q = subst (λ ts. Contains ts q) fork.threads in_threads in
        let lies : IsRegionOf k q × LiesIn k q u = low.tree.regions u q fork.within.there held in
        let q_turn : given k c s (region_at k q).around ≡ Turn = given_forked k p l low c s corr q t u n
        (x ∷ tests) branches rest lies.1 fork.within stands is in
        let q_live : Live k p.root l q (standing_of c q) (doing s q) × HeldBy k p.root l q (standing_of c q) =
        subst (λ g. Fits k p.root l q g (standing_of c q) (doing s q)) q_turn (corr.each q lies.0) in
        let q_ended : standing_of c q ≡ stand.Ended = has_ended_is (standing_of c q)
        (all_each (λ r. has_ended (standing_of c r)) (state_at k u).regions ended q held) in
        finished_by q (doing s q) (over q) (subst (λ z. Live k p.root l q z (doing s q)) q_ended q_live.0)) in
        absurd (cc)
      where
        either : (a b : Bool) → a ≡ true → (not a || b) ≡ true → b ≡ true
        either true b h i = i
        either false b h i = absurd (cc)

        has_ended_is : (z : Standing) → has_ended z ≡ true → z ≡ stand.Ended
        has_ended_is stand.Ended h = refl
        has_ended_is stand.Outside h = absurd (cc)
        has_ended_is (stand.Trying w ts) h = absurd (cc)
        has_ended_is (stand.Entering w ts) h = absurd (cc)
        has_ended_is (stand.Guarding w ts) h = absurd (cc)
        has_ended_is (stand.Within w ts) h = absurd (cc)
        has_ended_is (stand.Acting w effects target) h = absurd (cc)

        finished_by : (q : ℕ) (y : Doing) → is_ready s y ≡ false → Live k p.root l q stand.Ended y → y ≡ Finished
        finished_by q Finished h live = refl
        finished_by q (Todo todo) h live = absurd (cc)
        finished_by q Away h live = absurd live
        finished_by q (Forked m bs r) h live = absurd live
        finished_by q (Resting m r) h live = absurd live
        finished_by q (Resuming m r) h live = absurd live

    idle_works : (x : Standing) → standing_of c t ≡ x → has_work k c x ≡ true → (d : Doing) → doing s t ≡ d → is_ready s d ≡ false → Live k p.root l t x d → ⊥
    idle_works (stand.Within u tests) stands work d is h live = closing u tests stands work d is h live
    idle_works (stand.Trying u []) stands work d is h live = absurd (cc)
    idle_works (stand.Trying u (x ∷ tests)) stands work (Todo todo) is h live = absurd (cc)
    idle_works (stand.Trying u (x ∷ tests)) stands work (Resuming n rest) is h live = absurd (cc)
    idle_works (stand.Trying u (x ∷ tests)) stands work (Resting n rest) is h live = let none : x ∷ tests ≡ [] = live.0 in absurd (cc)
    idle_works (stand.Trying u (x ∷ tests)) stands work Away is h live = live
    idle_works (stand.Trying u (x ∷ tests)) stands work Finished is h live = live
    idle_works (stand.Trying u (x ∷ tests)) stands work (Forked n branches rest) is h live = live
    idle_works (stand.Acting u effects place) stands work (Todo todo) is h live = absurd (cc)
    idle_works (stand.Acting u effects place) stands work (Resuming n rest) is h live = absurd (cc)
    idle_works (stand.Acting u [] place) stands work Away is h live = live
    idle_works (stand.Acting u [] place) stands work Finished is h live = live
    idle_works (stand.Acting u [] place) stands work (Resting n rest) is h live = live
    idle_works (stand.Acting u [] place) stands work (Forked n branches rest) is h live = live
    idle_works (stand.Acting u (e ∷ effects) place) stands work Away is h live = live
    idle_works (stand.Acting u (e ∷ effects) place) stands work Finished is h live = live
    idle_works (stand.Acting u (e ∷ effects) place) stands work (Resting n rest) is h live = live
    idle_works (stand.Acting u (e ∷ effects) place) stands work (Forked n branches rest) is h live = live
    idle_works stand.Ended stands work d is h live = absurd (cc)
    idle_works stand.Outside stands work d is h live = absurd (cc)
    idle_works (stand.Entering u tests) stands work d is h live = absurd live
    idle_works (stand.Guarding u tests) stands work d is h live = absurd live

  pub chart_over : IsOver (chart_machine k) c
  chart_over t = by (is_enabled k c t) refl
    where
      by : (b : Bool) → is_enabled k c t ≡ b → b ≡ false
      by false is = refl
      by true is =
          let work : has_work k c (standing_of c t) ≡ true = and_first (has_work k c (standing_of c t))
          (not (is_guarded k c (region_at k t).around) && inside_is_done k c (standing_of c t)) is in
          let entered : standing_of c t ≢ stand.Outside = λ out. let h : has_work k c stand.Outside ≡ true = subst (λ x. has_work k c x ≡ true) out work in
          absurd (cc) in
          let going : standing_of c t ≢ stand.Ended = λ end. let h : has_work k c stand.Ended ≡ true = subst (λ x. has_work k c x ≡ true) end work in
          absurd (cc) in
          let there : IsRegionOf k t = region_of k p l c s corr t entered in
          let turn : given k c s (region_at k t).around ≡ Turn = has_turn k p l low c s corr up t there entered going in
          let fits : Live k p.root l t (standing_of c t) (doing s t) × HeldBy k p.root l t (standing_of c t) =
          subst (λ g. Fits k p.root l t g (standing_of c t) (doing s t)) turn (corr.each t there) in
          absurd (idle_works t there turn (standing_of c t) refl work (doing s t) refl (over t) fits.0)
