-- Between two ticks the threads rest in the active states.
use Rattle.std.proofs.Common.{◌≡◌, ◌≢◌, ◌↔◌, ℕ, ◌<◌, true, false, [], ◌∷◌, length, subst, eqb-true}
use Rattle.chart_machine.specs.declared.standing.Standing.{Standing}
use Rattle.chart_machine.specs.declared.standing.Standing.TheVariants as stand
use Rattle.chart_machine.specs.declared.standing.Configuration.{Configuration}
use Rattle.chart_machine.specs.declared.table.Table.{Table}
use Rattle.chart_machine.specs.Table.{state_at, region_at}
use Rattle.chart_machine.specs.Turns.{standing_of}
use Rattle.chart_machine.specs.Machine.{is_active, stands_in}
use Rattle.scl.specs.Block.{Pause, Fork}
use Rattle.scl.specs.Numbering.{Numbered}
use Rattle.scl.specs.Meaning.{State, Doing, Away, Todo, Forked, Resting, Resuming, Finished, doing, is_ready}
use Rattle.chart_lowering_laws.specs.Layout.{Layout, IsRegionOf, Lowers}
use Rattle.chart_lowering_laws.specs.Corresponds.{Live, HeldBy, Giving, Nothing, Ready, Turn, Past, given, Fits}
use Rattle.chart_lowering_laws.specs.Keeps.{AtRest}
use Rattle.chart_lowering_laws.specs.Active.{TellsStates, RestsIn}
use Rattle.chart_lowering_laws.proofs.NumberTests.{nat_same}
use Rattle.chart_lowering_laws.proofs.Catching.{has_turn}
use Rattle.chart_lowering_laws.proofs.Ending.{idle_caught}

module _ (k : Table) (p : Numbered) (l : Layout) (low : Lowers k p l) (tells : TellsStates k l) (c : Configuration) (s : State) (rest : AtRest k p l c s)
    (u : ℕ) (there : u < length k.states) where
  abbrev r : ℕ
  r = (state_at k u).holder

  at_r : IsRegionOf k r
  at_r = low.tree.holders u there

  -- a region that stands in a state has its turn
  fits_in : stands_in (standing_of c r) u ≡ true → Live k p.root l r (standing_of c r) (doing s r) × HeldBy k p.root l r (standing_of c r)
  fits_in h =
      let entered : standing_of c r ≢ stand.Outside = λ out. let i : stands_in stand.Outside u ≡ true = subst (λ x. stands_in x u ≡ true) out h in
      absurd (cc) in
      let going : standing_of c r ≢ stand.Ended = λ end. let i : stands_in stand.Ended u ≡ true = subst (λ x. stands_in x u ≡ true) end h in absurd (cc) in
      let turn : given k c s (region_at k r).around ≡ Turn = has_turn k p l low c s rest.corresponds
      (λ q. idle_caught s (standing_of c q) (doing s q) (rest.over_too q)) r at_r entered going in
      subst (λ g. Fits k p.root l r g (standing_of c r) (doing s r)) turn (rest.corresponds.each r at_r)

  rests : (x : Standing) (d : Doing) → is_ready s d ≡ false → Live k p.root l r x d → stands_in x u ≡ true → RestsIn l u d
  rests x (Todo todo) h live i = absurd (cc)
  rests x (Resuming n more) h live i = absurd (cc)
  rests (stand.Trying v tests) (Resting n more) h live i = subst (λ w. l.pause w ≡ Pause n more) (eqb-true v u i) live.1
  rests (stand.Within v tests) (Resting n more) h live i = subst (λ w. l.pause w ≡ Pause n more) (eqb-true v u i) live.2
  rests (stand.Within v tests) (Forked n branches more) h live i = subst (λ w. l.fork w ≡ Fork n branches more) (eqb-true v u i) live.1
  rests (stand.Trying v tests) Away h live i = absurd live
  rests (stand.Trying v tests) (Forked n branches more) h live i = absurd live
  rests (stand.Trying v tests) Finished h live i = absurd live
  rests (stand.Within v tests) Away h live i = absurd live
  rests (stand.Within v tests) Finished h live i = absurd live
  rests stand.Outside d h live i = absurd (cc)
  rests stand.Ended d h live i = absurd (cc)
  rests (stand.Entering v tests) d h live i = absurd live
  rests (stand.Guarding v tests) d h live i = absurd live
  rests (stand.Acting v [] target) Away h live i = absurd live
  rests (stand.Acting v [] target) (Forked n branches more) h live i = absurd live
  rests (stand.Acting v [] target) (Resting n more) h live i = absurd live
  rests (stand.Acting v [] target) Finished h live i = absurd live
  rests (stand.Acting v (e ∷ effects) target) Away h live i = absurd live
  rests (stand.Acting v (e ∷ effects) target) (Forked n branches more) h live i = absurd live
  rests (stand.Acting v (e ∷ effects) target) (Resting n more) h live i = absurd live
  rests (stand.Acting v (e ∷ effects) target) Finished h live i = absurd live

  -- who rests in a state stands in it
  stands_by : (x : Standing) (d : Doing) → Live k p.root l r x d → HeldBy k p.root l r x → RestsIn l u d → stands_in x u ≡ true
  stands_by (stand.Trying v tests) (Resting n more) live held h =
      nat_same v u (tells.pauses v u n more (record { first = held.0.there; second = there; holders = held.0.holder }) live.1 h)
  stands_by (stand.Within v tests) (Resting n more) live held h =
      nat_same v u (tells.pauses v u n more (record { first = held.0.there; second = there; holders = held.0.holder }) live.2 h)
  stands_by (stand.Within v tests) (Forked n branches more) live held h =
      nat_same v u (tells.forks v u n branches more (record { first = held.0.there; second = there; holders = held.0.holder }) live.1 h)
  stands_by x Away live held h = absurd h
  stands_by x (Todo todo) live held h = absurd h
  stands_by x (Resuming n more) live held h = absurd h
  stands_by x Finished live held h = absurd h
  stands_by (stand.Trying v tests) (Forked n branches more) live held h = absurd live
  stands_by stand.Outside (Resting n more) live held h = absurd live
  stands_by stand.Outside (Forked n branches more) live held h = absurd live
  stands_by stand.Ended (Resting n more) live held h = absurd live
  stands_by stand.Ended (Forked n branches more) live held h = absurd live
  stands_by (stand.Entering v tests) d live held h = absurd live
  stands_by (stand.Guarding v tests) d live held h = absurd live
  stands_by (stand.Acting v [] target) (Resting n more) live held h = absurd live
  stands_by (stand.Acting v [] target) (Forked n branches more) live held h = absurd live
  stands_by (stand.Acting v (e ∷ effects) target) (Resting n more) live held h = absurd live
  stands_by (stand.Acting v (e ∷ effects) target) (Forked n branches more) live held h = absurd live

  by_given : (g : Giving) → Fits k p.root l r g (standing_of c r) (doing s r) → RestsIn l u (doing s r) → stands_in (standing_of c r) u ≡ true
  by_given Nothing fits h = absurd (subst (RestsIn l u) fits.1 h)
  by_given Ready fits h = absurd (subst (RestsIn l u) fits.1 h)
  by_given Past fits h = absurd (subst (RestsIn l u) fits.1 h)
  by_given Turn fits h = stands_by (standing_of c r) (doing s r) fits.0 fits.1 h

  pub active_is : (is_active k c u ≡ true) ↔ RestsIn l u (doing s r)
  active_is = (
    λ h. rests (standing_of c r) (doing s r) (rest.over_too r) (fits_in h).0 h,
    λ h. by_given (given k c s (region_at k r).around) (rest.corresponds.each r at_r) h,
  )
