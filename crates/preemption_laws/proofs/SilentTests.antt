-- A test without a trigger is a step of a core chart and none of its program. While no thread moves, there are ever fewer of them.
use Rattle.std.proofs.Common.{◌≡◌, ◌≢◌, ℕ, zero, suc, ◌+◌, ◌<◌, ◌≤◌, ◌⊎◌, inl, inr, ⊎_elim, Bool, true, false, Option, Some, None, List, [], ◌∷◌, length}
use Rattle.std.proofs.Common.{Contains, refl, sym, ap, subst, ◌∙◌, arith, if◌then◌else◌, nat_eq, slice_set}
use Rattle.std.proofs.lemmas.Option.{same_Some}
use Rattle.sc_values.specs.declared.expression.Expr.{Expr}
use Rattle.core_charts.specs.declared.features.Features.TheVariants as features
use Rattle.core_charts.specs.declared.region.Effect.{Effect}
use Rattle.core_charts.specs.declared.region.Transition.{Transition}
use Rattle.core_charts.specs.Chart.{Chart}
use Rattle.core_charts.specs.Rules.{IsChart}
use Rattle.core_charts.specs.Tests.{at_once, first_closing_tests}
use Rattle.chart_machine.specs.declared.standing.Standing.{Standing}
use Rattle.chart_machine.specs.declared.standing.Standing.TheVariants as at
use Rattle.chart_machine.specs.declared.standing.Configuration.{Configuration}
use Rattle.chart_machine.specs.declared.standing.Move.{Move}
use Rattle.chart_machine.specs.declared.table.Table.{Table}
use Rattle.chart_machine.specs.Table.{table, state_at, region_at}
use Rattle.chart_machine.specs.Turns.{standing_of, inside}
use Rattle.chart_machine.specs.Steps.{to, moved, state_in, acts, taken, change_of, step, after, verdict}
use Rattle.scl.specs.Block.{Block, End, Assign, Label, Goto, Pause, If, Fork}
use Rattle.scl.specs.Numbering.{Numbered}
use Rattle.scl.specs.Meaning.{State, Doing, Away, Todo, Forked, Resting, Resuming, Finished, doing}
use Rattle.tick_laws.specs.WithinTick.{total}
use Rattle.tick_laws.proofs.Lists.{same_or_not, contained}
use Rattle.chart_machine_laws.proofs.LyingIn.{around, holder, none_in, head_or_tail}
use Rattle.chart_machine_laws.proofs.ChartTables.{chart_is_deeper, around_there}
use Rattle.chart_lowering_laws.specs.Layout.{Layout, InRegion, IsRegionOf, Lowers, Takes, Tests, Tries}
use Rattle.chart_lowering_laws.specs.Corresponds.{Live, HeldBy, Giving, Nothing, Ready, Turn, Past, giving, giving_in, given, Fits, Corresponds}
use Rattle.chart_lowering_laws.specs.WhichShow.{region_shows, shows_standing, has_trigger}
use Rattle.chart_lowering_laws.proofs.Catching.{caught, Caught, has_turn}
use Rattle.chart_lowering_laws.proofs.Showing.{region_of}
use Rattle.abort_expansion_laws.specs.CoreRows.{own}
use Rattle.abort_expansion_laws.proofs.InsideAround.{inside_around}
use Rattle.abort_expansion_laws.proofs.KnownVariables.{Stepped, stepped}
use Rattle.abort_expansion_laws.proofs.Leaving.{drops, at_number, set_other, set_here, drops_out, drops_length, moved_append}
use Rattle.abort_expansion_laws.proofs.OpenedInside.{opened_elsewhere, charts_enter}
use Rattle.abort_expansion_laws.proofs.TestFails.{tested_is}
use Rattle.abort_expansion_laws.proofs.StateEntry.{Entry, entry_ends, entry_tries, entry_guards, entry_opens}

-- ---- sums

total_least : (f g : ℕ → ℕ) → ((q : ℕ) → f q ≤ g q) → (n : ℕ) → total f n ≤ total g n
total_least f g each zero = omega arith
total_least f g each (suc n) = let rest = total_least f g each n in let here = each n in omega (arith, rest, here)

total_falls : (f g : ℕ → ℕ) → ((q : ℕ) → f q ≤ g q) → (t : ℕ) → f t < g t → (n : ℕ) → t < n → total f n < total g n
total_falls f g each t falls zero lt = absurd (omega (arith, lt))
total_falls f g each t falls (suc n) lt = ⊎_elim
    (λ same. let less : f n < g n = subst (λ q. f q < g q) same falls in let rest = total_least f g each n in omega (arith, less, rest))
    (λ ne. let rest = total_falls f g each t falls n (omega (arith, lt, ne)) in let here = each n in omega (arith, rest, here)) (same_or_not t n)

pub total_within : (f : ℕ → ℕ) (most : ℕ) → ((q : ℕ) → f q ≤ most) → (n : ℕ) → total f n ≤ total (λ q. most) n
total_within f most each n = total_least f (λ q. most) each n

zero_two : (n : ℕ) → 0 < 2 + n
zero_two n = omega arith

one_two : (n : ℕ) → 1 < 2 + n
one_two n = omega arith

two_fall : (m n : ℕ) → m < n → 2 + m < 2 + n
two_fall m n less = omega (less, arith)

zero_one : 0 < 1
zero_one = omega arith

module _ (k : Table) (l : Layout) where
  -- of a region before such a test: one, or so many as states may follow one another at once
  abbrev pub by_effects : ℕ → ℕ → List Effect → ℕ
  by_effects r target [] = 2 + l.rank (state_in k r target)
  by_effects r target (e ∷ effects) = 1

  abbrev pub by_trigger : ℕ → Transition → Option Expr → ℕ
  by_trigger r t None = by_effects r t.target t.effects
  by_trigger r t (Some e) = 0

  abbrev pub silent_left : ℕ → Standing → ℕ
  silent_left r (at.Trying s (t ∷ tests)) = by_trigger r t t.trigger
  silent_left r other = 0

  -- a region whose thread is not there yet does not count
  abbrev pub counted : Doing → ℕ → ℕ
  counted Away n = 0
  counted other n = n

  abbrev pub left_of : Configuration → State → ℕ → ℕ
  left_of c s r = counted (doing s r) (silent_left r (standing_of c r))

  -- in the whole chart
  abbrev pub silent_tests : Configuration → State → ℕ
  silent_tests c s = total (left_of c s) (suc (length k.regions))

module _ (chart : Chart) (rules : IsChart features.Core chart) (p : Numbered) (l : Layout) (low : Lowers (table chart) p l) (c d : Configuration) (s : State)
    (before : Corresponds (table chart) p l c s) (behind : Corresponds (table chart) p l d s) (up : Caught c s) (t : ℕ)
    (steps : step (table chart) t c ≡ Some d) (silent : region_shows c t ≡ false) where
  abbrev k : Table
  k = table chart

  -- where the region stands
  record StandsBefore : Type 0 where
    state : ℕ
    test : Transition
    others : List Transition
    stands : standing_of c t ≡ at.Trying state (test ∷ others)
    plain : test.trigger ≡ None

  no_trigger : (o : Option Expr) → has_trigger o ≡ false → o ≡ None
  no_trigger None h = refl
  no_trigger (Some e) h = absurd cc

  tries_by : (x : Standing) → standing_of c t ≡ x → shows_standing x ≡ false → StandsBefore
  tries_by (at.Trying u (x ∷ tests)) is h = record { state = u; test = x; others = tests; stands = is; plain = no_trigger x.trigger h }
  tries_by (at.Trying u []) is h = absurd cc
  tries_by at.Outside is h = absurd cc
  tries_by at.Ended is h = absurd cc
  tries_by (at.Entering u tests) is h = absurd cc
  tries_by (at.Guarding u tests) is h = absurd cc
  tries_by (at.Within u tests) is h = absurd cc
  tries_by (at.Acting u effects target) is h = absurd cc

  tries : StandsBefore
  tries = tries_by (standing_of c t) refl silent

  there : IsRegionOf k t
  there = region_of k p l c s before t (λ out. let wrong : at.Trying tries.state (tries.test ∷ tries.others) ≡ at.Outside = sym tries.stands ∙ out in absurd cc)

  turn : given k c s (region_at k t).around ≡ Turn
  turn = has_turn k p l low c s before up t there
      (λ out. let wrong : at.Trying tries.state (tries.test ∷ tries.others) ≡ at.Outside = sym tries.stands ∙ out in absurd cc)
      (λ end. let wrong : at.Trying tries.state (tries.test ∷ tries.others) ≡ at.Ended = sym tries.stands ∙ end in absurd cc)

  fits : Live k p.root l t (at.Trying tries.state (tries.test ∷ tries.others)) (doing s t)
      × HeldBy k p.root l t (at.Trying tries.state (tries.test ∷ tries.others))
  fits = subst (λ x. Live k p.root l t x (doing s t) × HeldBy k p.root l t x) tries.stands
      (subst (λ g. Fits k p.root l t g (standing_of c t) (doing s t)) turn (before.each t there))

  -- its thread is at a test, which leads to a state of the region
  record AtTest (y : Doing) : Type 0 where
    there_is : y ≢ Away
    no_turn : giving y ≢ Turn
    target : InRegion k t (state_in k t tries.test.target)

  at_test : (y : Doing) → caught (at.Trying tries.state (tries.test ∷ tries.others)) y ≡ true →
      Live k p.root l t (at.Trying tries.state (tries.test ∷ tries.others)) y →
      HeldBy k p.root l t (at.Trying tries.state (tries.test ∷ tries.others)) → AtTest y
  at_test (Todo todo) h live held =
      record {
        there_is = λ e. absurd cc;
        no_turn = todo_gives todo;
        target =
            let takes : Takes k p.root l (state_at k tries.state).holder tries.test todo =
            subst (λ o. Tests p.root o (Takes k p.root l (state_at k tries.state).holder tries.test)
            (Tries p.root (Takes k p.root l (state_at k tries.state).holder) (l.pause tries.state) tries.others) todo) tries.plain live.1 in
            subst (λ a. InRegion k a (state_in k a tries.test.target)) held.0.holder takes.0;
      }
    where
      todo_gives : (b : Block) → giving (Todo b) ≢ Turn
      todo_gives (Fork n branches rest) e = absurd cc
      todo_gives (End n) e = absurd cc
      todo_gives (Assign n x e rest) f = absurd cc
      todo_gives (Label name rest) e = absurd cc
      todo_gives (Goto g name rest) e = absurd cc
      todo_gives (Pause n rest) e = absurd cc
      todo_gives (If n e a b rest) f = absurd cc
  at_test (Resting n rest) h live held = let none : tries.test ∷ tries.others ≡ [] = live.0 in absurd cc
  at_test (Resuming n rest) h live held = absurd cc
  at_test Away h live held = absurd live
  at_test (Forked n branches rest) h live held = absurd live
  at_test Finished h live held = absurd live

  here : AtTest (doing s t)
  here = at_test (doing s t) (subst (λ x. caught x (doing s t) ≡ true) tries.stands (up t)) fits.0 fits.1

  abbrev v : ℕ
  v = state_in k t tries.test.target

  -- ---- what the step makes of regions

  abbrev dropped_regions : List Standing
  dropped_regions = moved (drops (inside k tries.state)) c.regions

  moves_are : d.regions ≡ moved (acts k t tries.state tries.test.effects tries.test.target) dropped_regions
  moves_are =
      let parts : Stepped k t c d = stepped k t c d steps in
      let change_is : record { write = None; moves = taken k t tries.state tries.test } ≡ parts.change =
      same_Some (record { write = None; moves = taken k t tries.state tries.test }) parts.change
      (sym (ap (change_of k c t) tries.stands
      ∙ tested_is k c t tries.state tries.test (to t (at.Trying tries.state tries.others) ∷ []) true (ap (verdict c.variables) tries.plain)) ∙ parts.does) in
      ap (λ (z : Configuration). z.regions) (sym parts.is ∙ ap (λ e. after e c) (sym change_is))
      ∙ moved_append (drops (inside k tries.state)) (acts k t tries.state tries.test.effects tries.test.target) c.regions

  -- nobody is inside of a simple state
  dropped_none : (q : ℕ) → at_number dropped_regions q ≡ standing_of c q
  dropped_none q = drops_out (inside k tries.state) c.regions q (λ h. fits.1.1.none_inside q (inside_around k tries.state q h))

  count : length dropped_regions ≡ suc (length k.regions)
  count = drops_length (inside k tries.state) c.regions ∙ before.regions

  t_within : t < length dropped_regions
  t_within = let high = there.1 in let same = count in omega (arith, high, same)

  v_there : v < length k.states
  v_there = here.target.there

  own_side : ¬ Contains (around k t) v
  own_side h = let less : holder k v < t = chart_is_deeper features.Core chart rules t v h in let same : holder k v ≡ t = here.target.holder in
      omega (less, same, arith)

  -- ---- who is inside of the target has no thread yet

  gives_within : (u : ℕ) (x : Standing) (y : Doing) → giving_in u x y ≡ Turn → giving y ≡ Turn
  gives_within u (at.Within w tests) y h = by (nat_eq w u) h
    where
      by : (b : Bool) → (if b then giving y else Nothing) ≡ Turn → giving y ≡ Turn
      by true h = h
      by false h = absurd cc
  gives_within u at.Outside y h = absurd cc
  gives_within u at.Ended y h = absurd cc
  gives_within u (at.Trying w tests) y h = absurd cc
  gives_within u (at.Entering w tests) y h = absurd cc
  gives_within u (at.Guarding w tests) y h = absurd cc
  gives_within u (at.Acting w effects place) y h = absurd cc

  inside_away : (fuel q : ℕ) → q < fuel → Contains (around k q) v → doing s q ≡ Away
  inside_away zero q lt inner = absurd (omega (lt, arith))
  inside_away (suc fuel) q lt inner =
      by (given k d s (region_at k q).around) refl (behind.each q q_there) (λ a lt_a outer. inside_away fuel a lt_a outer)
    where
      q_there : IsRegionOf k q
      q_there = around_there k q v inner

      no_turn : given k d s (region_at k q).around ≡ Turn → ((a : ℕ) → a < fuel → Contains (around k a) v → doing s a ≡ Away) → ⊥
      no_turn is rest = ⊎_elim
          (λ top. none_in v (subst (λ zs. Contains zs v) top.1 inner))
          (λ u. let a : ℕ = (state_at k u.0).holder in
          let gives : giving (doing s a) ≡ Turn =
          gives_within u.0 (standing_of d a) (doing s a) (sym (ap (given k d s) u.1.around) ∙ is) in
          ⊎_elim
          (λ same. here.no_turn (subst (λ z. giving (doing s z) ≡ Turn) (ap (holder k) same ∙ here.target.holder) gives))
          (λ outer. let less : a < q = u.1.less in
          let away : doing s a ≡ Away = rest a (omega (less, lt, arith)) outer in
          let wrong : Ready ≡ Turn = sym (ap giving away) ∙ gives in absurd cc)
          (head_or_tail u.0 v (around k a) (subst (λ zs. Contains zs v) u.1.around inner)))
          (low.tree.each q q_there)

      by : (g : Giving) → given k d s (region_at k q).around ≡ g → Fits k p.root l q g (standing_of d q) (doing s q) →
          ((a : ℕ) → a < fuel → Contains (around k a) v → doing s a ≡ Away) → doing s q ≡ Away
      by Nothing is alike rest = alike.1
      by Ready is alike rest = alike.1
      by Past is alike rest = alike.1
      by Turn is alike rest = absurd (no_turn is rest)

  -- ---- the region itself, and the others

  abbrev Falls : List Effect → Standing → Type 0
  Falls effects x = silent_left k l t x < by_effects k l t tries.test.target effects

  -- where the region comes to stand, fewer of its tests are left; the others stand where they stood, or have no thread
  record Moves (effects : List Effect) : Type 0 where
    comes : Standing
    at_t : at_number (moved (acts k t tries.state effects tries.test.target) dropped_regions) t ≡ comes
    fewer : Falls effects comes
    others : (q : ℕ) → q ≢ t →
        (at_number (moved (acts k t tries.state effects tries.test.target) dropped_regions) q ≡ standing_of c q) ⊎ (doing s q ≡ Away)

  one_move : (effects : List Effect) (x : Standing) → acts k t tries.state effects tries.test.target ≡ to t x ∷ [] → Falls effects x → Moves effects
  one_move effects x is falls =
      record {
        comes = x;
        at_t = ap (λ ms. at_number (moved ms dropped_regions) t) is ∙ set_here dropped_regions t x t_within;
        fewer = falls;
        others = λ q ne. inl (ap (λ ms. at_number (moved ms dropped_regions) q) is ∙ set_other dropped_regions t q x ne ∙ dropped_none q);
      }

  opened_too : (x : Standing) → (state_at k v).entered ≡ to t x ∷ (state_at k v).opened → Falls [] x → Moves []
  opened_too x is falls =
      record {
        comes = x;
        at_t = ap (λ ms. at_number (moved ms dropped_regions) t) is
            ∙ (opened_elsewhere features.Core chart rules v t (slice_set dropped_regions t x) v_there own_side ∙ set_here dropped_regions t x t_within);
        fewer = falls;
        others = λ q ne. ⊎_elim (λ inner. inr (inside_away (suc q) q (omega arith) inner))
            (λ out. inl (ap (λ ms. at_number (moved ms dropped_regions) q) is
            ∙ (opened_elsewhere features.Core chart rules v q (slice_set dropped_regions t x) v_there out
            ∙ (set_other dropped_regions t q x ne ∙ dropped_none q))))
            (contained (around k q) v);
      }

  at_t_held : (x : Standing) (ms : List Move) → (state_at k v).entered ≡ to (holder k v) x ∷ ms → (state_at k v).entered ≡ to t x ∷ ms
  at_t_held x ms e = e ∙ ap (λ h. to h x ∷ ms) here.target.holder

  positive : Falls [] at.Ended
  positive = zero_two (l.rank v)

  -- the first test of the state that was entered
  tests_fall : (tests : List Transition) → at_once (own k v) ≡ tests → Falls [] (at.Trying v tests)
  tests_fall [] is = zero_two (l.rank v)
  tests_fall (y ∷ tests) is = by_test y.trigger refl
    where
      effects_fall : (effects : List Effect) → y.effects ≡ effects → y.trigger ≡ None →
          by_effects k l t y.target effects < by_effects k l t tries.test.target []
      effects_fall [] none plain =
          let less : l.rank (state_in k (holder k v) y.target) < l.rank v = low.falls v y tests v_there is plain none in
          let less_here : l.rank (state_in k t y.target) < l.rank v = subst (λ h. l.rank (state_in k h y.target) < l.rank v) here.target.holder less in
          two_fall (l.rank (state_in k t y.target)) (l.rank v) less_here
      effects_fall (e ∷ effects) some plain = one_two (l.rank v)

      by_test : (o : Option Expr) → y.trigger ≡ o → by_trigger k l t y y.trigger < by_effects k l t tries.test.target []
      by_test None plain =
          subst (λ o. by_trigger k l t y o < by_effects k l t tries.test.target []) (sym plain) (effects_fall y.effects refl plain)
      by_test (Some e) some = subst (λ o. by_trigger k l t y o < by_effects k l t tries.test.target []) (sym some) (zero_two (l.rank v))

  enters : Entry k v → Moves []
  enters (entry_ends e) = one_move [] at.Ended (at_t_held at.Ended [] e) positive
  enters (entry_tries none e) =
      one_move [] (at.Trying v (at_once (own k v))) (at_t_held (at.Trying v (at_once (own k v))) [] e) (tests_fall (at_once (own k v)) refl)
  enters (entry_guards y tests some strong e) = one_move [] (at.Entering v (y ∷ tests)) (at_t_held (at.Entering v (y ∷ tests)) [] e) (zero_two (l.rank v))
  enters (entry_opens some strong e) =
      opened_too (at.Within v (first_closing_tests (own k v)))
      (at_t_held (at.Within v (first_closing_tests (own k v))) (state_at k v).opened e) (zero_two (l.rank v))

  moves_of : (effects : List Effect) → Moves effects
  moves_of [] = enters (charts_enter features.Core chart rules v v_there)
  moves_of (e ∷ effects) = one_move (e ∷ effects) (at.Acting tries.state (e ∷ effects) tries.test.target) refl zero_one

  -- ---- fewer are left in the whole chart

  counts : (y : Doing) (n : ℕ) → y ≢ Away → counted k l y n ≡ n
  counts Away n ne = absurd (ne refl)
  counts (Todo todo) n ne = refl
  counts (Forked n branches rest) m ne = refl
  counts (Resting n rest) m ne = refl
  counts (Resuming n rest) m ne = refl
  counts Finished n ne = refl

  made : Moves tries.test.effects
  made = moves_of tries.test.effects

  left_here : left_of k l d s t < left_of k l c s t
  left_here =
      let now : standing_of d t ≡ made.comes = ap (λ zs. at_number zs t) moves_are ∙ made.at_t in
      let less = made.fewer in
      let after_it : left_of k l d s t ≡ silent_left k l t made.comes = counts (doing s t) (silent_left k l t (standing_of d t)) here.there_is
      ∙ ap (silent_left k l t) now in
      let before_it : left_of k l c s t ≡ by_effects k l t tries.test.target tries.test.effects =
      counts (doing s t) (silent_left k l t (standing_of c t)) here.there_is
      ∙ (ap (silent_left k l t) tries.stands ∙ ap (by_trigger k l t tries.test) tries.plain) in
      omega (less, after_it, before_it, arith)

  left_each : (q : ℕ) → left_of k l d s q ≤ left_of k l c s q
  left_each q = ⊎_elim
      (λ same. let less : left_of k l d s q < left_of k l c s q = subst (λ z. left_of k l d s z < left_of k l c s z) (sym same) left_here in
      omega (less, arith))
      (λ ne. ⊎_elim
      (λ stays. let same : left_of k l d s q ≡ left_of k l c s q =
      ap (λ x. counted k l (doing s q) (silent_left k l q x)) (ap (λ zs. at_number zs q) moves_are ∙ stays) in omega (same, arith))
      (λ away. let none : left_of k l d s q ≡ 0 = ap (λ y. counted k l y (silent_left k l q (standing_of d q))) away in omega (none, arith))
      (made.others q ne))
      (same_or_not q t)

  pub fewer_silent : silent_tests k l d s < silent_tests k l c s
  fewer_silent = total_falls (left_of k l d s) (left_of k l c s) left_each t left_here (suc (length k.regions)) there.1
