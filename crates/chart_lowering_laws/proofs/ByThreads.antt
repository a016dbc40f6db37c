-- The chart follows its lowering: to each step of a thread its region has one that shows the same, or none.
use Rattle.std.proofs.Common.{◌≡◌, ◌≢◌, ℕ, zero, suc, ◌<◌, ◌⊎◌, inl, inr, Bool, true, false, Option, Some, None, List, [], ◌∷◌, length, slice_get, unwrap_or}
use Rattle.std.proofs.Common.{option_map, Contains, refl, sym, ap, subst, ◌∙◌, arith}
use Rattle.std.proofs.lemmas.Option.{none-some, same_Some, slice_get_within}
use Rattle.sc_values.specs.declared.expression.Expr.{Expr}
use Rattle.sc_values.specs.Runs.{Machine, Act, act_of}
use Rattle.core_charts.specs.declared.region.Effect.{Effect}
use Rattle.core_charts.specs.declared.region.Transition.{Transition}
use Rattle.core_charts.specs.Tests.{terminations}
use Rattle.chart_machine.specs.declared.standing.Standing.{Standing}
use Rattle.chart_machine.specs.declared.standing.Standing.TheVariants as stand
use Rattle.chart_machine.specs.declared.standing.Configuration.{Configuration}
use Rattle.chart_machine.specs.declared.table.Table.{Table}
use Rattle.chart_machine.specs.Table.{state_at, region_at}
use Rattle.chart_machine.specs.Turns.{standing_of}
use Rattle.chart_machine.specs.Steps.{step as chart_step, access_of as access_of_region}
use Rattle.chart_machine.specs.Machine.{machine as chart_machine}
use Rattle.scl.specs.Block.{Block, End, Assign, Label, Goto, Pause, If, Fork, Branches}
use Rattle.scl.specs.Labels.{settled}
use Rattle.scl.specs.Places.{threads_of}
use Rattle.scl.specs.Numbering.{Numbered}
use Rattle.scl.specs.Meaning.{State, Doing, Away, Todo, Forked, Resting, Resuming, Finished, doing, step, machine, all_finished, joined, after}
use Rattle.scl.specs.Meaning.{change_of}
use Rattle.scl.specs.Meaning.{access_of as access_of_thread}
use Rattle.scl_graph_laws.specs.Alike.{Both}
use Rattle.scl_graph_laws.proofs.Alike.{from_both, both_back}
use Rattle.chart_lowering_laws.proofs.Stepping.{OneMoved}
use Rattle.chart_lowering_laws.specs.Layout.{Layout, LiesIn, IsRegionOf, Lowers, Behind, goes_on}
use Rattle.chart_lowering_laws.specs.Corresponds.{Live, HeldBy, Giving, Nothing, Ready, Turn, Past, given, Fits, IsAtRoot, Corresponds}
use Rattle.chart_lowering_laws.specs.Shown.{move, shown_acts}
use Rattle.chart_lowering_laws.specs.Follows.{Answers}
use Rattle.chart_lowering_laws.specs.WhichShow.{region_shows, thread_shows, shows_doing, shows_standing, has_trigger}
use Rattle.chart_lowering_laws.proofs.LeadAlike.{is_there}
use Rattle.chart_lowering_laws.proofs.Updating.{After}
use Rattle.chart_lowering_laws.proofs.Steps.{tests_alike, effects_alike}
use Rattle.chart_lowering_laws.proofs.Joins.{InFork, in_fork, given_forked, termination_alike, join_silently, root_joins, fork_region, fork_root}
use Rattle.chart_lowering_laws.proofs.Alone.{GoesAlone, root_finishes, resumes_simple, resumes_super, pauses_simple, pauses_super, ends}
use Rattle.chart_lowering_laws.proofs.Finished.{all_have_finished, ended_is}
use Rattle.chart_lowering_laws.proofs.ByRegions.{only_true}
use Rattle.chart_lowering_laws.proofs.Catching.{no_answer, shown_answer}
use Rattle.chart_lowering_laws.proofs.Showing.{ShowsAlike, test_shows, effect_shows, act}
use Rattle.chart_lowering_laws.proofs.Quieting.{quiet}

pub map_some : {A B : Type 0} (f : A → B) (o : Option A) (y : B) → option_map f o ≡ Some y → (x : A) × (o ≡ Some x)
map_some f None y h = absurd (none-some y h)
map_some f (Some x) y h = (x, refl)

module _ (k : Table) (p : Numbered) (l : Layout) (low : Lowers k p l) (s : State) where
  abbrev text : Machine
  text = machine p

  abbrev chart : Machine
  chart = chart_machine k

  abbrev pub shown_of : ℕ → List Act
  shown_of t = shown_acts (move (thread_shows s t) (act_of text s t) ∷ [])

  shown_silent : (t : ℕ) → thread_shows s t ≡ false → shown_of t ≡ []
  shown_silent t is = ap (λ b. shown_acts (move b (act_of text s t) ∷ [])) is

  shown_is : (t : ℕ) → thread_shows s t ≡ true → shown_of t ≡ act_of text s t ∷ []
  shown_is t is = ap (λ b. shown_acts (move b (act_of text s t) ∷ [])) is

  module _ (c : Configuration) (corr : Corresponds k p l c s) (all : (q : ℕ) → quiet (standing_of c q) (doing s q) ≡ true) (t : ℕ) (f : State)
      (steps : step p t s ≡ Some f) where
    abbrev pub Good : Configuration → Type 0
    Good d = Corresponds k p l d f × ((d ≡ c) ⊎ (chart_step k t c ≡ Some d × After k p l c t d f))

    abbrev Goal : Type 0
    Goal = Answers chart region_shows c Good (shown_of t)

    silent_to : (y : Doing) (g : State) → doing s t ≡ y → shows_doing y ≡ false → step p t s ≡ Some g → Corresponds k p l c g → Goal
    silent_to y g is silent goes good =
        subst (Answers chart region_shows c Good) (sym (shown_silent t (ap shows_doing is ∙ silent)))
        (no_answer chart region_shows c Good (subst (Corresponds k p l c) (same_Some g f (sym goes ∙ steps)) good, inl refl))

    shown_to : (x : Standing) (y : Doing) (d : Configuration) → standing_of c t ≡ x → doing s t ≡ y → ShowsAlike x y → chart_step k t c ≡ Some d →
        After k p l c t d f → Goal
    shown_to x y d stands is alike goes good =
        subst (Answers chart region_shows c Good)
        (ap (λ z. act t (access_of_region z) ∷ []) stands ∙ ap (λ a. act t a ∷ []) (sym alike.access) ∙ ap (λ z. act t (access_of_thread z) ∷ []) (sym is)
        ∙ sym (shown_is t (ap shows_doing is ∙ alike.shows)))
        (shown_answer chart region_shows c d t Good goes (ap shows_standing stands ∙ alike.shows_too) (good.0, inr (goes, good)))

    by_both : (x : Standing) (y : Doing) → standing_of c t ≡ x → doing s t ≡ y → ShowsAlike x y → Both (After k p l c t) (chart_step k t c) (step p t s) → Goal
    by_both x y stands is alike both =
        let d : (d : Configuration) × (chart_step k t c ≡ Some d) × After k p l c t d f = from_both (λ g d. After k p l c t d g) (step p t s)
        (chart_step k t c) f (both_back (After k p l c t) (chart_step k t c) (step p t s) both) steps in
        shown_to x y d.0 stands is alike d.1 d.2

    alone : (y d : Doing) → doing s t ≡ y → shows_doing y ≡ false → GoesAlone k p l low c s corr t d → Goal
    alone y d is silent goes = silent_to y goes.end is silent goes.steps goes.corresponds

    -- who joins has branches that have all finished
    finished : (n : ℕ) (branches : Branches) (rest : Block) → doing s t ≡ Forked n branches rest → all_finished s (threads_of branches) ≡ true
    finished n branches rest is =
        let change : option_map (λ e. after e s) (change_of p s t (Forked n branches rest)) ≡ Some f =
        sym (ap (λ y. option_map (λ e. after e s) (change_of p s t y)) is) ∙ steps in
        let some : (e : Rattle.scl.specs.Meaning.ThreadChange) × (change_of p s t (Forked n branches rest) ≡ Some e) = map_some (λ e. after e s)
        (change_of p s t (Forked n branches rest)) f change in
        only_true (all_finished s (threads_of branches)) (option_map (joined t (threads_of branches)) (settled p.root rest)) some.0 some.1

    none_of : (y : Doing) → doing s t ≡ y → change_of p s t y ≡ None → ⊥
    none_of y is none =
        let h : step p t s ≡ None = ap (λ z. option_map (λ e. after e s) (change_of p s t z)) is ∙ ap (option_map (λ e. after e s)) none in
        none-some f (sym h ∙ steps)

    module _ (there : IsRegionOf k t) (turn : given k c s (region_at k t).around ≡ Turn) where
      trying : (u : ℕ) (tests : List Transition) → standing_of c t ≡ stand.Trying u tests → (y : Doing) → doing s t ≡ y →
          quiet (stand.Trying u tests) y ≡ true → Live k p.root l t (stand.Trying u tests) y → Goal
      trying u [] stands (Todo todo) is h live =
          let same : todo ≡ Pause live.1.0 live.1.1 = is_there p.root todo (Pause live.1.0 live.1.1) live.0 live.1.3 in
          let at : doing s t ≡ Todo (Pause live.1.0 live.1.1) = is ∙ ap Todo same in
          alone (Todo (Pause live.1.0 live.1.1)) (Resting live.1.0 live.1.1) at refl
          (pauses_simple k p l low c s corr t there turn u live.1.0 live.1.1 stands at)
      trying u (x ∷ tests) stands (Todo todo) is h live = by x.trigger refl
        where
          by : (o : Option Expr) → x.trigger ≡ o → Goal
          by None trigger = let no : has_trigger x.trigger ≡ false = ap has_trigger trigger in absurd (cc)
          by (Some e) trigger =
              by_both (stand.Trying u (x ∷ tests)) (Todo todo) stands is (test_shows k p.root l t u x tests e todo trigger live)
              (tests_alike k p l low c s corr t there turn u x tests e todo stands trigger is)
      trying u tests stands (Resuming n rest) is h live =
          let goes : (first : Block) × GoesAlone k p l low c s corr t (Todo first) = resumes_simple k p l low c s corr t there turn u n tests rest stands is in
          alone (Resuming n rest) (Todo goes.0) is refl goes.1
      trying u tests stands (Resting n rest) is h live = absurd (none_of (Resting n rest) is refl)
      trying u tests stands Away is h live = absurd (none_of Away is refl)
      trying u tests stands Finished is h live = absurd (none_of Finished is refl)
      trying u [] stands (Forked n branches rest) is h live = absurd live
      trying u (x ∷ tests) stands (Forked n branches rest) is h live = absurd live

      joins : (u n : ℕ) (tests : List Transition) (branches : Branches) (rest : Block) → standing_of c t ≡ stand.Within u tests →
          doing s t ≡ Forked n branches rest → tests ≡ terminations (state_at k u).transitions → Goal
      joins u n [] branches rest stands is every =
          let fork : InFork k p l low c s corr t u n branches rest = in_fork k p l low c s corr t u n branches rest there turn
          (stands ∙ ap (stand.Within u) every) is in
          let leaves : Behind k p.root l u [] rest = subst (λ ts. Behind k p.root l u ts rest) (sym every) fork.behind in
          let goes : (g : State) × (step p t s ≡ Some g) × Corresponds k p l c g
          × ((n : ℕ) × (more : Block) × (doing g t ≡ Todo (Pause n more)) × (l.pause u ≡ Pause n more)) × ((v : ℕ) → v ≢ t →
          (doing g v ≡ doing s v) ⊎ ((doing g v ≡ Away) × (t < v))) =
          join_silently k p l low c s corr t u n branches rest there turn stands (sym every) is (finished n branches rest is) in
          silent_to (Forked n branches rest) goes.0 is leaves.5 goes.1 goes.2
      joins u n (x ∷ tests) branches rest stands is every =
          let fork : InFork k p l low c s corr t u n branches rest = in_fork k p l low c s corr t u n branches rest there turn
          (stands ∙ ap (stand.Within u) every) is in
          let leaves : Behind k p.root l u (x ∷ tests) rest = subst (λ ts. Behind k p.root l u ts rest) (sym every) fork.behind in
          let ended : (v : ℕ) → Contains (state_at k u).regions v → standing_of c v ≡ stand.Ended = λ v held.
          let lies : IsRegionOf k v × LiesIn k v u = low.tree.regions u v fork.within.there held in
          let v_turn : given k c s (region_at k v).around ≡ Turn = given_forked k p l low c s corr v t u n
          (x ∷ tests) branches rest lies.1 fork.within stands is in
          let v_live : Live k p.root l v (standing_of c v) (doing s v) × HeldBy k p.root l v (standing_of c v) =
          subst (λ g. Fits k p.root l v g (standing_of c v) (doing s v)) v_turn (corr.each v lies.0) in
          ended_is k p.root l v (standing_of c v)
          (subst (Live k p.root l v (standing_of c v)) (all_have_finished s (threads_of branches) (finished n branches rest is) v
          (subst (λ ts. Contains ts v) (sym fork.threads) held)) v_live.0) in
          let both : (d : Configuration) × (g : State) × (chart_step k t c ≡ Some d) × (step p t s ≡ Some g) × After k p l c t d g =
          termination_alike k p l low c s corr t u n branches rest x tests there turn stands (sym every) is ended (finished n branches rest is) in
          shown_to (stand.Within u (x ∷ tests)) (Forked n branches rest) both.0 stands is
          (record { shows = leaves.3; shows_too = refl; access = sym (ap Rattle.chart_machine.specs.Steps.access_of_trigger leaves.2) })
          both.2 (subst (After k p l c t both.0) (same_Some both.1 f (sym both.3 ∙ steps)) both.4)

      within : (u : ℕ) (tests : List Transition) → standing_of c t ≡ stand.Within u tests → (y : Doing) → doing s t ≡ y →
          Live k p.root l t (stand.Within u tests) y → Goal
      within u tests stands (Todo (Fork n branches rest)) is live =
          let goes : (g : State) × (step p t s ≡ Some g) × Corresponds k p l c g × (doing g t ≡ Forked n branches rest) × ((v : ℕ) → v < t →
          doing g v ≡ doing s v) =
          fork_region k p l low c s corr t u n branches rest there turn (stands ∙ ap (stand.Within u) live.0) is in
          silent_to (Todo (Fork n branches rest)) goes.0 is refl goes.1 goes.2
      within u tests stands (Todo (Pause n rest)) is live = alone (Todo (Pause n rest)) (Resting n rest) is refl
          (pauses_super k p l low c s corr t there turn u n tests rest stands is)
      within u tests stands (Todo (End n)) is live = absurd live.1
      within u tests stands (Todo (Assign n y e rest)) is live = absurd live.1
      within u tests stands (Todo (Label name rest)) is live = absurd live.1
      within u tests stands (Todo (Goto g name rest)) is live = absurd live.1
      within u tests stands (Todo (If n e a b rest)) is live = absurd live.1
      within u tests stands (Forked n branches rest) is live = joins u n tests branches rest stands is live.0
      within u tests stands (Resuming n rest) is live = alone (Resuming n rest) (Todo (Pause n rest)) is refl
          (resumes_super k p l low c s corr t there turn u n tests rest stands is)
      within u tests stands (Resting n rest) is live = absurd (none_of (Resting n rest) is refl)
      within u tests stands Away is live = absurd live
      within u tests stands Finished is live = absurd live

      ending : (y : Doing) → standing_of c t ≡ stand.Ended → doing s t ≡ y → Live k p.root l t stand.Ended y → Goal
      ending (Todo (End n)) stands is live = alone (Todo (End n)) Finished is refl (ends k p l low c s corr t there turn n stands is)
      ending (Todo (Fork n branches rest)) stands is live = absurd live
      ending (Todo (Pause n rest)) stands is live = absurd live
      ending (Todo (Assign n y e rest)) stands is live = absurd live
      ending (Todo (Label name rest)) stands is live = absurd live
      ending (Todo (Goto g name rest)) stands is live = absurd live
      ending (Todo (If n e a b rest)) stands is live = absurd live
      ending Finished stands is live = absurd (none_of Finished is refl)
      ending Away stands is live = absurd live
      ending (Forked n branches rest) stands is live = absurd live
      ending (Resting n rest) stands is live = absurd live
      ending (Resuming n rest) stands is live = absurd live

      acting : (u place : ℕ) (effects : List Effect) → standing_of c t ≡ stand.Acting u effects place → (y : Doing) → doing s t ≡ y →
          Live k p.root l t (stand.Acting u effects place) y → Goal
      acting u place (e ∷ effects) stands (Todo todo) is live =
          by_both (stand.Acting u (e ∷ effects) place) (Todo todo) stands is (effect_shows k p.root l t u place e effects todo live)
          (effects_alike k p l low c s corr t there turn u place e effects todo stands is)
      acting u place [] stands (Todo todo) is live = absurd live
      acting u place effects stands Away is live = absurd (none_of Away is refl)
      acting u place effects stands Finished is live = absurd (none_of Finished is refl)
      acting u place effects stands (Resting n rest) is live = absurd (none_of (Resting n rest) is refl)
      acting u place [] stands (Resuming n rest) is live = absurd live
      acting u place (e ∷ effects) stands (Resuming n rest) is live = absurd live
      acting u place [] stands (Forked n branches rest) is live = absurd live
      acting u place (e ∷ effects) stands (Forked n branches rest) is live = absurd live

      by_standing : (x : Standing) → standing_of c t ≡ x → quiet x (doing s t) ≡ true → Live k p.root l t x (doing s t) → Goal
      by_standing (stand.Trying u tests) stands h live = trying u tests stands (doing s t) refl h live
      by_standing (stand.Within u tests) stands h live = within u tests stands (doing s t) refl live
      by_standing (stand.Acting u effects place) stands h live = acting u place effects stands (doing s t) refl live
      by_standing stand.Ended stands h live = ending (doing s t) stands refl live
      by_standing stand.Outside stands h live = absurd (none (doing s t) live)
        where
          none : (y : Doing) → Live k p.root l t stand.Outside y → ⊥
          none Away live = live
          none (Todo todo) live = live
          none (Forked n branches rest) live = live
          none (Resting n rest) live = live
          none (Resuming n rest) live = live
          none Finished live = live
      by_standing (stand.Entering u tests) stands h live = absurd live
      by_standing (stand.Guarding u tests) stands h live = absurd live

    by_root : (y : Doing) → t ≡ zero → doing s t ≡ y → IsAtRoot p.root y → Goal
    by_root (Todo (Fork n branches rest)) zero_is is at =
        let goes : (g : State) × (step p zero s ≡ Some g) × Corresponds k p l c g × (doing g zero ≡ Forked n branches rest) =
        fork_root k p l low c s corr n branches rest (ap (doing s) (sym zero_is) ∙ is) in
        silent_to (Todo (Fork n branches rest)) goes.0 is refl (ap (λ w. step p w s) zero_is ∙ goes.1) goes.2
    by_root (Todo (End n)) zero_is is at =
        let goes : (g : State) × (step p zero s ≡ Some g) × Corresponds k p l c g × OneMoved s g zero Finished =
        root_finishes k p l low c s corr n (ap (doing s) (sym zero_is) ∙ is) in
        silent_to (Todo (End n)) goes.0 is refl (ap (λ w. step p w s) zero_is ∙ goes.1) goes.2
    by_root (Forked n branches rest) zero_is is at =
        let goes : (g : State) × (step p zero s ≡ Some g) × Corresponds k p l c g × ((n : ℕ) × (doing g zero ≡ Todo (End n))) × ((q : ℕ) → q ≢ zero →
        (doing g q ≡ doing s q) ⊎ (doing g q ≡ Away)) =
        root_joins k p l low c s corr n branches rest (ap (doing s) (sym zero_is) ∙ is) (finished n branches rest is) in
        silent_to (Forked n branches rest) goes.0 is
        (ap goes_on (rest_of low.root.node n low.root.branches branches (End low.root.end) rest (sym low.root.is ∙ at))) (ap (λ w. step p w s) zero_is
        ∙ goes.1) goes.2
      where
        rest_of : (m n : ℕ) (a b : Branches) (x y : Block) → Fork m a x ≡ Fork n b y → y ≡ x
        rest_of m n a b x y h = cc
    by_root (Todo (Assign n x e rest)) zero_is is at = absurd at
    by_root (Todo (Label name rest)) zero_is is at = absurd at
    by_root (Todo (Goto g name rest)) zero_is is at = absurd at
    by_root (Todo (Pause n rest)) zero_is is at = absurd at
    by_root (Todo (If n e a b rest)) zero_is is at = absurd at
    by_root (Resting n rest) zero_is is at = absurd at
    by_root (Resuming n rest) zero_is is at = absurd at
    by_root Away zero_is is at = absurd (none_of Away is refl)
    by_root Finished zero_is is at = absurd (none_of Finished is refl)

    by_given : IsRegionOf k t → (g : Giving) → given k c s (region_at k t).around ≡ g → Fits k p.root l t g (standing_of c t) (doing s t) → Goal
    by_given there Nothing is fits = absurd (none_of Away fits.1 refl)
    by_given there Ready is fits = absurd (none_of Away fits.1 refl)
    by_given there Past is fits = absurd (none_of Away fits.1 refl)
    by_given there Turn is fits = by_standing there is (standing_of c t) refl (all t) fits.0

    pub quiet_follows : Goal
    quiet_follows = by (slice_get s.threads t) refl
      where
        by_number : (w : ℕ) → t ≡ w → w < suc (length k.regions) → Goal
        by_number zero is less = by_root (doing s t) is refl (subst (λ w. IsAtRoot p.root (doing s w)) (sym is) corr.root)
        by_number (suc w) is less =
            let there : IsRegionOf k t = subst (IsRegionOf k) (sym is) (omega arith, less) in
            by_given there (given k c s (region_at k t).around) refl (corr.each t there)

        by : (o : Option Doing) → slice_get s.threads t ≡ o → Goal
        by None is = absurd (none_of Away (ap (λ o. unwrap_or o Away) is) refl)
        by (Some y) is = let less : t < length s.threads = slice_get_within s.threads t y is in let same : length s.threads ≡ suc (length k.regions) =
            corr.threads in by_number t refl (omega (arith, less, same))
