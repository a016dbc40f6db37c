-- A thread that has forked waits for its branches: its join shows, or else none of them steps any more.
use Rattle.std.proofs.Common.{◌≡◌, ◌≢◌, ℕ, zero, suc, ◌<◌, ◌⊎◌, inl, inr, ⊎_elim, Bool, true, false, if◌then◌else◌, Option, Some, None, List, [], ◌∷◌, length}
use Rattle.std.proofs.Common.{slice_get, unwrap_or, option_map, Contains, refl, sym, ap, subst, ◌∙◌, arith}
use Rattle.std.proofs.lemmas.Option.{none-some, same_Some, slice_get_within}
use Rattle.sc_values.specs.declared.expression.Expr.{Expr}
use Rattle.sc_graph.specs.Steps.{Keep}
use Rattle.core_charts.specs.declared.region.Transition.{Transition}
use Rattle.core_charts.specs.Tests.{terminations}
use Rattle.chart_machine.specs.declared.standing.Standing.{Standing}
use Rattle.chart_machine.specs.declared.standing.Standing.TheVariants as stand
use Rattle.chart_machine.specs.declared.standing.Configuration.{Configuration}
use Rattle.chart_machine.specs.declared.table.Table.{Table}
use Rattle.chart_machine.specs.Table.{state_at, region_at}
use Rattle.chart_machine.specs.Turns.{standing_of, holder_of, itself, deeper}
use Rattle.chart_machine.specs.Turns.{ForkedApart as RegionsApart, LiesIn as LiesUnder}
use Rattle.scl.specs.Block.{Block, End, Assign, Label, Goto, Pause, If, Fork, Branches}
use Rattle.scl.specs.Labels.{settled}
use Rattle.scl.specs.Places.{threads_of}
use Rattle.scl.specs.Places.{ForkedApart as ThreadsApart}
use Rattle.scl.specs.Numbering.{Numbered}
use Rattle.scl.specs.Meaning.{State, Doing, Away, Todo, Forked, Resting, Resuming, Finished, ThreadChange, doing}
use Rattle.scl.specs.Meaning.{step, machine, all_finished, joined, after, change_of}
use Rattle.chart_lowering_laws.proofs.Updating.{After}
use Rattle.chart_lowering_laws.proofs.Showing.{test_shows, effect_shows}
use Rattle.chart_lowering_laws.specs.Layout.{Layout, LiesIn, IsRegionOf, Lowers, Behind}
use Rattle.chart_lowering_laws.specs.Layout.{goes_on as leaves}
use Rattle.chart_lowering_laws.specs.Corresponds.{Live, HeldBy, Nothing, Ready, Turn, giving, giving_in, giving_of_root, given, IsAtRoot}
use Rattle.chart_lowering_laws.specs.Corresponds.{Corresponds}
use Rattle.chart_lowering_laws.proofs.Waiting.{Waiting}
use Rattle.chart_lowering_laws.specs.Follows.{Answers}
use Rattle.chart_lowering_laws.specs.WhichShow.{region_shows, thread_shows, shows_doing, has_trigger}
use Rattle.chart_lowering_laws.proofs.NumberTests.{same_or_not, nat_same}
use Rattle.chart_lowering_laws.proofs.Matching.{around_less}
use Rattle.chart_lowering_laws.proofs.LeadAlike.{is_there}
use Rattle.chart_lowering_laws.proofs.Structure.{given_top, given_in}
use Rattle.chart_lowering_laws.proofs.Stepping.{thread_within, set_doing_same}
use Rattle.chart_lowering_laws.proofs.Joins.{InFork, in_fork, join_silently, root_joins, fork_branches}
use Rattle.chart_lowering_laws.proofs.Finished.{all_have_finished}
use Rattle.chart_lowering_laws.proofs.Apart.{apart, region_by}
use Rattle.chart_lowering_laws.proofs.RegionsWait.{forks_around}
use Rattle.chart_lowering_laws.proofs.Quieting.{quiet, AllQuiet, all_quiet}
use Rattle.chart_lowering_laws.proofs.ByThreads.{quiet_follows, map_some, shown_of}
use Rattle.chart_lowering_laws.proofs.ByRegions.{only_true}
use Rattle.chart_lowering_laws.proofs.OtherThreads.{is_forked, left_alone}
use Rattle.chart_lowering_laws.proofs.ForkedTurns.{fits_as, turn_of, forked_here, apart_forked}

module _ (k : Table) (p : Numbered) (l : Layout) (low : Lowers k p l) where
  abbrev pub KeepsToo : State → Type 0
  KeepsToo s = (c : Configuration) × Corresponds k p l c s

  abbrev dead_doing : Doing → Bool
  dead_doing (Todo (Pause n rest)) = true
  dead_doing (Resting n rest) = true
  dead_doing other = false

  abbrev ended_doing : Doing → Bool
  ended_doing (Todo (End n)) = true
  ended_doing Finished = true
  ended_doing other = false

  abbrev Dead : State → ℕ → Type 0
  Dead s a = (dead_doing (doing s a) ≡ true) ⊎ ((a ≡ zero) × (ended_doing (doing s a) ≡ true))

  module _ (s : State) (keeps : KeepsToo s) where
    quieted : Answers (Rattle.chart_machine.specs.Machine.machine k) region_shows keeps.0 (AllQuiet k p l low s keeps.0) []
    quieted = all_quiet k p l low s keeps.0 keeps.1

    abbrev c : Configuration
    c = quieted.end

    abbrev corr : Corresponds k p l c s
    corr = quieted.good.corresponds

    abbrev all : (q : ℕ) → quiet (standing_of c q) (doing s q) ≡ true
    all = quieted.good.all

    -- ---- the branches of a fork are regions' threads

    -- those of a fork that is to be done are away
    forks_away : (t n : ℕ) (branches : Branches) (rest : Block) → (t ≡ zero) ⊎ IsRegionOf k t → doing s t ≡ Todo (Fork n branches rest) → (a : ℕ) →
        Contains (threads_of branches) a → IsRegionOf k a × (doing s a ≡ Away)
    forks_away t n branches rest (inl zero_is) is a h =
        let at : doing s zero ≡ Todo (Fork n branches rest) = ap (doing s) (sym zero_is) ∙ is in
        let root : p.root ≡ Fork n branches rest = subst (IsAtRoot p.root) at corr.root in
        let threads : threads_of branches ≡ l.top = ap (λ b. threads_of (fork_branches b)) (sym root ∙ low.root.is) ∙ low.root.opens.threads in
        let top : IsRegionOf k a × ((region_at k a).around ≡ []) = low.tree.tops a (subst (λ ts. Contains ts a) threads h) in
        (top.0, (fits_as k p l low c s corr a Ready top.0 (given_top k c s a top.1 ∙ ap giving_of_root at)).1)
    forks_away t n branches rest (inr there) is a h =
        let turn : given k c s (region_at k t).around ≡ Turn = turn_of k p l low c s corr t there (λ away. let no : Todo (Fork n branches rest) ≡ Away = sym is
        ∙ away in
        absurd (cc)) in
        by (standing_of c t) refl (subst (λ d. quiet (standing_of c t) d ≡ true) is (all t))
        (subst (Live k p.root l t (standing_of c t)) is (fits_as k p l low c s corr t Turn there turn).0) (fits_as k p l low c s corr t Turn there turn).1
      where
        todo : Block
        todo = Fork n branches rest

        in_super : (u : ℕ) (tests : List Transition) → standing_of c t ≡ stand.Within u tests → l.fork u ≡ Fork n branches rest →
            HeldBy k p.root l t (stand.Within u tests) → IsRegionOf k a × (doing s a ≡ Away)
        in_super u tests stands fork held =
            let same : Fork held.1.node held.1.branches held.1.rest ≡ Fork n branches rest = sym held.1.fork ∙ fork in
            let threads : threads_of branches ≡ (state_at k u).regions = ap (λ b. threads_of (fork_branches b)) (sym same) ∙ held.1.opens.threads in
            let lies : IsRegionOf k a × LiesIn k a u = low.tree.regions u a held.0.there (subst (λ ts. Contains ts a) threads h) in (
              lies.0,
              (fits_as k p l low c s corr a Ready lies.0
                  (given_in k c s a u lies.1
                  ∙ ap (λ w. giving_in u (standing_of c w) (doing s w)) held.0.holder
                  ∙ ap (λ x. giving_in u x (doing s t)) stands
                  ∙ ap (λ b. if b then giving (doing s t) else Nothing) (nat_same u u refl)
                  ∙ ap giving is)).1,
            )

        no_pause : (first : Block) (m : ℕ) (more : Block) → first ≡ Pause m more → first ≡ Fork n branches rest → ⊥
        no_pause first m more x y = cc

        by : (x : Standing) → standing_of c t ≡ x → quiet x (Todo (Fork n branches rest)) ≡ true → Live k p.root l t x (Todo (Fork n branches rest)) →
            HeldBy k p.root l t (standing_of c t) → IsRegionOf k a × (doing s a ≡ Away)
        by (stand.Within u tests) stands h live held = in_super u tests stands live.1 (subst (HeldBy k p.root l t) stands held)
        by (stand.Trying u []) stands h live held =
            absurd (no_pause (Fork n branches rest) live.1.0 live.1.1 (is_there p.root (Fork n branches rest) (Pause live.1.0 live.1.1) live.0 live.1.3) refl)
        by (stand.Trying u (x ∷ tests)) stands h live held = by_trigger x.trigger refl
          where
            by_trigger : (o : Option Expr) → x.trigger ≡ o → IsRegionOf k a × (doing s a ≡ Away)
            by_trigger None trigger = let no : has_trigger x.trigger ≡ false = ap has_trigger trigger in absurd (cc)
            by_trigger (Some e) trigger =
                let shows : shows_doing (Todo (Fork n branches rest)) ≡ true =
                (test_shows k p.root l t u x tests e (Fork n branches rest) trigger live).shows in absurd (cc)
        by (stand.Acting u [] place) stands h live held = absurd live
        by (stand.Acting u (e ∷ effects) place) stands h live held =
            let shows : shows_doing (Todo (Fork n branches rest)) ≡ true =
            (effect_shows k p.root l t u place e effects (Fork n branches rest) live).shows in absurd (cc)
        by stand.Ended stands h live held = absurd live
        by stand.Outside stands h live held = absurd live
        by (stand.Entering u tests) stands h live held = absurd live
        by (stand.Guarding u tests) stands h live held = absurd live

    -- those of a fork that was done
    fork_regions : (t n : ℕ) (branches : Branches) (rest : Block) → (t ≡ zero) ⊎ IsRegionOf k t → doing s t ≡ Forked n branches rest → (a : ℕ) →
        Contains (threads_of branches) a → IsRegionOf k a
    fork_regions t n branches rest (inl zero_is) is a h =
        let at : doing s zero ≡ Forked n branches rest = ap (doing s) (sym zero_is) ∙ is in
        let root : p.root ≡ Fork n branches rest = subst (IsAtRoot p.root) at corr.root in
        (low.tree.tops a (subst (λ ts. Contains ts a) (ap (λ b. threads_of (fork_branches b)) (sym root ∙ low.root.is) ∙ low.root.opens.threads) h)).0
    fork_regions t n branches rest (inr there) is a h =
        let turn : given k c s (region_at k t).around ≡ Turn = turn_of k p l low c s corr t there (λ away. let no : Forked n branches rest ≡ Away = sym is
        ∙ away in
        absurd (cc)) in
        by (standing_of c t) refl (subst (Live k p.root l t (standing_of c t)) is (fits_as k p l low c s corr t Turn there turn).0)
        (fits_as k p l low c s corr t Turn there turn).1
      where
        by : (x : Standing) → standing_of c t ≡ x → Live k p.root l t x (Forked n branches rest) → HeldBy k p.root l t (standing_of c t) → IsRegionOf k a
        by (stand.Within u tests) stands live held =
            let at_u : HeldBy k p.root l t (stand.Within u tests) = subst (HeldBy k p.root l t) stands held in
            let same : Fork at_u.1.node at_u.1.branches at_u.1.rest ≡ Fork n branches rest = sym at_u.1.fork ∙ live.1 in
            (low.tree.regions u a at_u.0.there (subst (λ ts. Contains ts a) (ap (λ b. threads_of (fork_branches b)) (sym same) ∙ at_u.1.opens.threads) h)).0
        by (stand.Trying u tests) stands live held = absurd live
        by (stand.Acting u [] place) stands live held = absurd live
        by (stand.Acting u (e ∷ effects) place) stands live held = absurd live
        by stand.Ended stands live held = absurd live
        by stand.Outside stands live held = absurd live
        by (stand.Entering u tests) stands live held = absurd live
        by (stand.Guarding u tests) stands live held = absurd live

    number_of : (t : ℕ) → doing s t ≢ Away → (t ≡ zero) ⊎ IsRegionOf k t
    number_of zero here = inl refl
    number_of (suc t) here = by (slice_get s.threads (suc t)) refl
      where
        by : (o : Option Doing) → slice_get s.threads (suc t) ≡ o → (suc t ≡ zero) ⊎ IsRegionOf k (suc t)
        by None is = absurd (here (ap (λ o. unwrap_or o Away) is))
        by (Some d) is = let less : suc t < length s.threads = slice_get_within s.threads (suc t) d is in let same : length s.threads ≡ suc (length k.regions) =
            corr.threads in inr (omega arith, omega (arith, less, same))

    module _ (t : ℕ) (f : State) (steps : step p t s ≡ Some f) where
      none_of : (y : Doing) → doing s t ≡ y → change_of p s t y ≡ None → ⊥
      none_of y is none = none-some f (sym (ap (λ z. option_map (λ e. after e s) (change_of p s t z)) is ∙ ap (option_map (λ e. after e s)) none) ∙ steps)

      here : doing s t ≢ Away
      here is = none_of Away is refl

      -- who is neither away nor finished is left as it is
      left : (a : ℕ) → a ≢ t → doing s a ≢ Away → doing s a ≢ Finished → doing f a ≡ doing s a
      left a differ not_away not_finished =
          left_alone p s t f steps a differ
          (λ n branches rest is h. not_away (forks_away t n branches rest (number_of t here) is a h).1)
          (λ n branches rest is finished h. not_finished (all_have_finished s (threads_of branches) finished a h))

      -- so is the first thread
      left_root : zero ≢ t → doing f zero ≡ doing s zero
      left_root differ =
          left_alone p s t f steps zero differ
          (λ n branches rest is h. let there : IsRegionOf k zero = (forks_away t n branches rest (number_of t here) is zero h).0 in let less : zero < zero =
          there.0 in absurd (omega (arith, less)))
          (λ n branches rest is finished h. let there : IsRegionOf k zero = fork_regions t n branches rest (number_of t here) is zero h in
          let less : zero < zero = there.0 in absurd (omega (arith, less)))

      forked_stays : (a : ℕ) → a ≢ t → is_forked (doing s a) ≡ true → is_forked (doing f a) ≡ true
      forked_stays a differ h = ap is_forked
          (left a differ (forked_here k p l low c s corr (doing s a) h) (λ is. let i : is_forked Finished ≡ true = subst (λ d. is_forked d ≡ true) is h in
          absurd (cc))) ∙ h

      under_region : (q left_one : ℕ) → LiesUnder k q left_one → IsRegionOf k left_one → IsRegionOf k q
      under_region q left_one (itself same) there = subst (IsRegionOf k) (sym same) there
      under_region q left_one (deeper w around holder) there = region_by k p l low q w around

      begins : (u a : ℕ) → ThreadsApart p.root t u a → is_forked (doing f a) ≡ true
      begins u a h =
          let regions : RegionsApart k t u a = apart k p l low t u a h in
          let there : IsRegionOf k t = under_region t regions.left regions.r_in (regions.beside.first, regions.beside.first_there) in
          forked_stays a (not_itself a there (forks_around k p l low t u a there regions)) (apart_forked k p l low c s corr t u a there here regions)
        where
          not_itself : (a : ℕ) → IsRegionOf k t → (a ≡ zero) ⊎ ((v : ℕ) × Contains (region_at k t).around v × ((state_at k v).holder ≡ a)) → a ≢ t
          not_itself a there (inl is) same = let less : zero < t = there.0 in absurd (omega (arith, less, is, same))
          not_itself a there (inr v) same = let less : (state_at k v.0).holder < t = around_less k p l low (suc t) t (omega arith) there v.0 v.1 in
              let is : (state_at k v.0).holder ≡ a = v.2 in absurd (omega (arith, less, is, same))

      rests : (a other : ℕ) → Dead s a → ThreadsApart p.root other t a → thread_shows s t ≡ false
      rests a other dead h =
          let regions : RegionsApart k other t a = apart k p l low other t a h in
          let there : IsRegionOf k t = under_region t regions.right regions.u_in (regions.beside.second, regions.beside.second_there) in
          let turned : RegionsApart k t other a =
          record {
            left = regions.right;
            right = regions.left;
            beside = record {
              differ = λ same. regions.beside.differ (sym same);
              first = regions.beside.second;
              second = regions.beside.first;
              first_there = regions.beside.second_there;
              second_there = regions.beside.first_there;
              around = sym regions.beside.around;
            };
            r_in = regions.u_in;
            u_in = regions.r_in;
            held = ap (holder_of k) (sym regions.beside.around) ∙ regions.held;
          } in
          absurd (not_both (doing s a) (apart_forked k p l low c s corr t other a there here turned) dead)
        where
          not_both : (d : Doing) → is_forked d ≡ true → (dead_doing d ≡ true) ⊎ ((a ≡ zero) × (ended_doing d ≡ true)) → ⊥
          not_both (Forked n branches rest) h (inl i) = absurd (cc)
          not_both (Forked n branches rest) h (inr i) = let j : ended_doing (Forked n branches rest) ≡ true = i.1 in absurd (cc)
          not_both Away h i = absurd (cc)
          not_both (Todo todo) h i = absurd (cc)
          not_both (Resting n rest) h i = absurd (cc)
          not_both (Resuming n rest) h i = absurd (cc)
          not_both Finished h i = absurd (cc)

      -- who is dead stays so
      dead : (a : ℕ) → Dead s a → Dead f a
      dead a h = ⊎_elim (λ same. subst (Dead f) same (own (subst (Dead s) (sym same) h))) (λ differ. other h (λ same. differ (sym same))) (same_or_not t a)
        where
          other : Dead s a → a ≢ t → Dead f a
          other (inl i) differ =
              inl (ap dead_doing (left a differ
              (λ is. let j : dead_doing Away ≡ true = subst (λ d. dead_doing d ≡ true) is i in absurd (cc))
              (λ is. let j : dead_doing Finished ≡ true = subst (λ d. dead_doing d ≡ true) is i in absurd (cc))) ∙ i)
          other (inr i) differ =
              inr (i.0, ap ended_doing (subst (λ w. doing f w ≡ doing s w) (sym i.0) (left_root (λ is. differ (i.0 ∙ is)))) ∙ i.1)

          goes_to : (y d : Doing) → doing s t ≡ y → change_of p s t y ≡ Some (record { change = Keep; moves = (t, d) ∷ [] }) → doing f t ≡ d
          goes_to y d is change =
              let e : ThreadChange = record { change = Keep; moves = (t, d) ∷ [] } in
              let goes : step p t s ≡ Some (after e s) = ap (λ z. option_map (λ x. after x s) (change_of p s t z)) is ∙
              ap (option_map (λ x. after x s)) change in
              ap (λ x. doing x t) (sym (same_Some (after e s) f (sym goes ∙ steps)))
              ∙ set_doing_same s.threads t d (thread_within k p l low c s corr t (number_of t here))

          own : Dead s t → Dead f t
          own (inl i) = by (doing s t) refl i
            where
              by : (y : Doing) → doing s t ≡ y → dead_doing y ≡ true → Dead f t
              by (Todo (Pause n rest)) is i = inl (ap dead_doing (goes_to (Todo (Pause n rest)) (Resting n rest) is refl))
              by (Resting n rest) is i = absurd (none_of (Resting n rest) is refl)
              by (Todo (End n)) is i = absurd (cc)
              by (Todo (Assign n x e rest)) is i = absurd (cc)
              by (Todo (Label name rest)) is i = absurd (cc)
              by (Todo (Goto g name rest)) is i = absurd (cc)
              by (Todo (If n e a b rest)) is i = absurd (cc)
              by (Todo (Fork n branches rest)) is i = absurd (cc)
              by Away is i = absurd (cc)
              by (Forked n branches rest) is i = absurd (cc)
              by (Resuming n rest) is i = absurd (cc)
              by Finished is i = absurd (cc)
          own (inr i) = by (doing s t) refl i.1
            where
              by : (y : Doing) → doing s t ≡ y → ended_doing y ≡ true → Dead f t
              by (Todo (End n)) is j = inr (i.0, ap ended_doing (goes_to (Todo (End n)) Finished is refl))
              by Finished is j = absurd (none_of Finished is refl)
              by (Todo (Pause n rest)) is j = absurd (cc)
              by (Todo (Assign n x e rest)) is j = absurd (cc)
              by (Todo (Label name rest)) is j = absurd (cc)
              by (Todo (Goto g name rest)) is j = absurd (cc)
              by (Todo (If n e a b rest)) is j = absurd (cc)
              by (Todo (Fork n branches rest)) is j = absurd (cc)
              by Away is j = absurd (cc)
              by (Forked n branches rest) is j = absurd (cc)
              by (Resting n rest) is j = absurd (cc)
              by (Resuming n rest) is j = absurd (cc)

      -- a join shows, or nobody inside steps any more
      joins : is_forked (doing s t) ≡ true → (thread_shows s t ≡ true) ⊎ Dead f t
      joins h = by (doing s t) refl h
        where
          finished : (n : ℕ) (branches : Branches) (rest : Block) → doing s t ≡ Forked n branches rest → all_finished s (threads_of branches) ≡ true
          finished n branches rest is =
              let change : option_map (λ e. after e s) (change_of p s t (Forked n branches rest)) ≡ Some f =
              sym (ap (λ y. option_map (λ e. after e s) (change_of p s t y)) is) ∙ steps in
              let some : (e : ThreadChange) × (change_of p s t (Forked n branches rest) ≡ Some e) = map_some (λ e. after e s)
              (change_of p s t (Forked n branches rest)) f change in
              only_true (all_finished s (threads_of branches)) (option_map (joined t (threads_of branches)) (settled p.root rest)) some.0 some.1

          of_root : (n : ℕ) (branches : Branches) (rest : Block) → t ≡ zero → doing s t ≡ Forked n branches rest → (thread_shows s t ≡ true) ⊎ Dead f t
          of_root n branches rest zero_is is =
              let goes : (g : State) × (step p zero s ≡ Some g) × Corresponds k p l c g × ((n : ℕ) × (doing g zero ≡ Todo (End n))) × ((q : ℕ) → q ≢ zero →
              (doing g q ≡ doing s q) ⊎ (doing g q ≡ Away)) =
              root_joins k p l low c s corr n branches rest (ap (doing s) (sym zero_is) ∙ is) (finished n branches rest is) in
              let same : goes.0 ≡ f = same_Some goes.0 f (sym goes.1 ∙ ap (λ w. step p w s) (sym zero_is) ∙ steps) in
              inr (inr (zero_is, ap ended_doing (ap (doing f) zero_is ∙ ap (λ g. doing g zero) (sym same) ∙ goes.3.1)))

          of_region : (n : ℕ) (branches : Branches) (rest : Block) → IsRegionOf k t → doing s t ≡ Forked n branches rest → leaves rest ≡ false →
              (thread_shows s t ≡ true) ⊎ Dead f t
          of_region n branches rest there is quiet_rest =
              let turn : given k c s (region_at k t).around ≡ Turn = turn_of k p l low c s corr t there here in
              in_state (standing_of c t) refl turn (subst (Live k p.root l t (standing_of c t)) is (fits_as k p l low c s corr t Turn there turn).0)
            where
              in_super : (u : ℕ) (tests : List Transition) → standing_of c t ≡ stand.Within u tests → given k c s (region_at k t).around ≡ Turn →
                  tests ≡ terminations (state_at k u).transitions → (thread_shows s t ≡ true) ⊎ Dead f t
              in_super u [] stands turn every =
                  let goes : (g : State) × (step p t s ≡ Some g) × Corresponds k p l c g
                  × ((n : ℕ) × (more : Block) × (doing g t ≡ Todo (Pause n more)) × (l.pause u ≡ Pause n more)) × ((v : ℕ) → v ≢ t →
                  (doing g v ≡ doing s v) ⊎ ((doing g v ≡ Away) × (t < v))) =
                  join_silently k p l low c s corr t u n branches rest there turn stands (sym every) is (finished n branches rest is) in
                  let same : goes.0 ≡ f = same_Some goes.0 f (sym goes.1 ∙ steps) in
                  inr (inl (ap dead_doing (ap (λ g. doing g t) (sym same) ∙ goes.3.2)))
              in_super u (x ∷ tests) stands turn every =
                  let fork : InFork k p l low c s corr t u n branches rest = in_fork k p l low c s corr t u n branches rest there turn
                  (stands ∙ ap (stand.Within u) every) is in
                  let goes_out : Behind k p.root l u (x ∷ tests) rest = subst (λ ts. Behind k p.root l u ts rest) (sym every) fork.behind in
                  let yes : leaves rest ≡ true = goes_out.3 in
                  absurd (cc)

              in_state : (x : Standing) → standing_of c t ≡ x → given k c s (region_at k t).around ≡ Turn → Live k p.root l t x (Forked n branches rest) →
                  (thread_shows s t ≡ true) ⊎ Dead f t
              in_state (stand.Within u tests) stands turn live = in_super u tests stands turn live.0
              in_state (stand.Trying u tests) stands turn live = absurd live
              in_state (stand.Acting u [] place) stands turn live = absurd live
              in_state (stand.Acting u (e ∷ effects) place) stands turn live = absurd live
              in_state stand.Ended stands turn live = absurd live
              in_state stand.Outside stands turn live = absurd live
              in_state (stand.Entering u tests) stands turn live = absurd live
              in_state (stand.Guarding u tests) stands turn live = absurd live

          by : (y : Doing) → doing s t ≡ y → is_forked y ≡ true → (thread_shows s t ≡ true) ⊎ Dead f t
          by (Forked n branches rest) is h = by_rest (leaves rest) refl
            where
              by_rest : (b : Bool) → leaves rest ≡ b → (thread_shows s t ≡ true) ⊎ Dead f t
              by_rest true i = inl (ap shows_doing is ∙ i)
              by_rest false i = ⊎_elim (λ zero_is. of_root n branches rest zero_is is) (λ there. of_region n branches rest there is i) (number_of t here)
          by Away is h = absurd (cc)
          by (Todo todo) is h = absurd (cc)
          by (Resting n rest) is h = absurd (cc)
          by (Resuming n rest) is h = absurd (cc)
          by Finished is h = absurd (cc)

      keeps_on : KeepsToo f
      keeps_on = let a : Answers (Rattle.chart_machine.specs.Machine.machine k) region_shows c
          (λ d. Corresponds k p l d f × ((d ≡ c) ⊎ ((Rattle.chart_machine.specs.Steps.step k t c ≡ Some d) × After k
          p l c t d f))) (shown_of k p l low s t) = quiet_follows k p l low s c corr all t f steps in
          (a.end, a.good.0)

  pub threads_wait : Waiting (machine p) thread_shows KeepsToo
  threads_wait = record {
    Waits = λ s a. is_forked (doing s a) ≡ true;
    Dead = Dead;
    keeps = λ s f t keeps steps. keeps_on s keeps t f steps;
    begins = λ s f t u a keeps h steps. begins s keeps t f steps u a h;
    stays = λ s f t a keeps waits differ steps. forked_stays s keeps t f steps a (λ same. differ (sym same)) waits;
    ends = λ s f a keeps waits steps. joins s keeps a f steps waits;
    dead = λ s f t a keeps h steps. dead s keeps t f steps a h;
    rests = λ s f t u a keeps h apart_too steps. rests s keeps u f steps a t h apart_too;
  }
