-- When the chart is over the program comes to its own end by silent steps: who came to a pause pauses, and who waits for
-- regions that have all ended joins.
use Rattle.std.proofs.Common.{◌≡◌, ◌≢◌, ℕ, zero, suc, ◌<◌, ◌⊎◌, inl, inr, ⊎_elim, Bool, true, false, Option, Some, None, List, [], ◌∷◌, length, slice_get}
use Rattle.std.proofs.Common.{unwrap_or, Contains, refl, sym, ap, subst, ◌∙◌, arith}
use Rattle.std.proofs.lemmas.Option.{slice_get_within}
use Rattle.sc_values.specs.Runs.{Machine, IsOver}
use Rattle.core_charts.specs.declared.region.Transition.{Transition}
use Rattle.core_charts.specs.Tests.{terminations}
use Rattle.chart_machine.specs.declared.standing.Standing.{Standing}
use Rattle.chart_machine.specs.declared.standing.Standing.TheVariants as stand
use Rattle.chart_machine.specs.declared.standing.Configuration.{Configuration}
use Rattle.chart_machine.specs.declared.table.Table.{Table}
use Rattle.chart_machine.specs.Table.{state_at, region_at}
use Rattle.chart_machine.specs.Turns.{standing_of, is_enabled}
use Rattle.chart_machine.specs.Machine.{machine as chart_machine}
use Rattle.scl.specs.Block.{Block, End, Assign, Label, Goto, Pause, If, Fork, Branches}
use Rattle.scl.specs.Places.{threads_of}
use Rattle.scl.specs.Numbering.{Numbered}
use Rattle.scl.specs.Meaning.{State, Doing, Away, Todo, Forked, Resting, Resuming, Finished, doing, step, machine, all_finished, is_ready}
use Rattle.chart_lowering_laws.specs.Layout.{Layout, LiesIn, IsRegionOf, Lowers, Behind, goes_on}
use Rattle.chart_lowering_laws.specs.Corresponds.{Live, HeldBy, Giving, Nothing, Ready, Turn, Past, given, Fits, IsAtRoot, Corresponds}
use Rattle.chart_lowering_laws.specs.Follows.{Answers}
use Rattle.chart_lowering_laws.specs.WhichShow.{thread_shows, shows_doing}
use Rattle.chart_lowering_laws.proofs.Following.{both_answers}
use Rattle.chart_lowering_laws.proofs.NumberTests.{same_or_not}
use Rattle.chart_lowering_laws.proofs.LeadAlike.{is_there}
use Rattle.chart_lowering_laws.proofs.Stepping.{OneMoved}
use Rattle.chart_lowering_laws.proofs.Steps.{enabled_by}
use Rattle.chart_lowering_laws.proofs.Joins.{InFork, in_fork, given_forked, work_is, done_is, join_silently, root_joins}
use Rattle.chart_lowering_laws.proofs.Alone.{GoesAlone, root_finishes, pauses_simple, pauses_super}
use Rattle.chart_lowering_laws.proofs.Finished.{all_have_finished, finished_all, ended_is}
use Rattle.chart_lowering_laws.proofs.Catching.{no_answer, silent_answer, silent_then, weaker, caught, Caught, caught_away, CaughtUp, catch_up, has_turn}

-- a thread cannot step
abbrev pub Idle : State → ℕ → Type 0
Idle s q = is_ready s (doing s q) ≡ false

-- nobody finishes, and but for thread q each is as it was, or went away
record Fades (s f : State) (q : ℕ) : Type 0 where
  finished : (v : ℕ) → doing f v ≡ Finished → doing s v ≡ Finished
  others : (v : ℕ) → v ≢ q → (doing f v ≡ doing s v) ⊎ (doing f v ≡ Away)

fades_then : (s f g : State) (q : ℕ) → Fades s f q → Fades f g q → Fades s g q
fades_then s f g q a b = record {
  finished = λ v h. a.finished v (b.finished v h);
  others = λ v differ. ⊎_elim (λ same. ⊎_elim (λ more. inl (same ∙ more)) (λ away. inr (same ∙ away)) (a.others v differ)) (λ away. inr away)
      (b.others v differ);
}

-- who was idle stays so
still_idle : (s f : State) (q v : ℕ) → Fades s f q → v ≢ q → Idle s v → Idle f v
still_idle s f q v fades differ idle = ⊎_elim (λ same. ap (is_ready f) same ∙ by (doing s v) idle) (λ away. ap (is_ready f) away) (fades.others v differ)
  where
    by : (d : Doing) → is_ready s d ≡ false → is_ready f d ≡ false
    by (Forked n branches rest) h = at (all_finished f (threads_of branches)) refl
      where
        at : (b : Bool) → all_finished f (threads_of branches) ≡ b → b ≡ false
        at false is = refl
        at true is = let all : all_finished s (threads_of branches) ≡ true = finished_all s (threads_of branches)
            (λ w there. fades.finished w (all_have_finished f (threads_of branches) is w there)) in absurd (cc)
    by Away h = refl
    by (Todo todo) h = absurd (cc)
    by (Resting n rest) h = refl
    by (Resuming n rest) h = absurd (cc)
    by Finished h = refl

caught_resting : (x : Standing) (n : ℕ) (rest : Block) → caught x (Resting n rest) ≡ true
caught_resting stand.Outside n rest = refl
caught_resting stand.Ended n rest = refl
caught_resting (stand.Trying u tests) n rest = refl
caught_resting (stand.Entering u tests) n rest = refl
caught_resting (stand.Guarding u tests) n rest = refl
caught_resting (stand.Acting u effects target) n rest = refl
caught_resting (stand.Within u tests) n rest = refl

module _ (k : Table) (p : Numbered) (l : Layout) (low : Lowers k p l) (c : Configuration) (over : IsOver (chart_machine k) c) where
  abbrev text : Machine
  text = machine p

  -- thread q rests for this tick
  record RestsAt (s : State) (q : ℕ) (f : State) : Type 0 where
    corresponds : Corresponds k p l c f
    caught_up : Caught c f
    idle : Idle f q
    before : (v : ℕ) → v < q → Idle s v → Idle f v

  abbrev Answer : State → ℕ → Type 0
  Answer s q = Answers text thread_shows s (RestsAt s q) []

  one_fades : (s f : State) (q n : ℕ) (rest : Block) → OneMoved s f q (Resting n rest) → Fades s f q
  one_fades s f q n rest one = record {
    finished = λ v h. ⊎_elim (λ same. let now : Resting n rest ≡ Finished = sym one.is_at ∙ subst (λ w. doing f w ≡ Finished) same h in absurd (cc))
        (λ differ. sym (one.others v differ) ∙ h) (same_or_not v q);
    others = λ v differ. inl (one.others v differ);
  }

  -- who fades keeps up
  caught_still : (s f : State) (q : ℕ) → Caught c s → Fades s f q → caught (standing_of c q) (doing f q) ≡ true → Caught c f
  caught_still s f q up fades here v =
      ⊎_elim
      (λ same. subst (λ w. caught (standing_of c w) (doing f w) ≡ true) (sym same) here)
      (λ differ. ⊎_elim (λ is. ap (caught (standing_of c v)) is ∙ up v) (λ away. ap (caught (standing_of c v)) away ∙ caught_away (standing_of c v))
      (fades.others v differ))
      (same_or_not v q)

  module _ (s : State) (corr : Corresponds k p l c s) (up : Caught c s) where
    already : (q : ℕ) → Idle s q → Answer s q
    already q idle = no_answer text thread_shows s (RestsAt s q) (record { corresponds = corr; caught_up = up; idle = idle; before = λ v less h. h })

    is_idle : (q : ℕ) (d : Doing) → doing s q ≡ d → is_ready s d ≡ false → Answer s q
    is_idle q d is h = already q (ap (is_ready s) is ∙ h)

    not_enabled : (q : ℕ) → is_enabled k c q ≡ true → ⊥
    not_enabled q h = let no : is_enabled k c q ≡ false = over q in absurd (cc)

    rests : (q n : ℕ) (rest : Block) → thread_shows s q ≡ false → GoesAlone k p l low c s corr q (Resting n rest) → Answer s q
    rests q n rest silent goes =
        let fades : Fades s goes.end q = one_fades s goes.end q n rest goes.one in
        silent_answer text thread_shows s goes.end q (RestsAt s q) goes.steps silent
        (record {
          corresponds = goes.corresponds;
          caught_up = caught_still s goes.end q up fades (ap (caught (standing_of c q)) goes.one.is_at ∙ caught_resting (standing_of c q) n rest);
          idle = ap (is_ready goes.end) goes.one.is_at;
          before = λ v less h. still_idle s goes.end q v fades (λ same. absurd (omega (arith, less, same))) h;
        })

    module _ (q : ℕ) (there : IsRegionOf k q) (turn : given k c s (region_at k q).around ≡ Turn) where
      trying : (u : ℕ) (tests : List Transition) → standing_of c q ≡ stand.Trying u tests → (y : Doing) → doing s q ≡ y →
          caught (stand.Trying u tests) y ≡ true → Live k p.root l q (stand.Trying u tests) y → Answer s q
      trying u (t ∷ tests) stands y is h live = absurd (not_enabled q (enabled_by k p l low c s corr q (stand.Trying u (t ∷ tests)) stands refl refl))
      trying u [] stands (Todo todo) is h live =
          let same : todo ≡ Pause live.1.0 live.1.1 = is_there p.root todo (Pause live.1.0 live.1.1) live.0 live.1.3 in
          let at : doing s q ≡ Todo (Pause live.1.0 live.1.1) = is ∙ ap Todo same in
          rests q live.1.0 live.1.1 (ap shows_doing at) (pauses_simple k p l low c s corr q there turn u live.1.0 live.1.1 stands at)
      trying u [] stands (Resting n rest) is h live = is_idle q (Resting n rest) is refl
      trying u [] stands (Resuming n rest) is h live = absurd (cc)
      trying u [] stands Away is h live = absurd live
      trying u [] stands (Forked n branches rest) is h live = absurd live
      trying u [] stands Finished is h live = absurd live

      -- regions whose threads have finished have ended
      ended_regions : (u n : ℕ) (tests : List Transition) (branches : Branches) (rest : Block) → standing_of c q ≡ stand.Within u tests →
          InFork k p l low c s corr q u n branches rest → doing s q ≡ Forked n branches rest → all_finished s (threads_of branches) ≡ true →
          (v : ℕ) → Contains (state_at k u).regions v → standing_of c v ≡ stand.Ended
      ended_regions u n tests branches rest stands fork is finished v held =
          let lies : IsRegionOf k v × LiesIn k v u = low.tree.regions u v fork.within.there held in
          let v_turn : given k c s (region_at k v).around ≡ Turn = given_forked k p l low c s corr v q u n tests branches rest lies.1 fork.within stands is in
          let v_live : Live k p.root l v (standing_of c v) (doing s v) × HeldBy k p.root l v (standing_of c v) =
          subst (λ g. Fits k p.root l v g (standing_of c v) (doing s v)) v_turn (corr.each v lies.0) in
          ended_is k p.root l v (standing_of c v)
          (subst (Live k p.root l v (standing_of c v))
          (all_have_finished s (threads_of branches) finished v (subst (λ ts. Contains ts v) (sym fork.threads) held)) v_live.0)

      waiting : (u n : ℕ) (tests : List Transition) (branches : Branches) (rest : Block) → standing_of c q ≡ stand.Within u tests →
          doing s q ≡ Forked n branches rest → tests ≡ terminations (state_at k u).transitions → all_finished s (threads_of branches) ≡ true → Answer s q
      waiting u n (t ∷ tests) branches rest stands is all finished =
          let fork : InFork k p l low c s corr q u n branches rest = in_fork k p l low c s corr q u n branches rest there turn
          (stands ∙ ap (stand.Within u) all) is in
          let ended : (v : ℕ) → Contains (state_at k u).regions v → standing_of c v ≡ stand.Ended =
          ended_regions u n (t ∷ tests) branches rest stands fork is finished in
          absurd (not_enabled q (enabled_by k p l low c s corr q (stand.Within u (t ∷ tests)) stands (work_is k p l low c s corr u t tests ended)
          (done_is k p l low c s corr u (t ∷ tests) ended)))
      waiting u n [] branches rest stands is all finished =
          let fork : InFork k p l low c s corr q u n branches rest = in_fork k p l low c s corr q u n branches rest there turn
          (stands ∙ ap (stand.Within u) all) is in
          let leaves : Behind k p.root l u [] rest = subst (λ ts. Behind k p.root l u ts rest) (sym all) fork.behind in
          let joins : (f : State) × (step p q s ≡ Some f) × Corresponds k p l c f
          × ((n : ℕ) × (more : Block) × (doing f q ≡ Todo (Pause n more)) × (l.pause u ≡ Pause n more)) × ((v : ℕ) → v ≢ q →
          (doing f v ≡ doing s v) ⊎ ((doing f v ≡ Away) × (q < v))) =
          join_silently k p l low c s corr q u n branches rest there turn stands (sym all) is finished in
          behind_join joins.0 joins.1 joins.2 joins.3.0 joins.3.1 joins.3.2 (ap shows_doing is ∙ leaves.5)
          (record {
            finished = λ v h. ⊎_elim (λ same. let now : Todo (Pause joins.3.0 joins.3.1) ≡ Finished = sym joins.3.2
                ∙ subst (λ w. doing joins.0 w ≡ Finished) same h in absurd (cc))
                (λ differ. ⊎_elim (λ is. sym is ∙ h) (λ away. let now : Away ≡ Finished = sym away.0 ∙ h in absurd (cc)) (joins.4 v differ))
                (same_or_not v q);
            others = λ v differ. ⊎_elim (λ is. inl is) (λ away. inr away.0) (joins.4 v differ);
          })
        where
          turn_after : (f : State) → Corresponds k p l c f → Caught c f → given k c f (region_at k q).around ≡ Turn
          turn_after f again f_up =
              has_turn k p l low c f again f_up q there
              (λ out. let h : stand.Within u [] ≡ stand.Outside = sym stands ∙ out in absurd (cc))
              (λ ended. let h : stand.Within u [] ≡ stand.Ended = sym stands ∙ ended in absurd (cc))

          behind_join : (f : State) → step p q s ≡ Some f → Corresponds k p l c f → (m : ℕ) (more : Block) → doing f q ≡ Todo (Pause m more) →
              thread_shows s q ≡ false → Fades s f q → Answer s q
          behind_join f steps again m more at silent fades =
              let f_up : Caught c f = caught_still s f q up fades (ap (caught (standing_of c q)) at ∙ ap (λ y. caught y (Todo (Pause m more))) stands) in
              let f_turn : given k c f (region_at k q).around ≡ Turn = turn_after f again f_up in
              let goes : GoesAlone k p l low c f again q (Resting m more) = pauses_super k p l low c f again q there f_turn u m [] more stands at in
              let all_fades : Fades s goes.end q = fades_then s f goes.end q fades (one_fades f goes.end q m more goes.one) in
              silent_then text thread_shows s f q (RestsAt s q) [] steps silent
              (silent_answer text thread_shows f goes.end q (RestsAt s q) goes.steps (ap shows_doing at)
              (record {
                corresponds = goes.corresponds;
                caught_up = caught_still f goes.end q f_up (one_fades f goes.end q m more goes.one) (ap (caught (standing_of c q)) goes.one.is_at
                    ∙ caught_resting (standing_of c q) m more);
                idle = ap (is_ready goes.end) goes.one.is_at;
                before = λ v less h. still_idle s goes.end q v all_fades (λ same. absurd (omega (arith, less, same))) h;
              }))

      within : (u : ℕ) (tests : List Transition) → standing_of c q ≡ stand.Within u tests → (y : Doing) → doing s q ≡ y →
          caught (stand.Within u tests) y ≡ true → Live k p.root l q (stand.Within u tests) y → Answer s q
      within u tests stands (Todo (Fork n branches rest)) is h live = absurd (cc)
      within u tests stands (Todo (Pause n rest)) is h live = rests q n rest (ap shows_doing is)
          (pauses_super k p l low c s corr q there turn u n tests rest stands is)
      within u tests stands (Todo (End n)) is h live = absurd live.1
      within u tests stands (Todo (Assign n y e rest)) is h live = absurd live.1
      within u tests stands (Todo (Label name rest)) is h live = absurd live.1
      within u tests stands (Todo (Goto g name rest)) is h live = absurd live.1
      within u tests stands (Todo (If n e a b rest)) is h live = absurd live.1
      within u tests stands (Resting n rest) is h live = is_idle q (Resting n rest) is refl
      within u tests stands (Resuming n rest) is h live = absurd (cc)
      within u tests stands Away is h live = absurd live
      within u tests stands Finished is h live = absurd live
      within u tests stands (Forked n branches rest) is h live = by (all_finished s (threads_of branches)) refl
        where
          by : (b : Bool) → all_finished s (threads_of branches) ≡ b → Answer s q
          by true finished = waiting u n tests branches rest stands is live.0 finished
          by false finished = is_idle q (Forked n branches rest) is finished

      ending : (y : Doing) → doing s q ≡ y → caught stand.Ended y ≡ true → Live k p.root l q stand.Ended y → Answer s q
      ending Finished is h live = is_idle q Finished is refl
      ending (Todo todo) is h live = absurd (cc)
      ending Away is h live = absurd live
      ending (Forked n branches rest) is h live = absurd live
      ending (Resting n rest) is h live = absurd live
      ending (Resuming n rest) is h live = absurd live

      by_standing : (x : Standing) → standing_of c q ≡ x → caught x (doing s q) ≡ true → Live k p.root l q x (doing s q) → Answer s q
      by_standing (stand.Trying u tests) stands h live = trying u tests stands (doing s q) refl h live
      by_standing (stand.Within u tests) stands h live = within u tests stands (doing s q) refl h live
      by_standing stand.Ended stands h live = ending (doing s q) refl h live
      by_standing (stand.Acting u (e ∷ effects) place) stands h live =
          absurd (not_enabled q (enabled_by k p l low c s corr q (stand.Acting u (e ∷ effects) place) stands refl refl))
      by_standing (stand.Acting u [] place) stands h live = absurd (none (doing s q) live)
        where
          none : (y : Doing) → Live k p.root l q (stand.Acting u [] place) y → ⊥
          none Away live = live
          none (Todo todo) live = live
          none (Forked n branches rest) live = live
          none (Resting n rest) live = live
          none (Resuming n rest) live = live
          none Finished live = live
      by_standing stand.Outside stands h live = absurd (none (doing s q) live)
        where
          none : (y : Doing) → Live k p.root l q stand.Outside y → ⊥
          none Away live = live
          none (Todo todo) live = live
          none (Forked n branches rest) live = live
          none (Resting n rest) live = live
          none (Resuming n rest) live = live
          none Finished live = live
      by_standing (stand.Entering u tests) stands h live = absurd live
      by_standing (stand.Guarding u tests) stands h live = absurd live

    by_given : (q : ℕ) → IsRegionOf k q → (g : Giving) → given k c s (region_at k q).around ≡ g → Fits k p.root l q g (standing_of c q) (doing s q) → Answer s q
    by_given q there Nothing is fits = is_idle q Away fits.1 refl
    by_given q there Ready is fits = is_idle q Away fits.1 refl
    by_given q there Past is fits = is_idle q Away fits.1 refl
    by_given q there Turn is fits = by_standing q there is (standing_of c q) refl (up q) fits.0

    -- the first thread: where all regions have ended, it ends
    root_ends : (f : State) → Corresponds k p l c f → (n : ℕ) → doing f zero ≡ Todo (End n) → Fades s f zero → Answers text thread_shows f (RestsAt s zero) []
    root_ends f again n at fades =
        let goes : (g : State) × (step p zero f ≡ Some g) × Corresponds k p l c g × OneMoved f g zero Finished = root_finishes k p l low c f again n at in
        silent_answer text thread_shows f goes.0 zero (RestsAt s zero) goes.1 (ap shows_doing at)
        (record {
          corresponds = goes.2;
          caught_up = λ v.
              ⊎_elim
              (λ same. subst (λ w. caught (standing_of c w) (doing goes.0 w) ≡ true) (sym same) (ap (caught (standing_of c zero)) goes.3.is_at
              ∙ ap (λ y. caught y Finished) corr.chart))
              (λ differ.
              ap (caught (standing_of c v)) (goes.3.others v differ)
              ∙ ⊎_elim (λ is. ap (caught (standing_of c v)) is ∙ up v) (λ away. ap (caught (standing_of c v)) away ∙ caught_away (standing_of c v))
              (fades.others v differ))
              (same_or_not v zero);
          idle = ap (is_ready goes.0) goes.3.is_at;
          before = λ v less h. absurd (omega (arith, less));
        })

    by_root : (d : Doing) → doing s zero ≡ d → caught stand.Outside d ≡ true → IsAtRoot p.root d → Answer s zero
    by_root Away is h at = is_idle zero Away is refl
    by_root Finished is h at = is_idle zero Finished is refl
    by_root (Todo (Fork n branches rest)) is h at = absurd (cc)
    by_root (Todo (End n)) is h at = root_ends s corr n is (record { finished = λ v i. i; others = λ v differ. inl refl })
    by_root (Todo (Assign n x e rest)) is h at = absurd at
    by_root (Todo (Label name rest)) is h at = absurd at
    by_root (Todo (Goto g name rest)) is h at = absurd at
    by_root (Todo (Pause n rest)) is h at = absurd at
    by_root (Todo (If n e a b rest)) is h at = absurd at
    by_root (Resting n rest) is h at = absurd at
    by_root (Resuming n rest) is h at = absurd at
    by_root (Forked n branches rest) is h at = by (all_finished s (threads_of branches)) refl
      where
        by : (b : Bool) → all_finished s (threads_of branches) ≡ b → Answer s zero
        by false finished = is_idle zero (Forked n branches rest) is finished
        by true finished =
            let joins : (f : State) × (step p zero s ≡ Some f) × Corresponds k p l c f × ((n : ℕ) × (doing f zero ≡ Todo (End n))) × ((q : ℕ) → q ≢ zero →
            (doing f q ≡ doing s q) ⊎ (doing f q ≡ Away)) =
            root_joins k p l low c s corr n branches rest is finished in
            silent_then text thread_shows s joins.0 zero (RestsAt s zero) [] joins.1 (ap shows_doing is ∙ quiet)
            (root_ends joins.0 joins.2 joins.3.0 joins.3.1 (record {
              finished = λ v i. ⊎_elim (λ same. let now : Todo (End joins.3.0) ≡ Finished = sym joins.3.1 ∙ subst (λ w. doing joins.0 w ≡ Finished) same i in
                  absurd (cc)) (λ differ. ⊎_elim (λ is. sym is ∙ i) (λ away. let now : Away ≡ Finished = sym away ∙ i in absurd (cc)) (joins.4 v differ))
                  (same_or_not v zero);
              others = joins.4;
            }))
          where
            rest_of : (m n : ℕ) (a b : Branches) (x y : Block) → Fork m a x ≡ Fork n b y → y ≡ x
            rest_of m n a b x y h = cc

            quiet : goes_on rest ≡ false
            quiet = ap goes_on (rest_of low.root.node n low.root.branches branches (End low.root.end) rest (sym low.root.is ∙ at))

    rest_one : (q : ℕ) → Answer s q
    rest_one zero = by_root (doing s zero) refl (ap (λ y. caught y (doing s zero)) (sym corr.chart) ∙ up zero) corr.root
    rest_one (suc q) = by (slice_get s.threads (suc q)) refl
      where
        by : (o : Option Doing) → slice_get s.threads (suc q) ≡ o → Answer s (suc q)
        by None is = is_idle (suc q) Away (ap (λ o. unwrap_or o Away) is) refl
        by (Some d) is =
            let less : suc q < length s.threads = slice_get_within s.threads (suc q) d is in
            let same : length s.threads ≡ suc (length k.regions) = corr.threads in
            let there : IsRegionOf k (suc q) = (omega arith, omega (arith, less, same)) in
            by_given (suc q) there (given k c s (region_at k (suc q)).around) refl (corr.each (suc q) there)

  record RestsBelow (n : ℕ) (f : State) : Type 0 where
    corresponds : Corresponds k p l c f
    caught_up : Caught c f
    below : (q : ℕ) → q < n → Idle f q

  rest_below : (n : ℕ) (s : State) → Corresponds k p l c s → Caught c s → Answers text thread_shows s (RestsBelow n) []
  rest_below zero s corr up = no_answer text thread_shows s (RestsBelow zero)
      (record { corresponds = corr; caught_up = up; below = λ q less. absurd (omega (arith, less)) })
  rest_below (suc n) s corr up =
      let first : Answers text thread_shows s (RestsBelow n) [] = rest_below n s corr up in
      let last : Answers text thread_shows first.end (RestsAt first.end n) [] = rest_one first.end first.good.corresponds first.good.caught_up n in
      both_answers text thread_shows s (RestsBelow n) (RestsBelow (suc n)) [] [] first
      (weaker text thread_shows first.end (RestsAt first.end n) (RestsBelow (suc n)) [] (λ f at. record {
        corresponds = at.corresponds;
        caught_up = at.caught_up;
        below = λ q less.
            ⊎_elim
            (λ same. subst (λ w. Idle f w) (sym same) at.idle)
            (λ differ. at.before q (omega (arith, less, differ)) (first.good.below q (omega (arith, less, differ))))
            (same_or_not q n);
      }) last)

  pub record AllRest (f : State) : Type 0 where
    pub idle : IsOver text f
    pub corresponds : Corresponds k p l c f

  -- all threads come to rest
  pub all_rest : (s : State) → Corresponds k p l c s → Answers text thread_shows s AllRest []
  all_rest s corr =
      let up : Answers text thread_shows s (CaughtUp k p l low c) [] = (catch_up k p l low c s corr).answers in
      both_answers text thread_shows s (CaughtUp k p l low c) AllRest [] [] up
      (weaker text thread_shows up.end (RestsBelow (suc (length k.regions))) AllRest []
      (λ f at. record { idle = λ q. by f at q (slice_get f.threads q) refl; corresponds = at.corresponds })
      (rest_below (suc (length k.regions)) up.end up.good.corresponds up.good.all))
    where
      by : (f : State) → RestsBelow (suc (length k.regions)) f → (q : ℕ) (o : Option Doing) → slice_get f.threads q ≡ o → Idle f q
      by f at q None is = ap (is_ready f) (ap (λ o. unwrap_or o Away) is)
      by f at q (Some d) is = let less : q < length f.threads = slice_get_within f.threads q d is in let same : length f.threads ≡ suc (length k.regions) =
          at.corresponds.threads in at.below q (omega (arith, less, same))
