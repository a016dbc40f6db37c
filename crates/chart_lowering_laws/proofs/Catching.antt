-- The threads catch up with the regions by silent steps: who is in a superstate forks, who rested resumes, and who came
-- to the end ends.
use Rattle.std.proofs.Common.{◌≡◌, ◌≢◌, ℕ, zero, suc, ◌<◌, ⊎_elim, Bool, true, false, if◌then◌else◌, nat_eq, Option, Some, None, List, [], ◌∷◌, length}
use Rattle.std.proofs.Common.{slice_get, unwrap_or, option_and_then, Contains, refl, sym, ap, subst, ◌∙◌, arith}
use Rattle.std.proofs.lemmas.Option.{slice_get_within}
use Rattle.sc_values.specs.Runs.{Machine, Act, act_of, replay}
use Rattle.chart_machine.specs.declared.standing.Standing.{Standing}
use Rattle.chart_machine.specs.declared.standing.Standing.TheVariants as stand
use Rattle.chart_machine.specs.declared.standing.Configuration.{Configuration}
use Rattle.chart_machine.specs.declared.table.Table.{Table}
use Rattle.chart_machine.specs.Table.{state_at, region_at}
use Rattle.chart_machine.specs.Turns.{standing_of}
use Rattle.scl.specs.Block.{Block, End, Assign, Label, Goto, Pause, If, Fork}
use Rattle.scl.specs.Numbering.{Numbered}
use Rattle.scl.specs.Meaning.{State, Doing, Away, Todo, Forked, Resting, Resuming, Finished, doing, step, machine}
use Rattle.chart_lowering_laws.specs.Layout.{Layout, LiesIn, IsRegionOf, Lowers}
use Rattle.chart_lowering_laws.specs.Corresponds.{Live, Giving, Nothing, Ready, Turn, Past, giving, giving_in, giving_of_root, given, Fits, Corresponds}
use Rattle.chart_lowering_laws.specs.Shown.{Showing, move, moves, moves_after, shown_acts}
use Rattle.chart_lowering_laws.specs.Follows.{Answers, AnswersBy, EachMay, HoldsAfter}
use Rattle.chart_lowering_laws.specs.Keeps.{IsForked}
use Rattle.chart_lowering_laws.specs.WhichShow.{thread_shows, shows_doing}
use Rattle.chart_lowering_laws.proofs.Woken.{not_live}
use Rattle.chart_lowering_laws.proofs.Following.{both_by}
use Rattle.chart_lowering_laws.proofs.NumberTests.{same_or_not}
use Rattle.chart_lowering_laws.proofs.Structure.{given_top, given_in}
use Rattle.chart_lowering_laws.proofs.Joins.{fork_region, fork_root}
use Rattle.chart_lowering_laws.proofs.Alone.{GoesAlone, resumes_simple, resumes_super, ends}

-- ---- answers of no step, and of one

pub no_answer : (n : Machine) (shows : Showing n) (b : n.Configuration) (Good : n.Configuration → Type 0) → Good b → Answers n shows b Good []
no_answer n shows b Good good = record { run = []; end = b; runs = refl; shown = refl; good = good }

pub silent_answer : (n : Machine) (shows : Showing n) (b e : n.Configuration) (t : ℕ) (Good : n.Configuration → Type 0) → n.step t b ≡ Some e →
    shows b t ≡ false → Good e → Answers n shows b Good []
silent_answer n shows b e t Good steps silent good = record {
  run = t ∷ [];
  end = e;
  runs = ap (option_and_then (replay n [])) steps;
  shown =
      ap (λ x. shown_acts (move x (act_of n b t) ∷ moves_after n (moves n shows []) (n.step t b))) silent
      ∙ ap (λ o. shown_acts (moves_after n (moves n shows []) o)) steps;
  good = good;
}

pub shown_answer : (n : Machine) (shows : Showing n) (b e : n.Configuration) (t : ℕ) (Good : n.Configuration → Type 0) → n.step t b ≡ Some e →
    shows b t ≡ true → Good e → Answers n shows b Good (act_of n b t ∷ [])
shown_answer n shows b e t Good steps shown good = record {
  run = t ∷ [];
  end = e;
  runs = ap (option_and_then (replay n [])) steps;
  shown =
      ap (λ x. shown_acts (move x (act_of n b t) ∷ moves_after n (moves n shows []) (n.step t b))) shown
      ∙ ap (λ o. act_of n b t ∷ shown_acts (moves_after n (moves n shows []) o)) steps;
  good = good;
}

-- a silent step first
pub silent_then : (n : Machine) (shows : Showing n) (b e : n.Configuration) (t : ℕ) (Good : n.Configuration → Type 0) (acts : List Act) → n.step t b ≡ Some e →
    shows b t ≡ false → Answers n shows e Good acts → Answers n shows b Good acts
silent_then n shows b e t Good acts steps silent a = record {
  run = t ∷ a.run;
  end = a.end;
  runs = ap (option_and_then (replay n a.run)) steps ∙ a.runs;
  shown =
      ap (λ x. shown_acts (move x (act_of n b t) ∷ moves_after n (moves n shows a.run) (n.step t b))) silent
      ∙ ap (λ o. shown_acts (moves_after n (moves n shows a.run) o)) steps
      ∙ a.shown;
  good = a.good;
}

-- the same answer for more
pub weaker : (n : Machine) (shows : Showing n) (b : n.Configuration) (Good Less : n.Configuration → Type 0) (acts : List Act) →
    ((e : n.Configuration) → Good e → Less e) → Answers n shows b Good acts → Answers n shows b Less acts
weaker n shows b Good Less acts f a = record { run = a.run; end = a.end; runs = a.runs; shown = a.shown; good = f a.end a.good }

-- the same, of steps that may be taken
pub no_answer_by : (n : Machine) (shows : Showing n) (b : n.Configuration) (May : ℕ → n.Configuration → Type 0) (Good : n.Configuration → Type 0) → Good b →
    AnswersBy n shows b May Good []
unfolding no_answer
no_answer_by n shows b May Good good = record { answers = no_answer n shows b Good good; each = tt }

may_one : (n : Machine) (May : ℕ → n.Configuration → Type 0) (b e : n.Configuration) (t : ℕ) → n.step t b ≡ Some e → May t b → EachMay n May (t ∷ []) b
may_one n May b e t steps may = (may, subst (HoldsAfter n (EachMay n May [])) (sym steps) tt)

pub silent_answer_by : (n : Machine) (shows : Showing n) (b e : n.Configuration) (t : ℕ) (May : ℕ → n.Configuration → Type 0)
    (Good : n.Configuration → Type 0) → n.step t b ≡ Some e → shows b t ≡ false → May t b → Good e → AnswersBy n shows b May Good []
unfolding silent_answer
silent_answer_by n shows b e t May Good steps silent may good =
    record { answers = silent_answer n shows b e t Good steps silent good; each = may_one n May b e t steps may }

pub shown_answer_by : (n : Machine) (shows : Showing n) (b e : n.Configuration) (t : ℕ) (May : ℕ → n.Configuration → Type 0)
    (Good : n.Configuration → Type 0) → n.step t b ≡ Some e → shows b t ≡ true → May t b → Good e →
    AnswersBy n shows b May Good (act_of n b t ∷ [])
unfolding shown_answer
shown_answer_by n shows b e t May Good steps shown may good =
    record { answers = shown_answer n shows b e t Good steps shown good; each = may_one n May b e t steps may }

pub weaker_by : (n : Machine) (shows : Showing n) (b : n.Configuration) (May : ℕ → n.Configuration → Type 0) (Good Less : n.Configuration → Type 0)
    (acts : List Act) → ((e : n.Configuration) → Good e → Less e) → AnswersBy n shows b May Good acts → AnswersBy n shows b May Less acts
unfolding weaker
weaker_by n shows b May Good Less acts f a = record { answers = weaker n shows b Good Less acts f a.answers; each = a.each }

-- more may be taken
may_more : (n : Machine) (May More : ℕ → n.Configuration → Type 0) → ((t : ℕ) (c : n.Configuration) → May t c → More t c) → (run : List ℕ)
    (b : n.Configuration) →
    EachMay n May run b → EachMay n More run b
may_more n May More f [] b each = tt
may_more n May More f (t ∷ run) b each = (f t b each.0, after (n.step t b) (may_more n May More f run) each.1)
  where
    after : (o : Option n.Configuration) → ((e : n.Configuration) → EachMay n May run e → EachMay n More run e) → HoldsAfter n (EachMay n May run) o →
        HoldsAfter n (EachMay n More run) o
    after None more each = tt
    after (Some e) more each = more e each

pub more_by : (n : Machine) (shows : Showing n) (b : n.Configuration) (May More : ℕ → n.Configuration → Type 0) (Good : n.Configuration → Type 0)
    (acts : List Act) → ((t : ℕ) (c : n.Configuration) → May t c → More t c) → AnswersBy n shows b May Good acts → AnswersBy n shows b More Good acts
more_by n shows b May More Good acts f a = record { answers = a.answers; each = may_more n May More f a.answers.run b a.each }

-- ---- who has caught up

abbrev pub caught : Standing → Doing → Bool
caught (stand.Within u tests) (Todo (Fork n branches rest)) = false
caught (stand.Within u tests) (Resuming n rest) = false
caught (stand.Trying u tests) (Resuming n rest) = false
caught stand.Ended (Todo todo) = false
caught stand.Outside (Todo (Fork n branches rest)) = false
caught standing doing = true

abbrev pub Caught : Configuration → State → Type 0
Caught c s = (q : ℕ) → caught (standing_of c q) (doing s q) ≡ true

pub caught_away : (x : Standing) → caught x Away ≡ true
caught_away stand.Outside = refl
caught_away stand.Ended = refl
caught_away (stand.Trying u tests) = refl
caught_away (stand.Entering u tests) = refl
caught_away (stand.Guarding u tests) = refl
caught_away (stand.Acting u effects target) = refl
caught_away (stand.Within u tests) = refl

module _ (k : Table) (p : Numbered) (l : Layout) (low : Lowers k p l) (c : Configuration) where
  abbrev text : Machine
  text = machine p

  -- thread q has caught up, and those of smaller numbers are as they were
  record CaughtAt (s : State) (q : ℕ) (f : State) : Type 0 where
    corresponds : Corresponds k p l c f
    here : caught (standing_of c q) (doing f q) ≡ true
    before : (v : ℕ) → v < q → doing f v ≡ doing s v

  -- who steps waits at no join
  abbrev pub NoJoin : ℕ → State → Type 0
  NoJoin q s = ¬ IsForked (doing s q)

  abbrev Answer : State → ℕ → Type 0
  Answer s q = AnswersBy text thread_shows s NoJoin (CaughtAt s q) []

  module _ (s : State) (corr : Corresponds k p l c s) where
    already : (q : ℕ) → caught (standing_of c q) (doing s q) ≡ true → Answer s q
    already q is = no_answer_by text thread_shows s NoJoin (CaughtAt s q) (record { corresponds = corr; here = is; before = λ v less. refl })

    -- by a step of the thread alone
    alone : (q : ℕ) (d : Doing) → GoesAlone k p l low c s corr q d → thread_shows s q ≡ false → NoJoin q s → caught (standing_of c q) d ≡ true → Answer s q
    alone q d goes silent free is =
        silent_answer_by text thread_shows s goes.end q NoJoin (CaughtAt s q) goes.steps silent free
        (record {
          corresponds = goes.corresponds;
          here = ap (caught (standing_of c q)) goes.one.is_at ∙ is;
          before = λ v less. goes.one.others v (λ same. absurd (omega (arith, less, same)));
        })

    by_turn : (q : ℕ) → IsRegionOf k q → given k c s (region_at k q).around ≡ Turn → (x : Standing) (d : Doing) → standing_of c q ≡ x → doing s q ≡ d →
        Live k p.root l q x d → Answer s q
    by_turn q there turn (stand.Within u tests) (Todo (Fork n branches rest)) stands is live =
        let f : (f : State) × (step p q s ≡ Some f) × Corresponds k p l c f × (doing f q ≡ Forked n branches rest) × ((v : ℕ) → v < q → doing f v ≡ doing s v) =
        fork_region k p l low c s corr q u n branches rest there turn (stands ∙ ap (stand.Within u) live.0) is in
        silent_answer_by text thread_shows s f.0 q NoJoin (CaughtAt s q) f.1 (ap shows_doing is) (subst IsForked is)
        (record { corresponds = f.2; here = ap (caught (standing_of c q)) f.3 ∙ ap (λ y. caught y (Forked n branches rest)) stands; before = f.4 })
    by_turn q there turn (stand.Within u tests) (Resuming n rest) stands is live =
        alone q (Todo (Pause n rest)) (resumes_super k p l low c s corr q there turn u n tests rest stands is) (ap shows_doing is) (subst IsForked is)
        (ap (λ y. caught y (Todo (Pause n rest))) stands)
    by_turn q there turn (stand.Trying u tests) (Resuming n rest) stands is live =
        let to_first : (first : Block) × GoesAlone k p l low c s corr q (Todo first) =
        resumes_simple k p l low c s corr q there turn u n tests rest stands is in
        alone q (Todo to_first.0) to_first.1 (ap shows_doing is) (subst IsForked is) (ap (λ y. caught y (Todo to_first.0)) stands)
    by_turn q there turn stand.Ended (Todo (End n)) stands is live =
        alone q Finished (ends k p l low c s corr q there turn n stands is) (ap shows_doing is) (subst IsForked is) (ap (λ y. caught y Finished) stands)
    by_turn q there turn stand.Ended (Todo todo) stands is live = absurd live
    by_turn q there turn stand.Outside d stands is live = absurd (not_live k p.root l q d live)
    by_turn q there turn x d stands is live = already q (ap (λ y. caught y (doing s q)) stands ∙ ap (caught x) is ∙ refl)

    is_away : (q : ℕ) → doing s q ≡ Away → Answer s q
    is_away q is = already q (ap (caught (standing_of c q)) is ∙ caught_away (standing_of c q))

    by_given : (q : ℕ) → IsRegionOf k q → (g : Giving) → given k c s (region_at k q).around ≡ g → Fits k p.root l q g (standing_of c q) (doing s q) → Answer s q
    by_given q there Nothing is fits = is_away q fits.1
    by_given q there Ready is fits = is_away q fits.1
    by_given q there Past is fits = is_away q fits.1
    by_given q there Turn is fits = by_turn q there is (standing_of c q) (doing s q) refl refl fits.0

    by_root : (d : Doing) → doing s zero ≡ d → Answer s zero
    by_root (Todo (Fork n branches rest)) is =
        let f : (f : State) × (step p zero s ≡ Some f) × Corresponds k p l c f × (doing f zero ≡ Forked n branches rest) =
        fork_root k p l low c s corr n branches rest is in
        silent_answer_by text thread_shows s f.0 zero NoJoin (CaughtAt s zero) f.1 (ap shows_doing is) (subst IsForked is)
        (record {
          corresponds = f.2;
          here = ap (caught (standing_of c zero)) f.3 ∙ ap (λ y. caught y (Forked n branches rest)) corr.chart;
          before =
              λ v less. absurd (omega (arith, less));
        })
    by_root d is = already zero (ap (λ y. caught y (doing s zero)) corr.chart ∙ ap (caught stand.Outside) is ∙ refl)

    catch_one : (q : ℕ) → Answer s q
    catch_one zero = by_root (doing s zero) refl
    catch_one (suc q) = by (slice_get s.threads (suc q)) refl
      where
        by : (o : Option Doing) → slice_get s.threads (suc q) ≡ o → Answer s (suc q)
        by None is = is_away (suc q) (ap (λ o. unwrap_or o Away) is)
        by (Some d) is =
            let less : suc q < length s.threads = slice_get_within s.threads (suc q) d is in
            let same : length s.threads ≡ suc (length k.regions) = corr.threads in
            let there : IsRegionOf k (suc q) = (omega arith, omega (arith, less, same)) in
            by_given (suc q) there (given k c s (region_at k (suc q)).around) refl (corr.each (suc q) there)

  record CaughtBelow (n : ℕ) (f : State) : Type 0 where
    corresponds : Corresponds k p l c f
    below : (q : ℕ) → q < n → caught (standing_of c q) (doing f q) ≡ true

  catch_below : (n : ℕ) (s : State) → Corresponds k p l c s → AnswersBy text thread_shows s NoJoin (CaughtBelow n) []
  catch_below zero s corr =
      no_answer_by text thread_shows s NoJoin (CaughtBelow zero) (record { corresponds = corr; below = λ q less. absurd (omega (arith, less)) })
  catch_below (suc n) s corr =
      let first : AnswersBy text thread_shows s NoJoin (CaughtBelow n) [] = catch_below n s corr in
      let end : State = first.answers.end in
      let last : AnswersBy text thread_shows end NoJoin (CaughtAt end n) [] = catch_one end first.answers.good.corresponds n in
      both_by text thread_shows s NoJoin (CaughtBelow n) (CaughtBelow (suc n)) [] [] first
      (weaker_by text thread_shows end NoJoin (CaughtAt end n) (CaughtBelow (suc n)) [] (λ f at. record {
        corresponds = at.corresponds;
        below = λ q less.
            ⊎_elim
            (λ same. subst (λ w. caught (standing_of c w) (doing f w) ≡ true) (sym same) at.here)
            (λ differ. ap (caught (standing_of c q)) (at.before q (omega (arith, less, differ))) ∙ first.answers.good.below q (omega (arith, less, differ)))
            (same_or_not q n);
      }) last)

  pub record CaughtUp (f : State) : Type 0 where
    pub corresponds : Corresponds k p l c f
    pub all : Caught c f

  -- all threads catch up
  pub catch_up : (s : State) → Corresponds k p l c s → AnswersBy text thread_shows s NoJoin CaughtUp []
  catch_up s corr =
      weaker_by text thread_shows s NoJoin (CaughtBelow (suc (length k.regions))) CaughtUp []
      (λ f at. record { corresponds = at.corresponds; all = λ q. by f at q (slice_get f.threads q) refl })
      (catch_below (suc (length k.regions)) s corr)
    where
      by : (f : State) → CaughtBelow (suc (length k.regions)) f → (q : ℕ) (o : Option Doing) → slice_get f.threads q ≡ o →
          caught (standing_of c q) (doing f q) ≡ true
      by f at q None is = ap (caught (standing_of c q)) (ap (λ o. unwrap_or o Away) is) ∙ caught_away (standing_of c q)
      by f at q (Some d) is = let less : q < length f.threads = slice_get_within f.threads q d is in let same : length f.threads ≡ suc (length k.regions) =
          at.corresponds.threads in at.below q (omega (arith, less, same))

  -- ---- who has caught up gives nothing that is not taken

  module _ (s : State) (corr : Corresponds k p l c s) (up : Caught c s) where
    pub not_ready : (n q : ℕ) → q < n → IsRegionOf k q → given k c s (region_at k q).around ≢ Ready
    not_ready zero q lt there ready = absurd (omega (arith, lt))
    not_ready (suc n) q lt there ready = ⊎_elim top (lies (not_ready n)) (low.tree.each q there)
      where
        root_ready : (d : Doing) → caught stand.Outside d ≡ true → giving_of_root d ≡ Ready → ⊥
        root_ready Away h is = absurd (cc)
        root_ready (Todo (Fork n branches rest)) h is = absurd (cc)
        root_ready (Todo (End n)) h is = absurd (cc)
        root_ready (Todo (Assign n x e rest)) h is = absurd (cc)
        root_ready (Todo (Label name rest)) h is = absurd (cc)
        root_ready (Todo (Goto g name rest)) h is = absurd (cc)
        root_ready (Todo (Pause n rest)) h is = absurd (cc)
        root_ready (Todo (If n e a b rest)) h is = absurd (cc)
        root_ready (Forked n branches rest) h is = absurd (cc)
        root_ready (Resting n rest) h is = absurd (cc)
        root_ready (Resuming n rest) h is = absurd (cc)
        root_ready Finished h is = absurd (cc)

        top : Contains l.top q × ((region_at k q).around ≡ []) → ⊥
        top t = root_ready (doing s zero) (ap (λ y. caught y (doing s zero)) (sym corr.chart) ∙ up zero) (sym (given_top k c s q t.1) ∙ ready)

        -- what gives without a thread of its own is not entered
        lies : ((v : ℕ) → v < n → IsRegionOf k v → given k c s (region_at k v).around ≢ Ready) → (u : ℕ) × LiesIn k q u → ⊥
        lies further u = by (standing_of c a) (doing s a) (given k c s (region_at k a).around) refl refl refl (up a) (sym (given_in k c s q u.0 u.1) ∙ ready)
            (corr.each a (low.tree.holders u.0 u.1.there))
          where
            a : ℕ
            a = (state_at k u.0).holder

            less : a < q
            less = u.1.less

            within_away : (g : Giving) (w : ℕ) (tests : List Rattle.core_charts.specs.declared.region.Transition.Transition) →
                given k c s (region_at k a).around ≡ g → Fits k p.root l a g (stand.Within w tests) Away → ⊥
            within_away Nothing w tests is fits = let h : stand.Within w tests ≡ stand.Outside = fits.0 in absurd (cc)
            within_away Ready w tests is fits = further a (omega (arith, less, lt)) (low.tree.holders u.0 u.1.there) is
            within_away Turn w tests is fits = absurd fits.0
            within_away Past w tests is fits = let h : stand.Within w tests ≡ stand.Ended = fits.0 in absurd (cc)

            within_ready : (w : ℕ) (d : Doing) → (if nat_eq w u.0 then giving d else Nothing) ≡ Ready → giving d ≡ Ready
            within_ready w d h = pick (nat_eq w u.0) h
              where
                pick : (b : Bool) → (if b then giving d else Nothing) ≡ Ready → giving d ≡ Ready
                pick true h = h
                pick false h = absurd (cc)

            by : (x : Standing) (d : Doing) (g : Giving) → standing_of c a ≡ x → doing s a ≡ d → given k c s (region_at k a).around ≡ g →
                caught (standing_of c a) (doing s a) ≡ true → giving_in u.0 (standing_of c a) (doing s a) ≡ Ready →
                Fits k p.root l a (given k c s (region_at k a).around) (standing_of c a) (doing s a) → ⊥
            by x d g stands is gives h ready fits =
                within_case x d
                (subst (λ y. caught y (doing s a) ≡ true) stands h)
                (subst (λ y. giving_in u.0 y (doing s a) ≡ Ready) stands ready)
                (subst (λ y. Fits k p.root l a (given k c s (region_at k a).around) y (doing s a)) stands fits)
              where
                within_case : (x : Standing) (d : Doing) → caught x (doing s a) ≡ true → giving_in u.0 x (doing s a) ≡ Ready →
                    Fits k p.root l a (given k c s (region_at k a).around) x (doing s a) → ⊥
                within_case stand.Outside d h ready fits = absurd (cc)
                within_case stand.Ended d h ready fits = absurd (cc)
                within_case (stand.Trying w tests) d h ready fits = absurd (cc)
                within_case (stand.Entering w tests) d h ready fits = absurd (cc)
                within_case (stand.Guarding w tests) d h ready fits = absurd (cc)
                within_case (stand.Acting w effects target) d h ready fits = absurd (cc)
                within_case (stand.Within w tests) d h ready fits = by_doing (doing s a) h (within_ready w (doing s a) ready) fits
                  where
                    by_doing : (d : Doing) → caught (stand.Within w tests) d ≡ true → giving d ≡ Ready → Fits k p.root l a (given k c s (region_at k a).around)
                        (stand.Within w tests) d → ⊥
                    by_doing Away h ready fits = within_away (given k c s (region_at k a).around) w tests refl fits
                    by_doing (Todo (Fork n branches rest)) h ready fits = absurd (cc)
                    by_doing (Todo (End n)) h ready fits = absurd (cc)
                    by_doing (Todo (Assign n x e rest)) h ready fits = absurd (cc)
                    by_doing (Todo (Label name rest)) h ready fits = absurd (cc)
                    by_doing (Todo (Goto g name rest)) h ready fits = absurd (cc)
                    by_doing (Todo (Pause n rest)) h ready fits = absurd (cc)
                    by_doing (Todo (If n e a b rest)) h ready fits = absurd (cc)
                    by_doing (Forked n branches rest) h ready fits = absurd (cc)
                    by_doing (Resting n rest) h ready fits = absurd (cc)
                    by_doing (Resuming n rest) h ready fits = absurd (cc)
                    by_doing Finished h ready fits = absurd (cc)

    -- a region that is entered and has not ended has its turn
    pub has_turn : (q : ℕ) → IsRegionOf k q → standing_of c q ≢ stand.Outside → standing_of c q ≢ stand.Ended → given k c s (region_at k q).around ≡ Turn
    has_turn q there entered going = by (given k c s (region_at k q).around) refl (corr.each q there)
      where
        by : (g : Giving) → given k c s (region_at k q).around ≡ g → Fits k p.root l q g (standing_of c q) (doing s q) →
            given k c s (region_at k q).around ≡ Turn
        by Nothing is fits = absurd (entered fits.0)
        by Ready is fits = absurd (not_ready (suc q) q (omega arith) there is)
        by Turn is fits = is
        by Past is fits = absurd (going fits.0)
