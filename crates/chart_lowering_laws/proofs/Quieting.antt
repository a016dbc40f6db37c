-- The regions catch up with their threads by silent steps: tests without a trigger are made.
use Rattle.std.proofs.Common.{◌≡◌, ℕ, zero, suc, ◌<◌, inl, inr, ⊎_elim, Bool, true, if◌then◌else◌, nat_eq, Option, Some, None, List, [], ◌∷◌, length}
use Rattle.std.proofs.Common.{slice_get, unwrap_or, option_map, refl, sym, ap, subst, ◌∙◌, arith}
use Rattle.std.proofs.lemmas.Option.{same_Some, slice_get_within}
use Rattle.sc_values.specs.declared.expression.Expr.{Expr}
use Rattle.sc_values.specs.Runs.{Machine}
use Rattle.core_charts.specs.declared.region.Effect.{Effect}
use Rattle.core_charts.specs.declared.region.Transition.{Transition}
use Rattle.core_charts.specs.Tests.{at_once, terminations}
use Rattle.chart_machine.specs.declared.standing.Standing.{Standing}
use Rattle.chart_machine.specs.declared.standing.Standing.TheVariants as stand
use Rattle.chart_machine.specs.declared.standing.Configuration.{Configuration}
use Rattle.chart_machine.specs.declared.table.Table.{Table}
use Rattle.chart_machine.specs.Table.{state_at, region_at}
use Rattle.chart_machine.specs.Turns.{standing_of}
use Rattle.chart_machine.specs.Steps.{to, moved, state_in, taken, acts, dropped}
use Rattle.chart_machine.specs.Steps.{step as chart_step}
use Rattle.chart_machine.specs.Machine.{machine as chart_machine}
use Rattle.scl.specs.Block.{Block}
use Rattle.scl.specs.Numbering.{Numbered}
use Rattle.scl.specs.Meaning.{State, Doing, Away, Todo, Forked, Resting, Resuming, Finished, doing}
use Rattle.tick_laws.proofs.Lists.{contains_none}
use Rattle.chart_lowering_laws.proofs.Showing.{region_of}
use Rattle.chart_lowering_laws.specs.Layout.{Layout, Tests, Tries, Takes, InRegion, IsSimple, StandsThere, IsRegionOf, IsNumberOf, Lowers}
use Rattle.chart_lowering_laws.specs.Corresponds.{Live, HeldBy, Giving, Nothing, Ready, Turn, Past, given, first_standing, Fits, Corresponds, fresh}
use Rattle.chart_lowering_laws.specs.Follows.{Answers}
use Rattle.chart_lowering_laws.specs.WhichShow.{region_shows, shows_standing, has_trigger}
use Rattle.chart_lowering_laws.proofs.Following.{both_answers}
use Rattle.chart_lowering_laws.proofs.NumberTests.{same_or_not, nat_same}
use Rattle.chart_lowering_laws.proofs.Entering.{standing_in, later, only, put, put_append, moved_at, not_opened, puts_opened}
use Rattle.chart_lowering_laws.proofs.Matching.{is_within, not_around, nothing_dropped, later_none}
use Rattle.chart_lowering_laws.proofs.Structure.{Inside, inside_less, closed_below}
use Rattle.chart_lowering_laws.proofs.Updating.{Elsewhere, After}
use Rattle.chart_lowering_laws.proofs.Stepping.{number_within}
use Rattle.chart_lowering_laws.proofs.Steps.{tests_silently, step_is}
use Rattle.chart_lowering_laws.proofs.Catching.{no_answer, silent_then, weaker}

-- whether a region has no silent step to take
abbrev pub quiet : Standing → Doing → Bool
quiet (stand.Trying u (t ∷ tests)) (Todo todo) = has_trigger t.trigger
quiet standing doing = true

quiet_away : (x : Standing) → quiet x Away ≡ true
quiet_away stand.Outside = refl
quiet_away stand.Ended = refl
quiet_away (stand.Trying u []) = refl
quiet_away (stand.Trying u (t ∷ tests)) = refl
quiet_away (stand.Entering u tests) = refl
quiet_away (stand.Guarding u tests) = refl
quiet_away (stand.Acting u effects target) = refl
quiet_away (stand.Within u tests) = refl

module _ (k : Table) (p : Numbered) (l : Layout) (low : Lowers k p l) where
  abbrev chart : Machine
  chart = chart_machine k

  -- what entering a state makes of the region itself
  put_first : (r v : ℕ) → IsRegionOf k r → InRegion k r v → put (state_at k v).entered r ≡ Some (first_standing (state_at k v).entered)
  put_first r v at within = by (low.states v within.there)
    where
      one : (x : Standing) → (state_at k v).entered ≡ to (state_at k v).holder x ∷ [] →
          put (state_at k v).entered r ≡ Some (first_standing (state_at k v).entered)
      one x entered = ap (λ moves. put moves r) entered ∙ ap (λ b. only b x) (nat_same (state_at k v).holder r within.holder)
          ∙ sym (ap (λ moves. Some (first_standing moves)) entered)

      by : StandsThere k p.root l v → put (state_at k v).entered r ≡ Some (first_standing (state_at k v).entered)
      by (inl h) = one (stand.Trying v (at_once (state_at k v).transitions)) h.entered
      by (inr (inl h)) = one stand.Ended h.entered
      by (inr (inr h)) =
          let x : Standing = stand.Within v (terminations (state_at k v).transitions) in
          ap (λ moves. put moves r) h.entered
          ∙ ap (λ o. later o (only (nat_eq (state_at k v).holder r) x))
          (ap (λ moves. put moves r) h.opened ∙ puts_opened k l low.tree p.root low.states v within.there r (inr at)
          ∙ ap (λ b. only b (fresh k l r))
          (not_opened k l v (region_at k r).around (not_around k p l low r v at within.holder)))
          ∙ ap (λ b. only b x) (nat_same (state_at k v).holder r within.holder)
          ∙ sym (ap (λ moves. Some (first_standing moves)) h.entered)

  -- the target of a test without a trigger
  target_of : (r u : ℕ) (t : Transition) (tests : List Transition) (todo : Block) → InRegion k r u → t.trigger ≡ None →
      Live k p.root l r (stand.Trying u (t ∷ tests)) (Todo todo) → InRegion k r (state_in k r t.target)
  target_of r u t tests todo within none live =
      let h : Takes k p.root l (state_at k u).holder t todo =
      subst (λ o. Tests p.root o (Takes k p.root l (state_at k u).holder t) (Tries p.root (Takes k p.root l (state_at k u).holder) (l.pause u) tests) todo)
      none live.1 in
      (subst (λ a. Takes k p.root l a t todo) within.holder h).0

  module _ (s : State) where
    -- thread and region q, when it is quiet; who has a smaller number, or is in a superstate, stays
    pub record QuietAt (c : Configuration) (q : ℕ) (d : Configuration) : Type 0 where
      pub corresponds : Corresponds k p l d s
      pub here : quiet (standing_of d q) (doing s q) ≡ true
      pub before : (v : ℕ) → v < q → standing_of d v ≡ standing_of c v
      pub within : (v : ℕ) → is_within (standing_of c v) ≡ true → standing_of d v ≡ standing_of c v

    abbrev Answer : Configuration → ℕ → Type 0
    Answer c q = Answers chart region_shows c (QuietAt c q) []

    already : (c : Configuration) (q : ℕ) → Corresponds k p l c s → quiet (standing_of c q) (doing s q) ≡ true → Answer c q
    already c q corr is = no_answer chart region_shows c (QuietAt c q) (record { corresponds = corr; here = is; before = λ v less. refl; within = λ v h. refl })

    number_below : (v q : ℕ) → IsRegionOf k q → v < q → IsNumberOf k v
    number_below zero q there less = inl refl
    number_below (suc v) q there less = let high : q < suc (length k.regions) = there.1 in inr (omega arith, omega (arith, less, high))

    module _ (c : Configuration) (corr : Corresponds k p l c s) (q u : ℕ) (there : IsRegionOf k q) (turn : given k c s (region_at k q).around ≡ Turn)
        (t : Transition) (tests : List Transition) (todo : Block) (stands : standing_of c q ≡ stand.Trying u (t ∷ tests)) (none : t.trigger ≡ None)
        (is : doing s q ≡ Todo todo) where
      fits : Live k p.root l q (stand.Trying u (t ∷ tests)) (Todo todo) × HeldBy k p.root l q (stand.Trying u (t ∷ tests))
      fits =
          subst (λ d. Live k p.root l q (stand.Trying u (t ∷ tests)) d × HeldBy k p.root l q (stand.Trying u (t ∷ tests))) is
          (subst (λ x. Live k p.root l q x (doing s q) × HeldBy k p.root l q x) stands
          (subst (λ g. Fits k p.root l q g (standing_of c q) (doing s q)) turn (corr.each q there)))

      -- where the region comes to stand
      abbrev comes : Standing
      comes = first_standing (acts k q u t.effects t.target)

      put_taken : put (taken k q u t) q ≡ Some comes
      put_taken =
          put_append (dropped k u) (acts k q u t.effects t.target) q
          ∙ ap (later (put (acts k q u t.effects t.target) q)) (nothing_dropped k u q (fits.1.1.none_inside q))
          ∙ later_none (put (acts k q u t.effects t.target) q)
          ∙ by t.effects
        where
          by : (effects : List Effect) → put (acts k q u effects t.target) q ≡ Some (first_standing (acts k q u effects t.target))
          by [] = put_first q (state_in k q t.target) there (target_of q u t tests todo fits.1.0 none fits.0)
          by (e ∷ effects) = ap (λ b. only b (stand.Acting u (e ∷ effects) t.target)) (nat_same q q refl)

      -- the silent step
      silent : (d : Configuration) × (chart_step k q c ≡ Some d) × After k p l c q d s × (standing_of d q ≡ comes)
      silent =
          let goes : (d : Configuration) × (chart_step k q c ≡ Some d) × After k p l c q d s =
          tests_silently k p l low c s corr q there turn u t tests todo stands none is in
          let d : Configuration = record { variables = c.variables; regions = moved (taken k q u t) c.regions } in
          let steps : chart_step k q c ≡ Some d =
          step_is k p l low c s corr q (stand.Trying u (t ∷ tests)) stands refl refl
          ∙ ap (λ o. option_map (λ e. Rattle.chart_machine.specs.Steps.after e c)
          (option_map (λ holds. record { write = None; moves = if holds then taken k q u t else to q (stand.Trying u tests) ∷ [] })
          (Rattle.chart_machine.specs.Steps.verdict c.variables o))) none in (
            d,
            steps,
            subst (λ e. After k p l c q e s) (same_Some goes.0 d (sym goes.1 ∙ steps)) goes.2,
            moved_at (taken k q u t) c.regions q (number_within k p l low c s corr q (inr there)) ∙ ap (λ o. unwrap_or o (standing_in c.regions q)) put_taken,
          )

      -- who has a smaller number, or is in a superstate, is left as it is
      left_before : (d : Configuration) → Elsewhere k c d q → (v : ℕ) → v < q → standing_of d v ≡ standing_of c v
      left_before d elsewhere v less = elsewhere v (number_below v q there less) (λ same. absurd (omega (arith, less, same))) (λ inner. below v less inner)
        where
          below : (v : ℕ) → v < q → Inside k q v → ⊥
          below zero less inner = contains_none inner.state inner.around
          below (suc v) less inner = let high : q < suc (length k.regions) = there.1 in let more : q < suc v = inside_less k p l low q (suc v)
              (omega arith, omega (arith, less, high)) inner in absurd (omega (arith, less, more))

      left_within : (d : Configuration) → Elsewhere k c d q → (v : ℕ) → is_within (standing_of c v) ≡ true → standing_of d v ≡ standing_of c v
      left_within d elsewhere v h =
          let v_there : IsRegionOf k v = region_of k p l c s corr v (λ out. let i : is_within stand.Outside ≡ true =
          subst (λ x. is_within x ≡ true) out h in absurd (cc)) in
          elsewhere v (inr v_there)
          (λ same. let i : is_within (stand.Trying u (t ∷ tests)) ≡ true = subst (λ x. is_within x ≡ true) (ap (standing_of c) same ∙ stands) h in absurd (cc))
          (λ inner.
          let out : (standing_of c v ≡ stand.Outside) × (doing s v ≡ Away) = closed_below k p l low c s corr q (ap is_within stands) (suc v) v
          (omega arith) v_there inner in
          let i : is_within stand.Outside ≡ true = subst (λ x. is_within x ≡ true) out.0 h in absurd (cc))

      -- the silent step, and then more of them
      step_on : (d : Configuration) → chart_step k q c ≡ Some d → After k p l c q d s → Answer d q → Answer c q
      step_on d steps after answer =
          silent_then chart region_shows c d q (QuietAt c q) [] steps (ap shows_standing stands ∙ ap has_trigger none)
          (weaker chart region_shows d (QuietAt d q) (QuietAt c q) [] (λ e at. record {
            corresponds = at.corresponds;
            here = at.here;
            before = λ v less. at.before v less ∙ left_before d after.1 v less;
            within = λ v h. let same : standing_of d v ≡ standing_of c v = left_within d after.1 v h in at.within v (ap is_within same ∙ h) ∙ same;
          }) answer)

    -- the turn stays with the region
    turn_after : (c d : Configuration) (q : ℕ) → IsRegionOf k q → Corresponds k p l d s → (todo : Block) → doing s q ≡ Todo todo →
        given k d s (region_at k q).around ≡ Turn
    turn_after c d q there corr todo is = by (given k d s (region_at k q).around) refl (corr.each q there)
      where
        by : (g : Giving) → given k d s (region_at k q).around ≡ g → Fits k p.root l q g (standing_of d q) (doing s q) →
            given k d s (region_at k q).around ≡ Turn
        by Nothing h fits = let no : Todo todo ≡ Away = sym is ∙ fits.1 in absurd (cc)
        by Ready h fits = let no : Todo todo ≡ Away = sym is ∙ fits.1 in absurd (cc)
        by Past h fits = let no : Todo todo ≡ Away = sym is ∙ fits.1 in absurd (cc)
        by Turn h fits = h

    -- after a silent step: the effects, or the state that was entered
    behind_test : (c : Configuration) (corr : Corresponds k p l c s) (q u : ℕ) (there : IsRegionOf k q) (turn : given k c s (region_at k q).around ≡ Turn)
        (t : Transition) (tests : List Transition) (todo : Block) (stands : standing_of c q ≡ stand.Trying u (t ∷ tests)) (none : t.trigger ≡ None)
        (is : doing s q ≡ Todo todo) →
        ((d : Configuration) → Corresponds k p l d s → InRegion k q (state_in k q t.target) → t.effects ≡ [] →
        standing_of d q ≡ first_standing (state_at k (state_in k q t.target)).entered → Answer d q) → Answer c q
    behind_test c corr q u there turn t tests todo stands none is further =
        let goes : (d : Configuration) × (chart_step k q c ≡ Some d) × After k p l c q d s
        × (standing_of d q ≡ comes c corr q u there turn t tests todo stands none is) = silent c corr q u there turn t tests todo stands none is in
        let now : Live k p.root l q (stand.Trying u (t ∷ tests)) (Todo todo) × HeldBy k p.root l q (stand.Trying u (t ∷ tests)) =
        fits c corr q u there turn t tests todo stands none is in
        step_on c corr q u there turn t tests todo stands none is goes.0 goes.1 goes.2
        (by goes.0 goes.2.0 (target_of q u t tests todo now.1.0 none now.0) t.effects refl goes.3)
      where
        by : (d : Configuration) → Corresponds k p l d s → InRegion k q (state_in k q t.target) → (effects : List Effect) → t.effects ≡ effects →
            standing_of d q ≡ first_standing (acts k q u t.effects t.target) → Answer d q
        by d again target [] same at = further d again target same (at ∙ ap (λ es. first_standing (acts k q u es t.target)) same)
        by d again target (e ∷ effects) same at =
            already d q again (ap (λ x. quiet x (doing s q)) (at ∙ ap (λ es. first_standing (acts k q u es t.target)) same))

    -- a region that has just entered a state becomes quiet
    entered_quiet : (n : ℕ) (c : Configuration) (q v : ℕ) (todo : Block) → l.rank v < n → IsRegionOf k q → InRegion k q v → Corresponds k p l c s →
        doing s q ≡ Todo todo → standing_of c q ≡ first_standing (state_at k v).entered → Answer c q
    entered_quiet zero c q v todo lt there within corr is stands = absurd (omega (arith, lt))
    entered_quiet (suc n) c q v todo lt there within corr is stands = by (low.states v within.there) (λ d w less. entered_quiet n d q w todo less there)
      where
        trying : IsSimple k p.root l v → standing_of c q ≡ stand.Trying v (at_once (state_at k v).transitions) →
            ((d : Configuration) (w : ℕ) → l.rank w < n → InRegion k q w → Corresponds k p l d s → doing s q ≡ Todo todo →
            standing_of d q ≡ first_standing (state_at k w).entered → Answer d q) → Answer c q
        trying h at further = by_tests (at_once (state_at k v).transitions) refl
          where
            by_tests : (tests : List Transition) → at_once (state_at k v).transitions ≡ tests → Answer c q
            by_tests [] same = already c q corr (ap (λ x. quiet x (doing s q)) (at ∙ ap (stand.Trying v) same))
            by_tests (t ∷ tests) same = by_trigger t.trigger refl
              where
                by_trigger : (o : Option Expr) → t.trigger ≡ o → Answer c q
                by_trigger (Some e) trigger = already c q corr (ap (λ x. quiet x (doing s q)) (at ∙ ap (stand.Trying v) same)
                    ∙ ap (quiet (stand.Trying v (t ∷ tests))) is ∙ ap has_trigger trigger)
                by_trigger None trigger =
                    behind_test c corr q v there (turn_after c c q there corr todo is) t tests todo (at ∙ ap (stand.Trying v) same) trigger is
                    (λ d again target none stands.
                    let less : l.rank (state_in k (state_at k v).holder t.target) < l.rank v = low.falls v t tests within.there same trigger none in
                    let less_here : l.rank (state_in k q t.target) < l.rank v = subst (λ a. l.rank (state_in k a t.target) < l.rank v) within.holder less in
                    further d (state_in k q t.target) (omega (arith, less_here, lt)) target again is stands)

        by : StandsThere k p.root l v → ((d : Configuration) (w : ℕ) → l.rank w < n → InRegion k q w → Corresponds k p l d s → doing s q ≡ Todo todo →
            standing_of d q ≡ first_standing (state_at k w).entered → Answer d q) → Answer c q
        by (inl h) further = trying h (stands ∙ ap first_standing h.entered) further
        by (inr (inl h)) further = already c q corr (ap (λ x. quiet x (doing s q)) (stands ∙ ap first_standing h.entered))
        by (inr (inr h)) further = already c q corr (ap (λ x. quiet x (doing s q)) (stands ∙ ap first_standing h.entered))

    by_standing : (c : Configuration) (q : ℕ) → IsRegionOf k q → Corresponds k p l c s → (x : Standing) (d : Doing) → standing_of c q ≡ x → doing s q ≡ d →
        Answer c q
    by_standing c q there corr (stand.Trying u (t ∷ tests)) (Todo todo) stands is = by t.trigger refl
      where
        by : (o : Option Expr) → t.trigger ≡ o → Answer c q
        by (Some e) trigger = already c q corr (ap (λ x. quiet x (doing s q)) stands ∙ ap (quiet (stand.Trying u (t ∷ tests))) is ∙ ap has_trigger trigger)
        by None trigger =
            behind_test c corr q u there (turn_after c c q there corr todo is) t tests todo stands trigger is
            (λ d again target none at. entered_quiet (suc (l.rank (state_in k q t.target))) d q (state_in k q t.target) todo
            (omega arith) there target again is at)
    by_standing c q there corr (stand.Trying u (t ∷ tests)) Away stands is = already c q corr (ap (λ x. quiet x (doing s q)) stands
        ∙ ap (quiet (stand.Trying u (t ∷ tests))) is)
    by_standing c q there corr (stand.Trying u (t ∷ tests)) (Forked n branches rest) stands is = already c q corr (ap (λ x. quiet x (doing s q)) stands
        ∙ ap (quiet (stand.Trying u (t ∷ tests))) is)
    by_standing c q there corr (stand.Trying u (t ∷ tests)) (Resting n rest) stands is = already c q corr (ap (λ x. quiet x (doing s q)) stands
        ∙ ap (quiet (stand.Trying u (t ∷ tests))) is)
    by_standing c q there corr (stand.Trying u (t ∷ tests)) (Resuming n rest) stands is = already c q corr (ap (λ x. quiet x (doing s q)) stands
        ∙ ap (quiet (stand.Trying u (t ∷ tests))) is)
    by_standing c q there corr (stand.Trying u (t ∷ tests)) Finished stands is = already c q corr (ap (λ x. quiet x (doing s q)) stands
        ∙ ap (quiet (stand.Trying u (t ∷ tests))) is)
    by_standing c q there corr (stand.Trying u []) d stands is = already c q corr (ap (λ x. quiet x (doing s q)) stands)
    by_standing c q there corr stand.Outside d stands is = already c q corr (ap (λ x. quiet x (doing s q)) stands)
    by_standing c q there corr stand.Ended d stands is = already c q corr (ap (λ x. quiet x (doing s q)) stands)
    by_standing c q there corr (stand.Entering u tests) d stands is = already c q corr (ap (λ x. quiet x (doing s q)) stands)
    by_standing c q there corr (stand.Guarding u tests) d stands is = already c q corr (ap (λ x. quiet x (doing s q)) stands)
    by_standing c q there corr (stand.Acting u effects target) d stands is = already c q corr (ap (λ x. quiet x (doing s q)) stands)
    by_standing c q there corr (stand.Within u tests) d stands is = already c q corr (ap (λ x. quiet x (doing s q)) stands)

    quiet_one : (c : Configuration) (q : ℕ) → Corresponds k p l c s → Answer c q
    quiet_one c zero corr = already c zero corr (ap (λ x. quiet x (doing s zero)) corr.chart)
    quiet_one c (suc q) corr = by (slice_get c.regions (suc q)) refl
      where
        by : (o : Option Standing) → slice_get c.regions (suc q) ≡ o → Answer c (suc q)
        by None is = already c (suc q) corr (ap (λ x. quiet x (doing s (suc q))) (ap (λ o. unwrap_or o stand.Outside) is))
        by (Some x) is =
            let less : suc q < length c.regions = slice_get_within c.regions (suc q) x is in
            let same : length c.regions ≡ suc (length k.regions) = corr.regions in
            by_standing c (suc q) (omega arith, omega (arith, less, same)) corr (standing_of c (suc q)) (doing s (suc q)) refl refl

    record QuietBelow (c : Configuration) (n : ℕ) (d : Configuration) : Type 0 where
      corresponds : Corresponds k p l d s
      below : (q : ℕ) → q < n → quiet (standing_of d q) (doing s q) ≡ true
      within : (v : ℕ) → is_within (standing_of c v) ≡ true → standing_of d v ≡ standing_of c v

    quiet_below : (n : ℕ) (c : Configuration) → Corresponds k p l c s → Answers chart region_shows c (QuietBelow c n) []
    quiet_below zero c corr = no_answer chart region_shows c (QuietBelow c zero)
        (record { corresponds = corr; below = λ q less. absurd (omega (arith, less)); within = λ v h. refl })
    quiet_below (suc n) c corr =
        let first : Answers chart region_shows c (QuietBelow c n) [] = quiet_below n c corr in
        let last : Answers chart region_shows first.end (QuietAt first.end n) [] = quiet_one first.end n first.good.corresponds in
        both_answers chart region_shows c (QuietBelow c n) (QuietBelow c (suc n)) [] [] first
        (weaker chart region_shows first.end (QuietAt first.end n) (QuietBelow c (suc n)) [] (λ d at. record {
          corresponds = at.corresponds;
          below = λ q less.
              ⊎_elim
              (λ same. subst (λ w. quiet (standing_of d w) (doing s w) ≡ true) (sym same) at.here)
              (λ differ. ap (λ x. quiet x (doing s q)) (at.before q (omega (arith, less, differ))) ∙ first.good.below q (omega (arith, less, differ)))
              (same_or_not q n);
          within = λ v h. let same : standing_of first.end v ≡ standing_of c v = first.good.within v h in at.within v (ap is_within same ∙ h) ∙ same;
        }) last)

    pub record AllQuiet (c d : Configuration) : Type 0 where
      pub corresponds : Corresponds k p l d s
      pub all : (q : ℕ) → quiet (standing_of d q) (doing s q) ≡ true
      pub within : (v : ℕ) → is_within (standing_of c v) ≡ true → standing_of d v ≡ standing_of c v

    -- all regions become quiet
    pub all_quiet : (c : Configuration) → Corresponds k p l c s → Answers chart region_shows c (AllQuiet c) []
    all_quiet c corr =
        weaker chart region_shows c (QuietBelow c (suc (length k.regions))) (AllQuiet c) []
        (λ d at. record { corresponds = at.corresponds; all = λ q. by d at q (slice_get d.regions q) refl; within = at.within })
        (quiet_below (suc (length k.regions)) c corr)
      where
        by : (d : Configuration) → QuietBelow c (suc (length k.regions)) d → (q : ℕ) (o : Option Standing) → slice_get d.regions q ≡ o →
            quiet (standing_of d q) (doing s q) ≡ true
        by d at q None is = ap (λ x. quiet x (doing s q)) (ap (λ o. unwrap_or o stand.Outside) is)
        by d at q (Some x) is = let less : q < length d.regions = slice_get_within d.regions q x is in let same : length d.regions ≡ suc (length k.regions) =
            at.corresponds.regions in at.below q (omega (arith, less, same))
