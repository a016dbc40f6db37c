-- Each end of a core chart, from where nobody has looked at flags yet, has one of the machine that waits: the run without its looks.
use Rattle.std.proofs.Common.{◌≡◌, ℕ, suc, ◌+◌, Bool, true, false, ◌||◌, Some, unwrap_or, List, [], ◌∷◌, ◌++◌, length}
use Rattle.std.proofs.Common.{refl, ap, subst, ◌∙◌, arith}
use Rattle.std.specs.List.{list_any}
use Rattle.std.proofs.lemmas.List.{length-append}
use Rattle.std.proofs.lemmas.Option.{same_Some}
use Rattle.sc_values.specs.Runs.{replay, IsOver, acts, acts_after, act_of, Ends}
use Rattle.sc_values.proofs.Order.{Orderly, orderly_from_admissible}
use Rattle.scl_graph_laws.proofs.Searching.{unlike}
use Rattle.core_charts.specs.declared.region.Transition.{Transition}
use Rattle.chart_machine.specs.declared.standing.Configuration.{Configuration}
use Rattle.chart_machine.specs.declared.standing.Standing.{Standing}
use Rattle.chart_machine.specs.declared.standing.Standing.TheVariants as at
use Rattle.chart_machine.specs.declared.table.Table.{Table}
use Rattle.chart_machine.specs.Machine.{machine}
use Rattle.chart_machine.specs.Turns.{standing_of, is_enabled, ForkedApart}
use Rattle.chart_machine_laws.specs.Tree.{around}
use Rattle.preemption_laws.proofs.ByRank.{Begins, begins}
use Rattle.preemption_laws.specs.Looks.{Looks}
use Rattle.preemption_laws.specs.Waiting.{holds, is_waiting, waiting_at, still, sees, may_step, waiting_machine}
use Rattle.preemption_laws.proofs.Erased.{Erased, erased}
use Rattle.preemption_laws.proofs.FlagsStayDown.{AllLooked, all_looked_still}
use Rattle.preemption_laws.proofs.Ground.{Ground}
use Rattle.preemption_laws.proofs.QuietLogs.{quiet_runs, quiet_admissible}
use Rattle.preemption_laws.proofs.SoundCores.{core_still, not_guarded}
use Rattle.preemption_laws.proofs.StillTurns.{turn_still}
use Rattle.preemption_laws.proofs.StaysThere.{Sound}
use Rattle.preemption_laws.proofs.StillConfigurations.{stands_still, waiting_same}

-- what holds of no item holds of none of a list
none_any : {A : Type 0} (f : A → Bool) (xs : List A) → ((before after : List A) (y : A) → xs ≡ before ++ y ∷ after → f y ≡ false) → list_any f xs ≡ false
none_any f [] each = refl
none_any f (x ∷ xs) each =
    either (f x) (list_any f xs) (each [] xs x refl) (none_any f xs (λ before after y is. each (x ∷ before) after y (ap (λ ys. x ∷ ys) is)))
  where
    either : (a b : Bool) → a ≡ false → b ≡ false → (a || b) ≡ false
    either false b e h = h
    either true b e h = absurd cc

module _ (k : Table) (looks : ℕ → List Transition) (known : Looks k looks) (g : Ground k) where
  -- ---- what is looked at stays down to the end

  record Comes (e : Configuration) : Type 0 where
    sound : Sound k looks known g e
    all : AllLooked k looks known g e []

  comes : (run : List ℕ) (c e : Configuration) → Sound k looks known g c → replay (machine k) run c ≡ Some e →
      Orderly (ForkedApart k) (acts (machine k) run c) →
      AllLooked k looks known g c (acts (machine k) run c) → Comes e
  comes [] c e sound runs orderly all =
      let same : c ≡ e = same_Some c e runs in
      subst Comes same (record { sound = sound; all = all })
  comes (t ∷ run) c e sound runs orderly all =
      let b : Begins (machine k) t run c e = begins (machine k) t run c e runs in
      let log : acts (machine k) (t ∷ run) c ≡ act_of (machine k) c t ∷ acts (machine k) run b.next =
      ap (λ o. act_of (machine k) c t ∷ acts_after (machine k) (acts (machine k) run) o) b.steps in
      let both = subst (Orderly (ForkedApart k)) log orderly in
      comes run b.next e (core_still k looks known g c b.next t sound b.steps) b.rest both.1
      (all_looked_still k looks known g c b.next t sound b.steps (acts (machine k) run b.next) both.0
      (subst (AllLooked k looks known g c) log all))

  -- ---- so nobody who waits may leave there

  module _ (e : Configuration) (there : Comes e) (over : IsOver (machine k) e) where
    none_left : (q s : ℕ) (w : Transition) (tests : List Transition) → standing_of e q ≡ at.Trying s (w ∷ tests) → ⊥
    none_left q s w tests stands =
        let free = not_guarded k looks known g e there.sound.forms (around k q) in
        let on : is_enabled k e q ≡ true = rw (stands, free) refl in unlike (is_enabled k e q) on (over q)

    sees_none : (q s : ℕ) → standing_of e q ≡ at.Trying s [] → sees k looks (still k looks e) (standing_of (still k looks e) q) ≡ false
    sees_none q s stands =
        ap (sees k looks (still k looks e)) (stands_still k looks e q ∙ ap (waiting_at k looks) stands)
        ∙ none_any (holds (still k looks e)) (looks s)
        (λ before after u parts.
        ap (λ o. unwrap_or o false) (there.all q s [] before after u stands parts (omega arith)).down)

    waits_on : (q : ℕ) (x : Standing) → standing_of e q ≡ x → is_waiting k looks x ≡ true →
        sees k looks (still k looks e) (standing_of (still k looks e) q) ≡ false
    waits_on q (at.Trying s []) stands waits = sees_none q s stands
    waits_on q (at.Trying s (w ∷ tests)) stands waits = absurd (none_left q s w tests stands)
    waits_on q at.Outside stands waits = absurd cc
    waits_on q at.Ended stands waits = absurd cc
    waits_on q (at.Entering s tests) stands waits = absurd cc
    waits_on q (at.Guarding s tests) stands waits = absurd cc
    waits_on q (at.Within s tests) stands waits = absurd cc
    waits_on q (at.Acting s effects target) stands waits = absurd cc

    over_too : IsOver (waiting_machine k looks) (still k looks e)
    over_too q = by (is_waiting k looks (standing_of e q)) refl
      where
        by : (b : Bool) → is_waiting k looks (standing_of e q) ≡ b → may_step k looks (still k looks e) q ≡ false
        by true is = rw (waiting_same k looks e q ∙ is) (waits_on q (standing_of e q) refl is)
        by false is = rw (waiting_same k looks e q ∙ is) (turn_still k looks known g e there.sound q is ∙ over q)

  -- ---- ends

  -- nobody has looked at a flag yet
  abbrev pub NoneLooked : Configuration → Type 0
  NoneLooked c = (r s : ℕ) (tests : List Transition) → standing_of c r ≡ at.Trying s tests → (front : List Transition) × (tests ≡ front ++ looks s)

  pub core_waits : (c e : Configuration) → Sound k looks known g c → NoneLooked c → Ends (machine k) c e →
      Ends (waiting_machine k looks) (still k looks c) (still k looks e)
  core_waits c e sound none ends =
      let without : Erased k looks known g c e =
      erased k looks known g ends.run c e sound (quiet_runs k looks ends.run c ∙ ends.complete.runs)
      (quiet_admissible k looks ends.run c ends.admissible) in
      let there : Comes e =
      comes ends.run c e sound ends.complete.runs (orderly_from_admissible (ForkedApart k) (acts (machine k) ends.run c) ends.admissible)
      (λ r s tests before after u stands parts low_enough.
      let its = none r s tests stands in
      let all : length tests ≡ length its.0 + length (looks s) = ap length its.1 ∙ length-append its.0 (looks s) in
      let some : length (looks s) ≡ length before + suc (length after) = ap length parts ∙ length-append before (u ∷ after) in
      absurd (omega (all, some, low_enough, arith))) in
      record {
        run = without.run;
        complete = record { runs = without.runs; over = over_too e there ends.complete.over };
        admissible = without.admissible;
      }
