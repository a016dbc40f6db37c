-- A termination is taken: the step of the core that stands for it, and which stages may be reached before and after it.
use Rattle.std.proofs.Common.{◌≡◌, ◌≢◌, ℕ, ◌≤◌, inl, inr, Bool, true, false, Some, None, List, [], ◌∷◌, slice_set, Contains, refl}
use Rattle.std.proofs.Common.{sym, ap, subst, ◌∙◌, arith, if◌then◌else◌}
use Rattle.sc_values.specs.Access.{no_access}
use Rattle.sc_values.specs.Runs.{act_of}
use Rattle.core_charts.specs.declared.region.Effect.{Effect}
use Rattle.core_charts.specs.declared.region.Transition.{Transition}
use Rattle.core_charts.specs.Tests.{is_join}
use Rattle.core_charts.specs.Aborts.{has_aborts}
use Rattle.chart_machine.specs.declared.standing.Standing.{Standing}
use Rattle.chart_machine.specs.declared.standing.Standing.TheVariants as at
use Rattle.chart_machine.specs.declared.standing.Configuration.{Configuration}
use Rattle.chart_machine.specs.declared.table.Table.{Table}
use Rattle.chart_machine.specs.Table.{state_at}
use Rattle.chart_machine.specs.Turns.{standing_of, has_work, is_guarded, inside}
use Rattle.chart_machine.specs.Steps.{moved, access_of, access_of_trigger, step}
use Rattle.chart_machine.specs.Machine.{machine}
use Rattle.abort_expansion_laws.specs.Stages.{Entry, Image, Correspondence, HasStage}
use Rattle.abort_expansion_laws.proofs.Supplying.{climbs_step, nothing_at}
use Rattle.abort_expansion_laws.proofs.Segments.{Segment}
use Rattle.abort_expansion_laws.proofs.SilentSteps.{AtHome}
use Rattle.chart_machine_laws.proofs.LyingIn.{IsNested, LiesUnder, around, holder}
use Rattle.abort_expansion_laws.proofs.TablesCorrespond.{IsThere}
use Rattle.abort_expansion_laws.specs.CoreRows.{own, Images, CoreRows, pair}
use Rattle.abort_expansion_laws.specs.Related.{Related}
use Rattle.abort_expansion_laws.specs.StageReached.{some_work}
use Rattle.abort_expansion_laws.proofs.StageReached.{Stage, stage_of}
use Rattle.abort_expansion_laws.proofs.KnownVariables.{present_there}
use Rattle.abort_expansion_laws.proofs.StartingRegions.{CounterRows}
use Rattle.abort_expansion_laws.proofs.Leaving.{drops}
use Rattle.abort_expansion_laws.proofs.StagesAfterDrop.{outer_stage, outer_low, others_stay, reached_now}
use Rattle.abort_expansion_laws.proofs.DroppedInside as now
use Rattle.abort_expansion_laws.proofs.TerminationNext.{IsOver, inside_over}

pub at_most_three : (k : Table) (c : Configuration) (w : Standing) → stage_of k c w ≤ 3
at_most_three k c at.Outside = omega arith
at_most_three k c at.Ended = omega arith
at_most_three k c (at.Trying s tests) = omega arith
at_most_three k c (at.Entering s tests) = omega arith
at_most_three k c (at.Guarding s tests) = omega arith
at_most_three k c (at.Acting s effects target) = omega arith
at_most_three k c (at.Within s tests) = by_case (has_aborts (own k s)) (some_work k c s) _
  where
    by_case : (a b w : Bool) → (if a then (if b then 1 else (if w then 2 else 3)) else 1) ≤ 3
    by_case false b w = omega arith
    by_case true true w = omega arith
    by_case true false true = omega arith
    by_case true false false = omega arith

module _ (k core : Table) (i : Images) (rows : CoreRows k core i) (tree : IsNested k) (counts : ℕ → Bool) (written_at : ℕ → ℕ)
    (counters : CounterRows k core i rows counts written_at)
    (children : (s r : ℕ) → Contains (state_at k s).regions r → around k r ≡ s ∷ around k (holder k s))
    (c d : Configuration) (related : Related k core i c d) (r s : ℕ) (held : holder k s ≡ r) (t : Transition) (rest : List Transition)
    (stands : standing_of c r ≡ at.Within s (t ∷ rest)) (join : is_join t.kind ≡ true) (works : has_work k c (standing_of c r) ≡ true)
    (free : is_guarded k c (around k r) ≡ false) (no_trigger : t.trigger ≡ None) (e : Effect) (es : List Effect) where
  abbrev corr : Correspondence
  corr = pair k core i rows tree counts written_at

  -- the chart has dropped what was inside, and goes on with these effects
  abbrev pub c1 : Configuration
  c1 = record { variables = c.variables; regions = slice_set (moved (drops (inside k s)) c.regions) r (at.Acting s (e ∷ es) t.target) }

  present : standing_of c r ≢ at.Outside
  present w = let wrong : at.Within s (t ∷ rest) ≡ at.Outside = sym stands ∙ w in absurd cc

  pub there : IsThere k r
  there = present_there k core i c d related r present

  pub here : standing_of c1 r ≡ at.Acting s (e ∷ es) t.target
  here = now.here k tree c r s held there related.chart_regions (at.Acting s (e ∷ es) t.target)

  gone : (q : ℕ) → IsThere k q → Contains (around k q) s → standing_of c1 q ≡ at.Outside
  gone = now.gone k tree c r s held there related.chart_regions (at.Acting s (e ∷ es) t.target)

  same : (q : ℕ) → q ≢ r → ¬ Contains (around k q) s → standing_of c1 q ≡ standing_of c q
  same = now.same k tree c r s held there related.chart_regions (at.Acting s (e ∷ es) t.target)

  pub free1 : is_guarded k c1 (around k r) ≡ false
  free1 = now.still_free k tree c r s held there related.chart_regions (at.Acting s (e ∷ es) t.target) free

  inside_low : (q : ℕ) → IsThere k q → Contains (around k q) s → Unit {0} → stage_of k c (standing_of c q) ≤ 1
  inside_low q q_there h any = by_over (standing_of c q) (inside_over k core i rows tree counts written_at counters children c d related r s held t rest
      stands join works q h)
    where
      by_over : (w : Standing) → IsOver w → stage_of k c w ≤ 1
      by_over w (inl is) = rw (is) (omega arith)
      by_over w (inr is) = rw (is) (omega arith)

  pub outer : (b : ℕ) → LiesUnder k r b → (i.thread_of b ≢ i.thread_of r) × (((u : ℕ) → Stage k i.thread_of c d (i.thread_of b) u → u ≤ 1) × Stage k i.thread_of
      c1 d (i.thread_of b) 1)
  outer = outer_stage k core i rows tree children c d related r s there held present works free (λ q. Unit {0}) inside_low c1
      (ap (stage_of k c1) here) gone same

  pub outer_one : (b : ℕ) → LiesUnder k r b → (n : ℕ) → Stage k i.thread_of c1 d (i.thread_of b) n → n ≤ 1
  outer_one =
      outer_low k core i rows tree children c d related r s there held present works free (λ q. Unit {0}) inside_low c1 (ap (stage_of k c1) here) gone same
      (ap (has_work k c1) here)

  pub others : (h n : ℕ) → h ≢ i.thread_of r → Stage k i.thread_of c d h n → Stage k i.thread_of c1 d h n
  others h n ne = others_stay k core i rows tree children c d related r s there held present works free (λ q. Unit {0}) inside_low c1
      (ap (stage_of k c1) here) gone same h n ne (λ q q_there is in_s. tt)

  pub stage_now : (last : Configuration) (h n : ℕ) → AtHome (Stage k i.thread_of c1 d) (i.thread_of r) 0 h n → Stage k i.thread_of c1 last h n
  stage_now = reached_now k core i rows tree children c d related r s there held present works free (λ q. Unit {0}) inside_low c1
      (ap (stage_of k c1) here) gone same

  pub at_home : (h n : ℕ) → Stage k i.thread_of c d h n → AtHome (Stage k i.thread_of c d) (i.thread_of r) 3 h n
  at_home h n before = (
    λ ne. before,
    λ is. let low = before.regions r there is in let most = at_most_three k c (standing_of c r) in omega (low, most, arith),
  )

  -- the step that stands for it
  pub image_step : (Told : Configuration → Entry → Type 0) (d0 d4 : Configuration) → Told d0 (Image r no_access) →
      step core (i.thread_of r) d0 ≡ Some d4 → access_of (standing_of d0 (i.thread_of r)) ≡ no_access →
      Segment (machine core) corr Told d0 (AtHome (Stage k i.thread_of c d) (i.thread_of r) 3) (λ last. AtHome (Stage k i.thread_of c1 d) (i.thread_of r) 0)
      (act_of (machine k) c r ∷ []) (λ w. w ≡ d4)
  image_step Told d0 d4 told steps accesses =
      record {
        log = Image r no_access ∷ [];
        last = d4;
        follows = (ap (λ a. record { thread = i.thread_of r; access = a }) (sym accesses), told, (d4, steps, refl));
        charted = ap (λ a. record { thread = r; access = a } ∷ []) (sym (ap access_of stands ∙ ap access_of_trigger no_trigger));
        fits = ((λ x touches. absurd (nothing_at x touches)), tt);
        climbs = λ more climbs.
            climbs_step corr (AtHome (Stage k i.thread_of c d) (i.thread_of r) 3) (AtHome (Stage k i.thread_of c1 d) (i.thread_of r) 0) (Image r no_access) more
            own stay climbs;
        reaches = refl;
      }
    where
      own : (h n : ℕ) → HasStage corr (Image r no_access) h n →
          ((u : ℕ) → AtHome (Stage k i.thread_of c d) (i.thread_of r) 3 h u → u ≤ n) × AtHome (Stage k i.thread_of c1 d) (i.thread_of r) 0 h n
      own h n (b, under, is, one) =
          let out = outer b under in
          let ne : h ≢ i.thread_of r = λ same_home. out.0 (sym is ∙ same_home) in (
            λ u before. let low = out.1.0 u (subst (λ g. Stage k i.thread_of c d g u) is (before.0 ne)) in omega (low, one, arith),
            (
              λ other. subst (λ g. Stage k i.thread_of c1 d g n) (sym is) (subst (Stage k i.thread_of c1 d (i.thread_of b)) (sym one) out.1.1),
              λ same_home. absurd (ne same_home),
            ),
          )

      stay : (h n : ℕ) → i.thread_of r ≢ h → AtHome (Stage k i.thread_of c d) (i.thread_of r) 3 h n →
          AtHome (Stage k i.thread_of c1 d) (i.thread_of r) 0 h n
      stay h n ne before = (λ other. others h n other (before.0 other), λ same_home. absurd (ne (sym same_home)))
