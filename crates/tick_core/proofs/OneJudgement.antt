-- No two judgements hold of one run.
use Rattle.std.proofs.Common.{◌≡◌, ℕ, zero, suc, ◌<◌, inl, inr, true, false, List, [], ◌∷◌, Some, slice_get, take, length, refl, sym, ap, subst, ◌∙◌, arith}
use Rattle.std.proofs.Math.Nat.{le_antisymm}
use Rattle.std.proofs.Math.Seq.{take-length}
use Rattle.std.proofs.lemmas.Option.{none-some, same_Some, slice_get_within}
use Rattle.sc_values.specs.Runs.{replay, acts, IsAdmissible}
use Rattle.sc_graph.specs.declared.control.Control.{Control}
use Rattle.sc_graph.specs.Program.{Program}
use Rattle.sc_graph.specs.Threads.{ForkedApart}
use Rattle.sc_graph.specs.Machine.{machine}
use Rattle.sc_graph.specs.Control.{is_enabled}
use Rattle.sc_graph.specs.Steps.{step}
use Rattle.tick_laws.proofs.Lists.{and_then_some}
use Rattle.tick_laws.proofs.Views.{enabled_from, enabled_from_effect}
use Rattle.tick_laws.proofs.RunsOn.{stepped_by}
use Rattle.tick_core.specs.declared.judging.Judged.{Judged}
use Rattle.tick_core.specs.declared.judging.Judged.TheVariants as judged
use Rattle.tick_core.specs.Judging.{IsNotRun, IsFirstForbidden, IsNotAdmissible, IsIncomplete, LeadsToEnd, Judges, IsJudgement}
use Rattle.tick_core.proofs.Forbidding.{lt_or_le}

-- who isn't enabled takes no step
idle_stands : (p : Program) (t : ℕ) (c d : Control) → is_enabled p c t ≡ false → step p t c ≡ Some d → ⊥
idle_stands p t c d idle stepped =
    let by = stepped_by p t c d stepped in
    let able : is_enabled p c t ≡ true = enabled_from p c t (enabled_from_effect p c t by.e by.is) in
    absurd (cc)

-- no run goes past a thread that isn't enabled at its turn
never_past : (p : Program) (run : List ℕ) (i n t : ℕ) (c reached d : Control) → slice_get run i ≡ Some t → replay (machine p) (take i run) c ≡ Some reached →
    is_enabled p reached t ≡ false → i < n → replay (machine p) (take n run) c ≡ Some d → ⊥
never_past p [] i n t c reached d is runs idle past other = absurd (none-some t is)
never_past p (u ∷ run) i zero t c reached d is runs idle past other = absurd (omega (arith, past))
never_past p (u ∷ run) zero (suc n) t c reached d is runs idle past other =
    let g = and_then_some (replay (machine p) (take n run)) (step p u c) d other in
    let same : u ≡ t = same_Some u t is in
    let here : c ≡ reached = same_Some c reached runs in
    idle_stands p u c g.0 (ap (λ e. is_enabled p e u) here ∙ ap (is_enabled p reached) same ∙ idle) g.1
never_past p (u ∷ run) (suc i) (suc n) t c reached d is runs idle past other =
    let f = and_then_some (replay (machine p) (take i run)) (step p u c) reached runs in
    let g = and_then_some (replay (machine p) (take n run)) (step p u c) d other in
    let same : g.0 ≡ f.0 = same_Some g.0 f.0 (sym g.1 ∙ f.1) in
    never_past p run i n t f.0 reached d is f.2 idle (omega (arith, past)) (subst (λ (e : Control). replay (machine p) (take n run) e ≡ Some d) same g.2)

module _ (p : Program) (begun : Control) (run : List ℕ) where
  -- the first thread that isn't enabled stands at one place
  first_idle_once : (i k : ℕ) → IsNotRun p begun run i → IsNotRun p begun run k → i ≡ k
  first_idle_once i k a b =
      le_antisymm
      (elim (lt_or_le k i) [ inl less ↦ absurd (never_past p run k i b.thread begun b.reached a.reached b.is b.runs b.idle less a.runs) | inr le ↦ le ])
      (elim (lt_or_le i k) [ inl less ↦ absurd (never_past p run i k a.thread begun a.reached b.reached a.is a.runs a.idle less b.runs) | inr le ↦ le ])

  -- what runs to its end has no such place
  never_stopped : (i : ℕ) (d : Control) → IsNotRun p begun run i → replay (machine p) run begun ≡ Some d → ⊥
  never_stopped i d a runs =
      never_past p run i (length run) a.thread begun a.reached d a.is a.runs a.idle (slice_get_within run i a.thread a.is)
      (ap (λ (l : List ℕ). replay (machine p) l begun) (take-length run) ∙ runs)

  -- a forbidden pair is in no admissible run
  never_forbidden : (i j : ℕ) → IsNotAdmissible p begun run i j → IsAdmissible (machine p) run begun → ⊥
  never_forbidden i j a admissible = let f = a.first.is in f.forbidden (admissible i j f.before f.both)

  -- a run leads to one place
  leads_once : (c d : Control) → replay (machine p) run begun ≡ Some c → replay (machine p) run begun ≡ Some d → c ≡ d
  leads_once c d a b = same_Some c d (sym a ∙ b)

  never_over : (end : Control) → IsIncomplete p begun run → LeadsToEnd p begun run end → ⊥
  never_over end a b =
      let same = leads_once a.reached end a.runs b.complete.runs in
      let idle : is_enabled p a.reached a.someone ≡ false = ap (λ (c : Control). is_enabled p c a.someone) same ∙ b.complete.over a.someone in
      let able : is_enabled p a.reached a.someone ≡ true = a.enabled in
      absurd (cc)

  -- the first forbidden pair is one pair
  first_pair_once : (i j h k : ℕ) → IsNotAdmissible p begun run i j → IsNotAdmissible p begun run h k → judged.NotAdmissible i j ≡ judged.NotAdmissible h k
  first_pair_once i j h k a b =
      let second : j ≡ k = le_antisymm (a.first.least_second h k b.first.is) (b.first.least_second i j a.first.is) in
      let of_b : IsFirstForbidden (ForkedApart p) (acts (machine p) run begun) h j = subst (IsFirstForbidden (ForkedApart p) (acts (machine p) run begun) h)
      (sym second) b.first in
      let first : i ≡ h = le_antisymm (a.first.least_first h of_b.is) (of_b.least_first i a.first.is) in
      ap (λ x. judged.NotAdmissible x j) first ∙ ap (judged.NotAdmissible h) second

  same_judgement : (a b : Judged) → Judges p begun run a → Judges p begun run b → b ≡ a
  same_judgement (judged.NotRun i) (judged.NotRun k) a b = ap judged.NotRun (first_idle_once k i b a)
  same_judgement (judged.NotRun i) (judged.NotAdmissible h k) a b = absurd (never_stopped i b.reached a b.runs)
  same_judgement (judged.NotRun i) judged.Incomplete a b = absurd (never_stopped i b.reached a b.runs)
  same_judgement (judged.NotRun i) (judged.Ends end) a b = absurd (never_stopped i end a b.complete.runs)
  same_judgement (judged.NotAdmissible i j) (judged.NotRun k) a b = absurd (never_stopped k a.reached b a.runs)
  same_judgement (judged.NotAdmissible i j) (judged.NotAdmissible h k) a b = first_pair_once h k i j b a
  same_judgement (judged.NotAdmissible i j) judged.Incomplete a b = absurd (never_forbidden i j a b.admissible)
  same_judgement (judged.NotAdmissible i j) (judged.Ends end) a b = absurd (never_forbidden i j a b.admissible)
  same_judgement judged.Incomplete (judged.NotRun k) a b = absurd (never_stopped k a.reached b a.runs)
  same_judgement judged.Incomplete (judged.NotAdmissible h k) a b = absurd (never_forbidden h k b a.admissible)
  same_judgement judged.Incomplete judged.Incomplete a b = refl
  same_judgement judged.Incomplete (judged.Ends end) a b = absurd (never_over end a b)
  same_judgement (judged.Ends end) (judged.NotRun k) a b = absurd (never_stopped k end b a.complete.runs)
  same_judgement (judged.Ends end) (judged.NotAdmissible h k) a b = absurd (never_forbidden h k b a.admissible)
  same_judgement (judged.Ends end) judged.Incomplete a b = absurd (never_over end b a)
  same_judgement (judged.Ends end) (judged.Ends other) a b = ap judged.Ends (leads_once other end b.complete.runs a.complete.runs)

  -- a judgement that holds is the only one
  pub one_judgement : (answer : Judged) → Judges p begun run answer → IsJudgement p begun run answer
  one_judgement answer holds = record { holds = holds; alone = λ other also. same_judgement answer other holds also }
