-- A region comes to where something begins: which stages may be reached then.
use Rattle.std.proofs.Common.{◌≡◌, ℕ, ◌≤◌, ◌⊎◌, inl, inr, ⊎_elim, [], Contains, refl, sym, ap, subst, ◌∙◌, arith}
use Rattle.scl_graph_laws.proofs.Searching.{unlike}
use Rattle.core_charts.specs.Aborts.{has_aborts}
use Rattle.chart_machine.specs.declared.standing.Standing.{Standing}
use Rattle.chart_machine.specs.declared.standing.Standing.TheVariants as at
use Rattle.chart_machine.specs.declared.standing.Configuration.{Configuration}
use Rattle.chart_machine.specs.declared.table.Table.{Table}
use Rattle.chart_machine.specs.Table.{state_at}
use Rattle.chart_machine.specs.Turns.{standing_of, inside, LiesIn, itself, deeper}
use Rattle.chart_machine_laws.specs.Tree.{IsThere, around, holder}
use Rattle.abort_expansion_laws.specs.CoreRows.{own, IsState, Images}
use Rattle.abort_expansion_laws.specs.Related.{Related}
use Rattle.abort_expansion_laws.proofs.StageReached.{stage_of, Stage, one_at_least}
use Rattle.abort_expansion_laws.proofs.JustEntered.{EntryRows}
use Rattle.abort_expansion_laws.proofs.ChartEntered.{IsClosed, closed_ended, closed_trying, closed_entering, Stood, stood_closed, stood_open, ChartReach}
use Rattle.abort_expansion_laws.proofs.ChartEntered.{was_entered, none_there}
use Rattle.abort_expansion_laws.proofs.Pending.{IsBusy, starts, opens, joins_then, Reached, is_trying, quiet, never_settled, never_joined}
use Rattle.abort_expansion_laws.proofs.Arrives.{Arrives}
use Rattle.abort_expansion_laws.proofs.ArrivedWaits.{lies_or_not, core_same_at, behind_same}
use Rattle.abort_expansion_laws.proofs.ArrivedSound.{around_region, chart_in}
use Rattle.abort_expansion_laws.proofs.StagesEntered.{reached_then}

closed_stage : (k : Table) (c : Configuration) (x : Standing) → IsClosed x → 1 ≤ stage_of k c x
closed_stage k c _ closed_ended = omega arith
closed_stage k c _ (closed_trying s tests) = omega arith
closed_stage k c _ (closed_entering s tests) = omega arith

module _ (k core : Table) (i : Images) (more : EntryRows k core i) (holds_there : (s : ℕ) → IsState k s → IsThere k (holder k s))
    (alone : (v : ℕ) → (state_at core v).regions ≡ [] → inside core v ≡ [])
    (c d : Configuration) (related : Related k core i c d) (r : ℕ) (next core_next : Configuration)
    (arrives : Arrives k core i more c d r next core_next) where
  same : (q : ℕ) → ¬ LiesIn k q r → standing_of next q ≡ standing_of c q
  same q out = arrives.unchanged q out

  core_same : (q : ℕ) → ¬ LiesIn k q r → standing_of core_next (i.thread_of q) ≡ standing_of d (i.thread_of q)
  core_same q out = core_same_at k core i more holds_there alone c d related r next core_next arrives q out

  in_or_out : (q : ℕ) → LiesIn k q r ⊎ ¬ LiesIn k q r
  in_or_out q = lies_or_not k core i more holds_there alone c d related r next core_next arrives q

  -- ---- who lies in the region was at stage 1, and is at 1 or above

  low_in : (q : ℕ) → LiesIn k q r → stage_of k c (standing_of c q) ≤ 1
  low_in q (itself is) = subst (λ z. stage_of k c (standing_of c z) ≤ 1) (sym is) arrives.low
  low_in q (deeper y inner its) = let one : stage_of k c (standing_of c q) ≡ 1 = ap (stage_of k c) (arrives.none q y inner its) in omega (one, arith)

  stood_high : (q : ℕ) → Stood k core i more (standing_of next) q → 1 ≤ stage_of k next (standing_of next q)
  stood_high q (stood_closed y stands_so closed none) = subst (λ z. 1 ≤ stage_of k next z) (sym stands_so) (closed_stage k next y closed)
  stood_high q (stood_open x here held stands_so fresh others) =
      subst (λ z. 1 ≤ stage_of k next z) (sym stands_so) (one_at_least (has_aborts (own k x)) _ _)

  high_in : (q : ℕ) → LiesIn k q r → 1 ≤ stage_of k next (standing_of next q)
  high_in q lies = by_reach (chart_in k core i more holds_there alone c d related r next core_next arrives q lies)
    where
      by_reach : ChartReach k core i more (standing_of next) q → 1 ≤ stage_of k next (standing_of next q)
      by_reach (was_entered l) = stood_high q l.stood
      by_reach (none_there none) = subst (λ z. 1 ≤ stage_of k next z) (sym (none q (itself refl))) (omega arith)

  -- ---- who has still to step lies in it

  never_busy : (q u : ℕ) → IsThere k q → ¬ LiesIn k q r → IsBusy k core i next core_next q u → ⊥
  never_busy q u there out (starts a) =
      let over : standing_of c q ≡ at.Ended = sym (same q out) ∙ a.over_in_chart in
      unlike (is_trying (standing_of d (i.thread_of q))) (ap is_trying (sym (core_same q out) ∙ a.counting))
      (quiet k core i c q (standing_of c q) (standing_of d (i.thread_of q)) (related.regions q there) over)
  never_busy q u there out (opens its a) =
      let out_u : ¬ LiesIn k (holder k u) r = λ lies. out (subst (λ z. LiesIn k z r) its lies) in
      never_settled k core i c d u (holder k u) (standing_of c (holder k u)) (standing_of d (i.thread_of (holder k u))) a.tests (i.entry_of u) _ a.prepared
      (related.regions (holder k u) (holds_there u a.there)) (sym (same (holder k u) out_u) ∙ a.open_in_chart)
      (sym (core_same (holder k u) out_u) ∙ a.preparing)
  never_busy q u there out (joins_then its a) =
      let out_u : ¬ LiesIn k (holder k u) r = λ lies. out (subst (λ z. LiesIn k z r) its lies) in
      never_joined k core i c u (holder k u) (standing_of c (holder k u)) (standing_of d (i.thread_of (holder k u))) a.tests _
      (sym (behind_same k core i more holds_there alone c d related r next core_next arrives u out_u) ∙ a.over)
      (related.regions (holder k u) (holds_there u a.there)) (sym (same (holder k u) out_u) ∙ a.open_in_chart)
      (sym (core_same (holder k u) out_u) ∙ a.forked)

  inner_around : (q u : ℕ) → LiesIn k q r → Contains (around k q) u → ¬ LiesIn k (holder k u) r → Contains (around k r) u
  inner_around q u lies inner out =
      around_region k core i more holds_there alone c d related r next core_next arrives q u lies inner out

  busy_around : (q u o : ℕ) → IsThere k q → IsBusy k core i next core_next q u → Contains (around k q) o →
      Contains (around k r) o ⊎ LiesIn k (holder k o) r
  busy_around q u o there busy inner =
      ⊎_elim (λ lies. inr lies)
      (λ out.
      inl (inner_around q o (⊎_elim (λ lies. lies) (λ apart. absurd (never_busy q u there apart busy)) (in_or_out q)) inner out))
      (in_or_out (holder k o))

  pub arrived_stages : (h n : ℕ) → Stage k i.thread_of c d h n → Reached k core i next core_next h n
  arrived_stages h n before =
      reached_then k core i more.tree c d related r arrives.present arrives.works (λ q. LiesIn k q r) in_or_out inner_around next same core_next low_in high_in
      (λ q o inner. holds_there o (more.super_around q o inner).0) busy_around h n before
