-- A region that ended on entry: its thread leaves the new initial state, and counts down.
use Rattle.std.proofs.Common.{◌≡◌, ◌≢◌, ℕ, zero, suc, ◌<◌, ◌≤◌, ◌⊎◌, Bool, true, false, Some, List, [], ◌∷◌, ◌++◌, length, slice_get, slice_set, Contains}
use Rattle.std.proofs.Common.{refl, sym, ap, subst, ◌∙◌, arith}
use Rattle.std.specs.Prelude.{option_map}
use Rattle.sc_values.specs.declared.value.Value.{Value}
use Rattle.sc_values.specs.declared.value.Kind.TheVariants as kind_is
use Rattle.sc_graph.specs.Steps.{takes_kind}
use Rattle.core_charts.specs.declared.region.Transition.{Transition}
use Rattle.chart_machine.specs.declared.standing.Standing.TheVariants as at
use Rattle.chart_machine.specs.declared.standing.Configuration.{Configuration}
use Rattle.chart_machine.specs.declared.table.Table.{Table}
use Rattle.chart_machine.specs.Table.{state_at}
use Rattle.chart_machine.specs.Turns.{standing_of}
use Rattle.abort_expansion.specs.Flags.{has_join}
use Rattle.chart_machine_laws.proofs.LyingIn.{around, holder}
use Rattle.abort_expansion_laws.proofs.TablesCorrespond.{IsThere}
use Rattle.abort_expansion_laws.specs.CoreRows.{own, Images, CoreRows}
use Rattle.abort_expansion_laws.specs.Related.{Stands}
use Rattle.abort_expansion_laws.proofs.Pending.{IsOpening, IsStarting, IsJoining, Waits, settled, opening, starting, joining, ending, hidden, Covered}
use Rattle.abort_expansion_laws.proofs.Pending.{opening_kept, starting_kept, joining_kept}

-- a region is among these once
abbrev pub Once : ℕ → List ℕ → Type 0
Once r [] = ⊥
Once r (x ∷ xs) = ((x ≡ r) × ¬ Contains xs r) ⊎ ((x ≢ r) × Once r xs)

-- what more is asked of the rows, for counters
pub record CounterRows (k core : Table) (i : Images) (rows : CoreRows k core i) (counts : ℕ → Bool) (written_at : ℕ → ℕ) : Type 0 where
  pub counter_counts : (s x : ℕ) → (i.flags_of s).counter ≡ Some x → counts x ≡ true
  pub strong_not : (s x : ℕ) → (i.flags_of s).strong ≡ Some x → counts x ≡ false
  pub weak_not : (s x : ℕ) → (i.flags_of s).weak ≡ Some x → counts x ≡ false
  pub counter_of : (s x : ℕ) → (i.flags_of s).counter ≡ Some x → rows.of_flag x ≡ s
  pub counter_at : (s x : ℕ) → (i.flags_of s).counter ≡ Some x → written_at x ≡ 1
  pub counter_kind : (s x : ℕ) → (i.flags_of s).counter ≡ Some x → takes_kind (option_map (λ z. z.kind) (slice_get core.variables x)) kind_is.Int ≡ true
  pub counter_there : (s x : ℕ) → (i.flags_of s).counter ≡ Some x → x < length core.variables
  pub counter_joins : (s x : ℕ) → (i.flags_of s).counter ≡ Some x → has_join (own k s) ≡ true
  -- a counter holds the number of regions
  pub few : (s : ℕ) → length (state_at k s).regions < 2147483648
  pub once : (r s : ℕ) (ss : List ℕ) → IsThere k r → around k r ≡ s ∷ ss → Once r (state_at k s).regions

pub set_behind : (xs ys : List Value) (j : ℕ) (v : Value) → length xs ≤ j → (zs : List Value) × (slice_set (xs ++ ys) j v ≡ xs ++ zs)
set_behind [] ys j v le = (slice_set ys j v, refl)
set_behind (w ∷ xs) ys zero v le = absurd (omega (le, arith))
set_behind (w ∷ xs) ys (suc j) v le = let rest = set_behind xs ys j v (omega (le, arith)) in (rest.0, ap (λ zs. w ∷ zs) rest.1)

-- ---- one thread steps, whose region is within nothing

module _ (k core : Table) (i : Images) (rows : CoreRows k core i) (c d e : Configuration) (r : ℕ)
    (same : (t : ℕ) → t ≢ i.thread_of r → standing_of e t ≡ standing_of d t) where
  other_thread : (q : ℕ) → q ≢ r → standing_of e (i.thread_of q) ≡ standing_of d (i.thread_of q)
  other_thread q ne = same (i.thread_of q) (λ f. ne (rows.region_once q r f))

  not_here : (s : ℕ) (tests : List Transition) → standing_of c r ≡ at.Ended → standing_of c (holder k s) ≡ at.Within s tests → holder k s ≢ r
  not_here s tests over open_there f = let wrong : at.Within s tests ≡ at.Ended = sym open_there ∙ (ap (standing_of c) f ∙ over) in absurd cc

  pub opening_on : standing_of c r ≡ at.Ended → (s : ℕ) → IsOpening k core i c d s → IsOpening k core i c e s
  opening_on over s o =
      opening_kept k core i c d e s o (other_thread (holder k s) (not_here s o.tests over o.open_in_chart) ∙ o.preparing)

  pub joining_on : standing_of c r ≡ at.Ended → (s : ℕ) → IsJoining k core i c d s → IsJoining k core i c e s
  joining_on over s o =
      joining_kept k core i c d e s o (other_thread (holder k s) (not_here s o.tests over o.open_in_chart) ∙ o.forked)

  pub starting_on : (q s : ℕ) → q ≢ r → IsStarting k core i c d q s → IsStarting k core i c e q s
  starting_on q s ne o =
      starting_kept k core i c d e q s o (other_thread q ne ∙ o.counting)

  pub covered_on : standing_of c r ≡ at.Ended → (s : ℕ) → Covered k core i c d s → Covered k core i c e s
  covered_on over s covered = (covered.0, opening_on over covered.0 covered.1, covered.2)

  pub waits_on : standing_of c r ≡ at.Ended → (q : ℕ) → q ≢ r → Waits k core i c d q → Waits k core i c e q
  waits_on over q ne (settled stands) = settled (subst (Stands k core i c q (standing_of c q)) (sym (other_thread q ne)) stands)
  waits_on over q ne (opening s held o) = opening s held (opening_on over s o)
  waits_on over q ne (starting s o) = starting s (starting_on q s ne o)
  waits_on over q ne (joining s held o) = joining s held (joining_on over s o)
  waits_on over q ne (ending s ss direct o ended_too idle) = ending s ss direct (joining_on over s o) ended_too (other_thread q ne ∙ idle)
  waits_on over q ne (hidden s inner o out) = hidden s inner (opening_on over s o) (other_thread q ne ∙ out)
