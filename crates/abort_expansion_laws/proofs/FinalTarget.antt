-- A transition enters a final state: its region ends, and so does its thread; nobody else moves, and the chart is still sound.
use Rattle.std.proofs.Common.{◌≡◌, ◌≢◌, ℕ, suc, ⊎_elim, true, false, List, [], ◌∷◌, length, slice_set, refl, sym, ap, subst, ◌∙◌, arith}
use Rattle.sc_values.specs.declared.value.Value.{Value}
use Rattle.scl_graph_laws.proofs.Searching.{unlike}
use Rattle.core_charts.specs.declared.region.Effect.{Effect}
use Rattle.core_charts.specs.declared.region.Transition.{Transition}
use Rattle.core_charts.specs.Tests.{at_once, first_closing_tests}
use Rattle.chart_machine.specs.declared.standing.Standing.{Standing}
use Rattle.chart_machine.specs.declared.standing.Standing.TheVariants as at
use Rattle.chart_machine.specs.declared.standing.Move.{Move}
use Rattle.chart_machine.specs.declared.standing.Configuration.{Configuration}
use Rattle.chart_machine.specs.declared.table.Table.{Table}
use Rattle.chart_machine.specs.Table.{state_at}
use Rattle.chart_machine.specs.Turns.{standing_of, has_ended, guards as has_to_guard, is_guarded}
use Rattle.chart_machine.specs.Steps.{to, moved, state_in}
use Rattle.tick_laws.proofs.Lists.{same_or_not}
use Rattle.chart_machine_laws.specs.Tree.{IsThere, holder}
use Rattle.chart_lowering_laws.proofs.Entering.{moved_length}
use Rattle.abort_expansion_laws.specs.CoreRows.{own, is_final, Images, ends}
use Rattle.abort_expansion_laws.specs.Related.{Related, IsInside, guarded, open_inside, IsCalm, calm_ended}
use Rattle.abort_expansion_laws.proofs.Unchanged.{stands_same, stands_other}
use Rattle.abort_expansion_laws.proofs.KnownVariables.{present_there}
use Rattle.abort_expansion_laws.proofs.EffectFollowed.{IsActing, acting_back}
use Rattle.abort_expansion_laws.proofs.Owed.{chart_enters, core_enters}
use Rattle.abort_expansion_laws.proofs.StateEntry.{Entry, entry_ends, entry_tries, entry_guards, entry_opens}
use Rattle.abort_expansion_laws.proofs.InitialPairs.{held_there}
use Rattle.abort_expansion_laws.proofs.JustEntered.{EntryRows}
use Rattle.abort_expansion_laws.proofs.Pending.{Sound}

-- moves that begin with one that does not end do not end the region
goes_first : (m : Move) (ms : List Move) → has_ended m.standing ≡ false → ends (m ∷ ms) ≡ false
goes_first m [] e = e
goes_first m (n ∷ ms) e = refl

module _ (k core : Table) (i : Images) (more : EntryRows k core i) (c d : Configuration) (related : Related k core i c d) (r s p : ℕ) (e : Effect)
    (stands : standing_of c r ≡ at.Acting s (e ∷ []) p) (values : List Value) (final : is_final k (state_in k r p) ≡ true) where
  abbrev x : ℕ
  x = state_in k r p

  abbrev pub next : Configuration
  next = chart_enters k core i c r p

  abbrev pub core_next : Configuration
  core_next = core_enters k core i d values r p

  pub was_there : standing_of c r ≢ at.Outside
  was_there w = let wrong : at.Acting s (e ∷ []) p ≡ at.Outside = sym stands ∙ w in absurd cc

  pub there : IsThere k r
  there = present_there k core i c d related r was_there

  acts : IsActing k i r p (e ∷ []) (standing_of d (i.thread_of r))
  acts = acting_back k core i c r (standing_of c r) (standing_of d (i.thread_of r)) (related.regions r there) s p (e ∷ []) stands

  held : holder k x ≡ r
  held = (more.rows.region r there).holds p acts.there

  pub thread_there : IsThere core (i.thread_of r)
  thread_there = (more.rows.region r there).there

  -- ---- the region ends, and its thread

  ends_so : (state_at k x).entered ≡ to (holder k x) at.Ended ∷ []
  ends_so = by_entry (more.entries x (held_there k x r held there))
    where
      by_entry : Entry k x → (state_at k x).entered ≡ to (holder k x) at.Ended ∷ []
      by_entry (entry_ends w) = w
      by_entry (entry_tries none w) =
          absurd (unlike (is_final k x) final (ap ends w ∙ goes_first (to (holder k x) (at.Trying x (at_once (own k x)))) [] refl))
      by_entry (entry_guards t tests some strong w) =
          absurd (unlike (is_final k x) final (ap ends w ∙ goes_first (to (holder k x) (at.Entering x (t ∷ tests))) [] refl))
      by_entry (entry_opens some strong w) =
          absurd (unlike (is_final k x) final
          (ap ends w ∙ goes_first (to (holder k x) (at.Within x (first_closing_tests (own k x)))) (state_at k x).opened refl))

  chart_is : next.regions ≡ slice_set c.regions r at.Ended
  chart_is = ap (λ ms. moved ms c.regions) (ends_so ∙ ap (λ q. to q at.Ended ∷ []) held)

  core_is : core_next.regions ≡ slice_set d.regions (i.thread_of r) at.Ended
  core_is = ap (λ ms. moved ms d.regions) ((more.rows.final x final).ended ∙ ap (λ q. to (i.thread_of q) at.Ended ∷ []) held)

  pub here : standing_of next r ≡ at.Ended
  here = stands_same c next r at.Ended chart_is (let lt = there.1 in let size = related.chart_regions in omega (lt, size, arith))

  pub elsewhere : (q : ℕ) → q ≢ r → standing_of next q ≡ standing_of c q
  elsewhere q ne = stands_other c next r q at.Ended chart_is ne

  pub core_here : standing_of core_next (i.thread_of r) ≡ at.Ended
  core_here = stands_same d core_next (i.thread_of r) at.Ended core_is (let lt = thread_there.1 in let size = related.core_regions in omega (lt, size, arith))

  pub core_elsewhere : (t : ℕ) → t ≢ i.thread_of r → standing_of core_next t ≡ standing_of d t
  core_elsewhere t ne = stands_other d core_next (i.thread_of r) t at.Ended core_is ne

  pub thread_elsewhere : (q : ℕ) → q ≢ r → standing_of core_next (i.thread_of q) ≡ standing_of d (i.thread_of q)
  thread_elsewhere q ne = core_elsewhere (i.thread_of q) (λ w. ne (more.rows.region_once q r w))

  pub core_size : length core_next.regions ≡ suc (length core.regions)
  core_size = moved_length (state_at core (i.entry_of x)).entered d.regions ∙ related.core_regions

  -- ---- it is within nothing, before and after

  inside_other : (u : ℕ) → (z : Standing) → IsInside k core i u z → (z ≢ at.Ended) × (z ≢ at.Acting s (e ∷ []) p)
  inside_other u _ (guarded tests) = ((λ w. absurd cc), (λ w. absurd cc))
  inside_other u _ (open_inside tests) = ((λ w. absurd cc), (λ w. absurd cc))

  pub inside_elsewhere : (u : ℕ) → IsInside k core i u (standing_of next (holder k u)) → holder k u ≢ r
  inside_elsewhere u inner its = (inside_other u (standing_of next (holder k u)) inner).0 (ap (standing_of next) its ∙ here)

  pub was_inside : (u : ℕ) → IsInside k core i u (standing_of next (holder k u)) → IsInside k core i u (standing_of c (holder k u))
  was_inside u inner = subst (IsInside k core i u) (elsewhere (holder k u) (inside_elsewhere u inner)) inner

  still_inside : (u : ℕ) → IsInside k core i u (standing_of c (holder k u)) → IsInside k core i u (standing_of next (holder k u))
  still_inside u inner =
      subst (IsInside k core i u)
      (sym (elsewhere (holder k u) (λ its. (inside_other u (standing_of c (holder k u)) inner).1 (ap (standing_of c) its ∙ stands)))) inner

  pub was_present : (q : ℕ) → standing_of next q ≢ at.Outside → standing_of c q ≢ at.Outside
  was_present q present =
      ⊎_elim (λ same w. was_there (ap (standing_of c) (sym same) ∙ w)) (λ ne w. present (elsewhere q ne ∙ w)) (same_or_not q r)

  is_present : (q : ℕ) → standing_of c q ≢ at.Outside → standing_of next q ≢ at.Outside
  is_present q present =
      ⊎_elim
      (λ same w.
      let wrong : at.Ended ≡ at.Outside = sym here ∙ (ap (standing_of next) (sym same) ∙ w) in absurd cc)
      (λ ne w. present (sym (elsewhere q ne) ∙ w)) (same_or_not q r)

  -- ---- nobody comes to guard

  pub guards_alike : (q : ℕ) → has_to_guard (standing_of next q) ≡ has_to_guard (standing_of c q)
  guards_alike q =
      ⊎_elim
      (λ same.
      ap (λ z. has_to_guard (standing_of next z)) same ∙
      (ap has_to_guard here ∙ sym (ap (λ z. has_to_guard (standing_of c z)) same ∙ ap has_to_guard stands)))
      (λ ne. ap has_to_guard (elsewhere q ne)) (same_or_not q r)

  pub guarded_alike : (zs : List ℕ) → is_guarded k next zs ≡ is_guarded k c zs
  guarded_alike [] = refl
  guarded_alike (z ∷ zs) = rw (guards_alike (holder k z), guarded_alike zs) refl

  -- ---- what is asked of the chart alone

  within_elsewhere : (u : ℕ) (tests : List Transition) → standing_of next (holder k u) ≡ at.Within u tests → holder k u ≢ r
  within_elsewhere u tests is its = let wrong : at.Within u tests ≡ at.Ended = sym is ∙ (ap (standing_of next) its ∙ here) in absurd cc

  calm_now : (q : ℕ) → IsCalm (standing_of c q) → IsCalm (standing_of next q)
  calm_now q calm =
      ⊎_elim (λ same. subst IsCalm (sym (ap (standing_of next) same ∙ here)) calm_ended) (λ ne. subst IsCalm (sym (elsewhere q ne)) calm) (same_or_not q r)

  pub final_sound : Sound k core i next
  final_sound =
      record {
        chart_regions = moved_length (state_at k x).entered c.regions ∙ related.chart_regions;
        values = related.values;
        no_chart = elsewhere 0 (λ w. let lt = there.0 in absurd (omega (lt, w, arith))) ∙ related.no_chart;
        enclosed = λ q u q_there present inner. still_inside u (related.enclosed q u q_there (was_present q present) inner);
        opened = λ u q is inner child. is_present q (related.opened u q is (was_inside u inner) child);
        closes_last = λ u tests is. related.closes_last u tests (sym (elsewhere (holder k u) (within_elsewhere u tests is)) ∙ is);
        calm = λ q u q_there inner guards. calm_now q (related.calm q u q_there inner (sym (guards_alike (holder k u)) ∙ guards));
      }
