-- A transition enters a state that is not final: in its region, and in all that lies in it, everything waits as it should.
use Rattle.std.proofs.Common.{◌≡◌, ◌≢◌, ℕ, suc, ◌⊎◌, inl, inr, ⊎_elim, Bool, true, false, List, [], ◌∷◌, length, Contains, refl, sym, ap, subst}
use Rattle.std.proofs.Common.{◌∙◌, arith}
use Rattle.sc_values.specs.declared.value.Value.{Value}
use Rattle.scl_graph_laws.proofs.Searching.{unlike}
use Rattle.core_charts.specs.declared.region.Effect.{Effect}
use Rattle.core_charts.specs.declared.region.Transition.{Transition}
use Rattle.core_charts.specs.Aborts.{has_aborts}
use Rattle.core_charts.specs.Tests.{at_once, first_closing_tests}
use Rattle.chart_machine.specs.declared.standing.Standing.{Standing}
use Rattle.chart_machine.specs.declared.standing.Standing.TheVariants as at
use Rattle.chart_machine.specs.declared.standing.Configuration.{Configuration}
use Rattle.chart_machine.specs.declared.table.Table.{Table}
use Rattle.chart_machine.specs.Turns.{standing_of, has_ended}
use Rattle.chart_machine.specs.Steps.{state_in}
use Rattle.abort_expansion.specs.Superstates.{stays, is_prepared}
use Rattle.chart_machine_laws.specs.Tree.{IsThere, around, holder}
use Rattle.chart_machine_laws.proofs.LyingIn.{head_or_tail}
use Rattle.chart_machine_laws.proofs.ChartTables.{around_there}
use Rattle.abort_expansion_laws.specs.CoreRows.{own, IsState, is_final, IsSuper, Images, flags_around, ends}
use Rattle.abort_expansion_laws.specs.Related.{Related, Stands, outside, ended, left, trying, acting, entering, guarding, staying, within, behind, Watches}
use Rattle.abort_expansion_laws.specs.Related.{guards, waits, looks_strong, looks, elsewhere, IsInside, guarded, open_inside}
use Rattle.abort_expansion_laws.proofs.Unchanged.{nobody_lies}
use Rattle.abort_expansion_laws.proofs.KnownVariables.{present_there}
use Rattle.abort_expansion_laws.proofs.EffectFollowed.{IsActing, acting_back}
use Rattle.abort_expansion_laws.proofs.Owed.{chart_enters, core_enters}
use Rattle.abort_expansion_laws.proofs.StateEntry.{Entry, entry_ends, entry_tries, entry_guards, entry_opens}
use Rattle.abort_expansion_laws.proofs.FreshInside.{Begins, one_begins, begins_closed, begins_open}
use Rattle.abort_expansion_laws.proofs.InitialPairs.{held_there}
use Rattle.abort_expansion_laws.proofs.BeginningSorts.{comes_there, Sort, sort_of}
use Rattle.abort_expansion_laws.proofs.JustEntered.{EntryRows}
use Rattle.tick_laws.proofs.Lists.{contains_map}

module _ (k core : Table) (i : Images) (more : EntryRows k core i) (c d : Configuration) (related : Related k core i c d) where
  -- ---- who is nowhere in the chart, is nowhere in the core

  pub thread_out : (q : ℕ) (x y : Standing) → Stands k core i c q x y → x ≡ at.Outside → y ≡ at.Outside
  thread_out q _ _ outside e = refl
  thread_out q _ _ (ended inner) e = absurd cc
  thread_out q _ _ (left s ss round over) e = absurd cc
  thread_out q _ _ (trying s tests simple held) e = absurd cc
  thread_out q _ _ (acting s u p f effects lt) e = absurd cc
  thread_out q _ _ (entering s fork t tests super held leads) e = absurd cc
  thread_out q _ _ (guarding s join t tests has held leads) e = absurd cc
  thread_out q _ _ (staying s tests super held stay) e = absurd cc
  thread_out q _ _ (within s join tests super held apart still leads) e = absurd cc
  thread_out q _ _ (behind s tests super held over) e = absurd cc

  watcher_out : (o : ℕ) (x y : Standing) → Watches k core i o x y → ((tests : List Transition) → x ≢ at.Guarding o tests) →
      ((tests : List Transition) → x ≢ at.Within o tests) → y ≡ at.Outside
  watcher_out o _ _ (guards some among) not_guarding not_within = absurd (not_guarding _ refl)
  watcher_out o _ _ (looks_strong yet seen parted some among) not_guarding not_within = absurd (not_guarding _ refl)
  watcher_out o _ _ (waits some joins_left among ends) not_guarding not_within = absurd (not_within _ refl)
  watcher_out o _ _ (looks yet seen parted first some joins_left among ends) not_guarding not_within = absurd (not_within _ refl)
  watcher_out o _ _ (elsewhere x not_guarding not_within) never never_within = refl

  -- nobody lies in a region that is in no superstate
  module _ (r : ℕ) (alone : (s : ℕ) → holder k s ≡ r → IsInside k core i s (standing_of c r) → ⊥) where
    pub chart_none : (q s : ℕ) → Contains (around k q) s → holder k s ≡ r → standing_of c q ≡ at.Outside
    chart_none q s inner held = nobody_lies k core i c d related r alone q s (around_there k q s inner) inner held

    pub core_none : (t v : ℕ) → Contains (around core t) v → holder core v ≡ i.thread_of r → standing_of d t ≡ at.Outside
    core_none t v inner held = by_origin (more.rows.each t (around_there core t v inner))
      where
        -- v is the fork of a superstate around a region, which r holds
        fork_of : (q : ℕ) → Contains (around core (i.thread_of q)) v → (s : ℕ) × Contains (around k q) s × (holder k s ≡ r)
        fork_of q h =
            let u = contains_map i.main_of (around k q) v (subst (λ zs. Contains zs v) (more.rows.encloses q) h) in
            (u.0, u.1, more.rows.region_once (holder k u.0) r (sym (more.rows.held u.0) ∙ (ap (holder core) u.2 ∙ held)))

        thread_none : (q : ℕ) → IsThere k q → Contains (around core (i.thread_of q)) v → standing_of d (i.thread_of q) ≡ at.Outside
        thread_none q there h =
            let s = fork_of q h in
            thread_out q (standing_of c q) (standing_of d (i.thread_of q)) (related.regions q there) (chart_none q s.0 s.1 s.2)

        watcher_none : (o : ℕ) → IsState k o → has_aborts (own k o) ≡ true → Contains (around core (i.watcher_of o)) v →
            standing_of d (i.watcher_of o) ≡ at.Outside
        watcher_none o here has h =
            ⊎_elim
            (λ same.
            let own_holder : holder k o ≡ r = more.rows.region_once (holder k o) r (sym (more.rows.held o) ∙ (ap (holder core) same ∙ held)) in
            watcher_out o (standing_of c (holder k o)) (standing_of d (i.watcher_of o)) (related.watchers o here has)
            (λ tests e. alone o own_holder (subst (IsInside k core i o) (sym (ap (standing_of c) (sym own_holder) ∙ e)) (guarded tests)))
            (λ tests e. alone o own_holder (subst (IsInside k core i o) (sym (ap (standing_of c) (sym own_holder) ∙ e)) (open_inside tests))))
            (λ tail.
            let s = fork_of (holder k o) tail in
            let out = chart_none (holder k o) s.0 s.1 s.2 in
            watcher_out o (standing_of c (holder k o)) (standing_of d (i.watcher_of o)) (related.watchers o here has)
            (λ tests e. let wrong : at.Outside ≡ at.Guarding o tests = sym out ∙ e in absurd cc)
            (λ tests e. let wrong : at.Outside ≡ at.Within o tests = sym out ∙ e in absurd cc))
            (head_or_tail (i.main_of o) v (around core (i.thread_of (holder k o))) (subst (λ zs. Contains zs v) (more.rows.watcher o here has).encloses h))

        by_origin : ((q : ℕ) × IsThere k q × (t ≡ i.thread_of q)) ⊎ ((s : ℕ) × IsState k s × (has_aborts (own k s) ≡ true) × (t ≡ i.watcher_of s)) →
            standing_of d t ≡ at.Outside
        by_origin (inl q) =
            ap (standing_of d) q.2 ∙ thread_none q.0 q.1 (subst (λ z. Contains (around core z) v) q.2 inner)
        by_origin (inr s) =
            ap (standing_of d) s.3 ∙ watcher_none s.0 s.1 s.2 (subst (λ z. Contains (around core z) v) s.3 inner)

  -- ---- a state that is not final: what stands for it is held by the thread

  pub entry_held : (x : ℕ) → IsState k x → is_final k x ≡ false → holder core (i.entry_of x) ≡ i.thread_of (holder k x)
  entry_held x here open_ends = by_entry (more.entries x here)
    where
      of_super : IsSuper k x → holder core (i.entry_of x) ≡ i.thread_of (holder k x)
      of_super super = by_stay (stays (flags_around k core i (holder k x)) (own k x)) refl
          (is_prepared (flags_around k core i (holder k x)) (own k x)) refl
        where
          by_stay : (b : Bool) → stays (flags_around k core i (holder k x)) (own k x) ≡ b → (p : Bool) →
              is_prepared (flags_around k core i (holder k x)) (own k x) ≡ p → holder core (i.entry_of x) ≡ i.thread_of (holder k x)
          by_stay true stay p is = ap (holder core) (more.rows.staying x here super stay).entry ∙ more.rows.held x
          by_stay false apart true prepared = ap (λ z. z.holder) ((more.rows.split x here super apart).prepared prepared).2
          by_stay false apart false plain = ap (holder core) ((more.rows.split x here super apart).plain plain) ∙ more.rows.held x

      by_entry : Entry k x → holder core (i.entry_of x) ≡ i.thread_of (holder k x)
      by_entry (entry_ends e) =
          let wrong : true ≡ false = sym (ap ends e) ∙ open_ends in absurd cc
      by_entry (entry_tries none e) =
          ap (holder core) (more.rows.simple x (record { there = here; no_regions = none; not_final = open_ends })).entry ∙ more.rows.held x
      by_entry (entry_guards t tests some strong e) = of_super some
      by_entry (entry_opens some strong e) = of_super some

  -- ---- the target of a transition

  module _ (r s p : ℕ) (e : Effect) (stands : standing_of c r ≡ at.Acting s (e ∷ []) p) (values : List Value)
      (open_ends : is_final k (state_in k r p) ≡ false) where
    abbrev x : ℕ
    x = state_in k r p

    abbrev pub next : Configuration
    next = chart_enters k core i c r p

    abbrev pub core_next : Configuration
    core_next = core_enters k core i d values r p

    pub there : IsThere k r
    there = present_there k core i c d related r (λ w. let wrong : at.Acting s (e ∷ []) p ≡ at.Outside = sym stands ∙ w in absurd cc)

    acts : IsActing k i r p (e ∷ []) (standing_of d (i.thread_of r))
    acts = acting_back k core i c r (standing_of c r) (standing_of d (i.thread_of r)) (related.regions r there) s p (e ∷ []) stands

    pub held : holder k x ≡ r
    held = (more.rows.region r there).holds p acts.there

    pub here : IsState k x
    here = held_there k x r held there

    pub core_held : holder core (i.entry_of x) ≡ i.thread_of r
    core_held = entry_held x here open_ends ∙ ap i.thread_of held

    pub in_none : (u : ℕ) → holder k u ≡ r → IsInside k core i u (standing_of c r) → ⊥
    in_none u its inner = never (standing_of c r) inner stands
      where
        never : (z : Standing) → IsInside k core i u z → z ≡ at.Acting s (e ∷ []) p → ⊥
        never _ (guarded tests) w = absurd cc
        never _ (open_inside tests) w = absurd cc

    core_there : IsThere core (i.thread_of r)
    core_there = (more.rows.region r there).there

    pub chart_begins_there : Begins k (suc (length k.regions)) (standing_of next) x
    chart_begins_there =
        subst (λ z. Begins k z (standing_of next) x) related.chart_regions
        (one_begins k more.tree more.entries more.elsewhere x c.regions here
        (let lt = there.1 in let size = related.chart_regions in omega (lt, size, held, arith))
        (λ q y inner its. chart_none r in_none q y inner (its ∙ held)))

    pub core_is_state : IsState core (i.entry_of x)
    core_is_state = held_there core (i.entry_of x) (i.thread_of r) core_held core_there

    core_begins_there : Begins core (suc (length core.regions)) (standing_of core_next) (i.entry_of x)
    core_begins_there =
        subst (λ z. Begins core z (standing_of core_next) (i.entry_of x)) related.core_regions
        (one_begins core more.core_tree more.core_entries more.core_elsewhere (i.entry_of x) d.regions core_is_state
        (let lt = core_there.1 in let size = related.core_regions in omega (lt, size, core_held, arith))
        (λ t y inner its. core_none r in_none t y inner (its ∙ core_held)))

    -- the region has not ended
    pub target_goes : has_ended (standing_of next r) ≡ false
    target_goes = by_entry (more.entries x here)
      where
        from : (y : Standing) → standing_of next (holder k x) ≡ y → has_ended y ≡ false → has_ended (standing_of next r) ≡ false
        from y is goes = ap (λ q. has_ended (standing_of next q)) (sym held) ∙ (ap has_ended is ∙ goes)

        by_entry : Entry k x → has_ended (standing_of next r) ≡ false
        by_entry (entry_ends w) = let wrong : true ≡ false = sym (ap ends w) ∙ open_ends in absurd cc
        by_entry (entry_tries none w) =
            from (at.Trying x (at_once (own k x)))
            (begins_closed k (suc (length k.regions)) (standing_of next) x (at.Trying x (at_once (own k x))) chart_begins_there
            (λ u tests v. absurd cc) w).0 refl
        by_entry (entry_guards t tests some strong w) =
            from (at.Entering x (t ∷ tests))
            (begins_closed k (suc (length k.regions)) (standing_of next) x (at.Entering x (t ∷ tests)) chart_begins_there (λ u others v. absurd cc) w).0 refl
        by_entry (entry_opens some strong w) =
            from (at.Within x (first_closing_tests (own k x)))
            (begins_open k (suc (length k.regions)) (standing_of next) x (first_closing_tests (own k x)) chart_begins_there w).0 refl

    pub target_sort : Sort k core i more.rows (suc (length k.regions)) (suc (length core.regions)) (standing_of next) (standing_of core_next) r
    target_sort =
        subst (Sort k core i more.rows (suc (length k.regions)) (suc (length core.regions)) (standing_of next) (standing_of core_next)) held
        (sort_of k core i more.rows (suc (length k.regions)) (suc (length core.regions)) (standing_of next) (standing_of core_next) x (i.entry_of x) here
        (entry_held x here open_ends) (comes_there refl (λ final. absurd (unlike (is_final k x) final open_ends))) chart_begins_there core_begins_there
        (more.entries x here))
