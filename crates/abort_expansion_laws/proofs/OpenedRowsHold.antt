-- What the moves of a fork make of its inside, of any tables in which regions and their threads begin alike.
use Rattle.std.proofs.Common.{◌≡◌, ℕ, suc, ◌+◌, ◌⊎◌, inl, inr, ⊎_elim, Bool, true, false, not, ◌||◌, Some, None, List, [], ◌∷◌, length, Contains}
use Rattle.std.proofs.Common.{refl, sym, ap, subst, ◌∙◌, arith}
use Rattle.core_charts.specs.Aborts.{has_aborts}
use Rattle.core_charts.specs.Tests.{first_closing_tests}
use Rattle.chart_machine.specs.declared.standing.Standing.TheVariants as at
use Rattle.chart_machine.specs.declared.standing.Configuration.{Configuration}
use Rattle.chart_machine.specs.declared.table.Table.{Table}
use Rattle.chart_machine.specs.Table.{state_at}
use Rattle.chart_machine.specs.Turns.{standing_of, has_ended, inside}
use Rattle.abort_expansion.specs.Flags.{has_join}
use Rattle.abort_expansion.specs.Superstates.{is_prepared}
use Rattle.chart_machine_laws.specs.Tree.{IsThere, around, holder}
use Rattle.chart_machine_laws.proofs.LyingIn.{none_in, head_in, tail_in, head_or_tail, around_around}
use Rattle.chart_machine_laws.proofs.ChartTables.{around_there}
use Rattle.abort_expansion_laws.specs.CoreRows.{own, IsState, IsSuper, Images, flags_around, counter_over}
use Rattle.abort_expansion_laws.specs.Related.{Watches}
use Rattle.abort_expansion_laws.proofs.InsideLeaves.{AloneRows}
use Rattle.abort_expansion_laws.proofs.TickStarts.{StartRows}
use Rattle.abort_expansion_laws.proofs.Pending.{goes_in, still_going}
use Rattle.abort_expansion_laws.proofs.OpenedRows.{Opens, OpenedRows}
use Rattle.abort_expansion_laws.proofs.InitialPairs.{watcher_stands}
use Rattle.abort_expansion_laws.proofs.FreshInside.{Fresh, moved_alike}
use Rattle.abort_expansion_laws.proofs.BeginningSorts.{Sort, sort_ends, sort_counts, sort_tries, sort_guards, sort_prepares, sort_opens}
use Rattle.abort_expansion_laws.proofs.JustEntered.{EntryRows, JustOpen, Live, Reach, live, opened_both, reach}
use Rattle.abort_expansion_laws.proofs.EnteredWaits.{entered_waits}
use Rattle.abort_expansion_laws.proofs.EnteredMonitors.{Unflagged, entered_watched, entered_flags, entered_covered}
use Rattle.abort_expansion_laws.proofs.MonitorEntered.{monitor_entered}
use Rattle.abort_expansion_laws.proofs.EnteredReady.{opened_later, over_now}
use Rattle.abort_expansion_laws.proofs.AreaReached.{Above}

module _ (k core : Table) (i : Images) (more : EntryRows k core i) (lone : AloneRows k core i) (start_rows : StartRows k core i more.rows)
    (alone : (v : ℕ) → (state_at core v).regions ≡ [] → inside core v ≡ [])
    (counter_joins : (s x : ℕ) → (i.flags_of s).counter ≡ Some x → has_join (own k s) ≡ true)
    (unflagged : (u : ℕ) → IsSuper k u → is_prepared (flags_around k core i (holder k u)) (own k u) ≡ false → Unflagged k core i u)
    (super_of : (o : ℕ) → IsState k o → has_aborts (own k o) ≡ true → IsSuper k o) where
  module _ (c d e : Configuration) (s : ℕ) (o : Opens k core i c d e s) where
    abbrev Reached : ℕ → Type 0
    Reached q = Reach k core i more c e q

    fresh : Fresh k (suc (length k.regions)) (standing_of c) s
    fresh zs size none q inner = o.fresh zs (size ∙ sym o.chart_size) none q inner

    core_fresh : Fresh core (suc (length core.regions)) (standing_of e) (i.main_of s)
    core_fresh zs size none t inner =
        o.forked t inner ∙
        moved_alike (state_at core (i.main_of s)).opened d.regions zs t (o.core_size ∙ sym size) (o.empty t inner ∙ sym (none t inner))

    just_open : JustOpen k core i more c e s
    just_open = record { tests = o.tests; open_in_chart = o.open_in_chart; forked = o.in_fork }

    child_lives : (q : ℕ) (vs : List ℕ) → IsThere k q → around k q ≡ s ∷ vs → Live k core i more c e q
    child_lives q vs there round = opened_both k core i more c e q s vs there round core_fresh fresh just_open o.free

    begins : (q : ℕ) → IsThere k q → Contains (around k q) s → Reached q ⊎ Above k (λ p. Contains (around k p) s) q
    begins q there inner = by_round (around k q) refl
      where
        by_round : (zs : List ℕ) → around k q ≡ zs → Reached q ⊎ Above k (λ p. Contains (around k p) s) q
        by_round [] round = absurd (none_in s (subst (λ zs. Contains zs s) round inner))
        by_round (v ∷ vs) round =
            ⊎_elim
            (λ same. inl (live (child_lives q vs there (round ∙ ap (λ z. z ∷ vs) same))))
            (λ tail.
            let up : Contains (around k (holder k v)) s = subst (λ zs. Contains zs s) (more.tree.nested.upward q v vs round) tail in
            inr (record { next = v; rest = vs; round = round; there = around_there k (holder k v) s up; inner = up }))
            (head_or_tail v s vs (subst (λ zs. Contains zs s) round inner))

    reached : (q : ℕ) → IsThere k q → Contains (around k q) s → Reached q
    reached q there inner = reach k core i more c e (λ p. Contains (around k p) s) begins q there inner

    reached_around : (u : ℕ) → Contains (around k (holder k u)) s → Reached (holder k u)
    reached_around u inner = reached (holder k u) (around_there k (holder k u) s inner) inner

    -- ---- the monitor of the superstate itself

    own_watched : has_aborts (own k s) ≡ true → Watches k core i s (standing_of c (holder k s)) (standing_of e (i.watcher_of s))
    own_watched has =
        let super = super_of s o.there has in
        let stands = watcher_stands k core i more.rows more.tree more.core_tree more.entries more.core_entries more.elsewhere more.core_elsewhere
        (standing_of c) (standing_of e) s o.there super (more.alike s o.there super) fresh core_fresh has in
        subst (λ x. Watches k core i s x (standing_of e (i.watcher_of s))) (sym (o.open_in_chart ∙ ap (at.Within s) o.untested))
        (subst (Watches k core i s (at.Within s (first_closing_tests (own k s)))) (sym stands)
        (monitor_entered k core i more.rows lone more.tree.nested start_rows s o.there has))

    -- ---- who counts down

    goes : (x r : ℕ) → (i.flags_of s).counter ≡ Some x → Contains (state_at k s).regions r → goes_in k core i c e r ≡ true
    goes x r counter child = by_sort (child_lives r (around k (holder k s)) there direct).sort
      where
        direct : around k r ≡ s ∷ around k (holder k s)
        direct = more.tree.children s r child

        inner : Contains (around k r) s
        inner = subst (λ zs. Contains zs s) (sym direct) (head_in s (around k (holder k s)))

        there : IsThere k r
        there = around_there k r s inner

        open_now : (z : Bool) → (not false || z) ≡ true
        open_now z = refl

        counted : (z : Bool) → (not z || true) ≡ true
        counted true = refl
        counted false = refl

        by_sort : Sort k core i more.rows (suc (length k.regions)) (suc (length core.regions)) (standing_of c) (standing_of e) r →
            goes_in k core i c e r ≡ true
        by_sort (sort_ends over none core_none uncounted core_over) =
            let its : None ≡ Some x = sym uncounted ∙ (ap (counter_over k core i) direct ∙ counter) in absurd cc
        by_sort (sort_counts first place other over none core_none counts bare leads waiting) = rw (waiting) (counted (has_ended (standing_of c r)))
        by_sort (sort_tries y simple held stands none core_none core_stands) = rw (stands) refl
        by_sort (sort_guards y fork t tests here super held prepared stands none core_none leads core_stands) = rw (stands) refl
        by_sort (sort_prepares y fork here super held apart prepared stands young others core_none leads core_stands) = rw (stands) refl
        by_sort (sort_opens y core_tests here super held plain stands young others core_stands core_young core_others stay_tests split_tests) =
            rw (stands) refl

    all_go : (x : ℕ) → (i.flags_of s).counter ≡ Some x → (rs : List ℕ) → ((r : ℕ) → Contains rs r → Contains (state_at k s).regions r) →
        still_going k core i c e rs ≡ length rs
    all_go x counter [] among = refl
    all_go x counter (r ∷ rs) among =
        rw (goes x r counter (among r (head_in r rs)), all_go x counter rs (λ q h. among q (tail_in r q rs h))) (one_more (length rs))
      where
        one_more : (n : ℕ) → 1 + n ≡ suc n
        one_more n = omega arith

  pub opened_rows : OpenedRows k core i
  opened_rows =
      record {
        waits = λ c d e s o q there inner. entered_waits k core i more c e alone q (reached c d e s o q there inner);
        watchers = λ c d e s o u here has which.
            ⊎_elim
            (λ same. inl (subst (λ z. Watches k core i z (standing_of c (holder k z)) (standing_of e (i.watcher_of z))) (sym same)
            (own_watched c d e s o (subst (λ z. has_aborts (own k z) ≡ true) same has))))
            (λ inner. entered_watched k core i more c e u here has (reached_around c d e s o u inner)) which;
        flags = λ c d e s o u here inside_u inner.
            entered_flags k core i more c e unflagged u (standing_of c (holder k u)) refl inside_u (reached_around c d e s o u inner);
        all_go = λ c d e s x o counter. all_go c d e s o x counter (state_at k s).regions (λ r h. h);
        within = λ c d e s o u a inner. opened_later k core i more c e o.chart_size u a (reached_around c d e s o u inner);
        covered = λ c d e s o u has inner inside_u.
            entered_covered k core i more c e u has (standing_of c (holder k u)) refl inside_u (reached_around c d e s o u inner);
        joinable = λ c d e s o u a inner.
            over_now k core i more c e counter_joins u a (reached_around c d e s o u inner)
            (λ q there in_u. reached c d e s o q there (around_around k more.tree.nested (around k q) q u s refl in_u inner));
      }
