-- Where something was just entered: each region in it stands with its thread, is hidden behind a preparation, or nobody is there.
use Rattle.std.proofs.Common.{◌≡◌, ◌≢◌, ℕ, suc, ◌⊎◌, ⊎_elim, true, false, None, List, [], ◌∷◌, length, Contains}
use Rattle.std.proofs.Common.{refl, sym, ap, subst, ◌∙◌}
use Rattle.core_charts.specs.declared.region.Transition.{Transition}
use Rattle.core_charts.specs.Tests.{first_closing_tests}
use Rattle.chart_machine.specs.declared.standing.Standing.{Standing}
use Rattle.chart_machine.specs.declared.standing.Standing.TheVariants as at
use Rattle.chart_machine.specs.declared.standing.Configuration.{Configuration}
use Rattle.chart_machine.specs.declared.table.Table.{Table}
use Rattle.chart_machine.specs.Table.{state_at}
use Rattle.chart_machine.specs.Turns.{standing_of, guards, is_guarded, LiesIn, deeper}
use Rattle.chart_machine.specs.Steps.{moved, state_in}
use Rattle.abort_expansion.specs.Transitions.{go}
use Rattle.abort_expansion.specs.Superstates.{stays, is_prepared, resets}
use Rattle.tick_laws.proofs.Lists.{same_or_not}
use Rattle.chart_machine_laws.specs.Tree.{IsTree, IsThere, around, holder}
use Rattle.chart_machine_laws.proofs.LyingIn.{head_in, tail_in, lies_in_outer, around_outer}
use Rattle.abort_expansion_laws.specs.CoreRows.{own, IsState, IsSuper, joins, Images, CoreRows, flags_around}
use Rattle.abort_expansion_laws.proofs.Leaving.{at_number}
use Rattle.abort_expansion_laws.proofs.StartingRegions.{Once}
use Rattle.abort_expansion_laws.proofs.Pending.{IsOpening, IsEmpty}
use Rattle.abort_expansion_laws.proofs.EnteredAlike.{BeginsAs, OpensAlike}
use Rattle.abort_expansion_laws.proofs.StateEntry.{Entry}
use Rattle.abort_expansion_laws.proofs.FreshInside.{Fresh, NobodyIn, ElsewhereNobody}
use Rattle.abort_expansion_laws.proofs.InitialPairs.{both_begin, held_by}
use Rattle.abort_expansion_laws.proofs.BeginningSorts.{Sort, sort_ends, sort_counts, sort_tries, sort_guards, sort_prepares, sort_opens, sort_of, begins_so}
use Rattle.abort_expansion_laws.proofs.ThreadsAround.{thread_within}
use Rattle.abort_expansion_laws.proofs.AreaReached.{Above, area_reached}

-- what is asked of both tables, where something is entered
pub record EntryRows (k core : Table) (i : Images) : Type 0 where
  pub rows : CoreRows k core i
  pub tree : IsTree k
  pub core_tree : IsTree core
  pub entries : (x : ℕ) → IsState k x → Entry k x
  pub core_entries : (x : ℕ) → IsState core x → Entry core x
  pub elsewhere : (s t : ℕ) (zs : List Standing) → IsState k s → ¬ Contains (around k t) s →
      at_number (moved (state_at k s).opened zs) t ≡ at_number zs t
  pub core_elsewhere : (s t : ℕ) (zs : List Standing) → IsState core s → ¬ Contains (around core t) s →
      at_number (moved (state_at core s).opened zs) t ≡ at_number zs t
  pub alike : (s : ℕ) → IsState k s → IsSuper k s → OpensAlike k core i s
  pub once : (r s : ℕ) (ss : List ℕ) → IsThere k r → around k r ≡ s ∷ ss → Once r (state_at k s).regions
  pub super_around : (r s : ℕ) → Contains (around k r) s → IsState k s × IsSuper k s

module _ (k core : Table) (i : Images) (more : EntryRows k core i) (c e : Configuration) where
  abbrev f : ℕ → Standing
  f = standing_of c

  abbrev g : ℕ → Standing
  g = standing_of e

  abbrev n : ℕ
  n = suc (length k.regions)

  abbrev m : ℕ
  m = suc (length core.regions)

  -- superstate u is open, and so is its fork
  pub record JustOpen (u : ℕ) : Type 0 where
    pub tests : List Transition
    pub open_in_chart : standing_of c (holder k u) ≡ at.Within u tests
    pub forked : stays (flags_around k core i (holder k u)) (own k u) ≡ false →
        (join : ℕ) × (state_in core (i.thread_of (holder k u)) join ≡ i.behind_of u)
        × (standing_of e (i.thread_of (holder k u)) ≡ at.Within (i.main_of u) (joins join ∷ []))

  -- the region and its thread were entered
  pub record Live (q : ℕ) : Type 0 where
    pub sort : Sort k core i more.rows (suc (length k.regions)) (suc (length core.regions)) (standing_of c) (standing_of e) q
    pub free : is_guarded k c (around k q) ≡ false
    pub parent : (u : ℕ) (us : List ℕ) → around k q ≡ u ∷ us → JustOpen u

  pub data Reach (q : ℕ) : Type 0 where
    live : Live q → Reach q
    behind_preparation : (w : ℕ) → Contains (around k q) w → IsOpening k core i c e w → IsEmpty k core i c e w → Reach q
    nowhere : ((p : ℕ) → LiesIn k p q → standing_of c p ≡ at.Outside) →
        ((t : ℕ) → LiesIn core t (i.thread_of q) → standing_of e t ≡ at.Outside) → Reach q

  -- a superstate that is prepared, with the thread of its region in the preparation
  pub opening_of : (q x fork : ℕ) → IsState k x → IsSuper k x → holder k x ≡ q → stays (flags_around k core i q) (own k x) ≡ false →
      is_prepared (flags_around k core i q) (own k x) ≡ true → standing_of c q ≡ at.Within x (first_closing_tests (own k x)) →
      state_in core (i.thread_of q) fork ≡ i.main_of x →
      standing_of e (i.thread_of q) ≡ at.Trying (i.entry_of x) (go true None (resets (i.flags_of x) (length (state_at k x).regions)) fork ∷ []) →
      IsOpening k core i c e x
  opening_of q x fork here super held apart prepared stands leads preparing =
      record {
        tests = first_closing_tests (own k x);
        fork = fork;
        there = here;
        super = super;
        split = subst (λ z. stays (flags_around k core i z) (own k x) ≡ false) (sym held) apart;
        prepared = subst (λ z. is_prepared (flags_around k core i z) (own k x) ≡ true) (sym held) prepared;
        untested = refl;
        open_in_chart = ap (standing_of c) held ∙ stands;
        leads = ap (λ z. state_in core (i.thread_of z) fork) held ∙ leads;
        preparing = ap (λ z. standing_of e (i.thread_of z)) held ∙ preparing;
      }

  -- ---- one level deeper

  module _ (q u : ℕ) (us : List ℕ) (there : IsThere k q) (round : around k q ≡ u ∷ us) where
    outer : us ≡ around k (holder k u)
    outer = more.tree.nested.upward q u us round

    in_u : Contains (around k q) u
    in_u = subst (λ zs. Contains zs u) (sym round) (head_in u us)

    thread_in_u : Contains (around core (i.thread_of q)) (i.main_of u)
    thread_in_u = thread_within k core i more.rows q u in_u

    below : (p : ℕ) → LiesIn k p q → Contains (around k p) u
    below p lies = around_outer k more.tree.nested (around k p) p q u refl lies in_u

    core_below : (t : ℕ) → LiesIn core t (i.thread_of q) → Contains (around core t) (i.main_of u)
    core_below t lies = around_outer core more.core_tree.nested (around core t) t (i.thread_of q) (i.main_of u) refl lies thread_in_u

    nobody : NobodyIn k n f (holder k u) → NobodyIn core m g (i.thread_of (holder k u)) → Reach q
    nobody none core_none =
        nowhere (λ p lies. none p u (below p lies) refl) (λ t lies. core_none t (i.main_of u) (core_below t lies) (more.rows.held u))

    elsewhere_nobody : (x : ℕ) → u ≢ x → ElsewhereNobody k n f (holder k u) x →
        ((t : ℕ) → Contains (around core t) (i.main_of u) → standing_of e t ≡ at.Outside) → Reach q
    elsewhere_nobody x ne none core_none = nowhere (λ p lies. none p u (below p lies) refl ne) (λ t lies. core_none t (core_below t lies))

    free_here : (tests : List Transition) → standing_of c (holder k u) ≡ at.Within u tests → is_guarded k c (around k (holder k u)) ≡ false →
        is_guarded k c (around k q) ≡ false
    free_here tests open_there free =
        let own_one : guards (standing_of c (holder k u)) ≡ false = ap guards open_there in
        ap (is_guarded k c) (round ∙ ap (λ zs. u ∷ zs) outer) ∙ rw (own_one) free

    -- the superstate was opened, and so was its fork
    pub opened_both : Fresh core m g (i.main_of u) → Fresh k n f u → JustOpen u → is_guarded k c (around k (holder k u)) ≡ false → Live q
    opened_both core_fresh fresh opened free =
        let its = more.super_around q u in_u in
        let b = both_begin k core i more.rows more.tree more.core_tree more.entries more.core_entries more.elsewhere more.core_elsewhere f g u its.0 its.1
        (more.alike u its.0 its.1) fresh core_fresh q (more.tree.innermost q u us round) (more.once q u us there round) in
        let own_begins = subst (λ z. BeginsAs k core i z b.first b.core_first) (sym b.held) b.begins in
        record {
          sort = subst (Sort k core i more.rows n m f g) b.held
              (sort_of k core i more.rows n m f g b.first b.core_first b.here
              (held_by k core i more.rows more.tree more.core_tree (holder k b.first) b.first b.core_first own_begins)
              (begins_so k core i (holder k b.first) b.first b.core_first own_begins) b.chart b.in_core
              (more.entries b.first b.here));
          free = free_here opened.tests opened.open_in_chart free;
          parent = λ v vs e. subst JustOpen (first_of (sym round ∙ e)) opened;
        }
      where
        first_of : {v : ℕ} {vs : List ℕ} → u ∷ us ≡ v ∷ vs → u ≡ v
        first_of e = cc

    by_sort : is_guarded k c (around k (holder k u)) ≡ false → Sort k core i more.rows n m f g (holder k u) → Reach q
    by_sort free (sort_ends ended none core_none uncounted core_ended) = nobody none core_none
    by_sort free (sort_counts first place counter ended none core_none counted bare leads waits) = nobody none core_none
    by_sort free (sort_tries x simple held stands none core_none core_stands) = nobody none core_none
    by_sort free (sort_guards x fork t tests here super held prepared stands none core_none leads core_stands) = nobody none core_none
    by_sort free (sort_prepares x fork here super held apart prepared stands fresh others core_none leads core_stands) =
        ⊎_elim
        (λ same.
        behind_preparation u in_u
        (subst (IsOpening k core i c e) (sym same)
        (opening_of (holder k u) x fork here super held apart prepared stands leads core_stands))
        (λ t inner. core_none t (i.main_of u) inner (more.rows.held u)))
        (λ ne. elsewhere_nobody x ne others (λ t inner. core_none t (i.main_of u) inner (more.rows.held u))) (same_or_not u x)
    by_sort free (sort_opens x core_tests here super held plain stands fresh others core_stands core_fresh core_others stay_tests split_tests) =
        ⊎_elim
        (λ same.
        live (opened_both (subst (λ z. Fresh core m g (i.main_of z)) (sym same) core_fresh) (subst (Fresh k n f) (sym same) fresh)
        (subst JustOpen (sym same)
        (record {
          tests = first_closing_tests (own k x);
          open_in_chart = ap (standing_of c) held ∙ stands;
          forked = λ apart.
              let split = split_tests (subst (λ z. stays (flags_around k core i z) (own k x) ≡ false) held apart) in (
                split.0,
                ap (λ z. state_in core (i.thread_of z) split.0) held ∙ split.1,
                ap (λ z. standing_of e (i.thread_of z)) held ∙ (core_stands ∙ ap (at.Within (i.main_of x)) split.2),
              );
        })) free))
        (λ ne. elsewhere_nobody x ne others
        (λ t inner. core_others t (i.main_of u) inner (more.rows.held u) (λ same. ne (more.rows.main_once u x same)))) (same_or_not u x)

    reach_deeper : Reach (holder k u) → Reach q
    reach_deeper (live l) = by_sort l.free l.sort
    reach_deeper (behind_preparation w inner o empty) =
        behind_preparation w (subst (λ zs. Contains zs w) (sym round) (tail_in u w us (subst (λ zs. Contains zs w) (sym outer) inner))) o empty
    reach_deeper (nowhere none core_none) =
        nowhere (λ p lies. none p (lies_in_outer k more.tree.nested (around k p) p q (holder k u) refl lies (deeper u in_u refl)))
        (λ t lies. core_none t
        (lies_in_outer core more.core_tree.nested (around core t) t (i.thread_of q) (i.thread_of (holder k u)) refl lies
        (deeper (i.main_of u) thread_in_u (more.rows.held u))))

  -- ---- all of an area: each region in it was entered, or the one around it lies in it

  pub reach : (In : ℕ → Type 0) → ((q : ℕ) → IsThere k q → In q → Reach q ⊎ Above k In q) → (q : ℕ) → IsThere k q → In q → Reach q
  reach In begins q there inner = area_reached k In more.tree Reach reach_deeper begins q there inner
