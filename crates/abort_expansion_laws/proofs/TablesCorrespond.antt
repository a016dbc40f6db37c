-- That the tables of a chart and of its core chart correspond, from what the expansion gives.
use Rattle.std.proofs.Common.{◌≡◌, ℕ, ◌⊎◌, Bool, List, [], ◌∷◌, map, Contains, refl, sym, ap, subst, ◌∙◌, inl, inr}
use Rattle.chart_machine.specs.declared.table.Table.{Table}
use Rattle.chart_machine.specs.Turns.{LiesIn, itself, deeper, holder_of, ForkedApart}
use Rattle.abort_expansion_laws.specs.Stages.{Correspondence, IsCorrespondence, Meet, Inner}
use Rattle.chart_machine_laws.proofs.LyingIn.{IsNested, LiesUnder, around, holder, head_in, head_or_tail, around_outer, not_from_itself}
use Rattle.chart_machine_laws.proofs.LyingIn.{not_from_outer, swapped, apart_inside, by_holder}
pub use Rattle.chart_machine_laws.specs.Tree.{IsThere}
pub use Rattle.abort_expansion_laws.specs.Expanded.{Expanded, LiesInState, pair_of}
use Rattle.tick_laws.proofs.Lists.{contains_map}

map_alike : (f : ℕ → ℕ) → ((a b : ℕ) → f a ≡ f b → a ≡ b) → (xs ys : List ℕ) → map f xs ≡ map f ys → xs ≡ ys
map_alike f one [] [] e = refl
map_alike f one [] (y ∷ ys) e = absurd cc
map_alike f one (x ∷ xs) [] e = absurd cc
map_alike f one (x ∷ xs) (y ∷ ys) e =
    let first : f x ≡ f y = cc in
    let rest : map f xs ≡ map f ys = cc in
    ap (λ z. z ∷ xs) (one x y first) ∙ ap (λ zs. y ∷ zs) (map_alike f one xs ys rest)

module _ (chart core : Table) (e : Expanded chart core) where
  module _ (of_chart : IsNested chart) (of_core : IsNested core) where
    -- what a region's thread lies in is a region's thread
    lies_back : (r z : ℕ) → LiesIn core (e.thread_of r) z → (l : ℕ) × (z ≡ e.thread_of l) × LiesIn chart r l
    lies_back r z (itself same) = (r, sym same, itself refl)
    lies_back r z (deeper u inner held) =
        let s = contains_map e.fork_of (around chart r) u (subst (λ w. Contains w u) (e.around_of r) inner) in
        (holder chart s.0, (sym held ∙ (ap (holder core) (sym s.2) ∙ e.held s.0)), deeper s.0 s.1 refl)

    -- the thread of what holds the innermost superstate
    held_by : (xs : List ℕ) → holder_of core (map e.fork_of xs) ≡ e.thread_of (holder_of chart xs)
    held_by [] = sym e.root
    held_by (s ∷ xs) = e.held s

    regions_apart : (r q b : ℕ) → ForkedApart core (e.thread_of r) (e.thread_of q) b → (a : ℕ) × (b ≡ e.thread_of a) × ForkedApart chart r q a
    regions_apart r q b met = by_sides (lies_back r met.left met.r_in) (lies_back q met.right met.u_in)
      where
        by_sides : ((l : ℕ) × (met.left ≡ e.thread_of l) × LiesIn chart r l) → ((m : ℕ) × (met.right ≡ e.thread_of m) × LiesIn chart q m) →
            (a : ℕ) × (b ≡ e.thread_of a) × ForkedApart chart r q a
        by_sides l m = (
          holder_of chart (around chart l.0),
          sym met.held ∙ (ap (holder_of core) (ap (around core) l.1 ∙ e.around_of l.0) ∙ held_by (around chart l.0)),
          record {
            left = l.0;
            right = m.0;
            beside =
                record {
                  differ = λ same. met.beside.differ (l.1 ∙ ap e.thread_of same ∙ sym m.1);
                  first = (e.there_back l.0 left_there).0;
                  second = (e.there_back m.0 right_there).0;
                  first_there = (e.there_back l.0 left_there).1;
                  second_there = (e.there_back m.0 right_there).1;
                  around = map_alike e.fork_of e.one_fork (around chart l.0) (around chart m.0)
                      (sym (e.around_of l.0) ∙ (ap (around core) (sym l.1) ∙ (met.beside.around ∙ (ap (around core) m.1 ∙ e.around_of m.0))));
                };
            r_in = l.2;
            u_in = m.2;
            held = refl;
          },
        )
          where
            left_there : IsThere core (e.thread_of l.0)
            left_there = subst (IsThere core) l.1 (met.beside.first, met.beside.first_there)

            right_there : IsThere core (e.thread_of m.0)
            right_there = subst (IsThere core) m.1 (met.beside.second, met.beside.second_there)

    -- a superstate whose fork is around the thread of a region is around the region
    fork_around : (o m : ℕ) → Contains (around core (e.thread_of m)) (e.fork_of o) → Contains (around chart m) o
    fork_around o m inner =
        let s = contains_map e.fork_of (around chart m) (e.fork_of o) (subst (λ w. Contains w (e.fork_of o)) (e.around_of m) inner) in
        subst (Contains (around chart m)) (e.one_fork s.0 o s.2) s.1

    watcher_apart : (o q b : ℕ) → e.Owns o → ForkedApart core (e.watcher_of o) (e.thread_of q) b →
        ((b ≡ e.thread_of (holder chart o)) × LiesUnder chart q (holder chart o)) ⊎ ((a : ℕ) × (b ≡ e.thread_of a) × ForkedApart chart (holder chart o) q a)
    watcher_apart o q b owns met = by_side met.r_in
      where
        path : around core (e.watcher_of o) ≡ e.fork_of o ∷ around core (e.thread_of (holder chart o))
        path = e.around_watcher o owns

        -- the watcher's side is that of the region that holds the superstate
        outer : LiesIn core (e.thread_of (holder chart o)) met.left →
            ((b ≡ e.thread_of (holder chart o)) × LiesUnder chart q (holder chart o)) ⊎ ((a : ℕ) × (b ≡ e.thread_of a) × ForkedApart chart (holder chart o) q a)
        outer lies =
            inr (regions_apart (holder chart o) q b
            (record { left = met.left; right = met.right; beside = met.beside; r_in = lies; u_in = met.u_in; held = met.held }))

        own : e.watcher_of o ≡ met.left → ((m : ℕ) × (met.right ≡ e.thread_of m) × LiesIn chart q m) →
            ((b ≡ e.thread_of (holder chart o)) × LiesUnder chart q (holder chart o)) ⊎ ((a : ℕ) × (b ≡ e.thread_of a) × ForkedApart chart (holder chart o) q a)
        own same m =
            let left_path : around core met.left ≡ e.fork_of o ∷ around core (e.thread_of (holder chart o)) = ap (around core) (sym same) ∙ path in
            let right_path : around core (e.thread_of m.0) ≡ e.fork_of o ∷ around core (e.thread_of (holder chart o)) =
            ap (around core) (sym m.1) ∙ (sym met.beside.around ∙ left_path) in
            let inner : Contains (around chart m.0) o =
            fork_around o m.0 (subst (λ w. Contains w (e.fork_of o)) (sym right_path) (head_in (e.fork_of o) (around core (e.thread_of (holder chart o))))) in
            inl (
              sym met.held ∙ (ap (holder_of core) left_path ∙ e.held o),
              inl (o, around_outer chart of_chart (around chart q) q m.0 o refl m.2 inner, refl),
            )

        by_side : LiesIn core (e.watcher_of o) met.left →
            ((b ≡ e.thread_of (holder chart o)) × LiesUnder chart q (holder chart o)) ⊎ ((a : ℕ) × (b ≡ e.thread_of a) × ForkedApart chart (holder chart o) q a)
        by_side (itself same) = own same (lies_back q met.right met.u_in)
        by_side (deeper u inner held) =
            by_place (head_or_tail (e.fork_of o) u (around core (e.thread_of (holder chart o))) (subst (λ w. Contains w u) path inner))
          where
            by_place : (e.fork_of o ≡ u) ⊎ Contains (around core (e.thread_of (holder chart o))) u →
                ((b ≡ e.thread_of (holder chart o)) × LiesUnder chart q (holder chart o)) ⊎
                ((a : ℕ) × (b ≡ e.thread_of a) × ForkedApart chart (holder chart o) q a)
            by_place (inl here) = outer (itself (sym (e.held o) ∙ (ap (holder core) here ∙ held)))
            by_place (inr there) = outer (deeper u there held)

    pub is_pair : (declared : ℕ) (counts : ℕ → Bool) (written_at : ℕ → ℕ) → IsCorrespondence (pair_of chart core e declared counts written_at)
    is_pair declared counts written_at =
        record {
          regions_apart = regions_apart;
          watcher_apart = by_watcher;
          apart_inside = apart_inside chart of_chart;
          swapped = swapped core of_core;
          not_from_itself = not_from_itself core of_core;
          not_from_home = home;
          watcher_by_home = λ x t b inner met. by_watcher_home x t b inner met (e.watcher_around x);
        }
      where
        k : Correspondence
        k = pair_of chart core e declared counts written_at

        by_watcher : (g r q b : ℕ) → k.Watches g r → ForkedApart core g (e.thread_of q) b → ((b ≡ e.thread_of r) × LiesUnder chart q r) ⊎ Meet k r q b
        by_watcher g r q b w met =
            subst (λ z. ((b ≡ e.thread_of z) × LiesUnder chart q z) ⊎ Meet k z q b) w.3
            (watcher_apart w.0 q b w.1 (subst (λ z. ForkedApart core z (e.thread_of q) b) w.2 met))

        by_watcher_home : (x t b : ℕ) → k.Within t x → ForkedApart core (k.watcher x) t b →
            ((around core (k.watcher x) ≡ e.fork_of (e.of_flag x) ∷ around core (k.home x)) ⊎
            ((k.watcher x ≡ k.home x) × ((u : ℕ) → ¬ Contains (around core u) (e.fork_of (e.of_flag x))))) →
            b ≡ k.home x
        by_watcher_home x t b inner met (inl directly) = by_holder core of_core (e.fork_of (e.of_flag x)) (k.watcher x) t b (around core (k.home x)) directly
            inner met
        by_watcher_home x t b inner met (inr none) = absurd (none.1 t inner)

        below : (x t b : ℕ) → Contains (around core t) (e.fork_of (e.of_flag x)) → ForkedApart core (k.home x) t b → ⊥
        below x t b inner met = not_from_outer core of_core (k.home x) t b (deeper (e.fork_of (e.of_flag x)) inner refl) met

        by_watcher_around : (x t b : ℕ) → t ≡ k.watcher x → ForkedApart core (k.home x) t b →
            ((around core (k.watcher x) ≡ e.fork_of (e.of_flag x) ∷ around core (k.home x)) ⊎
            ((k.watcher x ≡ k.home x) × ((u : ℕ) → ¬ Contains (around core u) (e.fork_of (e.of_flag x))))) →
            ⊥
        by_watcher_around x t b w met (inl directly) =
            below x t b (subst (λ z. Contains (around core z) (e.fork_of (e.of_flag x))) (sym w)
            (subst (λ zs. Contains zs (e.fork_of (e.of_flag x))) (sym directly) (head_in (e.fork_of (e.of_flag x)) (around core (k.home x))))) met
        by_watcher_around x t b w met (inr none) = not_from_itself core of_core t b (subst (λ z. ForkedApart core z t b) (sym (w ∙ none.0)) met)

        home : (x t b : ℕ) → Inner k x t → ForkedApart core (k.home x) t b → ⊥
        home x t b (inl w) met = by_watcher_around x t b w met (e.watcher_around x)
        home x t b (inr inner) met = below x t b inner met
