-- A region comes to where something begins: all that lies in it is reached from there.
use Rattle.std.proofs.Common.{◌≡◌, ℕ, ◌⊎◌, inl, inr, ⊎_elim, false, List, [], ◌∷◌, Contains, refl, sym, ap, subst, ◌∙◌, arith}
use Rattle.scl_graph_laws.proofs.Searching.{unlike}
use Rattle.chart_machine.specs.declared.standing.Standing.{Standing}
use Rattle.chart_machine.specs.declared.standing.Configuration.{Configuration}
use Rattle.chart_machine.specs.declared.table.Table.{Table}
use Rattle.chart_machine.specs.Turns.{standing_of, guards as has_to_guard, is_guarded, LiesIn, itself, deeper}
use Rattle.chart_machine_laws.specs.Tree.{IsThere, around, holder}
use Rattle.chart_machine_laws.proofs.LyingIn.{head_in, tail_in, outwards, top_only}
use Rattle.abort_expansion_laws.specs.CoreRows.{IsState, Images}
use Rattle.abort_expansion_laws.specs.Related.{Related, IsInside}
use Rattle.abort_expansion_laws.specs.Related.{guarded, open_inside}
use Rattle.abort_expansion_laws.proofs.StageReached.{any_in}
use Rattle.abort_expansion_laws.proofs.JustEntered.{EntryRows, JustOpen, Live, Reach, live, reach}
use Rattle.abort_expansion_laws.proofs.Arrives.{Arrives}
use Rattle.abort_expansion_laws.proofs.OpenForks.{not_over, fork_of}
use Rattle.tick_laws.proofs.Lists.{contains_map}
use Rattle.abort_expansion_laws.proofs.AreaReached.{Above}

module _ (k core : Table) (i : Images) (more : EntryRows k core i) (holds_there : (s : ℕ) → IsState k s → IsThere k (holder k s))
    (c d : Configuration) (related : Related k core i c d) (r : ℕ) (next core_next : Configuration)
    (arrives : Arrives k core i more c d r next core_next) where
  -- what holds what is around the region does not lie in it
  pub outer_apart : (u : ℕ) → Contains (around k r) u → ¬ LiesIn k (holder k u) r
  outer_apart u inner (itself same) = let up = more.tree.deeper r u inner in absurd (omega (up, same, arith))
  outer_apart u inner (deeper y in_y its) =
      let up = more.tree.deeper r u inner in let down = more.tree.deeper (holder k u) y in_y in absurd (omega (up, down, its, arith))

  thread_outer_apart : (u : ℕ) → Contains (around k r) u → ¬ LiesIn core (i.thread_of (holder k u)) (i.thread_of r)
  thread_outer_apart u inner (itself same) =
      let up = more.tree.deeper r u inner in let one = more.rows.region_once (holder k u) r same in absurd (omega (up, one, arith))
  thread_outer_apart u inner (deeper y in_y its) =
      let v = contains_map i.main_of (around k (holder k u)) y
      (subst (λ zs. Contains zs y) (more.rows.encloses (holder k u)) in_y) in
      let own_holder : holder k v.0 ≡ r = more.rows.region_once (holder k v.0) r (sym (more.rows.held v.0) ∙ (ap (holder core) v.2 ∙ its)) in
      outer_apart u inner (deeper v.0 v.1 own_holder)

  pub guards_same : (zs : List ℕ) → ((u : ℕ) → Contains zs u → standing_of next (holder k u) ≡ standing_of c (holder k u)) →
      is_guarded k next zs ≡ is_guarded k c zs
  guards_same [] same = refl
  guards_same (z ∷ zs) same =
      let first = ap has_to_guard (same z (head_in z zs)) in
      let rest = guards_same zs (λ u h. same u (tail_in z u zs h)) in rw (first, rest) refl

  pub still_free : is_guarded k next (around k r) ≡ false
  still_free = guards_same (around k r) (λ u h. arrives.unchanged (holder k u) (outer_apart u h)) ∙ arrives.free

  -- ---- the superstate around it

  parent_open : (u : ℕ) (us : List ℕ) → around k r ≡ u ∷ us → JustOpen k core i more next core_next u
  parent_open u us round = by_inside (standing_of c (holder k u)) refl (related.enclosed r u arrives.there arrives.present in_u)
    where
      in_u : Contains (around k r) u
      in_u = subst (λ zs. Contains zs u) (sym round) (head_in u us)

      by_inside : (x : Standing) → standing_of c (holder k u) ≡ x → IsInside k core i u x → JustOpen k core i more next core_next u
      by_inside _ is (guarded tests) =
          absurd (unlike (is_guarded k c (around k r)) (any_in (λ z. has_to_guard (standing_of c (holder k z))) (around k r) u in_u (ap has_to_guard is))
          arrives.free)
      by_inside _ is (open_inside tests) =
          record {
            tests = tests;
            open_in_chart = arrives.unchanged (holder k u) (outer_apart u in_u) ∙ is;
            forked = λ apart.
                let its = more.super_around r u in_u in
                let f = fork_of k core i c u tests (standing_of c (holder k u)) (standing_of d (i.thread_of (holder k u)))
                (not_over k core i c u r (more.tree.innermost r u us round) arrives.going)
                (related.regions (holder k u) (holds_there u its.0)) is apart in
                (f.0, f.1, arrives.core_unchanged (i.thread_of (holder k u)) (thread_outer_apart u in_u) ∙ f.2);
          }

  -- ---- all that lies in it

  pub arrived_lives : Live k core i more next core_next r
  arrived_lives =
      record {
        sort = arrives.sort;
        free = still_free;
        parent = parent_open;
      }

  pub arrived_reached : (q : ℕ) → IsThere k q → LiesIn k q r → Reach k core i more next core_next q
  arrived_reached q there lies = reach k core i more next core_next (λ z. LiesIn k z r) begins q there lies
    where
      begins : (q : ℕ) → IsThere k q → LiesIn k q r →
          Reach k core i more next core_next q ⊎ Above k (λ z. LiesIn k z r) q
      begins q there lies = by_round (around k q) refl
        where
          at_region : q ≡ r → Reach k core i more next core_next q
          at_region same = subst (Reach k core i more next core_next) (sym same) (live arrived_lives)

          by_round : (zs : List ℕ) → around k q ≡ zs →
              Reach k core i more next core_next q ⊎ Above k (λ z. LiesIn k z r) q
          by_round [] round = inl (at_region (top_only k more.tree.nested q r round lies))
          by_round (v ∷ vs) round =
              ⊎_elim (λ same. inl (at_region same))
              (λ up.
              let its = more.super_around q v (subst (λ zs. Contains zs v) (sym round) (head_in v vs)) in
              inr (record { next = v; rest = vs; round = round; there = holds_there v its.0; inner = up }))
              (outwards k more.tree.nested q r v vs round lies)
