-- A region comes to where something begins: in the core all waits, what lies in the region and what does not.
use Rattle.std.proofs.Common.{◌≡◌, ◌≢◌, ℕ, ◌⊎◌, inl, inr, ⊎_elim, Bool, true, false, List, [], ◌∷◌, ◌++◌, map}
use Rattle.std.proofs.Common.{Contains, refl, sym, ap, subst, ◌∙◌}
use Rattle.std.specs.List.{list_all}
use Rattle.core_charts.specs.declared.region.Transition.{Transition}
use Rattle.chart_machine.specs.declared.standing.Standing.{Standing}
use Rattle.chart_machine.specs.declared.standing.Standing.TheVariants as at
use Rattle.chart_machine.specs.declared.standing.Configuration.{Configuration}
use Rattle.chart_machine.specs.declared.table.Table.{Table}
use Rattle.chart_machine.specs.Table.{state_at}
use Rattle.chart_machine.specs.Turns.{standing_of, has_ended, inside, guards as has_to_guard, LiesIn, itself, deeper}
use Rattle.tick_laws.proofs.Lists.{same_or_not, contained, contains_map, map_contains}
use Rattle.chart_machine_laws.specs.Tree.{IsThere, around, holder}
use Rattle.chart_machine_laws.proofs.LyingIn.{head_in, tail_in, head_or_tail, lies_in_outer}
use Rattle.abort_expansion_laws.specs.CoreRows.{IsState, Images}
use Rattle.abort_expansion_laws.specs.Related.{Related, Stands, outside, ended, left, trying, acting, entering, guarding, staying, within, behind, is_behind}
use Rattle.abort_expansion_laws.specs.Related.{front, tests_of, held_back}
use Rattle.abort_expansion.specs.Transitions.{led}
use Rattle.abort_expansion_laws.proofs.Fronts.{front_same}
use Rattle.abort_expansion_laws.proofs.JustEntered.{EntryRows}
use Rattle.abort_expansion_laws.proofs.EnteredWaits.{entered_waits}
use Rattle.abort_expansion_laws.proofs.Pending.{Waits, settled}
use Rattle.abort_expansion_laws.proofs.Arrives.{Arrives}
use Rattle.abort_expansion_laws.proofs.ArrivedReached.{arrived_reached}

module _ (k core : Table) (i : Images) (more : EntryRows k core i) (holds_there : (s : ℕ) → IsState k s → IsThere k (holder k s))
    (alone : (v : ℕ) → (state_at core v).regions ≡ [] → inside core v ≡ [])
    (c d : Configuration) (related : Related k core i c d) (r : ℕ) (next core_next : Configuration)
    (arrives : Arrives k core i more c d r next core_next) where
  -- ---- who lies in the region

  abbrev holders_around : ℕ → List ℕ
  holders_around q = map (holder k) (around k q)

  pub lies_or_not : (q : ℕ) → LiesIn k q r ⊎ ¬ LiesIn k q r
  lies_or_not q =
      ⊎_elim (λ same. inl (itself same))
      (λ ne.
      ⊎_elim (λ h. let y = contains_map (holder k) (around k q) r h in inl (deeper y.0 y.1 y.2)) (λ out. inr (never ne out))
      (contained (holders_around q) r))
      (same_or_not q r)
    where
      never : q ≢ r → ¬ Contains (holders_around q) r → ¬ LiesIn k q r
      never ne out (itself same) = ne same
      never ne out (deeper y inner held) = out (subst (Contains (holders_around q)) held (map_contains (holder k) (around k q) y inner))

  -- so do their threads
  pub lies_back : (q : ℕ) → LiesIn core (i.thread_of q) (i.thread_of r) → LiesIn k q r
  lies_back q (itself same) = itself (more.rows.region_once q r same)
  lies_back q (deeper y inner held) =
      let v = contains_map i.main_of (around k q) y (subst (λ zs. Contains zs y) (more.rows.encloses q) inner) in
      deeper v.0 v.1 (more.rows.region_once (holder k v.0) r (sym (more.rows.held v.0) ∙ (ap (holder core) v.2 ∙ held)))

  pub core_same_at : (q : ℕ) → ¬ LiesIn k q r → standing_of core_next (i.thread_of q) ≡ standing_of d (i.thread_of q)
  core_same_at q out =
      arrives.core_unchanged (i.thread_of q) (λ lies. out (lies_back q lies))

  -- who holds what is around somebody outside of it is outside of it
  pub outer_out : (q u : ℕ) → ¬ LiesIn k q r → Contains (around k q) u → ¬ LiesIn k (holder k u) r
  outer_out q u out inner lies = out (lies_in_outer k more.tree.nested (around k q) q (holder k u) r refl (deeper u inner refl) lies)

  fronts_same : (q : ℕ) → ¬ LiesIn k q r → (b : Bool) → front k core i b next q ≡ front k core i b c q
  fronts_same q out = front_same k core i c next q (λ u h. ap has_to_guard (arrives.unchanged (holder k u) (outer_out q u out h)))

  -- ---- a superstate that is held outside of it is over as before

  pub ends_same : (u q : ℕ) → ¬ LiesIn k (holder k u) r → Contains (state_at k u).regions q → has_ended (standing_of next q) ≡ has_ended (standing_of c q)
  ends_same u q out child =
      ⊎_elim
      (λ same.
      ap (λ z. has_ended (standing_of next z)) same ∙
      (arrives.goes ∙ sym (ap (λ z. has_ended (standing_of c z)) same ∙ arrives.going)))
      (λ ne. ap has_ended (arrives.unchanged q (λ lies. not_deeper ne lies))) (same_or_not q r)
    where
      not_deeper : q ≢ r → ¬ LiesIn k q r
      not_deeper ne (itself same) = ne same
      not_deeper ne (deeper y inner held) =
          ⊎_elim (λ same. out (itself (ap (holder k) same ∙ held))) (λ tail. out (deeper y tail held))
          (head_or_tail u y (around k (holder k u)) (subst (λ zs. Contains zs y) (more.tree.children u q child) inner))

  all_same : (u : ℕ) → ¬ LiesIn k (holder k u) r → (qs : List ℕ) → ((q : ℕ) → Contains qs q → Contains (state_at k u).regions q) →
      list_all (λ q. has_ended (standing_of next q)) qs ≡ list_all (λ q. has_ended (standing_of c q)) qs
  all_same u out [] among = refl
  all_same u out (q ∷ qs) among =
      let first = ends_same u q out (among q (head_in q qs)) in
      let rest = all_same u out qs (λ z h. among z (tail_in q z qs h)) in rw (first, rest) refl

  pub behind_same : (u : ℕ) → ¬ LiesIn k (holder k u) r → is_behind k core i next u ≡ is_behind k core i c u
  behind_same u out = let same = all_same u out (state_at k u).regions (λ q h. h) in rw (same) refl

  -- ---- who stood outside of it stands so still

  stands_still : (q : ℕ) → ¬ LiesIn k q r → (x y : Standing) → Stands k core i c q x y → Stands k core i next q x y
  stands_still q out _ _ outside = outside
  stands_still q out _ _ (ended inner) =
      ended (λ u us round. behind_same u (outer_out q u out (subst (λ zs. Contains zs u) (sym round) (head_in u us))) ∙ inner u us round)
  stands_still q out _ _ (left u us round over) =
      left u us round (behind_same u (outer_out q u out (subst (λ zs. Contains zs u) (sym round) (head_in u us))) ∙ over)
  stands_still q out _ _ (trying u tests simple held) =
      subst (λ z. Stands k core i next q (at.Trying u tests) (at.Trying (i.main_of u) z)) (same_tests tests) (trying u tests simple held)
    where
      same_tests : (tests : List Transition) → tests_of k core i next q tests ≡ tests_of k core i c q tests
      same_tests tests = ap (λ zs. zs ++ map (led (i.places_of q)) tests ++ held_back k core i q) (fronts_same q out false)
  stands_still q out _ _ (acting u b g f effects lt) = acting u b g f effects lt
  stands_still q out _ _ (entering u fork t tests super held leads) = entering u fork t tests super held leads
  stands_still q out _ _ (guarding u join t tests has held leads) = guarding u join t tests has held leads
  stands_still q out _ _ (staying u tests super held stay) = staying u tests super held stay
  stands_still q out _ _ (within u join tests super held apart still leads) =
      within u join tests super held apart (behind_same u (λ lies. out (subst (λ z. LiesIn k z r) held lies)) ∙ still) leads
  stands_still q out _ _ (behind u tests super held over) =
      subst (λ z. Stands k core i next q (at.Within u tests) (at.Trying (i.behind_of u) (z ++ held_back k core i q))) (fronts_same q out true)
      (behind u tests super held (behind_same u (λ lies. out (subst (λ z. LiesIn k z r) held lies)) ∙ over))

  -- ---- all regions

  pub arrived_waits : (q : ℕ) → IsThere k q → Waits k core i next core_next q
  arrived_waits q there =
      ⊎_elim
      (λ lies.
      entered_waits k core i more next core_next alone q
      (arrived_reached k core i more holds_there c d related r next core_next arrives q there lies))
      (λ out.
      settled (subst (λ z. Stands k core i next q z (standing_of core_next (i.thread_of q))) (sym (arrives.unchanged q out))
      (subst (Stands k core i next q (standing_of c q)) (sym (core_same_at q out))
      (stands_still q out (standing_of c q) (standing_of d (i.thread_of q)) (related.regions q there)))))
      (lies_or_not q)
