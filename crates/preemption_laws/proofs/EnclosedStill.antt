-- A step of a chart keeps that whoever is there is inside of all that is around it.
use Rattle.std.proofs.Common.{◌≡◌, ◌≢◌, ℕ, zero, suc, ◌+◌, ◌<◌, ◌≤◌, ◌⊎◌, inl, inr, ⊎_elim, List, [], ◌∷◌, map, length, slice_set, Contains}
use Rattle.std.proofs.Common.{refl, sym, ap, subst, ◌∙◌, arith}
use Rattle.std.proofs.lemmas.List.{length-set}
use Rattle.core_charts.specs.declared.region.Effect.{Effect}
use Rattle.core_charts.specs.declared.region.Transition.{Transition}
use Rattle.core_charts.specs.Tests.{closing_tests, first_closing_tests}
use Rattle.chart_machine.specs.declared.standing.Move.{Move}
use Rattle.chart_machine.specs.declared.standing.Standing.{Standing}
use Rattle.chart_machine.specs.declared.standing.Standing.TheVariants as at
use Rattle.chart_machine.specs.declared.table.Table.{Table}
use Rattle.chart_machine.specs.Steps.{to, moved, state_in, dropped, acts, taken}
use Rattle.chart_machine.specs.Table.{state_at, region_at}
use Rattle.chart_machine.specs.Turns.{inside, LiesIn, itself, deeper}
use Rattle.chart_machine_laws.specs.Tree.{IsThere, IsTree, around, holder}
use Rattle.chart_machine_laws.proofs.LyingIn.{none_in, head_in, head_or_tail, lies_in_outer}
use Rattle.tick_laws.proofs.Lists.{same_or_not, contains_map, map_contains}
use Rattle.chart_lowering_laws.proofs.Entering.{moved_length}
use Rattle.abort_expansion_laws.specs.CoreRows.{own, IsState}
use Rattle.abort_expansion_laws.proofs.ChartSteps.{Makes, takes_trying, takes_entering, takes_guarding, takes_within, tries_on, enters_on, guards_on}
use Rattle.abort_expansion_laws.proofs.ChartSteps.{waits_on, acts_on}
use Rattle.abort_expansion_laws.proofs.FreshInside.{moved_alike, all_entered, Fresh, Begins, begun_closed, begun_open, Begun}
use Rattle.abort_expansion_laws.proofs.FreshInside.{one_state, one_begins, fresh_begins}
use Rattle.abort_expansion_laws.proofs.Leaving.{at_number, set_here, set_other, drops_in, stay_out, moved_append}
use Rattle.abort_expansion_laws.proofs.StageReached.{inside_in}
use Rattle.abort_expansion_laws.proofs.StartingRegions.{Once}
use Rattle.abort_expansion_laws.proofs.StateEntry.{Entry}
use Rattle.preemption_laws.proofs.ApartTogether.{IsOpen, open_guarding, open_within, one_open, Through, through, lies_or_not}
use Rattle.preemption_laws.proofs.MovesInside.{MayStand, moves_inside}

-- the states in which the regions of a superstate begin
pub record Firsts (k : Table) (s : ℕ) : Type 0 where
  pub firsts : List ℕ
  pub opens : (state_at k s).opened ≡ all_entered k firsts
  pub holders : map (holder k) firsts ≡ (state_at k s).regions
  pub states : (x : ℕ) → Contains firsts x → IsState k x

not_trying : (s u : ℕ) (tests : List Transition) → ¬ IsOpen u (at.Trying s tests)
not_trying s u tests o = by_standing (at.Trying s tests) o refl
  where
    by_standing : (x : Standing) → IsOpen u x → x ≡ at.Trying s tests → ⊥
    by_standing _ (open_guarding others) e = absurd cc
    by_standing _ (open_within others) e = absurd cc

not_entering : (s u : ℕ) (tests : List Transition) → ¬ IsOpen u (at.Entering s tests)
not_entering s u tests o = by_standing (at.Entering s tests) o refl
  where
    by_standing : (x : Standing) → IsOpen u x → x ≡ at.Entering s tests → ⊥
    by_standing _ (open_guarding others) e = absurd cc
    by_standing _ (open_within others) e = absurd cc

not_acting : (s u : ℕ) (effects : List Effect) (p : ℕ) → ¬ IsOpen u (at.Acting s effects p)
not_acting s u effects p o = by_standing (at.Acting s effects p) o refl
  where
    by_standing : (x : Standing) → IsOpen u x → x ≡ at.Acting s effects p → ⊥
    by_standing _ (open_guarding others) e = absurd cc
    by_standing _ (open_within others) e = absurd cc

only_trying : (s u : ℕ) (tests : List Transition) → IsOpen u (at.Trying s tests) → u ≡ s
only_trying s u tests o = absurd (not_trying s u tests o)

only_entering : (s u : ℕ) (tests : List Transition) → IsOpen u (at.Entering s tests) → u ≡ s
only_entering s u tests o = absurd (not_entering s u tests o)

only_guarding : (s u : ℕ) (tests : List Transition) → IsOpen u (at.Guarding s tests) → u ≡ s
only_guarding s u tests o = one_open u s (at.Guarding s tests) o (open_guarding tests)

only_within : (s u : ℕ) (tests : List Transition) → IsOpen u (at.Within s tests) → u ≡ s
only_within s u tests o = one_open u s (at.Within s tests) o (open_within tests)

module _ (k : Table) (tree : IsTree k) (holder_there : (q s : ℕ) → Contains (around k q) s → IsThere k q × IsThere k (holder k s))
    (entries : (x : ℕ) → IsState k x → Entry k x)
    (elsewhere : (s t : ℕ) (zs : List Standing) → IsState k s → ¬ Contains (around k t) s → at_number (moved (state_at k s).opened zs) t ≡ at_number zs t)
    (state_there : (r p : ℕ) → IsThere k r → p < length (region_at k r).states → IsState k (state_in k r p) × (holder k (state_in k r p) ≡ r))
    (firsts : (s r : ℕ) → Contains (state_at k s).regions r → Firsts k s)
    (once : (r s : ℕ) (ss : List ℕ) → IsThere k r → around k r ≡ s ∷ ss → Once r (state_at k s).regions) where
  abbrev n : ℕ
  n = suc (length k.regions)

  -- whoever is there is inside of the superstate next around it
  abbrev pub NextOpen : (ℕ → Standing) → Type 0
  NextOpen f = (q u : ℕ) (us : List ℕ) → around k q ≡ u ∷ us → f q ≢ at.Outside → IsOpen u (f (holder k u))

  open_present : (u : ℕ) (x : Standing) → IsOpen u x → x ≢ at.Outside
  open_present u _ (open_guarding tests) e = absurd cc
  open_present u _ (open_within tests) e = absurd cc

  -- and so of all that is around it
  pub all_open : (f : ℕ → Standing) → NextOpen f → (ss : List ℕ) (q s : ℕ) → around k q ≡ ss → Contains ss s → f q ≢ at.Outside → IsOpen s (f (holder k s))
  all_open f next [] q s e h there = absurd (none_in s h)
  all_open f next (u ∷ us) q s e h there =
      let here : IsOpen u (f (holder k u)) = next q u us e there in
      by_place here (head_or_tail u s us h)
      (λ tail. all_open f next us (holder k u) s (sym (tree.nested.upward q u us e)) tail (open_present u (f (holder k u)) here))
    where
      by_place : IsOpen u (f (holder k u)) → (u ≡ s) ⊎ Contains us s → (Contains us s → IsOpen s (f (holder k s))) → IsOpen s (f (holder k s))
      by_place here (inl same) outer = subst (λ z. IsOpen z (f (holder k z))) same here
      by_place here (inr tail) outer = outer tail

  -- ---- a superstate that was just opened

  record JustOpened (f : ℕ → Standing) (s : ℕ) : Type 0 where
    tests : List Transition
    here : f (holder k s) ≡ at.Within s tests
    fresh : Fresh k n f s
    others : (y q : ℕ) → holder k y ≡ holder k s → y ≢ s → Contains (around k q) y → f q ≡ at.Outside

  -- of who lies in it, by the state in which the region through which it does begins
  by_first : (f : ℕ → Standing) (s : ℕ) → JustOpened f s → (q u : ℕ) (us : List ℕ) → around k q ≡ u ∷ us → f q ≢ at.Outside →
      Through k tree holder_there q s →
      ((x : ℕ) → JustOpened f x → holder k s < holder k x → (y : ℕ) → Contains (around k q) y → holder k y ≡ holder k x → IsOpen u (f (holder k u))) →
      IsOpen u (f (holder k u))
  by_first f s o q u us round there w deeper_in = by_lies w.lies
    where
      child : Contains (state_at k s).regions w.side
      child = tree.innermost w.side s w.rest w.directly

      in_s : Contains (around k w.side) s
      in_s = subst (λ zs. Contains zs s) (sym w.directly) (head_in s w.rest)

      all : Firsts k s
      all = firsts s w.side child

      found : (x : ℕ) × Contains all.firsts x × (holder k x ≡ w.side)
      found = contains_map (holder k) all.firsts w.side (subst (λ zs. Contains zs w.side) (sym all.holders) child)

      level : (x : ℕ) → Contains all.firsts x → IsState k x × (around k (holder k x) ≡ s ∷ around k (holder k s)) × (holder k x < n)
      level x h =
          let of_s = tree.children s (holder k x) (subst (λ zs. Contains zs (holder k x)) all.holders (map_contains (holder k) all.firsts x h)) in (
            all.states x h,
            of_s,
            (holder_there (holder k x) s (subst (λ zs. Contains zs s) (sym of_s) (head_in s (around k (holder k s))))).0.1,
          )

      b : Begins k n f found.0
      b =
          fresh_begins k tree entries elsewhere f s all.firsts o.fresh all.opens level found.0 found.1
          (subst (Once (holder k found.0)) (sym all.holders)
          (subst (λ z. Once z (state_at k s).regions) (sym found.2) (once w.side s w.rest (holder_there w.side s in_s).0 w.directly)))

      up : holder k s < holder k found.0
      up = subst (λ z. holder k s < z) (sym found.2) (tree.deeper w.side s in_s)

      by_lies : LiesIn k q w.side → IsOpen u (f (holder k u))
      by_lies (itself e) =
          let both : u ∷ us ≡ s ∷ w.rest = sym round ∙ (ap (around k) e ∙ w.directly) in
          let same : s ≡ u = cc in
          subst (λ z. IsOpen z (f (holder k z))) same (subst (IsOpen s) (sym o.here) (open_within o.tests))
      by_lies (deeper y inner held) =
          ⊎_elim
          (λ same. by_begun b.begun (subst (Contains (around k q)) same inner))
          (λ ne. absurd (there (b.others y q (held ∙ sym found.2) ne inner))) (same_or_not y found.0)
        where
          by_begun : Begun k n f found.0 → Contains (around k q) found.0 → IsOpen u (f (holder k u))
          by_begun (begun_closed z never e at_z inside) in_x = absurd (there (inside q in_x))
          by_begun (begun_open tests e at_x fresh) in_x =
              deeper_in found.0 (record { tests = tests; here = at_x; fresh = fresh; others = b.others }) up found.0 in_x refl

  opened_next : (fuel : ℕ) (f : ℕ → Standing) (s : ℕ) → JustOpened f s → n ≤ holder k s + fuel → (q y u : ℕ) (us : List ℕ) → Contains (around k q) y →
      holder k y ≡ holder k s → around k q ≡ u ∷ us → f q ≢ at.Outside → IsOpen u (f (holder k u))
  opened_next zero f s o few q y u us inner held round there =
      ⊎_elim
      (λ same.
      by_first f s o q u us round there (through k tree holder_there (around k q) q s refl (subst (Contains (around k q)) same inner))
      (λ x next up v in_v held_v. let lt = (holder_there q v in_v).1.1 in absurd (omega (few, up, lt, held_v, arith))))
      (λ ne. absurd (there (o.others y q held ne inner))) (same_or_not y s)
  opened_next (suc fuel) f s o few q y u us inner held round there =
      ⊎_elim
      (λ same.
      by_first f s o q u us round there (through k tree holder_there (around k q) q s refl (subst (Contains (around k q)) same inner))
      (λ x next up v in_v held_v. opened_next fuel f x next (omega (few, up, arith)) q v u us in_v held_v round there))
      (λ ne. absurd (there (o.others y q held ne inner))) (same_or_not y s)

  -- ---- who lies in region r

  abbrev pub InnerOpen : (ℕ → Standing) → ℕ → Type 0
  InnerOpen f r =
      (q y u : ℕ) (us : List ℕ) → Contains (around k q) y → holder k y ≡ r → around k q ≡ u ∷ us → f q ≢ at.Outside → IsOpen u (f (holder k u))

  just_opened : (f : ℕ → Standing) (s r : ℕ) → holder k s ≡ r → JustOpened f s → InnerOpen f r
  just_opened f s r held o q y u us inner held_y round there =
      opened_next n f s o (omega arith) q y u us inner (held_y ∙ sym held) round there

  pub begins_inner : (f : ℕ → Standing) (x r : ℕ) → holder k x ≡ r → Begins k n f x → InnerOpen f r
  begins_inner f x r held b q y u us inner held_y round there = by_begun b.begun
    where
      nobody : ((q : ℕ) → Contains (around k q) x → f q ≡ at.Outside) → ⊥
      nobody inside =
          ⊎_elim (λ same. there (inside q (subst (Contains (around k q)) same inner))) (λ ne. there (b.others y q (held_y ∙ sym held) ne inner))
          (same_or_not y x)

      by_begun : Begun k n f x → IsOpen u (f (holder k u))
      by_begun (begun_closed z never e at_z inside) = absurd (nobody inside)
      by_begun (begun_open tests e at_x fresh) =
          just_opened f x r held (record { tests = tests; here = at_x; fresh = fresh; others = b.others }) q y u us inner held_y round there

  nobody_inner : (f : ℕ → Standing) (r : ℕ) → ((q y : ℕ) → Contains (around k q) y → holder k y ≡ r → f q ≡ at.Outside) → InnerOpen f r
  nobody_inner f r none q y u us inner held round there = absurd (there (none q y inner held))

  -- ---- a step

  abbrev outside_or : Standing → Type 0
  outside_or x = (x ≡ at.Outside) ⊎ (x ≢ at.Outside)

  decide : (x : Standing) → outside_or x
  decide at.Outside = inl refl
  decide at.Ended = inr (λ e. absurd cc)
  decide (at.Trying s tests) = inr (λ e. absurd cc)
  decide (at.Entering s tests) = inr (λ e. absurd cc)
  decide (at.Guarding s tests) = inr (λ e. absurd cc)
  decide (at.Within s tests) = inr (λ e. absurd cc)
  decide (at.Acting s effects p) = inr (λ e. absurd cc)

  module _ (zs : List Standing) (size : length zs ≡ n) (next : NextOpen (at_number zs)) (r : ℕ) (there_r : IsThere k r) where
    in_table : (ys : List Standing) → length ys ≡ n → r < length ys
    in_table ys same = let lt = there_r.1 in omega (lt, same, arith)

    inner_other : (q y : ℕ) → Contains (around k q) y → holder k y ≡ r → q ≢ r
    inner_other q y inner held e = let up = tree.deeper q y inner in omega (up, held, e, arith)

    -- who lies in the region lies in the superstate in which it stands
    holds_open : (q y : ℕ) → Contains (around k q) y → holder k y ≡ r → at_number zs q ≢ at.Outside → IsOpen y (at_number zs r)
    holds_open q y inner held there =
        subst (λ h. IsOpen y (at_number zs h)) held (all_open (at_number zs) next (around k q) q y refl inner there)

    -- it alone moves
    alone_inner : (x y : Standing) → at_number zs r ≡ x → ((u : ℕ) → IsOpen u x → IsOpen u y) → InnerOpen (at_number (slice_set zs r y)) r
    alone_inner x y is on q v u us inner held round there =
        let same_q : at_number (slice_set zs r y) q ≡ at_number zs q = set_other zs r q y (inner_other q v inner held) in
        let before : IsOpen u (at_number zs (holder k u)) = next q u us round (λ e. there (same_q ∙ e)) in
        ⊎_elim
        (λ at_r.
        subst (λ h. IsOpen u (at_number (slice_set zs r y) h)) (sym at_r)
        (subst (IsOpen u) (sym (set_here zs r y (in_table zs size))) (on u (subst (IsOpen u) is (subst (λ h. IsOpen u (at_number zs h)) at_r before)))))
        (λ ne. subst (IsOpen u) (sym (set_other zs r (holder k u) y ne)) before) (same_or_not (holder k u) r)

    module _ (s : ℕ) (is_state : IsState k s) (held : holder k s ≡ r) (only : (y : ℕ) → IsOpen y (at_number zs r) → y ≡ s) where
      -- all that lies in the region is dropped
      dropped_none : (q y : ℕ) → Contains (around k q) y → holder k y ≡ r → at_number (moved (dropped k s) zs) q ≡ at.Outside
      dropped_none q y inner held_y =
          ⊎_elim (λ out. stay_out (inside k s) zs q out)
          (λ there.
          let same : y ≡ s = only y (holds_open q y inner held_y there) in
          drops_in (inside k s) zs q (inside_in k s q (holder_there q y inner).0 (subst (Contains (around k q)) same inner)))
          (decide (at_number zs q))

      acts_inner : (effects : List Effect) (p : ℕ) → p < length (region_at k r).states →
          InnerOpen (at_number (moved (acts k r s effects p) (moved (dropped k s) zs))) r
      acts_inner (e ∷ effects) p lt =
          nobody_inner (at_number (moved (acts k r s (e ∷ effects) p) (moved (dropped k s) zs))) r
          (λ q y inner held_y.
          set_other (moved (dropped k s) zs) r q (at.Acting s (e ∷ effects) p) (inner_other q y inner held_y) ∙ dropped_none q y inner held_y)
      acts_inner [] p lt =
          let target = state_there r p there_r lt in
          let ys : List Standing = moved (dropped k s) zs in
          let ys_size : length ys ≡ n = moved_length (dropped k s) zs ∙ size in
          begins_inner (at_number (moved (state_at k (state_in k r p)).entered ys)) (state_in k r p) r target.1
          (subst (λ m. Begins k m (at_number (moved (state_at k (state_in k r p)).entered ys)) (state_in k r p)) ys_size
          (one_begins k tree entries elsewhere (state_in k r p) ys target.0 (subst (λ h. h < length ys) (sym target.1) (in_table ys ys_size))
          (λ q y inner held_y. dropped_none q y inner (held_y ∙ target.1))))

      taken_inner : (t : Transition) → t.target < length (region_at k r).states → InnerOpen (at_number (moved (taken k r s t) zs)) r
      taken_inner t lt =
          subst (λ ys. InnerOpen (at_number ys) r) (sym (moved_append (dropped k s) (acts k r s t.effects t.target) zs)) (acts_inner t.effects t.target lt)

      -- its regions are entered, where nobody was
      opened_inner : (tests : List Transition) → ((y : ℕ) → ¬ IsOpen y (at_number zs r)) →
          InnerOpen (at_number (moved (to r (at.Within s tests) ∷ (state_at k s).opened) zs)) r
      opened_inner tests none =
          just_opened (at_number (moved (state_at k s).opened (slice_set zs r (at.Within s tests)))) s r held
          (record {
            tests = tests;
            here = ap (at_number (moved (state_at k s).opened (slice_set zs r (at.Within s tests)))) held
                ∙ (elsewhere s r (slice_set zs r (at.Within s tests)) is_state (λ inner. let up = tree.deeper r s inner in omega (up, held, arith))
                ∙ set_here zs r (at.Within s tests) (in_table zs size));
            fresh = λ ws ws_size empty q inner.
                moved_alike (state_at k s).opened (slice_set zs r (at.Within s tests)) ws q (length-set zs r (at.Within s tests) ∙ (size ∙ sym ws_size))
                (was_out q s inner held ∙ sym (empty q inner));
            others = λ y q held_y ne inner.
                elsewhere s q (slice_set zs r (at.Within s tests)) is_state (λ in_s. ne (one_state k tree entries elsewhere q s y in_s inner held_y))
                ∙ was_out q y inner (held_y ∙ held);
          })
        where
          was_out : (q y : ℕ) → Contains (around k q) y → holder k y ≡ r → at_number (slice_set zs r (at.Within s tests)) q ≡ at.Outside
          was_out q y inner held_y =
              set_other zs r q (at.Within s tests) (inner_other q y inner held_y)
              ∙ ⊎_elim (λ out. out) (λ there. absurd (none y (holds_open q y inner held_y there))) (decide (at_number zs q))

    -- ---- by where the region stands

    abbrev May : Standing → Type 0
    May x = MayStand k tree entries elsewhere state_there r x

    inner_by : (x : Standing) (ms : List Move) → at_number zs r ≡ x → Makes k r x ms → May x → InnerOpen (at_number (moved ms zs)) r
    inner_by _ _ is (takes_trying s t tests) h = taken_inner s h.0 h.1 (λ y o. only_trying s y (t ∷ tests) (subst (IsOpen y) is o)) t h.2.0
    inner_by _ _ is (takes_entering s t tests) h = taken_inner s h.0 h.1 (λ y o. only_entering s y (t ∷ tests) (subst (IsOpen y) is o)) t h.2.0
    inner_by _ _ is (takes_guarding s t tests) h = taken_inner s h.0 h.1 (λ y o. only_guarding s y (t ∷ tests) (subst (IsOpen y) is o)) t h.2.0
    inner_by _ _ is (takes_within s t tests) h = taken_inner s h.0 h.1 (λ y o. only_within s y (t ∷ tests) (subst (IsOpen y) is o)) t h.2.0
    inner_by _ _ is (tries_on s t tests) h = alone_inner (at.Trying s (t ∷ tests)) (at.Trying s tests) is (λ u o. absurd (not_trying s u (t ∷ tests) o))
    inner_by _ _ is (enters_on s t []) h =
        opened_inner s h.0 h.1 (λ y o. only_entering s y (t ∷ []) (subst (IsOpen y) is o)) (first_closing_tests (own k s))
        (λ y o. not_entering s y (t ∷ []) (subst (IsOpen y) is o))
    inner_by _ _ is (enters_on s t (v ∷ tests)) h =
        alone_inner (at.Entering s (t ∷ v ∷ tests)) (at.Entering s (v ∷ tests)) is (λ u o. absurd (not_entering s u (t ∷ v ∷ tests) o))
    inner_by _ _ is (guards_on s t []) h =
        alone_inner (at.Guarding s (t ∷ [])) (at.Within s (closing_tests (own k s))) is
        (λ u o. subst (λ z. IsOpen z (at.Within s (closing_tests (own k s)))) (sym (only_guarding s u (t ∷ []) o)) (open_within (closing_tests (own k s))))
    inner_by _ _ is (guards_on s t (v ∷ tests)) h =
        alone_inner (at.Guarding s (t ∷ v ∷ tests)) (at.Guarding s (v ∷ tests)) is
        (λ u o. subst (λ z. IsOpen z (at.Guarding s (v ∷ tests))) (sym (only_guarding s u (t ∷ v ∷ tests) o)) (open_guarding (v ∷ tests)))
    inner_by _ _ is (waits_on s t tests) h =
        alone_inner (at.Within s (t ∷ tests)) (at.Within s tests) is
        (λ u o. subst (λ z. IsOpen z (at.Within s tests)) (sym (only_within s u (t ∷ tests) o)) (open_within tests))
    inner_by _ _ is (acts_on s p e effects) h = acted effects
      where
        none_open : (y : ℕ) → ¬ IsOpen y (at_number zs r)
        none_open y o = not_acting s y (e ∷ effects) p (subst (IsOpen y) is o)

        none_in_r : (q y : ℕ) → Contains (around k q) y → holder k y ≡ r → at_number zs q ≡ at.Outside
        none_in_r q y inner held = ⊎_elim (λ out. out) (λ there. absurd (none_open y (holds_open q y inner held there))) (decide (at_number zs q))

        acted : (left : List Effect) → InnerOpen (at_number (moved (acts k r s left p) zs)) r
        acted (f ∷ left) =
            nobody_inner (at_number (moved (acts k r s (f ∷ left) p) zs)) r
            (λ q y inner held. set_other zs r q (at.Acting s (f ∷ left) p) (inner_other q y inner held) ∙ none_in_r q y inner held)
        acted [] =
            let target = state_there r p there_r h in
            begins_inner (at_number (moved (state_at k (state_in k r p)).entered zs)) (state_in k r p) r target.1
            (subst (λ m. Begins k m (at_number (moved (state_at k (state_in k r p)).entered zs)) (state_in k r p)) size
            (one_begins k tree entries elsewhere (state_in k r p) zs target.0 (subst (λ z. z < length zs) (sym target.1) (in_table zs size))
            (λ q y inner held. none_in_r q y inner (held ∙ target.1))))

    -- so it is after the step
    pub next_still : (x : Standing) (ms : List Move) → at_number zs r ≡ x → Makes k r x ms → May x → x ≢ at.Outside → NextOpen (at_number (moved ms zs))
    next_still x ms is makes may there_x q u us round there =
        ⊎_elim in_r out_r (lies_or_not k tree holder_there q r)
      where
        in_u : Contains (around k q) u
        in_u = subst (λ ws. Contains ws u) (sym round) (head_in u us)

        same : (p : ℕ) → ¬ LiesIn k p r → at_number (moved ms zs) p ≡ at_number zs p
        same p out = moves_inside k tree entries elsewhere state_there r p there_r out x ms makes may zs

        out_r : ¬ LiesIn k q r → IsOpen u (at_number (moved ms zs) (holder k u))
        out_r out =
            subst (IsOpen u) (sym (same (holder k u) (λ up. out (lies_in_outer k tree.nested (around k q) q (holder k u) r refl (deeper u in_u refl) up))))
            (next q u us round (λ e. there (same q out ∙ e)))

        above : holder k u < r → ¬ LiesIn k (holder k u) r
        above lt (itself e) = omega (lt, e, arith)
        above lt (deeper y inner held) = let up = tree.deeper (holder k u) y inner in omega (lt, up, held, arith)

        in_r : LiesIn k q r → IsOpen u (at_number (moved ms zs) (holder k u))
        in_r (deeper y inner held) = inner_by x ms is makes may q y u us inner held round there
        in_r (itself e) =
            let lt : holder k u < r = subst (λ z. holder k u < z) e (tree.deeper q u in_u) in
            subst (IsOpen u) (sym (same (holder k u) (above lt)))
            (next q u us round (λ out. there_x (sym is ∙ (ap (at_number zs) (sym e) ∙ out))))
