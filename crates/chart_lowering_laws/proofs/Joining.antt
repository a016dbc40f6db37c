-- The termination of a superstate, and the join of its thread's fork.
use Rattle.std.proofs.Common.{◌≡◌, ◌≢◌, ℕ, zero, suc, ◌+◌, ◌<◌, ◌⊎◌, inl, inr, ⊎_elim, Bool, true, false, ◌||◌, if◌then◌else◌, nat_eq, Option, Some, None}
use Rattle.std.proofs.Common.{List, [], ◌∷◌, ◌++◌, map, filter, set, length, unwrap_or, Contains, refl, sym, ap, subst, ◌∙◌, arith}
use Rattle.std.specs.List.{list_any}
use Rattle.sc_values.specs.declared.value.Value.{Value}
use Rattle.core_charts.specs.Tests.{terminations}
use Rattle.chart_machine.specs.declared.standing.Standing.{Standing}
use Rattle.chart_machine.specs.declared.standing.Standing.TheVariants as stand
use Rattle.chart_machine.specs.declared.standing.Move.{Move}
use Rattle.chart_machine.specs.declared.standing.Configuration.{Configuration}
use Rattle.chart_machine.specs.declared.table.Table.{Table}
use Rattle.chart_machine.specs.declared.table.RegionRow.{RegionRow}
use Rattle.chart_machine.specs.Table.{state_at, region_at}
use Rattle.chart_machine.specs.Turns.{standing_of, numbered_from}
use Rattle.chart_machine.specs.Steps.{to, moved, dropped}
use Rattle.scl.specs.Numbering.{Numbered}
use Rattle.scl.specs.Meaning.{State, Doing, Away, doing}
use Rattle.scl.specs.Meaning.{moved as threads_moved}
use Rattle.chart_lowering_laws.specs.Layout.{Layout, InRegion, LiesIn, IsRegionOf, Lowers}
use Rattle.chart_lowering_laws.specs.Corresponds.{Nothing, Turn, giving, giving_in, given, fresh, Fits, Corresponds}
use Rattle.tick_laws.proofs.Lists.{contains_head, contains_tail, contains_none, contains_cons}
use Rattle.chart_lowering_laws.proofs.NumberTests.{same_or_not, nat_differ, nat_same}
use Rattle.chart_lowering_laws.proofs.Entering.{standing_in, later, only, put, put_append, moved_at, moved_length}
use Rattle.chart_lowering_laws.proofs.Matching.{Comes, opened_by, is_within, not_around, nothing_dropped, later_none}
use Rattle.chart_lowering_laws.proofs.Structure.{Inside, inside_less, inside_by, given_in, giving_closed}
use Rattle.chart_lowering_laws.proofs.Updating.{Elsewhere, After, corresponds_again}
use Rattle.chart_lowering_laws.proofs.Stepping.{opened_inside, number_within, set_doing_other, set_doing_length}
use Rattle.chart_lowering_laws.proofs.Silently.{doing_in, member_or_not}

-- ---- what is dropped

pub list_any_none : (f : ℕ → Bool) (xs : List ℕ) → ((x : ℕ) → Contains xs x → f x ≡ false) → list_any f xs ≡ false
list_any_none f [] none = refl
list_any_none f (x ∷ xs) none = two (f x) (list_any f xs) (none x (contains_head x xs)) (list_any_none f xs (λ y h. none y (contains_tail x y xs h)))
  where
    two : (a b : Bool) → a ≡ false → b ≡ false → (a || b) ≡ false
    two false false h i = refl
    two false true h i = absurd (cc)
    two true b h i = absurd (cc)

list_any_some : (s : ℕ) (xs : List ℕ) → Contains xs s → list_any (nat_eq s) xs ≡ true
list_any_some s [] h = absurd (contains_none s h)
list_any_some s (x ∷ xs) h = ⊎_elim (λ same. one (nat_eq s x) (list_any (nat_eq s) xs) (nat_same s x (sym same)))
    (λ tail. two (nat_eq s x) (list_any (nat_eq s) xs) (list_any_some s xs tail)) (contains_cons x s xs h)
  where
    one : (a b : Bool) → a ≡ true → (a || b) ≡ true
    one a b h = cc

    two : (a b : Bool) → b ≡ true → (a || b) ≡ true
    two true b h = refl
    two false b h = h

numbered_contains : (regions : List RegionRow) (n q : ℕ) → n < suc q → q < n + length regions → Contains (numbered_from n regions) q
numbered_contains [] n q low high = absurd (omega (arith, low, high))
numbered_contains (r ∷ regions) n q low high =
    ⊎_elim
    (λ same. subst (Contains (n ∷ numbered_from (n + 1) regions)) same (contains_head n (numbered_from (n + 1) regions)))
    (λ differ. contains_tail n q (numbered_from (n + 1) regions) (numbered_contains regions (n + 1) q (omega (arith, low, differ)) (omega (arith, high))))
    (same_or_not n q)

-- moves to the outside put a region there, or leave it
outside_or_none : (xs : List ℕ) (q : ℕ) → (put (map (λ r. to r stand.Outside) xs) q ≡ Some stand.Outside) ⊎ (put (map (λ r. to r stand.Outside) xs) q ≡ None)
outside_or_none [] q = inr refl
outside_or_none (x ∷ xs) q = by (put (map (λ r. to r stand.Outside) xs) q) (nat_eq x q) (outside_or_none xs q)
  where
    by : (o : Option Standing) (b : Bool) → (o ≡ Some stand.Outside) ⊎ (o ≡ None) →
        (later o (only b stand.Outside) ≡ Some stand.Outside) ⊎ (later o (only b stand.Outside) ≡ None)
    by (Some y) b (inl is) = inl is
    by (Some y) b (inr is) = absurd (cc)
    by None true is = inl refl
    by None false is = inr refl

put_member : (xs : List ℕ) (q : ℕ) → Contains xs q → put (map (λ r. to r stand.Outside) xs) q ≡ Some stand.Outside
put_member [] q h = absurd (contains_none q h)
put_member (x ∷ xs) q h =
    ⊎_elim
    (λ same. by (put (map (λ r. to r stand.Outside) xs) q) (outside_or_none xs q) (nat_eq x q) (nat_same x q same))
    (λ tail. ap (λ o. later o (only (nat_eq x q) stand.Outside)) (put_member xs q tail))
    (contains_cons x q xs h)
  where
    by : (o : Option Standing) → (o ≡ Some stand.Outside) ⊎ (o ≡ None) → (b : Bool) → b ≡ true → later o (only b stand.Outside) ≡ Some stand.Outside
    by (Some y) (inl is) b h = is
    by (Some y) (inr is) b h = absurd (cc)
    by None is true h = refl
    by None is false h = absurd (cc)

contains_chosen : (f : ℕ → Bool) (xs : List ℕ) (q : ℕ) → f q ≡ true → Contains xs q → Contains (filter f xs) q
contains_chosen f [] q chosen h = absurd (contains_none q h)
contains_chosen f (x ∷ xs) q chosen h = by (f x) refl (contains_chosen f xs q chosen) (contains_cons x q xs h)
  where
    by : (b : Bool) → f x ≡ b → (Contains xs q → Contains (filter f xs) q) → (x ≡ q) ⊎ Contains xs q → Contains (if b then x ∷ filter f xs else filter f xs) q
    by true is more (inl same) = subst (Contains (x ∷ filter f xs)) same (contains_head x (filter f xs))
    by true is more (inr tail) = contains_tail x q (filter f xs) (more tail)
    by false is more (inl same) = let h : f x ≡ true = ap f same ∙ chosen in absurd (cc)
    by false is more (inr tail) = more tail

-- a region inside a superstate is dropped with it
pub all_dropped : (k : Table) (s q : ℕ) → IsRegionOf k q → Contains (region_at k q).around s → put (dropped k s) q ≡ Some stand.Outside
all_dropped k s q there h =
    put_member (filter (λ r. list_any (nat_eq s) (region_at k r).around) (numbered_from 1 k.regions)) q
    (contains_chosen (λ r. list_any (nat_eq s) (region_at k r).around) (numbered_from 1 k.regions) q (list_any_some s (region_at k q).around h)
    (numbered_contains k.regions 1 q (let more : zero < q = there.0 in omega (arith, more)) (let less : q < suc (length k.regions) = there.1 in
    omega (arith, less))))

dropped_or_none : (k : Table) (s q : ℕ) → (put (dropped k s) q ≡ Some stand.Outside) ⊎ (put (dropped k s) q ≡ None)
dropped_or_none k s q = outside_or_none (filter (λ r. list_any (nat_eq s) (region_at k r).around) (numbered_from 1 k.regions)) q

-- ---- the threads of the branches go away

keep_away : (threads : List ℕ) (xs : List Doing) (q : ℕ) → doing_in xs q ≡ Away → doing_in (threads_moved (map (λ u. (u, Away)) threads) xs) q ≡ Away
keep_away [] xs q h = h
keep_away (t ∷ threads) xs q h = keep_away threads (set xs t Away) q (by (same_or_not t q))
  where
    within : (xs : List Doing) (q : ℕ) → doing_in (set xs q Away) q ≡ Away
    within [] q = refl
    within (x ∷ xs) zero = refl
    within (x ∷ xs) (suc q) = within xs q

    by : (t ≡ q) ⊎ (t ≢ q) → doing_in (set xs t Away) q ≡ Away
    by (inl same) = subst (λ i. doing_in (set xs i Away) q ≡ Away) (sym same) (within xs q)
    by (inr differ) = set_doing_other xs t q Away differ ∙ h

pub gone : (threads : List ℕ) (xs : List Doing) (q : ℕ) → Contains threads q → doing_in (threads_moved (map (λ u. (u, Away)) threads) xs) q ≡ Away
gone [] xs q h = absurd (contains_none q h)
gone (t ∷ threads) xs q h =
    ⊎_elim
    (λ same. keep_away threads (set xs t Away) q (subst (λ i. doing_in (set xs i Away) q ≡ Away) (sym same) (within xs q)))
    (λ tail. gone threads (set xs t Away) q tail)
    (contains_cons t q threads h)
  where
    within : (xs : List Doing) (q : ℕ) → doing_in (set xs q Away) q ≡ Away
    within [] q = refl
    within (x ∷ xs) zero = refl
    within (x ∷ xs) (suc q) = within xs q

pub not_gone : (threads : List ℕ) (xs : List Doing) (q : ℕ) → ¬ Contains threads q → doing_in (threads_moved (map (λ u. (u, Away)) threads) xs) q
    ≡ doing_in xs q
not_gone [] xs q none = refl
not_gone (t ∷ threads) xs q none =
    not_gone threads (set xs t Away) q (λ h. none (contains_tail t q threads h))
    ∙ set_doing_other xs t q Away (λ same. none (subst (Contains (t ∷ threads)) same (contains_head t threads)))

pub gone_length : (threads : List ℕ) (xs : List Doing) → length (threads_moved (map (λ u. (u, Away)) threads) xs) ≡ length xs
gone_length [] xs = refl
gone_length (t ∷ threads) xs = gone_length threads (set xs t Away) ∙ set_doing_length xs t Away

module _ (k : Table) (p : Numbered) (l : Layout) (low : Lowers k p l) (c : Configuration) (s : State) (corr : Corresponds k p l c s) where
  outside_by : (q : ℕ) → IsRegionOf k q → given k c s (region_at k q).around ≡ Nothing → (standing_of c q ≡ stand.Outside) × (doing s q ≡ Away)
  outside_by q there is = subst (λ g. Fits k p.root l q g (standing_of c q) (doing s q)) is (corr.each q there)

  -- nothing is entered inside a state that gives nothing
  pub closed_at : (v : ℕ) → ((d : Doing) → giving_in v (standing_of c (state_at k v).holder) d ≡ Nothing) → (n q : ℕ) → q < n → IsRegionOf k q →
      Contains (region_at k q).around v → (standing_of c q ≡ stand.Outside) × (doing s q ≡ Away)
  closed_at v closed zero q lt there h = absurd (omega (arith, lt))
  closed_at v closed (suc n) q lt there h = ⊎_elim top (lies (closed_at v closed n)) (low.tree.each q there)
    where
      top : Contains l.top q × ((region_at k q).around ≡ []) → (standing_of c q ≡ stand.Outside) × (doing s q ≡ Away)
      top t = absurd (contains_none v (subst (λ a. Contains a v) t.1 h))

      lies : ((q : ℕ) → q < n → IsRegionOf k q → Contains (region_at k q).around v → (standing_of c q ≡ stand.Outside) × (doing s q ≡ Away)) →
          (u : ℕ) × LiesIn k q u → (standing_of c q ≡ stand.Outside) × (doing s q ≡ Away)
      lies further u =
          let a : ℕ = (state_at k u.0).holder in
          let less : a < q = u.1.less in
          ⊎_elim
          (λ same. outside_by q there (given_in k c s q u.0 u.1
          ∙ subst (λ w. giving_in w (standing_of c (state_at k w).holder) (doing s (state_at k w).holder) ≡ Nothing) (sym same)
          (closed (doing s (state_at k v).holder))))
          (λ tail. outside_by q there (given_in k c s q u.0 u.1 ∙ giving_closed k p l low u.0 (standing_of c a) (doing s a)
          (ap is_within (further a (omega (arith, less, lt)) (low.tree.holders u.0 u.1.there) tail).0)))
          (contains_cons u.0 v (region_at k a).around (subst (λ x. Contains x v) u.1.around h))

  -- where all regions of a superstate have ended, nothing further inside is entered
  pub done_below : (u : ℕ) → ((q : ℕ) → Contains (state_at k u).regions q → standing_of c q ≡ stand.Ended) → (n q : ℕ) → q < n → IsRegionOf k q →
      Contains (region_at k q).around u →
      Contains (state_at k u).regions q ⊎ ((standing_of c q ≡ stand.Outside) × (doing s q ≡ Away))
  done_below u ended zero q lt there h = absurd (omega (arith, lt))
  done_below u ended (suc n) q lt there h = ⊎_elim top (lies (done_below u ended n)) (low.tree.each q there)
    where
      top : Contains l.top q × ((region_at k q).around ≡ []) → Contains (state_at k u).regions q ⊎ ((standing_of c q ≡ stand.Outside) × (doing s q ≡ Away))
      top t = absurd (contains_none u (subst (λ a. Contains a u) t.1 h))

      lies : ((q : ℕ) → q < n → IsRegionOf k q → Contains (region_at k q).around u →
          Contains (state_at k u).regions q ⊎ ((standing_of c q ≡ stand.Outside) × (doing s q ≡ Away))) →
          (v : ℕ) × LiesIn k q v → Contains (state_at k u).regions q ⊎ ((standing_of c q ≡ stand.Outside) × (doing s q ≡ Away))
      lies further v =
          let a : ℕ = (state_at k v.0).holder in
          let less : a < q = v.1.less in
          let none : is_within (standing_of c a) ≡ false → (standing_of c q ≡ stand.Outside) × (doing s q ≡ Away) = λ i.
          outside_by q there (given_in k c s q v.0 v.1 ∙ giving_closed k p l low v.0 (standing_of c a) (doing s a) i) in
          ⊎_elim
          (λ same. inl (subst (λ w. Contains (state_at k w).regions q) same v.1.held))
          (λ tail. inr (⊎_elim (λ direct. none (ap is_within (ended a direct))) (λ deep. none (ap is_within deep.0))
          (further a (omega (arith, less, lt)) (low.tree.holders v.0 v.1.there) tail)))
          (contains_cons v.0 u (region_at k a).around (subst (λ x. Contains x u) v.1.around h))

  -- the termination of superstate u is taken
  module _ (r u : ℕ) (at_r : IsRegionOf k r) (turn : given k c s (region_at k r).around ≡ Turn) (within : InRegion k r u)
      (stands : standing_of c r ≡ stand.Within u (terminations (state_at k u).transitions))
      (ended : (q : ℕ) → Contains (state_at k u).regions q → standing_of c q ≡ stand.Ended) where
    no_state : ¬ Contains (region_at k r).around u
    no_state = not_around k p l low r u at_r within.holder

    -- what is inside region r, apart from what is inside u
    beside : (q : ℕ) → IsRegionOf k q → Inside k r q → Contains (region_at k q).around u ⊎ ((standing_of c q ≡ stand.Outside) × (doing s q ≡ Away))
    beside q there h = ⊎_elim (λ here. inl here) (λ none. inr (closed_at h.state (closed none) (suc q) q (omega arith) there h.around))
        (member_or_not (region_at k q).around u)
      where
        closed : ¬ Contains (region_at k q).around u → (d : Doing) → giving_in h.state (standing_of c (state_at k h.state).holder) d ≡ Nothing
        closed none d =
            ap (λ w. giving_in h.state (standing_of c w) d) h.holder
            ∙ ap (λ y. giving_in h.state y d) stands
            ∙ ap (λ b. if b then giving d else Nothing) (nat_differ u h.state (λ same. none (subst (Contains (region_at k q).around) (sym same) h.around)))

    -- inside region r every thread is away, apart from those of u
    away_below : (q : ℕ) → IsRegionOf k q → Inside k r q → ¬ Contains (state_at k u).regions q → doing s q ≡ Away
    away_below q there h none =
        ⊎_elim
        (λ here. ⊎_elim (λ direct. absurd (none direct)) (λ deep. deep.1) (done_below u ended (suc q) q (omega arith) there here))
        (λ out. out.1)
        (beside q there h)

    either : (b : Bool) (x y : Standing) (o : Option Standing) → (o ≡ Some stand.Outside) ⊎ ((o ≡ None) × (y ≡ stand.Outside)) →
        unwrap_or (later (only b x) o) y ≡ (if b then x else stand.Outside)
    either true x y o h = refl
    either false x y o (inl is) = ap (λ o. unwrap_or o y) is
    either false x y o (inr is) = ap (λ o. unwrap_or o y) is.0 ∙ is.1

    pub joined : (variables : List Value) (moves : List Move) (d : Doing) → Comes k p.root l r moves d → (f : State) → variables ≡ f.variables →
        length f.threads ≡ length s.threads → doing f r ≡ d →
        ((q : ℕ) → Contains (state_at k u).regions q → doing f q ≡ Away) → ((q : ℕ) → q ≢ r → ¬ Contains (state_at k u).regions q → doing f q ≡ doing s q) →
        After k p l c r (record { variables = variables; regions = moved (dropped k u ++ moves) c.regions }) f
    joined variables moves d comes f same long is_at away others = (again, left)
      where
        not_there : (q : ℕ) → ¬ Inside k r q → (b : Bool) → opened_by k l comes.standing q ≡ b → opened_by k l comes.standing q ≡ false
        not_there q outer true is = absurd (outer (opened_inside k p l low c s corr r q comes.standing comes.held is))
        not_there q outer false is = is

        left : Elsewhere k c (record { variables = variables; regions = moved (dropped k u ++ moves) c.regions }) r
        left q there differ outer =
            moved_at (dropped k u ++ moves) c.regions q (number_within k p l low c s corr q there)
            ∙ ap (λ o. unwrap_or o (standing_in c.regions q))
            (put_append (dropped k u) moves q
            ∙ ap (later (put moves q)) (nothing_dropped k u q (λ h. outer (record { state = u; around = h; holder = within.holder })))
            ∙ later_none (put moves q)
            ∙ comes.inner q there differ
            ∙ ap (λ b. only b (fresh k l q)) (not_there q outer (opened_by k l comes.standing q) refl))

        again : Corresponds k p l (record { variables = variables; regions = moved (dropped k u ++ moves) c.regions }) f
        again =
            corresponds_again k p l low c (record { variables = variables; regions = moved (dropped k u ++ moves) c.regions }) s f r at_r corr turn (record {
              variables = same;
              regions = moved_length (dropped k u ++ moves) c.regions;
              threads = long;
              standing = comes.standing;
              does = d;
              stands =
                  moved_at (dropped k u ++ moves) c.regions r (number_within k p l low c s corr r (inr at_r))
                  ∙ ap (λ o. unwrap_or o (standing_in c.regions r)) (put_append (dropped k u) moves r ∙ ap (λ o. later o (put (dropped k u) r)) comes.puts);
              is_at = is_at;
              live = comes.live;
              held = comes.held;
              ready = comes.ready;
              elsewhere = λ q there differ outer. (
                left q there differ outer,
                others q differ (λ h. outer (inside_by k p l low r q u (low.tree.regions u q within.there h).1 (inl within.holder))),
              );
              below = λ q there inner.
                  let differ : q ≢ r = λ is. let more : r < q = inside_less k p l low r q there inner in absurd (omega (arith, more, is)) in (
                    moved_at (dropped k u ++ moves) c.regions q (number_within k p l low c s corr q (inr there))
                        ∙ ap (λ o. unwrap_or o (standing_in c.regions q)) (put_append (dropped k u) moves q ∙ ap (λ o. later o (put (dropped k u) q))
                        (comes.inner q (inr there) differ))
                        ∙ either (opened_by k l comes.standing q) (fresh k l q) (standing_in c.regions q) (put (dropped k u) q)
                        (⊎_elim (λ here. inl (all_dropped k u q there here))
                        (λ out. ⊎_elim (λ put. inl put) (λ none. inr (none, out.0)) (dropped_or_none k u q)) (beside q there inner)),
                    ⊎_elim (away q) (λ none. others q differ none ∙ away_below q there inner none) (member_or_not (state_at k u).regions q),
                  );
            })
