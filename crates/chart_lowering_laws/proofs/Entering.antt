-- What entering makes of regions: of those inside a superstate that is entered, each that is reached through initial
-- states alone stands fresh in its own initial state, and the others are left as they were.
use Rattle.std.proofs.Common.{◌≡◌, ◌≢◌, ℕ, zero, suc, ◌+◌, ◌<◌, ◌≤◌, ◌⊎◌, inl, inr, ⊎_elim, Bool, true, false, ◌&&◌, ◌||◌, nat_eq, Option, Some, None, List}
use Rattle.std.proofs.Common.{[], ◌∷◌, ◌++◌, set, length, slice_get, unwrap_or, Contains, refl, sym, ap, subst, ◌∙◌, eqb-true, arith}
use Rattle.chart_machine.specs.declared.standing.Standing.{Standing}
use Rattle.chart_machine.specs.declared.standing.Standing.TheVariants as stand
use Rattle.chart_machine.specs.declared.standing.Move.{Move}
use Rattle.chart_machine.specs.declared.table.Table.{Table}
use Rattle.chart_machine.specs.Table.{state_at, region_at}
use Rattle.chart_machine.specs.Steps.{to, moved}
use Rattle.core_charts.specs.Tests.{at_once, terminations}
use Rattle.scl.specs.Block.{Block}
use Rattle.chart_lowering_laws.specs.Layout.{Layout, all_entered, IsSimple, IsFinal, IsSuper, StandsThere, LiesIn, InRegion, IsRegionOf, IsNumberOf, IsTree}
use Rattle.chart_lowering_laws.specs.Corresponds.{first_standing, fresh}
use Rattle.tick_laws.proofs.Lists.{contains_head, contains_tail, contains_none, contains_cons}
use Rattle.chart_lowering_laws.proofs.NumberTests.{same_or_not, nat_differ, nat_same, same_test}

-- ---- lists of moves

abbrev pub standing_in : List Standing → ℕ → Standing
standing_in regions q = unwrap_or (slice_get regions q) stand.Outside

-- the later one, where there is one
abbrev pub later : Option Standing → Option Standing → Option Standing
later (Some x) first = Some x
later None first = first

abbrev pub only : Bool → Standing → Option Standing
only true x = Some x
only false x = None

-- where the last of these moves puts a region
abbrev pub put : List Move → ℕ → Option Standing
put [] q = None
put (m ∷ moves) q = later (put moves q) (only (nat_eq m.region q) m.standing)

set_same : (regions : List Standing) (q : ℕ) (x : Standing) → q < length regions → standing_in (set regions q x) q ≡ x
set_same [] q x lt = absurd (omega (arith, lt))
set_same (y ∷ regions) zero x lt = refl
set_same (y ∷ regions) (suc q) x lt = set_same regions q x (omega (arith, lt))

set_other : (regions : List Standing) (i q : ℕ) (x : Standing) → i ≢ q → standing_in (set regions i x) q ≡ standing_in regions q
set_other [] i q x differ = refl
set_other (y ∷ regions) zero zero x differ = absurd (differ refl)
set_other (y ∷ regions) zero (suc q) x differ = refl
set_other (y ∷ regions) (suc i) zero x differ = refl
set_other (y ∷ regions) (suc i) (suc q) x differ = set_other regions i q x (λ same. differ (ap suc same))

set_length : (regions : List Standing) (i : ℕ) (x : Standing) → length (set regions i x) ≡ length regions
set_length [] i x = refl
set_length (y ∷ regions) zero x = refl
set_length (y ∷ regions) (suc i) x = ap suc (set_length regions i x)

pub moved_length : (moves : List Move) (regions : List Standing) → length (moved moves regions) ≡ length regions
moved_length [] regions = refl
moved_length (m ∷ moves) regions = moved_length moves (set regions m.region m.standing) ∙ set_length regions m.region m.standing

-- after moves each region stands where the last of its own puts it
pub moved_at : (moves : List Move) (regions : List Standing) (q : ℕ) → q < length regions → standing_in (moved moves regions) q ≡ unwrap_or (put moves q)
    (standing_in regions q)
moved_at [] regions q lt = refl
moved_at (m ∷ moves) regions q lt =
    moved_at moves (set regions m.region m.standing) q (subst (λ n. q < n) (sym (set_length regions m.region m.standing)) lt)
    ∙ by (put moves q) (same_or_not m.region q)
  where
    by : (o : Option Standing) → (m.region ≡ q) ⊎ (m.region ≢ q) → unwrap_or o (standing_in (set regions m.region m.standing) q) ≡ unwrap_or
        (later o (only (nat_eq m.region q) m.standing)) (standing_in regions q)
    by (Some x) same = refl
    by None (inl same) =
        subst (λ i. standing_in (set regions i m.standing) q ≡ m.standing) (sym same) (set_same regions q m.standing lt)
        ∙ sym (ap (λ b. unwrap_or (only b m.standing) (standing_in regions q)) (nat_same m.region q same))
    by None (inr differ) =
        set_other regions m.region q m.standing differ
        ∙ sym (ap (λ b. unwrap_or (only b m.standing) (standing_in regions q)) (nat_differ m.region q differ))

later_later : (a b c : Option Standing) → later (later a b) c ≡ later a (later b c)
later_later (Some x) b c = refl
later_later None b c = refl

pub put_append : (first second : List Move) (q : ℕ) → put (first ++ second) q ≡ later (put second q) (put first q)
put_append [] second q = none_last (put second q)
  where
    none_last : (o : Option Standing) → o ≡ later o None
    none_last (Some x) = refl
    none_last None = refl
put_append (m ∷ first) second q =
    ap (λ o. later o (only (nat_eq m.region q) m.standing)) (put_append first second q)
    ∙ later_later (put second q) (put first q) (only (nat_eq m.region q) m.standing)

later_only : (a b : Bool) (x y z : Standing) → (b ≡ true → y ≡ x) → later (only a x) (only b y) ≡ only (b || a) x
later_only true true x y z same = refl
later_only true false x y z same = refl
later_only false true x y z same = ap Some (same refl)
later_only false false x y z same = refl

pub or_either : (a b : Bool) → (a || b) ≡ true → (a ≡ true) ⊎ (b ≡ true)
or_either true b h = inl refl
or_either false b h = inr h

pub or_first : (a b : Bool) → a ≡ true → (a || b) ≡ true
or_first a b h = cc

pub or_second : (a b : Bool) → b ≡ true → (a || b) ≡ true
or_second true b h = refl
or_second false b h = h

pub and_both : (a b : Bool) → a ≡ true → b ≡ true → (a && b) ≡ true
and_both a b h k = cc

pub and_each : (a b : Bool) → (a && b) ≡ true → (a ≡ true) × (b ≡ true)
and_each true true h = (refl, refl)
and_each true false h = absurd (cc)
and_each false b h = absurd (cc)

-- ---- the way down through initial states

module _ (k : Table) (l : Layout) where
  -- around a region stands superstate u, and between the two only initial states
  abbrev pub opens_up : ℕ → List ℕ → Bool
  opens_up u [] = false
  opens_up u (s ∷ around) = nat_eq s u || (nat_eq (l.initial (state_at k s).holder) s && opens_up u around)

  abbrev pub opened_in : ℕ → ℕ → Bool
  opened_in u q = opens_up u (region_at k q).around

  -- region q is r, or lies inside its initial state and is opened with it
  abbrev pub reaches : ℕ → ℕ → Bool
  reaches r q = nat_eq r q || opened_in (l.initial r) q

  abbrev pub any_reaches : List ℕ → ℕ → Bool
  any_reaches [] q = false
  any_reaches (r ∷ regions) q = reaches r q || any_reaches regions q

  -- what is around contains the superstate that is opened
  pub opened_contains : (u : ℕ) (around : List ℕ) → opens_up u around ≡ true → Contains around u
  opened_contains u [] h = absurd (cc)
  opened_contains u (s ∷ around) h =
      ⊎_elim
      (λ same. subst (Contains (s ∷ around)) (eqb-true s u same) (contains_head s around))
      (λ rest. contains_tail s u around (opened_contains u around (and_each (nat_eq (l.initial (state_at k s).holder) s) (opens_up u around) rest).1))
      (or_either (nat_eq s u) (nat_eq (l.initial (state_at k s).holder) s && opens_up u around) h)

  pub not_opened : (u : ℕ) (around : List ℕ) → ¬ Contains around u → opens_up u around ≡ false
  not_opened u around none = by (opens_up u around) refl
    where
      by : (b : Bool) → opens_up u around ≡ b → b ≡ false
      by true is = absurd (none (opened_contains u around is))
      by false is = refl

  pub reaches_member : (regions : List ℕ) (r q : ℕ) → Contains regions r → reaches r q ≡ true → any_reaches regions q ≡ true
  reaches_member [] r q h is = absurd (contains_none r h)
  reaches_member (x ∷ regions) r q h is =
      ⊎_elim
      (λ same. or_first (reaches x q) (any_reaches regions q) (subst (λ x. reaches x q ≡ true) (sym same) is))
      (λ tail. or_second (reaches x q) (any_reaches regions q) (reaches_member regions r q tail is))
      (contains_cons x r regions h)

  pub member_reaches : (regions : List ℕ) (q : ℕ) → any_reaches regions q ≡ true → (r : ℕ) × Contains regions r × (reaches r q ≡ true)
  member_reaches [] q h = absurd (cc)
  member_reaches (x ∷ regions) q h =
      ⊎_elim
      (λ here. (x, contains_head x regions, here))
      (λ rest. let m : (r : ℕ) × Contains regions r × (reaches r q ≡ true) = member_reaches regions q rest in (m.0, contains_tail x m.0 regions m.1, m.2))
      (or_either (reaches x q) (any_reaches regions q) h)

  module _ (tree : IsTree k l) where
    -- where the initial state of a region of u is around q, and q is opened with it, q is opened with u
    passes_up : (u r : ℕ) → u < length k.states → Contains (state_at k u).regions r → (n q : ℕ) → q < n → IsRegionOf k q → opened_in (l.initial r) q ≡ true →
        opened_in u q ≡ true
    passes_up u r there held zero q lt at h = absurd (omega (arith, lt))
    passes_up u r there held (suc n) q lt at h = ⊎_elim top (below (passes_up u r there held n)) (tree.each q at)
      where
        top : Contains l.top q × ((region_at k q).around ≡ []) → opened_in u q ≡ true
        top t = let none : opens_up (l.initial r) [] ≡ true = subst (λ a. opens_up (l.initial r) a ≡ true) t.1 h in absurd (cc)

        below : ((a : ℕ) → a < n → IsRegionOf k a → opened_in (l.initial r) a ≡ true → opened_in u a ≡ true) → (s : ℕ) × LiesIn k q s → opened_in u q ≡ true
        below further s =
            let i : ℕ = l.initial r in
            let v : ℕ = s.0 in
            let a : ℕ = (state_at k v).holder in
            let lies : IsRegionOf k r × LiesIn k r u = tree.regions u r there held in
            let first : InRegion k r i = tree.initials r lies.0 in
            let less : a < q = s.1.less in
            let here : opens_up i (v ∷ (region_at k a).around) ≡ true = subst (λ x. opens_up i x ≡ true) s.1.around h in
            let up : opens_up u (region_at k a).around ≡ true → nat_eq (l.initial a) v ≡ true → opened_in u q ≡ true = λ x y.
            subst (λ x. opens_up u x ≡ true) (sym s.1.around)
            (or_second (nat_eq v u) (nat_eq (l.initial a) v && opens_up u (region_at k a).around)
            (and_both (nat_eq (l.initial a) v) (opens_up u (region_at k a).around) y x)) in
            ⊎_elim
            (λ same.
            let is : v ≡ i = eqb-true v i same in
            let at_r : a ≡ r = subst (λ w. (state_at k w).holder ≡ r) (sym is) first.holder in
            up
            (subst (λ w. opens_up u (region_at k w).around ≡ true) (sym at_r)
            (subst (λ x. opens_up u x ≡ true) (sym lies.1.around)
            (or_first (nat_eq u u) (nat_eq (l.initial (state_at k u).holder) u && opens_up u (region_at k (state_at k u).holder).around)
            (nat_same u u refl))))
            (nat_same (l.initial a) v (ap l.initial at_r ∙ sym is)))
            (λ rest.
            let each : (nat_eq (l.initial a) v ≡ true) × (opens_up i (region_at k a).around ≡ true) = and_each (nat_eq (l.initial a) v)
            (opens_up i (region_at k a).around) rest in
            up (further a (omega (arith, less, lt)) (tree.holders v s.1.there) each.1) each.0)
            (or_either (nat_eq v i) (nat_eq (l.initial a) v && opens_up i (region_at k a).around) here)

    any_opened : (u : ℕ) → u < length k.states → (q : ℕ) → IsRegionOf k q → any_reaches (state_at k u).regions q ≡ true → opened_in u q ≡ true
    any_opened u there q at h =
        let m : (r : ℕ) × Contains (state_at k u).regions r × (reaches r q ≡ true) = member_reaches (state_at k u).regions q h in
        let lies : IsRegionOf k m.0 × LiesIn k m.0 u = tree.regions u m.0 there m.1 in
        ⊎_elim
        (λ same. subst (λ x. opened_in u x ≡ true) (eqb-true m.0 q same)
        (subst (λ x. opens_up u x ≡ true) (sym lies.1.around)
        (or_first (nat_eq u u) (nat_eq (l.initial (state_at k u).holder) u && opens_up u (region_at k (state_at k u).holder).around) (nat_same u u refl))))
        (λ rest. passes_up u m.0 there m.1 (suc q) q (omega arith) at rest)
        (or_either (nat_eq m.0 q) (opened_in (l.initial m.0) q) m.2)

    opened_any : (u : ℕ) → u < length k.states → (n q : ℕ) → q < n → IsRegionOf k q → opened_in u q ≡ true → any_reaches (state_at k u).regions q ≡ true
    opened_any u there zero q lt at h = absurd (omega (arith, lt))
    opened_any u there (suc n) q lt at h = ⊎_elim top (below (opened_any u there n)) (tree.each q at)
      where
        top : Contains l.top q × ((region_at k q).around ≡ []) → any_reaches (state_at k u).regions q ≡ true
        top t = let none : opens_up u [] ≡ true = subst (λ a. opens_up u a ≡ true) t.1 h in absurd (cc)

        below : ((a : ℕ) → a < n → IsRegionOf k a → opened_in u a ≡ true → any_reaches (state_at k u).regions a ≡ true) → (s : ℕ) × LiesIn k q s →
            any_reaches (state_at k u).regions q ≡ true
        below further s =
            let v : ℕ = s.0 in
            let a : ℕ = (state_at k v).holder in
            let less : a < q = s.1.less in
            let here : opens_up u (v ∷ (region_at k a).around) ≡ true = subst (λ x. opens_up u x ≡ true) s.1.around h in
            ⊎_elim
            (λ same. reaches_member (state_at k u).regions q q (subst (λ w. Contains (state_at k w).regions q) (eqb-true v u same) s.1.held)
            (or_first (nat_eq q q) (opened_in (l.initial q) q) (nat_same q q refl)))
            (λ rest.
            let each : (nat_eq (l.initial a) v ≡ true) × (opens_up u (region_at k a).around ≡ true) = and_each (nat_eq (l.initial a) v)
            (opens_up u (region_at k a).around) rest in
            let up : any_reaches (state_at k u).regions a ≡ true = further a (omega (arith, less, lt)) (tree.holders v s.1.there) each.1 in
            let m : (r : ℕ) × Contains (state_at k u).regions r × (reaches r a ≡ true) = member_reaches (state_at k u).regions a up in
            let to_q : opens_up (l.initial m.0) (v ∷ (region_at k a).around) ≡ true → any_reaches (state_at k u).regions q ≡ true = λ x.
            reaches_member (state_at k u).regions m.0 q m.1
            (or_second (nat_eq m.0 q) (opened_in (l.initial m.0) q) (subst (λ x. opens_up (l.initial m.0) x ≡ true) (sym s.1.around) x)) in
            ⊎_elim
            (λ same. to_q (or_first (nat_eq v (l.initial m.0)) (nat_eq (l.initial a) v && opens_up (l.initial m.0) (region_at k a).around)
            (nat_same v (l.initial m.0) (sym (eqb-true (l.initial a) v each.0) ∙ ap l.initial (sym (eqb-true m.0 a same))))))
            (λ inner. to_q (or_second (nat_eq v (l.initial m.0)) (nat_eq (l.initial a) v && opens_up (l.initial m.0) (region_at k a).around)
            (and_both (nat_eq (l.initial a) v) (opens_up (l.initial m.0) (region_at k a).around) each.0 inner)))
            (or_either (nat_eq m.0 a) (opened_in (l.initial m.0) a) m.2))
            (or_either (nat_eq v u) (nat_eq (l.initial a) v && opens_up u (region_at k a).around) here)

    pub none_reaches : (regions : List ℕ) → ((r : ℕ) → Contains regions r → IsRegionOf k r) → any_reaches regions zero ≡ false
    none_reaches [] each = refl
    none_reaches (r ∷ regions) each = two (nat_eq r zero) (any_reaches regions zero)
        (nat_differ r zero (λ same. let more : zero < r = (each r (contains_head r regions)).0 in absurd (omega (arith, same, more))))
        (none_reaches regions (λ v h. each v (contains_tail r v regions h)))
      where
        two : (a b : Bool) → a ≡ false → b ≡ false → ((a || false) || b) ≡ false
        two false false h i = refl
        two false true h i = absurd (cc)
        two true b h i = absurd (cc)

    opened_is : (u : ℕ) → u < length k.states → (q : ℕ) → IsNumberOf k q → any_reaches (state_at k u).regions q ≡ opened_in u q
    opened_is u there q (inl zero_is) =
        subst (λ q. any_reaches (state_at k u).regions q ≡ opened_in u q) (sym zero_is)
        (none_reaches (state_at k u).regions (λ r held. (tree.regions u r there held).0))
    opened_is u there q (inr at) = same_test (any_reaches (state_at k u).regions q) (opened_in u q) (any_opened u there q at)
        (opened_any u there (suc q) q (omega arith) at)

    -- ---- what entering puts where

    module _ (root : Block) (stands : (s : ℕ) → s < length k.states → StandsThere k root l s) where
      only_one : (a b : Bool) (x y : Standing) → b ≡ false → (a ≡ true → x ≡ y) → only a x ≡ only (a || b) y
      only_one true b x y is same = ap Some (same refl)
      only_one false b x y is same = sym (ap (λ b. only b y) is)

      fresh_is : (r q : ℕ) (x : Standing) (moves : List Move) → (state_at k (l.initial r)).entered ≡ to (state_at k (l.initial r)).holder x ∷ moves →
          nat_eq r q ≡ true → x ≡ fresh k l q
      fresh_is r q x moves is same = ap first_standing (sym is) ∙ ap (fresh k l) (eqb-true r q same)

      -- so far down the tree there is still something
      abbrev Above : ℕ → List ℕ → Type 0
      Above n regions = (r : ℕ) → Contains regions r → IsRegionOf k r × (suc (length k.regions) ≤ r + n)

      abbrev Puts : ℕ → List ℕ → Type 0
      Puts n regions = Above n regions → (q : ℕ) → IsNumberOf k q → put (all_entered k l regions) q ≡ only (any_reaches regions q) (fresh k l q)

      one_entered : (n : ℕ) → ((regions : List ℕ) → (m : ℕ) → n ≡ suc m → Puts m regions) → (r : ℕ) → IsRegionOf k r → suc (length k.regions) ≤ r + n →
          (q : ℕ) → IsNumberOf k q →
          put (state_at k (l.initial r)).entered q ≡ only (reaches r q) (fresh k l q)
      one_entered n below r at enough q at_q = ⊎_elim simple (⊎_elim final super) (stands i first.there)
        where
          i : ℕ
          i = l.initial r

          first : InRegion k r i
          first = tree.initials r at

          alone : (x : Standing) → (state_at k i).entered ≡ to (state_at k i).holder x ∷ [] → ((q : ℕ) → ¬ Contains (region_at k q).around i) →
              put (state_at k i).entered q ≡ only (reaches r q) (fresh k l q)
          alone x is none =
              ap (λ moves. put moves q) is
              ∙ ap (λ h. only (nat_eq h q) x) first.holder
              ∙ only_one (nat_eq r q) (opened_in i q) x (fresh k l q) (not_opened i (region_at k q).around (none q)) (fresh_is r q x [] is)

          simple : IsSimple k root l i → put (state_at k i).entered q ≡ only (reaches r q) (fresh k l q)
          simple h = alone (stand.Trying i (at_once (state_at k i).transitions)) h.entered h.none_inside

          final : IsFinal k root l i → put (state_at k i).entered q ≡ only (reaches r q) (fresh k l q)
          final h = alone stand.Ended h.entered h.none_inside

          super : IsSuper k root l i → put (state_at k i).entered q ≡ only (reaches r q) (fresh k l q)
          super h = by n refl
            where
              x : Standing
              x = stand.Within i (terminations (state_at k i).transitions)

              by : (m : ℕ) → n ≡ m → put (state_at k i).entered q ≡ only (reaches r q) (fresh k l q)
              by zero is = let lt : r < suc (length k.regions) = at.1 in absurd (omega (arith, lt, enough, is))
              by (suc m) is =
                  let deeper : Above m (state_at k i).regions = λ v held.
                  let lies : IsRegionOf k v × LiesIn k v i = tree.regions i v first.there held in
                  let less : (state_at k i).holder < v = lies.1.less in
                  (lies.0, omega (arith, less, enough, is, first.holder)) in
                  ap (λ moves. put moves q) h.entered
                  ∙ ap (λ o. later o (only (nat_eq (state_at k i).holder q) x)) (ap (λ moves. put moves q) h.opened
                  ∙ below (state_at k i).regions m is deeper q at_q ∙ ap (λ b. only b (fresh k l q)) (opened_is i first.there q at_q))
                  ∙ ap (λ w. later (only (opened_in i q) (fresh k l q)) (only (nat_eq w q) x)) first.holder
                  ∙ later_only (opened_in i q) (nat_eq r q) (fresh k l q) x x (fresh_is r q x (state_at k i).opened h.entered)

      puts_all : (n : ℕ) → ((regions : List ℕ) → (m : ℕ) → n ≡ suc m → Puts m regions) → (regions : List ℕ) → Puts n regions
      puts_all n below [] above q at = refl
      puts_all n below (r ∷ regions) above q at =
          let first : IsRegionOf k r × (suc (length k.regions) ≤ r + n) = above r (contains_head r regions) in
          put_append (state_at k (l.initial r)).entered (all_entered k l regions) q
          ∙ ap (λ o. later o (put (state_at k (l.initial r)).entered q)) (puts_all n below regions (λ v h. above v (contains_tail r v regions h)) q at)
          ∙ ap (λ o. later (only (any_reaches regions q) (fresh k l q)) o) (one_entered n below r first.0 first.1 q at)
          ∙ later_only (any_reaches regions q) (reaches r q) (fresh k l q) (fresh k l q) (fresh k l q) (λ h. refl)

      puts : (n : ℕ) (regions : List ℕ) → Puts n regions
      puts zero = puts_all zero (λ regions m is. absurd (omega (arith, is)))
      puts (suc n) = puts_all (suc n) (λ regions m is. subst (λ m. Puts m regions) (omega (arith, is)) (puts n regions))

      -- entering the regions of a superstate puts each region that is opened with it, and no other
      pub puts_opened : (u : ℕ) → u < length k.states → (q : ℕ) → IsNumberOf k q → put (all_entered k l (state_at k u).regions) q ≡ only (opened_in u q)
          (fresh k l q)
      puts_opened u there q at =
          puts (suc (length k.regions)) (state_at k u).regions (λ r held. ((tree.regions u r there held).0, omega arith)) q at
          ∙ ap (λ b. only b (fresh k l q)) (opened_is u there q at)

      -- entering the chart's regions
      pub puts_top : (q : ℕ) → IsNumberOf k q → put (all_entered k l l.top) q ≡ only (any_reaches l.top q) (fresh k l q)
      puts_top q at = puts (suc (length k.regions)) l.top (λ r held. ((tree.tops r held).0, omega arith)) q at
