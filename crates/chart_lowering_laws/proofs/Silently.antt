-- Silent steps of threads: the chart stays where it is, and corresponds to what the threads are at then.
use Rattle.std.proofs.Common.{◌≡◌, ◌≢◌, ℕ, zero, ◌<◌, ◌⊎◌, inl, inr, ⊎_elim, if◌then◌else◌, Some, List, [], ◌∷◌, set, length, slice_get, unwrap_or, Contains}
use Rattle.std.proofs.Common.{refl, sym, ap, subst, ◌∙◌, arith}
use Rattle.core_charts.specs.Tests.{terminations}
use Rattle.chart_machine.specs.declared.standing.Standing.TheVariants as stand
use Rattle.chart_machine.specs.declared.standing.Configuration.{Configuration}
use Rattle.chart_machine.specs.declared.table.Table.{Table}
use Rattle.chart_machine.specs.Table.{state_at, region_at}
use Rattle.chart_machine.specs.Turns.{standing_of}
use Rattle.scl.specs.Block.{Block, End, Branches, NoMore, Branch}
use Rattle.scl.specs.Labels.{settled}
use Rattle.scl.specs.Places.{IsBranch, here, later, threads_of}
use Rattle.scl.specs.Numbering.{Numbered}
use Rattle.scl.specs.Meaning.{State, Doing, Away, Todo, Finished, doing, moved, entered, all_entered}
use Rattle.scl_graph_laws.specs.Standing.{IsStep}
use Rattle.scl_graph_laws.specs.Settling.{Settled}
use Rattle.chart_lowering_laws.specs.Layout.{Layout, InRegion, Opens, LiesIn, IsRegionOf, Lowers}
use Rattle.chart_lowering_laws.specs.Corresponds.{Live, HeldBy, Giving, Nothing, Turn, giving, giving_in, giving_of_root, given, Fits, IsAtRoot, Corresponds}
use Rattle.tick_laws.proofs.Lists.{contains_head, contains_tail, contains_none, contains_cons}
use Rattle.chart_lowering_laws.proofs.NumberTests.{same_or_not, nat_differ, nat_same}
use Rattle.chart_lowering_laws.proofs.Structure.{given_top, given_in}
use Rattle.chart_lowering_laws.proofs.Stepping.{OneMoved, set_doing_same, set_doing_other, set_doing_length}

-- what thread q is at, by a list
abbrev pub doing_in : List Doing → ℕ → Doing
doing_in threads q = unwrap_or (slice_get threads q) Away

-- whether a number stands in a list
pub member_or_not : (xs : List ℕ) (q : ℕ) → Contains xs q ⊎ (¬ Contains xs q)
member_or_not [] q = inr (contains_none q)
member_or_not (x ∷ xs) q =
    ⊎_elim
    (λ same. inl (subst (Contains (x ∷ xs)) same (contains_head x xs)))
    (λ differ. ⊎_elim (λ h. inl (contains_tail x q xs h)) (λ none. inr (λ h. ⊎_elim differ none (contains_cons x q xs h))) (member_or_not xs q))
    (same_or_not x q)

-- ---- the branches of a fork are entered

-- what a thread first has to do whose region was entered
pub record FirstOf (k : Table) (p : Numbered) (l : Layout) (q : ℕ) (d : Doing) : Type 0 where
  pub first : Block
  pub is : d ≡ Todo first
  pub leads : settled p.root (l.begin (l.initial q)) ≡ Some first
  pub is_step : IsStep first

pub record AllEntered (k : Table) (p : Numbered) (l : Layout) (branches : Branches) : Type 0 where
  pub moves : List (ℕ × Doing)
  pub is : all_entered p.root branches ≡ Some moves
  pub keeps_length : (threads : List Doing) → length (moved moves threads) ≡ length threads
  pub others : (threads : List Doing) (q : ℕ) → ¬ Contains (threads_of branches) q → doing_in (moved moves threads) q ≡ doing_in threads q
  pub each : (threads : List Doing) (q : ℕ) → q < length threads → Contains (threads_of branches) q → FirstOf k p l q (doing_in (moved moves threads) q)

module _ (k : Table) (p : Numbered) (l : Layout) (low : Lowers k p l) where
  -- the branches are entered
  branches_entered : (branches : Branches) → ((q : ℕ) → Contains (threads_of branches) q → IsRegionOf k q) →
      ((q : ℕ) (body : Block) → IsBranch branches q body → settled p.root body ≡ settled p.root (l.begin (l.initial q))) → AllEntered k p l branches
  branches_entered NoMore there bodies = record {
    moves = [];
    is = refl;
    keeps_length = λ threads. refl;
    others = λ threads q none. refl;
    each = λ threads q lt h. absurd (contains_none q h);
  }
  branches_entered (Branch t body more) there bodies =
      let rest : AllEntered k p l more = branches_entered more (λ q h. there q (contains_tail t q (threads_of more) h))
      (λ q other h. bodies q other (later t body more q other h)) in
      let at_t : IsRegionOf k t = there t (contains_head t (threads_of more)) in
      let to : Settled p.root (state_at k (l.initial t)).holder (l.begin (l.initial t)) = low.leads (l.initial t) (low.tree.initials t at_t).there in
      let leads : settled p.root body ≡ Some to.first = bodies t body (here t body more) ∙ to.is in
      record {
        moves = (t, Todo to.first) ∷ rest.moves;
        is = ap (λ o. entered t o (all_entered p.root more)) leads ∙ ap (entered t (Some to.first)) rest.is;
        keeps_length = λ threads. rest.keeps_length (set threads t (Todo to.first)) ∙ set_doing_length threads t (Todo to.first);
        others = λ threads q none.
            rest.others (set threads t (Todo to.first)) q (λ h. none (contains_tail t q (threads_of more) h))
            ∙ set_doing_other threads t q (Todo to.first) (λ same. none (subst (Contains (t ∷ threads_of more)) same (contains_head t (threads_of more))));
        each = λ threads q lt h.
            let long : q < length (set threads t (Todo to.first)) = subst (λ n. q < n) (sym (set_doing_length threads t (Todo to.first))) lt in
            ⊎_elim
            (λ later_on. rest.each (set threads t (Todo to.first)) q long later_on)
            (λ none. ⊎_elim
            (λ same. record {
              first = to.first;
              is =
                  rest.others (set threads t (Todo to.first)) q none
                  ∙ subst (λ i. doing_in (set threads i (Todo to.first)) q ≡ Todo to.first) (sym same) (set_doing_same threads q (Todo to.first) lt);
              leads = subst (λ i. settled p.root (l.begin (l.initial i)) ≡ Some to.first) same to.is;
              is_step = to.is_step;
            })
            (λ tail. absurd (none tail))
            (contains_cons t q (threads_of more) h))
            (member_or_not (threads_of more) q);
      }

  pub regions_entered : (regions : List ℕ) (branches : Branches) → Opens p.root l regions branches → ((q : ℕ) → Contains regions q → IsRegionOf k q) →
      AllEntered k p l branches
  regions_entered regions branches opens there = branches_entered branches (λ q h. there q (subst (λ xs. Contains xs q) opens.threads h)) opens.bodies

  module _ (c : Configuration) (s : State) (corr : Corresponds k p l c s) where
    fits_as : (q : ℕ) (g : Giving) → IsRegionOf k q → given k c s (region_at k q).around ≡ g → Fits k p.root l q g (standing_of c q) (doing s q)
    fits_as q g there is = subst (λ g. Fits k p.root l q g (standing_of c q) (doing s q)) is (corr.each q there)

    -- one thread moves silently, and gives what it gave
    pub one_silently : (f : State) (r : ℕ) (d : Doing) → IsRegionOf k r → given k c s (region_at k r).around ≡ Turn → OneMoved s f r d →
        s.variables ≡ f.variables →
        Live k p.root l r (standing_of c r) d → ((u : ℕ) → giving_in u (standing_of c r) d ≡ giving_in u (standing_of c r) (doing s r)) → Corresponds k p l c f
    one_silently f r d at_r turn one same live gives = record {
      variables = corr.variables ∙ same;
      regions = corr.regions;
      threads = one.threads ∙ corr.threads;
      chart = corr.chart;
      root = subst (IsAtRoot p.root) (sym (one.others zero not_zero)) corr.root;
      each = λ q there. ⊎_elim (λ is. subst (λ w. Fits k p.root l w (given k c f (region_at k w).around) (standing_of c w) (doing f w)) (sym is) own)
          (λ differ. other q there differ) (same_or_not q r);
    }
      where
        not_zero : zero ≢ r
        not_zero is = let less : zero < r = at_r.0 in absurd (omega (arith, less, is))

        same_given : (q : ℕ) → IsRegionOf k q → given k c f (region_at k q).around ≡ given k c s (region_at k q).around
        same_given q there =
            ⊎_elim
            (λ t. given_top k c f q t.1 ∙ ap giving_of_root (one.others zero not_zero) ∙ sym (given_top k c s q t.1))
            (λ u.
            let a : ℕ = (state_at k u.0).holder in
            given_in k c f q u.0 u.1
            ∙ ⊎_elim
            (λ is. ap (λ w. giving_in u.0 (standing_of c w) (doing f w)) is ∙ ap (giving_in u.0 (standing_of c r)) one.is_at ∙ gives u.0
            ∙ ap (λ w. giving_in u.0 (standing_of c w) (doing s w)) (sym is))
            (λ differ. ap (giving_in u.0 (standing_of c a)) (one.others a differ))
            (same_or_not a r)
            ∙ sym (given_in k c s q u.0 u.1))
            (low.tree.each q there)

        own : Fits k p.root l r (given k c f (region_at k r).around) (standing_of c r) (doing f r)
        own =
            subst (λ g. Fits k p.root l r g (standing_of c r) (doing f r)) (sym (same_given r at_r ∙ turn))
            (subst (λ d. Live k p.root l r (standing_of c r) d × HeldBy k p.root l r (standing_of c r)) (sym one.is_at) (live, (fits_as r Turn at_r turn).1))

        other : (q : ℕ) → IsRegionOf k q → q ≢ r → Fits k p.root l q (given k c f (region_at k q).around) (standing_of c q) (doing f q)
        other q there differ =
            subst (λ g. Fits k p.root l q g (standing_of c q) (doing f q)) (sym (same_given q there))
            (subst (Fits k p.root l q (given k c s (region_at k q).around) (standing_of c q)) (sym (one.others q differ)) (corr.each q there))

    -- the first thread ends
    pub root_ends : (f : State) (n : ℕ) → doing s zero ≡ Todo (End n) → OneMoved s f zero Finished → s.variables ≡ f.variables → Corresponds k p l c f
    root_ends f n was one same = record {
      variables = corr.variables ∙ same;
      regions = corr.regions;
      threads = one.threads ∙ corr.threads;
      chart = corr.chart;
      root = subst (IsAtRoot p.root) (sym one.is_at) tt;
      each = λ q there.
          let differ : q ≢ zero = λ is. let more : zero < q = there.0 in absurd (omega (arith, more, is)) in
          subst (λ g. Fits k p.root l q g (standing_of c q) (doing f q)) (sym (same_given q there))
          (subst (Fits k p.root l q (given k c s (region_at k q).around) (standing_of c q)) (sym (one.others q differ)) (corr.each q there));
    }
      where
        same_given : (q : ℕ) → IsRegionOf k q → given k c f (region_at k q).around ≡ given k c s (region_at k q).around
        same_given q there =
            ⊎_elim
            (λ t. given_top k c f q t.1 ∙ ap giving_of_root one.is_at ∙ sym (ap giving_of_root was) ∙ sym (given_top k c s q t.1))
            (λ u.
            let a : ℕ = (state_at k u.0).holder in
            let more : zero < a = (low.tree.holders u.0 u.1.there).0 in
            given_in k c f q u.0 u.1 ∙ ap (giving_in u.0 (standing_of c a)) (one.others a (λ is. absurd (omega (arith, more, is))))
            ∙ sym (given_in k c s q u.0 u.1))
            (low.tree.each q there)

    -- ---- a thread and those that it forks move silently

    -- these regions' threads are at something else, and the thread that forks them; the others are as they were
    pub record ForkMoved (f : State) (r : ℕ) (regions : List ℕ) (d : Doing) : Type 0 where
      pub threads : length f.threads ≡ length s.threads
      pub is_at : doing f r ≡ d
      pub others : (q : ℕ) → q ≢ r → ¬ Contains regions q → doing f q ≡ doing s q

    -- the regions of a superstate
    module _ (f : State) (r u : ℕ) (d : Doing) (at_r : IsRegionOf k r) (turn : given k c s (region_at k r).around ≡ Turn) (within : InRegion k r u)
        (stands : standing_of c r ≡ stand.Within u (terminations (state_at k u).transitions)) (one : ForkMoved f r (state_at k u).regions d)
        (same : s.variables ≡ f.variables)
        (live : Live k p.root l r (standing_of c r) d)
        (each : (q : ℕ) → Contains (state_at k u).regions q → (Fits k p.root l q (giving d) (standing_of c q) (doing f q)) × ((v : ℕ) →
        giving_in v (standing_of c q) (doing f q) ≡ giving_in v (standing_of c q) (doing s q))) where
      not_zero : zero ≢ r
      not_zero is = let less : zero < r = at_r.0 in absurd (omega (arith, less, is))

      is_region : (q : ℕ) → Contains (state_at k u).regions q → IsRegionOf k q × LiesIn k q u
      is_region q h = low.tree.regions u q within.there h

      zero_other : ¬ Contains (state_at k u).regions zero
      zero_other h = let more : zero < zero = (is_region zero h).0.0 in absurd (omega (arith, more))

      own_other : ¬ Contains (state_at k u).regions r
      own_other h = let less : (state_at k u).holder < r = (is_region r h).1.less in let is : (state_at k u).holder ≡ r = within.holder in
          absurd (omega (arith, less, is))

      -- what is given to a region that is none of these
      kept_given : (q : ℕ) → IsRegionOf k q → ¬ Contains (state_at k u).regions q → given k c f (region_at k q).around ≡ given k c s (region_at k q).around
      kept_given q there none = ⊎_elim top lies (low.tree.each q there)
        where
          top : Contains l.top q × ((region_at k q).around ≡ []) → given k c f (region_at k q).around ≡ given k c s (region_at k q).around
          top t = given_top k c f q t.1 ∙ ap giving_of_root (one.others zero not_zero zero_other) ∙ sym (given_top k c s q t.1)

          lies : (v : ℕ) × LiesIn k q v → given k c f (region_at k q).around ≡ given k c s (region_at k q).around
          lies v = given_in k c f q v.0 v.1 ∙ ⊎_elim beside (λ differ. ⊎_elim below (elsewhere differ) (member_or_not (state_at k u).regions a))
              (same_or_not a r) ∙ sym (given_in k c s q v.0 v.1)
            where
              w : ℕ
              w = v.0

              a : ℕ
              a = (state_at k v.0).holder

              other_state : w ≢ u
              other_state is = none (subst (λ z. Contains (state_at k z).regions q) is v.1.held)

              closed : (e : Doing) → giving_in w (standing_of c r) e ≡ Nothing
              closed e = ap (λ y. giving_in w y e) stands ∙ ap (λ b. if b then giving e else Nothing) (nat_differ u w (λ is. other_state (sym is)))

              beside : a ≡ r → giving_in w (standing_of c a) (doing f a) ≡ giving_in w (standing_of c a) (doing s a)
              beside is =
                  ap (λ z. giving_in w (standing_of c z) (doing f z)) is
                  ∙ closed (doing f r)
                  ∙ sym (closed (doing s r))
                  ∙ ap (λ z. giving_in w (standing_of c z) (doing s z)) (sym is)

              below : Contains (state_at k u).regions a → giving_in w (standing_of c a) (doing f a) ≡ giving_in w (standing_of c a) (doing s a)
              below h = (each a h).1 w

              elsewhere : a ≢ r → ¬ Contains (state_at k u).regions a → giving_in w (standing_of c a) (doing f a) ≡ giving_in w (standing_of c a) (doing s a)
              elsewhere differ outer = ap (giving_in w (standing_of c a)) (one.others a differ outer)

      given_these : (q : ℕ) → Contains (state_at k u).regions q → given k c f (region_at k q).around ≡ giving d
      given_these q h =
          let lies : LiesIn k q u = (is_region q h).1 in
          given_in k c f q u lies
          ∙ ap (λ z. giving_in u (standing_of c z) (doing f z)) within.holder
          ∙ ap (λ y. giving_in u y (doing f r)) stands
          ∙ ap (λ b. if b then giving (doing f r) else Nothing) (nat_same u u refl)
          ∙ ap giving one.is_at

      by_region : (q : ℕ) → IsRegionOf k q → Fits k p.root l q (given k c f (region_at k q).around) (standing_of c q) (doing f q)
      by_region q there =
          ⊎_elim
          (λ h. subst (λ g. Fits k p.root l q g (standing_of c q) (doing f q)) (sym (given_these q h)) (each q h).0)
          (λ none. ⊎_elim
          (λ is. subst (λ w. Fits k p.root l w (given k c f (region_at k w).around) (standing_of c w) (doing f w)) (sym is)
          (subst (λ g. Fits k p.root l r g (standing_of c r) (doing f r)) (sym (kept_given r at_r own_other ∙ turn))
          (subst (λ d. Live k p.root l r (standing_of c r) d × HeldBy k p.root l r (standing_of c r)) (sym one.is_at) (live, (fits_as r Turn at_r turn).1))))
          (λ differ. subst (λ g. Fits k p.root l q g (standing_of c q) (doing f q)) (sym (kept_given q there none))
          (subst (Fits k p.root l q (given k c s (region_at k q).around) (standing_of c q)) (sym (one.others q differ none)) (corr.each q there)))
          (same_or_not q r))
          (member_or_not (state_at k u).regions q)

      pub fork_silently : Corresponds k p l c f
      fork_silently = record {
        variables = corr.variables ∙ same;
        regions = corr.regions;
        threads = one.threads ∙ corr.threads;
        chart = corr.chart;
        root = subst (IsAtRoot p.root) (sym (one.others zero not_zero zero_other)) corr.root;
        each = by_region;
      }

    -- the regions of the chart itself
    module _ (f : State) (d : Doing) (one : ForkMoved f zero l.top d) (same : s.variables ≡ f.variables) (at_root : IsAtRoot p.root d)
        (each : (q : ℕ) → Contains l.top q → (Fits k p.root l q (giving_of_root d) (standing_of c q) (doing f q)) × ((v : ℕ) →
        giving_in v (standing_of c q) (doing f q) ≡ giving_in v (standing_of c q) (doing s q))) where
      lies_given : (q v : ℕ) → LiesIn k q v → given k c f (region_at k q).around ≡ given k c s (region_at k q).around
      lies_given q v lies =
          let a : ℕ = (state_at k v).holder in
          let more : zero < a = (low.tree.holders v lies.there).0 in
          given_in k c f q v lies
          ∙ ⊎_elim
          (λ h. (each a h).1 v)
          (λ none. ap (giving_in v (standing_of c a)) (one.others a (λ is. absurd (omega (arith, more, is))) none))
          (member_or_not l.top a)
          ∙ sym (given_in k c s q v lies)

      pub top_silently : Corresponds k p l c f
      top_silently = record {
        variables = corr.variables ∙ same;
        regions = corr.regions;
        threads = one.threads ∙ corr.threads;
        chart = corr.chart;
        root = subst (IsAtRoot p.root) (sym one.is_at) at_root;
        each = λ q there.
            ⊎_elim
            (λ t. subst (λ g. Fits k p.root l q g (standing_of c q) (doing f q)) (sym (given_top k c f q t.1 ∙ ap giving_of_root one.is_at)) (each q t.0).0)
            (λ v.
            let differ : q ≢ zero = λ is. let more : zero < q = there.0 in absurd (omega (arith, more, is)) in
            let none : ¬ Contains l.top q = λ h. contains_none v.0
            (subst (λ a. Contains a v.0) (low.tree.tops q h).1
            (subst (λ a. Contains a v.0) (sym v.1.around) (contains_head v.0 (region_at k (state_at k v.0).holder).around))) in
            subst (λ g. Fits k p.root l q g (standing_of c q) (doing f q)) (sym (lies_given q v.0 v.1))
            (subst (Fits k p.root l q (given k c s (region_at k q).around) (standing_of c q)) (sym (one.others q differ none)) (corr.each q there)))
            (low.tree.each q there);
      }
