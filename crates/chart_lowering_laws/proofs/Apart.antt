-- Regions are side by side in a chart exactly where their threads are forked apart.
use Rattle.std.proofs.Common.{◌≡◌, ℕ, zero, suc, ◌<◌, ⊎_elim, Option, Some, None, List, [], ◌∷◌, length, slice_get, unwrap_or, Contains, refl, sym, ap, subst}
use Rattle.std.proofs.Common.{◌∙◌, arith}
use Rattle.std.proofs.lemmas.Option.{slice_get_within}
use Rattle.chart_machine.specs.declared.table.Table.{Table}
use Rattle.chart_machine.specs.declared.table.RegionRow.{RegionRow}
use Rattle.chart_machine.specs.Table.{state_at, region_at}
use Rattle.chart_machine.specs.Turns.{holder_of, itself, deeper}
use Rattle.chart_machine.specs.Turns.{LiesIn as LiesUnder, ForkedApart as RegionsApart}
use Rattle.scl.specs.Block.{Fork, End}
use Rattle.scl.specs.Places.{Place, whole, threads_of, IsChild, Descends, Below}
use Rattle.scl.specs.Places.{ForkedApart as ThreadsApart}
use Rattle.scl.specs.Numbering.{Numbered}
use Rattle.chart_lowering_laws.specs.Layout.{Layout, InRegion, IsSuper, LiesIn, IsRegionOf, ForksRegions, of_chart, of_state, Lowers}
use Rattle.tick_laws.proofs.Lists.{contains_head, contains_tail, contains_none, contains_cons}

module _ (k : Table) (p : Numbered) (l : Layout) (low : Lowers k p l) where
  -- a thread that is forked is a region's, and lies in a state of its parent, or in the chart itself
  data ChildOf (u t : ℕ) : Type 0 where
    child_of_chart : t ≡ zero → IsRegionOf k u → (region_at k u).around ≡ [] → ChildOf u t
    child_of_state : (v : ℕ) → InRegion k t v → IsRegionOf k u → LiesIn k u v → ChildOf u t

  forks_child : (t u : ℕ) (threads : List ℕ) → ForksRegions k l t threads → Contains threads u → ChildOf u t
  forks_child t u threads (of_chart is same) h = let top : IsRegionOf k u × ((region_at k u).around ≡ []) =
      low.tree.tops u (subst (λ ts. Contains ts u) same h) in child_of_chart is top.0 top.1
  forks_child t u threads (of_state v within same) h = let lies : IsRegionOf k u × LiesIn k u v = low.tree.regions v u within.there
      (subst (λ ts. Contains ts u) same h) in child_of_state v within lies.0 lies.1

  child_of : (u t : ℕ) → IsChild p.root u t → ChildOf u t
  child_of u t h = forks_child t u (threads_of h.branches) (low.forks t h.node h.branches h.is_fork.rest h.is_fork.place) h.branch

  zero_no_child : (t : ℕ) → ChildOf zero t → ⊥
  zero_no_child t (child_of_chart is there top) = let less : zero < zero = there.0 in absurd (omega (arith, less))
  zero_no_child t (child_of_state v within there lies) = let less : zero < zero = there.0 in absurd (omega (arith, less))

  descends_lies : (n t a : ℕ) → Descends p.root n t a → IsRegionOf k a → LiesUnder k t a
  descends_lies zero t a h there = itself h
  descends_lies (suc n) t a h there = by (child_of t h.0 h.1) (descends_lies n h.0 a h.2 there) n h.2
    where
      zero_up : (n : ℕ) → Descends p.root n zero a → ⊥
      zero_up zero is = let less : zero < a = there.0 in absurd (omega (arith, less, is))
      zero_up (suc n) h = zero_no_child h.0 (child_of zero h.0 h.1)

      by : ChildOf t h.0 → LiesUnder k h.0 a → (n : ℕ) → Descends p.root n h.0 a → LiesUnder k t a
      by (child_of_chart is at top) under n up = absurd (zero_up n (subst (λ w. Descends p.root n w a) is up))
      by (child_of_state v within at lies) (itself same) n up =
          deeper v (subst (λ x. Contains x v) (sym lies.around) (contains_head v (region_at k (state_at k v).holder).around)) (within.holder ∙ same)
      by (child_of_state v within at lies) (deeper s around holder) n up =
          deeper s (subst (λ x. Contains x s) (sym lies.around)
          (contains_tail v s (region_at k (state_at k v).holder).around (subst (λ w. Contains (region_at k w).around s) (sym within.holder) around))) holder

  pub apart : (t u a : ℕ) → ThreadsApart p.root t u a → RegionsApart k t u a
  apart t u a h = by (low.forks a h.fork h.branches h.is_fork.rest h.is_fork.place)
    where
      lies_under : (t left : ℕ) → Below p.root t left → IsRegionOf k left → LiesUnder k t left
      lies_under t left below there = descends_lies below.generations t left below.descends there

      by : ForksRegions k l a (threads_of h.branches) → RegionsApart k t u a
      by (of_chart is same) =
          let left : IsRegionOf k h.left × ((region_at k h.left).around ≡ []) = low.tree.tops h.left (subst (λ ts. Contains ts h.left) same h.left_branch) in
          let right : IsRegionOf k h.right × ((region_at k h.right).around ≡ []) = low.tree.tops h.right
          (subst (λ ts. Contains ts h.right) same h.right_branch) in
          record {
            left = h.left;
            right = h.right;
            beside = record {
              differ = h.differ;
              first = left.0.0;
              second = right.0.0;
              first_there = left.0.1;
              second_there = right.0.1;
              around = left.1
                  ∙ sym right.1;
            };
            r_in = lies_under t h.left h.t_below left.0;
            u_in = lies_under u h.right h.u_below right.0;
            held = ap (holder_of k) left.1 ∙ sym is;
          }
      by (of_state v within same) =
          let left : IsRegionOf k h.left × LiesIn k h.left v = low.tree.regions v h.left within.there (subst (λ ts. Contains ts h.left) same h.left_branch) in
          let right : IsRegionOf k h.right × LiesIn k h.right v = low.tree.regions v h.right within.there
          (subst (λ ts. Contains ts h.right) same h.right_branch) in
          record {
            left = h.left;
            right = h.right;
            beside = record {
              differ = h.differ;
              first = left.0.0;
              second = right.0.0;
              first_there = left.0.1;
              second_there = right.0.1;
              around = left.1.around
                  ∙ sym right.1.around;
            };
            r_in = lies_under t h.left h.t_below left.0;
            u_in = lies_under u h.right h.u_below right.0;
            held = ap (holder_of k) left.1.around ∙ within.holder;
          }

  -- ---- and back

  -- a state with regions is a superstate
  super_of : (v u : ℕ) → LiesIn k u v → IsSuper k p.root l v
  super_of v u lies = ⊎_elim (λ h. absurd (h.none_inside u here)) (⊎_elim (λ h. absurd (h.none_inside u here)) (λ h. h)) (low.states v lies.there)
    where
      here : Contains (region_at k u).around v
      here = subst (λ x. Contains x v) (sym lies.around) (contains_head v (region_at k (state_at k v).holder).around)

  is_child : (u v : ℕ) → LiesIn k u v → IsChild p.root u (state_at k v).holder
  is_child u v lies =
      let h : IsSuper k p.root l v = super_of v u lies in
      record {
        node = h.node;
        branches = h.branches;
        is_fork = record { rest = h.rest; place = h.place };
        branch = subst (λ ts. Contains ts u)
            (sym h.opens.threads) lies.held;
      }

  up_one : (u v a n : ℕ) → LiesIn k u v → Descends p.root n (state_at k v).holder a → Below p.root u a
  up_one u v a n lies h = record { generations = suc n; descends = ((state_at k v).holder, is_child u v lies, h) }

  around_below : (n t s a : ℕ) → t < n → IsRegionOf k t → Contains (region_at k t).around s → (state_at k s).holder ≡ a → Below p.root t a
  around_below zero t s a lt there h holder = absurd (omega (arith, lt))
  around_below (suc n) t s a lt there h holder = ⊎_elim top (lies (λ w less at i. around_below n w s a less at i holder)) (low.tree.each t there)
    where
      top : Contains l.top t × ((region_at k t).around ≡ []) → Below p.root t a
      top i = absurd (contains_none s (subst (λ x. Contains x s) i.1 h))

      lies : ((w : ℕ) → w < n → IsRegionOf k w → Contains (region_at k w).around s → Below p.root w a) → (v : ℕ) × LiesIn k t v → Below p.root t a
      lies further v =
          let w : ℕ = (state_at k v.0).holder in
          let less : w < t = v.1.less in
          ⊎_elim
          (λ same. up_one t v.0 a 0 v.1 (subst (λ z. (state_at k z).holder ≡ a) (sym same) holder))
          (λ tail. let up : Below p.root w a = further w (omega (arith, less, lt)) (low.tree.holders v.0 v.1.there) tail in
          up_one t v.0 a up.generations v.1 up.descends)
          (contains_cons v.0 s (region_at k w).around (subst (λ x. Contains x s) v.1.around h))

  -- what has something around it is a region
  pub region_by : (t s : ℕ) → Contains (region_at k t).around s → IsRegionOf k t
  region_by zero s h = absurd (contains_none s h)
  region_by (suc t) s h = by (slice_get k.regions t) refl
    where
      by : (o : Option RegionRow) → slice_get k.regions t ≡ o → IsRegionOf k (suc t)
      by None is = absurd (contains_none s
          (subst (λ (o : Option RegionRow). Contains (unwrap_or {T = RegionRow} o (record { around = []; states = [] })).around s) is h))
      by (Some row) is = let less : t < length k.regions = slice_get_within k.regions t row is in (omega arith, omega (arith, less))

  below_of : (t left : ℕ) → LiesUnder k t left → Below p.root t left
  below_of t left (itself same) = record { generations = zero; descends = same }
  below_of t left (deeper s around holder) = around_below (suc t) t s left (omega arith) (region_by t s around) around holder

  -- two regions with the same around are branches of one fork
  pub apart_back : (t u a : ℕ) → RegionsApart k t u a → ThreadsApart p.root t u a
  apart_back t u a h = ⊎_elim top lies (low.tree.each h.left left_there)
    where
      left_there : IsRegionOf k h.left
      left_there = (h.beside.first, h.beside.first_there)

      right_there : IsRegionOf k h.right
      right_there = (h.beside.second, h.beside.second_there)

      at_root : Place p.root zero (Fork low.root.node low.root.branches (End low.root.end))
      at_root = subst (Place p.root zero) low.root.is whole

      no_top : Contains l.top h.left × ((region_at k h.left).around ≡ []) → (v : ℕ) × LiesIn k h.right v → ⊥
      no_top top v = contains_none v.0 (subst (λ x. Contains x v.0) (sym v.1.around ∙ sym h.beside.around ∙ top.1)
          (contains_head v.0 (region_at k (state_at k v.0).holder).around))

      top : Contains l.top h.left × ((region_at k h.left).around ≡ []) → ThreadsApart p.root t u a
      top i =
          ⊎_elim
          (λ j. record {
            fork = low.root.node;
            branches = low.root.branches;
            is_fork = record {
              rest = End low.root.end;
              place = subst (λ w. Place p.root w (Fork low.root.node low.root.branches (End low.root.end))) (sym (ap (holder_of k) i.1) ∙ h.held) at_root;
            };
            left = h.left;
            right = h.right;
            left_branch = subst (λ ts. Contains ts h.left) (sym low.root.opens.threads) i.0;
            right_branch = subst (λ ts. Contains ts h.right) (sym low.root.opens.threads) j.0;
            differ = h.beside.differ;
            t_below = below_of t h.left h.r_in;
            u_below = below_of u h.right h.u_in;
          })
          (λ v. absurd (no_top i v))
          (low.tree.each h.right right_there)

      lies : (v : ℕ) × LiesIn k h.left v → ThreadsApart p.root t u a
      lies v =
          ⊎_elim
          (λ j. absurd (contains_none v.0 (subst (λ x. Contains x v.0) (sym v.1.around ∙ h.beside.around ∙ j.1)
          (contains_head v.0 (region_at k (state_at k v.0).holder).around))))
          (λ w.
          let super : IsSuper k p.root l v.0 = super_of v.0 h.left v.1 in
          let same : w.0 ≡ v.0 = heads w.0 v.0 (region_at k (state_at k w.0).holder).around (region_at k (state_at k v.0).holder).around
          (sym w.1.around ∙ sym h.beside.around ∙ v.1.around) in
          record {
            fork = super.node;
            branches = super.branches;
            is_fork = record {
              rest = super.rest;
              place = subst (λ z. Place p.root z (Fork super.node super.branches super.rest))
                  (sym (ap (holder_of k) v.1.around) ∙ h.held) super.place;
            };
            left = h.left;
            right = h.right;
            left_branch = subst (λ ts. Contains ts h.left) (sym super.opens.threads) v.1.held;
            right_branch = subst (λ ts. Contains ts h.right) (sym super.opens.threads) (subst (λ z. Contains (state_at k z).regions h.right) same w.1.held);
            differ = h.beside.differ;
            t_below = below_of t h.left h.r_in;
            u_below = below_of u h.right h.u_in;
          })
          (low.tree.each h.right right_there)
        where
          heads : (x y : ℕ) (xs ys : List ℕ) → x ∷ xs ≡ y ∷ ys → x ≡ y
          heads x y xs ys h = cc
