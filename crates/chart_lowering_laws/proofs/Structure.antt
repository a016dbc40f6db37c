-- The tree of regions, and what corresponding configurations have in it.
use Rattle.std.proofs.Common.{◌≡◌, ◌≢◌, ℕ, zero, suc, ◌<◌, ◌⊎◌, inl, inr, ⊎_elim, false, List, [], ◌∷◌, Contains, refl, sym, ap, subst, ◌∙◌, arith}
use Rattle.chart_machine.specs.declared.standing.Standing.{Standing}
use Rattle.chart_machine.specs.declared.standing.Standing.TheVariants as stand
use Rattle.chart_machine.specs.declared.standing.Configuration.{Configuration}
use Rattle.chart_machine.specs.declared.table.Table.{Table}
use Rattle.chart_machine.specs.Table.{state_at, region_at}
use Rattle.chart_machine.specs.Turns.{standing_of}
use Rattle.scl.specs.Numbering.{Numbered}
use Rattle.scl.specs.Meaning.{State, Doing, Away, doing}
use Rattle.chart_lowering_laws.specs.Layout.{Layout, LiesIn, IsRegionOf, Lowers}
use Rattle.chart_lowering_laws.specs.Corresponds.{Giving, Nothing, giving_in, giving_of_root, given, Fits, Corresponds}
use Rattle.tick_laws.proofs.Lists.{contains_head, contains_tail, contains_none, contains_cons}
use Rattle.chart_lowering_laws.proofs.NumberTests.{same_or_not}
use Rattle.chart_lowering_laws.proofs.Matching.{around_less, is_within}

-- region q lies inside a state of region r
pub record Inside (k : Table) (r q : ℕ) : Type 0 where
  pub state : ℕ
  pub around : Contains (region_at k q).around state
  pub holder : (state_at k state).holder ≡ r

-- whether one of these superstates is held by region r
some_held : (k : Table) (r : ℕ) (around : List ℕ) → ((s : ℕ) × Contains around s × ((state_at k s).holder ≡ r)) ⊎ ((s : ℕ) → Contains around s →
    (state_at k s).holder ≢ r)
some_held k r [] = inr (λ s h. absurd (contains_none s h))
some_held k r (x ∷ around) =
    ⊎_elim
    (λ same. inl (x, contains_head x around, same))
    (λ differ. ⊎_elim
    (λ deep. inl (deep.0, contains_tail x deep.0 around deep.1, deep.2))
    (λ none. inr (λ s h. ⊎_elim (λ same. subst (λ w. (state_at k w).holder ≢ r) same differ) (λ tail. none s tail) (contains_cons x s around h)))
    (some_held k r around))
    (same_or_not (state_at k x).holder r)

pub inside_or_not : (k : Table) (r q : ℕ) → Inside k r q ⊎ (¬ Inside k r q)
inside_or_not k r q =
    ⊎_elim
    (λ h. inl (record { state = h.0; around = h.1; holder = h.2 }))
    (λ none. inr (λ h. none h.state h.around h.holder))
    (some_held k r (region_at k q).around)

pub given_top : (k : Table) (c : Configuration) (s : State) (q : ℕ) → (region_at k q).around ≡ [] → given k c s (region_at k q).around ≡ giving_of_root
    (doing s zero)
given_top k c s q is = ap (given k c s) is

pub given_in : (k : Table) (c : Configuration) (s : State) (q u : ℕ) → LiesIn k q u → given k c s (region_at k q).around ≡ giving_in u
    (standing_of c (state_at k u).holder) (doing s (state_at k u).holder)
given_in k c s q u lies = ap (given k c s) lies.around

module _ (k : Table) (p : Numbered) (l : Layout) (low : Lowers k p l) where
  -- what lies in a state of r is greater than r
  pub inside_less : (r q : ℕ) → IsRegionOf k q → Inside k r q → r < q
  inside_less r q there h = let less : (state_at k h.state).holder < q = around_less k p l low (suc q) q (omega arith) there h.state h.around in
      let is : (state_at k h.state).holder ≡ r = h.holder in omega (arith, less, is)

  -- inside r, the next superstate around is a state of r, or of a region inside r
  pub inside_parent : (r q u : ℕ) → LiesIn k q u → Inside k r q → ((state_at k u).holder ≡ r) ⊎ Inside k r (state_at k u).holder
  inside_parent r q u lies h =
      ⊎_elim
      (λ same. inl (ap (λ w. (state_at k w).holder) same ∙ h.holder))
      (λ tail. inr (record { state = h.state; around = tail; holder = h.holder }))
      (contains_cons u h.state (region_at k (state_at k u).holder).around (subst (λ a. Contains a h.state) lies.around h.around))

  pub inside_by : (r q u : ℕ) → LiesIn k q u → ((state_at k u).holder ≡ r) ⊎ Inside k r (state_at k u).holder → Inside k r q
  inside_by r q u lies (inl same) =
      record { state = u; around = subst (λ a. Contains a u) (sym lies.around) (contains_head u (region_at k (state_at k u).holder).around); holder = same }
  inside_by r q u lies (inr deep) = record {
    state = deep.state;
    around = subst (λ a. Contains a deep.state) (sym lies.around)
        (contains_tail u deep.state (region_at k (state_at k u).holder).around deep.around);
    holder = deep.holder;
  }

  pub giving_closed : (u : ℕ) (x : Standing) (d : Doing) → is_within x ≡ false → giving_in u x d ≡ Nothing
  giving_closed u stand.Outside d h = refl
  giving_closed u stand.Ended d h = refl
  giving_closed u (stand.Trying s tests) d h = refl
  giving_closed u (stand.Entering s tests) d h = refl
  giving_closed u (stand.Guarding s tests) d h = refl
  giving_closed u (stand.Acting s effects target) d h = refl
  giving_closed u (stand.Within s tests) d h = absurd (cc)

  module _ (c : Configuration) (s : State) (corr : Corresponds k p l c s) where
    fits_as : (q : ℕ) (g : Giving) → IsRegionOf k q → given k c s (region_at k q).around ≡ g → Fits k p.root l q g (standing_of c q) (doing s q)
    fits_as q g there is = subst (λ g. Fits k p.root l q g (standing_of c q) (doing s q)) is (corr.each q there)

    -- nothing inside a region that is in no superstate is entered
    pub closed_below : (r : ℕ) → is_within (standing_of c r) ≡ false → (n q : ℕ) → q < n → IsRegionOf k q → Inside k r q →
        (standing_of c q ≡ stand.Outside) × (doing s q ≡ Away)
    closed_below r closed zero q lt there h = absurd (omega (arith, lt))
    closed_below r closed (suc n) q lt there h = ⊎_elim top (lies (closed_below r closed n)) (low.tree.each q there)
      where
        top : Contains l.top q × ((region_at k q).around ≡ []) → (standing_of c q ≡ stand.Outside) × (doing s q ≡ Away)
        top t = absurd (contains_none h.state (subst (λ a. Contains a h.state) t.1 h.around))

        lies : ((q : ℕ) → q < n → IsRegionOf k q → Inside k r q → (standing_of c q ≡ stand.Outside) × (doing s q ≡ Away)) → (u : ℕ) × LiesIn k q u →
            (standing_of c q ≡ stand.Outside) × (doing s q ≡ Away)
        lies further u =
            let a : ℕ = (state_at k u.0).holder in
            let less : a < q = u.1.less in
            let none : is_within (standing_of c a) ≡ false → (standing_of c q ≡ stand.Outside) × (doing s q ≡ Away) = λ i.
            fits_as q Nothing there (given_in k c s q u.0 u.1 ∙ giving_closed u.0 (standing_of c a) (doing s a) i) in
            ⊎_elim
            (λ same. none (ap (λ w. is_within (standing_of c w)) same ∙ closed))
            (λ deep. none (ap is_within (further a (omega (arith, less, lt)) (low.tree.holders u.0 u.1.there) deep).0))
            (inside_parent r q u.0 u.1 h)
