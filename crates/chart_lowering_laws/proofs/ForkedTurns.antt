-- Who gives the turn has forked, and so has each thread above one that is not away.
use Rattle.chart_lowering_laws.proofs.OtherThreads.{is_forked}
use Rattle.std.proofs.Common.{◌≡◌, ◌≢◌, ℕ, zero, suc, ◌<◌, ◌⊎◌, ⊎_elim, Bool, true, false, if◌then◌else◌, List, [], ◌∷◌}
use Rattle.std.proofs.Common.{Contains, refl, sym, subst, ◌∙◌, arith, nat_eq}
use Rattle.chart_machine.specs.declared.standing.Standing.{Standing}
use Rattle.chart_machine.specs.declared.standing.Standing.TheVariants as stand
use Rattle.chart_machine.specs.declared.standing.Configuration.{Configuration}
use Rattle.chart_machine.specs.declared.table.Table.{Table}
use Rattle.chart_machine.specs.Table.{state_at, region_at}
use Rattle.chart_machine.specs.Turns.{standing_of}
use Rattle.chart_machine.specs.Turns.{ForkedApart as RegionsApart}
use Rattle.scl.specs.Block.{End, Assign, Label, Goto, Pause, If, Fork}
use Rattle.scl.specs.Numbering.{Numbered}
use Rattle.scl.specs.Meaning.{State, Doing, Away, Todo, Forked, Resting, Resuming, Finished, doing}
use Rattle.chart_lowering_laws.specs.Layout.{Layout, LiesIn, IsRegionOf, Lowers}
use Rattle.chart_lowering_laws.specs.Corresponds.{Giving, Nothing, Ready, Turn, Past, giving, giving_in, giving_of_root, given, Fits}
use Rattle.chart_lowering_laws.specs.Corresponds.{Corresponds}
use Rattle.tick_laws.proofs.Lists.{contains_none, contains_cons}
use Rattle.chart_lowering_laws.proofs.Structure.{given_top, given_in}
use Rattle.chart_lowering_laws.proofs.RegionsWait.{forks_around}

pub giving_turn : (d : Doing) → giving d ≡ Turn → is_forked d ≡ true
giving_turn Away h = absurd (cc)
giving_turn (Todo (Fork n branches rest)) h = absurd (cc)
giving_turn (Todo (End n)) h = absurd (cc)
giving_turn (Todo (Assign n x e rest)) h = absurd (cc)
giving_turn (Todo (Label name rest)) h = absurd (cc)
giving_turn (Todo (Goto g name rest)) h = absurd (cc)
giving_turn (Todo (Pause n rest)) h = absurd (cc)
giving_turn (Todo (If n e a b rest)) h = absurd (cc)
giving_turn (Forked n branches rest) h = refl
giving_turn (Resting n rest) h = absurd (cc)
giving_turn (Resuming n rest) h = absurd (cc)
giving_turn Finished h = absurd (cc)

pub root_turn : (d : Doing) → giving_of_root d ≡ Turn → is_forked d ≡ true
root_turn Away h = absurd (cc)
root_turn (Todo todo) h = giving_turn (Todo todo) h
root_turn (Forked n branches rest) h = refl
root_turn (Resting n rest) h = absurd (cc)
root_turn (Resuming n rest) h = absurd (cc)
root_turn Finished h = absurd (cc)

pub giving_in_turn : (u : ℕ) (x : Standing) (d : Doing) → giving_in u x d ≡ Turn → giving d ≡ Turn
giving_in_turn u stand.Outside d h = absurd (cc)
giving_in_turn u stand.Ended d h = absurd (cc)
giving_in_turn u (stand.Trying w tests) d h = absurd (cc)
giving_in_turn u (stand.Entering w tests) d h = absurd (cc)
giving_in_turn u (stand.Guarding w tests) d h = absurd (cc)
giving_in_turn u (stand.Acting w effects target) d h = absurd (cc)
giving_in_turn u (stand.Within w tests) d h = pick (nat_eq w u) h
  where
    pick : (b : Bool) → (if b then giving d else Nothing) ≡ Turn → giving d ≡ Turn
    pick true h = h
    pick false h = absurd (cc)

module _ (k : Table) (p : Numbered) (l : Layout) (low : Lowers k p l) (c : Configuration) (s : State) (corr : Corresponds k p l c s) where
  pub fits_as : (q : ℕ) (g : Giving) → IsRegionOf k q → given k c s (region_at k q).around ≡ g → Fits k p.root l q g (standing_of c q) (doing s q)
  fits_as q g there is = subst (λ g. Fits k p.root l q g (standing_of c q) (doing s q)) is (corr.each q there)

  -- who is not away has its turn
  pub turn_of : (q : ℕ) → IsRegionOf k q → doing s q ≢ Away → given k c s (region_at k q).around ≡ Turn
  turn_of q there here = by (given k c s (region_at k q).around) refl (corr.each q there)
    where
      by : (g : Giving) → given k c s (region_at k q).around ≡ g → Fits k p.root l q g (standing_of c q) (doing s q) →
          given k c s (region_at k q).around ≡ Turn
      by Nothing is fits = absurd (here fits.1)
      by Ready is fits = absurd (here fits.1)
      by Past is fits = absurd (here fits.1)
      by Turn is fits = is

  pub forked_here : (d : Doing) → is_forked d ≡ true → d ≢ Away
  forked_here Away h is = absurd (cc)
  forked_here (Todo todo) h is = absurd (cc)
  forked_here (Forked n branches rest) h is = absurd (cc)
  forked_here (Resting n rest) h is = absurd (cc)
  forked_here (Resuming n rest) h is = absurd (cc)
  forked_here Finished h is = absurd (cc)

  pub parent_forked : (q u : ℕ) → IsRegionOf k q → doing s q ≢ Away → LiesIn k q u → is_forked (doing s (state_at k u).holder) ≡ true
  parent_forked q u there here lies =
      giving_turn (doing s (state_at k u).holder) (giving_in_turn u (standing_of c (state_at k u).holder) (doing s (state_at k u).holder)
      (sym (given_in k c s q u lies) ∙ turn_of q there here))

  -- above a thread that is not away all have forked
  pub above_forked : (n q v : ℕ) → q < n → IsRegionOf k q → doing s q ≢ Away → Contains (region_at k q).around v →
      is_forked (doing s (state_at k v).holder) ≡ true
  above_forked zero q v lt there here h = absurd (omega (arith, lt))
  above_forked (suc n) q v lt there here h = ⊎_elim (λ t. absurd (contains_none v (subst (λ a. Contains a v) t.1 h)))
      (lies (λ w less at not_away i. above_forked n w v less at not_away i)) (low.tree.each q there)
    where
      lies : ((w : ℕ) → w < n → IsRegionOf k w → doing s w ≢ Away → Contains (region_at k w).around v → is_forked (doing s (state_at k v).holder) ≡ true) →
          (u : ℕ) × LiesIn k q u → is_forked (doing s (state_at k v).holder) ≡ true
      lies further u =
          let w : ℕ = (state_at k u.0).holder in
          let less : w < q = u.1.less in
          let parent : is_forked (doing s w) ≡ true = parent_forked q u.0 there here u.1 in
          ⊎_elim
          (λ same. subst (λ z. is_forked (doing s (state_at k z).holder) ≡ true) same parent)
          (λ tail. further w (omega (arith, less, lt)) (low.tree.holders u.0 u.1.there) (forked_here (doing s w) parent) tail)
          (contains_cons u.0 v (region_at k w).around (subst (λ xs. Contains xs v) u.1.around h))

  pub root_forked : (n q : ℕ) → q < n → IsRegionOf k q → doing s q ≢ Away → is_forked (doing s zero) ≡ true
  root_forked zero q lt there here = absurd (omega (arith, lt))
  root_forked (suc n) q lt there here = ⊎_elim (λ t. root_turn (doing s zero) (sym (given_top k c s q t.1) ∙ turn_of q there here))
      (lies (λ w less at not_away. root_forked n w less at not_away)) (low.tree.each q there)
    where
      lies : ((w : ℕ) → w < n → IsRegionOf k w → doing s w ≢ Away → is_forked (doing s zero) ≡ true) → (u : ℕ) × LiesIn k q u →
          is_forked (doing s zero) ≡ true
      lies further u =
          let w : ℕ = (state_at k u.0).holder in
          let less : w < q = u.1.less in
          further w (omega (arith, less, lt)) (low.tree.holders u.0 u.1.there) (forked_here (doing s w) (parent_forked q u.0 there here u.1))

  -- a thread that forks the steps of another apart has forked
  pub apart_forked : (t u a : ℕ) → IsRegionOf k t → doing s t ≢ Away → RegionsApart k t u a → is_forked (doing s a) ≡ true
  apart_forked t u a there here h =
      ⊎_elim
      (λ is. subst (λ w. is_forked (doing s w) ≡ true) (sym is) (root_forked (suc t) t (omega arith) there here))
      (λ v. subst (λ w. is_forked (doing s w) ≡ true) v.2 (above_forked (suc t) t v.0 (omega arith) there here v.1))
      (forks_around k p l low t u a there h)
