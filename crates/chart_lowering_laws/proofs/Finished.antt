-- Lists of which each item passes a test; and threads that have all finished.
use Rattle.std.proofs.Common.{◌≡◌, ℕ, suc, ◌+◌, ◌<◌, ⊎_elim, Bool, true, false, ◌&&◌, if◌then◌else◌, List, [], ◌∷◌, filter, length, Contains, refl, sym, ap}
use Rattle.std.proofs.Common.{subst, ◌∙◌, arith}
use Rattle.std.specs.List.{list_all}
use Rattle.chart_machine.specs.declared.standing.Standing.{Standing}
use Rattle.chart_machine.specs.declared.standing.Standing.TheVariants as stand
use Rattle.chart_machine.specs.declared.table.Table.{Table}
use Rattle.chart_machine.specs.declared.table.RegionRow.{RegionRow}
use Rattle.chart_machine.specs.Turns.{numbered_from}
use Rattle.scl.specs.Block.{Block}
use Rattle.scl.specs.Meaning.{State, Doing, Away, Todo, Forked, Resting, Resuming, Finished, doing, all_finished, has_finished}
use Rattle.chart_lowering_laws.specs.Layout.{Layout}
use Rattle.chart_lowering_laws.specs.Corresponds.{Live}
use Rattle.tick_laws.proofs.Lists.{contains_head, contains_tail, contains_none, contains_cons}

-- ---- lists of tests

pub all_each : (f : ℕ → Bool) (xs : List ℕ) → list_all f xs ≡ true → (x : ℕ) → Contains xs x → f x ≡ true
all_each f [] h x there = absurd (contains_none x there)
all_each f (y ∷ xs) h x there =
    let two : (f y ≡ true) × (list_all f xs ≡ true) = both (f y) (list_all f xs) h in
    ⊎_elim (λ same. ap f (sym same) ∙ two.0) (λ tail. all_each f xs two.1 x tail) (contains_cons y x xs there)
  where
    both : (a b : Bool) → (a && b) ≡ true → (a ≡ true) × (b ≡ true)
    both true true h = (refl, refl)
    both true false h = absurd (cc)
    both false b h = absurd (cc)

pub each_all : (f : ℕ → Bool) (xs : List ℕ) → ((x : ℕ) → Contains xs x → f x ≡ true) → list_all f xs ≡ true
each_all f [] each = refl
each_all f (y ∷ xs) each = both (f y) (list_all f xs) (each y (contains_head y xs)) (each_all f xs (λ x h. each x (contains_tail y x xs h)))
  where
    both : (a b : Bool) → a ≡ true → b ≡ true → (a && b) ≡ true
    both a b h k = cc

pub chosen_each : (f : ℕ → Bool) (xs : List ℕ) (q : ℕ) → Contains (filter f xs) q → Contains xs q × (f q ≡ true)
chosen_each f [] q h = absurd (contains_none q h)
chosen_each f (x ∷ xs) q h = by (f x) refl h (chosen_each f xs q)
  where
    by : (b : Bool) → f x ≡ b → Contains (if b then x ∷ filter f xs else filter f xs) q → (Contains (filter f xs) q → Contains xs q × (f q ≡ true)) →
        Contains (x ∷ xs) q × (f q ≡ true)
    by true is h more =
        ⊎_elim
        (λ same. (subst (Contains (x ∷ xs)) same (contains_head x xs), ap f (sym same) ∙ is))
        (λ tail. let m : Contains xs q × (f q ≡ true) = more tail in (contains_tail x q xs m.0, m.1))
        (contains_cons x q (filter f xs) h)
    by false is h more = let m : Contains xs q × (f q ≡ true) = more h in (contains_tail x q xs m.0, m.1)

pub numbered_from_least : (regions : List RegionRow) (n q : ℕ) → Contains (numbered_from n regions) q → (n < suc q) × (q < n + length regions)
numbered_from_least [] n q h = absurd (contains_none q h)
numbered_from_least (r ∷ regions) n q h =
    ⊎_elim
    (λ same. (omega (arith, same), omega (arith, same)))
    (λ tail. let m : (n + 1 < suc q) × (q < (n + 1) + length regions) = numbered_from_least regions (n + 1) q tail in let low : n + 1 < suc q = m.0 in
    let high : q < (n + 1) + length regions = m.1 in (omega (arith, low), omega (arith, high)))
    (contains_cons n q (numbered_from (n + 1) regions) h)

-- ---- who has finished

pub finished_is : (d : Doing) → has_finished d ≡ true → d ≡ Finished
finished_is Away h = absurd (cc)
finished_is (Todo todo) h = absurd (cc)
finished_is (Forked n branches rest) h = absurd (cc)
finished_is (Resting n rest) h = absurd (cc)
finished_is (Resuming n rest) h = absurd (cc)
finished_is Finished h = refl

pub all_have_finished : (s : State) (threads : List ℕ) → all_finished s threads ≡ true → (q : ℕ) → Contains threads q → doing s q ≡ Finished
all_have_finished s threads h q there = finished_is (doing s q) (all_each (λ t. has_finished (doing s t)) threads h q there)

pub finished_all : (s : State) (threads : List ℕ) → ((q : ℕ) → Contains threads q → doing s q ≡ Finished) → all_finished s threads ≡ true
finished_all s threads each = each_all (λ t. has_finished (doing s t)) threads (λ q h. ap has_finished (each q h))

pub ended_is : (k : Table) (root : Block) (l : Layout) (r : ℕ) (x : Standing) → Live k root l r x Finished → x ≡ stand.Ended
ended_is k root l r stand.Outside live = absurd live
ended_is k root l r stand.Ended live = refl
ended_is k root l r (stand.Trying u tests) live = absurd live
ended_is k root l r (stand.Entering u tests) live = absurd live
ended_is k root l r (stand.Guarding u tests) live = absurd live
ended_is k root l r (stand.Acting u [] target) live = absurd live
ended_is k root l r (stand.Acting u (e ∷ effects) target) live = absurd live
ended_is k root l r (stand.Within u tests) live = absurd live
