-- Where regions stand and what threads are at before the first tick, and as a tick starts.
use Rattle.std.proofs.Common.{◌≡◌, ℕ, zero, suc, ◌<◌, true, Option, List, [], ◌∷◌, map, replicate, length, refl, sym, ap, arith}
use Rattle.std.proofs.lemmas.List.{length-map}
use Rattle.std.specs.List.{list_all}
use Rattle.chart_machine.specs.declared.standing.Standing.{Standing}
use Rattle.chart_machine.specs.declared.standing.Standing.TheVariants as stand
use Rattle.chart_machine.specs.Machine.{is_outside}
use Rattle.scl.specs.Block.{Block, End, Assign, Label, Goto, Pause, If, Fork}
use Rattle.scl.specs.Labels.{settled}
use Rattle.scl.specs.Meaning.{Doing, Away, Todo, Forked, Resting, Resuming, Finished, root_started, threads_at_start}
use Rattle.scl.specs.Meaning.{woken as doing_woken}
use Rattle.chart_machine.specs.declared.table.Table.{Table}
use Rattle.chart_lowering_laws.specs.Layout.{Layout}
use Rattle.chart_lowering_laws.specs.Corresponds.{Live, Nothing, giving, giving_of_root}
use Rattle.chart_lowering_laws.proofs.Entering.{standing_in, and_each, and_both}
use Rattle.chart_lowering_laws.proofs.Silently.{doing_in}

pub outside_in : {X : Type 0} (xs : List X) (q : ℕ) → standing_in (map (λ x. stand.Outside) xs) q ≡ stand.Outside
outside_in [] q = refl
outside_in (x ∷ xs) zero = refl
outside_in (x ∷ xs) (suc q) = outside_in xs q

pub away_in : (n q : ℕ) → doing_in (replicate n Away) q ≡ Away
away_in zero q = refl
away_in (suc n) zero = refl
away_in (suc n) (suc q) = away_in n q

pub standing_map : (f : Standing → Standing) (xs : List Standing) (q : ℕ) → f stand.Outside ≡ stand.Outside → standing_in (map f xs) q ≡ f (standing_in xs q)
standing_map f [] q h = sym h
standing_map f (x ∷ xs) zero h = refl
standing_map f (x ∷ xs) (suc q) h = standing_map f xs q h

pub doing_map : (xs : List Doing) (q : ℕ) → doing_in (map doing_woken xs) q ≡ doing_woken (doing_in xs q)
doing_map [] q = refl
doing_map (x ∷ xs) zero = refl
doing_map (x ∷ xs) (suc q) = doing_map xs q

pub all_outside : (xs : List Standing) → list_all is_outside xs ≡ true → (q : ℕ) → standing_in xs q ≡ stand.Outside
all_outside [] h q = refl
all_outside (x ∷ xs) h zero = is x (and_each (is_outside x) (list_all is_outside xs) h).0
  where
    is : (x : Standing) → is_outside x ≡ true → x ≡ stand.Outside
    is stand.Outside h = refl
    is stand.Ended h = absurd (cc)
    is (stand.Trying u tests) h = absurd (cc)
    is (stand.Entering u tests) h = absurd (cc)
    is (stand.Guarding u tests) h = absurd (cc)
    is (stand.Acting u effects target) h = absurd (cc)
    is (stand.Within u tests) h = absurd (cc)
all_outside (x ∷ xs) h (suc q) = all_outside xs (and_each (is_outside x) (list_all is_outside xs) h).1 q

pub outside_all : (xs : List Standing) → ((q : ℕ) → q < length xs → standing_in xs q ≡ stand.Outside) → list_all is_outside xs ≡ true
outside_all [] h = refl
outside_all (x ∷ xs) h = and_both (is_outside x) (list_all is_outside xs) (ap is_outside (h 0 (omega arith)))
    (outside_all xs (λ q less. h (suc q) (omega (arith, less))))

pub start_first : (root : Block) (entry : Option Block) (ts : List Doing) → zero < length ts → settled root root ≡ entry →
    doing_in (threads_at_start root ts) zero ≡ root_started entry (doing_in ts zero)
start_first root entry [] lt is = absurd (omega (arith, lt))
start_first root entry (d ∷ ts) lt is = ap (λ o. root_started o d) is

pub start_later : (root : Block) (ts : List Doing) (q : ℕ) → doing_in (threads_at_start root ts) (suc q) ≡ doing_woken (doing_in ts (suc q))
start_later root [] q = refl
start_later root (d ∷ ts) q = doing_map ts q

pub start_length : (root : Block) (ts : List Doing) → length (threads_at_start root ts) ≡ length ts
start_length root [] = refl
start_length root (d ∷ ts) = ap suc (length-map ts doing_woken)

pub root_away : (d : Doing) → giving_of_root d ≡ Nothing → d ≡ Away
root_away Away h = refl
root_away (Todo (Fork n branches more)) h = absurd (cc)
root_away (Todo (End n)) h = absurd (cc)
root_away (Todo (Assign n x e more)) h = absurd (cc)
root_away (Todo (Label name more)) h = absurd (cc)
root_away (Todo (Goto g name more)) h = absurd (cc)
root_away (Todo (Pause n more)) h = absurd (cc)
root_away (Todo (If n e a b more)) h = absurd (cc)
root_away (Forked n branches more) h = absurd (cc)
root_away (Resting n more) h = absurd (cc)
root_away (Resuming n more) h = absurd (cc)
root_away Finished h = absurd (cc)

pub giving_woken : (d : Doing) → giving (doing_woken d) ≡ giving d
giving_woken Away = refl
giving_woken (Todo todo) = refl
giving_woken (Forked n branches more) = refl
giving_woken (Resting n more) = refl
giving_woken (Resuming n more) = refl
giving_woken Finished = refl

pub root_giving : (d : Doing) → giving_of_root (doing_woken d) ≡ giving_of_root d
root_giving Away = refl
root_giving (Todo todo) = refl
root_giving (Forked n branches more) = refl
root_giving (Resting n more) = refl
root_giving (Resuming n more) = refl
root_giving Finished = refl

-- where a region stands outside, its thread is at nothing
pub not_live : (k : Table) (root : Block) (l : Layout) (q : ℕ) (d : Doing) → Live k root l q stand.Outside d → ⊥
not_live k root l q Away live = live
not_live k root l q (Todo todo) live = live
not_live k root l q (Forked n branches more) live = live
not_live k root l q (Resting n more) live = live
not_live k root l q (Resuming n more) live = live
not_live k root l q Finished live = live
