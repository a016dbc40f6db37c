-- A chart and its core chart side by side: the number of what stands for each state, and what is owed of each one.
use Rattle.std.proofs.Common.{◌≡◌, ℕ, zero, suc, ◌+◌, ◌<◌, ◌≤◌, ◌⊎◌, ⊎_elim, Bool, true, false, Option, Some, None, List, [], ◌∷◌, ◌++◌}
use Rattle.std.proofs.Common.{map, length, slice_get, arith, subst, if◌then◌else◌}
use Rattle.std.specs.Prelude.{reverse}
use Rattle.core_charts.specs.declared.region.Region.{Region}
use Rattle.chart_machine.specs.declared.table.Table.{Table}
use Rattle.chart_machine.specs.declared.table.TablePosition.{TablePosition}
use Rattle.chart_machine.specs.Table.{state_at, region_at, region_numbers, subtree_of_region as table_of_region}
use Rattle.chart_machine.specs.Steps.{state_in, to}
use Rattle.chart_machine.specs.declared.standing.Standing.TheVariants as at
use Rattle.chart_machine.proofs.Outside.{within_or_past}
use Rattle.abort_expansion.specs.declared.flags.Flags.{Flags}
use Rattle.abort_expansion.specs.declared.places.RegionPlaces.{RegionPlaces}
use Rattle.abort_expansion.specs.Flags.{has_join, flags_of, weak_around, local}
use Rattle.abort_expansion.specs.Transitions.{go, on, count_down}
use Rattle.core_charts.specs.Aborts.{has_aborts}
use Rattle.abort_expansion.specs.Superstates.{stays, monitor_transitions}
use Rattle.chart_machine_laws.specs.Tree.{IsThere, around, holder}
use Rattle.abort_expansion_laws.specs.CoreRows.{own, IsState, is_final, IsSuper, IsSimple, simple_row, Images, flags_around}
use Rattle.abort_expansion_laws.specs.CoreRows.{RegionImage, SimpleImage, FinalImage, StayingImage, SplitImage}
use Rattle.abort_expansion_laws.proofs.EnteredAlike.{OpensAlike}

-- what stands for a state, with the places of the states of its region
pub record StateImage : Type 0 where
  pub main : ℕ
  pub entry : ℕ
  pub behind : ℕ
  pub flags : Flags
  pub watcher : ℕ
  pub watching : ℕ
  pub watched : ℕ
  pub places : RegionPlaces
  -- one that stays as it is has nothing behind it
  pub stays_on : Bool

-- both tables, the map of states, what stands for each state, and of each flag its superstate
pub record World : Type 0 where
  pub k : Table
  pub core : Table
  pub m : ℕ → Option ℕ
  pub image : ℕ → StateImage
  pub of_flag : ℕ → ℕ

abbrev pub no_flags : Flags
no_flags = record { strong = None; weak = None; counter = None }

abbrev pub nowhere : RegionPlaces
nowhere = record { states = []; finals = []; left = 0; counter = None }

-- the thread of a region is that of its first state; numbers without a region have threads that the core has not
abbrev pub past_thread : Table → ℕ → ℕ
past_thread core zero = 0
past_thread core (suc r) = suc (length core.regions) + r

abbrev pub thread_by : World → List ℕ → ℕ → ℕ
thread_by w [] r = past_thread w.core r
thread_by w (s ∷ states) r = holder w.core (w.image s).main

abbrev pub places_by : World → List ℕ → RegionPlaces
places_by w [] = nowhere
places_by w (s ∷ states) = (w.image s).places

abbrev pub behind_by : World → StateImage → ℕ → ℕ
behind_by w image s = if image.stays_on then length w.core.states + s else image.behind

abbrev pub images_of : World → Images
images_of w =
    record {
      thread_of = λ r. thread_by w (region_at w.k r).states r;
      places_of = λ r. places_by w (region_at w.k r).states;
      main_of = λ s. (w.image s).main;
      entry_of = λ s. (w.image s).entry;
      behind_of = λ s. behind_by w (w.image s) s;
      flags_of = λ s. (w.image s).flags;
      watcher_of = λ s. (w.image s).watcher;
      watching_of = λ s. (w.image s).watching;
      watched_of = λ s. (w.image s).watched;
    }

-- what a function gives from this number on
module _ {X : Type 0} (f : ℕ → X) where
  abbrev pub ValuesAt : ℕ → List X → Type 0
  ValuesAt n [] = Unit {0}
  ValuesAt n (x ∷ xs) = (f n ≡ x) × ValuesAt (suc n) xs

  pub values_from : (n m : ℕ) (xs : List X) → n ≡ m → ValuesAt n xs → ValuesAt m xs
  values_from n m xs e h = subst (λ n. ValuesAt n xs) e h

  pub values_first : (n : ℕ) (xs ys : List X) → ValuesAt n (xs ++ ys) → ValuesAt n xs
  values_first n [] ys h = tt
  values_first n (x ∷ xs) ys h = (h.0, values_first (suc n) xs ys h.1)

  pub values_second : (n : ℕ) (xs ys : List X) → ValuesAt n (xs ++ ys) → ValuesAt (n + length xs) ys
  values_second n [] ys h = values_from n (n + 0) ys (omega arith) h
  values_second n (x ∷ xs) ys h = values_from (suc n + length xs) (n + suc (length xs)) ys (omega arith) (values_second (suc n) xs ys h.1)

-- what holds of all numbers of a range
abbrev pub Range : (ℕ → Type 0) → ℕ → ℕ → Type 0
Range P low high = (n : ℕ) → low ≤ n → n < high → P n

pub range_none : (P : ℕ → Type 0) (n m : ℕ) → m ≤ n → Range P n m
range_none P n m le i low high = absurd (omega (low, high, le, arith))

pub range_both : (P : ℕ → Type 0) (a b c : ℕ) → Range P a b → Range P b c → Range P a c
range_both P a b c first second n low high = ⊎_elim (λ lt. first n low lt) (λ le. second n le high) (within_or_past n b)

pub range_to : (P : ℕ → Type 0) (a b c : ℕ) → b ≡ c → Range P a b → Range P a c
range_to P a b c e h = subst (Range P a) e h

pub range_one : (P : ℕ → Type 0) (a b : ℕ) → b ≡ suc a → P a → Range P a b
range_one P a b e h n low high = subst P (only a b n e low high) h
  where
    only : (a b n : ℕ) → b ≡ suc a → a ≤ n → n < b → a ≡ n
    only a b n e low high = omega (e, low, high, arith)

pub range_more : (P : ℕ → Type 0) (a b : ℕ) → P a → Range P (suc a) b → Range P a b
range_more P a b h more = range_both P a (suc a) b (range_one P a (suc a) refl_suc h) more
  where
    refl_suc : suc a ≡ suc a
    refl_suc = omega arith

abbrev pub IsFlag : Flags → ℕ → Type 0
IsFlag f x = (f.strong ≡ Some x) ⊎ ((f.weak ≡ Some x) ⊎ (f.counter ≡ Some x))

module _ (w : World) where
  abbrev pub i : Images
  i = images_of w

  abbrev pub around_flags : ℕ → List Flags
  around_flags r = flags_around w.k w.core i r

  -- ---- what is owed of a region and of a state

  pub record RegionFits (r : ℕ) : Type 0 where
    pub here : IsThere w.k r
    pub image : RegionImage w.k w.core i r
    pub encloses : around w.core (i.thread_of r) ≡ map i.main_of (around w.k r)
    -- the first state of its thread stands for one of its states
    pub back : (s : ℕ) × (w.m (state_in w.core (i.thread_of r) 0) ≡ Some s) × (holder w.k s ≡ r)

  pub record FlagsFit (s : ℕ) : Type 0 where
    pub first : ℕ
    pub are : i.flags_of s ≡ flags_of (weak_around (around_flags (holder w.k s))) (own w.k s) first
    pub low : length w.k.variables ≤ first
    pub owned : (x : ℕ) → IsFlag (i.flags_of s) x → w.of_flag x ≡ s
    pub declared : (x : ℕ) → IsFlag (i.flags_of s) x → (name : List ℕ) × (slice_get w.core.variables x ≡ Some (local name))

  pub record WatcherFits (s : ℕ) : Type 0 where
    pub there : IsThere w.core (i.watcher_of s)
    pub row : state_at w.core (i.watching_of s) ≡ simple_row (i.watcher_of s) (i.watching_of s)
        (monitor_transitions (around_flags (holder w.k s)) (i.flags_of s) (own w.k s))
    pub states : (region_at w.core (i.watcher_of s)).states ≡ i.watching_of s ∷ i.watched_of s ∷ []
    pub watched : (state_at w.core (i.watched_of s)).entered ≡ to (i.watcher_of s) at.Ended ∷ []
    pub unmapped : w.m (i.watching_of s) ≡ None

  pub record StateFits (s : ℕ) : Type 0 where
    pub here : IsState w.k s
    pub region : RegionFits (holder w.k s)
    pub mapped : w.m (i.main_of s) ≡ Some s
    pub entry_mapped : w.m (i.entry_of s) ≡ Some s
    pub held : holder w.core (i.main_of s) ≡ i.thread_of (holder w.k s)
    pub simple : IsSimple w.k s → SimpleImage w.k w.core i s
    pub final : is_final w.k s ≡ true → FinalImage w.k w.core i s
    pub staying : IsSuper w.k s → stays (around_flags (holder w.k s)) (own w.k s) ≡ true → StayingImage w.k w.core i s
    pub split : IsSuper w.k s → stays (around_flags (holder w.k s)) (own w.k s) ≡ false → SplitImage w.k w.core i s
    pub split_mapped : IsSuper w.k s → stays (around_flags (holder w.k s)) (own w.k s) ≡ false → w.m (i.behind_of s) ≡ Some s
    pub watcher : IsSuper w.k s → has_aborts (own w.k s) ≡ true → WatcherFits s
    pub watches : IsSuper w.k s → around w.core (i.watcher_of s) ≡ i.main_of s ∷ around w.core (i.thread_of (holder w.k s))
    pub flags : IsSuper w.k s → FlagsFit s
    pub flagless : (state_at w.k s).regions ≡ [] → (i.flags_of s ≡ no_flags) × (has_aborts (own w.k s) ≡ false) × (has_join (own w.k s) ≡ false)
    -- one that is no superstate has nothing inside of it in the core either, and nothing behind it
    pub bare : (state_at w.k s).regions ≡ [] → ((state_at w.core (i.main_of s)).regions ≡ []) × (i.behind_of s ≡ i.main_of s)
    pub behind_past : IsSuper w.k s → stays (around_flags (holder w.k s)) (own w.k s) ≡ true → i.behind_of s ≡ length w.core.states + s
    -- the numbers of its regions
    pub numbered : (regions : List Region) × ((n : ℕ) × ((state_at w.k s).regions ≡ region_numbers (map table_of_region regions) n))
    pub few : length (state_at w.k s).regions < 2147483648
    -- what is entered with it
    pub opens : IsSuper w.k s → OpensAlike w.k w.core i s

  -- each thread of the core is that of a region, or a monitor's
  pub data Origin (t : ℕ) : Type 0 where
    thread : (r : ℕ) → IsThere w.k r → t ≡ i.thread_of r → Origin t
    watcher : (s : ℕ) → IsState w.k s → has_aborts (own w.k s) ≡ true → t ≡ i.watcher_of s → Origin t

  -- for what each core state stands, of a region or a state of the chart; or it has no transitions
  pub data CoreSort (n : ℕ) : Type 0 where
    for_simple : (s : ℕ) → IsSimple w.k s → n ≡ i.main_of s → CoreSort n
    for_super : (s : ℕ) → IsState w.k s → IsSuper w.k s → n ≡ i.main_of s → CoreSort n
    for_entry : (s : ℕ) → IsState w.k s → IsSuper w.k s → n ≡ i.entry_of s → CoreSort n
    for_behind : (s : ℕ) → IsState w.k s → IsSuper w.k s → n ≡ i.behind_of s → CoreSort n
    for_watching : (s : ℕ) → IsState w.k s → has_aborts (own w.k s) ≡ true → n ≡ i.watching_of s → CoreSort n
    -- the new initial state of a region's thread
    for_start : (r target : ℕ) → IsThere w.k r → own w.core n ≡ go true None (on (i.places_of r).counter count_down) target ∷ [] → CoreSort n
    for_nothing : own w.core n ≡ [] → CoreSort n

  pub record CoreStateFits (n : ℕ) : Type 0 where
    pub origin : Origin (holder w.core n)
    pub sort : CoreSort n

  pub record OwnerFits (x : ℕ) : Type 0 where
    pub here : IsState w.k (w.of_flag x)
    pub super : IsSuper w.k (w.of_flag x)

  -- where the states of a region stand, and those of its thread
  pub record InRegion (a b : TablePosition) (flags : List Flags) (places : RegionPlaces) : Type 0 where
    pub region : RegionFits a.holder
    pub thread : i.thread_of a.holder ≡ b.holder
    pub around_chart : around w.k a.holder ≡ a.around
    pub around_core : around w.core b.holder ≡ b.around
    pub forks : b.around ≡ map i.main_of a.around
    pub flags_are : flags ≡ map i.flags_of (reverse a.around)
    pub places_are : i.places_of a.holder ≡ places
