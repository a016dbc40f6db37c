-- Whose turn it is: who is guarded by a strong abort waits, weak aborts and terminations wait for the inside, a
-- termination for the end of all regions.
use Rattle.std.specs.Prelude.{ℕ, zero, suc, ◌+◌, ◌≡◌, ◌≢◌, ◌<◌, Bool, true, false, Option, Some, None, if◌then◌else◌, not, ◌&&◌, ◌||◌, nat_eq, List, [], ◌∷◌}
use Rattle.std.specs.Prelude.{filter, length, slice_get, unwrap_or, Contains}
use Rattle.std.specs.List.{list_all, list_any}
use Rattle.core_charts.specs.declared.region.Transition.{Transition}
use Rattle.chart_machine.specs.declared.standing.Standing.{Standing}
use Rattle.chart_machine.specs.declared.standing.Standing.TheVariants as at
use Rattle.chart_machine.specs.declared.standing.Configuration.{Configuration}
use Rattle.core_charts.specs.Tests.{is_join}
use Rattle.chart_machine.specs.declared.table.Table.{Table}
use Rattle.chart_machine.specs.declared.table.RegionRow.{RegionRow}
use Rattle.chart_machine.specs.Table.{state_at, region_at}

-- a number without a region counts as outside
abbrev pub standing_of : Configuration → ℕ → Standing
standing_of c r = unwrap_or (slice_get c.regions r) at.Outside

abbrev pub has_ended : Standing → Bool
has_ended at.Ended = true
has_ended other = false

-- a termination is tested only where all regions have ended
abbrev pub may_close : Table → Configuration → ℕ → List Transition → Bool
may_close k c s [] = false
may_close k c s (t ∷ tests) = not (is_join t.kind) || list_all (λ r. has_ended (standing_of c r)) (state_at k s).regions

-- whether there is a test or an effect left for this tick
abbrev pub has_work : Table → Configuration → Standing → Bool
has_work k c (at.Trying s (t ∷ tests)) = true
has_work k c (at.Entering s tests) = true
has_work k c (at.Guarding s tests) = true
has_work k c (at.Acting s effects target) = true
has_work k c (at.Within s tests) = may_close k c s tests
has_work k c other = false

-- strong aborts still have to be tested
abbrev pub guards : Standing → Bool
guards (at.Entering s tests) = true
guards (at.Guarding s tests) = true
guards other = false

-- whether one of these superstates, around a region, has strong aborts to test
abbrev pub is_guarded : Table → Configuration → List ℕ → Bool
is_guarded k c around = list_any (λ s. guards (standing_of c (state_at k s).holder)) around

abbrev pub numbered_from : ℕ → List RegionRow → List ℕ
numbered_from n [] = []
numbered_from n (r ∷ regions) = n ∷ numbered_from (n + 1) regions

-- the regions inside a superstate, however deep
abbrev pub inside : Table → ℕ → List ℕ
inside k s = filter (λ r. list_any (nat_eq s) (region_at k r).around) (numbered_from 1 k.regions)

-- weak aborts and the termination of a superstate have their turn when nobody inside has anything left to do
abbrev pub inside_is_done : Table → Configuration → Standing → Bool
inside_is_done k c (at.Within s tests) = list_all (λ r. not (has_work k c (standing_of c r))) (inside k s)
inside_is_done k c other = true

abbrev pub is_enabled : Table → Configuration → ℕ → Bool
is_enabled k c r =
    has_work k c (standing_of c r) && (not (is_guarded k c (region_at k r).around)
    && inside_is_done k c (standing_of c r))

-- the first of these regions whose turn it is
abbrev pub first_enabled : Table → Configuration → List ℕ → Option ℕ
first_enabled k c [] = None
first_enabled k c (r ∷ order) = if is_enabled k c r then Some r else first_enabled k c order

-- region r is region a, or lies inside it
pub data LiesIn (k : Table) (r a : ℕ) : Type 0 where
  itself : r ≡ a → LiesIn k r a
  deeper : (s : ℕ) → Contains (region_at k r).around s → (state_at k s).holder ≡ a → LiesIn k r a

-- two regions side by side: around both stand the same superstates
pub record SideBySide (k : Table) (left right : ℕ) : Type 0 where
  pub differ : left ≢ right
  pub first : zero < left
  pub second : zero < right
  pub first_there : left < suc (length k.regions)
  pub second_there : right < suc (length k.regions)
  pub around : (region_at k left).around ≡ (region_at k right).around

-- the region that holds the innermost of these superstates; the chart where there is none
abbrev pub holder_of : Table → List ℕ → ℕ
holder_of k [] = zero
holder_of k (s ∷ around) = (state_at k s).holder

-- regions r and u are, or lie inside, different regions of one superstate, which region a holds
pub record ForkedApart (k : Table) (r u a : ℕ) : Type 0 where
  pub left : ℕ
  pub right : ℕ
  pub beside : SideBySide k left right
  pub r_in : LiesIn k r left
  pub u_in : LiesIn k u right
  pub held : holder_of k (region_at k left).around ≡ a
