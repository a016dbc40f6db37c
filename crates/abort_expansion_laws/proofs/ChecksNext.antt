-- Where somebody guards, and nobody around, and all monitors are ready, whoever lies inside is at the check of its strong flag, in a fork, or not there.
use Rattle.std.proofs.Common.{◌≡◌, ◌≢◌, ℕ, Bool, true, false, if◌then◌else◌, nat_eq, Some, List, [], ◌∷◌, ◌++◌, Contains, refl, ap, ◌∙◌}
use Rattle.std.specs.Prelude.{reverse, flat_map}
use Rattle.std.proofs.lemmas.Bool.Decides.{Decides-eqb}
use Rattle.core_charts.specs.declared.region.Transition.{Transition}
use Rattle.core_charts.specs.Aborts.{has_aborts}
use Rattle.chart_machine.specs.declared.standing.Standing.{Standing}
use Rattle.chart_machine.specs.declared.standing.Configuration.{Configuration}
use Rattle.chart_machine.specs.declared.table.Table.{Table}
use Rattle.chart_machine.specs.Table.{state_at}
use Rattle.chart_machine.specs.Turns.{standing_of, guards, is_guarded}
use Rattle.abort_expansion.specs.Transitions.{go, is_raised, check}
use Rattle.chart_machine_laws.proofs.LyingIn.{IsNested, around, holder}
use Rattle.chart_machine_laws.specs.Tree.{IsThere}
use Rattle.abort_expansion_laws.specs.CoreRows.{own, IsState, Images, CoreRows}
use Rattle.abort_expansion_laws.specs.Related.{ahead, front}
use Rattle.abort_expansion_laws.proofs.FrontFirst.{first_of_each}
use Rattle.abort_expansion_laws.proofs.Fronts.{guards_not, guards_here}
use Rattle.abort_expansion_laws.proofs.InsideLeaves.{AloneRows}
use Rattle.abort_expansion_laws.proofs.LookDropped.{look}
use Rattle.abort_expansion_laws.proofs.LooksOuter.{LooksNext, away, at_look}
use Rattle.abort_expansion_laws.proofs.MonitorsReady.{AllReady}
use Rattle.abort_expansion_laws.proofs.SeesFirst.{Sees, out, checks, region_sees}
use Rattle.abort_expansion_laws.proofs.Unchanged.{none_among}

-- the check of flag x is the first of these tests
abbrev pub IsChecked : (x place : ℕ) → List Transition → Type 0
IsChecked x place tests = (b : Bool) × (rest : List Transition) × (tests ≡ go b (Some (is_raised x)) [] place ∷ rest)

module _ (k core : Table) (i : Images) (rows : CoreRows k core i) (lone : AloneRows k core i) (tree : IsNested k)
    (core_children : (s r : ℕ) → Contains (state_at core s).regions r → around core r ≡ s ∷ around core (holder core s))
    (children : (s r : ℕ) → Contains (state_at k s).regions r → around k r ≡ s ∷ around k (holder k s))
    (c d : Configuration) (all : AllReady k core i c d)
    (o x : ℕ) (has : has_aborts (own k o) ≡ true) (flag : (i.flags_of o).strong ≡ Some x) (guards_now : guards (standing_of c (holder k o)) ≡ true)
    (free : is_guarded k c (around k (holder k o)) ≡ false) where
  abbrev pub SeesIt : Standing → Type 0
  SeesIt = Sees k core i rows lone tree core_children children c d all.related o x has flag guards_now (IsChecked x)

  -- in front of the thread of a region the outermost check is the first
  module _ (q : ℕ) (in_o : Contains (around k q) o) (b : Bool) where
    abbrev each : ℕ → List Transition
    each s = ahead k core i b (i.places_of q).left c s

    abbrev others : ℕ → List Transition
    others s = if nat_eq s o then [] else each s

    own_none : others o ≡ []
    own_none = let same : nat_eq o o ≡ true = (Decides-eqb o o).1 refl in rw (same) refl

    others_same : (s : ℕ) → s ≢ o → others s ≡ each s
    others_same s differs = by (nat_eq s o) refl
      where
        by : (e : Bool) → nat_eq s o ≡ e → (if e then [] else each s) ≡ each s
        by true same = absurd (differs ((Decides-eqb s o).0 same))
        by false same = refl

    front_checks : (rest : List Transition) → IsChecked x (i.places_of q).left (front k core i b c q ++ rest)
    front_checks rest = (
      b,
      flat_map others (reverse (around k q)) ++ rest,
      ap (λ zs. zs ++ rest)
          (first_of_each k tree each others o (go b (Some (is_raised x)) [] (i.places_of q).left)
          (guards_here k core i b (i.places_of q).left c o guards_now ∙ ap (check b (i.places_of q).left) flag) own_none
          (λ s outer. guards_not k core i b (i.places_of q).left c s
          (none_among (λ v. guards (standing_of c (holder k v))) (around k (holder k o)) s free outer))
          (around k q) q refl in_o (λ s h ne. others_same s ne)),
    )

  pub region_next : (q : ℕ) → IsThere k q → Contains (around k q) o → SeesIt (standing_of d (i.thread_of q))
  region_next q there in_o =
      region_sees k core i rows lone tree core_children children c d all.related o x has flag guards_now (IsChecked x) q there in_o
      (λ b rest. front_checks q in_o b rest)

  pub monitor_next : (u : ℕ) → IsState k u → has_aborts (own k u) ≡ true → Contains (around k (holder k u)) o → SeesIt (standing_of d (i.watcher_of u))
  monitor_next u there some in_o =
      by (standing_of d (i.watcher_of u)) ((all.ready u).next there some o x in_o flag guards_now free)
    where
      by : (y : Standing) → LooksNext i u x y → SeesIt y
      by _ away = out
      by _ (at_look rest) = checks (i.watching_of u) 1 (look x ∷ rest) (false, rest, refl)
