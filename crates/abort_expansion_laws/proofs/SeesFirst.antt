-- Whoever lies in a guarded superstate, and is there, be it a region or a monitor, looks at its strong flag before anything else but those
-- further out.
use Rattle.std.proofs.Common.{◌≡◌, ℕ, ◌⊎◌, inl, inr, Bool, true, false, not, ◌||◌, Some, List, [], ◌∷◌, ◌++◌, map}
use Rattle.std.proofs.Common.{Contains, refl, sym, ap, subst, ◌∙◌}
use Rattle.std.specs.Prelude.{reverse}
use Rattle.std.proofs.lemmas.List.{append_assoc, append-nil}
use Rattle.core_charts.specs.declared.region.Transition.{Transition}
use Rattle.core_charts.specs.Aborts.{has_aborts}
use Rattle.chart_machine.specs.declared.standing.Standing.{Standing}
use Rattle.chart_machine.specs.declared.standing.Standing.TheVariants as at
use Rattle.chart_machine.specs.declared.standing.Configuration.{Configuration}
use Rattle.chart_machine.specs.declared.table.Table.{Table}
use Rattle.chart_machine.specs.Table.{state_at}
use Rattle.chart_machine.specs.Turns.{standing_of, guards}
use Rattle.abort_expansion.specs.Transitions.{check, led, strong_checks}
use Rattle.abort_expansion.specs.Superstates.{stays}
use Rattle.chart_machine_laws.proofs.LyingIn.{IsNested, around, holder}
use Rattle.chart_machine_laws.specs.Tree.{IsThere}
use Rattle.abort_expansion_laws.specs.CoreRows.{own, IsState, joins, Images, CoreRows, flags_around}
use Rattle.abort_expansion_laws.specs.Related.{IsCalm, ahead, front, held_back, tests_of, Stands, outside}
use Rattle.abort_expansion_laws.specs.Related.{ended, left}
use Rattle.abort_expansion_laws.specs.Related.{trying, acting, entering, guarding, staying, within, behind}
use Rattle.abort_expansion_laws.specs.Related.{Related, LooksFirst, looks_never, looks_first}
use Rattle.abort_expansion_laws.proofs.Fronts.{guards_not, guards_here}
use Rattle.abort_expansion_laws.proofs.ChecksUpTo.{ChecksUpTo, strong_around, up_to_own}
use Rattle.abort_expansion_laws.proofs.InsideLeaves.{AloneRows}
use Rattle.abort_expansion_laws.proofs.AbortsHere.{aborts_here}
use Rattle.abort_expansion_laws.proofs.CalmStandings.{calm_acting, calm_entering}
use Rattle.abort_expansion_laws.proofs.YetToLook.{in_reversed, checks_are}

module _ (k core : Table) (i : Images) (rows : CoreRows k core i) (lone : AloneRows k core i) (tree : IsNested k)
    (core_children : (s r : ℕ) → Contains (state_at core s).regions r → around core r ≡ s ∷ around core (holder core s))
    (children : (s r : ℕ) → Contains (state_at k s).regions r → around k r ≡ s ∷ around k (holder k s))
    (c d : Configuration) (related : Related k core i c d)
    (o x : ℕ) (has : has_aborts (own k o) ≡ true) (flag : (i.flags_of o).strong ≡ Some x) (guards_now : guards (standing_of c (holder k o)) ≡ true) where
  -- who is there stands in a fork, has ended, or tries tests that begin so
  pub data Sees (Begins : (place : ℕ) → List Transition → Type 0) : Standing → Type 0 where
    out : Sees Begins at.Outside
    over : Sees Begins at.Ended
    checks : (n place : ℕ) (tests : List Transition) → Begins place tests → Sees Begins (at.Trying n tests)
    forks : (n : ℕ) (w : Transition) (rest : List Transition) → Sees Begins (at.Within n (w ∷ rest))

  -- so does the thread of each region, where what stands in front does
  module _ (Begins : (place : ℕ) → List Transition → Type 0) (q : ℕ) (there : IsThere k q) (in_o : Contains (around k q) o)
      (fronts : (b : Bool) (rest : List Transition) → Begins (i.places_of q).left (front k core i b c q ++ rest)) where
    by_trying : (s : ℕ) (tests : List Transition) → Sees Begins (at.Trying (i.main_of s) (tests_of k core i c q tests))
    by_trying s tests =
        checks (i.main_of s) (i.places_of q).left (tests_of k core i c q tests)
        (subst (Begins (i.places_of q).left)
        (sym (append_assoc (front k core i false c q) (map (led (i.places_of q)) tests) (held_back k core i q)))
        (fronts false (map (led (i.places_of q)) tests ++ held_back k core i q)))

    by_behind : (s : ℕ) → Sees Begins (at.Trying (i.behind_of s) (front k core i true c q ++ held_back k core i q))
    by_behind s = checks (i.behind_of s) (i.places_of q).left (front k core i true c q ++ held_back k core i q) (fronts true (held_back k core i q))

    never_stays : (s : ℕ) → stays (flags_around k core i q) (own k s) ≡ true → ⊥
    never_stays s e =
        by_aborts (has_aborts (own k s)) _ (aborts_here k core i o x flag q in_o) e
      where
        by_aborts : (a b : Bool) → b ≡ true → not (a || b) ≡ true → ⊥
        by_aborts true b e f = absurd cc
        by_aborts false true e f = absurd cc
        by_aborts false false e f = absurd cc

    by_stands : (z y : Standing) → Stands k core i c q z y → IsCalm z → Sees Begins y
    by_stands _ _ outside calm = out
    by_stands _ _ (ended inner) calm = over
    by_stands _ _ (left s ss e over_it) calm = out
    by_stands _ _ (trying s tests simple held) calm = by_trying s tests
    by_stands _ _ (acting s u p g effects lt) calm = absurd (calm_acting (at.Acting s (g ∷ effects) p) calm s p (g ∷ effects) refl)
    by_stands _ _ (entering s fork t tests super held leads) calm = absurd (calm_entering (at.Entering s (t ∷ tests)) calm s (t ∷ tests) refl)
    by_stands _ _ (guarding s join t tests has_some held leads) calm = forks (i.main_of s) (joins join) []
    by_stands _ _ (staying s tests super held stay) calm = absurd (never_stays s stay)
    by_stands _ _ (within s join tests super held stay open_still leads) calm = forks (i.main_of s) (joins join) []
    by_stands _ _ (behind s tests super held over_it) calm = by_behind s

    pub region_sees : Sees Begins (standing_of d (i.thread_of q))
    region_sees = by_stands (standing_of c q) (standing_of d (i.thread_of q)) (related.regions q there) (related.calm q o there in_o guards_now)

  abbrev pub UpToFlag : (place : ℕ) → List Transition → Type 0
  UpToFlag place tests = ChecksUpTo x place (strong_around k o) tests

  abbrev pub SeesFirst : Standing → Type 0
  SeesFirst = Sees UpToFlag

  module _ (q : ℕ) (there : IsThere k q) (in_o : Contains (around k q) o) where
    ahead_or_not : (b : Bool) (s : ℕ) → (ahead k core i b (i.places_of q).left c s ≡ []) ⊎
        (ahead k core i b (i.places_of q).left c s ≡ check b (i.places_of q).left (i.flags_of s).strong)
    ahead_or_not b s = by_guard (guards (standing_of c (holder k s))) refl
      where
        by_guard : (g : Bool) → guards (standing_of c (holder k s)) ≡ g → (ahead k core i b (i.places_of q).left c s ≡ []) ⊎
            (ahead k core i b (i.places_of q).left c s ≡ check b (i.places_of q).left (i.flags_of s).strong)
        by_guard true on = inr (guards_here k core i b (i.places_of q).left c s on)
        by_guard false off = inl (guards_not k core i b (i.places_of q).left c s off)

    fronts : (b : Bool) (rest : List Transition) → ChecksUpTo x (i.places_of q).left (strong_around k o) (front k core i b c q ++ rest)
    fronts b rest =
        up_to_own k core i tree lone.no_strong o x (i.places_of q).left b (λ s. ahead k core i b (i.places_of q).left c s)
        (guards_here k core i b (i.places_of q).left c o guards_now ∙ ap (check b (i.places_of q).left) flag) (ahead_or_not b) (around k q) []
        q (sym (append-nil (around k q))) in_o rest

    pub sees_first : SeesFirst (standing_of d (i.thread_of q))
    sees_first = region_sees UpToFlag q there in_o fronts

  -- a monitor inside has yet to look
  pub monitor_sees : (u : ℕ) → IsState k u → has_aborts (own k u) ≡ true → Contains (around k (holder k u)) o → SeesFirst (standing_of d (i.watcher_of u))
  monitor_sees u u_there some in_o = by_place (standing_of d (i.watcher_of u)) (related.unseen u o u_there some in_o guards_now)
    where
      by_place : (y : Standing) → LooksFirst k core i u o y → SeesFirst y
      by_place _ looks_never = out
      by_place _ (looks_first yet seen rest parted inner) =
          checks (i.watching_of u) 1 (strong_checks false 1 (map i.flags_of yet) ++ rest)
          (subst (λ zs. ChecksUpTo x 1 (strong_around k o) (zs ++ rest)) (sym (checks_are i false 1 yet))
          (up_to_own k core i tree lone.no_strong o x 1 false (λ s. check false 1 (i.flags_of s).strong) (ap (check false 1) flag) (λ s. inr refl)
          (reverse yet) seen (holder k u) parted (in_reversed yet o inner) rest))
