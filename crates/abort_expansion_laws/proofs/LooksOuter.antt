-- The monitors inside of the outermost superstate that guards look at the strong flags further out, which are down: then the check of its flag is
-- the first that they have left.
use Rattle.std.proofs.Common.{◌≡◌, ◌≢◌, ℕ, ◌<◌, inl, ⊎_elim, Bool, true, false, Option, Some, None, List, [], ◌∷◌, ◌++◌, length, Contains}
use Rattle.std.proofs.Common.{refl, sym, ap, subst, ◌∙◌, arith}
use Rattle.std.specs.Prelude.{reverse}
use Rattle.std.proofs.lemmas.List.Elements.{Contains-append_right}
use Rattle.std.proofs.lemmas.List.{length-set}
use Rattle.sc_values.specs.Access.{Access}
use Rattle.core_charts.specs.declared.region.Transition.{Transition}
use Rattle.core_charts.specs.Aborts.{has_aborts}
use Rattle.chart_machine.specs.declared.standing.Standing.{Standing}
use Rattle.chart_machine.specs.declared.standing.Standing.TheVariants as at
use Rattle.chart_machine.specs.declared.standing.Configuration.{Configuration}
use Rattle.chart_machine.specs.declared.table.Table.{Table}
use Rattle.chart_machine.specs.Turns.{standing_of, guards as has_to_guard, has_work, is_guarded, inside}
use Rattle.chart_machine.specs.Machine.{machine}
use Rattle.abort_expansion.specs.Transitions.{check}
use Rattle.abort_expansion_laws.specs.Stages.{Entry, Silent, Correspondence}
use Rattle.chart_machine_laws.proofs.LyingIn.{IsNested, around, holder, none_in, head_or_tail, head_in}
use Rattle.abort_expansion_laws.specs.CoreRows.{own, IsState, Images, CoreRows}
use Rattle.abort_expansion_laws.specs.Related.{looks_at, LooksFirst, looks_never, looks_first, Related}
use Rattle.abort_expansion_laws.proofs.StageReached.{Stage, any_in, inside_in}
use Rattle.abort_expansion_laws.proofs.ImageSteps.{pair}
use Rattle.abort_expansion_laws.proofs.KnownVariables.{present_there}
use Rattle.abort_expansion_laws.proofs.StandsInside.{inside_present}
use Rattle.abort_expansion_laws.proofs.Segments.{Segment}
use Rattle.abort_expansion_laws.proofs.Unchanged.{no_guards, stands_same, stands_other, none_among}
use Rattle.abort_expansion_laws.proofs.StartingRegions.{CounterRows}
use Rattle.abort_expansion_laws.proofs.OpensFork.{OpeningRows}
use Rattle.abort_expansion_laws.proofs.FailedChecks.{placed, one_fails}
use Rattle.abort_expansion_laws.proofs.FlagsDown.{IsOpen, is_down, monitor_lies}
use Rattle.abort_expansion_laws.proofs.GuardFlag.{guard_flag}
use Rattle.abort_expansion_laws.proofs.LookDropped.{look, watch_dropped, look_dropped}
use Rattle.abort_expansion_laws.proofs.LooksFirst.{open_or_out}
use Rattle.abort_expansion_laws.proofs.MonitorMoved.{HasMoved, moved_related, then_on}
use Rattle.abort_expansion_laws.proofs.YetToLook.{in_reversed, one_seen, yet_among}

-- whoever stands behind somebody inside in a row of superstates around a region is around that one
outer_in : (k : Table) (tree : IsNested k) (zs more : List ℕ) (p s a : ℕ) → around k p ≡ zs ++ (a ∷ more) → Contains zs s →
    Contains (around k (holder k s)) a
outer_in k tree [] more p s a e h = absurd (none_in s h)
outer_in k tree (u ∷ zs) more p s a e h =
    let up : zs ++ (a ∷ more) ≡ around k (holder k u) = tree.upward p u (zs ++ (a ∷ more)) e in
    ⊎_elim
    (λ same. subst (λ v. Contains (around k (holder k v)) a) same
    (subst (λ ys. Contains ys a) up (Contains-append_right zs (a ∷ more) a (head_in a more))))
    (λ tail. outer_in k tree zs more (holder k u) s a (sym up) tail) (head_or_tail u s zs h)

-- the monitor of superstate o is at its look at this flag, or not there
pub data LooksNext (i : Images) (o x : ℕ) : Standing → Type 0 where
  away : LooksNext i o x at.Outside
  at_look : (rest : List Transition) → LooksNext i o x (at.Trying (i.watching_of o) (look x ∷ rest))

module _ (k core : Table) (i : Images) (rows : CoreRows k core i) (tree : IsNested k) (counts : ℕ → Bool) (written_at : ℕ → ℕ)
    (counters : CounterRows k core i rows counts written_at) (opening : OpeningRows k core i rows)
    (strong_at : (s x : ℕ) → (i.flags_of s).strong ≡ Some x → written_at x ≡ 0) (super_there : (q s : ℕ) → Contains (around k q) s → IsState k s)
    (Told : Configuration → Entry → Type 0)
    (told : (e : Configuration) (t : ℕ) (stage : Option (ℕ × ℕ)) (a : Access) → Told e (Silent t stage a))
    (c : Configuration) (o : ℕ) (o_there : IsState k o) (has : has_aborts (own k o) ≡ true)
    (s x : ℕ) (in_s : Contains (around k (holder k o)) s) (flag : (i.flags_of s).strong ≡ Some x)
    (guards_now : has_to_guard (standing_of c (holder k s)) ≡ true) (free : is_guarded k c (around k (holder k s)) ≡ false) where
  abbrev corr : Correspondence
  corr = pair k core i rows tree counts written_at

  abbrev g : ℕ
  g = i.watcher_of o

  -- it has come there, and all others stand as they did
  pub record Comes (d z : Configuration) : Type 0 where
    pub related : Related k core i c z
    pub next : LooksNext i o x (standing_of z g)
    pub others : (t : ℕ) → t ≢ g → standing_of z t ≡ standing_of d t

  abbrev GoesFrom : (d z : Configuration) → Type 0
  GoesFrom d z = Segment (machine core) corr Told z (Stage k i.thread_of c z) (λ w. Stage k i.thread_of c w) [] (Comes d)

  guards_works : (y : Standing) → has_to_guard y ≡ true → has_work k c y ≡ true
  guards_works at.Outside on = absurd cc
  guards_works at.Ended on = absurd cc
  guards_works (at.Trying u tests) on = absurd cc
  guards_works (at.Acting u effects p) on = absurd cc
  guards_works (at.Entering u tests) on = refl
  guards_works (at.Guarding u tests) on = refl
  guards_works (at.Within u tests) on = absurd cc

  guard_present : standing_of c (holder k s) ≢ at.Outside
  guard_present out = let wrong : true ≡ false = sym guards_now ∙ ap has_to_guard out in absurd cc

  stays_there : (d z : Configuration) → Comes d z → GoesFrom d z
  stays_there d z comes =
      record { log = []; last = z; follows = refl; charted = refl; fits = tt; climbs = λ rest climbs. climbs; reaches = comes }

  -- one that has the others around it, and looks at them
  module _ (d z : Configuration) (related : Related k core i c z) (others : (t : ℕ) → t ≢ g → standing_of z t ≡ standing_of d t) where
    is_open : (a : ℕ) → Contains (around k (holder k s)) a → Contains (around k (holder k o)) a →
        IsOpen k core i rows tree counts written_at counters opening strong_at Told told c z related g (i.watching_of o) a
    is_open a outer around_it =
        let there = present_there k core i c z related (holder k s) guard_present in
        record {
          here = super_there (holder k s) a outer;
          opened = related.enclosed (holder k s) a there guard_present outer;
          busy = any_in (λ q. has_work k c (standing_of c q)) (inside k a) (holder k s) (inside_in k a (holder k s) there outer)
              (guards_works (standing_of c (holder k s)) guards_now);
          free = none_among (λ v. has_to_guard (standing_of c (holder k v))) (around k (holder k s)) a free outer;
          lies = monitor_lies k core i rows o o_there has a around_it;
        }

    -- it looks at the flag of a
    module _ (a y : ℕ) (outer : Contains (around k (holder k s)) a) (around_it : Contains (around k (holder k o)) a)
        (a_flag : (i.flags_of a).strong ≡ Some y) (rest : List Transition)
        (waits : standing_of z g ≡ at.Trying (i.watching_of o) (look y ∷ rest)) where
      abbrev after : Configuration
      after = placed core corr Told told g (i.watching_of o) 1 (Stage k i.thread_of c z) z rest

      g_less : g < length z.regions
      g_less = let lt = (rows.watcher o o_there has).there.1 in omega (lt, related.core_regions, arith)

      moved : HasMoved k core i rows c z related o o_there has rest after
      moved =
          record {
            values = refl;
            here = stands_same z after g (at.Trying (i.watching_of o) rest) refl g_less;
            others = λ t ne. stands_other z after g t (at.Trying (i.watching_of o) rest) refl ne;
            size = length-set z.regions g (at.Trying (i.watching_of o) rest);
          }

      -- its superstate is open, so whoever guards around it has a strong flag; a does not guard
      holder_present : standing_of c (holder k o) ≢ at.Outside
      holder_present =
          ⊎_elim (λ inner. inside_present k core i o (standing_of c (holder k o)) inner)
          (λ out. let wrong : at.Outside ≡ at.Trying (i.watching_of o) (look y ∷ rest) = sym out ∙ waits in absurd cc)
          (open_or_out k core i o (standing_of c (holder k o)) (standing_of z g) (related.watchers o o_there has))

      looks_still : (v : ℕ) → Contains (around k (holder k o)) v → has_to_guard (standing_of c (holder k v)) ≡ true →
          LooksFirst k core i o v (at.Trying (i.watching_of o) rest)
      looks_still v inner on =
          look_dropped k core i o y rest v
          (λ none. let wrong : None ≡ Some its.0 = sym none ∙ its.1 in absurd cc)
          (λ same. differs (sym (opening.flag_of v y (inl same)).0 ∙ (opening.flag_of a y (inl a_flag)).0)) (standing_of z g)
          (related.unseen o v o_there has inner on) waits
        where
          its : (n : ℕ) × ((i.flags_of v).strong ≡ Some n)
          its =
              guard_flag k core i rows c z related v (super_there (holder k o) v inner)
              (related.enclosed (holder k o) v (present_there k core i c z related (holder k o) holder_present) holder_present inner) on

          differs : v ≢ a
          differs same =
              let wrong : true ≡ false =
              sym on ∙ (ap (λ w. has_to_guard (standing_of c (holder k w))) same
              ∙ none_among (λ w. has_to_guard (standing_of c (holder k w))) (around k (holder k s)) a free outer) in
              absurd cc

      related_after : Related k core i c after
      related_after =
          moved_related k core i rows c z related o o_there has rest
          (watch_dropped k core i o y rest (standing_of c (holder k o)) (standing_of z g) (related.watchers o o_there has) waits) looks_still after moved

      look_then : GoesFrom d after → GoesFrom d z
      look_then next =
          let one = one_fails core corr Told told g (i.watching_of o) 1 (Stage k i.thread_of c z) false y rest z (no_guards k core i rows c z related)
          (is_down k core i rows tree counts written_at counters opening strong_at Told told c z related g (i.watching_of o) a (is_open a outer around_it) y
          a_flag) waits in
          then_on k core i corr Told c z [] (λ w. Stage k i.thread_of c w) (λ w. w ≡ after) (Comes d) one (subst (GoesFrom d) (sym one.reaches) next)

  -- all of those further out, one after the other
  looks_from : (d : Configuration) (rest : List Transition) (yet seen : List ℕ) → around k (holder k o) ≡ reverse yet ++ seen → Contains yet s →
      (z : Configuration) → Related k core i c z → ((t : ℕ) → t ≢ g → standing_of z t ≡ standing_of d t) →
      standing_of z g ≡ at.Trying (i.watching_of o) (looks_at k core i yet ++ rest) → GoesFrom d z
  looks_from d rest [] seen parted inner z related others stands = absurd (none_in s inner)
  looks_from d rest (a ∷ yet) seen parted inner z related others stands =
      ⊎_elim own_one
      (λ tail. by (i.flags_of a).strong refl stands tail
      (λ w related_w others_w stands_w. looks_from d rest yet (a ∷ seen) fewer tail w related_w others_w stands_w)) (head_or_tail a s yet inner)
    where
      fewer : around k (holder k o) ≡ reverse yet ++ (a ∷ seen)
      fewer = one_seen (around k (holder k o)) a yet seen parted

      own_one : a ≡ s → GoesFrom d z
      own_one same =
          stays_there d z
          (record {
            related = related;
            next =
                subst (LooksNext i o x)
                (sym (stands ∙ ap (λ f. at.Trying (i.watching_of o) ((check false 1 f ++ looks_at k core i yet) ++ rest))
                (ap (λ v. (i.flags_of v).strong) same ∙ flag)))
                (at_look (looks_at k core i yet ++ rest));
            others = others;
          })

      by : (f : Option ℕ) → (i.flags_of a).strong ≡ f →
          standing_of z g ≡ at.Trying (i.watching_of o) ((check false 1 (i.flags_of a).strong ++ looks_at k core i yet) ++ rest) → Contains yet s →
          ((w : Configuration) → Related k core i c w → ((t : ℕ) → t ≢ g → standing_of w t ≡ standing_of d t) →
          standing_of w g ≡ at.Trying (i.watching_of o) (looks_at k core i yet ++ rest) → GoesFrom d w) → GoesFrom d z
      by None is there tail further =
          further z related others (there ∙ ap (λ f. at.Trying (i.watching_of o) ((check false 1 f ++ looks_at k core i yet) ++ rest)) is)
      by (Some y) is there tail further =
          let outer : Contains (around k (holder k s)) a =
          outer_in k tree (reverse yet) seen (holder k o) s a fewer (in_reversed yet s tail) in
          let around_it : Contains (around k (holder k o)) a = yet_among (around k (holder k o)) (a ∷ yet) seen parted a (head_in a yet) in
          let waits : standing_of z g ≡ at.Trying (i.watching_of o) (look y ∷ (looks_at k core i yet ++ rest)) =
          there ∙ ap (λ f. at.Trying (i.watching_of o) ((check false 1 f ++ looks_at k core i yet) ++ rest)) is in
          let m = moved d z related others a y outer around_it is (looks_at k core i yet ++ rest) waits in
          look_then d z related others a y outer around_it is (looks_at k core i yet ++ rest) waits
          (further (after d z related others a y outer around_it is (looks_at k core i yet ++ rest) waits)
          (related_after d z related others a y outer around_it is (looks_at k core i yet ++ rest) waits)
          (λ t ne. m.others t ne ∙ others t ne) m.here)

  pub looks_outer : (d : Configuration) → Related k core i c d → GoesFrom d d
  looks_outer d related = by (standing_of d g) refl (related.unseen o s o_there has in_s guards_now)
    where
      by : (y : Standing) → standing_of d g ≡ y → LooksFirst k core i o s y → GoesFrom d d
      by _ is looks_never =
          stays_there d d (record { related = related; next = subst (LooksNext i o x) (sym is) away; others = λ t ne. refl })
      by _ is (looks_first yet seen rest parted inner) = looks_from d rest yet seen parted inner d related (λ t ne. refl) is
