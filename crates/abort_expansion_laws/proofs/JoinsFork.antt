-- A superstate that can only be left from outside, with all its regions ended: its fork is joined, and the continuation makes its
-- strong checks.
use Rattle.std.proofs.Common.{◌≡◌, ◌≢◌, ℕ, pos, ◌<◌, ◌≤◌, ◌⊎◌, inl, inr, ⊎_elim, Bool, true, false, not, Option, Some, None, List, [], ◌∷◌, ◌++◌, map}
use Rattle.std.proofs.Common.{length, slice_get, slice_set, Contains, refl, sym, ap, subst, ◌∙◌, arith}
use Rattle.std.specs.Prelude.{reverse, filter}
use Rattle.std.specs.List.{list_any}
use Rattle.std.proofs.lemmas.List.{append-nil, length-set}
use Rattle.std.proofs.lemmas.Bool.{or_parts}
use Rattle.sc_values.specs.declared.value.Value.TheVariants as value_is
use Rattle.sc_values.specs.Access.{Access, no_access}
use Rattle.core_charts.specs.declared.region.Transition.{Transition}
use Rattle.core_charts.specs.Tests.{at_once, strong_aborts, weak_aborts, terminations}
use Rattle.core_charts.specs.Aborts.{has_aborts}
use Rattle.chart_machine.specs.declared.standing.Standing.{Standing}
use Rattle.chart_machine.specs.declared.standing.Standing.TheVariants as at
use Rattle.chart_machine.specs.declared.standing.Configuration.{Configuration}
use Rattle.chart_machine.specs.declared.table.Table.{Table}
use Rattle.chart_machine.specs.Table.{state_at}
use Rattle.chart_machine.specs.Turns.{standing_of, has_ended, has_work, guards as has_to_guard, is_guarded, inside}
use Rattle.chart_machine.specs.Steps.{to, moved, state_in, access_of}
use Rattle.chart_machine.specs.Machine.{machine}
use Rattle.abort_expansion.specs.declared.flags.Flags.{Flags}
use Rattle.abort_expansion.specs.declared.places.RegionPlaces.{RegionPlaces}
use Rattle.abort_expansion.specs.Flags.{has_join}
use Rattle.abort_expansion.specs.Transitions.{check, strong_checks, answers}
use Rattle.abort_expansion.specs.Superstates.{stays}
use Rattle.tick_laws.proofs.Lists.{same_or_not, contained}
use Rattle.chart_lowering_laws.proofs.Finished.{each_all}
use Rattle.abort_expansion_laws.specs.Stages.{Entry, Silent, Correspondence}
use Rattle.chart_machine_laws.proofs.LyingIn.{IsNested, around, holder, head_in, tail_in}
use Rattle.abort_expansion_laws.proofs.TablesCorrespond.{IsThere}
use Rattle.abort_expansion_laws.specs.CoreRows.{own, IsState, Images, CoreRows, SplitImage, joins, flags_around, behind_transitions}
use Rattle.chart_machine.specs.Steps.{step}
use Rattle.abort_expansion_laws.specs.Related.{held_back, IsInside, guarded, open_inside, Stores}
use Rattle.abort_expansion_laws.proofs.Segments.{Segment}
use Rattle.abort_expansion_laws.proofs.Supplying.{climbs_step, silent_idle}
use Rattle.abort_expansion_laws.proofs.Leaving.{drops, at_number, set_here, set_other, drops_in, drops_out, drops_length, joined}
use Rattle.abort_expansion_laws.proofs.StageReached.{stage_of, holds_other, one_at_least}
use Rattle.abort_expansion_laws.proofs.ImageSteps.{pair}
use Rattle.abort_expansion_laws.proofs.Pending.{Sound, IsJoining, Over, Covered, Flagged, Pending, joins_then, Reached, behind_parts}
use Rattle.abort_expansion_laws.proofs.StartingRegions.{CounterRows}
use Rattle.abort_expansion_laws.proofs.CalmPending.{all_calm}
use Rattle.abort_expansion_laws.proofs.FailedChecks.{IsDown, AllDown, checks_fail}
use Rattle.abort_expansion_laws.proofs.EnteringSimple.{once_append, weak_once, each_check}
use Rattle.abort_expansion_laws.proofs.Unchanged.{unguarded, none_among}
use Rattle.abort_expansion_laws.proofs.YetToLook.{in_reverse}
use Rattle.abort_expansion_laws.proofs.ThreadsAround.{thread_within}

-- ---- what the continuation tests

pub no_chosen : (p : Transition → Bool) (xs : List Transition) → list_any p xs ≡ false → filter p xs ≡ []
no_chosen p [] e = refl
no_chosen p (x ∷ xs) e = let both = or_parts (p x) (list_any p xs) e in rw (both.0, no_chosen p xs both.1) refl

pub no_answers : (at_places : RegionPlaces) (flag : Option ℕ) (n : ℕ) → answers at_places flag n [] ≡ []
no_answers at_places None n = refl
no_answers at_places (Some x) n = refl

pub strong_once : (left : ℕ) (flags : List Flags) → at_once (strong_checks true left flags) ≡ strong_checks true left flags
strong_once left [] = refl
strong_once left (f ∷ flags) =
    once_append (check true left f.strong) (strong_checks true left flags)
    ∙ (ap (λ zs. zs ++ at_once (strong_checks true left flags)) (each_check left f.strong) ∙ ap (λ zs. check true left f.strong ++ zs) (strong_once left flags))

module _ (k core : Table) (i : Images) where
  none_left : (r s : ℕ) → has_aborts (own k s) ≡ false → has_join (own k s) ≡ false →
      behind_transitions k core i r s ≡ strong_checks true (i.places_of r).left (flags_around k core i r) ++ held_back k core i r
  none_left r s no_aborts no_join =
      let two = or_parts (list_any _ (own k s)) (list_any _ (own k s)) no_aborts in
      let strong : strong_aborts (own k s) ≡ [] = no_chosen _ (own k s) two.0 in
      let weak : weak_aborts (own k s) ≡ [] = no_chosen _ (own k s) two.1 in
      let join : terminations (own k s) ≡ [] = no_chosen _ (own k s) no_join in
      rw (strong, weak, join, no_answers (i.places_of r) (i.flags_of s).strong 1, no_answers (i.places_of r) (i.flags_of s).weak 1)
      (ap (λ zs. zs ++ held_back k core i r) (append-nil (strong_checks true (i.places_of r).left (flags_around k core i r) ++ []) ∙
      append-nil (strong_checks true (i.places_of r).left (flags_around k core i r))))

  -- the continuation of a superstate that can only be left from outside
  pub continues_with : (r s : ℕ) → has_aborts (own k s) ≡ false → has_join (own k s) ≡ false →
      at_once (behind_transitions k core i r s) ≡ strong_checks true (i.places_of r).left (flags_around k core i r) ++ held_back k core i r
  continues_with r s no_aborts no_join =
      ap at_once (none_left r s no_aborts no_join)
      ∙ (once_append (strong_checks true (i.places_of r).left (flags_around k core i r)) (held_back k core i r)
      ∙ (ap (λ zs. zs ++ at_once (held_back k core i r)) (strong_once (i.places_of r).left (flags_around k core i r))
      ∙ ap (λ zs. strong_checks true (i.places_of r).left (flags_around k core i r) ++ zs) (weak_once (i.places_of r).left (flags_around k core i r))))

-- ---- the steps

module _ (k core : Table) (i : Images) (rows : CoreRows k core i) (tree : IsNested k) (counts : ℕ → Bool) (written_at : ℕ → ℕ)
    (Told : Configuration → Entry → Type 0)
    (told : (d : Configuration) (t : ℕ) (stage : Option (ℕ × ℕ)) (a : Access) → Told d (Silent t stage a))
    (deeper : (q s : ℕ) → Contains (around k q) s → holder k s < q)
    (counters : CounterRows k core i rows counts written_at)
    (strong_of : (s x : ℕ) → (i.flags_of s).strong ≡ Some x → rows.of_flag x ≡ s) (strong_at : (s x : ℕ) → (i.flags_of s).strong ≡ Some x → written_at x ≡ 0)
    (super_there : (q s : ℕ) → IsThere k q → Contains (around k q) s → IsState k s)
    (c : Configuration) (sound : Sound k core i c)
    (r : ℕ) (d : Configuration) (p : Pending k core i c r d) (there : IsThere k r) (s : ℕ) (held : holder k s ≡ r) (o : IsJoining k core i c d s) where
  abbrev g : ℕ
  g = i.thread_of r

  abbrev corr : Correspondence
  corr = pair k core i rows tree counts written_at

  parts : (stays (flags_around k core i (holder k s)) (own k s) ≡ false) × (has_aborts (own k s) ≡ false) × (has_join (own k s) ≡ false)
  parts = behind_parts k core i c s o.over

  image : SplitImage k core i s
  image = rows.split s o.there o.super parts.0

  over_it : Over k core i c d s
  over_it = p.joinable s o

  in_core : g < length d.regions
  in_core = let lt = (rows.region r there).there.1 in let size = p.core_regions in omega (lt, size, arith)

  abbrev checks : List Transition
  checks = strong_checks true (i.places_of r).left (flags_around k core i r) ++ held_back k core i r

  abbrev forked : Standing
  forked = at.Within (i.main_of s) (joins o.join ∷ [])

  stands : standing_of d g ≡ forked
  stands = ap (λ q. standing_of d (i.thread_of q)) (sym held) ∙ o.forked

  enters : (state_at core (state_in core g o.join)).entered ≡ to g (at.Trying (i.behind_of s) checks) ∷ []
  enters =
      ap (λ q. (state_at core (state_in core (i.thread_of q) o.join)).entered) (sym held)
      ∙ (ap (λ n. (state_at core n).entered) o.leads
      ∙ (ap (λ row. row.entered) image.behind
      ∙ (ap (λ q. to (i.thread_of q) (at.Trying (i.behind_of s) (at_once (behind_transitions k core i q s))) ∷ []) held
      ∙ ap (λ ts. to g (at.Trying (i.behind_of s) ts) ∷ []) (continues_with k core i r s parts.1 parts.2))))

  abbrev pub after_join : Configuration
  after_join = record {
    variables = d.variables;
    regions = slice_set (moved (drops (inside core (i.main_of s))) d.regions) g
        (at.Trying (i.behind_of s) checks);
  }

  no_work : (t : ℕ) → (standing_of d t ≡ at.Ended) ⊎ (standing_of d t ≡ at.Outside) → has_work core d (standing_of d t) ≡ false
  no_work t (inl e) = ap (has_work core d) e
  no_work t (inr e) = ap (has_work core d) e

  steps : step core g d ≡ Some after_join
  steps =
      joined core d g (i.main_of s) o.join (at.Trying (i.behind_of s) checks) (unguarded core d (all_calm k core i rows c r d p) (around core g)) stands
      (each_all (λ t. has_ended (standing_of d t)) (state_at core (i.main_of s)).regions (λ t h. ap has_ended (over_it.ended_there t h)))
      (each_all (λ t. not (has_work core d (standing_of d t))) (inside core (i.main_of s)) (λ t h. ap not (no_work t (over_it.over_inside t h)))) enters

  in_after : g < length (moved (drops (inside core (i.main_of s))) d.regions)
  in_after = let lt = in_core in let size = drops_length (inside core (i.main_of s)) d.regions in omega (lt, size, arith)

  here : standing_of after_join g ≡ at.Trying (i.behind_of s) checks
  here = set_here (moved (drops (inside core (i.main_of s))) d.regions) g (at.Trying (i.behind_of s) checks) in_after

  calm_after : (t : ℕ) → has_to_guard (standing_of after_join t) ≡ false
  calm_after t =
      ⊎_elim (λ e. ap (λ z. has_to_guard (standing_of after_join z)) e ∙ ap has_to_guard here)
      (λ ne.
      let other : standing_of after_join t ≡ at_number (moved (drops (inside core (i.main_of s))) d.regions) t =
      set_other (moved (drops (inside core (i.main_of s))) d.regions) g t (at.Trying (i.behind_of s) checks) ne in
      ⊎_elim (λ h. ap has_to_guard (other ∙ drops_in (inside core (i.main_of s)) d.regions t h))
      (λ out. ap has_to_guard (other ∙ drops_out (inside core (i.main_of s)) d.regions t out) ∙ all_calm k core i rows c r d p t)
      (contained (inside core (i.main_of s)) t)) (same_or_not t g)

  abbrev pub Left : ℕ → ℕ → Type 0
  Left h n = (g ≢ h) × Reached k core i c d h n

  -- ---- the flags around it are down, and may be looked at

  module _ (u x : ℕ) (around_it : Contains (around k r) u) (flag : (i.flags_of u).strong ≡ Some x) where
    present : standing_of c r ≢ at.Outside
    present e = let wrong : at.Within s o.tests ≡ at.Outside = sym o.open_in_chart ∙ (ap (standing_of c) held ∙ e) in absurd cc

    inside_u : IsInside k core i u (standing_of c (holder k u))
    inside_u = sound.enclosed r u there present around_it

    not_covered : Covered k core i c d u → ⊥
    not_covered covered =
        let low = p.late covered.0 covered.1 in
        let up = deeper r u around_it in
        ⊎_elim (λ e. let same : holder k covered.0 ≡ holder k u = ap (holder k) e in omega (low, same, up, arith))
        (λ h. let higher = deeper (holder k u) covered.0 h in omega (low, higher, up, arith)) covered.2

    lowered : slice_get d.variables x ≡ Some (value_is.Int (pos 0))
    lowered =
        ⊎_elim (λ (f : Flagged k core i c d u). subst (λ w. Stores k core i d.variables w 0) flag f.strong) (λ covered. absurd (not_covered covered))
        (p.flags u (super_there r u there around_it) inside_u)

    home_is : corr.home x ≡ i.thread_of (holder k u)
    home_is = ap (λ z. holder core (i.main_of z)) (strong_of u x flag) ∙ rows.held u

    within_it : corr.Within g x
    within_it =
        subst (λ z. Contains (around core g) (i.main_of z)) (sym (strong_of u x flag))
        (thread_within k core i rows r u around_it)

    at_least : (w : Standing) → IsInside k core i u w → has_to_guard w ≡ false → 1 ≤ stage_of k c w
    at_least _ (guarded tests) e = absurd cc
    at_least _ (open_inside tests) e = one_at_least (has_aborts (own k u)) _ _

    one_reached : Left (corr.home x) 1
    one_reached = (
      (λ e. holds_other k tree r u around_it (rows.region_once (holder k u) r (sym (e ∙ home_is)))),
      record {
        staged = record {
          regions = λ q q_there e.
              let here_too : holder k u ≡ q = rows.region_once (holder k u) q (sym home_is ∙ e) in
              let calm_there : has_to_guard (standing_of c (holder k u)) ≡ false =
              none_among (λ v. has_to_guard (standing_of c (holder k v))) (around k r) u (subst (λ z. is_guarded k c (around k z) ≡ false) held over_it.free)
              around_it in
              subst (λ z. 1 ≤ stage_of k c (standing_of c z)) here_too (at_least (standing_of c (holder k u)) inside_u calm_there);
          chart = λ e. omega arith;
        };
        busy = λ q v w q_there b h e. omega arith;
      },
    )

    is_down : IsDown core corr Told told g (i.behind_of s) (i.places_of r).left Left after_join x
    is_down =
        record {
          flag = rows.strong_added u x flag;
          low = lowered;
          reads = inr (inr (counters.strong_not u x flag, within_it), (1, refl, (let z = strong_at u x flag in omega (z, arith))));
          reached = λ n before. before.1.busy r s u there (joins_then held o) around_it home_is;
          reaches = one_reached;
        }

  all_down : (zs : List ℕ) → ((u : ℕ) → Contains zs u → Contains (around k r) u) →
      AllDown core corr Told told g (i.behind_of s) (i.places_of r).left Left after_join (map i.flags_of zs)
  all_down [] within = tt
  all_down (u ∷ zs) within = ((λ x flag. is_down u x (within u (head_in u zs)) flag), all_down zs (λ v h. within v (tail_in u v zs h)))

  -- the fork is joined, and the strong checks fail
  pub joins_fork : Segment (machine core) corr Told d (Reached k core i c d) (λ last. Left) []
      (λ z. (z.variables ≡ after_join.variables) × ((standing_of z g ≡ at.Trying (i.behind_of s) (held_back k core i r))
      × (((t : ℕ) → t ≢ g → standing_of z t ≡ standing_of after_join t) × (length z.regions ≡ length after_join.regions))))
  joins_fork =
      let t = checks_fail core corr Told told g (i.behind_of s) (i.places_of r).left Left (flags_around k core i r) (held_back k core i r) after_join calm_after
      (let lt = in_after in let size = length-set (moved (drops (inside core (i.main_of s))) d.regions) g (at.Trying (i.behind_of s) checks) in
      omega (lt, size, arith))
      (all_down (reverse (around k r)) (λ u h. in_reverse (around k r) u h)) here in
      record {
        log = Silent g None no_access ∷ t.log;
        last = t.last;
        follows = (ap (λ z. record { thread = g; access = z }) (sym (ap access_of stands)), told d g None no_access, (after_join, steps, t.follows));
        charted = t.charted;
        fits = (silent_idle corr g None, t.fits);
        climbs = λ rest climbs.
            climbs_step corr (Reached k core i c d) Left (Silent g None no_access) (t.log ++ rest) (λ h n e. absurd cc) (λ h n ne before. (ne, before))
            (t.climbs rest climbs);
        reaches = t.reaches;
      }
