-- Once a flag is raised, everything inside its superstate leaves, what lies deeper first.
use Rattle.std.proofs.Common.{◌≡◌, ◌≢◌, ℕ, zero, suc, ◌<◌, ◌≤◌, inl, inr, ⊎_elim, true, false, not, Option, None, List, []}
use Rattle.std.proofs.Common.{◌∷◌, ◌++◌, length, slice_set, Contains, refl, sym, ap, subst, ◌∙◌, arith}
use Rattle.std.specs.List.{list_all}
use Rattle.std.proofs.lemmas.Bool.{cases_lt}
use Rattle.std.proofs.lemmas.List.{length-set}
use Rattle.sc_values.specs.Access.{Access, no_access}
use Rattle.core_charts.specs.declared.region.Transition.{Transition}
use Rattle.chart_machine.specs.declared.standing.Standing.{Standing}
use Rattle.chart_machine.specs.declared.standing.Standing.TheVariants as at
use Rattle.chart_machine.specs.declared.standing.Configuration.{Configuration}
use Rattle.chart_machine.specs.declared.table.Table.{Table}
use Rattle.chart_machine.specs.Table.{state_at}
use Rattle.chart_machine.specs.Turns.{standing_of, has_ended, guards, has_work, inside}
use Rattle.chart_machine.specs.Steps.{to, moved, access_of, state_in}
use Rattle.chart_machine.specs.Machine.{machine}
use Rattle.tick_laws.proofs.Lists.{same_or_not, contained}
use Rattle.chart_lowering_laws.proofs.Finished.{each_all}
use Rattle.abort_expansion_laws.specs.Stages.{Entry, Silent, Correspondence, Climbs}
use Rattle.abort_expansion_laws.proofs.Supplying.{silent_idle, climbs_step, climbs_fewer}
use Rattle.abort_expansion_laws.proofs.Segments.{Segment, segment_on}
use Rattle.abort_expansion_laws.proofs.SilentSteps.{AtHome, silent_step, no_step}
use Rattle.chart_machine_laws.proofs.LyingIn.{IsNested, around, holder, none_in, head_or_tail, head_in, tail_in, around_around}
use Rattle.abort_expansion_laws.specs.CoreRows.{joins}
use Rattle.abort_expansion_laws.proofs.Leaving.{drops, set_here, set_other, drops_in, drops_out, drops_length, joined}
use Rattle.abort_expansion_laws.proofs.Unchanged.{unguarded}
use Rattle.abort_expansion_laws.proofs.InsideAround.{inside_around}
use Rattle.abort_expansion_laws.proofs.MayLeave.{is_forked, AreOuterOne, LeavesBy, MayLeave, out, over, tries, forks}
use Rattle.abort_expansion_laws.proofs.OneLeaves as once
use Rattle.abort_expansion_laws.proofs.NumberedRegions.{past_number}

module _ (core : Table) (tree : IsNested core) (deeper : (q s : ℕ) → Contains (around core q) s → holder core s < q)
    (corr : Correspondence) (Told : Configuration → Entry → Type 0) (told : (d : Configuration) (t : ℕ) (stage : Option (ℕ × ℕ)) (a : Access) →
    Told d (Silent t stage a))
    (Others : ℕ → ℕ → Type 0) (home stage f : ℕ) (first : Configuration) (free : (t : ℕ) → guards (standing_of first t) ≡ false)
    (home_out : ¬ Contains (around core home) f) (outer_one : AreOuterOne core Others home)
    (may : (q : ℕ) → Contains (around core q) f → MayLeave core corr home stage f first q (standing_of first q)) where
  abbrev In : ℕ → Type 0
  In = once.In core tree deeper corr Told told Others home stage f first free

  abbrev Gone : Configuration → ℕ → ℕ → Type 0
  Gone = once.Gone core tree deeper corr Told told Others home stage f first free

  abbrev Left : ℕ → Configuration → Type 0
  Left = once.Left core tree deeper corr Told told Others home stage f first free

  abbrev HasLeft : ℕ → Configuration → Configuration → Type 0
  HasLeft = once.HasLeft core tree deeper corr Told told Others home stage f first free

  abbrev Staying : ℕ → ℕ → Type 0
  Staying = once.Staying core tree deeper corr Told told Others home stage f first free

  abbrev Level : ℕ → ℕ → ℕ → Type 0
  Level = once.Level core tree deeper corr Told told Others home stage f first free

  abbrev Goes : ℕ → Configuration → (Configuration → Type 0) → Type 0
  Goes = once.Goes core tree deeper corr Told told Others home stage f first free home_out outer_one

  abbrev Piece : Configuration → ℕ → Type 0
  Piece d n = Segment (machine core) corr Told d (AtHome (Level (suc n)) home stage) (λ last. AtHome (Level n) home stage) [] (Left n)

  -- a thread that stands in no fork
  abbrev NotForked : ℕ → Type 0
  NotForked n = In n → is_forked (standing_of first n) ≡ true → ⊥

  lower : (n h m : ℕ) → NotForked n → AtHome (Level (suc n)) home stage h m → AtHome (Level n) home stage h m
  lower n h m never before = (
    (λ ne. once.level_down core tree deeper corr Told told Others home stage f first free n h m (λ same in_h forked. never (subst In same in_h)
        (subst (λ g. is_forked (standing_of first g) ≡ true) same forked)) (before.0 ne)),
    before.1,
  )

  reached : (d : Configuration) (n : ℕ) (g : Goes n d (HasLeft n d)) → NotForked n → Left n g.last → Piece d n
  reached d n g never left =
      record {
        log = g.log;
        last = g.last;
        follows = g.follows;
        charted = g.charted;
        fits = g.fits;
        climbs = λ rest climbs.
            climbs_fewer corr (AtHome (Level n) home stage) (AtHome (Level (suc n)) home stage) (g.log ++ rest) (λ h m before. lower n h m never before)
            (g.climbs rest climbs);
        reaches = left;
      }

  reached_from : (d : Configuration) (n : ℕ) (g : Goes n d (HasLeft n d)) → Left n g.last →
      Segment (machine core) corr Told d (AtHome (Level n) home stage) (λ last. AtHome (Level n) home stage) [] (Left n)
  reached_from d n g left =
      record {
        log = g.log;
        last = g.last;
        follows = g.follows;
        charted = g.charted;
        fits = g.fits;
        climbs = g.climbs;
        reaches = left;
      }

  by_trying : (n : ℕ) (d : Configuration) (s : ℕ) (tests : List Transition) → In n → Left (suc n) d → standing_of d n ≡ at.Trying s tests →
      standing_of first n ≡ at.Trying s tests → inside core s ≡ [] → LeavesBy core corr home stage f first n tests → Piece d n
  by_trying n d s tests in_n left stands was alone leaves_by =
      let lt : n < length d.regions = once.in_range core tree deeper corr Told told Others home stage f first free d n (at.Trying s tests) stands
      (λ z. absurd (cc)) in
      let g = once.tests_leave core tree deeper corr Told told Others home stage f first free home_out outer_one n s tests d alone leaves_by left.variables
      (once.no_guards core tree deeper corr Told told Others home stage f first free (suc n) d left) lt stands in
      reached d n g (λ in_h forked. let wrong : true ≡ false = sym forked ∙ ap is_forked was in absurd cc)
      (once.left_after core tree deeper corr Told told Others home stage f first free n d g.last [] left (λ q h. absurd (none_in q h))
      (λ q ne none. g.reaches.elsewhere q ne) (λ q ne h. absurd (none_in q h))
      (inl g.reaches.here) in_n (λ q h. absurd (none_in q h)) g.reaches.variables g.reaches.size)

  by_fork : (n : ℕ) (d : Configuration) (s j b : ℕ) (tests : List Transition) → In n → Left (suc n) d → standing_of d n ≡ at.Within s (joins j ∷ []) →
      holder core s ≡ n → (state_at core (state_in core n j)).entered ≡ to n (at.Trying b tests) ∷ [] → inside core b ≡ [] →
      LeavesBy core corr home stage f first n tests →
      ((r : ℕ) → Contains (state_at core s).regions r → (around core r ≡ s ∷ around core n) × (standing_of first r ≢ at.Outside)) → Piece d n
  by_fork n d s j b tests in_n left stands held enters alone leaves_by direct =
      segment_on (machine core) corr Told d (AtHome (Level (suc n)) home stage) (λ last. AtHome (Level n) home stage)
      (λ last. AtHome (Level n) home stage) [] [] (λ z. z ≡ e1) (Left n) join_step
      (subst (λ z. Segment (machine core) corr Told z (AtHome (Level n) home stage) (λ last. AtHome (Level n) home stage) [] (Left n))
      (sym join_step.reaches) (reached_from e1 n left_it left2))
    where
      e1 : Configuration
      e1 = record { variables = d.variables; regions = slice_set (moved (drops (inside core s)) d.regions) n (at.Trying b tests) }

      lt : n < length d.regions
      lt = once.in_range core tree deeper corr Told told Others home stage f first free d n (at.Within s (joins j ∷ [])) stands (λ z. absurd (cc))

      lt1 : n < length (moved (drops (inside core s)) d.regions)
      lt1 = omega (lt, drops_length (inside core s) d.regions, arith)

      lt2 : n < length (slice_set (moved (drops (inside core s)) d.regions) n (at.Trying b tests))
      lt2 = omega (lt1, length-set (moved (drops (inside core s)) d.regions) n (at.Trying b tests), arith)

      -- whoever lies in it lies deeper, and has left
      above : (r : ℕ) → Contains (inside core s) r → suc n ≤ r
      above r h = let up = deeper r s (inside_around core s r h) in omega (up, held, arith)

      in_it : (r : ℕ) → Contains (inside core s) r → In r
      in_it r h = around_around core tree (around core r) r s f refl (inside_around core s r h) (subst (λ z. Contains (around core z) f) (sym held) in_n)

      gone_in : (r : ℕ) → Contains (inside core s) r → Gone d (suc n) r
      gone_in r h = left.gone r (in_it r h) (above r h)

      ended : (r : ℕ) → Contains (state_at core s).regions r → standing_of d r ≡ at.Ended
      ended r h = by_gone (left.gone r in_r (let up = deeper r s around_r in omega (up, held, arith)))
        where
          around_r : Contains (around core r) s
          around_r = subst (λ zs. Contains zs s) (sym (direct r h).0) (head_in s (around core n))

          in_r : In r
          in_r = subst (λ zs. Contains zs f) (sym (direct r h).0) (tail_in s f (around core n) in_n)

          by_outer : (u : ℕ) → Contains (around core r) u → suc n ≤ holder core u → ⊥
          by_outer u inner le =
              ⊎_elim (λ same. let at_n : holder core u ≡ n = ap (holder core) (sym same) ∙ held in omega (at_n, le, arith))
              (λ tail. let up = deeper n u tail in omega (up, le, arith))
              (head_or_tail s u (around core n) (subst (λ zs. Contains zs u) (direct r h).0 inner))

          by_gone : Gone d (suc n) r → standing_of d r ≡ at.Ended
          by_gone (inl is) = is
          by_gone (inr (outside, inl was)) = absurd ((direct r h).1 was)
          by_gone (inr (outside, inr u)) = absurd (by_outer u.0 u.1 u.2)

      all_over : list_all (λ r. has_ended (standing_of d r)) (state_at core s).regions ≡ true
      all_over = each_all (λ r. has_ended (standing_of d r)) (state_at core s).regions (λ r h. ap has_ended (ended r h))

      all_idle : list_all (λ r. not (has_work core d (standing_of d r))) (inside core s) ≡ true
      all_idle = each_all (λ r. not (has_work core d (standing_of d r))) (inside core s)
          (λ r h. ap not (once.gone_idle core tree deeper corr Told told Others home stage f first free d d (suc n) r (gone_in r h)))

      none : (t : ℕ) → guards (standing_of d t) ≡ false
      none = once.no_guards core tree deeper corr Told told Others home stage f first free (suc n) d left

      -- the thread itself steps: what was reached for it counts no more
      joins_here : (more : List Entry) → Climbs corr (AtHome (Level n) home stage) more →
          Climbs corr (AtHome (Level (suc n)) home stage) (Silent n None no_access ∷ more)
      joins_here more climbs =
          climbs_step corr (AtHome (Level (suc n)) home stage) (AtHome (Level n) home stage) (Silent n None no_access) more (λ h m e. absurd (cc))
          (λ h m ne before. (
            (λ other. once.level_down core tree deeper corr Told told Others home stage f first free n h m
                (λ same in_h forked. ne (sym same)) (before.0 other)),
            before.1,
          )) climbs

      join_step : Segment (machine core) corr Told d (AtHome (Level (suc n)) home stage) (λ last. AtHome (Level n) home stage) [] (λ z. z ≡ e1)
      join_step =
          silent_step (machine core) corr Told told d e1 n None no_access (AtHome (Level (suc n)) home stage) (AtHome (Level n) home stage) (λ z. z ≡ e1)
          (joined core d n s j (at.Trying b tests) (unguarded core d none (around core n)) stands all_over all_idle enters)
          (ap access_of stands) (silent_idle corr n None) (λ more climbs. joins_here more climbs) refl

      here1 : standing_of e1 n ≡ at.Trying b tests
      here1 = set_here (moved (drops (inside core s)) d.regions) n (at.Trying b tests) lt1

      dropped1 : (q : ℕ) → q ≢ n → Contains (inside core s) q → standing_of e1 q ≡ at.Outside
      dropped1 q ne h = set_other (moved (drops (inside core s)) d.regions) n q (at.Trying b tests) ne ∙ drops_in (inside core s) d.regions q h

      same1 : (q : ℕ) → q ≢ n → ¬ Contains (inside core s) q → standing_of e1 q ≡ standing_of d q
      same1 q ne out_q = set_other (moved (drops (inside core s)) d.regions) n q (at.Trying b tests) ne ∙ drops_out (inside core s) d.regions q out_q

      quiet1 : (t : ℕ) → guards (standing_of e1 t) ≡ false
      quiet1 t =
          ⊎_elim (λ same. ap (λ p. guards (standing_of e1 p)) same ∙ ap guards here1)
          (λ ne. ⊎_elim (λ h. ap guards (dropped1 t ne h)) (λ out_t. ap guards (same1 t ne out_t) ∙ none t) (contained (inside core s) t)) (same_or_not t n)

      left_it : Goes n e1 (HasLeft n e1)
      left_it = once.tests_leave core tree deeper corr Told told Others home stage f first free home_out outer_one n b tests e1 alone leaves_by
          left.variables quiet1 lt2 here1

      left2 : Left n left_it.last
      left2 =
          once.left_after core tree deeper corr Told told Others home stage f first free n d left_it.last (inside core s) left
          (λ q h. (s, inside_around core s q h, held))
          (λ q ne out_q. left_it.reaches.elsewhere q ne ∙ same1 q ne out_q) (λ q ne h. left_it.reaches.elsewhere q ne ∙ dropped1 q ne h)
          (inl left_it.reaches.here) in_n in_it left_it.reaches.variables
          (left_it.reaches.size ∙ (length-set (moved (drops (inside core s)) d.regions) n (at.Trying b tests) ∙ drops_length (inside core s) d.regions))

  stands_still : (n : ℕ) (d : Configuration) → NotForked n → Left n d → Piece d n
  stands_still n d never left =
      record {
        log = [];
        last = d;
        follows = refl;
        charted = refl;
        fits = tt;
        climbs = λ rest climbs.
            climbs_fewer corr (AtHome (Level n) home stage) (AtHome (Level (suc n)) home stage) rest (λ h m before. lower n h m never before) climbs;
        reaches = left;
      }

  no_fork : (n : ℕ) (x : Standing) → standing_of first n ≡ x → is_forked x ≡ false → NotForked n
  no_fork n x was none in_h forked = let wrong : true ≡ false = sym forked ∙ (ap is_forked was ∙ none) in absurd cc

  by_standing : (n : ℕ) (d : Configuration) (x : Standing) → MayLeave core corr home stage f first n x → standing_of d n ≡ x → standing_of first n ≡
      x → In n → Left (suc n) d → Piece d n
  by_standing n d _ out stands was in_n left = stands_still n d (no_fork n at.Outside was refl)
      (once.skips core tree deeper corr Told told Others home stage f first free n d left (λ inner. inr (stands, inl was)))
  by_standing n d _ over stands was in_n left = stands_still n d (no_fork n at.Ended was refl)
      (once.skips core tree deeper corr Told told Others home stage f first free n d left (λ inner. inl stands))
  by_standing n d _ (tries s tests alone leaves_by) stands was in_n left = by_trying n d s tests in_n left stands was alone leaves_by
  by_standing n d _ (forks s j b tests held enters alone leaves_by direct) stands was in_n left =
      by_fork n d s j b tests in_n left stands held enters alone leaves_by direct

  one : (n : ℕ) (d : Configuration) → Left (suc n) d → Piece d n
  one n d left =
      ⊎_elim (λ in_n. by_standing n d (standing_of first n) (may n in_n) (left.waits n in_n (omega arith)) refl in_n left)
      (λ out_n. stands_still n d (λ in_n forked. out_n in_n)
      (once.skips core tree deeper corr Told told Others home stage f first free n d left (λ in_n. absurd (out_n in_n)))) (contained (around core n) f)

  abbrev Down : ℕ → Configuration → Type 0
  Down n d = Segment (machine core) corr Told d (AtHome (Level n) home stage) (λ last. AtHome (Level 0) home stage) [] (Left 0)

  all_from_number : (n : ℕ) (d : Configuration) → Left n d → Down n d
  all_from_number zero d left = no_step (machine core) corr Told told d (AtHome (Level 0) home stage) (Left 0) left
  all_from_number (suc n) d left =
      let step : Piece d n = one n d left in
      segment_on (machine core) corr Told d (AtHome (Level (suc n)) home stage) (λ last. AtHome (Level n) home stage)
      (λ last. AtHome (Level 0) home stage) [] [] (Left n) (Left 0) step (all_from_number n step.last step.reaches)

  begins : Left (length first.regions) first
  begins =
      record {
        variables = refl;
        size = refl;
        waits = λ q in_q lt. refl;
        gone = λ q in_q le. inr (
          past_number first.regions q le,
          inl
              (past_number first.regions q le),
        );
        others = λ q out_q. refl;
      }

  forks_in_range : (h : ℕ) → is_forked (standing_of first h) ≡ true → h < length first.regions
  forks_in_range h forked =
      ⊎_elim (λ lt. lt) (λ past. let wrong : true ≡ false = sym forked ∙ ap is_forked
      (past_number first.regions h past) in absurd cc)
      (cases_lt h (length first.regions))

  pub all_leave : Segment (machine core) corr Told first (AtHome Staying home stage) (λ last. AtHome Others home stage) [] (Left 0)
  all_leave =
      record {
        log = down.log;
        last = down.last;
        follows = down.follows;
        charted = down.charted;
        fits = down.fits;
        climbs = λ rest climbs.
            climbs_fewer corr (AtHome (Level (length first.regions)) home stage) (AtHome Staying home stage) (down.log ++ rest)
            (λ h m before. ((λ ne. record { staying = before.0 ne; below = λ in_h forked. forks_in_range h forked }), before.1))
            (down.climbs rest
            (climbs_fewer corr (AtHome Others home stage) (AtHome (Level 0) home stage) rest
            (λ h m before. (
              (λ ne. (before.0 ne).staying.beyond (λ in_h forked. let lt = (before.0 ne).below in_h forked in absurd (omega (lt, arith)))),
              before.1,
            )) climbs));
        reaches = down.reaches;
      }
    where
      down : Down (length first.regions) first
      down = all_from_number (length first.regions) first begins
