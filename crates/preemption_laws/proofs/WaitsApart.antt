-- The waiting machine keeps regions apart that may step together.
use Rattle.std.proofs.Common.{◌≡◌, ◌≢◌, ℕ, ⊎_elim, inl, inr, ◌⊎◌, Bool, true, false, Some, List, [], ◌∷◌, slice_set, if◌then◌else◌}
use Rattle.std.proofs.Common.{refl, sym, ap, ap₂, subst, subst₂, ◌∙◌}
use Rattle.sc_values.specs.Access.{Access, no_access, MayPrecede}
use Rattle.core_charts.specs.declared.region.Transition.{Transition}
use Rattle.chart_machine.specs.declared.region_change.RegionChange.{RegionChange}
use Rattle.chart_machine.specs.declared.standing.Configuration.{Configuration}
use Rattle.chart_machine.specs.declared.standing.Move.{Move}
use Rattle.chart_machine.specs.declared.standing.Standing.{Standing}
use Rattle.chart_machine.specs.declared.standing.Standing.TheVariants as at
use Rattle.chart_machine.specs.declared.table.Table.{Table}
use Rattle.chart_machine.specs.Steps.{to, moved, written, after, change_of, step, access_of}
use Rattle.chart_machine.specs.Turns.{standing_of, is_enabled, LiesIn}
use Rattle.chart_machine_laws.proofs.LyingIn.{swapped}
use Rattle.abort_expansion_laws.proofs.KnownVariables.{Stepped, stepped}
use Rattle.abort_expansion_laws.proofs.Leaving.{at_number, set_other}
use Rattle.preemption_laws.specs.OneEnd.{KeepsApart}
use Rattle.preemption_laws.proofs.WritesSwap.{Changes, changes}
use Rattle.preemption_laws.specs.Looks.{look, Looks}
use Rattle.preemption_laws.specs.Waiting.{holds, is_waiting, sees, gone, may_step, wait_step, wait_access, waiting_machine}
use Rattle.preemption_laws.proofs.FlagsStayUp.{stays_raised}
use Rattle.preemption_laws.proofs.Ground.{Ground, apart_on}
use Rattle.preemption_laws.proofs.LeaveSteps.{Leaver, leaver, leaves_in_core, sees_still, with_values}
use Rattle.preemption_laws.proofs.SoundCores.{IsSound}
use Rattle.preemption_laws.proofs.StepsOfWaiting.{ends_before, may_wait, may_go, waits_then, goes_then, may_by, step_by, on_core, turn_of, sits_with}
use Rattle.preemption_laws.proofs.StepsOfWaiting.{kept, gone_sound, stays_out, lies_out}

module _ (k : Table) (looks : ℕ → List Transition) (l : Looks k looks) (g : Ground k) where
  abbrev Sound : Configuration → Type 0
  Sound c = IsSound k looks l g c

  abbrev waits : Configuration → ℕ → Bool
  waits c u = is_waiting k looks (standing_of c u)

  abbrev access_at : Standing → Access
  access_at x = if is_waiting k looks x then no_access else access_of x

  -- it leaves, or it steps as in the core chart
  data Stepping (c d : Configuration) (t : ℕ) : Type 0 where
    leaving : waits c t ≡ true → Leaver k looks l c t → gone k looks t c ≡ d → Stepping c d t
    going : waits c t ≡ false → step k t c ≡ Some d → Stepping c d t

  stepping : (c d : Configuration) (t : ℕ) → Sound c → wait_step k looks t c ≡ Some d → Stepping c d t
  stepping c d t sound steps =
      ⊎_elim (λ w. leaving w.0 (leaver k looks l g c t sound w.0 w.1) w.2) (λ w. going w.0 w.1) (step_by k looks c d t steps)

  -- ---- who may step beside a step stands where it stood

  stands_too : (c d : Configuration) (t u : ℕ) → Sound c → Stepping c d t → may_step k looks c t ≡ true → u ≢ t → may_step k looks c u ≡ true →
      standing_of d u ≡ standing_of c u
  stands_too c d t u sound (leaving w h is) on_t ne on =
      ap (λ (z : Configuration). standing_of z u) (sym is) ∙ set_other c.regions t u at.Ended ne
  stands_too c d t u sound (going w steps) on_t ne on =
      stays_out k looks l g c d t u sound steps (lies_out k looks l g c t u sound on_t on (λ e. ne (sym e)))

  same_waits : (c d : Configuration) (u : ℕ) (b : Bool) → standing_of d u ≡ standing_of c u → waits c u ≡ b → waits d u ≡ b
  same_waits c d u b same w = ap (is_waiting k looks) same ∙ w

  -- whose turn it is in the core chart it is beside a leaving one, too
  enabled_beside : (c : Configuration) (t u : ℕ) → Sound c → Leaver k looks l c t → u ≢ t → is_enabled k c u ≡ true → is_enabled k (gone k looks t c) u ≡ true
  enabled_beside c t u sound h ne on =
      let core = leaves_in_core k looks l g c t sound h in
      ((apart_on k g).still (with_values k looks l g core.0 c) (with_values k looks l g core.0 (gone k looks t c)) t u
      (sits_with k looks l g core.0 c sound.core.sits) core.1 ne on).0

  -- a flag that is seen beside a step is seen behind it
  sees_beside : (c d : Configuration) (t u : ℕ) → Sound c → Stepping c d t → standing_of d u ≡ standing_of c u → (h : Leaver k looks l c u) →
      sees k looks d (standing_of d u) ≡ true
  sees_beside c d t u sound steps same h =
      subst (λ x. sees k looks d x ≡ true) (sym (same ∙ h.stands))
      (sees_still k looks l d h.state h.flag h.seen (by steps) (looks h.state))
    where
      by : Stepping c d t → holds d (look (l.left h.state) h.flag) ≡ true
      by (leaving w other is) = subst (λ z. holds z (look (l.left h.state) h.flag) ≡ true) is h.raised
      by (going w goes) = stays_raised k looks l g c d t u sound goes h

  pub still : (c d : Configuration) (t u : ℕ) → Sound c → wait_step k looks t c ≡ Some d → u ≢ t → may_step k looks c u ≡ true →
      (may_step k looks d u ≡ true) × (wait_access k looks d u ≡ wait_access k looks c u)
  still c d t u sound steps ne on = (
    ⊎_elim
        (λ w. may_wait k looks d u (same_waits c d u true same w.0) (sees_beside c d t u sound s same (leaver k looks l g c u sound w.0 w.1)))
        (λ w. may_go k looks d u (same_waits c d u false same w.0) (enabled s w.1)) (may_by k looks c u on),
    ap access_at same,
  )
    where
      s : Stepping c d t
      s = stepping c d t sound steps

      same : standing_of d u ≡ standing_of c u
      same = stands_too c d t u sound s (turn_of k looks l g c d t steps) ne on

      enabled : Stepping c d t → is_enabled k c u ≡ true → is_enabled k d u ≡ true
      enabled (leaving w h is) on_too = subst (λ z. is_enabled k z u ≡ true) is (enabled_beside c t u sound h ne on_too)
      enabled (going w goes) on_too = ((apart_on k g).still c d t u sound.core.sits goes ne on_too).0

  -- ---- the second step first

  -- what a step from c to d of a region that stands so makes where the variables are the same
  record Alike (c d f : Configuration) (u : ℕ) (x : Standing) : Type 0 where
    moves : List Move
    regions : moved moves c.regions ≡ d.regions
    change : RegionChange
    does : change_of k f u x ≡ Some change
    same_moves : change.moves ≡ moves
    variables : written change.write f.variables ≡ d.variables

  alike : (c d f : Configuration) (u : ℕ) → step k u c ≡ Some d → f.variables ≡ c.variables → Alike c d f u (standing_of c u)
  alike c d f u steps same =
      let parts : Stepped k u c d = stepped k u c d steps in
      let all : Changes k u (standing_of c u) c.variables (written parts.change.write c.variables) parts.change.moves =
      changes k u (standing_of c u) c parts.change parts.does in
      let one = all.does f same in
      record {
        moves = parts.change.moves;
        regions = ap (λ (z : Configuration). z.regions) parts.is;
        change = one.0;
        does = one.1;
        same_moves = one.3;
        variables = ap (written one.0.write) same ∙ (one.2 ∙ ap (λ (z : Configuration). z.variables) parts.is);
      }

  takes_step : (f : Configuration) (u : ℕ) (d : RegionChange) → is_enabled k f u ≡ true → change_of k f u (standing_of f u) ≡ Some d →
      step k u f ≡ Some (after d f)
  takes_step f u d on does = rw (on, does) refl

  abbrev First : Configuration → Configuration → ℕ → ℕ → Type 0
  First c e t u = (f : Configuration) × (wait_step k looks u c ≡ Some f) × (wait_step k looks t f ≡ Some e)

  module _ (c : Configuration) (t u : ℕ) (sound : Sound c) (ne : u ≢ t) (on_t : may_step k looks c t ≡ true) (on : may_step k looks c u ≡ true) where
    t_ne : t ≢ u
    t_ne same = ne (sym same)

    t_out : ¬ LiesIn k t u
    t_out = lies_out k looks l g c u t sound on on_t ne

    u_out : ¬ LiesIn k u t
    u_out = lies_out k looks l g c t u sound on_t on t_ne

    -- both step as in the core chart
    both_go : (d e : Configuration) → waits c t ≡ false → step k t c ≡ Some d → waits c u ≡ false → step k u d ≡ Some e →
        MayPrecede (wait_access k looks c t) (wait_access k looks c u) → MayPrecede (wait_access k looks c u) (wait_access k looks c t) → First c e t u
    both_go d e w goes w_u goes_too may may_too =
        let of_t : wait_access k looks c t ≡ access_of (standing_of c t) = ap (λ b. if b then no_access else access_of (standing_of c t)) w in
        let of_u : wait_access k looks c u ≡ access_of (standing_of c u) = ap (λ b. if b then no_access else access_of (standing_of c u)) w_u in
        let f = (apart_on k g).swap c d e t u sound.core.sits ne goes (on_core k looks l g c u sound on) goes_too (subst₂ MayPrecede of_t of_u may)
        (subst₂ MayPrecede of_u of_t may_too) in
        let at_t : standing_of f.0 t ≡ standing_of c t = stays_out k looks l g c f.0 u t sound f.1 t_out in
        (f.0, goes_then k looks c u w_u ∙ f.1, goes_then k looks f.0 t (same_waits c f.0 t false at_t w) ∙ f.2)

    -- t goes, and u leaves behind it
    goes_leaves : (d : Configuration) → waits c t ≡ false → step k t c ≡ Some d → waits c u ≡ true → sees k looks c (standing_of c u) ≡ true →
        Leaver k looks l c u → First c (gone k looks u d) t u
    goes_leaves d w goes w_u up h =
        let f : Configuration = gone k looks u c in
        let at_t : standing_of f t ≡ standing_of c t = set_other c.regions u t at.Ended t_ne in
        let a : Alike c d f t (standing_of c t) = alike c d f t goes refl in
        let to_e : step k t f ≡ Some (after a.change f) =
        takes_step f t a.change (enabled_beside c u t sound h t_ne (on_core k looks l g c t sound on_t)) (ap (change_of k f t) at_t ∙ a.does) in
        let stays : at_number (moved a.moves (slice_set c.regions u at.Ended)) u ≡ at_number (slice_set c.regions u at.Ended) u =
        ap (λ ms. at_number (moved ms (slice_set c.regions u at.Ended)) u) (sym a.same_moves)
        ∙ stays_out k looks l g f (after a.change f) t u (gone_sound k looks l g c u sound h) to_e u_out in
        let regions : moved a.change.moves (slice_set c.regions u at.Ended) ≡ slice_set d.regions u at.Ended =
        ap (λ ms. moved ms (slice_set c.regions u at.Ended)) a.same_moves
        ∙ (sym (ends_before a.moves u c.regions stays) ∙ ap (λ zs. slice_set zs u at.Ended) a.regions) in
        let is : after a.change f ≡ gone k looks u d = ap₂ (λ vs zs. record { variables = vs; regions = zs }) a.variables regions in (
          f,
          waits_then k looks c u w_u up,
          goes_then k looks f t (same_waits c f t false at_t w) ∙ (to_e ∙ ap Some is),
        )

    -- t leaves, and u goes behind it
    leaves_goes : (e : Configuration) → waits c t ≡ true → Leaver k looks l c t → waits c u ≡ false → step k u (gone k looks t c) ≡ Some e → First c e t u
    leaves_goes e w h w_u goes =
        let at_u : standing_of (gone k looks t c) u ≡ standing_of c u = set_other c.regions t u at.Ended ne in
        let a : Alike (gone k looks t c) e c u (standing_of c u) =
        subst (Alike (gone k looks t c) e c u) at_u (alike (gone k looks t c) e c u goes refl) in
        let f : Configuration = after a.change c in
        let to_f : step k u c ≡ Some f = takes_step c u a.change (on_core k looks l g c u sound on) a.does in
        let at_t : standing_of f t ≡ standing_of c t = stays_out k looks l g c f u t sound to_f t_out in
        let stays : at_number (moved a.moves (slice_set c.regions t at.Ended)) t ≡ at_number (slice_set c.regions t at.Ended) t =
        ap (λ zs. at_number zs t) a.regions
        ∙ stays_out k looks l g (gone k looks t c) e u t (gone_sound k looks l g c t sound h) goes t_out in
        let regions : slice_set (moved a.change.moves c.regions) t at.Ended ≡ e.regions =
        ap (λ ms. slice_set (moved ms c.regions) t at.Ended) a.same_moves ∙ (ends_before a.moves t c.regions stays ∙ a.regions) in
        let is : gone k looks t f ≡ e = ap₂ (λ vs zs. record { variables = vs; regions = zs }) a.variables regions in (
          f,
          goes_then k looks c u w_u ∙ to_f,
          waits_then k looks f t (same_waits c f t true at_t w) (sees_beside c f u t sound (going w_u to_f) at_t h) ∙ ap Some is,
        )

    both_leave : waits c t ≡ true → Leaver k looks l c t → waits c u ≡ true → sees k looks c (standing_of c u) ≡ true → Leaver k looks l c u →
        First c (gone k looks u (gone k looks t c)) t u
    both_leave w h w_u up h_u =
        let f : Configuration = gone k looks u c in
        let at_t : standing_of f t ≡ standing_of c t = set_other c.regions u t at.Ended t_ne in
        let is : gone k looks t f ≡ gone k looks u (gone k looks t c) =
        ap (λ zs. record { variables = c.variables; regions = zs })
        (ends_before (to u at.Ended ∷ []) t c.regions (set_other (slice_set c.regions t at.Ended) u t at.Ended t_ne)) in (
          f,
          waits_then k looks c u w_u up,
          waits_then k looks f t (same_waits c f t true at_t w) (sees_beside c f u t sound (leaving w_u h_u refl) at_t h) ∙ ap Some is,
        )

  -- how u steps behind t
  leaves_behind : (d e : Configuration) (u : ℕ) → waits d u ≡ true → wait_step k looks u d ≡ Some e → gone k looks u d ≡ e
  leaves_behind d e u w steps = ⊎_elim (λ one. one.2) (λ other. absurd (let off = other.0 in differ off)) (step_by k looks d e u steps)
    where
      differ : waits d u ≡ false → ⊥
      differ off = absurd (let wrong : true ≡ false = sym w ∙ off in cc)

  goes_behind : (d e : Configuration) (u : ℕ) → waits d u ≡ false → wait_step k looks u d ≡ Some e → step k u d ≡ Some e
  goes_behind d e u w steps = sym (goes_then k looks d u w) ∙ steps

  pub second_first : (c d e : Configuration) (t u : ℕ) → Sound c → u ≢ t → wait_step k looks t c ≡ Some d → may_step k looks c u ≡ true →
      wait_step k looks u d ≡ Some e → MayPrecede (wait_access k looks c t) (wait_access k looks c u) →
      MayPrecede (wait_access k looks c u) (wait_access k looks c t) → First c e t u
  second_first c d e t u sound ne steps on steps_too may may_too = by s (may_by k looks c u on)
    where
      on_t : may_step k looks c t ≡ true
      on_t = turn_of k looks l g c d t steps

      s : Stepping c d t
      s = stepping c d t sound steps

      at_u : standing_of d u ≡ standing_of c u
      at_u = stands_too c d t u sound s on_t ne on

      by : Stepping c d t →
          ((waits c u ≡ true) × (sees k looks c (standing_of c u) ≡ true)) ⊎ ((waits c u ≡ false) × (is_enabled k c u ≡ true)) → First c e t u
      by (going w goes) (inr w_u) =
          both_go c t u sound ne on_t on d e w goes w_u.0 (goes_behind d e u (same_waits c d u false at_u w_u.0) steps_too) may may_too
      by (going w goes) (inl w_u) =
          subst (λ z. First c z t u) (leaves_behind d e u (same_waits c d u true at_u w_u.0) steps_too)
          (goes_leaves c t u sound ne on_t on d w goes w_u.0 w_u.1 (leaver k looks l g c u sound w_u.0 w_u.1))
      by (leaving w h is) (inr w_u) =
          leaves_goes c t u sound ne on_t on e w h w_u.0
          (subst (λ z. step k u z ≡ Some e) (sym is) (goes_behind d e u (same_waits c d u false at_u w_u.0) steps_too))
      by (leaving w h is) (inl w_u) =
          subst (λ z. First c z t u) (ap (gone k looks u) is ∙ leaves_behind d e u (same_waits c d u true at_u w_u.0) steps_too)
          (both_leave c t u sound ne on_t on w h w_u.0 w_u.1 (leaver k looks l g c u sound w_u.0 w_u.1))

  -- ---- all of it

  pub waits_apart : KeepsApart (waiting_machine k looks) Sound
  waits_apart =
      record {
        turns = λ c d t steps. turn_of k looks l g c d t steps;
        kept = λ c d t sound steps. kept k looks l g c d t sound steps;
        still = λ c d t u sound steps ne on. still c d t u sound steps ne on;
        apart = λ c t u sound on on_too ne.
            (apart_on k g).apart c t u sound.core.sits (on_core k looks l g c t sound on) (on_core k looks l g c u sound on_too) ne;
        waits = λ c t u v a sound on on_too met.
            (apart_on k g).waits c t u v a sound.core.sits (on_core k looks l g c t sound on) (on_core k looks l g c u sound on_too) met;
        turned = λ t u a met. swapped k g.tree.nested t u a met;
        swap = λ c d e t u sound ne steps on steps_too may may_too. second_first c d e t u sound ne steps on steps_too may may_too;
      }
