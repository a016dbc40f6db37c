-- A step of the waiting machine, taken apart: a region that waits leaves, or one that does not steps as in the core chart. Who is enabled has its turn in
-- the core chart, too.
use Rattle.std.proofs.Common.{◌≡◌, ◌≢◌, ℕ, ◌⊎◌, inl, inr, ⊎_elim, Bool, true, false, Some, List, [], ◌∷◌, length, slice_set}
use Rattle.std.proofs.Common.{if◌then◌else◌, refl, sym, ap, subst, ◌∙◌, arith}
use Rattle.std.proofs.lemmas.Bool.{cases_lt}
use Rattle.std.proofs.lemmas.Option.{same_Some}
use Rattle.std.proofs.lemmas.List.{length-set}
use Rattle.sc_values.specs.declared.value.Value.{Value}
use Rattle.sc_graph.specs.Steps.{only_if}
use Rattle.core_charts.specs.declared.region.Transition.{Transition}
use Rattle.chart_machine.specs.declared.standing.Configuration.{Configuration}
use Rattle.chart_machine.specs.declared.standing.Move.{Move}
use Rattle.chart_machine.specs.declared.standing.Standing.{Standing}
use Rattle.chart_machine.specs.declared.standing.Standing.TheVariants as at
use Rattle.chart_machine.specs.declared.table.Table.{Table}
use Rattle.chart_machine.specs.Steps.{to, moved, step}
use Rattle.chart_machine.specs.Turns.{standing_of, is_enabled, LiesIn}
use Rattle.tick_laws.proofs.Lists.{same_or_not}
use Rattle.tick_laws.proofs.Views.{only_if_some}
use Rattle.chart_lowering_laws.proofs.Entering.{moved_length}
use Rattle.abort_expansion_laws.proofs.ChartSteps.{StepMade, step_made}
use Rattle.abort_expansion_laws.proofs.FreshInside.{moved_alike}
use Rattle.abort_expansion_laws.proofs.Leaving.{at_number, set_here, set_other}
use Rattle.abort_expansion_laws.proofs.NumberedRegions.{past_number}
use Rattle.preemption_laws.proofs.ApartTogether.{not_in}
use Rattle.preemption_laws.proofs.MovesInside.{moves_inside}
use Rattle.preemption_laws.proofs.StepsSwap.{all_same}
use Rattle.preemption_laws.specs.Looks.{Looks}
use Rattle.preemption_laws.specs.Waiting.{is_waiting, sees, gone, may_step, wait_step}
use Rattle.preemption_laws.proofs.FitsThere.{all_moved_fit}
use Rattle.preemption_laws.proofs.Ground.{Ground, SitsOn, apart_on, sits_on, enclosed_on}
use Rattle.preemption_laws.proofs.Forms.{InForm, at_once_in_form, first_closing_in_form}
use Rattle.preemption_laws.proofs.LeaveSteps.{Leaver, leaver, leaver_turn, leaves_in_core, with_values}
use Rattle.preemption_laws.proofs.NormalForms.{IsNormal}
use Rattle.preemption_laws.proofs.SoundCores.{IsSound, sound_still, there_of}

-- ---- lists of standings

-- a region may end before or after moves of others
pub ends_before : (ms : List Move) (t : ℕ) (zs : List Standing) →
    at_number (moved ms (slice_set zs t at.Ended)) t ≡ at_number (slice_set zs t at.Ended) t →
    slice_set (moved ms zs) t at.Ended ≡ moved ms (slice_set zs t at.Ended)
ends_before ms t zs stays =
    all_same (slice_set (moved ms zs) t at.Ended) (moved ms (slice_set zs t at.Ended))
    (length-set (moved ms zs) t at.Ended ∙ (moved_length ms zs ∙ (sym (length-set zs t at.Ended) ∙ sym (moved_length ms (slice_set zs t at.Ended)))))
    (λ q. ⊎_elim (λ same. subst (λ p. at_number (slice_set (moved ms zs) t at.Ended) p ≡ at_number (moved ms (slice_set zs t at.Ended)) p) (sym same) here)
    (λ ne.
    set_other (moved ms zs) t q at.Ended ne
    ∙ sym (moved_alike ms (slice_set zs t at.Ended) zs q (length-set zs t at.Ended) (set_other zs t q at.Ended ne))) (same_or_not q t))
  where
    here : at_number (slice_set (moved ms zs) t at.Ended) t ≡ at_number (moved ms (slice_set zs t at.Ended)) t
    here =
        ⊎_elim
        (λ lt.
        set_here (moved ms zs) t at.Ended (let size = moved_length ms zs in omega (size, lt, arith))
        ∙ sym (stays ∙ set_here zs t at.Ended lt))
        (λ past.
        past_number (slice_set (moved ms zs) t at.Ended) t
        (let size = moved_length ms zs in let set_size = length-set (moved ms zs) t at.Ended in omega (size, set_size, past, arith))
        ∙ sym (stays ∙ past_number (slice_set zs t at.Ended) t (let size = length-set zs t at.Ended in omega (size, past, arith))))
        (cases_lt t (length zs))

module _ (k : Table) (looks : ℕ → List Transition) where
  pub may_wait : (c : Configuration) (u : ℕ) → is_waiting k looks (standing_of c u) ≡ true → sees k looks c (standing_of c u) ≡ true →
      may_step k looks c u ≡ true
  may_wait c u waits up = ap (λ b. if b then sees k looks c (standing_of c u) else is_enabled k c u) waits ∙ up

  pub may_go : (c : Configuration) (u : ℕ) → is_waiting k looks (standing_of c u) ≡ false → is_enabled k c u ≡ true → may_step k looks c u ≡ true
  may_go c u goes on = ap (λ b. if b then sees k looks c (standing_of c u) else is_enabled k c u) goes ∙ on

  pub waits_then : (c : Configuration) (u : ℕ) → is_waiting k looks (standing_of c u) ≡ true → sees k looks c (standing_of c u) ≡ true →
      wait_step k looks u c ≡ Some (gone k looks u c)
  waits_then c u waits up =
      ap (λ b. if b then only_if (sees k looks c (standing_of c u)) (Some (gone k looks u c)) else step k u c) waits
      ∙ ap (λ b. only_if b (Some (gone k looks u c))) up

  pub goes_then : (c : Configuration) (u : ℕ) → is_waiting k looks (standing_of c u) ≡ false → wait_step k looks u c ≡ step k u c
  goes_then c u goes = ap (λ b. if b then only_if (sees k looks c (standing_of c u)) (Some (gone k looks u c)) else step k u c) goes

  -- who may step, by whether it waits
  pub may_by : (c : Configuration) (u : ℕ) → may_step k looks c u ≡ true →
      ((is_waiting k looks (standing_of c u) ≡ true) × (sees k looks c (standing_of c u) ≡ true))
      ⊎ ((is_waiting k looks (standing_of c u) ≡ false) × (is_enabled k c u ≡ true))
  may_by c u on = by (is_waiting k looks (standing_of c u)) refl
    where
      by : (b : Bool) → is_waiting k looks (standing_of c u) ≡ b →
          ((is_waiting k looks (standing_of c u) ≡ true) × (sees k looks c (standing_of c u) ≡ true))
          ⊎ ((is_waiting k looks (standing_of c u) ≡ false) × (is_enabled k c u ≡ true))
      by true e = inl (e, sym (ap (λ b. if b then sees k looks c (standing_of c u) else is_enabled k c u) e) ∙ on)
      by false e = inr (e, sym (ap (λ b. if b then sees k looks c (standing_of c u) else is_enabled k c u) e) ∙ on)

  -- and who steps
  pub step_by : (c d : Configuration) (t : ℕ) → wait_step k looks t c ≡ Some d →
      ((is_waiting k looks (standing_of c t) ≡ true) × (sees k looks c (standing_of c t) ≡ true) × (gone k looks t c ≡ d))
      ⊎ ((is_waiting k looks (standing_of c t) ≡ false) × (step k t c ≡ Some d))
  step_by c d t steps = by (is_waiting k looks (standing_of c t)) refl
    where
      by : (b : Bool) → is_waiting k looks (standing_of c t) ≡ b →
          ((is_waiting k looks (standing_of c t) ≡ true) × (sees k looks c (standing_of c t) ≡ true) × (gone k looks t c ≡ d))
          ⊎ ((is_waiting k looks (standing_of c t) ≡ false) × (step k t c ≡ Some d))
      by true e =
          let now : only_if (sees k looks c (standing_of c t)) (Some (gone k looks t c)) ≡ Some d =
          sym (ap (λ b. if b then only_if (sees k looks c (standing_of c t)) (Some (gone k looks t c)) else step k t c) e) ∙ steps in
          let parts = only_if_some (sees k looks c (standing_of c t)) (Some (gone k looks t c)) d now in
          inl (e, parts.0, same_Some (gone k looks t c) d parts.1)
      by false e = inr (e, sym (goes_then c t e) ∙ steps)

  module _ (l : Looks k looks) (g : Ground k) where
    -- in the core chart they have their turn as well
    pub on_core : (c : Configuration) (u : ℕ) → IsSound k looks l g c → may_step k looks c u ≡ true → is_enabled k c u ≡ true
    on_core c u sound on =
        ⊎_elim (λ waits. leaver_turn k looks l g c u sound (leaver k looks l g c u sound waits.0 waits.1)) (λ goes. goes.1) (may_by c u on)

    pub turn_of : (c d : Configuration) (t : ℕ) → wait_step k looks t c ≡ Some d → may_step k looks c t ≡ true
    turn_of c d t steps =
        ⊎_elim (λ waits. may_wait c t waits.0 waits.1) (λ goes. may_go c t goes.0 ((apart_on k g).turns c d t goes.1)) (step_by c d t steps)

    -- how they sit has nothing to do with variables
    pub sits_with : (values : List Value) (c : Configuration) → SitsOn k g c → SitsOn k g (with_values k looks l g values c)
    sits_with values c sits = record { size = sits.size; chart_out = sits.chart_out; next = sits.next; stands = sits.stands }

    sits_without : (values : List Value) (c : Configuration) → SitsOn k g (with_values k looks l g values c) → SitsOn k g c
    sits_without values c sits = record { size = sits.size; chart_out = sits.chart_out; next = sits.next; stands = sits.stands }

    pub gone_sound : (c : Configuration) (t : ℕ) → IsSound k looks l g c → Leaver k looks l c t → IsSound k looks l g (gone k looks t c)
    gone_sound c t sound h =
        let core = leaves_in_core k looks l g c t sound h in
        record {
          core = record {
            sits = sits_without core.0 (gone k looks t c)
                (sits_on k g (with_values k looks l g core.0 c) (with_values k looks l g core.0 (gone k looks t c)) t (sits_with core.0 c sound.core.sits)
                core.1);
            forms = λ q.
                all_moved_fit k g l.no_strong (InForm k looks l) (λ r. tt) (λ r. tt) (λ x is. at_once_in_form k looks l x)
                (λ x is. first_closing_in_form k looks l x) (to t at.Ended ∷ []) c.regions (tt, tt) sound.core.forms q;
          };
          normal = λ q. ended_normal q;
        }
      where
        ended_normal : (q : ℕ) → IsNormal k looks (at_number (slice_set c.regions t at.Ended) q)
        ended_normal q =
            ⊎_elim here (λ ne. subst (IsNormal k looks) (sym (set_other c.regions t q at.Ended ne)) (sound.normal q)) (same_or_not q t)
          where
            here : q ≡ t → IsNormal k looks (at_number (slice_set c.regions t at.Ended) q)
            here same =
                ⊎_elim
                (λ lt.
                subst (λ p. IsNormal k looks (at_number (slice_set c.regions t at.Ended) p)) (sym same)
                (subst (IsNormal k looks) (sym (set_here c.regions t at.Ended lt)) refl))
                (λ past.
                subst (IsNormal k looks)
                (sym (past_number (slice_set c.regions t at.Ended) q (let size = length-set c.regions t at.Ended in omega (size, past, same, arith)))) refl)
                (cases_lt t (length c.regions))

    pub kept : (c d : Configuration) (t : ℕ) → IsSound k looks l g c → wait_step k looks t c ≡ Some d → IsSound k looks l g d
    kept c d t sound steps =
        ⊎_elim
        (λ waits.
        subst (IsSound k looks l g) waits.2 (gone_sound c t sound (leaver k looks l g c t sound waits.0 waits.1)))
        (λ goes. sound_still k looks l g c d t sound goes.1 goes.0) (step_by c d t steps)

    -- who lies elsewhere stays
    pub stays_out : (c d : Configuration) (t q : ℕ) → IsSound k looks l g c → step k t c ≡ Some d → ¬ LiesIn k q t → standing_of d q ≡ standing_of c q
    stays_out c d t q sound steps out =
        let made : StepMade k t c d = step_made k t c d steps in
        let there = there_of k looks l g c t sound.core.sits ((apart_on k g).turns c d t steps) in
        ap (λ (z : Configuration). at_number z.regions q) (sym made.is)
        ∙ moves_inside k g.tree g.entries g.elsewhere g.state_there t q there out (standing_of c t) made.change.moves made.makes (sound.core.sits.stands t)
        c.regions

    -- neither of two that may step lies in the other
    pub lies_out : (c : Configuration) (t u : ℕ) → IsSound k looks l g c → may_step k looks c t ≡ true → may_step k looks c u ≡ true → t ≢ u →
        ¬ LiesIn k u t
    lies_out c t u sound on on_too ne =
        not_in k g.tree g.holder_there c (enclosed_on k g c sound.core.sits) t u (on_core c t sound on) (on_core c u sound on_too) ne
