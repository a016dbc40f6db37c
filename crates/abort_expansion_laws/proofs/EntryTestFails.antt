-- A strong abort of a superstate on entry that is not taken, with another one behind it: region and thread do the same.
use Rattle.std.proofs.Common.{◌≡◌, ℕ, Bool, true, false, Some, None, List, [], ◌∷◌, ◌++◌, map, length, slice_set, refl, sym, ap, subst, ◌∙◌, arith}
use Rattle.std.proofs.lemmas.Option.{same_Some}
use Rattle.sc_values.specs.Runs.{act_of}
use Rattle.core_charts.specs.declared.region.Transition.{Transition}
use Rattle.chart_machine.specs.declared.standing.Standing.{Standing}
use Rattle.chart_machine.specs.declared.standing.Standing.TheVariants as at
use Rattle.chart_machine.specs.declared.standing.Configuration.{Configuration}
use Rattle.chart_machine.specs.declared.table.Table.{Table}
use Rattle.chart_machine.specs.Table.{state_at}
use Rattle.chart_machine.specs.Turns.{standing_of, has_work, is_guarded}
use Rattle.chart_machine.specs.Steps.{state_in, to, after, verdict, change_of, step, access_of, access_of_trigger}
use Rattle.chart_machine.specs.Machine.{machine}
use Rattle.abort_expansion.specs.Transitions.{go, led_by}
use Rattle.abort_expansion.specs.Superstates.{is_prepared, resets}
use Rattle.abort_expansion_laws.specs.Stages.{Entry, Image}
use Rattle.abort_expansion_laws.proofs.Segments.{Segment}
use Rattle.chart_machine_laws.proofs.LyingIn.{IsNested, around, holder}
use Rattle.abort_expansion_laws.proofs.TablesCorrespond.{IsThere}
use Rattle.abort_expansion_laws.proofs.MoreValues.{verdict_over_more}
use Rattle.abort_expansion_laws.specs.CoreRows.{own, IsSuper, Images, CoreRows, flags_around}
use Rattle.abort_expansion_laws.specs.Related.{Stands, outside, ended, left, trying, acting, entering, guarding, staying, within, behind, Watches, IsInside}
use Rattle.abort_expansion_laws.specs.Related.{guarded, open_inside, Related}
use Rattle.abort_expansion_laws.proofs.Unchanged.{never_guarded}
use Rattle.abort_expansion_laws.proofs.StageReached.{Stage}
use Rattle.abort_expansion_laws.proofs.ImageSteps.{pair, ImageStep, image_segment}
use Rattle.abort_expansion_laws.proofs.KnownVariables.{Stepped, stepped, present_there, trigger_known}
use Rattle.abort_expansion_laws.proofs.TestFails.{tested_is, fails, watch_other}

-- ---- where a thread stands in a preparation, taken apart

pub record IsEntering (k core : Table) (i : Images) (r s : ℕ) (tests : List Transition) (y : Standing) : Type 0 where
  pub fork : ℕ
  pub super : IsSuper k s × (is_prepared (flags_around k core i r) (own k s) ≡ true)
  pub held : holder k s ≡ r
  pub leads : state_in core (i.thread_of r) fork ≡ i.main_of s
  pub is : y ≡ at.Trying (i.entry_of s) (map (λ z. led_by (i.places_of r) z.trigger z) tests ++ go true None
      (resets (i.flags_of s) (length (state_at k s).regions)) fork ∷ [])

module _ (k core : Table) (i : Images) (c : Configuration) (r : ℕ) where
  abbrev opening_tests : ℕ → List Transition → ℕ → List Transition
  opening_tests s tests fork = map (λ z. led_by (i.places_of r) z.trigger z) tests ++ go true None (resets (i.flags_of s) (length (state_at k s).regions))
      fork ∷ []

  pub entering_back : (x y : Standing) → Stands k core i c r x y → (s : ℕ) (tests : List Transition) → x ≡ at.Entering s tests → IsEntering k core i r s tests y
  entering_back _ _ outside s tests e = absurd cc
  entering_back _ _ (ended inner) s tests e = absurd cc
  entering_back _ _ (left u ss f over) s tests e = absurd cc
  entering_back _ _ (trying u others simple held) s tests e = absurd cc
  entering_back _ _ (acting u v p f effects lt) s tests e = absurd cc
  entering_back _ _ (entering u fork t others super held leads) s tests e =
      let state : u ≡ s = cc in
      let same : t ∷ others ≡ tests = cc in
      record {
        fork = fork;
        super = subst (λ v. IsSuper k v × (is_prepared (flags_around k core i r) (own k v) ≡ true)) state super;
        held = ap (holder k) (sym state) ∙ held;
        leads = leads ∙ ap i.main_of state;
        is = ap (λ v. at.Trying (i.entry_of v) (opening_tests v (t ∷ others) fork)) state ∙ ap (λ zs. at.Trying (i.entry_of s) (opening_tests s zs fork)) same;
      }
  entering_back _ _ (guarding u join t others has held leads) s tests e = absurd cc
  entering_back _ _ (staying u others super held stays) s tests e = absurd cc
  entering_back _ _ (within u join others super held stays open_still leads) s tests e = absurd cc
  entering_back _ _ (behind u others super held over) s tests e = absurd cc

  pub entering_no_inside : (o s : ℕ) (tests : List Transition) (x : Standing) → x ≡ at.Entering s tests → IsInside k core i o x → ⊥
  entering_no_inside o s tests _ e (guarded others) = absurd cc
  entering_no_inside o s tests _ e (open_inside others) = absurd cc

module _ (k core : Table) (i : Images) (rows : CoreRows k core i) (tree : IsNested k) (counts : ℕ → Bool) (written_at : ℕ → ℕ)
    (c d : Configuration) (related : Related k core i c d) (q s : ℕ) (t u : Transition) (tests : List Transition)
    (stands : standing_of c q ≡ at.Entering s (t ∷ u ∷ tests)) where
  there : IsThere k q
  there = present_there k core i c d related q (λ e. let wrong : at.Entering s (t ∷ u ∷ tests) ≡ at.Outside = sym stands ∙ e in absurd cc)

  pub thread : IsEntering k core i q s (t ∷ u ∷ tests) (standing_of d (i.thread_of q))
  thread = entering_back k core i c q (standing_of c q) (standing_of d (i.thread_of q)) (related.regions q there) s (t ∷ u ∷ tests) stands

  abbrev pub rest : List Transition
  rest = map (λ z. led_by (i.places_of q) z.trigger z) (u ∷ tests) ++ go true None (resets (i.flags_of s) (length (state_at k s).regions)) thread.fork ∷ []

  core_stands : standing_of d (i.thread_of q) ≡ at.Trying (i.entry_of s) (led_by (i.places_of q) t.trigger t ∷ rest)
  core_stands = thread.is

  module _ (free : is_guarded k c (around k q) ≡ false) where
    pub opening_on : verdict c.variables t.trigger ≡ Some false → has_work k c (standing_of c q) ≡ true →
        ImageStep k core i rows tree counts written_at c d q (at.Entering s (u ∷ tests)) (at.Trying (i.entry_of s) rest)
        (record { variables = c.variables; regions = slice_set c.regions q (at.Entering s (u ∷ tests)) })
        (record { variables = d.variables; regions = slice_set d.regions (i.thread_of q) (at.Trying (i.entry_of s) rest) })
        (access_of_trigger t.trigger)
    opening_on false_there works =
        record {
          goes =
              record {
                there = there;
                chart = refl;
                core_too = refl;
                ends = rw (stands) refl;
                guards_alike = rw (stands) refl;
                was_there = λ e. let wrong : at.Entering s (t ∷ u ∷ tests) ≡ at.Outside = sym stands ∙ e in absurd cc;
                is_there = λ e. absurd cc;
                stands = entering s thread.fork u tests thread.super thread.held thread.leads;
                watches = λ o in_chart has held.
                    watch_other k core i o (standing_of c q) (standing_of d (i.watcher_of o)) (at.Entering s (u ∷ tests))
                    (subst (λ p. Watches k core i o (standing_of c p) (standing_of d (i.watcher_of o))) held (related.watchers o in_chart has))
                    (λ others e. let wrong : at.Entering s (t ∷ u ∷ tests) ≡ at.Guarding o others = sym stands ∙ e in absurd cc)
                    (λ others e. let wrong : at.Entering s (t ∷ u ∷ tests) ≡ at.Within o others = sym stands ∙ e in absurd cc)
                    (λ others e. absurd cc) (λ others e. absurd cc);
                inside = λ o held inner. absurd (entering_no_inside k core i c q o s (t ∷ u ∷ tests) (standing_of c q) stands inner);
                inside_back = λ o held inner. absurd (entering_no_inside k core i c q o s (u ∷ tests) (at.Entering s (u ∷ tests)) refl inner);
                free = free;
                closes = λ v others its w. absurd cc;
                more = related.more;
                variables = related.variables;
                flag_count = related.flag_count;
                values = related.values;
                flags = λ x le. refl;
              };
          works = works;
          free = free;
          steps =
              fails core d (i.thread_of q) (i.entry_of s) (led_by (i.places_of q) t.trigger t) rest
              (never_guarded k core i rows c d related (around core (i.thread_of q))) core_stands
              (subst (λ vs. verdict vs t.trigger ≡ Some false) (sym related.variables)
              (verdict_over_more related.more c.variables t.trigger false false_there));
          chart_access = ap access_of stands;
          core_access = ap access_of core_stands;
          declared = λ x touches. let lt = trigger_known c.variables t.trigger false false_there x touches in omega (lt, related.values, arith);
        }

  -- the whole of it
  pub opening_on_followed : (Told : Configuration → Entry → Type 0) → Told d (Image q (access_of_trigger t.trigger)) → (next : Configuration) →
      step k q c ≡ Some next → verdict c.variables t.trigger ≡ Some false →
      Segment (machine core) (pair k core i rows tree counts written_at) Told d (Stage k i.thread_of c d) (Stage k i.thread_of next)
      (act_of (machine k) c q ∷ []) (Related k core i next)
  opening_on_followed Told told next steps false_there =
      let parts : Stepped k q c next = stepped k q c next steps in
      let change : record { write = None; moves = to q (at.Entering s (u ∷ tests)) ∷ [] } ≡ parts.change =
      same_Some _ parts.change (sym (ap (change_of k c q) stands ∙ tested_is k c q s t (to q (at.Entering s (u ∷ tests)) ∷ []) false false_there) ∙
      parts.does) in
      let is : record { variables = c.variables; regions = slice_set c.regions q (at.Entering s (u ∷ tests)) } ≡ next = ap (λ e. after e c) change ∙ parts.is in
      subst (λ c'. Segment (machine core) (pair k core i rows tree counts written_at) Told d (Stage k i.thread_of c d) (Stage k i.thread_of c')
      (act_of (machine k) c q ∷ []) (Related k core i c')) is
      (image_segment k core i rows tree counts written_at c d related q (at.Entering s (u ∷ tests)) (at.Trying (i.entry_of s) rest)
      (record { variables = c.variables; regions = slice_set c.regions q (at.Entering s (u ∷ tests)) })
      (record { variables = d.variables; regions = slice_set d.regions (i.thread_of q) (at.Trying (i.entry_of s) rest) })
      (access_of_trigger t.trigger) (opening_on parts.free false_there parts.works) Told told)
