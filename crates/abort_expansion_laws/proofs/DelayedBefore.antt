-- A delayed test is met in a tick that begins before it, and in no other: no step leads a region before one but its own.
use Rattle.std.proofs.Common.{◌≡◌, ◌≢◌, ℕ, ◌<◌, ◌≤◌, ⊎_elim, Bool, true, false, not, Some, None, List, [], ◌∷◌, map}
use Rattle.std.proofs.Common.{length, slice_get, slice_set, unwrap_or, refl, sym, ap, subst, ◌∙◌, arith}
use Rattle.std.specs.List.{list_any}
use Rattle.std.proofs.lemmas.Option.{slice_get_past}
use Rattle.std.proofs.lemmas.Bool.{cases_lt, or_right}
use Rattle.sc_text.proofs.EachItem.{Each, each_append}
use Rattle.core_charts.specs.declared.features.Features.{Features}
use Rattle.core_charts.specs.Chart.{Chart}
use Rattle.core_charts.specs.Rules.{IsChart}
use Rattle.core_charts.specs.declared.region.Effect.{Effect}
use Rattle.core_charts.specs.declared.region.Transition.{Transition}
use Rattle.chart_machine.specs.declared.standing.Standing.{Standing}
use Rattle.chart_machine.specs.declared.standing.Standing.TheVariants as at
use Rattle.chart_machine.specs.declared.standing.Move.{Move}
use Rattle.chart_machine.specs.declared.standing.Configuration.{Configuration}
use Rattle.chart_machine.specs.declared.table.Table.{Table}
use Rattle.chart_machine.specs.Table.{table, state_at}
use Rattle.chart_machine.specs.Machine.{initial, start}
use Rattle.sc_graph.specs.Tick.{Inputs}
use Rattle.chart_machine.specs.Turns.{standing_of, inside}
use Rattle.chart_machine.specs.Steps.{to, moved, state_in, dropped, acts, taken, entering_on, guarding_on, step}
use Rattle.tick_laws.proofs.Lists.{same_or_not}
use Rattle.chart_lowering_laws.proofs.Entering.{moved_length}
use Rattle.compiled_charts_laws.proofs.LateTests.{is_late, at_once_prompt}
use Rattle.abort_expansion_laws.proofs.Unchanged.{get_same, get_other}
use Rattle.abort_expansion_laws.proofs.ChartSteps.{Makes, takes_trying, takes_entering, takes_guarding, takes_within, tries_on, enters_on, guards_on}
use Rattle.abort_expansion_laws.proofs.ChartSteps.{waits_on, acts_on, StepMade, step_made}
use Rattle.abort_expansion_laws.proofs.EnteredMoves.{EnteredBy, each_entered, each_opened}
use Rattle.abort_expansion_laws.proofs.FirstTick.{first_regions}
use Rattle.abort_expansion_laws.proofs.FreshInside.{nobody_there}

abbrev IsPrompt : Move → Type 0
IsPrompt m = is_late m.standing ≡ false

module _ (k : Table) (enters : (s : ℕ) → EnteredBy IsPrompt (state_at k s)) where
  -- a move that is none of q, or leads past the regions, leaves q where it was
  unmoved : (m : Move) (zs : List Standing) (q : ℕ) → (m.region ≡ q → q < length zs → ⊥) →
      unwrap_or (slice_get (slice_set zs m.region m.standing) q) at.Outside ≡ unwrap_or (slice_get zs q) at.Outside
  unmoved m zs q other = ⊎_elim here (λ ne. ap (λ o. unwrap_or o at.Outside) (get_other zs m.region q m.standing ne)) (same_or_not q m.region)
    where
      here : q ≡ m.region → unwrap_or (slice_get (slice_set zs m.region m.standing) q) at.Outside ≡ unwrap_or (slice_get zs q) at.Outside
      here same =
          ⊎_elim (λ lt. absurd (other (sym same) lt))
          (λ past.
          ap (λ o. unwrap_or o at.Outside)
          (slice_get_past (slice_set zs m.region m.standing) q (let size = moved_length (m ∷ []) zs in omega (size, past, arith))
          ∙ sym (slice_get_past zs q past))) (cases_lt q (length zs))

  one_moved : (m : Move) (zs : List Standing) (q : ℕ) → IsPrompt m →
      is_late (unwrap_or (slice_get (slice_set zs m.region m.standing) q) at.Outside) ≡ true → is_late (unwrap_or (slice_get zs q) at.Outside) ≡ true
  one_moved m zs q prompt late = sym (ap is_late (unmoved m zs q there)) ∙ late
    where
      there : m.region ≡ q → q < length zs → ⊥
      there same lt =
          let now : slice_get (slice_set zs m.region m.standing) q ≡ Some m.standing =
          ap (λ r. slice_get (slice_set zs r m.standing) q) same ∙ get_same zs q m.standing lt in
          let wrong : true ≡ false = sym late ∙ (ap (λ o. is_late (unwrap_or o at.Outside)) now ∙ prompt) in absurd cc

  all_moved : (ms : List Move) (zs : List Standing) (q : ℕ) → Each IsPrompt ms → is_late (unwrap_or (slice_get (moved ms zs) q) at.Outside) ≡ true →
      is_late (unwrap_or (slice_get zs q) at.Outside) ≡ true
  all_moved [] zs q prompt late = late
  all_moved (m ∷ ms) zs q prompt late =
      one_moved m zs q prompt.0 (all_moved ms (slice_set zs m.region m.standing) q prompt.1 late)

  -- ---- the moves of a step

  all_dropped : (rs : List ℕ) → Each IsPrompt (map (λ r. to r at.Outside) rs)
  all_dropped [] = tt
  all_dropped (r ∷ rs) = (refl, all_dropped rs)

  acts_promptly : (r s : ℕ) (effects : List Effect) (target : ℕ) → Each IsPrompt (acts k r s effects target)
  acts_promptly r s [] target = (enters (state_in k r target)).entered
  acts_promptly r s (e ∷ effects) target = (refl, tt)

  taken_promptly : (r s : ℕ) (t : Transition) → Each IsPrompt (taken k r s t)
  taken_promptly r s t = each_append IsPrompt (dropped k s) (acts k r s t.effects t.target) (all_dropped (inside k s)) (acts_promptly r s t.effects t.target)

  entering_promptly : (r s : ℕ) (tests : List Transition) → Each IsPrompt (entering_on k r s tests)
  entering_promptly r s [] = (refl, (enters s).opened)
  entering_promptly r s (t ∷ tests) = (refl, tt)

  guarding_promptly : (r s : ℕ) (tests : List Transition) → Each IsPrompt (guarding_on k r s tests)
  guarding_promptly r s [] = (refl, tt)
  guarding_promptly r s (t ∷ tests) = (refl, tt)

  -- ---- a step

  module _ (c : Configuration) (r s : ℕ) (t : Transition) (tests : List Transition) (stands : standing_of c r ≡ at.Trying s (t ∷ tests)) (q : ℕ)
      (now : is_late (unwrap_or (slice_get (slice_set c.regions r (at.Trying s tests)) q) at.Outside) ≡ true) where
    other : q ≢ r → is_late (standing_of c q) ≡ true
    other ne = sym (ap (λ o. is_late (unwrap_or o at.Outside)) (get_other c.regions r q (at.Trying s tests) ne)) ∙ now

    in_range : q ≡ r → q < length c.regions → is_late (standing_of c q) ≡ true
    in_range same lt =
        let set : slice_get (slice_set c.regions r (at.Trying s tests)) q ≡ Some (at.Trying s tests) =
        ap (λ u. slice_get (slice_set c.regions u (at.Trying s tests)) q) (sym same) ∙ get_same c.regions q (at.Trying s tests) lt in
        let rest : list_any (λ z. not z.immediate) tests ≡ true = sym (ap (λ o. is_late (unwrap_or o at.Outside)) set) ∙ now in
        ap (λ u. is_late (standing_of c u)) same
        ∙ (ap is_late stands ∙ or_right (not t.immediate) (list_any (λ z. not z.immediate) tests) rest)

    past_all : length c.regions ≤ q → is_late (standing_of c q) ≡ true
    past_all past =
        let size = moved_length (to r (at.Trying s tests) ∷ []) c.regions in
        let none : slice_get (slice_set c.regions r (at.Trying s tests)) q ≡ None =
        slice_get_past (slice_set c.regions r (at.Trying s tests)) q (omega (size, past, arith)) in
        let wrong : true ≡ false = sym now ∙ ap (λ o. is_late (unwrap_or o at.Outside)) none in absurd cc

    tried_on : is_late (standing_of c q) ≡ true
    tried_on = ⊎_elim (λ same. ⊎_elim (in_range same) past_all (cases_lt q (length c.regions))) other (same_or_not q r)

  after_moves : (c : Configuration) (r q : ℕ) (x : Standing) (ms : List Move) → standing_of c r ≡ x → Makes k r x ms →
      is_late (unwrap_or (slice_get (moved ms c.regions) q) at.Outside) ≡ true → is_late (standing_of c q) ≡ true
  after_moves c r q _ _ stands (takes_trying s t tests) late = all_moved (taken k r s t) c.regions q (taken_promptly r s t) late
  after_moves c r q _ _ stands (takes_entering s t tests) late = all_moved (taken k r s t) c.regions q (taken_promptly r s t) late
  after_moves c r q _ _ stands (takes_guarding s t tests) late = all_moved (taken k r s t) c.regions q (taken_promptly r s t) late
  after_moves c r q _ _ stands (takes_within s t tests) late = all_moved (taken k r s t) c.regions q (taken_promptly r s t) late
  after_moves c r q _ _ stands (tries_on s t tests) late = tried_on c r s t tests stands q late
  after_moves c r q _ _ stands (enters_on s t tests) late = all_moved (entering_on k r s tests) c.regions q (entering_promptly r s tests) late
  after_moves c r q _ _ stands (guards_on s t tests) late = all_moved (guarding_on k r s tests) c.regions q (guarding_promptly r s tests) late
  after_moves c r q _ _ stands (waits_on s t tests) late = all_moved (to r (at.Within s tests) ∷ []) c.regions q (refl, tt) late
  after_moves c r q _ _ stands (acts_on s target e effects) late =
      all_moved (acts k r s effects target) c.regions q (acts_promptly r s effects target) late

  late_step : (c next : Configuration) (r q : ℕ) → step k r c ≡ Some next → is_late (standing_of next q) ≡ true → is_late (standing_of c q) ≡ true
  late_step c next r q steps late =
      let made : StepMade k r c next = step_made k r c next steps in
      after_moves c r q (standing_of c r) made.change.moves refl made.makes (subst (λ z. is_late (standing_of z q) ≡ true) (sym made.is) late)

enters_prompt : (f : Features) (h : Chart) → IsChart f h → (s : ℕ) → EnteredBy IsPrompt (state_at (table h) s)
enters_prompt f h rules s =
    each_entered IsPrompt (λ u. refl) (λ u v ts. at_once_prompt ts) (λ u v ts. refl) (λ u v ts. refl) f h rules s

-- of each chart: who is before a delayed test behind a step was so in front of it
pub late_before : (f : Features) (h : Chart) → IsChart f h → (c next : Configuration) (r q : ℕ) → step (table h) r c ≡ Some next →
    is_late (standing_of next q) ≡ true → is_late (standing_of c q) ≡ true
late_before f h rules c next r q steps late = late_step (table h) (enters_prompt f h rules) c next r q steps late

-- in the first tick nobody is before a delayed test
pub first_prompt : (f : Features) (h : Chart) → IsChart f h → (inputs : Inputs) (q : ℕ) →
    is_late (standing_of (start (table h) inputs (initial (table h))) q) ≡ false
first_prompt f h rules inputs q = by (is_late (standing_of (start (table h) inputs (initial (table h))) q)) refl
  where
    opens : Each IsPrompt (table h).opened
    opens = each_opened IsPrompt (λ u. refl) (λ u v ts. at_once_prompt ts) (λ u v ts. refl) (λ u v ts. refl) f h rules

    by : (b : Bool) → is_late (standing_of (start (table h) inputs (initial (table h))) q) ≡ b →
        is_late (standing_of (start (table h) inputs (initial (table h))) q) ≡ false
    by false is = is
    by true is =
        let before : is_late (standing_of (initial (table h)) q) ≡ true =
        all_moved (table h) (enters_prompt f h rules) (table h).opened (initial (table h)).regions q opens
        (subst (λ zs. is_late (unwrap_or (slice_get zs q) at.Outside) ≡ true) (first_regions (table h) inputs) is) in
        let wrong : true ≡ false = sym before ∙ ap is_late (nobody_there (table h) q) in absurd cc
