-- The flaws of the parts of a draft, one part behind the other.
use Rattle.std.proofs.Common.{◌≡◌, ℕ, zero, suc, ◌+◌, ◌-◌, ◌≤◌, Bool, false, Some, List, [], ◌∷◌, drop, length, slice_get, refl, sym, ◌∙◌, ap, arith}
use Rattle.std.specs.Prelude.{not, ◌||◌}
use Rattle.sc_text.specs.declared.read_fault.FaultKind.TheVariants as broken
use Rattle.core_charts.specs.Tests.{is_join}
use Rattle.sc_text.specs.declared.drafts.flaw.Flaw.{Flaw}
use Rattle.sc_text.specs.declared.drafts.parts.Declaration.{Declaration}
use Rattle.chart_reader.specs.declared.text_drafts.draft.DraftEffect.{DraftEffect}
use Rattle.chart_reader.specs.declared.text_drafts.draft.DraftTransition.{DraftTransition}
use Rattle.chart_reader.specs.declared.text_drafts.draft.DraftRegion.{DraftRegion}
use Rattle.chart_reader.specs.declared.text_drafts.draft.DraftRegion.TheViews.{out-DraftRegion, out-DraftState}
use Rattle.chart_reader.specs.declared.text_drafts.draft.DraftState.{DraftState}
use Rattle.chart_reader.specs.Flaws.{effect_flaws, trigger_flaws, kind_flaws, transition_flaws, is_filled, final_flaws, state_flaws, initial_flaws, state_names}
use Rattle.chart_reader.specs.Flaws.{region_names, region_flaws, nested_flaws}
use Rattle.sc_text.specs.Flaws.{assigned_flaws, flaw_if, is_full, is_repeated, variable_named, is_among}
use Rattle.sc_text.specs.Told.{told_behind}
use Rattle.sc_text.proofs.PartsInOrder.{drop_is, drop_past}
use Rattle.sc_text.proofs.ToldFlaws.{told_two, told_four, told_five}

module _ (V : List Declaration) where
  pub effect_step : (effects : List DraftEffect) (at : ℕ) (e : DraftEffect) (f : List Flaw) → slice_get effects at ≡ Some e →
      told_behind (told_behind (told_behind f (flaw_if (is_full 16 at) broken.Limit e.variable.at))
      (assigned_flaws V (variable_named V e.variable.name) e.variable e.value)) (effect_flaws V (at + 1) (drop (at + 1) effects))
      ≡ told_behind f (effect_flaws V at (drop at effects))
  effect_step effects at e f i =
      sym (told_two f (flaw_if (is_full 16 at) broken.Limit e.variable.at) (assigned_flaws V (variable_named V e.variable.name) e.variable e.value)
      (effect_flaws V (at + 1) (drop (at + 1) effects)))
      ∙ ap (λ q. told_behind f (effect_flaws V at q)) (sym (drop_is effects at e i))

  pub effect_noted : (effects : List DraftEffect) (at : ℕ) (e : DraftEffect) (f f1 f2 : List Flaw) (full : Bool) → slice_get effects at ≡ Some e
      → full ≡ is_full 16 at → f1 ≡ told_behind f (flaw_if full broken.Limit e.variable.at)
      → f2 ≡ told_behind f1 (assigned_flaws V (variable_named V e.variable.name) e.variable e.value) →
      told_behind f2 (effect_flaws V (at + 1) (drop (at + 1) effects)) ≡ told_behind f (effect_flaws V at (drop at effects))
  effect_noted effects at e f f1 f2 full i a b c =
      ap (λ g. told_behind g (effect_flaws V (at + 1) (drop (at + 1) effects)))
      (c ∙ ap (λ g. told_behind g (assigned_flaws V (variable_named V e.variable.name) e.variable e.value))
      (b ∙ ap (λ x. told_behind f (flaw_if x broken.Limit e.variable.at)) a))
      ∙ effect_step effects at e f i

  pub transition_step : (names : List (List ℕ)) (is_superstate behind : Bool) (transitions : List DraftTransition) (at : ℕ) (t : DraftTransition)
      (f : List Flaw) → slice_get transitions at ≡ Some t →
      told_behind (told_behind
      (told_behind (told_behind (told_behind (told_behind f (flaw_if (is_full 64 at) broken.Limit t.at)) (kind_flaws is_superstate behind t))
      (trigger_flaws V t.trigger)) (effect_flaws V 0 t.effects)) (flaw_if (not (is_among names t.target.name)) broken.Unknown t.target.at))
      (transition_flaws V names is_superstate (behind || is_join t.kind) (at + 1) (drop (at + 1) transitions))
      ≡ told_behind f (transition_flaws V names is_superstate behind at (drop at transitions))
  transition_step names is_superstate behind transitions at t f i =
      sym (told_five f (flaw_if (is_full 64 at) broken.Limit t.at) (kind_flaws is_superstate behind t) (trigger_flaws V t.trigger)
      (effect_flaws V 0 t.effects) (flaw_if (not (is_among names t.target.name)) broken.Unknown t.target.at)
      (transition_flaws V names is_superstate (behind || is_join t.kind) (at + 1) (drop (at + 1) transitions)))
      ∙ ap (λ q. told_behind f (transition_flaws V names is_superstate behind at q)) (sym (drop_is transitions at t i))

  pub transition_noted : (names : List (List ℕ)) (is_superstate behind behind' : Bool) (transitions : List DraftTransition) (at : ℕ) (t : DraftTransition)
      (E : List DraftEffect) (f f1 f2 f3 f4 f5 : List Flaw) (full has : Bool) → slice_get transitions at ≡ Some t → full ≡ is_full 64 at
      → f1 ≡ told_behind f (flaw_if full broken.Limit t.at) → f2 ≡ told_behind f1 (kind_flaws is_superstate behind t)
      → f3 ≡ told_behind f2 (trigger_flaws V t.trigger) → E ≡ t.effects → f4 ≡ told_behind f3 (effect_flaws V 0 E) → has ≡ is_among names t.target.name
      → f5 ≡ told_behind f4 (flaw_if (not has) broken.Unknown t.target.at) → behind' ≡ (behind || is_join t.kind) →
      told_behind f5 (transition_flaws V names is_superstate behind' (at + 1) (drop (at + 1) transitions))
      ≡ told_behind f (transition_flaws V names is_superstate behind at (drop at transitions))
  transition_noted names is_superstate behind behind' transitions at t E f f1 f2 f3 f4 f5 full has i a b c d es e h u j =
      ap (λ y. told_behind f5 (transition_flaws V names is_superstate y (at + 1) (drop (at + 1) transitions))) j
      ∙ ap (λ g. told_behind g (transition_flaws V names is_superstate (behind || is_join t.kind) (at + 1) (drop (at + 1) transitions)))
      (u ∙ ap (λ x. told_behind f4 (flaw_if (not x) broken.Unknown t.target.at)) h
      ∙ ap (λ g. told_behind g (flaw_if (not (is_among names t.target.name)) broken.Unknown t.target.at))
      (e ∙ ap (λ x. told_behind f3 (effect_flaws V 0 x)) es
      ∙ ap (λ g. told_behind g (effect_flaws V 0 t.effects))
      (d ∙ ap (λ g. told_behind g (trigger_flaws V t.trigger))
      (c ∙ ap (λ g. told_behind g (kind_flaws is_superstate behind t))
      (b ∙ ap (λ x. told_behind f (flaw_if x broken.Limit t.at)) a)))))
      ∙ transition_step names is_superstate behind transitions at t f i

  module _ (inside : List DraftRegion → List Flaw) (names : List (List ℕ)) where
    pub state_step : (states : List DraftState) (at : ℕ) (s : DraftState) (f : List Flaw) → slice_get states at ≡ Some s →
        told_behind (told_behind
        (told_behind (told_behind
        (told_behind (told_behind f (flaw_if (is_repeated names at (out-DraftState s).named.name) broken.Repeated (out-DraftState s).named.at))
        (flaw_if (is_full 256 at) broken.Limit (out-DraftState s).named.at)) (final_flaws s))
        (transition_flaws V names (is_filled (out-DraftState s).regions) false 0 (out-DraftState s).transitions)) (inside (out-DraftState s).regions))
        (state_flaws V inside names (at + 1) (drop (at + 1) states)) ≡ told_behind f (state_flaws V inside names at (drop at states))
    state_step states at s f i =
        sym (told_five f (flaw_if (is_repeated names at (out-DraftState s).named.name) broken.Repeated (out-DraftState s).named.at)
        (flaw_if (is_full 256 at) broken.Limit (out-DraftState s).named.at) (final_flaws s)
        (transition_flaws V names (is_filled (out-DraftState s).regions) false 0 (out-DraftState s).transitions) (inside (out-DraftState s).regions)
        (state_flaws V inside names (at + 1) (drop (at + 1) states)))
        ∙ ap (λ q. told_behind f (state_flaws V inside names at q)) (sym (drop_is states at s i))

    pub region_step : (regions : List DraftRegion) (at : ℕ) (r : DraftRegion) (f : List Flaw) → slice_get regions at ≡ Some r →
        told_behind (told_behind
        (told_behind (told_behind
        (told_behind f (flaw_if (is_repeated names at (out-DraftRegion r).named.name) broken.Repeated (out-DraftRegion r).named.at))
        (flaw_if (is_full 63 at) broken.Limit (out-DraftRegion r).named.at)) (initial_flaws r))
        (state_flaws V inside (state_names (out-DraftRegion r).states) 0 (out-DraftRegion r).states))
        (region_flaws V inside names (at + 1) (drop (at + 1) regions)) ≡ told_behind f (region_flaws V inside names at (drop at regions))
    region_step regions at r f i =
        sym (told_four f (flaw_if (is_repeated names at (out-DraftRegion r).named.name) broken.Repeated (out-DraftRegion r).named.at)
        (flaw_if (is_full 63 at) broken.Limit (out-DraftRegion r).named.at) (initial_flaws r)
        (state_flaws V inside (state_names (out-DraftRegion r).states) 0 (out-DraftRegion r).states)
        (region_flaws V inside names (at + 1) (drop (at + 1) regions)))
        ∙ ap (λ q. told_behind f (region_flaws V inside names at q)) (sym (drop_is regions at r i))

    pub state_noted : (states : List DraftState) (at : ℕ) (s : DraftState) (N : List (List ℕ)) (R : List DraftRegion) (f f1 f2 f3 f4 : List Flaw)
        → slice_get states at ≡ Some s → N ≡ names
        → f1 ≡ told_behind (told_behind f (flaw_if (is_repeated N at (out-DraftState s).named.name) broken.Repeated (out-DraftState s).named.at))
        (flaw_if (is_full 256 at) broken.Limit (out-DraftState s).named.at) → f2 ≡ told_behind f1 (final_flaws s)
        → f3 ≡ told_behind f2 (transition_flaws V N (is_filled (out-DraftState s).regions) false 0 (out-DraftState s).transitions)
        → R ≡ (out-DraftState s).regions → f4 ≡ told_behind f3 (inside R) →
        told_behind f4 (state_flaws V inside names (at + 1) (drop (at + 1) states)) ≡ told_behind f (state_flaws V inside names at (drop at states))
    state_noted states at s N R f f1 f2 f3 f4 i n a b c r d =
        ap (λ g. told_behind g (state_flaws V inside names (at + 1) (drop (at + 1) states)))
        (d ∙ ap (λ x. told_behind f3 (inside x)) r
        ∙ ap (λ g. told_behind g (inside (out-DraftState s).regions))
        (c ∙ ap (λ x. told_behind f2 (transition_flaws V x (is_filled (out-DraftState s).regions) false 0 (out-DraftState s).transitions)) n
        ∙ ap (λ g. told_behind g (transition_flaws V names (is_filled (out-DraftState s).regions) false 0 (out-DraftState s).transitions))
        (b ∙ ap (λ g. told_behind g (final_flaws s))
        (a ∙ ap (λ x. told_behind (told_behind f (flaw_if (is_repeated x at (out-DraftState s).named.name) broken.Repeated (out-DraftState s).named.at))
        (flaw_if (is_full 256 at) broken.Limit (out-DraftState s).named.at)) n))))
        ∙ state_step states at s f i

    pub region_noted : (regions : List DraftRegion) (at : ℕ) (r : DraftRegion) (N : List (List ℕ)) (S : List DraftState) (f f1 f2 f3 : List Flaw)
        → slice_get regions at ≡ Some r → N ≡ names
        → f1 ≡ told_behind (told_behind f (flaw_if (is_repeated N at (out-DraftRegion r).named.name) broken.Repeated (out-DraftRegion r).named.at))
        (flaw_if (is_full 63 at) broken.Limit (out-DraftRegion r).named.at) → f2 ≡ told_behind f1 (initial_flaws r)
        → S ≡ (out-DraftRegion r).states → f3 ≡ told_behind f2 (state_flaws V inside (state_names S) 0 S) →
        told_behind f3 (region_flaws V inside names (at + 1) (drop (at + 1) regions)) ≡ told_behind f (region_flaws V inside names at (drop at regions))
    region_noted regions at r N S f f1 f2 f3 i n a c st d =
        ap (λ x. told_behind x (region_flaws V inside names (at + 1) (drop (at + 1) regions)))
        (d ∙ ap (λ x. told_behind f2 (state_flaws V inside (state_names x) 0 x)) st
        ∙ ap (λ x. told_behind x (state_flaws V inside (state_names (out-DraftRegion r).states) 0 (out-DraftRegion r).states))
        (c ∙ ap (λ x. told_behind x (initial_flaws r))
        (a ∙ ap (λ x. told_behind (told_behind f (flaw_if (is_repeated x at (out-DraftRegion r).named.name) broken.Repeated (out-DraftRegion r).named.at))
        (flaw_if (is_full 63 at) broken.Limit (out-DraftRegion r).named.at)) n)))
        ∙ region_step regions at r f i

-- ---- a part of which nothing is left

pub effects_over : (V : List Declaration) (effects : List DraftEffect) (at : ℕ) (f : List Flaw) → length effects ≤ at
    → told_behind f (effect_flaws V at (drop at effects)) ≡ f
effects_over V effects at f le = ap (λ q. told_behind f (effect_flaws V at q)) (drop_past effects at le)

pub transitions_over : (V : List Declaration) (names : List (List ℕ)) (is_superstate behind : Bool) (transitions : List DraftTransition) (at : ℕ)
    (f : List Flaw) → length transitions ≤ at → told_behind f (transition_flaws V names is_superstate behind at (drop at transitions)) ≡ f
transitions_over V names is_superstate behind transitions at f le =
    ap (λ q. told_behind f (transition_flaws V names is_superstate behind at q)) (drop_past transitions at le)

module _ (V : List Declaration) (inside : List DraftRegion → List Flaw) (names : List (List ℕ)) where
  pub states_over : (states : List DraftState) (at : ℕ) (f : List Flaw) → length states ≤ at → told_behind f (state_flaws V inside names at (drop at states))
      ≡ f
  states_over states at f le = ap (λ q. told_behind f (state_flaws V inside names at q)) (drop_past states at le)

  pub regions_over : (regions : List DraftRegion) (at : ℕ) (f : List Flaw) → length regions ≤ at
      → told_behind f (region_flaws V inside names at (drop at regions)) ≡ f
  regions_over regions at f le = ap (λ q. told_behind f (region_flaws V inside names at q)) (drop_past regions at le)

-- ---- levels of regions

one_less : (n : ℕ) → (n ≡ 0 → ⊥) → n ≡ suc (n - 1)
one_less zero z = absurd (z refl)
one_less (suc n) z = omega arith

pub nested_is : (V : List Declaration) (levels : ℕ) (regions : List DraftRegion) → (levels ≡ 0 → ⊥) → nested_flaws V levels regions
    ≡ region_flaws V (nested_flaws V (levels - 1)) (region_names regions) 0 regions
nested_is V levels regions z = ap (λ n. nested_flaws V n regions) (one_less levels z)

pub nested_past : (V : List Declaration) (levels : ℕ) (regions : List DraftRegion) (f : List Flaw) → levels ≡ 0 → told_behind f (nested_flaws [] 0 regions)
    ≡ told_behind f (nested_flaws V levels regions)
nested_past V levels [] f z = sym (ap (λ n. told_behind f (nested_flaws V n [])) z)
nested_past V levels (r ∷ more) f z = sym (ap (λ n. told_behind f (nested_flaws V n (r ∷ more))) z)
