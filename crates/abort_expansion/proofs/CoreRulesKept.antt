-- What the regions of a chart of a text become keeps the rules of core charts, over the variables with those that are added.
use Rattle.std.proofs.Common.{◌≡◌, ℕ, zero, suc, ◌≤◌, Bool, List, [], ◌∷◌, ◌++◌, map, length, count_by, sym, subst, ◌∙◌}
use Rattle.std.proofs.lemmas.List.{map-append}
use Rattle.sc_values.specs.declared.value.Kind.TheVariants as of_kind
use Rattle.sc_graph.specs.declared.program.Variable.{Variable}
use Rattle.sc_text.specs.Parts.{IsExpression}
use Rattle.core_charts.specs.declared.features.Features.TheVariants as features
use Rattle.core_charts.specs.declared.region.Effect.{Effect}
use Rattle.core_charts.specs.declared.region.Region.{Region}
use Rattle.core_charts.specs.declared.region.State.{State}
use Rattle.core_charts.specs.declared.region.Transition.{Transition}
use Rattle.core_charts.specs.declared.region.Region.TheViews.{out-Region, out-State}
use Rattle.core_charts.specs.declared.region.Region.TheFolds.{fold_out-Region, fold_out-State}
use Rattle.core_charts.specs.Tests.{is_join}
use Rattle.core_charts.specs.Rules.{IsEffect, IsTransition, IsState, IsRegion, AreRegions, has_regions, kinds_of}
use Rattle.sc_text.proofs.EachItem.{Each, each_of, each_more, each_map}
use Rattle.abort_expansion.specs.Pieces.{RegionPiece, StatePiece}
use Rattle.abort_expansion.specs.Expansion.{region_piece, state_piece, piece_of_region, piece_of_state}
use Rattle.abort_expansion.proofs.Lists.{at_front, count_is}
use Rattle.abort_expansion.proofs.Expressions.{expression_over_more}
use Rattle.abort_expansion.proofs.Leaving.{InText}
use Rattle.abort_expansion.proofs.Apart.{Apart, IsText, apart_if_distinct}
use Rattle.abort_expansion.proofs.Joined.{StateKeeps, RegionKeeps, RegionsKeep, names_of, region_names}
use Rattle.abort_expansion.proofs.Alone.{simple_piece_keeps}
use Rattle.abort_expansion.proofs.Assembled.{superstate_piece_keeps}
use Rattle.abort_expansion.proofs.Shaped.{region_piece_keeps}

more_kinds : (declared more : List Variable) → kinds_of declared ++ kinds_of more ≡ kinds_of (declared ++ more)
more_kinds declared more = sym (map-append (λ x. x.kind) declared more)

effect_over_more : (declared more : List Variable) (e : Effect) → IsEffect declared e → IsEffect (declared ++ more) e
effect_over_more declared more e h = record {
  target = h.target;
  is_target = at_front declared more e.variable h.target h.is_target;
  no_input = h.no_input;
  value =
      subst (λ kinds. IsExpression kinds h.target.kind e.value) (more_kinds declared more)
      (expression_over_more (kinds_of declared) (kinds_of more) h.target.kind e.value h.value);
}

in_text : (declared more : List Variable) (m : ℕ) (super : Bool) (t : Transition) → IsTransition features.Extended declared m super t
    → InText declared (declared ++ more) m super t
in_text declared more m super t h = record {
  taken = record {
    trigger = λ e at.
        subst (λ kinds. IsExpression kinds of_kind.Bool e) (more_kinds declared more)
        (expression_over_more (kinds_of declared) (kinds_of more) of_kind.Bool e (h.trigger e at));
    effects = each_more (IsEffect declared) (IsEffect (declared ++ more)) t.effects (effect_over_more declared more)
        (each_of (IsEffect declared) t.effects h.effects);
    target = h.target;
  };
  kept = h;
}

-- the regions inside, which nest this many levels deep at most
abbrev pub AreInside : List Variable → List Variable → ℕ → List Region → Type 0
AreInside declared more zero regions = regions ≡ []
AreInside declared more (suc levels) regions =
    RegionsKeep (declared ++ more) levels regions × (length regions ≤ 63) × Each IsText (region_names regions) × Apart (region_names regions)

state_of : (declared more : List Variable) (levels m : ℕ) (is_initial is_final : Bool) (name : List ℕ) (regions : List Region) (own : List Transition)
    → IsText name → AreInside declared more levels regions → Each (InText declared (declared ++ more) m (has_regions regions)) own
    → count_by (λ t. is_join t.kind) own ≤ 1
    → StateKeeps (declared ++ more) levels m name
    (state_piece (record { name = name; is_initial = is_initial; is_final = is_final; regions = map piece_of_region regions; transitions = own }))
state_of declared more levels m is_initial is_final name [] own text inside each joins =
    simple_piece_keeps declared (declared ++ more) levels m is_initial is_final name own text each
state_of declared more zero m is_initial is_final name (r ∷ rs) own text inside each joins = absurd cc
state_of declared more (suc levels) m is_initial is_final name (r ∷ rs) own text inside each joins =
    superstate_piece_keeps declared (declared ++ more) levels m is_initial is_final name r rs own
    (record { text = text; inner = inside.0; few = inside.1; texts = inside.2; apart = inside.3; taken = each; joins = joins })

abbrev pub Inner : List Variable → List Variable → ℕ → Type 0
Inner declared more levels = (regions : List Region) → AreRegions features.Extended declared levels regions → AreInside declared more levels regions

state_keeps_rules : (declared more : List Variable) (levels m : ℕ) → Inner declared more levels
    → (s : State) → IsState features.Extended declared (AreRegions features.Extended declared levels) m s
    → StateKeeps (declared ++ more) levels m (out-State s).name (piece_of_state s)
state_keeps_rules declared more levels m inner s h =
    subst (StateKeeps (declared ++ more) levels m (out-State s).name) (sym (fold_out-State RegionPiece StatePiece region_piece state_piece s))
    (state_of declared more levels m (out-State s).is_initial (out-State s).is_final (out-State s).name (out-State s).regions (out-State s).transitions
    h.named (inner (out-State s).regions h.regions)
    (each_of (InText declared (declared ++ more) m (has_regions (out-State s).regions)) (out-State s).transitions
    (λ i t at. in_text declared more m (has_regions (out-State s).regions) t (h.transitions i t at)))
    h.one_join)

region_keeps_rules : (declared more : List Variable) (levels : ℕ) → Inner declared more levels
    → (r : Region) → IsRegion features.Extended declared (AreRegions features.Extended declared levels) r
    → RegionKeeps (declared ++ more) levels (out-Region r).name (piece_of_region r)
region_keeps_rules declared more levels inner r h =
    let states : List State = (out-Region r).states in
    let each : Each (IsState features.Extended declared (AreRegions features.Extended declared levels) (length states)) states =
    each_of (IsState features.Extended declared (AreRegions features.Extended declared levels) (length states)) states h.states in
    subst (RegionKeeps (declared ++ more) levels (out-Region r).name) (sym (fold_out-Region RegionPiece StatePiece region_piece state_piece r))
    (region_piece_keeps (declared ++ more) levels (out-Region r).name states h.named
    (record {
      keep =
          each_more (IsState features.Extended declared (AreRegions features.Extended declared levels) (length states))
          (λ s. StateKeeps (declared ++ more) levels (length states) (out-State s).name (piece_of_state s)) states
          (state_keeps_rules declared more levels (length states) inner) each;
      texts =
          each_map IsText (λ s. (out-State s).name) states
          (each_more (IsState features.Extended declared (AreRegions features.Extended declared levels) (length states)) (λ s. IsText (out-State s).name) states
          (λ s k. k.named) each);
      apart = apart_if_distinct (names_of states) h.distinct;
      initial = count_is (λ s. (out-State s).is_initial) states ∙ h.one_initial;
    }))

pub inner_keep : (declared more : List Variable) (levels : ℕ) → Inner declared more levels
inner_keep declared more zero regions h = h
inner_keep declared more (suc levels) regions h =
    let each : Each (IsRegion features.Extended declared (AreRegions features.Extended declared levels)) regions =
    each_of (IsRegion features.Extended declared (AreRegions features.Extended declared levels)) regions h.each in (
      each_more (IsRegion features.Extended declared (AreRegions features.Extended declared levels))
          (λ r. RegionKeeps (declared ++ more) levels (out-Region r).name (piece_of_region r)) regions
          (region_keeps_rules declared more levels (inner_keep declared more levels)) each,
      h.count,
      each_map IsText (λ r. (out-Region r).name) regions
          (each_more (IsRegion features.Extended declared (AreRegions features.Extended declared levels)) (λ r. IsText (out-Region r).name) regions
          (λ r k. k.named) each),
      apart_if_distinct (region_names regions) h.distinct,
    )
