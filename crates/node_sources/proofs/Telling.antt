-- What places tell, of each text.
use Rattle.std.proofs.Common.{◌≡◌, ℕ, suc, ◌+◌, ◌<◌, Some, List, [], ◌∷◌, map, length, slice_get, refl, ap, subst, arith}
use Rattle.grammar.proofs.Each.{Every}
use Rattle.sc_text.specs.declared.language.Language.TheVariants as language
use Rattle.sc_text.specs.declared.token.Token.{Token}
use Rattle.sc_graph.specs.declared.program.Variable.{Variable}
use Rattle.sc_text.specs.declared.drafts.parts.Declaration.{Declaration}
use Rattle.sc_text.specs.Flaws.{variable_names}
use Rattle.sc_text.specs.Resolved.{number_of, variables_of}
use Rattle.sc_text.specs.Expression.{expression}
use Rattle.core_charts.specs.declared.region.Effect.{Effect}
use Rattle.core_charts.proofs.Pieces.{in_regions}
use Rattle.chart_reader.specs.declared.text_drafts.draft.DraftChart.{DraftChart}
use Rattle.chart_reader.specs.Reading.{IsDraft}
use Rattle.chart_reader.specs.Resolved.{chart_of}
use Rattle.node_sources.specs.ChartLaws.{EffectStands, NameStands, StandsAt, TellsPlaces, TransitionStands}
use Rattle.node_sources.specs.Places as place
use Rattle.node_sources.specs.Places.{all, places_of}
use Rattle.node_sources.proofs.Pairing.{pairs_as, pairs_tell}
use Rattle.node_sources.proofs.Placing as put
use Rattle.node_sources.proofs.Spelling.{IsChartPut, text_has}
use Rattle.node_sources.proofs.Within.{lie_in}

-- what holds at each place holds of each
every_of : {A : Type 0} (P : A → Type 0) (xs : List A) → ((n : ℕ) (x : A) → slice_get xs n ≡ Some x → P x) → Every P xs
every_of P [] h = tt
every_of P (x ∷ xs) h = (h 0 x refl, every_of P xs (λ n y at. h (suc n) y at))

same_names : (variables : List Declaration) → variable_names variables ≡ map (λ (x : Variable). x.name) (variables_of variables)
same_names [] = refl
same_names (x ∷ variables) = ap (λ names. x.named.name ∷ names) (same_names variables)

module _ (text : List ℕ) (d : DraftChart) (h : IsDraft text d) where
  -- the token stands in the text
  abbrev Good : Token → Type 0
  Good t = StandsAt text t.kind t.at

  all_good : Every Good h.tokens
  all_good =
      every_of Good h.tokens
      (λ n t at.
      (let less : t.at < 0 + length text = lie_in language.Chart 0 text h.tokens h.cut n t at in
      record { tokens = h.tokens; cut = h.cut; index = n; stands = at; within = omega (arith, less) }))

  is_put : IsChartPut Good (expression 0) d
  is_put = (text_has Good).holds h.tokens d all_good h.spelled

  told : put.Told Good (variable_names d.variables) (all (map place.of_region d.regions)) (in_regions (chart_of d).regions)
  told = put.regions_told Good (variable_names d.variables) d.regions is_put.regions

  effect_stands : (e : Effect) (at : ℕ) → put.EffectHas Good (variable_names d.variables) e at → EffectStands text (chart_of d).variables e at
  effect_stands e at has =
      record {
        name = has.name;
        called = subst (λ names. e.variable ≡ number_of names has.name) (same_names d.variables) has.called;
        stands = has.has;
      }

  pub places_tell : TellsPlaces text (chart_of d) (places_of d)
  places_tell = record {
    chart = is_put.named;
    regions = pairs_tell (NameStands text) _ _ told.regions;
    states = pairs_tell (NameStands text) _ _ told.states;
    transitions = pairs_tell (TransitionStands text) _ _ told.transitions;
    effects =
        pairs_tell (EffectStands text (chart_of d).variables) _ _
        (pairs_as (put.EffectHas Good (variable_names d.variables)) (EffectStands text (chart_of d).variables) _ _ effect_stands told.effects);
  }
