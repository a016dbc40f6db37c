-- Where more parentheses and more regions may stand in one another, only what was barred is open.
use Rattle.std.proofs.Common.{ℕ, suc, ◌+◌, Bool, List}
use Rattle.grammar.specs.Deeper.{Deeper, IsLanguage, same_one, deeper_seq, deeper_either, deeper_maybe, deeper_many, deeper_made, deeper_headed, opened}
use Rattle.grammar.specs.Deeper.{with_one, with_seq, with_made}
use Rattle.sc_text.specs.declared.word.Word.{Word}
use Rattle.sc_text.specs.Phrases.{Phrase}
use Rattle.sc_text.specs.Expression.{expression}
use Rattle.sc_text.proofs.Deepens.{Above, above_none, above_more, above_by, expression_wider}
use Rattle.sc_text.specs.declared.drafts.parts.Named.{Named}
use Rattle.chart_reader.specs.declared.text_drafts.draft.DraftEffect.{DraftEffect}
use Rattle.sc_text.specs.declared.drafts.parts.TextExpression.{TextExpression}
use Rattle.chart_reader.specs.declared.text_drafts.draft.DraftTransition.{DraftTransition}
use Rattle.chart_reader.specs.declared.text_drafts.draft.DraftRegion.{DraftRegion}
use Rattle.chart_reader.specs.declared.text_drafts.draft.DraftState.{DraftState}
use Rattle.chart_reader.specs.declared.text_drafts.draft.DraftChart.{DraftChart}
use Rattle.sc_text.specs.declared.drafts.parts.Declaration.{Declaration}
use Rattle.chart_reader.specs.ChartText.{Grows, name, last_name, declaration, flag, placed, effect, next_effect}
use Rattle.chart_reader.specs.ChartText.{some_effects, effects, target, trigger, outcome}
use Rattle.chart_reader.specs.ChartText.{termination, tested, transition, leaving, Inner, NoMore, Nested, bare, inside, body, state, states, region, within}
use Rattle.chart_reader.specs.ChartText.{chart, chart_text}
use Rattle.chart_reader.proofs.Shapes.{chart_text_is}

data Opened : Inner → Inner → Type 1 where
  from_none : (e : Grows Phrase) (i : Inner) → Opened NoMore (Nested (region e i))
  in_each : (r r' : Grows DraftRegion) → Deeper DraftRegion r r' → Opened (Nested r) (Nested r')

pub name_same : Deeper Named name name
name_same = deeper_made _ _ _ _ _ (same_one _)

pub last_name_same : Deeper Named last_name last_name
unfolding last_name
last_name_same = deeper_made _ _ _ _ _ (deeper_seq _ _ _ _ _ _ name_same (same_one _))

declaration_same : Deeper Declaration declaration declaration
unfolding declaration
declaration_same =
    deeper_made _ _ _ _ _
    (deeper_seq _ _ _ _ _ _ (deeper_made _ _ _ _ _ (same_one _))
    (deeper_seq _ _ _ _ _ _ (deeper_made _ _ _ _ _ (same_one _)) last_name_same))

pub flag_same : (w : Word) → Deeper Bool (flag w) (flag w)
unfolding flag
flag_same w = deeper_made _ _ _ _ _ (deeper_maybe _ _ _ (same_one _))

pub target_same : Deeper Named target target
unfolding target
target_same = deeper_made _ _ _ _ _ (deeper_seq _ _ _ _ _ _ (same_one _) last_name_same)

module _ (e e' : Grows Phrase) (w : Deeper Phrase e e') where
  pub placed_wider : Deeper TextExpression (placed e) (placed e')
  unfolding placed
  placed_wider = deeper_made _ _ _ _ _ (deeper_headed _ _ _ w)

  pub effect_wider : Deeper DraftEffect (effect e) (effect e')
  unfolding effect
  effect_wider =
      deeper_made _ _ _ _ _
      (deeper_seq _ _ _ _ _ _ name_same (deeper_made _ _ _ _ _ (deeper_seq _ _ _ _ _ _ (same_one _) placed_wider)))

  pub effects_wider : Deeper (List DraftEffect) (effects e) (effects e')
  unfolding effects some_effects next_effect
  effects_wider =
      deeper_made _ _ _ _ _
      (deeper_maybe _ _ _
      (deeper_made _ _ _ _ _
      (deeper_seq _ _ _ _ _ _ (same_one _)
      (deeper_made _ _ _ _ _
      (deeper_seq _ _ _ _ _ _ effect_wider
      (deeper_many _ _ _ (deeper_made _ _ _ _ _ (deeper_seq _ _ _ _ _ _ (same_one _) effect_wider))))))))

  transition_wider : Deeper DraftTransition (transition e) (transition e')
  unfolding transition termination tested trigger outcome
  transition_wider =
      let done = deeper_seq _ _ _ _ _ _ effects_wider target_same in
      deeper_either _ _ _ _ _
      (deeper_made _ _ _ _ _ (deeper_seq _ _ _ _ _ _ (deeper_made _ _ _ _ _ (same_one _)) done))
      (deeper_made _ _ _ _ _
      (deeper_seq _ _ _ _ _ _ (deeper_made _ _ _ _ _ (same_one _))
      (deeper_seq _ _ _ _ _ _ (flag_same _)
      (deeper_seq _ _ _ _ _ _
      (deeper_maybe _ _ _ (deeper_made _ _ _ _ _ (deeper_seq _ _ _ _ _ _ (same_one _) placed_wider))) done))))

  leaving_wider : Deeper (List DraftTransition) (leaving e) (leaving e')
  unfolding leaving
  leaving_wider = deeper_made _ _ _ _ _ (deeper_seq _ _ _ _ _ _ (deeper_many _ _ _ transition_wider) (same_one _))

  bare_wider : Deeper (List DraftRegion × List DraftTransition) (bare e) (bare e')
  unfolding bare
  bare_wider = deeper_made _ _ _ _ _ leaving_wider

  inside_wider : (i j : Inner) → Opened i j → Deeper (List DraftRegion × List DraftTransition) (inside e i) (inside e' j)
  unfolding inside region states
  inside_wider i j (from_none f k) =
      opened _ _ _ _ _
      (with_seq _ _ _ _ _ (with_made _ _ _ _ _
      (with_seq _ _ _ _ _ (with_made _ _ _ _ _ (with_seq _ _ _ _ _ (with_made _ _ _ _ _ (with_seq _ _ _ _ _ (with_one _))))))))
      bare_wider
  inside_wider i j (in_each r r' d) =
      deeper_either _ _ _ _ _
      (deeper_seq _ _ _ _ _ _ (deeper_made _ _ _ _ _ (deeper_seq _ _ _ _ _ _ d (deeper_many _ _ _ d))) leaving_wider)
      bare_wider

  state_wider : (i j : Inner) → Opened i j → Deeper DraftState (state e i) (state e' j)
  unfolding state body
  state_wider i j o =
      deeper_made _ _ _ _ _
      (deeper_seq _ _ _ _ _ _ (flag_same _)
      (deeper_seq _ _ _ _ _ _ (flag_same _)
      (deeper_seq _ _ _ _ _ _ (deeper_made _ _ _ _ _ (deeper_seq _ _ _ _ _ _ (same_one _) name_same))
      (deeper_either _ _ _ _ _ (deeper_made _ _ _ _ _ (same_one _))
      (deeper_made _ _ _ _ _ (deeper_seq _ _ _ _ _ _ (same_one _) (inside_wider i j o)))))))

  region_wider : (i j : Inner) → Opened i j → Deeper DraftRegion (region e i) (region e' j)
  unfolding region states
  region_wider i j o =
      let s = state_wider i j o in
      deeper_made _ _ _ _ _
      (deeper_seq _ _ _ _ _ _ (deeper_made _ _ _ _ _ (deeper_seq _ _ _ _ _ _ (same_one _) name_same))
      (deeper_made _ _ _ _ _
      (deeper_seq _ _ _ _ _ _ (same_one _)
      (deeper_made _ _ _ _ _
      (deeper_seq _ _ _ _ _ _ (deeper_made _ _ _ _ _ (deeper_seq _ _ _ _ _ _ s (deeper_many _ _ _ s))) (same_one _))))))

  within_opened : (n m : ℕ) → Above n m → Opened (within e n) (within e' m)
  unfolding within
  within_opened n m (above_none k) = from_none _ _
  within_opened n m (above_more k l a) =
      in_each _ _ (region_wider (within e k) (within e' l) (within_opened k l a))

  chart_wider : (i j : Inner) → Opened i j → Deeper DraftChart (chart e i) (chart e' j)
  unfolding chart
  chart_wider i j o =
      let r = region_wider i j o in
      deeper_made _ _ _ _ _
      (deeper_seq _ _ _ _ _ _ (deeper_made _ _ _ _ _ (deeper_seq _ _ _ _ _ _ (same_one _) name_same))
      (deeper_made _ _ _ _ _
      (deeper_seq _ _ _ _ _ _ (same_one _)
      (deeper_made _ _ _ _ _
      (deeper_seq _ _ _ _ _ _
      (deeper_seq _ _ _ _ _ _ (deeper_many _ _ _ declaration_same) (deeper_made _ _ _ _ _ (deeper_seq _ _ _ _ _ _ r (deeper_many _ _ _ r))))
      (same_one _))))))

chart_text_wider : (k : ℕ) → Deeper DraftChart (chart_text 0) (chart_text (suc k))
unfolding chart_text
chart_text_wider k =
    chart_wider (expression 0) (expression (suc k)) (expression_wider k) (within (expression 0) (31 + 0)) (within (expression (suc k)) (31 + suc k))
    (within_opened (expression 0) (expression (suc k)) (expression_wider k) 31 (31 + suc k) (above_by 31 k))

pub is_language : IsLanguage chart_text
is_language = record { predictive = λ k. (chart_text_is k).predictive; deeper = chart_text_wider }
