-- Where more parentheses and more regions may stand in one another, only what was barred is open.
use Rattle.std.proofs.Common.{ℕ, suc, ◌+◌, Bool, Option, List}
use Rattle.grammar.specs.Deeper.{Deeper, IsLanguage, same_one, deeper_seq, deeper_either, deeper_maybe, deeper_many, deeper_made, opened}
use Rattle.grammar.specs.Deeper.{with_one, with_seq, with_made}
use Rattle.sc_text.specs.Phrases.{Phrase}
use Rattle.sc_text.specs.Expression.{expression}
use Rattle.sc_text.proofs.Deepens.{Above, above_none, above_more, above_by, expression_wider}
use Rattle.chart_reader.specs.declared.text_drafts.draft.DraftEffect.{DraftEffect}
use Rattle.chart_reader.specs.declared.text_drafts.draft.DraftTransition.{DraftTransition}
use Rattle.chart_reader.specs.declared.text_drafts.draft.DraftRegion.{DraftRegion}
use Rattle.chart_reader.specs.declared.text_drafts.draft.DraftState.{DraftState}
use Rattle.chart_reader.specs.ChartText.{Grows, trigger}
use Rattle.chart_reader.proofs.Deepens.{name_same, last_name_same, flag_same, placed_wider}
use Rattle.sc_text.specs.declared.drafts.parts.TextExpression.{TextExpression}
use Rattle.extended_reader.specs.declared.text_drafts.draft.ItemBody.{ItemBody}
use Rattle.extended_reader.specs.declared.text_drafts.draft.DraftItem.{DraftItem}
use Rattle.extended_reader.specs.declared.text_drafts.draft.DraftEntry.{DraftEntry}
use Rattle.extended_reader.specs.declared.text_drafts.draft.DraftDelay.{DraftDelay}
use Rattle.extended_reader.specs.declared.text_drafts.draft.DraftLead.{DraftLead}
use Rattle.extended_reader.specs.declared.text_drafts.draft.DraftWay.{DraftWay}
use Rattle.extended_reader.specs.declared.text_drafts.draft.DraftRows.{DraftRows}
use Rattle.extended_reader.specs.Draft.{StateBody}
use Rattle.extended_reader.specs.declared.text_drafts.draft.ExtendedDraft.{ExtendedDraft}
use Rattle.extended_reader.specs.ExtendedText.{item_value, last_value, typed, signalled, bare_signal, plain_body, worded_body, plain, worded, item}
use Rattle.extended_reader.specs.ExtendedText.{combining, combined, becoming, emitting, effect_end, effect}
use Rattle.extended_reader.specs.ExtendedText.{next_effect, some_effects, effects, two_names, two_more, lead}
use Rattle.extended_reader.specs.ExtendedText.{last_lead, leading, outcome}
use Rattle.extended_reader.specs.ExtendedText.{last_effects, entry}
use Rattle.extended_reader.specs.ExtendedText.{some_count, counted, some_delay, at_once, waiting, pause, tested, termination}
use Rattle.extended_reader.specs.ExtendedText.{transition, transitions, leaving, Inner, NoMore, Nested, rowed, bare, nested, inside, acting, body, state}
use Rattle.extended_reader.specs.ExtendedText.{region, within, parts, extended, extended_text}
use Rattle.extended_reader.proofs.Shapes.{extended_text_is}

data Opened : Inner → Inner → Type 1 where
  from_none : (e : Grows Phrase) (i : Inner) → Opened NoMore (Nested (region e i))
  in_each : (r r' : Grows (DraftRegion × DraftRows)) → Deeper (DraftRegion × DraftRows) r r' → Opened (Nested r) (Nested r')

module _ (A : Type 0) (g g' : Grows (A × DraftRows)) (d : Deeper (A × DraftRows) g g') where
  rowed_wider : Deeper (List A × DraftRows) (rowed g) (rowed g')
  rowed_wider = deeper_made _ _ _ _ _ (deeper_made _ _ _ _ _ (deeper_seq _ _ _ _ _ _ d (deeper_many _ _ _ d)))

leading_same : Deeper DraftLead leading leading
unfolding leading last_lead lead two_more two_names
leading_same =
    deeper_made _ _ _ _ _
    (deeper_seq _ _ _ _ _ _ (same_one _)
    (deeper_made _ _ _ _ _
    (deeper_seq _ _ _ _ _ _
    (deeper_made _ _ _ _ _ (deeper_seq _ _ _ _ _ _ name_same (deeper_maybe _ _ _ (deeper_seq _ _ _ _ _ _ name_same name_same))))
    (same_one _))))

module _ (e e' : Grows Phrase) (w : Deeper Phrase e e') where
  typed_wider : Deeper ItemBody (typed e) (typed e')
  unfolding typed last_value item_value
  typed_wider =
      deeper_made _ _ _ _ _
      (deeper_seq _ _ _ _ _ _ (deeper_made _ _ _ _ _ (same_one _))
      (deeper_seq _ _ _ _ _ _ name_same
      (deeper_made _ _ _ _ _
      (deeper_seq _ _ _ _ _ _
      (deeper_maybe _ _ _ (deeper_made _ _ _ _ _ (deeper_seq _ _ _ _ _ _ (same_one _) (placed_wider e e' w))))
      (same_one _)))))

  item_wider : Deeper DraftItem (item e) (item e')
  unfolding item plain plain_body signalled worded worded_body bare_signal
  item_wider =
      deeper_either _ _ _ _ _
      (deeper_made _ _ _ _ _
      (deeper_seq _ _ _ _ _ _ (deeper_made _ _ _ _ _ (same_one _))
      (deeper_either _ _ _ _ _ (deeper_made _ _ _ _ _ (deeper_seq _ _ _ _ _ _ name_same last_name_same)) typed_wider)))
      (deeper_made _ _ _ _ _
      (deeper_seq _ _ _ _ _ _ name_same (deeper_either _ _ _ _ _ (deeper_made _ _ _ _ _ last_name_same) typed_wider)))

  effect_wider : Deeper DraftEffect (effect e) (effect e')
  unfolding effect effect_end becoming combined combining emitting
  effect_wider =
      deeper_made _ _ _ _ _
      (deeper_seq _ _ _ _ _ _ name_same
      (deeper_either _ _ _ _ _
      (deeper_made _ _ _ _ _ (deeper_made _ _ _ _ _ (deeper_seq _ _ _ _ _ _ (same_one _) (placed_wider e e' w))))
      (deeper_either _ _ _ _ _
      (deeper_made _ _ _ _ _
      (deeper_made _ _ _ _ _
      (deeper_seq _ _ _ _ _ _ (deeper_made _ _ _ _ _ (same_one _))
      (deeper_seq _ _ _ _ _ _ (deeper_made _ _ _ _ _ (same_one _)) (placed_wider e e' w)))))
      (deeper_made _ _ _ _ _ name_same))))

  some_effects_wider : Deeper (List DraftEffect) (some_effects e) (some_effects e')
  unfolding some_effects next_effect
  some_effects_wider =
      deeper_made _ _ _ _ _
      (deeper_seq _ _ _ _ _ _ effect_wider
      (deeper_many _ _ _ (deeper_made _ _ _ _ _ (deeper_seq _ _ _ _ _ _ (same_one _) effect_wider))))

  outcome_wider : Deeper (List DraftEffect × DraftLead) (outcome e) (outcome e')
  unfolding outcome effects
  outcome_wider =
      deeper_seq _ _ _ _ _ _
      (deeper_made _ _ _ _ _ (deeper_maybe _ _ _ (deeper_made _ _ _ _ _ (deeper_seq _ _ _ _ _ _ (same_one _) some_effects_wider))))
      leading_same

  trigger_wider : Deeper (Option TextExpression) (trigger e) (trigger e')
  unfolding trigger
  trigger_wider = deeper_maybe _ _ _ (deeper_made _ _ _ _ _ (deeper_seq _ _ _ _ _ _ (same_one _) (placed_wider e e' w)))

  entry_wider : Deeper DraftEntry (entry e) (entry e')
  unfolding entry last_effects
  entry_wider =
      deeper_made _ _ _ _ _
      (deeper_seq _ _ _ _ _ _ (flag_same _)
      (deeper_seq _ _ _ _ _ _ name_same
      (deeper_seq _ _ _ _ _ _ trigger_wider
      (deeper_made _ _ _ _ _
      (deeper_seq _ _ _ _ _ _ (same_one _) (deeper_made _ _ _ _ _ (deeper_seq _ _ _ _ _ _ some_effects_wider (same_one _))))))))

  pause_wider : Deeper (Bool × Option DraftDelay) (pause e) (pause e')
  unfolding pause at_once waiting some_delay counted some_count
  pause_wider =
      deeper_made _ _ _ _ _
      (deeper_maybe _ _ _
      (deeper_either _ _ _ _ _ (deeper_made _ _ _ _ _ (same_one _))
      (deeper_made _ _ _ _ _
      (deeper_made _ _ _ _ _
      (deeper_seq _ _ _ _ _ _ name_same
      (deeper_seq _ _ _ _ _ _ (placed_wider e e' w)
      (deeper_maybe _ _ _ (deeper_made _ _ _ _ _ (deeper_seq _ _ _ _ _ _ name_same (placed_wider e e' w))))))))))

  transition_wider : Deeper (DraftTransition × DraftWay) (transition e) (transition e')
  unfolding transition termination tested
  transition_wider =
      deeper_either _ _ _ _ _
      (deeper_made _ _ _ _ _
      (deeper_seq _ _ _ _ _ _ (deeper_made _ _ _ _ _ (same_one _)) (deeper_seq _ _ _ _ _ _ trigger_wider outcome_wider)))
      (deeper_made _ _ _ _ _
      (deeper_seq _ _ _ _ _ _ (deeper_made _ _ _ _ _ (same_one _))
      (deeper_seq _ _ _ _ _ _ pause_wider (deeper_seq _ _ _ _ _ _ trigger_wider outcome_wider))))

  leaving_wider : Deeper (List DraftTransition × List DraftWay) (leaving e) (leaving e')
  unfolding leaving transitions
  leaving_wider =
      deeper_made _ _ _ _ _ (deeper_seq _ _ _ _ _ _ (deeper_made _ _ _ _ _ (deeper_many _ _ _ transition_wider)) (same_one _))

  bare_wider : Deeper StateBody (bare e) (bare e')
  unfolding bare
  bare_wider = deeper_made _ _ _ _ _ leaving_wider

  inside_wider : (i j : Inner) → Opened i j → Deeper StateBody (inside e i) (inside e' j)
  unfolding inside nested region
  inside_wider i j (from_none f k) =
      opened _ _ _ _ _
      (with_made _ _ _ _ _
      (with_seq _ _ _ _ _ (with_made _ _ _ _ _ (with_made _ _ _ _ _
      (with_seq _ _ _ _ _ (with_made _ _ _ _ _ (with_seq _ _ _ _ _ (with_made _ _ _ _ _ (with_seq _ _ _ _ _ (with_one _))))))))))
      bare_wider
  inside_wider i j (in_each r r' d) =
      deeper_either _ _ _ _ _
      (deeper_made _ _ _ _ _ (deeper_seq _ _ _ _ _ _ (rowed_wider _ r r' d) leaving_wider))
      bare_wider

  state_wider : (i j : Inner) → Opened i j → Deeper (DraftState × DraftRows) (state e i) (state e' j)
  unfolding state body acting
  state_wider i j o =
      deeper_made _ _ _ _ _
      (deeper_seq _ _ _ _ _ _ (flag_same _)
      (deeper_seq _ _ _ _ _ _ (flag_same _)
      (deeper_seq _ _ _ _ _ _ (deeper_made _ _ _ _ _ (deeper_seq _ _ _ _ _ _ (same_one _) name_same))
      (deeper_either _ _ _ _ _ (deeper_made _ _ _ _ _ (same_one _))
      (deeper_made _ _ _ _ _
      (deeper_seq _ _ _ _ _ _ (same_one _) (deeper_seq _ _ _ _ _ _ (deeper_many _ _ _ entry_wider) (inside_wider i j o))))))))

  region_wider : (i j : Inner) → Opened i j → Deeper (DraftRegion × DraftRows) (region e i) (region e' j)
  unfolding region
  region_wider i j o =
      deeper_made _ _ _ _ _
      (deeper_seq _ _ _ _ _ _ (deeper_made _ _ _ _ _ (deeper_seq _ _ _ _ _ _ (same_one _) name_same))
      (deeper_made _ _ _ _ _
      (deeper_seq _ _ _ _ _ _ (same_one _)
      (deeper_made _ _ _ _ _
      (deeper_seq _ _ _ _ _ _ (rowed_wider _ (state e i) (state e' j) (state_wider i j o)) (same_one _))))))

  within_opened : (n m : ℕ) → Above n m → Opened (within e n) (within e' m)
  unfolding within
  within_opened n m (above_none k) = from_none _ _
  within_opened n m (above_more k l a) =
      in_each _ _ (region_wider (within e k) (within e' l) (within_opened k l a))

  extended_wider : (i j : Inner) → Opened i j → Deeper ExtendedDraft (extended e i) (extended e' j)
  unfolding extended parts
  extended_wider i j o =
      deeper_made _ _ _ _ _
      (deeper_seq _ _ _ _ _ _ name_same
      (deeper_seq _ _ _ _ _ _ (deeper_made _ _ _ _ _ (deeper_seq _ _ _ _ _ _ (same_one _) name_same))
      (deeper_made _ _ _ _ _
      (deeper_seq _ _ _ _ _ _ (same_one _)
      (deeper_made _ _ _ _ _
      (deeper_seq _ _ _ _ _ _
      (deeper_seq _ _ _ _ _ _ (deeper_many _ _ _ item_wider) (rowed_wider _ (region e i) (region e' j) (region_wider i j o)))
      (same_one _)))))))

extended_text_wider : (k : ℕ) → Deeper ExtendedDraft (extended_text 0) (extended_text (suc k))
unfolding extended_text
extended_text_wider k =
    extended_wider (expression 0) (expression (suc k)) (expression_wider k) (within (expression 0) (31 + 0)) (within (expression (suc k)) (31 + suc k))
    (within_opened (expression 0) (expression (suc k)) (expression_wider k) 31 (31 + suc k) (above_by 31 k))

pub is_language : IsLanguage extended_text
is_language = record { predictive = λ k. (extended_text_is k).predictive; deeper = extended_text_wider }
