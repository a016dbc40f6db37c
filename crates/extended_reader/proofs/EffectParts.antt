-- What reading gives for each rule of effects.
use Rattle.std.proofs.Common.{◌≡◌, ℕ, ◌-◌, true, false, List, [], ◌∷◌, ◌++◌, refl, sym, ◌∙◌, subst}
use Rattle.grammar.specs.Grammar.{seq, either}
use Rattle.grammar.specs.Read.{starts, read}
use Rattle.sc_values.specs.declared.operator.BinaryOperator.{BinaryOperator}
use Rattle.sc_text.specs.declared.sign.Sign.TheVariants as sign
use Rattle.sc_text.specs.declared.token.Token.{Token}
use Rattle.sc_text.specs.declared.read_fault.ReadFault.{ReadFault}
use Rattle.sc_text.specs.Phrases.{Phrase}
use Rattle.sc_text.specs.Expression.{text_tokens, after, expression}
use Rattle.sc_text.specs.Reading.{Stops}
use Rattle.sc_text.proofs.Shapes.{expression_is}
use Rattle.sc_text.proofs.Steps.{stops_as}
use Rattle.sc_text.specs.declared.drafts.parts.Named.{Named}
use Rattle.sc_text.specs.declared.drafts.parts.TextExpression.{TextExpression}
use Rattle.chart_reader.specs.declared.text_drafts.draft.DraftEffect.{DraftEffect}
use Rattle.chart_reader.specs.ChartText.{Grows, the_sign, name, placed}
use Rattle.chart_reader.specs.Phrase.{Gives}
use Rattle.chart_reader.proofs.Parts.{seq_gives, made_gives, made_stops, left_read}
use Rattle.chart_reader.proofs.Parts.{right_read, gives_as}
use Rattle.extended_reader.specs.declared.text_drafts.draft.CompoundSign.{CompoundSign}
use Rattle.extended_reader.specs.declared.text_drafts.draft.EffectEnd.{EffectEnd}
use Rattle.extended_reader.specs.declared.text_drafts.draft.EffectEnd.TheVariants as ends
use Rattle.extended_reader.specs.Draft.{combination, effect_with}
use Rattle.extended_reader.specs.ExtendedText.{combining_signs, combiner, equals, combining, to_combination, combined}
use Rattle.extended_reader.specs.ExtendedText.{to_value, to_name, becoming, emitting, effect_end, effect}
use Rattle.extended_reader.proofs.Shapes.{becoming_is, combined_is}

abbrev e0 : Grows Phrase
e0 = expression 0

pub combining_gives : (text a b rest : List Token) (o : BinaryOperator × ℕ) (at : ℕ) (v : TextExpression) (c : CompoundSign) → Gives (read combiner text) o a
    → Gives (read equals a) at b → Gives (read (placed e0) b) v rest → c ≡ combination o at v → Gives (read (combining e0) text) c rest
unfolding combining
combining_gives text a b rest o at v c p q r e =
    subst (λ z. Gives (read (combining e0) text) z rest) (sym e)
    (made_gives (λ x. combination x.0 x.1.0 x.1.1) (seq combiner (seq equals (placed e0))) text (o, (at, v)) rest
    (seq_gives combiner (seq equals (placed e0)) text a rest o (at, v) p (seq_gives equals (placed e0) a b rest at v q r)))

abbrev becomes : Grows TextExpression
becomes = after (the_sign sign.Becomes) (placed e0)

-- ---- one effect

abbrev others : Grows EffectEnd
others = either (combined e0) emitting

module _ (text : List Token) where
  is_becoming : starts text_tokens (the_sign sign.Becomes) text ≡ true → read (effect_end e0) text ≡ read (becoming e0) text
  unfolding effect_end
  is_becoming e = left_read (becoming e0) (the_sign sign.Becomes) (becoming_is e0 (expression_is 0)).begins text others e

  is_other : starts text_tokens (the_sign sign.Becomes) text ≡ false → read (effect_end e0) text ≡ read others text
  unfolding effect_end
  is_other e = right_read (becoming e0) (the_sign sign.Becomes) (becoming_is e0 (expression_is 0)).begins text others e

  is_combined : starts text_tokens (the_sign sign.Becomes) text ≡ false → starts text_tokens combining_signs text ≡ true
      → read (effect_end e0) text ≡ read (combined e0) text
  is_combined e f = is_other e ∙ left_read (combined e0) combining_signs (combined_is e0 (expression_is 0)).begins text emitting f

  is_emitting : starts text_tokens (the_sign sign.Becomes) text ≡ false → starts text_tokens combining_signs text ≡ false
      → read (effect_end e0) text ≡ read emitting text
  is_emitting e f = is_other e ∙ right_read (combined e0) combining_signs (combined_is e0 (expression_is 0)).begins text emitting f

  pub becoming_gives : (v : TextExpression) (rest : List Token) → starts text_tokens (the_sign sign.Becomes) text ≡ true
      → Gives (read (after (the_sign sign.Becomes) (placed e0)) text) v rest → Gives (read (effect_end e0) text) (ends.Value v) rest
  unfolding becoming
  becoming_gives v rest e g = gives_as _ _ (ends.Value v) rest (is_becoming e) (made_gives to_value becomes text v rest g)

  pub becoming_stops : (end : ℕ) (f : ReadFault) → starts text_tokens (the_sign sign.Becomes) text ≡ true
      → Stops end (read (after (the_sign sign.Becomes) (placed e0)) text) f → Stops end (read (effect_end e0) text) f
  unfolding becoming
  becoming_stops end f e s = stops_as end _ _ f (is_becoming e) (made_stops to_value becomes text end f s)

  pub combined_gives : (c : CompoundSign) (rest : List Token) → starts text_tokens (the_sign sign.Becomes) text ≡ false
      → starts text_tokens combining_signs text ≡ true → Gives (read (combining e0) text) c rest
      → Gives (read (effect_end e0) text) (ends.Combined c) rest
  unfolding combined
  combined_gives c rest e f g = gives_as _ _ (ends.Combined c) rest (is_combined e f) (made_gives to_combination (combining e0) text c rest g)

  pub combined_stops : (end : ℕ) (f : ReadFault) → starts text_tokens (the_sign sign.Becomes) text ≡ false
      → starts text_tokens combining_signs text ≡ true → Stops end (read (combining e0) text) f → Stops end (read (effect_end e0) text) f
  unfolding combined
  combined_stops end f e h s = stops_as end _ _ f (is_combined e h) (made_stops to_combination (combining e0) text end f s)

  pub emitting_gives : (n : Named) (rest : List Token) → starts text_tokens (the_sign sign.Becomes) text ≡ false
      → starts text_tokens combining_signs text ≡ false → Gives (read name text) n rest → Gives (read (effect_end e0) text) (ends.Name n) rest
  unfolding emitting
  emitting_gives n rest e f g = gives_as _ _ (ends.Name n) rest (is_emitting e f) (made_gives to_name name text n rest g)

  pub emitting_stops : (end : ℕ) (f : ReadFault) → starts text_tokens (the_sign sign.Becomes) text ≡ false
      → starts text_tokens combining_signs text ≡ false → Stops end (read name text) f → Stops end (read (effect_end e0) text) f
  unfolding emitting
  emitting_stops end f e h s = stops_as end _ _ f (is_emitting e h) (made_stops to_name name text end f s)

pub effect_gives : (text a rest : List Token) (n : Named) (b : EffectEnd) (x : DraftEffect) → Gives (read name text) n a
    → Gives (read (effect_end e0) a) b rest → x ≡ effect_with n b → Gives (read (effect e0) text) x rest
unfolding effect
effect_gives text a rest n b x p q e =
    subst (λ z. Gives (read (effect e0) text) z rest) (sym e)
    (made_gives (λ x. effect_with x.0 x.1) (seq name (effect_end e0)) text (n, b) rest (seq_gives name (effect_end e0) text a rest n b p q))
