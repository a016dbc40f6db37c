use Rattle.extended_reader.proofs.EffectParts.{becoming_gives, becoming_stops, combined_gives, combined_stops, emitting_gives, emitting_stops}
use Rattle.std.proofs.Common.{rules}
use Rattle.extended_reader.proofs.text_drafts.effects.effect_end.Goals as goal

pub returns-then-sign_follows : goal.returns-then-sign_follows
returns-then-sign_follows c = search (rules, becoming_gives)

pub returns-in_err-value : goal.returns-in_err-value
returns-in_err-value c = search (rules, becoming_stops)

pub returns-then-combiner_follows : goal.returns-then-combiner_follows
returns-then-combiner_follows c = search (rules, combined_gives)

pub returns-in_err-combination : goal.returns-in_err-combination
returns-in_err-combination c = search (rules, combined_stops)

pub returns : goal.returns
returns c = search (rules, emitting_gives)

pub returns-in_err-signal : goal.returns-in_err-signal
returns-in_err-signal c = search (rules, emitting_stops)
