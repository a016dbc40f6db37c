-- What reading gives for each rule of uses.
use Rattle.std.proofs.Common.{◌≡◌, ℕ, true, false, Some, None, List, [], refl, sym, subst}
use Rattle.grammar.specs.Grammar.{seq, maybe}
use Rattle.grammar.specs.Predictive.{first}
use Rattle.grammar.specs.Read.{starts, read}
use Rattle.sc_text.specs.declared.token.Token.{Token}
use Rattle.sc_text.specs.declared.read_fault.ReadFault.{ReadFault}
use Rattle.sc_text.specs.Expression.{text_tokens}
use Rattle.sc_text.specs.Reading.{Stops}
use Rattle.sc_text.specs.declared.drafts.parts.Named.{Named}
use Rattle.sc_text.specs.DraftParts.{or_none}
use Rattle.chart_reader.specs.ChartText.{name, last_name}
use Rattle.chart_reader.specs.Phrase.{Gives}
use Rattle.chart_reader.proofs.Parts.{seq_gives, made_gives, made_stops, maybe_none, maybe_some, maybe_stops}
use Rattle.extended_reader.specs.Phrases.{argument_classes, some_arguments, arguments, all_arguments, use_of, using}

module _ (text : List Token) where
  some_begin : first some_arguments ≡ argument_classes
  unfolding some_arguments
  some_begin = refl

  pub arguments_missing : (none : List Token) → starts text_tokens argument_classes text ≡ false → none ≡ [] → Gives (read arguments text) none text
  unfolding arguments
  arguments_missing none e n =
      subst (λ d. Gives (read arguments text) d text) (sym n)
      (made_gives or_none (maybe some_arguments) text None text (maybe_none some_arguments argument_classes some_begin text e))

  pub arguments_there : (rest : List Token) (xs : List Token) → starts text_tokens argument_classes text ≡ true
      → Gives (read some_arguments text) xs rest → Gives (read arguments text) xs rest
  unfolding arguments
  arguments_there rest xs e r =
      made_gives or_none (maybe some_arguments) text (Some xs) rest (maybe_some some_arguments argument_classes some_begin text xs rest e r)

  pub arguments_stop : (end : ℕ) (f : ReadFault) → starts text_tokens argument_classes text ≡ true → Stops end (read some_arguments text) f
      → Stops end (read arguments text) f
  unfolding arguments
  arguments_stop end f e s =
      made_stops or_none (maybe some_arguments) text end f (maybe_stops some_arguments argument_classes some_begin text end f e s)

  pub using_gives : (a b c rest : List Token) (m : Named) (xs : List Token) (w n : Named) → Gives (read name text) m a
      → Gives (read all_arguments a) xs b → Gives (read name b) w c → Gives (read last_name c) n rest → Gives (read using text) (use_of m xs w n) rest
  unfolding using
  using_gives a b c rest m xs w n p q r s =
      made_gives (λ x. use_of x.0 x.1.0 x.1.1.0 x.1.1.1) (seq name (seq all_arguments (seq name last_name))) text (m, (xs, (w, n))) rest
      (seq_gives name (seq all_arguments (seq name last_name)) text a rest m (xs, (w, n)) p
      (seq_gives all_arguments (seq name last_name) a b rest xs (w, n) q (seq_gives name last_name b c rest w n r s)))
