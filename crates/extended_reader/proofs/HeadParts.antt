-- What reading gives for each rule of how a module begins.
use Rattle.std.proofs.Common.{◌≡◌, ℕ, true, false, Some, None, List, [], refl, sym, subst}
use Rattle.grammar.specs.Grammar.{seq, maybe}
use Rattle.grammar.specs.Predictive.{first}
use Rattle.grammar.specs.Read.{starts, read}
use Rattle.sc_values.specs.declared.value.Kind.{Kind}
use Rattle.sc_text.specs.declared.token.Token.{Token}
use Rattle.sc_text.specs.declared.read_fault.ReadFault.{ReadFault}
use Rattle.sc_text.specs.Expression.{text_tokens}
use Rattle.sc_text.specs.Reading.{Stops}
use Rattle.sc_text.specs.declared.drafts.parts.Named.{Named}
use Rattle.sc_text.specs.DraftParts.{or_none}
use Rattle.chart_reader.specs.ChartText.{name, declared_kind}
use Rattle.chart_reader.specs.Phrase.{Gives}
use Rattle.chart_reader.proofs.Parts.{seq_gives, made_gives, made_stops, maybe_none, maybe_some, maybe_stops}
use Rattle.extended_reader.specs.declared.modules.parts.ParameterRole.{ParameterRole}
use Rattle.extended_reader.specs.declared.modules.parts.Parameter.{Parameter}
use Rattle.extended_reader.specs.Phrases.{parameter_first, opening, parameter_of, parameter, some_parameters, parameters, all_parameters}
use Rattle.extended_reader.specs.Phrases.{head_of, head}

module _ (text : List Token) where
  pub parameter_gives : (a b rest : List Token) (r : ParameterRole) (at : ℕ) (k : Kind) (n : Named) → Gives (read opening text) (r, at) a
      → Gives (read declared_kind a) k b → Gives (read name b) n rest → Gives (read parameter text) (parameter_of (r, at) k n) rest
  unfolding parameter
  parameter_gives a b rest r at k n p q s =
      made_gives (λ x. parameter_of x.0 x.1.0 x.1.1) (seq opening (seq declared_kind name)) text ((r, at), (k, n)) rest
      (seq_gives opening (seq declared_kind name) text a rest (r, at) (k, n) p (seq_gives declared_kind name a b rest k n q s))

  some_begin : first some_parameters ≡ parameter_first
  unfolding some_parameters parameter
  some_begin = refl

  pub parameters_missing : (none : List Parameter) → starts text_tokens parameter_first text ≡ false → none ≡ [] → Gives (read parameters text) none text
  unfolding parameters
  parameters_missing none e n =
      subst (λ d. Gives (read parameters text) d text) (sym n)
      (made_gives or_none (maybe some_parameters) text None text (maybe_none some_parameters parameter_first some_begin text e))

  pub parameters_there : (rest : List Token) (xs : List Parameter) → starts text_tokens parameter_first text ≡ true
      → Gives (read some_parameters text) xs rest → Gives (read parameters text) xs rest
  unfolding parameters
  parameters_there rest xs e r =
      made_gives or_none (maybe some_parameters) text (Some xs) rest (maybe_some some_parameters parameter_first some_begin text xs rest e r)

  pub parameters_stop : (end : ℕ) (f : ReadFault) → starts text_tokens parameter_first text ≡ true → Stops end (read some_parameters text) f
      → Stops end (read parameters text) f
  unfolding parameters
  parameters_stop end f e s =
      made_stops or_none (maybe some_parameters) text end f (maybe_stops some_parameters parameter_first some_begin text end f e s)

  pub head_gives : (a rest : List Token) (n : Named) (xs : List Parameter) → Gives (read name text) n a → Gives (read all_parameters a) xs rest
      → Gives (read head text) (head_of n xs) rest
  unfolding head
  head_gives a rest n xs p q =
      made_gives (λ x. head_of x.0 x.1) (seq name all_parameters) text (n, xs) rest (seq_gives name all_parameters text a rest n xs p q)
