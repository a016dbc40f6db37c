-- Reading declarations.
use Rattle.std.proofs.Common.{◌≡◌, ℕ, suc, ◌<◌, true, false, List, [], ◌∷◌, ◌++◌, length, map, drop, ◌∙◌, ap}
use Rattle.std.proofs.lemmas.List.Concat.{flat_map_single}
use Rattle.std.specs.List.{flat_map}
use Rattle.grammar.specs.Grammar.{one, seq, many}
use Rattle.grammar.specs.Read.{Outcome, Got, starts, read}
use Rattle.sc_values.specs.declared.value.Kind.{Kind}
use Rattle.sc_graph.specs.declared.program.Role.{Role}
use Rattle.sc_text.specs.declared.token.Token.{Token}
use Rattle.sc_text.specs.declared.read_fault.ReadFault.{ReadFault}
use Rattle.sc_text.specs.Expression.{text_tokens, before}
use Rattle.sc_text.specs.Reading.{Stops, Takes}
use Rattle.sc_text.specs.declared.drafts.parts.Named.{Named}
use Rattle.sc_text.specs.declared.drafts.parts.Declaration.{Declaration}
use Rattle.sc_text.specs.DraftParts.{roles, kinds}
use Rattle.scl_reader.specs.Draft.{declared}
use Rattle.scl_reader.specs.Program.{Grows, name, semicolon, declaration}
use Rattle.scl_reader.specs.Inside.TextDrafts.{TakesName, TakesRole, TakesKind, Adds, IsGoing, one_declared}
use Rattle.scl_reader.proofs.Names.{name_got}
use Rattle.scl_reader.proofs.Taking.{before_got, before_stops, before_stops_behind, pair_got, pair_stops_first, pair_stops_second}
use Rattle.scl_reader.proofs.Loops.{going_first, going_ends, going_over, going_stops, going_on}

pub each_declared : (ds : List (Token × (Token × Token))) → flat_map one_declared ds ≡ map declared ds
each_declared ds = flat_map_single declared ds

-- ---- one declaration

abbrev ending : Grows Token
ending = before name semicolon

abbrev typed : Grows (Token × Token)
typed = seq (one kinds) ending

module _ (text : List Token) where
  pub role_stops : (end : ℕ) (f : ReadFault) → Stops end (read (one {L = text_tokens} roles) text) f → Stops end (read declaration text) f
  unfolding declaration
  role_stops end f s = pair_stops_first (one roles) typed end text f s

  module _ (r : Role) (behind_role : List Token) (t : TakesRole (read (one {L = text_tokens} roles) text) r behind_role) where
    typed_stops : (end : ℕ) (f : ReadFault) → Stops end (read typed behind_role) f → Stops end (read declaration text) f
    unfolding declaration
    typed_stops end f s = pair_stops_second (one roles) typed end text behind_role t.token f t.is s

    pub kind_stops : (end : ℕ) (f : ReadFault) → Stops end (read (one {L = text_tokens} kinds) behind_role) f → Stops end (read declaration text) f
    kind_stops end f s = typed_stops end f (pair_stops_first (one kinds) ending end behind_role f s)

    module _ (k : Kind) (named : List Token) (u : TakesKind (read (one {L = text_tokens} kinds) behind_role) k named) where
      pub name_stops : (end : ℕ) (f : ReadFault) → Stops end (read name named) f → Stops end (read declaration text) f
      name_stops end f s =
          typed_stops end f (pair_stops_second (one kinds) ending end behind_role named u.token f u.is (before_stops semicolon name end named f s))

      module _ (called : Named) (rest : List Token) (n : TakesName named called) (g : rest ≡ drop 1 named) where
        got : read name named ≡ Got n.token rest
        got = name_got named rest called n g

        pub end_stops : (end : ℕ) (f : ReadFault) → Stops end (read (one {L = text_tokens} semicolon) rest) f → Stops end (read declaration text) f
        end_stops end f s =
            typed_stops end f
            (pair_stops_second (one kinds) ending end behind_role named u.token f u.is (before_stops_behind semicolon name end named rest n.token f got s))

        pub declaration_reads : (after : List Token) (old new : List Declaration) (d : Declaration) → Takes (read (one {L = text_tokens} semicolon) rest) after
            → d ≡ record { role = r; kind = k; named = called } → new ≡ old ++ d ∷ [] → Adds one_declared (read declaration text) old new after
        unfolding declaration
        declaration_reads after old new d c e b =
            let w = t.writes in
            let x = u.writes in
            let y = n.means in
            let same : d ≡ declared (t.token, (u.token, n.token)) = cc in
            record {
              meaning = (t.token, (u.token, n.token));
              is =
                  pair_got (one roles) typed text behind_role after t.token (u.token, n.token) t.is
                  (pair_got (one kinds) ending behind_role named after u.token n.token u.is
                  (before_got semicolon name named rest after n.token got c));
              behind = b ∙ ap (λ x. old ++ x ∷ []) same;
            }

-- ---- all of them

module _ (o : Outcome Token (List (Token × (Token × Token)))) (old mid : List Declaration) where
  pub declarations_end : (left : ℕ) (rest : List Token) → IsGoing declaration one_declared o old mid left rest → starts text_tokens roles rest ≡ false
      → Adds (flat_map one_declared) o old mid rest
  unfolding declaration
  declarations_end left rest h e = going_ends declaration one_declared o old mid left rest h e

  pub declarations_over : (left : ℕ) (rest : List Token) → left ≡ 0 → IsGoing declaration one_declared o old mid left rest
      → Adds (flat_map one_declared) o old mid rest
  declarations_over left rest z h = going_over declaration one_declared o old mid left rest z h

  pub declarations_stop : (left : ℕ) (rest : List Token) (end : ℕ) (f : ReadFault) → 0 < left → IsGoing declaration one_declared o old mid left rest
      → starts text_tokens roles rest ≡ true → Stops end (read declaration rest) f → Stops end o f
  unfolding declaration
  declarations_stop left rest end f m h e s = going_stops declaration one_declared o old mid left rest end f m h e s

  pub declarations_go_on : (left less : ℕ) (rest after : List Token) (new : List Declaration) → left ≡ suc less
      → IsGoing declaration one_declared o old mid left rest → starts text_tokens roles rest ≡ true → Adds one_declared (read declaration rest) mid new after
      → IsGoing declaration one_declared o old new less after
  unfolding declaration
  declarations_go_on left less rest after new m h e a = going_on declaration one_declared o old mid left less rest after new m h e a

pub declarations_begin : (text : List Token) (left : ℕ) (items : List Declaration) → left ≡ length text
    → IsGoing declaration one_declared (read (many declaration) text) items items left text
declarations_begin text left items e = going_first declaration one_declared text left items e
