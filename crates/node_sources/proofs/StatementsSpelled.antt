-- The tokens of each statement, of the phrases that spell it.
use Rattle.std.proofs.Common.{◌≡◌, ℕ, zero, suc, pos, negsuc, Bool, true, false, ◌||◌, IsTrue, Option, Some, None}
use Rattle.std.proofs.Common.{List, [], ◌∷◌, ◌++◌, map, refl, sym, ap, subst, ◌∙◌}
use Rattle.grammar.specs.Grammar.{is_in, one, spells}
use Rattle.grammar.proofs.Each.{Each, Every, OfIt, each_as, each_barred, each_either, each_made, each_many, each_maybe, each_one, each_seq}
use Rattle.sc_text.specs.declared.token.Token.{Token}
use Rattle.sc_text.specs.declared.token.TokenKind.{TokenKind}
use Rattle.sc_text.specs.declared.token.TokenKind.TheVariants as token
use Rattle.sc_text.specs.declared.word.Word.{Word}
use Rattle.sc_text.specs.declared.word.Word.TheVariants as word
use Rattle.sc_text.specs.Classes.{AName, TheWord, class_of, class_same, same_class}
use Rattle.sc_text.specs.Phrases.{Phrase}
use Rattle.sc_text.specs.Expression.{expression, text_tokens}
use Rattle.sc_text.specs.Reading.{place_of}
use Rattle.sc_text.proofs.EachPart.{each_after, each_before}
use Rattle.sc_text.specs.DraftParts.{expressed, name_of}
use Rattle.scl_reader.specs.declared.text_drafts.statement.TextStatement.{TextStatement}
use Rattle.scl_reader.specs.Statements.{Statements, branch_of, goto_statement, named_statement, none_or_them, pause_statement}
use Rattle.scl_reader.specs.Program.{Grows, Inner, NoMore, Nested, Text, block, branch, choice, fork, forking, forks_within, goto}
use Rattle.scl_reader.specs.Program.{ifs_within, name, named, pause, program, scl, simple, statement, test, thread}
use Rattle.node_sources.proofs.Words.{name_is}
use Rattle.node_sources.specs.SclLaws.{NameStands, OpensThread, OpeningStands, TokenStands, WordStands, opens_branch, opens_fork, opens_text}
use Rattle.node_sources.proofs.StatementsPlaced.{IsBranchPut, IsPut, fork_put, goto_put, if_put, named_put, pause_put}

-- ---- tokens of one class

in_one : (b : Bool) → IsTrue (b || false) → IsTrue b
in_one true h = refl
in_one false h = h

classed : (w : Word) (k : TokenKind) → TheWord w ≡ class_of k → k ≡ token.Word w
classed w (token.Name name) e = absurd cc
classed w (token.Number (pos zero)) e = absurd cc
classed w (token.Number (pos (suc n))) e = absurd cc
classed w (token.Number (negsuc n)) e = absurd cc
classed w (token.Word v) e = let same : v ≡ w = cc in ap token.Word same
classed w (token.Sign s) e = absurd cc

word_is : (w : Word) (k : TokenKind) → IsTrue (is_in text_tokens (TheWord w ∷ []) (class_of k)) → k ≡ token.Word w
word_is w k c = classed w k ((class_same (TheWord w) (class_of k)).0 (in_one (same_class (TheWord w) (class_of k)) c))

-- ---- phrases

module _ (text : List ℕ) (names : List (List ℕ)) where
  -- it stands in the text
  abbrev pub Good : Token → Type 0
  Good t = TokenStands text t.kind t.at

  abbrev EachGood : {A : Type 0} → Grows A → (A → Type 0) → Type 0
  EachGood g P = Each {L = text_tokens} Good g P

  abbrev Put : TextStatement → Type 0
  Put = IsPut text names

  abbrev AllPut : Statements → Type 0
  AllPut statements = Every Put statements

  each_any : {A : Type 0} (g : Grows A) → EachGood g (λ x. Unit {0})
  each_any g = record { holds = λ tokens x q s. tt }

  as_kind : (t : Token) (k : TokenKind) → t.kind ≡ k → Good t → TokenStands text k t.at
  as_kind t k same good = subst (λ kind. TokenStands text kind t.at) same good

  name_put : EachGood name (λ t. NameStands text (name_of t.kind) t.at)
  name_put =
      each_one (AName ∷ []) (λ t. NameStands text (name_of t.kind) t.at)
      (λ t q c. as_kind t (token.Name (name_of t.kind)) (name_is t.kind c) q)

  word_put : (w : Word) → EachGood (one (TheWord w ∷ [])) (λ t. WordStands text w t.at)
  word_put w = each_one (TheWord w ∷ []) (λ t. WordStands text w t.at) (λ t q c. as_kind t (token.Word w) (word_is w t.kind c) q)

  block_put : (s : Grows TextStatement) → EachGood s Put → EachGood (block s) AllPut
  unfolding block
  block_put s g = each_after _ _ _ (each_before _ _ _ (each_many _ _ _ g))

  -- a branch behind the word that opens it, which is this one
  abbrev Branched : Word → Token × Statements → Type 0
  Branched w b = WordStands text w b.0.at × AllPut b.1

  branch_put : (w : Word) (s : Grows TextStatement) → EachGood s Put → EachGood (branch w s) (Branched w)
  unfolding branch
  branch_put w s g = each_as _ _ _ (Branched w) (each_seq _ _ _ _ _ _ (word_put w) (block_put s g)) (λ b h. (h.0, h.1))

  opened : (w : Word) → OpensThread w → (b : Token × Statements) → Branched w b → IsBranchPut text names (branch_of b)
  opened w o b h = (record { opening = w; opens = o; stands = h.0 }, h.1)

  others_opened : (branches : List (Token × Statements)) → Every (Branched word.Par) branches →
      Every (IsBranchPut text names) (map branch_of branches)
  others_opened [] h = tt
  others_opened (b ∷ branches) h = (opened word.Par opens_branch b h.0, others_opened branches h.1)

  fork_spelled : (s : Grows TextStatement) → EachGood s Put → EachGood (fork s) Put
  unfolding fork
  fork_spelled s g =
      each_made _ _ _ _ _ Put
      (each_seq _ _ _ _ _ _ (branch_put word.Fork s g)
      (each_before _ _ _ (each_seq _ _ _ _ _ _ (each_many _ _ _ (branch_put word.Par s g)) (word_put word.Join))))
      (λ x h.
      fork_put text names (branch_of x.0) (map branch_of x.1.0) x.1.1.at h.0.0 h.1.1
      (opened word.Fork opens_fork x.0 h.0, others_opened x.1.0 h.1.0))

  module _ (e : Grows Phrase) where
    simple_spelled : EachGood (simple e) Put
    unfolding simple named goto pause
    simple_spelled =
        each_either _ _ _ _
        (each_made _ _ (λ x. named_statement x.0 x.1) _ _ Put (each_seq _ _ _ _ _ _ name_put (each_any _))
        (λ x h. named_put text names x.0 x.1 h.0))
        (each_either _ _ _ _
        (each_made _ _ goto_statement _ _ Put (each_after _ _ _ (each_before _ _ _ name_put)) (λ t h. goto_put text names t h))
        (each_made _ _ pause_statement _ _ Put (each_before _ _ _ (word_put word.Pause)) (λ t h. pause_put text names t h)))

    none_or_all : (statements : Option Statements) → OfIt AllPut statements → AllPut (none_or_them statements)
    none_or_all None h = tt
    none_or_all (Some statements) h = h

    choice_spelled : (s : Grows TextStatement) → EachGood s Put → EachGood (choice e s) Put
    unfolding choice
    choice_spelled s g =
        each_made _ _ _ _ _ Put
        (each_seq _ _ _ _ _ _ (word_put word.If)
        (each_seq _ _ _ _ _ _ (each_any (test e))
        (each_seq _ _ _ _ _ _ (block_put s g) (each_maybe _ _ _ (each_after _ _ _ (block_put s g))))))
        (λ x h.
        if_put text names x.0.at (expressed x.1.0) x.1.1.0 (none_or_them x.1.1.1) h.0 h.1.1.0 (none_or_all x.1.1.1 h.1.1.1))

    -- ---- within forks and ifs

    data Fits : Inner → Type 1 where
      none_more : Fits NoMore
      nested : (s : Grows TextStatement) → EachGood s Put → Fits (Nested s)

    forking_spelled : (i : Inner) → Fits i → EachGood (forking e i) Put
    unfolding forking
    forking_spelled i none_more = each_barred _ _ _ _ simple_spelled
    forking_spelled i (nested s g) = each_either _ _ _ _ (fork_spelled s g) simple_spelled

    statement_spelled : (f i : Inner) → Fits f → Fits i → EachGood (statement e f i) Put
    unfolding statement
    statement_spelled f i a none_more = each_barred _ _ _ _ (forking_spelled f a)
    statement_spelled f i a (nested s g) = each_either _ _ _ _ (choice_spelled s g) (forking_spelled f a)

    ifs_fit : (f : Inner) → Fits f → (n : ℕ) → Fits (ifs_within e f n)
    unfolding ifs_within
    ifs_fit f a zero = none_more
    ifs_fit f a (suc n) = nested _ (statement_spelled f (ifs_within e f n) a (ifs_fit f a n))

    forks_fit : (ifs n : ℕ) → Fits (forks_within e ifs n)
    unfolding forks_within
    forks_fit ifs zero = none_more
    forks_fit ifs (suc n) =
        nested _
        (statement_spelled (forks_within e ifs n) (ifs_within e (forks_within e ifs n) ifs) (forks_fit ifs n)
        (ifs_fit (forks_within e ifs n) (forks_fit ifs n) ifs))

    thread_spelled : (ifs forks : ℕ) → EachGood (thread e ifs forks) Put
    unfolding thread
    thread_spelled ifs forks =
        statement_spelled (forks_within e ifs forks) (ifs_within e (forks_within e ifs forks) ifs) (forks_fit ifs forks)
        (ifs_fit (forks_within e ifs forks) (forks_fit ifs forks) ifs)

  -- ---- whole texts

  abbrev WholePut : Text → Type 0
  WholePut t = AllPut t.1.1

  pub text_spelled : EachGood (scl 0) WholePut
  unfolding scl program
  text_spelled =
      each_after _ _ _
      (each_as _ _ _ WholePut
      (each_seq _ _ _ _ _ _ (each_any name)
      (each_after _ _ _
      (each_before _ _ _
      (each_seq _ _ _ _ _ _ (each_any _) (each_many _ _ _ (thread_spelled (expression 0) 32 32))))))
      (λ t h. h.1.1))

  -- the first token opens the text
  pub text_opened : (tokens : List Token) (t : Text) → Every Good tokens → spells (scl 0) tokens t → OpeningStands text (place_of 0 tokens)
  unfolding scl program
  text_opened tokens t all s =
      let front : tokens ≡ s.0.0 ∷ s.2.1 = s.2.2 ∙ ap (λ f. f ++ s.2.1) s.2.3.0 in
      let good : Good s.0.0 = (subst (Every Good) front all).0 in
      let stands : WordStands text word.Scl s.0.0.at = as_kind s.0.0 (token.Word word.Scl) (word_is word.Scl s.0.0.kind s.2.3.1) good in
      record {
        opening = word.Scl;
        opens = opens_text;
        stands = subst (WordStands text word.Scl) (ap (place_of 0) (sym front)) stands;
      }
