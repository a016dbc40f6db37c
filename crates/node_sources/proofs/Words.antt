-- What the tokens are by which places are told.
use Rattle.std.proofs.Common.{◌≡◌, pos, negsuc, zero, suc, IsTrue, [], ◌∷◌, refl}
use Rattle.grammar.specs.Grammar.{is_in}
use Rattle.sc_text.specs.declared.token.TokenKind.{TokenKind}
use Rattle.sc_text.specs.declared.token.TokenKind.TheVariants as token
use Rattle.sc_text.specs.declared.word.Word.TheVariants as word
use Rattle.sc_text.specs.Classes.{AName, class_of}
use Rattle.sc_text.specs.Expression.{text_tokens}
use Rattle.sc_text.specs.DraftParts.{name_of}
use Rattle.chart_reader.specs.ChartText.{tested_words, the_word}
use Rattle.chart_reader.specs.Draft.{tested_by}
use Rattle.node_sources.specs.ChartLaws.{word_of}

pub name_is : (k : TokenKind) → IsTrue (is_in text_tokens (AName ∷ []) (class_of k)) → k ≡ token.Name (name_of k)
name_is (token.Name name) c = refl
name_is (token.Number (pos zero)) c = absurd cc
name_is (token.Number (pos (suc n))) c = absurd cc
name_is (token.Number (negsuc n)) c = absurd cc
name_is (token.Word w) c = absurd cc
name_is (token.Sign s) c = absurd cc

pub join_is : (k : TokenKind) → IsTrue (is_in text_tokens (the_word word.Join) (class_of k)) → k ≡ token.Word (word_of (tested_by k))
join_is (token.Word word.Join) c = refl
join_is (token.Name name) c = absurd cc
join_is (token.Number (pos zero)) c = absurd cc
join_is (token.Number (pos (suc n))) c = absurd cc
join_is (token.Number (negsuc n)) c = absurd cc
join_is (token.Word w) c = absurd cc
join_is (token.Sign s) c = absurd cc

pub tested_is : (k : TokenKind) → IsTrue (is_in text_tokens tested_words (class_of k)) → k ≡ token.Word (word_of (tested_by k))
tested_is (token.Word word.Go) c = refl
tested_is (token.Word word.Strong) c = refl
tested_is (token.Word word.Weak) c = refl
tested_is (token.Name name) c = absurd cc
tested_is (token.Number (pos zero)) c = absurd cc
tested_is (token.Number (pos (suc n))) c = absurd cc
tested_is (token.Number (negsuc n)) c = absurd cc
tested_is (token.Word w) c = absurd cc
tested_is (token.Sign s) c = absurd cc
