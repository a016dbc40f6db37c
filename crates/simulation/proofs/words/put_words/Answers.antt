use Rattle.std.proofs.lemmas.Grind.{common_steps}
use Rattle.std.proofs.Common.{◌≡◌, ◌<◌, ◌++◌, ℕ, List, ◌∷◌, false, length, rules, string_bytes, arith}
use Rattle.std.specs.List.{position_or_len, before_first, after_first}
use Rattle.simulation.specs.Pieces.{is_between}
use Rattle.simulation.specs.Words.{members_of, words_in}
use Rattle.simulation.proofs.Split.{word_put, last_put}
use Rattle.simulation.proofs.words.put_words.Goals as goal

pub loop-word-preserved : goal.loop-word-preserved
loop-word-preserved c =
    let text = c.loop-word.rest.now in
    let word = c.in-Some.word.now in
    let rest = c.in-Some.behind.now in
    let object = string_bytes c.loop-word.object in
    let now = string_bytes c.put_word.new.object in
    let later = c.in_ok-later-in-Some.later in
    let some : position_or_len (is_between 32) text < length text = search rules in
    let is : word ≡ before_first (is_between 32) text = search rules in
    let behind : rest ≡ after_first (is_between 32) text = search rules in
    let put : (words : List (List ℕ)) → now ++ members_of later words ≡ object ++ members_of c.loop-word.later (word ∷ words) =
    c.in_ok-later-in-Some.ensures in
    record {
      utf8 = search rules;
      members =
          word_put (string_bytes c.args.object.now ++ members_of false (words_in c.args.words.now)) object now text word rest c.loop-word.later later
          some is behind put c.loop-word.invariant.members;
    }

pub returns-in-None : goal.returns-in-None
returns-in-None c =
    let text = c.loop-word.rest.now in
    let none : position_or_len (is_between 32) text ≡ length text = search rules in
    last_put (string_bytes c.args.object.now ++ members_of false (words_in c.args.words.now)) (string_bytes c.loop-word.object)
    (string_bytes c.put_word-in-None.new.object) text c.loop-word.later c.in_ok-put_word-in-None.field-0 none c.in_ok-put_word-in-None.ensures
    c.loop-word.invariant.members

pub loop-word-smaller : goal.loop-word-smaller
loop-word-smaller c = grind (arith, common_steps) steps 2000000
