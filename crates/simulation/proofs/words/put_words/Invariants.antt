use Rattle.std.proofs.Common.{◌≡◌, ◌++◌, false, length, string_bytes}
use denote.Text.{Utf8}
use denote.Shadow.{shadow}
use Rattle.simulation.specs.Words.{members_of, words_in}
use Rattle.simulation.proofs.words.put_words.Given as goal

-- what is left makes the members that are missing
abbrev pub invariant-loop-word : goal.invariant-loop-word
invariant-loop-word l = record {
  utf8 : shadow (Utf8 l.rest);
  members : string_bytes l.object ++ members_of l.later (words_in l.rest) ≡ string_bytes l.fn.object ++ members_of false (words_in l.fn.words);
}

abbrev pub decreases-loop-word : goal.decreases-loop-word
decreases-loop-word l = length l.rest
