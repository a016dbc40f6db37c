use Rattle.std.proofs.Common.{None, Some}
use Rattle.std.specs.Cmp.{unsigned_Decides}
use Rattle.std.proofs.lemmas.Slice.Eq.{strip_prefix_is}
use Rattle.sc_text.proofs.FirstToken.{no_word, word_ends, word_goes_on}
use Rattle.sc_text.proofs.first_token.is_next.Goals as goal

pub returns-in-Some-empty : goal.returns-in-Some-empty
returns-in-Some-empty c =
    word_ends c.args.word.now c.requires c.args.text.now c.in-Some-empty.field-0.now
    (strip_prefix_is unsigned_Decides c.args.text.now c.args.word.now (Some c.in-Some-empty.field-0) c.in-Some-empty.ensures.cases)
    c.in-Some-empty.len_below

pub returns-in-Some-len1-up : goal.returns-in-Some-len1-up
returns-in-Some-len1-up c =
    word_goes_on c.args.word.now c.requires c.args.text.now c.in-Some-len1-up.field-0.now c.goes_on.result
    (strip_prefix_is unsigned_Decides c.args.text.now c.args.word.now (Some c.in-Some-len1-up.field-0) c.in-Some-len1-up.ensures.cases)
    c.in-Some-len1-up.len_at_least c.goes_on.ensures

pub returns-in-None : goal.returns-in-None
returns-in-None c =
    no_word c.args.word.now c.args.text.now (strip_prefix_is unsigned_Decides c.args.text.now c.args.word.now None c.in-None.ensures.cases)
