-- Words that are taken one after the other.
use Rattle.std.specs.Prelude.{Bool, true, false, Option, Some, None}
use Rattle.command_words.specs.Said.{Said}

-- what was said so far, where the word was taken that came last
abbrev pub taken : Bool → Said → Option Said
taken true s = Some s
taken false s = None
