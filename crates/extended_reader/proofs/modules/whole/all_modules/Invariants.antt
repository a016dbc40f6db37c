use Rattle.std.proofs.Common.{◌≡◌, ◌-◌, [], length}
use Rattle.extended_reader.specs.Modules.{all_modules}
use Rattle.extended_reader.proofs.modules.whole.all_modules.Given as goal

abbrev pub invariant-loop-count : goal.invariant-loop-count
invariant-loop-count l =
    all_modules l.end (l.most - l.count) l.modules l.ahead.tokens.now
    ≡ all_modules l.end (length l.fn.ahead.tokens.now) [] l.fn.ahead.tokens.now
