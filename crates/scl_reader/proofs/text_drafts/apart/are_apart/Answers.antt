use Rattle.std.proofs.Common.{subst}
use Rattle.scl_reader.specs.Inside.Apart.{AreRising}
use Rattle.scl_reader.specs.Flaws.{names}
use Rattle.scl_reader.proofs.AllApart.{rising_apart}
use Rattle.scl_reader.proofs.text_drafts.apart.are_apart.Goals as goal

pub returns : goal.returns
returns c = λ rising.
    rising_apart (names c.args.labels.now) c.in_ok-numbers.numbers.items c.sort_unstable.new.self.items c.in_ok-numbers.ensures
    c.sort_unstable.ensures.permutation (subst AreRising c.as_slice.ensures.value (c.are_rising.ensures rising))
