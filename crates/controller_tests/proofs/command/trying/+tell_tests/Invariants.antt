use Rattle.std.proofs.Common.{length}
use Rattle.controller_tests.proofs.command.trying.+tell_tests.Given as goal

abbrev pub decreases-tell_tests : goal.decreases-tell_tests
decreases-tell_tests g l = length l.names.now
