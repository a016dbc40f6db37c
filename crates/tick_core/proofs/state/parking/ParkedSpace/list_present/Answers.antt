use Rattle.std.proofs.Common.{arith}
use Rattle.std.proofs.lemmas.Grind.{elements, common_steps}
use Rattle.tick_core.proofs.state.parking.ParkedSpace.list_present.Goals as goal

pub returns-then-not-is_empty-clause-space : goal.returns-then-not-is_empty-clause-space
returns-then-not-is_empty-clause-space c = grind (arith, elements) steps 2000000

pub returns-then-not-is_empty-clause-absent : goal.returns-then-not-is_empty-clause-absent
returns-then-not-is_empty-clause-absent c = grind (arith, elements) steps 2000000

pub returns-then-not-is_empty-clause-listed : goal.returns-then-not-is_empty-clause-listed
returns-then-not-is_empty-clause-listed c = grind (arith, elements) steps 2000000

pub returns-then-not-is_empty-clause-counted : goal.returns-then-not-is_empty-clause-counted
returns-then-not-is_empty-clause-counted c = grind (arith, elements) steps 2000000

pub returns-then-not-is_empty-clause-bare : goal.returns-then-not-is_empty-clause-bare
returns-then-not-is_empty-clause-bare c = grind (arith, elements) steps 2000000

pub returns-then-not-is_empty-clause-given : goal.returns-then-not-is_empty-clause-given
returns-then-not-is_empty-clause-given c = grind (arith, elements) steps 2000000

pub returns-clause-space : goal.returns-clause-space
returns-clause-space c = grind (arith, elements) steps 2000000

pub returns-clause-absent : goal.returns-clause-absent
returns-clause-absent c = grind (arith, elements) steps 2000000

pub returns-clause-listed : goal.returns-clause-listed
returns-clause-listed c = grind (arith, elements) steps 2000000

pub returns-clause-counted : goal.returns-clause-counted
returns-clause-counted c = grind (arith, elements) steps 2000000

pub returns-clause-bare : goal.returns-clause-bare
returns-clause-bare c = grind (arith, elements) steps 2000000

pub returns-clause-given : goal.returns-clause-given
returns-clause-given c = grind (arith, elements) steps 2000000

pub clear_listed-requires : goal.clear_listed-requires
clear_listed-requires c = grind (arith, common_steps) steps 2000000

pub list_all-requires-clause-formed : goal.list_all-requires-clause-formed
list_all-requires-clause-formed c = grind (arith, common_steps) steps 2000000

pub list_all-requires-clause-room : goal.list_all-requires-clause-room
list_all-requires-clause-room c = grind (arith, common_steps) steps 2000000

pub list_all-requires-clause-configuration : goal.list_all-requires-clause-configuration
list_all-requires-clause-configuration c = grind (arith, common_steps) steps 2000000

pub list_all-requires-clause-places : goal.list_all-requires-clause-places
list_all-requires-clause-places c = grind (arith, common_steps) steps 2000000
