use Rattle.std.proofs.lemmas.Grind.{elements}
use Rattle.std.proofs.Common.{arith}
use Rattle.probe.proofs.copies.Copies.put.Goals as goal

pub put_note-writer-requires-clause-next : goal.put_note-writer-requires-clause-next
put_note-writer-requires-clause-next g c = grind (arith, elements) steps 2000000
