use Rattle.std.proofs.Common.{◌≡◌, drop}
use Rattle.sc_text.specs.Flaws.{is_among}
use Rattle.extended_reader.proofs.modules.bodies.is_among.Given as goal

abbrev pub invariant-loop-one : goal.invariant-loop-one
invariant-loop-one l = is_among (drop l.one-index l.names) l.name ≡ is_among l.names l.name
