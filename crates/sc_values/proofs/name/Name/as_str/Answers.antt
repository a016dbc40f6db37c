use Rattle.sc_values.proofs.Names.{name_utf8}
use Rattle.sc_values.proofs.name.Name.as_str.Goals as goal

pub unreachable-requires : goal.unreachable-requires
unreachable-requires c = c.in-Err.ensures.cases.0 (rw c.as_bytes.ensures.value (name_utf8 _ c.as_bytes.ensures.name))
