use Rattle.std.proofs.Common.{◌≡◌, ◌++◌, string_bytes}
use Rattle.std.specs.Str.Iter.{chars_rest}
use Rattle.command_files.specs.FaultText.{shown_name}
use Rattle.command_files.proofs.fault_text.shown_name.Given as goal

abbrev pub invariant-loop-letter : goal.invariant-loop-letter
invariant-loop-letter l = string_bytes l.shown ++ shown_name (chars_rest l.letter-iterator) ≡ shown_name l.name
