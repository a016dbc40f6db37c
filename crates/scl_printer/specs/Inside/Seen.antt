-- A text with its form, as the printer's definition sees it.
use Rattle.std.specs.Prelude.{string_bytes}
use Rattle.scl_printer.specs.Expressions as printed
use Rattle.scl_printer.specs.declared.operation_texts.Shown.{Shown}

abbrev pub seen : Shown → printed.Shown
seen s = record { text = string_bytes s.text; form = s.form }
