-- A text that may be there, as the definition sees it.
use Rattle.std.specs.Prelude.{ℕ, Option, List, String, option_map, string_bytes}
use Rattle.std.specs.declared.alloc.Global.{Global}

abbrev pub text_seen : Option (String Global) → Option (List ℕ)
text_seen text = option_map string_bytes text
