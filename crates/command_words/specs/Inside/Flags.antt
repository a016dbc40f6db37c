-- A word that is no option with its value in the next word.
use Rattle.std.specs.Prelude.{ℕ, if◌then◌else◌, codes, Option, List}
use Rattle.std.specs.Str.{bytes_eq}
use Rattle.command_words.specs.Said.{Said, explained, in_json, is_option, named, ruled, skipping, strictly, valued, warned}

-- a flag, an option with its value, or a name
abbrev pub flagged : Said → List ℕ → Option Said
flagged s word =
    if bytes_eq word (codes "--strict") then ruled s (strictly s.rules)
    else if bytes_eq word (codes "--skip-bad-lines") then ruled s (skipping s.rules)
    else if bytes_eq word (codes "--explain") then explained s
    else if bytes_eq word (codes "--json") then in_json s
    else if bytes_eq word (codes "--warn") then warned s
    else if is_option word then valued s word
    else named s word
