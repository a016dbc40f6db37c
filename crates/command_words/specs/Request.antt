-- What the words of a command ask for.
use Rattle.std.specs.Prelude.{ℕ, ◌≡◌, Bool, true, false, not, ◌&&◌, ◌||◌, is_some, option_map, if◌then◌else◌, codes, map, string_bytes}
use Rattle.std.specs.Prelude.{unwrap_or, Option, Some, None, List, [], ◌∷◌}
use Rattle.std.specs.Option.{option_and_then}
use Rattle.std.specs.Str.{bytes_eq}
use Rattle.command_words.specs.Said.{Names, NoName, One, Two, Rules, Said, is_option, rules_seen, said_by}
use Rattle.command_words.specs.declared.arguments.Request.{Request as Words}
use Rattle.command_words.specs.declared.arguments.Request.TheVariants as words
use Rattle.command_words.specs.declared.arguments.Wanted.{Wanted as WantedWords}
use Rattle.command_words.specs.declared.arguments.Wanted.TheVariants as wanted

-- a text that is written to the output, with the name of its file or of two, or the bytes of an image
pub data Wanted : Type 0 where
  Summary : (name : List ℕ) → Wanted
  Core : (name : List ℕ) → Wanted
  Reduced : (name : List ℕ) → Wanted
  Nodes : (name : List ℕ) → Wanted
  Places : (name source : List ℕ) → Wanted
  Json : (name : List ℕ) → Wanted
  JsonWithStates : (name chart : List ℕ) → Wanted
  Drawing : (name : List ℕ) → Wanted
  Migrated : (from : List ℕ) → Wanted

-- a request, with the name of a file or of two, or of several; a run by so many workers, or by rules
pub data Request : Type 0 where
  Write : Wanted → Request
  Run : (name : List ℕ) (workers : ℕ) → Request
  RunWithStates : (name chart : List ℕ) → Request
  RunBy : (name : List ℕ) (rules : Rules) → Request
  Compile : (from to : List ℕ) → Request
  WriteCompiled : (from : List ℕ) → Request
  Print : (name : List ℕ) → Request
  Migrate : (from to : List ℕ) → Request
  Explain : (name : List ℕ) → Request
  Test : (writes : Bool) (names : List (List ℕ)) → Request
  Simulate : (name : List ℕ) → Request

-- a request whose name is text
abbrev pub wanted_seen : WantedWords → Wanted
wanted_seen (wanted.Summary name) = Summary name.now
wanted_seen (wanted.Core name) = Core name.now
wanted_seen (wanted.Reduced name) = Reduced name.now
wanted_seen (wanted.Nodes name) = Nodes name.now
wanted_seen (wanted.Places name source) = Places name.now source.now
wanted_seen (wanted.Json name) = Json name.now
wanted_seen (wanted.JsonWithStates name chart) = JsonWithStates name.now chart.now
wanted_seen (wanted.Drawing name) = Drawing name.now
wanted_seen (wanted.Migrated from) = Migrated from.now

abbrev pub seen : Words → Request
seen (words.Write asked) = Write (wanted_seen asked)
seen (words.Run name workers) = Run name.now workers.number
seen (words.RunWithStates name chart) = RunWithStates name.now chart.now
seen (words.RunBy name rules) = RunBy name.now (rules_seen rules)
seen (words.Compile from to) = Compile from.now to.now
seen (words.WriteCompiled from) = WriteCompiled from.now
seen (words.Print name) = Print name.now
seen (words.Migrate from to) = Migrate from.now to.now
seen (words.Explain name) = Explain name.now
seen (words.Test writes names) = Test writes (map string_bytes names.now)
seen (words.Simulate name) = Simulate name.now

-- how many workers a run has where it does not say
abbrev pub usual_workers : ℕ
usual_workers = 2

-- a run of one file, by workers; or one that tells active states too, of the chart in another file
abbrev pub run_of : Option ℕ → Option (List ℕ) → Option (List ℕ) → Names → Option Request
run_of workers None None (One name) = Some (Run name (unwrap_or workers usual_workers))
run_of None None (Some chart) (One name) = Some (RunWithStates name chart)
run_of workers source chart names = None

-- a run of one file by rules
abbrev pub ruled_of : Option ℕ → Option (List ℕ) → Option (List ℕ) → Rules → Names → Option Request
ruled_of None None None rules (One name) = Some (RunBy name rules)
ruled_of workers source chart rules names = None

-- a listing of one file, with a source or without
abbrev pub list_of : Option ℕ → Option (List ℕ) → Option (List ℕ) → Names → Option Request
list_of None None None (One name) = Some (Write (Nodes name))
list_of None (Some source) None (One name) = Some (Write (Places name source))
list_of workers source chart names = None

-- a line of JSON of one file, with the states of a chart or without
abbrev pub json_of : Option ℕ → Option (List ℕ) → Option (List ℕ) → Names → Option Request
json_of None None None (One name) = Some (Write (Json name))
json_of None None (Some chart) (One name) = Some (Write (JsonWithStates name chart))
json_of workers source chart names = None

-- where an image goes: to the file of a name, or, of the name `-`, to the output
abbrev pub compile_to : List ℕ → List ℕ → Request
compile_to from to = if bytes_eq to (codes "-") then WriteCompiled from else Compile from to

abbrev pub migrate_to : List ℕ → List ℕ → Request
migrate_to from to = if bytes_eq to (codes "-") then Write (Migrated from) else Migrate from to

-- what another verb asks for with these names
abbrev pub asked : List ℕ → Names → Option Request
asked verb (One name) =
    if bytes_eq verb (codes "check") then Some (Write (Summary name))
    else if bytes_eq verb (codes "core") then Some (Write (Core name))
    else if bytes_eq verb (codes "reduce") then Some (Write (Reduced name))
    else if bytes_eq verb (codes "dot") then Some (Write (Drawing name))
    else if bytes_eq verb (codes "scl") then Some (Print name)
    else if bytes_eq verb (codes "explain") then Some (Explain name)
    else if bytes_eq verb (codes "simulate") then Some (Simulate name)
    else None
asked verb (Two from to) =
    if bytes_eq verb (codes "compile") then Some (compile_to from to)
    else if bytes_eq verb (codes "migrate") then Some (migrate_to from to)
    else None
asked verb NoName = None

-- which has no option of its own
abbrev pub asked_plainly : List ℕ → Option ℕ → Option (List ℕ) → Option (List ℕ) → Names → Option Request
asked_plainly verb None None None names = asked verb names
asked_plainly verb workers source chart names = None

-- what a verb asks for in JSON: a listing alone is had so
abbrev pub json_by : List ℕ → Said → Option Request
json_by verb s = if bytes_eq verb (codes "list") then json_of s.workers s.source s.chart s.names else None

-- what it asks for in plain text
abbrev pub text_by : List ℕ → Said → Option Request
text_by verb s =
    if bytes_eq verb (codes "run") then run_of s.workers s.source s.chart s.names
    else if bytes_eq verb (codes "list") then list_of s.workers s.source s.chart s.names
    else asked_plainly verb s.workers s.source s.chart s.names

-- rules are said
abbrev pub has_rules : Rules → Bool
has_rules r = r.strict || r.skips || is_some r.from || is_some r.save

-- what it asks for by rules: a run alone has some
abbrev pub ruled_by : List ℕ → Said → Option Request
ruled_by verb s =
    if s.json then None
    else if bytes_eq verb (codes "run") then ruled_of s.workers s.source s.chart s.rules s.names
    else None

-- what a verb asks for with what is said behind it; a compilation alone is warned of
abbrev pub request_by : List ℕ → Said → Option Request
request_by verb s =
    if s.warns && not (bytes_eq verb (codes "compile")) then None
    else if has_rules s.rules then ruled_by verb s
    else if s.json then json_by verb s
    else text_by verb s

-- tests of controllers are asked for by names, of which there is one at least
abbrev pub are_names : List (List ℕ) → Bool
are_names [] = true
are_names (word ∷ words) = not (is_option word) && are_names words

abbrev pub tests_of : Bool → List (List ℕ) → Option Request
tests_of writes [] = None
tests_of writes (name ∷ names) = if are_names (name ∷ names) then Some (Test writes (name ∷ names)) else None

-- before the names it may be said that traces that are missing are written
abbrev pub test_of : List (List ℕ) → Option Request
test_of [] = None
test_of (word ∷ words) = if bytes_eq word (codes "--write") then tests_of true words else tests_of false (word ∷ words)

-- the request of the words behind the program's name
abbrev pub request_of : List (List ℕ) → Option Request
request_of [] = None
request_of (verb ∷ words) =
    if bytes_eq verb (codes "test") then test_of words else option_and_then (request_by verb) (said_by words)

-- whether the words behind the program's name ask for words behind a fault
abbrev pub explains : List (List ℕ) → Bool
explains [] = false
explains (verb ∷ words) =
    if bytes_eq verb (codes "test") then false else unwrap_or (option_map (λ s. s.explains) (said_by words)) false

-- whether they ask for warnings
abbrev pub warns : List (List ℕ) → Bool
warns [] = false
warns (verb ∷ words) =
    if bytes_eq verb (codes "test") then false else unwrap_or (option_map (λ s. s.warns) (said_by words)) false

-- a run is asked for, by lines of ticks or by hand, which alone reads the input
abbrev pub IsRun : Option Request → Type 0
IsRun (Some (Run name workers)) = Unit {0}
IsRun (Some (RunWithStates name chart)) = Unit {0}
IsRun (Some (RunBy name rules)) = Unit {0}
IsRun (Some (Simulate name)) = Unit {0}
IsRun request = ⊥

-- files are to be written: an image, by compiling or by migration, the place where a run ends, or traces that are
-- missing
abbrev pub WritesFiles : Option Request → Type 0
WritesFiles (Some (Compile from to)) = Unit {0}
WritesFiles (Some (Migrate from to)) = Unit {0}
WritesFiles (Some (RunBy name rules)) = is_some rules.save ≡ true
WritesFiles (Some (Test writes names)) = writes ≡ true
WritesFiles request = ⊥
