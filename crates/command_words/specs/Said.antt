-- What the words behind a verb say: its options with their values, and the names of files.
use Rattle.std.specs.Prelude.{ℕ, Bool, true, false, ◌==◌, ◌-◌, ◌||◌, nat_eq, nat_lt, if◌then◌else◌, codes, is_some, Option, Some, None, option_map, List, []}
use Rattle.std.specs.Prelude.{◌∷◌, take, drop}
use Rattle.std.specs.List.{starts_with}
use Rattle.std.specs.Option.{option_and_then}
use Rattle.std.specs.Str.{bytes_eq}
use Rattle.command_words.specs.declared.said.Names.{Names as GivenNames}
use Rattle.command_words.specs.declared.said.Names.TheVariants as given
use Rattle.command_words.specs.declared.said.Next.{Next}
use Rattle.command_words.specs.declared.said.Next.TheVariants as next
use Rattle.command_words.specs.declared.run_rules.RunRules.{RunRules as GivenRules}
use Rattle.command_words.specs.declared.said.Said.{Said as GivenSaid}

-- the names of files: no command has more than two
pub data Names : Type 0 where
  NoName : Names
  One : List ℕ → Names
  Two : (first second : List ℕ) → Names

-- what is asked of a run: that each line names every input, that lines that give no inputs are passed over, in which file
-- it begins, and in which the place is kept where it ends
pub record Rules : Type 0 where
  pub strict : Bool
  pub skips : Bool
  pub from : Option (List ℕ)
  pub save : Option (List ℕ)

-- what was said so far, and for what the next word is taken: for an option or a name, for the value of an option, or,
-- behind a `--`, for a name whatever it begins with
pub record Said : Type 0 where
  pub next : Next
  pub workers : Option ℕ
  pub source : Option (List ℕ)
  pub chart : Option (List ℕ)
  pub explains : Bool
  pub json : Bool
  pub warns : Bool
  pub rules : Rules
  pub names : Names

abbrev pub names_seen : GivenNames → Names
names_seen given.None = NoName
names_seen (given.One name) = One name.now
names_seen (given.Two first second) = Two first.now second.now

abbrev pub rules_seen : GivenRules → Rules
rules_seen r = record {
  strict = r.strict;
  skips = r.skips;
  from = option_map (λ name. name.now) r.from;
  save = option_map (λ name. name.now) r.save;
}

abbrev pub said_seen : GivenSaid → Said
said_seen s = record {
  next = s.next;
  workers = option_map (λ w. w.number) s.workers;
  source = option_map (λ name. name.now) s.source;
  chart = option_map (λ name. name.now) s.chart;
  explains = s.explains;
  json = s.json;
  warns = s.warns;
  rules = rules_seen s.rules;
  names = names_seen s.names;
}

abbrev pub no_rules : Rules
no_rules = record { strict = false; skips = false; from = None; save = None }

abbrev pub start : Said
start = record {
  next = next.Any;
  workers = None;
  source = None;
  chart = None;
  explains = false;
  json = false;
  warns = false;
  rules = no_rules;
  names = NoName;
}

abbrev pub hyphen : ℕ
hyphen = 45

-- an option is a hyphen and more
abbrev pub is_option : List ℕ → Bool
is_option (first ∷ second ∷ rest) = first == hyphen
is_option word = false

-- how many workers a word names: a digit from 1 to 8
abbrev pub workers_named : List ℕ → Option ℕ
workers_named (digit ∷ []) = if nat_lt digit 49 || nat_lt 56 digit then None else Some (digit - 48)
workers_named word = None

-- how many workers `--workers=N` says
abbrev pub workers_in : List ℕ → Option ℕ
workers_in word = if bytes_eq (take 10 word) (codes "--workers=") then workers_named (drop 10 word) else None

-- the source that `--source=FILE` says
abbrev pub source_in : List ℕ → Option (List ℕ)
source_in word = if starts_with nat_eq word (codes "--source=") then Some (drop 9 word) else None

-- the chart that `--chart=FILE` says
abbrev pub chart_in : List ℕ → Option (List ℕ)
chart_in word = if starts_with nat_eq word (codes "--chart=") then Some (drop 8 word) else None

-- the file that `--from=FILE` says
abbrev pub from_in : List ℕ → Option (List ℕ)
from_in word = if starts_with nat_eq word (codes "--from=") then Some (drop 7 word) else None

-- the file that `--save=FILE` says
abbrev pub save_in : List ℕ → Option (List ℕ)
save_in word = if starts_with nat_eq word (codes "--save=") then Some (drop 7 word) else None

abbrev pub with_name : Names → List ℕ → Option Names
with_name NoName name = Some (One name)
with_name (One first) name = Some (Two first name)
with_name (Two first second) name = None

-- an option is said once
abbrev pub with_workers : Said → ℕ → Option Said
with_workers s n = if is_some s.workers then None else Some (record s { next = next.Any; workers = Some n })

abbrev pub with_source : Said → List ℕ → Option Said
with_source s source = if is_some s.source then None else Some (record s { next = next.Any; source = Some source })

abbrev pub with_chart : Said → List ℕ → Option Said
with_chart s chart = if is_some s.chart then None else Some (record s { next = next.Any; chart = Some chart })

abbrev pub explained : Said → Option Said
explained s = if s.explains then None else Some (record s { explains = true })

abbrev pub in_json : Said → Option Said
in_json s = if s.json then None else Some (record s { json = true })

abbrev pub warned : Said → Option Said
warned s = if s.warns then None else Some (record s { warns = true })

abbrev pub strictly : Rules → Option Rules
strictly r = if r.strict then None else Some (record r { strict = true })

abbrev pub skipping : Rules → Option Rules
skipping r = if r.skips then None else Some (record r { skips = true })

abbrev pub begun_in : Rules → List ℕ → Option Rules
begun_in r name = if is_some r.from then None else Some (record r { from = Some name })

abbrev pub kept_in : Rules → List ℕ → Option Rules
kept_in r name = if is_some r.save then None else Some (record r { save = Some name })

abbrev pub ruled : Said → Option Rules → Option Said
ruled s rules = option_map (λ r. record s { next = next.Any; rules = r }) rules

abbrev pub named : Said → List ℕ → Option Said
named s name = option_map (λ names. record s { names = names }) (with_name s.names name)

-- an option with its value in one word: a source, else a chart, else where a run begins, else where it is kept; or a number
-- of workers, else a file
abbrev pub by_begin : Said → List ℕ → Option (List ℕ) → Option Said
by_begin s word (Some name) = ruled s (begun_in s.rules name)
by_begin s word None = option_and_then (λ name. ruled s (kept_in s.rules name)) (save_in word)

abbrev pub by_rule : Said → List ℕ → Option Said
by_rule s word = by_begin s word (from_in word)

abbrev pub by_chart : Said → List ℕ → Option (List ℕ) → Option Said
by_chart s word (Some chart) = with_chart s chart
by_chart s word None = by_rule s word

abbrev pub by_source : Said → List ℕ → Option (List ℕ) → Option Said
by_source s word (Some source) = with_source s source
by_source s word None = by_chart s word (chart_in word)

abbrev pub by_file : Said → List ℕ → Option Said
by_file s word = by_source s word (source_in word)

abbrev pub by_value : Said → List ℕ → Option ℕ → Option Said
by_value s word (Some n) = with_workers s n
by_value s word None = by_file s word

abbrev pub valued : Said → List ℕ → Option Said
valued s word = by_value s word (workers_in word)

-- a word that may be an option
abbrev pub opened : Said → List ℕ → Option Said
opened s word =
    if bytes_eq word (codes "--") then Some (record s { next = next.Name })
    else if bytes_eq word (codes "--workers") then Some (record s { next = next.Number })
    else if bytes_eq word (codes "--source") then Some (record s { next = next.Source })
    else if bytes_eq word (codes "--chart") then Some (record s { next = next.Chart })
    else if bytes_eq word (codes "--from") then Some (record s { next = next.From })
    else if bytes_eq word (codes "--save") then Some (record s { next = next.Save })
    else if bytes_eq word (codes "--strict") then ruled s (strictly s.rules)
    else if bytes_eq word (codes "--skip-bad-lines") then ruled s (skipping s.rules)
    else if bytes_eq word (codes "--explain") then explained s
    else if bytes_eq word (codes "--json") then in_json s
    else if bytes_eq word (codes "--warn") then warned s
    else if is_option word then valued s word
    else named s word

abbrev pub taken_for : Next → Said → List ℕ → Option Said
taken_for next.Any s word = opened s word
taken_for next.Number s word = option_and_then (with_workers s) (workers_named word)
taken_for next.Source s word = if is_option word then None else with_source s word
taken_for next.Chart s word = if is_option word then None else with_chart s word
taken_for next.From s word = if is_option word then None else ruled s (begun_in s.rules word)
taken_for next.Save s word = if is_option word then None else ruled s (kept_in s.rules word)
taken_for next.Name s word = named s word

-- one more word
abbrev pub step : Said → List ℕ → Option Said
step s word = taken_for s.next s word

-- no value is missing
abbrev pub ended_at : Next → Said → Option Said
ended_at next.Any s = Some s
ended_at next.Name s = Some s
ended_at other s = None

abbrev pub ended : Said → Option Said
ended s = ended_at s.next s

-- the words to the last one
abbrev pub read_on : Said → List (List ℕ) → Option Said
read_on s [] = ended s
read_on s (word ∷ words) = option_and_then (λ t. read_on t words) (step s word)

abbrev pub said_by : List (List ℕ) → Option Said
said_by words = read_on start words
