-- What a use of a module stands for: its items, and its regions, with names replaced. A parameter becomes its argument. What
-- the module declares itself, and each of its regions, is called by the name of the use, `_` and its own name. A token
-- stands where it stands in the module.
use Rattle.std.specs.Prelude.{ℕ, zero, suc, ◌-◌, ◌+◌, nat_eq, nat_le, length, Bool, true, false, ◌&&◌, Option, Some, None, List, [], ◌∷◌, ◌++◌, map, codes}
use Rattle.std.specs.Prelude.{if◌then◌else◌, drop}
use Rattle.std.specs.Str.{bytes_eq}
use Rattle.grammar.specs.Read.{read}
use Rattle.sc_values.specs.Name.{is_name}
use Rattle.sc_text.specs.declared.sign.Sign.TheVariants as sign
use Rattle.sc_text.specs.declared.token.Token.{Token}
use Rattle.sc_text.specs.declared.token.TokenKind.{TokenKind}
use Rattle.sc_text.specs.declared.token.TokenKind.TheVariants as token
use Rattle.sc_text.specs.declared.read_fault.FaultKind.TheVariants as broken
use Rattle.sc_text.specs.declared.drafts.parts.Named.{Named}
use Rattle.extended_reader.specs.declared.modules.parts.Parameter.{Parameter}
use Rattle.extended_reader.specs.declared.modules.parts.ModuleUse.{ModuleUse}
use Rattle.extended_reader.specs.declared.modules.parts.Module.{Module}
use Rattle.extended_reader.specs.declared.modules.parts.Replacement.{Replacement}
use Rattle.extended_reader.specs.declared.modules.parts.Known.{Known}
use Rattle.extended_reader.specs.Answer.{Answer, Good, Bad, next, read_as}
use Rattle.extended_reader.specs.Words.{is_word, begins, is_end, is_region, is_declaring}
use Rattle.extended_reader.specs.Phrases.{using}
use Rattle.extended_reader.specs.Known.{fitting}

-- ---- names that are replaced

-- as many tokens as the uses in one module, or in the chart, may make
abbrev pub made_limit : ℕ
made_limit = 65536

abbrev pub names_in : TokenKind → List (List ℕ)
names_in (token.Name n) = n ∷ []
names_in k = []

-- the names that items declare, behind this token
abbrev pub own_names : TokenKind → List Token → List (List ℕ)
own_names by [] = []
own_names by (t ∷ text) = (if is_declaring by then names_in t.kind else []) ++ own_names t.kind text

-- so many braces are open behind a token
abbrev pub depth_behind : ℕ → TokenKind → ℕ
depth_behind depth (token.Sign sign.OpenBrace) = suc depth
depth_behind depth (token.Sign sign.CloseBrace) = depth - 1
depth_behind depth k = depth

-- a name stands there that is a region's, of those of the module itself
abbrev pub is_titled : (is_behind : Bool) → (depth : ℕ) → Bool
is_titled is_behind depth = is_behind && nat_eq depth 0

-- the names of the regions
abbrev pub region_names : (is_behind : Bool) → (depth : ℕ) → List Token → List (List ℕ)
region_names is_behind depth [] = []
region_names is_behind depth (t ∷ text) =
    (if is_titled is_behind depth then names_in t.kind else []) ++ region_names (is_region t.kind) (depth_behind depth t.kind) text

-- the name of a use, `_` and a name
abbrev pub joined_name : List ℕ → List ℕ → List ℕ
joined_name usage name = usage ++ (codes "_" ++ name)

abbrev pub fresh_one : Named → List ℕ → Answer Replacement
fresh_one usage name =
    if is_name (joined_name usage.name name)
    then Good (record { name = name; by = token.Name (joined_name usage.name name) })
    else Bad broken.Limit usage.at

-- the names of a use for these; or its own is too long
abbrev pub all_fresh : Named → List (List ℕ) → Answer (List Replacement)
all_fresh usage [] = Good []
all_fresh usage (n ∷ names) = next (fresh_one usage n) (λ r. next (all_fresh usage names) (λ more. Good (r ∷ more)))

-- the parameters, and the arguments in place of them
abbrev pub bound : List Parameter → List Token → List Replacement
bound (p ∷ parameters) (t ∷ arguments) = record { name = p.named.name; by = t.kind } ∷ bound parameters arguments
bound parameters arguments = []

-- what stands in place of a name: what the first of these says, or itself
abbrev pub by_first : Bool → TokenKind → TokenKind → TokenKind
by_first true k later = k
by_first false k later = later

abbrev pub in_place_of : List Replacement → List ℕ → TokenKind
in_place_of [] name = token.Name name
in_place_of (r ∷ table) name = by_first (bytes_eq r.name name) r.by (in_place_of table name)

abbrev pub replaced : List Replacement → TokenKind → TokenKind
replaced table (token.Name n) = in_place_of table n
replaced table k = k

abbrev pub renamed_token : List Replacement → Token → Token
renamed_token table t = record { kind = replaced table t.kind; at = t.at }

-- by `names` all but the names of the regions, and these by `titles`
abbrev pub renamed_regions : (names titles : List Replacement) → (is_behind : Bool) → (depth : ℕ) → List Token → List Token
renamed_regions names titles is_behind depth [] = []
renamed_regions names titles is_behind depth (t ∷ text) =
    renamed_token (if is_titled is_behind depth then titles else names) t
    ∷ renamed_regions names titles (is_region t.kind) (depth_behind depth t.kind) text

-- ---- one use

-- items, and regions or a text with regions
abbrev pub Made : Type 0
Made = List Token × List Token

abbrev pub made_with : Module → List Replacement → List Replacement → Made
made_with m names titles = (map (renamed_token names) m.items, renamed_regions names titles false 0 m.regions)

-- what a use of a module is made into
abbrev pub made_of : ModuleUse → Module → Answer Made
made_of u m =
    next (all_fresh u.named (own_names (token.Sign sign.Semicolon) m.items)) (λ own.
    next (all_fresh u.named (region_names false 0 m.regions)) (λ titles.
    Good (made_with m (bound m.parameters u.arguments ++ own) titles)))

abbrev pub first_or_module : Bool → Module → Option Module → Option Module
first_or_module true m later = Some m
first_or_module false m later = later

abbrev pub module_named : List Module → List ℕ → Option Module
module_named [] name = None
module_named (m ∷ modules) name = first_or_module (bytes_eq m.named.name name) m (module_named modules name)

-- the use has an argument for each parameter, and each fits
abbrev pub checked : List Known → ModuleUse → Module → Answer (Unit {0})
checked known u m =
    if nat_eq (length m.parameters) (length u.arguments) then fitting known m.parameters u.arguments else Bad broken.Rule u.called.at

abbrev pub made_if : List Known → ModuleUse → Option Module → Answer Made
made_if known u None = Bad broken.Unknown u.called.at
made_if known u (Some m) = next (checked known u m) (λ _. made_of u m)

-- what is used within a module of this name, or within none
abbrev pub is_own : Option (List ℕ) → List ℕ → Bool
is_own None name = false
is_own (Some own) name = bytes_eq own name

-- What a use stands for where these modules stand before it, these names are declared, and all lies in this module, or in
-- none. No module uses itself
abbrev pub stands_for : List Module → List Known → Option (List ℕ) → ModuleUse → Answer Made
stands_for modules known own u =
    if is_word (codes "as") (token.Name u.word.name)
    then (if is_own own u.called.name then Bad broken.Rule u.called.at else made_if known u (module_named modules u.called.name))
    else Bad broken.Grammar u.word.at

-- ---- all uses in a text

abbrev pub Stand : Type 0
Stand = ModuleUse → Answer Made

abbrev pub size_of : Made → ℕ
size_of m = length m.0 + length m.1

-- a use at the front of a text, behind so many tokens that uses made, and the text behind it
abbrev pub next_use : Stand → (end made : ℕ) → List Token → Answer (Made × List Token)
next_use stand end made text =
    next (read_as end (read using (drop 1 text))) (λ u.
    next (stand u.0) (λ m.
    if nat_le (made + size_of m) made_limit then Good (m, u.1) else Bad broken.Limit u.0.called.at))

abbrev pub in_front : Made → Answer Made → Answer Made
in_front m a = next a (λ r. Good (m.0 ++ r.0, m.1 ++ r.1))

-- The items that uses in a text stand for, and the text with regions where uses stood: of so many of its statements and
-- tokens. At its front a use may begin, or none
abbrev pub used : Stand → (end left made : ℕ) → (may_begin : Bool) → List Token → Answer Made
used stand end zero made may_begin text = Good ([], [])
used stand end (suc left) made may_begin [] = Good ([], [])
used stand end (suc left) made may_begin (t ∷ text) =
    if may_begin && begins (codes "use") (t ∷ text)
    then next (next_use stand end made (t ∷ text)) (λ u. in_front u.0 (used stand end left (made + size_of u.0) true u.1))
    else in_front ([], t ∷ []) (used stand end left made (is_end t.kind) text)
