-- What a text of tokens is without its modules. They stand one behind the other, before the regions, and each may use those
-- before it. `end` is the length of the text.
use Rattle.std.specs.Prelude.{ℕ, zero, suc, ◌+◌, nat_eq, nat_lt, length, Bool, true, false, ◌&&◌, Option, Some, None, List, [], ◌∷◌, ◌++◌, map, codes}
use Rattle.std.specs.Prelude.{if◌then◌else◌, take, drop}
use Rattle.std.specs.Option.{is_some}
use Rattle.grammar.specs.Read.{read}
use Rattle.sc_text.specs.declared.sign.Sign.TheVariants as sign
use Rattle.sc_text.specs.declared.token.Token.{Token}
use Rattle.sc_text.specs.declared.token.TokenKind.{TokenKind}
use Rattle.sc_text.specs.declared.token.TokenKind.TheVariants as token
use Rattle.sc_text.specs.declared.read_fault.FaultKind.TheVariants as broken
use Rattle.sc_text.specs.Flaws.{is_among}
use Rattle.extended_reader.specs.declared.modules.parts.ParameterRole.{ParameterRole}
use Rattle.extended_reader.specs.declared.modules.parts.ParameterRole.TheVariants as role
use Rattle.extended_reader.specs.declared.modules.parts.Parameter.{Parameter}
use Rattle.extended_reader.specs.declared.modules.parts.ModuleHead.{ModuleHead}
use Rattle.extended_reader.specs.declared.modules.parts.Module.{Module}
use Rattle.extended_reader.specs.declared.modules.parts.Known.{Known}
use Rattle.extended_reader.specs.Answer.{Answer, Good, Bad, next, read_as}
use Rattle.extended_reader.specs.Words.{begins, is_end, is_region, is_closing}
use Rattle.extended_reader.specs.Phrases.{opened}
use Rattle.extended_reader.specs.Known.{known_in, known_parameter}
use Rattle.extended_reader.specs.Well.{well_text}
use Rattle.extended_reader.specs.Uses.{Made, used, stands_for, module_named, depth_behind}

-- a chart may have so many modules
abbrev pub module_limit : ℕ
module_limit = 64

abbrev pub semicolon : TokenKind
semicolon = token.Sign sign.Semicolon

-- ---- one module

abbrev pub is_other : ParameterRole → Bool
is_other role.Other = true
is_other r = false

-- a parameter behind others of these names: its first word is none but `input`, `output` and `const`, and its name another
abbrev pub right_parameter : List (List ℕ) → Parameter → Answer (Unit {0})
right_parameter before p =
    if is_other p.role then Bad broken.Grammar p.at
    else (if is_among before p.named.name then Bad broken.Repeated p.named.at else Good tt)

abbrev pub right_parameters : List (List ℕ) → List Parameter → Answer (Unit {0})
right_parameters before [] = Good tt
right_parameters before (p ∷ parameters) =
    next (right_parameter before p) (λ _. right_parameters (before ++ p.named.name ∷ []) parameters)

-- a module of another name than those before it, of which there are not too many
abbrev pub right_head : List Module → ModuleHead → Answer (Unit {0})
right_head modules h =
    if is_some (module_named modules h.named.name) then Bad broken.Repeated h.named.at
    else (if nat_lt (length modules) module_limit then right_parameters [] h.parameters else Bad broken.Limit h.named.at)

-- where the brace stands that closes the text, behind so many tokens, where so many more are open
abbrev pub closing : (at depth : ℕ) → List Token → Option ℕ
closing at depth [] = None
closing at depth (t ∷ text) =
    if is_closing t.kind && nat_eq depth 0 then Some at else closing (at + 1) (depth_behind depth t.kind) text

-- the items of a body are the tokens before its first region
abbrev pub item_count : List Token → ℕ
item_count [] = 0
item_count (t ∷ text) = if is_region t.kind then 0 else suc (item_count text)

-- the module of a head and what its body is made into
abbrev pub module_with : ModuleHead → Made → Module
module_with h made =
    record {
      named = h.named;
      parameters = h.parameters;
      items = take (item_count made.1) made.1 ++ made.0;
      regions = drop (item_count made.1) made.1;
    }

-- what is known in the body of a module
abbrev pub known_of : ModuleHead → List Token → List Known
known_of h body = map known_parameter h.parameters ++ known_in semicolon semicolon body

abbrev pub module_of : (end : ℕ) → List Module → ModuleHead → List Token → Answer Module
module_of end modules h body =
    next (used (stands_for modules (known_of h body) (Some h.named.name)) end (length body) 0 true body) (λ made. Good (module_with h made))

-- the module of a head, by the text behind that, and the text behind the module
abbrev pub closed : (end : ℕ) → List Module → ModuleHead → List Token → Option ℕ → Answer (Module × List Token)
closed end modules h text None = Bad broken.Grammar end
closed end modules h text (Some n) = next (module_of end modules h (take n text)) (λ m. Good (m, drop (n + 1) text))

abbrev pub next_module : (end : ℕ) → List Module → List Token → Answer (Module × List Token)
next_module end modules text =
    next (read_as end (read opened (drop 1 text))) (λ h.
    next (right_head modules h.0) (λ _. closed end modules h.0 h.1 (closing 0 0 h.1)))

-- ---- all modules, and the text

-- the modules that stand at the front of a text behind these, so many at most, and the text behind them
abbrev pub all_modules : (end left : ℕ) → List Module → List Token → Answer (List Module × List Token)
all_modules end zero modules text = Good (modules, text)
all_modules end (suc left) modules text =
    if begins (codes "module") text
    then next (next_module end modules text) (λ m. all_modules end left (modules ++ m.0 ∷ []) m.1)
    else Good (modules, text)

-- how many tokens stand before the first module, or in the text where there is none before its regions. At its front one may
-- begin, or none
abbrev pub module_place : (may_begin : Bool) → List Token → ℕ
module_place may_begin [] = 0
module_place may_begin (t ∷ text) =
    if may_begin && begins (codes "module") (t ∷ text) then 0
    else suc (if is_region t.kind then length text else module_place (is_end t.kind) text)

-- the text by what stands before its modules, and what stands there and behind
abbrev pub put_together : (end : ℕ) → (front text : List Token) → Answer (List Token)
put_together end front text =
    next (all_modules end (length text) [] text) (λ all.
    next (used (stands_for all.0 (known_in semicolon semicolon front) None) end (length all.1) 0 true all.1) (λ made.
    well_text end (front ++ (made.0 ++ made.1))))

-- a text without modules is as it is
abbrev pub plain_text : (end : ℕ) → List Token → Answer (List Token)
plain_text end text =
    if nat_eq (module_place false text) (length text) then Good text
    else put_together end (take (module_place false text) text) (drop (module_place false text) text)
