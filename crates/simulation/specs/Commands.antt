-- What a line says, what it does, and what is told of that. What is told beyond this are words for people.
use Rattle.std.specs.Prelude.{ℕ, zero, suc, ◌≡◌, ◌==◌, ◌⊎◌, Bool, false, Option, Some, None, List, [], ◌∷◌, ◌++◌, codes, length, if◌then◌else◌}
use Rattle.std.specs.Fmt.{decimal}
use Rattle.std.specs.Str.{IsUtf8, bytes_eq, trim}
use Rattle.bytecode.specs.Image.{Image}
use Rattle.trace_player.specs.Trace.{GivesNoInputs, IsNoObject}
use Rattle.simulation.specs.declared.words.Command.{Command}
use Rattle.simulation.specs.declared.words.Command.TheVariants as command
use Rattle.simulation.specs.History.{History, Plays, undone, begun_anew, lines_text}
use Rattle.simulation.specs.Words.{object_of}

-- a JSON object begins with a brace
abbrev pub is_object : List ℕ → Bool
is_object [] = false
is_object (byte ∷ bytes) = byte == 123

-- what a word says; what is none of these names inputs
abbrev pub word_said : List ℕ → Command
word_said text =
    if bytes_eq text (codes "undo") then command.Undo
    else if bytes_eq text (codes "reset") then command.Reset
    else if bytes_eq text (codes "ticks") then command.Ticks
    else if bytes_eq text (codes "help") then command.Help
    else if bytes_eq text (codes "quit") then command.Quit
    else command.Words

-- what a text says
abbrev pub said : List ℕ → Command
said [] = command.Nothing
said (byte ∷ bytes) = if is_object (byte ∷ bytes) then command.Object else word_said (byte ∷ bytes)

-- ---- what a line does, and what is told of it

-- the number of the last tick
abbrev pub stand_line : ℕ → List ℕ
stand_line zero = codes "start\n"
stand_line (suc n) = codes "tick " ++ (decimal (suc n) ++ codes "\n")

-- where a history stands is told: first the number of its last tick
abbrev pub TellsStand : History → List ℕ → Type 0
TellsStand h told = (more : List ℕ) × (told ≡ stand_line (length h.ticks) ++ more)

-- why the tick of a line is not played: it is no JSON object, or gives no inputs
abbrev pub GivesNoTick : Image → List ℕ → Type 0
GivesNoTick image line = IsNoObject line ⊎ GivesNoInputs image.program line

-- the line was played, where it can be; else nothing has changed
abbrev pub Tries : History → History → List ℕ → List ℕ → Type 0
Tries old new line told = (Plays old new line × TellsStand new told) ⊎ ((new ≡ old) × GivesNoTick old.image line)

-- what a text does that says this, and what is told of it: nothing of the end
abbrev pub Does : Command → List ℕ → History → History → Option (List ℕ) → Type 0
Does command.Undo text old new (Some told) = (new ≡ undone old) × TellsStand new told
Does command.Reset text old new (Some told) = (new ≡ begun_anew old) × TellsStand new told
Does command.Ticks text old new (Some told) = (new ≡ old) × (told ≡ lines_text old.ticks)
Does command.Help text old new (Some told) = new ≡ old
Does command.Nothing text old new (Some told) = Tries old new (codes "{}") told
Does command.Object text old new (Some told) = Tries old new text told
Does command.Words text old new (Some told) = Tries old new (object_of text) told
Does command.Quit text old new None = new ≡ old
Does other text old new told = ⊥

-- of a line that is no text something is told, and nothing has changed
abbrev pub PassesOver : History → History → Option (List ℕ) → Type 0
PassesOver old new (Some told) = new ≡ old
PassesOver old new None = ⊥

-- what a line does: what the text says that it is, without the blanks around it
pub record Answers (line : List ℕ) (old new : History) (told : Option (List ℕ)) : Type 0 where
  pub text : IsUtf8 line → Does (said (trim line)) (trim line) old new told
  pub no_text : ¬ IsUtf8 line → PassesOver old new told

-- ---- where memory is refused, and nothing can be told

-- the line was played, or nothing has changed
abbrev pub MayPlay : History → History → List ℕ → Type 0
MayPlay old new line = (new ≡ old) ⊎ Plays old new line

-- what a text does that says this was done, or nothing has changed
abbrev pub MayDo : Command → List ℕ → History → History → Type 0
MayDo command.Undo text old new = new ≡ undone old
MayDo command.Reset text old new = new ≡ begun_anew old
MayDo command.Nothing text old new = MayPlay old new (codes "{}")
MayDo command.Object text old new = MayPlay old new text
MayDo command.Words text old new = MayPlay old new (object_of text)
MayDo other text old new = new ≡ old

pub record IsUntold (line : List ℕ) (old new : History) : Type 0 where
  pub text : IsUtf8 line → MayDo (said (trim line)) (trim line) old new
  pub no_text : ¬ IsUtf8 line → new ≡ old
