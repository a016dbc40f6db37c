-- Where a player under rules stands, and what a line makes of it.
use Rattle.std.specs.Prelude.{ℕ, ◌≡◌, List}
use Rattle.bytecode.specs.Image.{Image}
use Rattle.trace_player.specs.Trace.{End, next_number}
use Rattle.ruled_runs.specs.Trace.{EndsAt, Makes}
use Rattle.ruled_runs.specs.declared.traces.place.RunPlace.{RunPlace}
use Rattle.ruled_runs.specs.declared.traces.rules.Rules.{Rules}

-- what is seen of such a player between two lines: the rules, the image and the place
pub record RuledSeen : Type 0 where
  pub rules : Rules
  pub image : Image
  pub place : RunPlace

-- the next line leads to another place, and this is shown of it
pub record Leads (at : RuledSeen) (line : List ℕ) (to : RuledSeen) (shown : List ℕ) : Type 0 where
  pub makes : Makes at.rules at.image at.place line to.place shown
  pub rules : to.rules ≡ at.rules
  pub image : to.image ≡ at.image

-- the next line ends a trace
abbrev pub Ends : RuledSeen → List ℕ → End → Type 0
Ends at line end = EndsAt at.rules at.image.program (next_number at.place.lines) line end
