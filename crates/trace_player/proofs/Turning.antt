-- One turn of the player: a line is taken, the end of its tick published, and its line of output written or held back.
use Rattle.std.proofs.Common.{◌≡◌, ◌++◌, ℕ, Option, None, List, [], ap, sym, ◌∙◌, subst}
use Rattle.std.specs.Io.KnownBytes.{Appends, append_known}
use Rattle.sc_values.specs.Streams.{GrowsInto}
use Rattle.sc_graph.specs.declared.control.Control.{Control}
use Rattle.bytecode.specs.Image.{Image}
use Rattle.trace_lines.specs.Lines.{TakesLine}
use Rattle.trace_player.specs.Channels.{Seen, SinkSeen, TakesAll, TakesPart, Gains}
use Rattle.trace_player.specs.Trace.{Shows, next_number}
use Rattle.trace_player.specs.Published.{PlaysPartTo}
use Rattle.trace_player.specs.Inside.HeldBack.{HoldsBack, sink_with, with_held}
use Rattle.trace_player.proofs.Coming.{PartTo}
use Rattle.trace_player.proofs.HeldBack.{none_behind}
use Rattle.trace_player.proofs.HeldLines.{stopped_holding}
use Rattle.trace_player.proofs.Playing.{Played, one_played}

-- behind the line of number k the configuration is c, and what was written and published is what is seen of the channels
abbrev pub PlayedTo : Image → Seen → Seen → Option (List ℕ) → ℕ → Control → Type 0
PlayedTo image before after now k c = Played image before.source.to_come now k c before.sink.taken after.sink.taken before.rows after.rows

-- the same channels, but for their source
pub played_on : (image : Image) (before at next : Seen) (held : List ℕ) (now : Option (List ℕ)) (k : ℕ) (c : Control) → next.sink ≡ at.sink
    → next.rows ≡ at.rows → PlayedTo image before (with_held at held) now k c → PlayedTo image before (with_held next held) now k c
played_on image before at next held now k c sink rows played =
    subst (λ (s : SinkSeen). Played image before.source.to_come now k c before.sink.taken (append_known s.taken held) before.rows next.rows) (sym sink)
    (subst (λ rs. Played image before.source.to_come now k c before.sink.taken (append_known at.sink.taken held) before.rows rs) (sym rows) played)

-- the line that channels gave next made a tick, whose end was published
pub record Turn (image : Image) (at told : Seen) (now now' : Option (List ℕ)) (k : ℕ) (c d : Control) (line shown : List ℕ) : Type 0 where
  pub takes : TakesLine now now' line
  pub shows : Shows image (next_number k) c line d shown
  pub gains : Gains at.rows told.rows image.program.variables d.variables
  pub sink : told.sink ≡ at.sink

pub turn : (image mine : Image) (at next told : Seen) (now now' : Option (List ℕ)) (k n : ℕ) (c d : Control) (line shown : List ℕ)
    → TakesLine now now' line → n ≡ next_number k → Shows image n c line d shown → mine ≡ image → next.rows ≡ at.rows → next.sink ≡ at.sink
    → told.sink ≡ next.sink → Gains next.rows told.rows mine.program.variables d.variables → Turn image at told now now' k c d line shown
turn image mine at next told now now' k n c d line shown takes number shows same rows sink sink' row =
    record {
      takes = takes;
      shows = subst (λ m. Shows image m c line d shown) number shows;
      gains =
          subst (λ (i : Image). Gains at.rows told.rows i.program.variables d.variables) same
          (subst (λ rs. Gains rs told.rows mine.program.variables d.variables) rows row);
      sink = sink' ∙ sink;
    }

gains_then : (image : Image) (at told after : Seen) (d : Control) → after.rows ≡ told.rows → Gains at.rows told.rows image.program.variables d.variables
    → Gains at.rows after.rows image.program.variables d.variables
gains_then image at told after d rows gains = subst (λ rs. Gains at.rows rs image.program.variables d.variables) (sym rows) gains

-- its line of output was written, or is held back
pub one_turn : (image : Image) (before at told after : Seen) (held held' sent : List ℕ) (now now' : Option (List ℕ)) (k n : ℕ) (c d : Control)
    (line shown : List ℕ)
    → Turn image at told now now' k c d line shown → n ≡ next_number k → PlayedTo image before (with_held at held) now k c → sent ≡ shown
    → TakesAll (sink_with told.sink held) (sink_with after.sink held') sent → after.rows ≡ told.rows
    → PlayedTo image before (with_held after held') now' n d
one_turn image before at told after held held' sent now now' k n c d line shown turn number played given all rows =
    let appends : Appends (append_known at.sink.taken held) (append_known after.sink.taken held') shown =
    subst (λ (s : SinkSeen). Appends (append_known s.taken held) (append_known after.sink.taken held') shown) turn.sink
    (subst (Appends (append_known told.sink.taken held) (append_known after.sink.taken held')) given all.taken) in
    subst (λ m. PlayedTo image before (with_held after held') now' m d) (sym number)
    (one_played image before.source.to_come now now' k c d before.sink.taken (append_known at.sink.taken held) (append_known after.sink.taken held')
    before.rows at.rows after.rows line shown played turn.takes turn.shows appends (gains_then image at told after d rows turn.gains))

-- it could not be written, or not to its end, or what was held back before it
pub cut_turn : (image : Image) (before at told after : Seen) (held held' sent : List ℕ) (now now' : Option (List ℕ)) (k : ℕ) (c d : Control)
    (line shown : List ℕ)
    → Turn image at told now now' k c d line shown → PlayedTo image before (with_held at held) now k c → HoldsBack image before at held → sent ≡ shown
    → TakesPart told.sink after.sink (held ++ sent) → held' ≡ [] → after.rows ≡ told.rows → (at.rows ≡ None → told.rows ≡ None)
    → PartTo image before (with_held after held')
cut_turn image before at told after held held' sent now now' k c d line shown turn played holds given part none rows unwatched =
    let some : GrowsInto at.sink.taken after.sink.taken (held ++ shown) =
    subst (λ (s : SinkSeen). GrowsInto s.taken after.sink.taken (held ++ shown)) turn.sink
    (subst (λ bytes. GrowsInto told.sink.taken after.sink.taken (held ++ bytes)) given part.taken) in
    subst (λ new. PlaysPartTo image before.source.to_come before.sink.taken new before.rows after.rows)
    (sym (ap (append_known after.sink.taken) none ∙ none_behind after.sink.taken))
    (stopped_holding image before.source.to_come now now' k c d before.sink.taken at.sink.taken after.sink.taken held before.rows at.rows after.rows
    line shown played holds.grows turn.takes turn.shows some (λ held_some. rows ∙ unwatched (holds.unwatched held_some))
    (gains_then image at told after d rows turn.gains))
