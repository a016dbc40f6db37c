-- What played lines are, as a trace that tells more.
use Rattle.std.proofs.Common.{◌≡◌, ◌+◌, ◌≤◌, ℕ, min, Option, Result, Ok, Err, List, [], ◌∷◌, ◌++◌, length, refl, ap, subst, arith}
use Rattle.sc_graph.specs.Tick.{initial}
use Rattle.bytecode.specs.Image.{Image}
use Rattle.trace_player.specs.declared.player.PlayFault.{PlayFault}
use Rattle.trace_player.specs.declared.player.PlayFault.TheVariants as play_fault
use Rattle.trace_player.specs.Channels.{Seen}
use Rattle.trace_player.specs.Trace.{End, Good, NoInputs, NoObject, greatest, next_number}
use Rattle.trace_player.specs.Played as played
use Rattle.trace_player.specs.Came as played_came
use Rattle.trace_player.proofs.LineComing.{none_came}
use Rattle.trace_player.proofs.LineFailures.{none_failed, failed}
use Rattle.state_traces.specs.Trace.{Words, Goes, Trace, Plays, PlaysFirst, Leaves}
use Rattle.state_traces.specs.Inside.Playing.{PlaysWhole, CameTo}
use Rattle.state_traces.specs.Inside.Telling.{TellingSeen, Tells, Ends}

-- with these words a player of this image stands before the first line
pub record IsFirst (words : Words) (image : Image) (at : TellingSeen) : Type 0 where
  pub words_are : at.words ≡ words
  pub image_is : at.image ≡ image
  pub ticks : at.ticks ≡ 0
  pub control : at.control ≡ initial image.program

module _ {A : Type 0} (stands : A → TellingSeen) where
  abbrev makes : played.Making A
  makes p line q shown = Tells (stands p) line (stands q) shown

  abbrev ends : played.Ending A
  ends p line end = Ends (stands p) line end

  -- from a player on
  abbrev GoesFrom : TellingSeen → List (List ℕ) → List (List ℕ) → End → Type 0
  GoesFrom at lines out end = Goes at.words at.image (next_number at.ticks) at.control lines out end

  goes_by : (words : Words) (image : Image) (k : ℕ) (at : TellingSeen) (lines out : List (List ℕ)) (end : End) → at.words ≡ words → at.image ≡ image
      → at.ticks ≡ k → GoesFrom at lines out end → Goes words image (next_number k) at.control lines out end
  goes_by words image k at lines out end same here counts goes =
      subst (λ w. Goes w image (next_number k) at.control lines out end) same
      (subst (λ (i : Image). Goes at.words i (next_number k) at.control lines out end) here
      (subst (λ n. Goes at.words at.image (next_number n) at.control lines out end) counts goes))

  goes_told : (p q : A) (lines out : List (List ℕ)) (end : End) → played.Goes makes ends p lines out end q → GoesFrom (stands p) lines out end
  goes_told p q [] [] end goes = goes.0
  goes_told p q [] (shown ∷ out) end goes = goes
  goes_told p q (line ∷ lines) [] end goes = goes.0
  goes_told p q (line ∷ lines) (shown ∷ out) end goes =
      let to = stands goes.0 in
      let tells : Tells (stands p) line to shown = goes.1 in (
        to.control,
        tells.shows,
        goes_by (stands p).words (stands p).image (next_number (stands p).ticks) to lines out end tells.words tells.image tells.ticks
            (goes_told goes.0 q lines out end goes.2),
      )

  -- a tick for each line of output
  counted : (p q : A) (lines out : List (List ℕ)) (end : End) → played.Goes makes ends p lines out end q → (stands p).ticks ≤ greatest
      → (stands q).ticks ≡ min ((stands p).ticks + length out) greatest
  counted p q [] [] end goes within =
      let same : (stands q).ticks ≡ (stands p).ticks = ap (λ (at : A). (stands at).ticks) goes.1 in
      omega (arith, same, within)
  counted p q [] (shown ∷ out) end goes within = absurd goes
  counted p q (line ∷ lines) [] end goes within =
      let same : (stands q).ticks ≡ (stands p).ticks = ap (λ (at : A). (stands at).ticks) goes.1 in
      omega (arith, same, within)
  counted p q (line ∷ lines) (shown ∷ out) end goes within =
      let to : A = goes.0 in
      let tells : Tells (stands p) line (stands to) shown = goes.1 in
      let next : (stands to).ticks ≡ min ((stands p).ticks + 1) greatest = tells.ticks in
      let rest : (stands q).ticks ≡ min ((stands to).ticks + length out) greatest = counted to q lines out end goes.2 (omega (arith, next)) in
      omega (arith, next, rest)

  module _ (words : Words) (image : Image) (first : A) (begun : IsFirst words image (stands first)) where
    traced : (lines out : List (List ℕ)) (end : End) (last : A) → played.Goes makes ends first lines out end last → Trace words image lines out end
    traced lines out end last goes =
        subst (λ c. Goes words image 1 c lines out end) begun.control
        (goes_by words image 0 (stands first) lines out end begun.words_are begun.image_is begun.ticks (goes_told first last lines out end goes))

    up_to : (input old new : Option (List ℕ)) (end : End) → played.PlaysUpTo makes ends first input old new end
        → (out : List (List ℕ)) × Plays words image input old new out end
    up_to input old new end plays =
        let all = plays.plays in (
          plays.out,
          record { lines = all.lines; cut = all.cut; trace = traced all.lines plays.out end plays.last all.trace; written = all.written },
        )

    first_lines : (input old new : Option (List ℕ)) → played.PlaysFirst makes ends first input old new → PlaysFirst words image input old new
    first_lines input old new plays =
        record {
          first = plays.first;
          rest = plays.rest;
          cut = plays.cut;
          out = plays.out;
          trace = traced plays.first plays.out Good plays.last plays.trace;
          written = plays.written;
        }

    pub leaves : (input old new : Option (List ℕ)) (f : PlayFault) → played.Leaves makes ends first input old new f → Leaves words image input old new f
    leaves input old new (play_fault.Input n) plays = up_to input old new (NoInputs n) plays
    leaves input old new (play_fault.NotJson n) plays = up_to input old new (NoObject n) plays
    leaves input old new play_fault.Memory plays = first_lines input old new plays
    leaves input old new play_fault.Read plays = first_lines input old new plays
    leaves input old new play_fault.Write plays =
        record {
          first = plays.first;
          rest = plays.rest;
          cut = plays.cut;
          out = plays.out;
          last = plays.last_line;
          trace = traced plays.first (plays.out ++ plays.last_line ∷ []) Good plays.last plays.trace;
          before = plays.before;
          written = plays.written;
          in_part = plays.in_part;
        }

    pub whole : (before after : Seen) (last : A) → played_came.PlaysWhole makes ends first before after last
        → PlaysWhole words image before after (stands last).ticks
    whole before after last plays =
        let out = plays.0 in
        let all = plays.1 in
        let start : (stands first).ticks ≡ 0 = begun.ticks in
        let counts : (stands last).ticks ≡ min ((stands first).ticks + length out) greatest =
        counted first last all.lines out Good all.trace (omega (arith, start)) in (
          out,
          omega (arith, start, counts),
          record { lines = all.lines; cut = all.cut; trace = traced all.lines out Good last all.trace; written = all.written },
        )

    -- what was told of the last player is told of the number of its tick
    pub came_to : (before after : Seen) (last : A) → played_came.CameTo makes ends first before after (Ok last)
        → CameTo words image before after (Ok (stands last).ticks)
    came_to before after last came =
        record { whole = whole before after last came.whole; fault = tt; failures = none_failed before after last (stands last).ticks came.failures }

    pub came_off : (before after : Seen) (f : PlayFault) → played_came.CameTo makes ends first before after (Err f)
        → CameTo words image before after (Err f)
    came_off before after f came =
        record {
          whole = tt;
          fault = leaves before.source.to_come before.sink.taken after.sink.taken f came.fault;
          failures = failed before after f came.failures;
        }

pub came_well : {A : Type 0} (first : A) (stands : A → TellingSeen) (words : Words) (image : Image) → IsFirst words image (stands first)
    → (before after : Seen) (last : A) → played_came.CameTo (makes stands) (ends stands) first before after (Ok last)
    → CameTo words image before after (Ok (stands last).ticks)
came_well first stands words image begun before after last came = came_to stands words image first begun before after last came

pub came_from : {A : Type 0} (first : A) (stands : A → TellingSeen) (words : Words) (image : Image) → IsFirst words image (stands first)
    → (before after : Seen) (f : PlayFault) → played_came.CameTo (makes stands) (ends stands) first before after (Err f)
    → CameTo words image before after (Err f)
came_from first stands words image begun before after f came = came_off stands words image first begun before after f came

-- memory was refused before the first line
pub came_never : (words : Words) (image : Image) (at : Seen) (f : PlayFault) (result : Result ℕ PlayFault) → result ≡ Err f → f ≡ play_fault.Memory
    → CameTo words image at at result
came_never words image at f result is memory =
    let here : TellingSeen = record { words = words; image = image; ticks = 0; control = initial image.program } in
    let begun : IsFirst words image here = record { words_are = refl; image_is = refl; ticks = refl; control = refl } in
    rw (is, memory)
    (came_off (λ (s : TellingSeen). s) words image here begun at at play_fault.Memory
    (none_came (λ (p : TellingSeen) line q shown. Tells p line q shown) (λ (p : TellingSeen) line end. Ends p line end) here at))
