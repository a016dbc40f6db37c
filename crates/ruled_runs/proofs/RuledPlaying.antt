-- What played lines are, as a trace under rules.
use Rattle.std.proofs.Common.{◌≡◌, ℕ, Option, Result, Ok, Err, List, [], ◌∷◌, ◌++◌, refl, ap, ◌∙◌, subst}
use Rattle.sc_graph.specs.Tick.{Rests}
use Rattle.bytecode.specs.Image.{Image}
use Rattle.trace_player.specs.declared.player.PlayFault.{PlayFault}
use Rattle.trace_player.specs.declared.player.PlayFault.TheVariants as play_fault
use Rattle.trace_player.specs.Channels.{Seen}
use Rattle.trace_player.specs.Trace.{End, Good, NoInputs, NoObject}
use Rattle.trace_player.specs.Played as played
use Rattle.trace_player.specs.Came as played_came
use Rattle.trace_player.proofs.LineComing.{none_came}
use Rattle.trace_player.proofs.LineFailures.{none_failed, failed}
use Rattle.ruled_runs.specs.Trace.{Goes, Makes, Plays, PlaysFirst, PlaysUpTo, Leaves}
use Rattle.ruled_runs.specs.Inside.Playing.{CameTo}
use Rattle.ruled_runs.specs.Inside.Ruled.{RuledSeen, Leads, Ends}
use Rattle.ruled_runs.specs.declared.traces.place.RunPlace.{RunPlace}
use Rattle.ruled_runs.specs.declared.traces.rules.Rules.{Rules}

module _ {A : Type 0} (stands : A → RuledSeen) (rules : Rules) (image : Image) where
  abbrev makes : played.Making A
  makes p line q shown = Leads (stands p) line (stands q) shown

  abbrev ends : played.Ending A
  ends p line end = Ends (stands p) line end

  goes_by : (mine : Rules) (here : Image) (at : RunPlace) (lines out : List (List ℕ)) (end : End) (last : RunPlace) → mine ≡ rules → here ≡ image
      → Goes mine here at lines out end last → Goes rules image at lines out end last
  goes_by mine here at lines out end last same alike goes =
      subst (λ r. Goes r image at lines out end last) same (subst (λ (i : Image). Goes mine i at lines out end last) alike goes)

  traced : (p q : A) (lines out : List (List ℕ)) (end : End) → (stands p).rules ≡ rules → (stands p).image ≡ image → played.Goes makes ends p lines out end q
      → Goes rules image (stands p).place lines out end (stands q).place
  traced p q [] [] end same here goes = (goes.0, ap (λ (at : A). (stands at).place) goes.1)
  traced p q [] (shown ∷ out) end same here goes = goes
  traced p q (line ∷ lines) [] end same here goes =
      goes_by (stands p).rules (stands p).image (stands p).place (line ∷ lines) [] end (stands q).place same here
      (goes.0, ap (λ (at : A). (stands at).place) goes.1)
  traced p q (line ∷ lines) (shown ∷ out) end same here goes =
      let to : A = goes.0 in
      let leads : Leads (stands p) line (stands to) shown = goes.1 in
      let rest : Goes rules image (stands to).place lines out end (stands q).place =
      traced to q lines out end (leads.rules ∙ same) (leads.image ∙ here) goes.2 in (
        (stands to).place,
        subst (λ r. Makes r image (stands p).place line (stands to).place shown) same
            (subst (λ (i : Image). Makes (stands p).rules i (stands p).place line (stands to).place shown) here leads.makes),
        rest,
      )

  module _ (first : A) (same : (stands first).rules ≡ rules) (here : (stands first).image ≡ image) where
    all_of : (input old new : Option (List ℕ)) (out : List (List ℕ)) (end : End) (last : A) → played.Plays makes ends first input old new out end last
        → Plays rules image (stands first).place input old new out end (stands last).place
    all_of input old new out end last plays =
        record { lines = plays.lines; cut = plays.cut; trace = traced first last plays.lines out end same here plays.trace; written = plays.written }

    up_to : (input old new : Option (List ℕ)) (end : End) → played.PlaysUpTo makes ends first input old new end
        → PlaysUpTo rules image (stands first).place input old new end
    up_to input old new end plays =
        record { out = plays.out; last = (stands plays.last).place; plays = all_of input old new plays.out end plays.last plays.plays }

    first_lines : (input old new : Option (List ℕ)) → played.PlaysFirst makes ends first input old new
        → PlaysFirst rules image (stands first).place input old new
    first_lines input old new plays =
        record {
          first = plays.first;
          rest = plays.rest;
          cut = plays.cut;
          out = plays.out;
          last = (stands plays.last).place;
          trace = traced first plays.last plays.first plays.out Good same here plays.trace;
          written = plays.written;
        }

    leaves : (input old new : Option (List ℕ)) (f : PlayFault) → played.Leaves makes ends first input old new f
        → Leaves rules image (stands first).place input old new f
    leaves input old new (play_fault.Input n) plays = up_to input old new (NoInputs n) plays
    leaves input old new (play_fault.NotJson n) plays = up_to input old new (NoObject n) plays
    leaves input old new play_fault.Memory plays = first_lines input old new plays
    leaves input old new play_fault.Read plays = first_lines input old new plays
    leaves input old new play_fault.Write plays =
        record {
          first = plays.first;
          rest = plays.rest;
          cut = plays.cut;
          out = plays.out;
          last_line = plays.last_line;
          last = (stands plays.last).place;
          trace = traced first plays.last plays.first (plays.out ++ plays.last_line ∷ []) Good same here plays.trace;
          before = plays.before;
          written = plays.written;
          in_part = plays.in_part;
        }

    -- the input was played to its end
    pub came_well : (before after : Seen) (last : A) → played_came.CameTo makes ends first before after (Ok last)
        → CameTo rules image (stands first).place before after (Ok (stands last).place)
    came_well before after last came =
        let whole = came.whole in
        let out = whole.0 in
        record {
          whole = (out, all_of before.source.to_come before.sink.taken after.sink.taken out Good last whole.1);
          fault = tt;
          failures = none_failed before after last (stands last).place came.failures;
        }

    -- it was not, for this fault
    pub came_off : (before after : Seen) (f : PlayFault) → played_came.CameTo makes ends first before after (Err f)
        → CameTo rules image (stands first).place before after (Err f)
    came_off before after f came =
        record {
          whole = tt;
          fault = leaves before.source.to_come before.sink.taken after.sink.taken f came.fault;
          failures = failed before after f came.failures;
        }

-- the image stays
image_kept : {A : Type 0} (stands : A → RuledSeen) (rules : Rules) (image : Image) (p q : A) (lines out : List (List ℕ)) (end : End)
    → played.Goes (makes stands rules image) (ends stands rules image) p lines out end q → (stands q).image ≡ (stands p).image
image_kept stands rules image p q [] [] end goes = ap (λ at. (stands at).image) goes.1
image_kept stands rules image p q [] (shown ∷ out) end goes = absurd goes
image_kept stands rules image p q (line ∷ lines) [] end goes = ap (λ at. (stands at).image) goes.1
image_kept stands rules image p q (line ∷ lines) (shown ∷ out) end goes =
    let leads : Leads (stands p) line (stands goes.0) shown = goes.1 in
    image_kept stands rules image goes.0 q lines out end goes.2 ∙ leads.image

pub rests_there : {A : Type 0} (first : A) (stands : A → RuledSeen) (rules : Rules) (image : Image) → (stands first).image ≡ image
    → (before after : Seen) (last : A) → played_came.CameTo (makes stands rules image) (ends stands rules image) first before after (Ok last)
    → Rests (stands last).image.program (stands last).place.control → Rests image.program (stands last).place.control
rests_there first stands rules image here before after last came rests =
    let whole = came.whole in
    let plays = whole.1 in
    subst (λ (i : Image). Rests i.program (stands last).place.control)
    (image_kept stands rules image first last plays.lines whole.0 Good plays.trace ∙ here) rests

-- what was told of the last player is told of its place
pub came_to : {A : Type 0} (first : A) (stands : A → RuledSeen) (rules : Rules) (image : Image) (from : RunPlace) → (stands first).rules ≡ rules
    → (stands first).image ≡ image → (stands first).place ≡ from → (before after : Seen) (last : A)
    → played_came.CameTo (makes stands rules image) (ends stands rules image) first before after (Ok last)
    → CameTo rules image from before after (Ok (stands last).place)
came_to first stands rules image from same here there before after last came =
    subst (λ at. CameTo rules image at before after (Ok (stands last).place)) there (came_well stands rules image first same here before after last came)

pub came_from : {A : Type 0} (first : A) (stands : A → RuledSeen) (rules : Rules) (image : Image) (from : RunPlace) → (stands first).rules ≡ rules
    → (stands first).image ≡ image → (stands first).place ≡ from → (before after : Seen) (f : PlayFault)
    → played_came.CameTo (makes stands rules image) (ends stands rules image) first before after (Err f)
    → CameTo rules image from before after (Err f)
came_from first stands rules image from same here there before after f came =
    subst (λ at. CameTo rules image at before after (Err f)) there (came_off stands rules image first same here before after f came)

-- memory was refused before the first line
pub came_never : (rules : Rules) (image : Image) (from : RunPlace) (at : Seen) (f : PlayFault) (result : Result RunPlace PlayFault) → result ≡ Err f
    → f ≡ play_fault.Memory → CameTo rules image from at at result
came_never rules image from at f result is memory =
    let here : RuledSeen = record { rules = rules; image = image; place = from } in
    rw (is, memory)
    (came_off (λ (s : RuledSeen). s) rules image here refl refl at at play_fault.Memory
    (none_came (λ (p : RuledSeen) line q shown. Leads p line q shown) (λ (p : RuledSeen) line end. Ends p line end) here at))
