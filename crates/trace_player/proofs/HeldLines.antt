-- How a trace grows where output is held back.
use Rattle.std.proofs.Common.{◌≡◌, ◌≢◌, ◌<◌, ℕ, Bool, true, false, Result, Err, Option, Some, None, List, [], ◌∷◌, ◌++◌, length, take, refl, ap, sym, ◌∙◌}
use Rattle.std.proofs.Common.{append_assoc, append-nil, length-append, subst, arith}
use Rattle.std.specs.List.{concat}
use Rattle.std.specs.Io.KnownBytes.{append_known}
use Rattle.std.proofs.lemmas.List.{append_cancel_left}
use Rattle.std.proofs.lemmas.List.Folds.{concat-append}
use Rattle.sc_values.specs.Streams.{GrowsInto}
use Rattle.sc_graph.specs.declared.control.Control.{Control}
use Rattle.sc_graph.specs.Tick.{initial}
use Rattle.bytecode.specs.Image.{Image}
use Rattle.probe.specs.Outputs.{Outputs}
use Rattle.trace_lines.specs.Lines.{ahead, TakesLine}
use Rattle.trace_player.specs.declared.player.PlayFault.{PlayFault}
use Rattle.trace_player.specs.Trace.{Good, Shows, next_number, Trace, AreLinesOf, PlaysPart}
use Rattle.trace_player.specs.Published.{Publishes, PlaysPartTo}
use Rattle.trace_player.specs.Channels.{Seen, SinkSeen, Gains}
use Rattle.trace_player.specs.Inside.HeldBack.{Extends, MakesTick, HoldsBack}
use Rattle.trace_player.proofs.Cutting.{part_of}
use Rattle.trace_player.proofs.Ending.{Told}
use Rattle.trace_player.proofs.HeldBack.{extends_self, extends_on, none_behind, part_to}
use Rattle.trace_player.proofs.Playing.{Played, none_played, so_far, stopped_writing}
use Rattle.trace_player.proofs.Splits.{known_lines, cut_known, are_lines, cut_taken}

-- nothing was taken, and nothing is held back
pub none_held : (image : Image) (at : Seen) (lines held : List ℕ) (c : Control) → lines ≡ [] → c ≡ initial image.program → held ≡ []
    → Played image at.source.to_come (ahead lines at.source.to_come) 0 c at.sink.taken (append_known at.sink.taken held) at.rows at.rows
none_held image at lines held c none first nothing =
    subst (λ new. Played image at.source.to_come (ahead lines at.source.to_come) 0 c at.sink.taken new at.rows at.rows)
    (sym (ap (append_known at.sink.taken) nothing ∙ none_behind at.sink.taken))
    (none_played image at.source.to_come at.sink.taken at.rows lines c none first)

pub holds_none : (image : Image) (at : Seen) (held : List ℕ) → held ≡ [] → HoldsBack image at at held
holds_none image at held nothing =
    record { grows = extends_self at.sink.taken; begun = λ some. absurd (some nothing); unwatched = λ some. absurd (some nothing) }

first_tick : (image : Image) (input : Option (List ℕ)) (done rest out : List (List ℕ)) → AreLinesOf input (done ++ rest) → Trace image done out Good
    → 0 < length out → MakesTick image input
first_tick image input [] rest [] are trace some = absurd (omega (arith, some))
first_tick image input [] rest (shown ∷ out) are trace some = absurd trace
first_tick image input (line ∷ done) rest [] are trace some = absurd (omega (arith, some))
first_tick image input (line ∷ done) rest (shown ∷ out) are trace some =
    record { line = line; rest = done ++ rest; cut = are; shown = shown; trace = (trace.0, trace.1, refl) }

-- a line of output was made
has_ticked : (image : Image) (start now : Option (List ℕ)) (k : ℕ) (c : Control) (old new : Option (List ℕ)) (rows rows' : Option (List Outputs))
    → Played image start now k c old new rows rows' → 0 < k → MakesTick image start
has_ticked image start now k c old new rows rows' a some =
    first_tick image start a.done (known_lines now) a.out
    (are_lines start (a.done ++ known_lines now) (a.leads (known_lines now) (cut_known now)))
    (so_far image start now k c old new rows rows' a)
    (omega (arith, a.shown, some))

numbers_some : (k : ℕ) → 0 < next_number k
numbers_some k = omega arith

-- where nothing is published now, nothing ever was
never_told : (image : Image) (k : ℕ) (c d : Control) (done out lines' out' : List (List ℕ)) (rows rows' rows'' : Option (List Outputs)) → rows'' ≡ None
    → Told image k c done out rows rows' → Gains rows' rows'' image.program.variables d.variables → Publishes image lines' out' rows rows''
never_told image k c d done out lines' out' None rows' rows'' none told gains = tt
never_told image k c d done out lines' out' (Some rows) None rows'' none told gains = absurd told
never_told image k c d done out lines' out' (Some rows) (Some rows') None none told gains = absurd gains
never_told image k c d done out lines' out' (Some rows) (Some rows') (Some rows'') none told gains = absurd cc

-- a line of output more, of which, with what was held back, the sink took a part
part_shown : (image : Image) (start now now' : Option (List ℕ)) (k : ℕ) (c d : Control) (old taken taken' : Option (List ℕ)) (held : List ℕ)
    (rows rows' : Option (List Outputs)) (line shown : List ℕ)
    → Played image start now k c old (append_known taken held) rows rows' → Extends old taken → TakesLine now now' line
    → Shows image (next_number k) c line d shown → GrowsInto taken taken' (held ++ shown) → PlaysPart image start old taken'
part_shown image start now now' k c d None taken taken' held rows rows' line shown a grows takes shows part =
    let rest = known_lines now' in
    let are : AreLinesOf start (a.done ++ line ∷ rest) =
    are_lines start (a.done ++ line ∷ rest) (a.leads (line ∷ rest) (cut_taken now now' line rest takes (cut_known now'))) in
    record {
      first = a.done ++ line ∷ [];
      rest = rest;
      cut = subst (AreLinesOf start) (sym (append_assoc a.done (line ∷ []) rest)) are;
      out = a.out;
      last = shown;
      trace = a.goes (line ∷ []) (shown ∷ []) Good (d, shows, refl);
      before = None;
      written = tt;
      in_part = tt;
    }
part_shown image start now now' k c d (Some xs) None taken' held rows rows' line shown a grows takes shows part = absurd grows.1
part_shown image start now now' k c d (Some xs) (Some ys) None held rows rows' line shown a grows takes shows part = absurd part
part_shown image start now now' k c d (Some xs) (Some ys) (Some zs) held rows rows' line shown a grows takes shows part =
    let rest = known_lines now' in
    let are : AreLinesOf start (a.done ++ line ∷ rest) =
    are_lines start (a.done ++ line ∷ rest) (a.leads (line ∷ rest) (cut_taken now now' line rest takes (cut_known now'))) in
    let before : concat a.out ≡ grows.0 ++ held =
    append_cancel_left xs (concat a.out) (grows.0 ++ held) (sym a.written ∙ ap (λ bytes. bytes ++ held) grows.1 ∙ append_assoc xs grows.0 held) in
    let same : concat (a.out ++ shown ∷ []) ≡ grows.0 ++ (held ++ shown) =
    concat-append a.out (shown ∷ []) ∙ ap (λ last. concat a.out ++ last) (append-nil shown) ∙ ap (λ bytes. bytes ++ shown) before
    ∙ append_assoc grows.0 held shown in
    let some : a.out ++ shown ∷ [] ≢ [] = λ e. let none : length (a.out ++ shown ∷ []) ≡ 0 = ap length e in
    omega (arith, none, length-append a.out (shown ∷ [])) in
    subst (λ bytes. PlaysPart image start (Some xs) (Some bytes)) (sym (part.1 ∙ ap (λ bytes. bytes ++ take part.0 (held ++ shown)) grows.1))
    (part_of image start xs grows.0 (held ++ shown) part.0 (a.done ++ line ∷ []) rest (a.out ++ shown ∷ []) Good
    (subst (AreLinesOf start) (sym (append_assoc a.done (line ∷ []) rest)) are) (a.goes (line ∷ []) (shown ∷ []) Good (d, shows, refl)) some same)

-- the line of output could not be written, or not to its end, or what was held back before it
pub stopped_holding : (image : Image) (start now now' : Option (List ℕ)) (k : ℕ) (c d : Control) (old taken taken' : Option (List ℕ)) (held : List ℕ)
    (rows rows' rows'' : Option (List Outputs)) (line shown : List ℕ)
    → Played image start now k c old (append_known taken held) rows rows' → Extends old taken → TakesLine now now' line
    → Shows image (next_number k) c line d shown → GrowsInto taken taken' (held ++ shown) → (held ≢ [] → rows'' ≡ None)
    → Gains rows' rows'' image.program.variables d.variables → PlaysPartTo image start old taken' rows rows''
stopped_holding image start now now' k c d old taken taken' [] rows rows' rows'' line shown a grows takes shows part unwatched gains =
    stopped_writing image start now now' k c d old taken taken' rows rows' rows'' line shown
    (subst (λ new. Played image start now k c old new rows rows') (none_behind taken) a) takes shows part gains
stopped_holding image start now now' k c d old taken taken' (x ∷ held) rows rows' rows'' line shown a grows takes shows part unwatched gains =
    let none = unwatched (λ e. cc) in
    part_to image start old taken' rows rows'' [] [] none (never_told image k c d a.done a.out [] [] rows rows' rows'' none a.told gains)
    (part_shown image start now now' k c d old taken taken' (x ∷ held) rows rows' line shown a grows takes shows part)

-- a line of output more was written or is held back
pub holds_more : (image : Image) (before at told after : Seen) (held held' : List ℕ) (now : Option (List ℕ)) (k n : ℕ) (c : Control)
    → Played image before.source.to_come now n c before.sink.taken (append_known after.sink.taken held') before.rows after.rows → n ≡ next_number k
    → HoldsBack image before at held → told.sink ≡ at.sink → Extends told.sink.taken after.sink.taken → (held' ≢ [] → after.rows ≡ None)
    → HoldsBack image before after held'
holds_more image before at told after held held' now k n c played number holds sink grows unwatched =
    record {
      grows =
          extends_on before.sink.taken at.sink.taken after.sink.taken holds.grows
          (subst (λ (s : SinkSeen). Extends s.taken after.sink.taken) sink grows);
      begun = λ _.
          has_ticked image before.source.to_come now n c before.sink.taken (append_known after.sink.taken held') before.rows after.rows played
          (subst (λ m. 0 < m) (sym number) (numbers_some k));
      unwatched = unwatched;
    }

-- what is not there is missing
pub feedless : (b : Bool) → b ≢ true → b ≡ false
feedless true none = absurd (none refl)
feedless false none = refl

pub one_stop : {T : Type 0} (r : Result T PlayFault) (f k : PlayFault) → r ≡ Err f → r ≡ Err k → f ≡ k
one_stop r f k is is' = cc (is, is')
