-- How a trace grows, line by line.
use Rattle.std.proofs.Common.{◌≡◌, ℕ, min, Option, Some, None, option_map, Result, Err, List, [], ◌∷◌, ◌++◌, length, refl, ap, sym, ◌∙◌, subst, arith}
use Rattle.std.proofs.Common.{append_assoc, append-nil, length-append, inl}
use Rattle.std.specs.List.{concat}
use Rattle.std.specs.Io.KnownBytes.{Appends, IsAtEnd}
use Rattle.std.proofs.lemmas.List.Folds.{concat-append}
use Rattle.std.proofs.KnownBytes.{Appends-nil, Appends-trans, prepend_known-nil}
use Rattle.sc_values.specs.Streams.{GrowsInto}
use Rattle.sc_graph.specs.declared.control.Control.{Control}
use Rattle.sc_graph.specs.Tick.{initial}
use Rattle.sc_graph.specs.Program.{Program}
use Rattle.bytecode.specs.Image.{Image}
use Rattle.trace_lines.specs.declared.lines.LinesFault.{LinesFault}
use Rattle.trace_lines.specs.declared.lines.LinesFault.TheVariants as lines_fault
use Rattle.trace_player.specs.declared.player.PlayFault.{PlayFault}
use Rattle.trace_player.specs.declared.player.PlayFault.TheVariants as play_fault
use Rattle.trace_lines.specs.Lines.{ahead, TakesLine, IsTooLong}
use Rattle.trace_player.specs.Trace.{End, Good, NoInputs, NoObject, EndsAt, Shows, greatest, next_number, Goes, Trace, Leaves}
use Rattle.trace_player.specs.Published.{PlaysTo, PlaysFirstTo, PlaysPartTo, LeavesTo}
use Rattle.trace_player.specs.Channels.{Gains}
use Rattle.probe.specs.Outputs.{Outputs}
use Rattle.trace_player.proofs.Ending.{Told, none_told, one_told, published, published_so_far}
use Rattle.trace_player.specs.Inside.Faults.{Tells}
use Rattle.trace_player.specs.Unread.{unread}
use Rattle.trace_player.proofs.Splits.{Cut, known_lines, cut_known, are_lines, cut_at_end, cut_taken, cut_too_long}

-- after the line of number k the configuration is c, and these lines of output were written and the ends of their ticks
-- published
pub record Played (image : Image) (start now : Option (List ℕ)) (k : ℕ) (c : Control) (old new : Option (List ℕ)) (rows rows' : Option (List Outputs)) : Type 0
  where
    pub done : List (List ℕ)
    pub out : List (List ℕ)
    pub leads : (rest : List (List ℕ)) → Cut now rest → Cut start (done ++ rest)
    pub goes : (lines rest : List (List ℕ)) (end : End) → Goes image (next_number k) c lines rest end → Trace image (done ++ lines) (out ++ rest) end
    pub shown : k ≡ min (length out) greatest
    pub written : Appends old new (concat out)
    pub told : Told image k c done out rows rows'

at_start : (image : Image) (start old : Option (List ℕ)) (rows : Option (List Outputs))
    → Played image start (ahead [] start) 0 (initial image.program) old old rows rows
at_start image start old rows =
    record {
      done = [];
      out = [];
      leads = λ rest cut. subst (λ bytes. Cut bytes rest) (prepend_known-nil start) cut;
      goes = λ lines rest end trace. trace;
      shown = refl;
      written = Appends-nil old;
      told = none_told image rows;
    }

-- nothing was taken
pub none_played : (image : Image) (start old : Option (List ℕ)) (rows : Option (List Outputs)) (held : List ℕ) (c : Control) → held ≡ []
    → c ≡ initial image.program → Played image start (ahead held start) 0 c old old rows rows
none_played image start old rows held c none first =
    subst (λ d. Played image start (ahead held start) 0 d old old rows rows) (sym first)
    (subst (λ bytes. Played image start (ahead bytes start) 0 (initial image.program) old old rows rows) (sym none) (at_start image start old rows))

-- one line more was taken, and its line of output written
pub one_played : (image : Image) (start now now' : Option (List ℕ)) (k : ℕ) (c d : Control) (old new new' : Option (List ℕ))
    (rows rows' rows'' : Option (List Outputs)) (line shown : List ℕ)
    → Played image start now k c old new rows rows' → TakesLine now now' line → Shows image (next_number k) c line d shown → Appends new new' shown
    → Gains rows' rows'' image.program.variables d.variables → Played image start now' (next_number k) d old new' rows rows''
one_played image start now now' k c d old new new' rows rows' rows'' line shown a takes shows writes gains =
    record {
      done = a.done ++ line ∷ [];
      out = a.out ++ shown ∷ [];
      leads = λ rest cut. subst (Cut start) (sym (append_assoc a.done (line ∷ []) rest)) (a.leads (line ∷ rest) (cut_taken now now' line rest takes cut));
      goes = λ lines rest end trace.
          subst (λ xs. Trace image xs ((a.out ++ shown ∷ []) ++ rest) end) (sym (append_assoc a.done (line ∷ []) lines))
          (subst (λ ys. Trace image (a.done ++ line ∷ lines) ys end) (sym (append_assoc a.out (shown ∷ []) rest))
          (a.goes (line ∷ lines) (shown ∷ rest) end (d, shows, trace)));
      shown = omega (arith, a.shown, length-append a.out (shown ∷ []));
      written =
          subst (Appends old new') (sym (concat-append a.out (shown ∷ []) ∙ ap (λ last. concat a.out ++ last) (append-nil shown)))
          (Appends-trans old new new' (concat a.out) shown a.written writes);
      told = one_told image k c d a.done a.out rows rows' rows'' line shown a.told shows gains;
    }

-- the trace of the lines so far
pub so_far : (image : Image) (start now : Option (List ℕ)) (k : ℕ) (c : Control) (old new : Option (List ℕ)) (rows rows' : Option (List Outputs))
    (a : Played image start now k c old new rows rows') → Trace image a.done a.out Good
so_far image start now k c old new rows rows' a =
    subst (λ xs. Trace image xs a.out Good) (append-nil a.done)
    (subst (λ ys. Trace image (a.done ++ []) ys Good) (append-nil a.out) (a.goes [] [] Good refl))

-- all lines were played
pub all_played : (image : Image) (start now : Option (List ℕ)) (k : ℕ) (c : Control) (old new : Option (List ℕ)) (rows rows' : Option (List Outputs))
    → Played image start now k c old new rows rows' → IsAtEnd now
    → (out : List (List ℕ)) × (k ≡ min (length out) greatest) × PlaysTo image start old new rows rows' out Good
all_played image start now k c old new rows rows' a ended = (
  a.out,
  a.shown,
  record {
    plays =
        record {
          lines = a.done;
          cut = are_lines start a.done (subst (Cut start) (append-nil a.done) (a.leads [] (cut_at_end now ended)));
          trace = so_far image start now k c old new rows rows' a;
          written = a.written;
        };
    publishes = published_so_far image k c a.done a.out rows rows' a.told;
  },
)

-- a line ends the trace
ends_at : (image : Image) (start now : Option (List ℕ)) (k : ℕ) (c : Control) (old new : Option (List ℕ)) (rows rows' : Option (List Outputs)) (line : List ℕ)
    (rest : List (List ℕ)) (end : End)
    → Played image start now k c old new rows rows' → Cut now (line ∷ rest) → EndsAt image.program (next_number k) line end
    → (out : List (List ℕ)) × PlaysTo image start old new rows rows' out end
ends_at image start now k c old new rows rows' line rest end a cut ends = (
  a.out,
  record {
    plays =
        record {
          lines = a.done ++ line ∷ rest;
          cut = are_lines start (a.done ++ line ∷ rest) (a.leads (line ∷ rest) cut);
          trace = subst (λ ys. Trace image (a.done ++ line ∷ rest) ys end) (append-nil a.out) (a.goes (line ∷ rest) [] end ends);
          written = a.written;
        };
    publishes = published image k c a.done a.out (line ∷ rest) rows rows' a.told;
  },
)

-- the line that was taken is refused
pub refused : (image : Image) (start now now' : Option (List ℕ)) (k : ℕ) (c : Control) (old new : Option (List ℕ)) (rows rows' : Option (List Outputs))
    (line : List ℕ) (end : End)
    → Played image start now k c old new rows rows' → TakesLine now now' line → EndsAt image.program (next_number k) line end
    → (out : List (List ℕ)) × PlaysTo image start old new rows rows' out end
refused image start now now' k c old new rows rows' line end a takes ends =
    ends_at image start now k c old new rows rows' line (known_lines now') end a (cut_taken now now' line (known_lines now') takes (cut_known now')) ends

-- the next line is too long
pub refused_long : (image : Image) (start now : Option (List ℕ)) (k : ℕ) (c : Control) (old new : Option (List ℕ)) (rows rows' : Option (List Outputs))
    → Played image start now k c old new rows rows' → IsTooLong now → (out : List (List ℕ))
    × PlaysTo image start old new rows rows' out (NoObject (next_number k))
refused_long image start now k c old new rows rows' a long =
    let cut = cut_too_long now long in
    ends_at image start now k c old new rows rows' cut.0 cut.1 (NoObject (next_number k)) a cut.3 (refl, inl cut.2)

-- nothing more can be done
pub stopped : (image : Image) (start now : Option (List ℕ)) (k : ℕ) (c : Control) (old new : Option (List ℕ)) (rows rows' : Option (List Outputs))
    → Played image start now k c old new rows rows' → PlaysFirstTo image start old new rows rows'
stopped image start now k c old new rows rows' a =
    record {
      plays =
          record {
            first = a.done;
            rest = known_lines now;
            cut = are_lines start (a.done ++ known_lines now) (a.leads (known_lines now) (cut_known now));
            out = a.out;
            trace = so_far image start now k c old new rows rows' a;
            written = a.written;
          };
      publishes = published_so_far image k c a.done a.out rows rows' a.told;
    }

pub not_begun : (image : Image) (start old : Option (List ℕ)) (rows : Option (List Outputs)) → PlaysFirstTo image start old old rows rows
not_begun image start old rows = stopped image start (ahead [] start) 0 (initial image.program) old old rows rows (at_start image start old rows)

-- what would be written had the sink taken these bytes
abbrev wanted : Option (List ℕ) → List ℕ → Option (List ℕ)
wanted new bytes = option_map (λ xs. xs ++ bytes) new

wanted_appends : (new : Option (List ℕ)) (bytes : List ℕ) → Appends new (wanted new bytes) bytes
wanted_appends None bytes = tt
wanted_appends (Some xs) bytes = refl

-- the line of output could not be written, or not to its end
pub stopped_writing : (image : Image) (start now now' : Option (List ℕ)) (k : ℕ) (c d : Control) (old new new' : Option (List ℕ))
    (rows rows' rows'' : Option (List Outputs)) (line shown : List ℕ)
    → Played image start now k c old new rows rows' → TakesLine now now' line → Shows image (next_number k) c line d shown → GrowsInto new new' shown
    → Gains rows' rows'' image.program.variables d.variables → PlaysPartTo image start old new' rows rows''
unfolding one_played
stopped_writing image start now now' k c d old new new' rows rows' rows'' line shown a takes shows writes gains =
    let b = one_played image start now now' k c d old new (wanted new shown) rows rows' rows'' line shown a takes shows (wanted_appends new shown) gains in
    record {
      plays =
          record {
            first = b.done;
            rest = known_lines now';
            cut = are_lines start (b.done ++ known_lines now') (b.leads (known_lines now') (cut_known now'));
            out = a.out;
            last = shown;
            trace = so_far image start now' (next_number k) d old (wanted new shown) rows rows'' b;
            before = new;
            written = a.written;
            in_part = writes;
          };
      publishes = published_so_far image (next_number k) d b.done b.out rows rows'' b.told;
    }

-- the next line could not be had
pub stopped_reading : (image : Image) (start now : Option (List ℕ)) (k : ℕ) (c : Control) (old new : Option (List ℕ)) (rows rows' : Option (List Outputs))
    (f : LinesFault)
    → Played image start now k c old new rows rows' → (f ≡ lines_fault.TooLong → IsTooLong now)
    → LeavesTo image start old new rows rows' (unread f (next_number k))
stopped_reading image start now k c old new rows rows' lines_fault.Memory a long = stopped image start now k c old new rows rows' a
stopped_reading image start now k c old new rows rows' lines_fault.Read a long = stopped image start now k c old new rows rows' a
stopped_reading image start now k c old new rows rows' lines_fault.TooLong a long = refused_long image start now k c old new rows rows' a (long refl)

-- the next line makes no tick
pub stopped_reacting : (image : Image) (start now now' : Option (List ℕ)) (k : ℕ) (c : Control) (old new : Option (List ℕ)) (rows rows' : Option (List Outputs))
    (line : List ℕ) (f : PlayFault)
    → Played image start now k c old new rows rows' → TakesLine now now' line → Tells image.program (next_number k) line f
    → LeavesTo image start old new rows rows' f
stopped_reacting image start now now' k c old new rows rows' line (play_fault.Input n) a takes tells = refused image start now now' k c old new rows rows' line
    (NoInputs n) a takes tells
stopped_reacting image start now now' k c old new rows rows' line (play_fault.NotJson n) a takes tells = refused image start now now' k c old new rows rows'
    line (NoObject n) a takes tells
stopped_reacting image start now now' k c old new rows rows' line play_fault.Memory a takes tells = stopped image start now k c old new rows rows' a
stopped_reacting image start now now' k c old new rows rows' line play_fault.Read a takes tells = absurd tells
stopped_reacting image start now now' k c old new rows rows' line play_fault.Write a takes tells = absurd tells

-- what was written, whatever was published
pub leaves : (image : Image) (start old new : Option (List ℕ)) (rows rows' : Option (List Outputs)) (f : PlayFault) → LeavesTo image start old new rows rows' f
    → Leaves image start old new f
leaves image start old new rows rows' (play_fault.Input n) left = (left.0, left.1.plays)
leaves image start old new rows rows' (play_fault.NotJson n) left = (left.0, left.1.plays)
leaves image start old new rows rows' play_fault.Memory left = left.plays
leaves image start old new rows rows' play_fault.Read left = left.plays
leaves image start old new rows rows' play_fault.Write left = left.plays

-- a line that could not be had tells of a failed source where the source failed, and never of the sink
pub unread_read : (f : LinesFault) (k : ℕ) → unread f k ≡ play_fault.Read → f ≡ lines_fault.Read
unread_read lines_fault.Memory k told = absurd cc
unread_read lines_fault.Read k told = refl
unread_read lines_fault.TooLong k told = absurd cc

pub unread_no_write : (f : LinesFault) (k : ℕ) → ¬ (unread f k ≡ play_fault.Write)
unread_no_write lines_fault.Memory k told = cc
unread_no_write lines_fault.Read k told = cc
unread_no_write lines_fault.TooLong k told = cc

-- a fault of one line is none of a stream
pub tells_no_read : (p : Program) (k : ℕ) (line : List ℕ) (f : PlayFault) → Tells p k line f → ¬ (f ≡ play_fault.Read)
tells_no_read p k line (play_fault.Input n) tells is = cc
tells_no_read p k line play_fault.Memory tells is = cc
tells_no_read p k line play_fault.Read tells is = tells
tells_no_read p k line (play_fault.NotJson n) tells is = cc
tells_no_read p k line play_fault.Write tells is = cc

pub tells_no_write : (p : Program) (k : ℕ) (line : List ℕ) (f : PlayFault) → Tells p k line f → ¬ (f ≡ play_fault.Write)
tells_no_write p k line (play_fault.Input n) tells is = cc
tells_no_write p k line play_fault.Memory tells is = cc
tells_no_write p k line play_fault.Read tells is = cc
tells_no_write p k line (play_fault.NotJson n) tells is = cc
tells_no_write p k line play_fault.Write tells is = tells

pub one_fault : {T : Type 0} (r : Result T LinesFault) (f k : LinesFault) → r ≡ Err f → r ≡ Err k → f ≡ k
one_fault r f k is is' = cc (is, is')
