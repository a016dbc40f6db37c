-- How what was played grows, line by line.
use Rattle.std.proofs.Common.{◌≡◌, ℕ, Option, List, [], ◌∷◌}
use Rattle.std.proofs.Common.{◌++◌, refl, ap, sym, ◌∙◌, subst, append_assoc, append-nil}
use Rattle.std.specs.List.{concat}
use Rattle.std.specs.Io.KnownBytes.{Appends, IsAtEnd}
use Rattle.std.proofs.lemmas.List.Folds.{concat-append}
use Rattle.std.proofs.KnownBytes.{Appends-nil, Appends-trans, prepend_known-nil}
use Rattle.sc_values.specs.Streams.{GrowsInto}
use Rattle.trace_lines.specs.Lines.{ahead, TakesLine}
use Rattle.trace_player.specs.Trace.{End, Good}
use Rattle.trace_player.proofs.Splits.{Cut, known_lines, cut_known, are_lines, cut_at_end, cut_taken}
use Rattle.trace_player.specs.Played.{Making, Ending, Goes, Plays, PlaysFirst, PlaysPart, PlaysUpTo}

-- behind some lines this is the player, and these lines of output were written
pub record Played {A : Type 0} (makes : Making A) (ends : Ending A) (from : A) (start now : Option (List ℕ)) (at : A) (old new : Option (List ℕ)) : Type 0 where
  pub done : List (List ℕ)
  pub out : List (List ℕ)
  pub leads : (rest : List (List ℕ)) → Cut now rest → Cut start (done ++ rest)
  pub goes : (lines rest : List (List ℕ)) (end : End) (last : A) → Goes makes ends at lines rest end last
      → Goes makes ends from (done ++ lines) (out ++ rest) end last
  pub written : Appends old new (concat out)

module _ {A : Type 0} (makes : Making A) (ends : Ending A) (from : A) (start old : Option (List ℕ)) where
  -- nothing was taken
  pub none_played : (held : List ℕ) → held ≡ [] → Played makes ends from start (ahead held start) from old old
  none_played held none =
      subst (λ bytes. Played makes ends from start (ahead bytes start) from old old) (sym none)
      (record {
        done = [];
        out = [];
        leads = λ rest cut. subst (λ bytes. Cut bytes rest) (prepend_known-nil start) cut;
        goes = λ lines rest end last trace. trace;
        written = Appends-nil old;
      })

  -- one line more was taken, and its line of output written
  pub one_played : (now now' : Option (List ℕ)) (at to : A) (new new' : Option (List ℕ)) (line shown : List ℕ)
      → Played makes ends from start now at old new → TakesLine now now' line → makes at line to shown → Appends new new' shown
      → Played makes ends from start now' to old new'
  one_played now now' at to new new' line shown a takes made writes =
      record {
        done = a.done ++ line ∷ [];
        out = a.out ++ shown ∷ [];
        leads = λ rest cut. subst (Cut start) (sym (append_assoc a.done (line ∷ []) rest)) (a.leads (line ∷ rest) (cut_taken now now' line rest takes cut));
        goes = λ lines rest end last trace.
            subst (λ xs. Goes makes ends from xs ((a.out ++ shown ∷ []) ++ rest) end last) (sym (append_assoc a.done (line ∷ []) lines))
            (subst (λ ys. Goes makes ends from (a.done ++ line ∷ lines) ys end last) (sym (append_assoc a.out (shown ∷ []) rest))
            (a.goes (line ∷ lines) (shown ∷ rest) end last (to, made, trace)));
        written =
            subst (Appends old new') (sym (concat-append a.out (shown ∷ []) ∙ ap (λ last. concat a.out ++ last) (append-nil shown)))
            (Appends-trans old new new' (concat a.out) shown a.written writes);
      }

  -- the trace of the lines so far
  so_far : (now : Option (List ℕ)) (at : A) (new : Option (List ℕ)) (a : Played makes ends from start now at old new)
      → Goes makes ends from a.done a.out Good at
  so_far now at new a =
      subst (λ xs. Goes makes ends from xs a.out Good at) (append-nil a.done)
      (subst (λ ys. Goes makes ends from (a.done ++ []) ys Good at) (append-nil a.out) (a.goes [] [] Good at (refl, refl)))

  -- all lines were played
  pub all_played : (now : Option (List ℕ)) (at : A) (new : Option (List ℕ)) → Played makes ends from start now at old new → IsAtEnd now
      → (out : List (List ℕ)) × Plays makes ends from start old new out Good at
  all_played now at new a ended = (
    a.out,
    record {
      lines = a.done;
      cut = are_lines start a.done (subst (Cut start) (append-nil a.done) (a.leads [] (cut_at_end now ended)));
      trace = so_far now at new a;
      written = a.written;
    },
  )

  -- a line ends the trace
  pub ended_at : (now : Option (List ℕ)) (at : A) (new : Option (List ℕ)) (line : List ℕ) (rest : List (List ℕ)) (end : End)
      → Played makes ends from start now at old new → Cut now (line ∷ rest) → ends at line end → PlaysUpTo makes ends from start old new end
  ended_at now at new line rest end a cut ending =
      record {
        out = a.out;
        last = at;
        plays =
            record {
              lines = a.done ++ line ∷ rest;
              cut = are_lines start (a.done ++ line ∷ rest) (a.leads (line ∷ rest) cut);
              trace =
                  subst (λ ys. Goes makes ends from (a.done ++ line ∷ rest) ys end at) (append-nil a.out)
                  (a.goes (line ∷ rest) [] end at (ending, refl));
              written = a.written;
            };
      }

  -- the line that was taken ends it
  pub refused : (now now' : Option (List ℕ)) (at : A) (new : Option (List ℕ)) (line : List ℕ) (end : End)
      → Played makes ends from start now at old new → TakesLine now now' line → ends at line end → PlaysUpTo makes ends from start old new end
  refused now now' at new line end a takes ending =
      ended_at now at new line (known_lines now') end a (cut_taken now now' line (known_lines now') takes (cut_known now')) ending

  -- nothing more can be done
  pub stopped : (now : Option (List ℕ)) (at : A) (new : Option (List ℕ)) → Played makes ends from start now at old new
      → PlaysFirst makes ends from start old new
  stopped now at new a =
      record {
        first = a.done;
        rest = known_lines now;
        cut = are_lines start (a.done ++ known_lines now) (a.leads (known_lines now) (cut_known now));
        out = a.out;
        last = at;
        trace = so_far now at new a;
        written = a.written;
      }

  -- the line of output could not be written, or not to its end
  pub stopped_writing : (now now' : Option (List ℕ)) (at to : A) (new new' : Option (List ℕ)) (line shown : List ℕ)
      → Played makes ends from start now at old new → TakesLine now now' line → makes at line to shown → GrowsInto new new' shown
      → PlaysPart makes ends from start old new'
  stopped_writing now now' at to new new' line shown a takes made writes =
      let done = a.done ++ line ∷ [] in
      record {
        first = done;
        rest = known_lines now';
        cut =
            are_lines start (done ++ known_lines now')
            (subst (Cut start) (sym (append_assoc a.done (line ∷ []) (known_lines now')))
            (a.leads (line ∷ known_lines now') (cut_taken now now' line (known_lines now') takes (cut_known now'))));
        out = a.out;
        last_line = shown;
        last = to;
        trace = a.goes (line ∷ []) (shown ∷ []) Good to (to, made, (refl, refl));
        before = new;
        written = a.written;
        in_part = writes;
      }
