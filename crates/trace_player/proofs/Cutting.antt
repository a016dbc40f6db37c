-- A trace is cut at the line of output in which a sink stopped.
use Rattle.std.proofs.Common.{◌≡◌, ◌≢◌, ℕ, ◌⊎◌, Option, Some, List, [], ◌∷◌, ◌++◌, length, take, drop, refl, ap, sym, ◌∙◌, subst, arith, suc, inl, inr}
use Rattle.std.proofs.Common.{append_assoc, append-nil, take-append-drop, take_all}
use Rattle.std.specs.List.{concat}
use Rattle.sc_graph.specs.declared.control.Control.{Control}
use Rattle.sc_graph.specs.Tick.{initial}
use Rattle.bytecode.specs.Image.{Image}
use Rattle.trace_player.specs.Trace.{End, Good, Shows, next_number, Goes, Trace, AreLinesOf, PlaysPart}

-- of two ways to cut the same bytes in two, the second one cuts in the first part, or behind it
abbrev Within : List ℕ → List ℕ → Type 0
Within a c = (n : ℕ) × (c ≡ take n a)

abbrev Beyond : List ℕ → List ℕ → List ℕ → List ℕ → Type 0
Beyond a b c d = (e : List ℕ) × (c ≡ a ++ e) × (b ≡ e ++ d)

later : (x y : ℕ) (a b c d : List ℕ) → y ≡ x → Within a c ⊎ Beyond a b c d → Within (x ∷ a) (y ∷ c) ⊎ Beyond (x ∷ a) b (y ∷ c) d
later x y a b c d same (inl w) = let rest = w.1 in inl (suc w.0, cc (same, rest))
later x y a b c d same (inr e) = let rest = e.1 in inr (e.0, cc (same, rest), e.2)

two_cuts : (a b c d : List ℕ) → a ++ b ≡ c ++ d → Within a c ⊎ Beyond a b c d
two_cuts [] b c d same = inr (c, refl, same)
two_cuts (x ∷ a) b [] d same = inl (0, refl)
two_cuts (x ∷ a) b (y ∷ c) d same =
    let all : x ∷ (a ++ b) ≡ y ∷ (c ++ d) = same in
    let heads : y ≡ x = cc all in
    let tails : a ++ b ≡ c ++ d = cc all in
    later x y a b c d heads (two_cuts a b c d tails)

-- the trace of some first lines, of whose output so many bytes were written, to an end in its last line
record CutAt (image : Image) (k : ℕ) (c : Control) (lines : List (List ℕ)) (sent : List ℕ) : Type 0 where
  first : List (List ℕ)
  rest : List (List ℕ)
  cut : lines ≡ first ++ rest
  out : List (List ℕ)
  last : List ℕ
  goes : Goes image k c first (out ++ last ∷ []) Good
  part : ℕ
  is : sent ≡ concat out ++ take part last

-- in the first line
cut_in_first : (image : Image) (k : ℕ) (c d : Control) (line shown : List ℕ) (lines : List (List ℕ)) (sent : List ℕ) (n : ℕ)
    → Shows image k c line d shown → sent ≡ take n shown → CutAt image k c (line ∷ lines) sent
cut_in_first image k c d line shown lines sent n shows is =
    record { first = line ∷ []; rest = lines; cut = refl; out = []; last = shown; goes = (d, shows, refl); part = n; is = is }

-- behind it
cut_behind : (image : Image) (k : ℕ) (c d : Control) (line shown : List ℕ) (lines : List (List ℕ)) (sent more : List ℕ)
    → Shows image k c line d shown → sent ≡ shown ++ more → CutAt image (next_number k) d lines more → CutAt image k c (line ∷ lines) sent
cut_behind image k c d line shown lines sent more shows is later =
    record {
      first = line ∷ later.first;
      rest = later.rest;
      cut = ap (λ ls. line ∷ ls) later.cut;
      out = shown ∷ later.out;
      last = later.last;
      goes = (d, shows, later.goes);
      part = later.part;
      is = is ∙ ap (λ bytes. shown ++ bytes) later.is ∙ sym (append_assoc shown (concat later.out) (take later.part later.last));
    }

cut_by : (image : Image) (k : ℕ) (c d : Control) (line shown : List ℕ) (lines out : List (List ℕ)) (sent unsent : List ℕ)
    → Shows image k c line d shown
    → ((more : List ℕ) → out ≢ [] → concat out ≡ more ++ unsent → CutAt image (next_number k) d lines more)
    → Within shown sent ⊎ Beyond shown (concat out) sent unsent → CutAt image k c (line ∷ lines) sent
cut_by image k c d line shown lines out sent unsent shows rest (inl w) = cut_in_first image k c d line shown lines sent w.0 shows w.1
cut_by image k c d line shown lines [] sent unsent shows rest (inr b) =
    let nothing : [] ≡ b.0 ++ unsent = b.2 in
    let none : b.0 ≡ [] = none_before b.0 unsent nothing in
    cut_in_first image k c d line shown lines sent (length shown) shows
    (b.1 ∙ ap (λ more. shown ++ more) none ∙ append-nil shown ∙ sym (take_all (length shown) shown (omega arith)))
  where
    none_before : (a b : List ℕ) → [] ≡ a ++ b → a ≡ []
    none_before [] b e = refl
    none_before (x ∷ a) b e = absurd cc
cut_by image k c d line shown lines (second ∷ out) sent unsent shows rest (inr b) =
    cut_behind image k c d line shown lines sent b.0 shows b.1 (rest b.0 (λ e. cc) b.2)

-- a trace is cut where its bytes are
cut_trace : (image : Image) (k : ℕ) (c : Control) (lines out : List (List ℕ)) (end : End) (sent unsent : List ℕ)
    → Goes image k c lines out end → out ≢ [] → concat out ≡ sent ++ unsent → CutAt image k c lines sent
cut_trace image k c [] [] end sent unsent goes some same = absurd (some refl)
cut_trace image k c [] (shown ∷ out) end sent unsent goes some same = absurd goes
cut_trace image k c (line ∷ lines) [] end sent unsent goes some same = absurd (some refl)
cut_trace image k c (line ∷ lines) (shown ∷ out) end sent unsent goes some same =
    cut_by image k c goes.0 line shown lines out sent unsent goes.1
    (λ more others. cut_trace image (next_number k) goes.0 lines out end more unsent goes.2 others)
    (two_cuts shown (concat out) sent unsent same)

-- of an input whose first lines have this trace, a sink took these bytes, and of those behind them the first n
pub part_of : (image : Image) (input : Option (List ℕ)) (old sent behind : List ℕ) (n : ℕ) (lines rest out : List (List ℕ)) (end : End)
    → AreLinesOf input (lines ++ rest) → Trace image lines out end → out ≢ [] → concat out ≡ sent ++ behind
    → PlaysPart image input (Some old) (Some ((old ++ sent) ++ take n behind))
part_of image input old sent behind n lines rest out end are trace some same =
    let all : concat out ≡ (sent ++ take n behind) ++ drop n behind =
    same ∙ ap (λ bytes. sent ++ bytes) (sym (take-append-drop n behind)) ∙ sym (append_assoc sent (take n behind) (drop n behind)) in
    let at = cut_trace image 1 (initial image.program) lines out end (sent ++ take n behind) (drop n behind) trace some all in
    record {
      first = at.first;
      rest = at.rest ++ rest;
      cut = subst (AreLinesOf input) (ap (λ ls. ls ++ rest) at.cut ∙ append_assoc at.first at.rest rest) are;
      out = at.out;
      last = at.last;
      trace = at.goes;
      before = Some (old ++ concat at.out);
      written = refl;
      in_part = (
        at.part,
        append_assoc old sent (take n behind) ∙ ap (λ bytes. old ++ bytes) at.is ∙ sym (append_assoc old (concat at.out) (take at.part at.last)),
      );
    }

-- so too where nothing was taken of what is before them
pub nothing_out : (out : List (List ℕ)) (sent behind : List ℕ) → behind ≢ [] → concat out ≡ sent ++ behind → out ≢ []
nothing_out out sent behind some same none =
    let nothing : [] ≡ sent ++ behind = sym (ap concat none) ∙ same in
    some (none_behind sent behind nothing)
  where
    none_behind : (a b : List ℕ) → [] ≡ a ++ b → b ≡ []
    none_behind [] b e = sym e
    none_behind (x ∷ a) b e = absurd cc
