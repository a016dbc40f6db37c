-- Two texts that are alike so far.
use Rattle.std.proofs.Common.{◌≡◌, ◌≢◌, ◌∙◌, ℕ, ◌+◌, ◌≤◌, Option, Some, None, List, [], ◌∷◌, ◌++◌, length, slice_get, drop}
use Rattle.std.proofs.Common.{refl, ap, sym, arith, append_assoc, length-append}
use Rattle.std.proofs.Math.Seq.{drop-append_seam}
use Rattle.trace_player.specs.Trace.{lines_of}
use Rattle.controller_tests.specs.Difference.{AreSameLines, DifferAt}
use Rattle.controller_tests.specs.Inside.Lines.{Begins}

-- both begin with the same lines, and these are left; the next line has this number
pub record Alike (wanted got ahead others : List ℕ) (number : ℕ) : Type 0 where
  pub alike : List (List ℕ)
  pub wanted_lines : lines_of wanted ≡ alike ++ lines_of ahead
  pub got_lines : lines_of got ≡ alike ++ lines_of others
  pub count : number ≡ length alike + 1
  pub room : length alike + length ahead ≤ length wanted

pub none_alike : (wanted got : List ℕ) → Alike wanted got wanted got 1
none_alike wanted got = record { alike = []; wanted_lines = refl; got_lines = refl; count = refl; room = omega arith }

one_more : (all ahead rest : List ℕ) (alike : List (List ℕ)) (line : List ℕ) → lines_of all ≡ alike ++ lines_of ahead → lines_of ahead ≡ line ∷ lines_of rest
    → lines_of all ≡ (alike ++ line ∷ []) ++ lines_of rest
one_more all ahead rest alike line is begins =
    is ∙ ap (λ lines. alike ++ lines) begins ∙ sym (append_assoc alike (line ∷ []) (lines_of rest))

-- one line more is alike
pub one_alike : (wanted got ahead others rest behind line : List ℕ) (number : ℕ) → Alike wanted got ahead others number
    → Begins ahead (Some line) rest → Begins others (Some line) behind → Alike wanted got rest behind (number + 1)
one_alike wanted got ahead others rest behind line number a one other =
    let longer : length (a.alike ++ line ∷ []) ≡ length a.alike + 1 = length-append a.alike (line ∷ []) in
    record {
      alike = a.alike ++ line ∷ [];
      wanted_lines = one_more wanted ahead rest a.alike line a.wanted_lines one.0;
      got_lines = one_more got others behind a.alike line a.got_lines other.0;
      count = omega (arith, a.count, longer);
      room = omega (arith, a.room, longer, one.1);
    }

-- the first line, if there is one
first_of : (bytes rest : List ℕ) (line : Option (List ℕ)) → Begins bytes line rest → line ≡ slice_get (lines_of bytes) 0
first_of bytes rest None none = sym (ap (λ xs. slice_get (lines_of xs) 0) none)
first_of bytes rest (Some line) begins = sym (ap (λ lines. slice_get lines 0) begins.0)

-- the next line differs
pub next_differs : (wanted got ahead others rest behind : List ℕ) (line other : Option (List ℕ)) (number : ℕ) → Alike wanted got ahead others number
    → Begins ahead line rest → Begins others other behind → line ≢ other → DifferAt wanted got number line other
next_differs wanted got ahead others rest behind line other number a one two differ = record {
  alike = a.alike;
  rest = lines_of ahead;
  others = lines_of others;
  wanted_lines = a.wanted_lines;
  got_lines = a.got_lines;
  count = a.count;
  line_is = first_of ahead rest line one;
  other_is = first_of others behind other two;
  differ = differ;
}

-- both have ended
pub all_alike : (wanted got ahead others : List ℕ) (number : ℕ) → Alike wanted got ahead others number → ahead ≡ [] → others ≡ []
    → AreSameLines wanted got
all_alike wanted got ahead others number a none no_more =
    a.wanted_lines ∙ ap (λ xs. a.alike ++ lines_of xs) none ∙ sym (a.got_lines ∙ ap (λ xs. a.alike ++ lines_of xs) no_more)

rest_of : (alike rest others : List (List ℕ)) → alike ++ rest ≡ alike ++ others → rest ≡ others
rest_of alike rest others same = sym (drop-append_seam alike rest) ∙ ap (λ xs. drop (length alike) xs) same ∙ drop-append_seam alike others

-- texts that differ at a line have not the same lines
pub differ_not_same : (wanted got : List ℕ) (number : ℕ) (line other : Option (List ℕ)) → DifferAt wanted got number line other → AreSameLines wanted got → ⊥
differ_not_same wanted got number line other d same =
    let joined : d.alike ++ d.rest ≡ d.alike ++ d.others = sym d.wanted_lines ∙ same ∙ d.got_lines in
    d.differ (d.line_is ∙ ap (λ xs. slice_get xs 0) (rest_of d.alike d.rest d.others joined) ∙ sym d.other_is)
