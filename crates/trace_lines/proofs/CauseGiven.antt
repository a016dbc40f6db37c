-- The line that is given of the bytes that are kept.
use Rattle.std.proofs.Common.{◌≡◌, ◌≢◌, ℕ, ◌+◌, ◌-◌, ◌<◌, ◌≤◌, Bool, true, false, List, [], ◌∷◌, ◌++◌}
use Rattle.std.proofs.Common.{length, Option, Some, None, inl, inr, refl, ap, sym, ◌∙◌, subst, arith, append-nil, length-append}
use Rattle.trace_lines.specs.Lines.{has_feed, first_line, ahead, line_limit}
use Rattle.trace_lines.proofs.Feeds.{first_line-append, first_line-none, length-feed, length-first_line}
use Rattle.trace_lines.specs.declared.causes.line.Line.{Line}
use Rattle.trace_lines.specs.declared.causes.line.Line.TheVariants as given
use Rattle.trace_lines.specs.Inside.Causes.{AreBehind, HasEnded, IsFirst, IsFound, Leads}
use Rattle.trace_lines.specs.Recent.{IsGiven, IsLine, IsLong, behind_lines}

-- the bytes behind n lines are some, and this is the first line of them
abbrev Begins : ℕ → List ℕ → List ℕ → Type 0
Begins n all line = (behind_lines n all ≢ []) × (line ≡ first_line (behind_lines n all))

one_less : (n : ℕ) → n + 1 - 1 ≡ n
one_less n = omega arith

is_line : (input to_come : Option (List ℕ)) (rest line : List ℕ) (n : ℕ) → AreBehind input n (ahead rest to_come)
    → ((all : List ℕ) → ahead rest to_come ≡ Some (behind_lines n all) → Begins n all line) → IsLine input (n + 1) line
is_line input to_come rest line n are begins = λ all known.
    subst (λ k. Begins k all line) (sym (one_less n)) (begins all (are all known))

some_of : (xs : List ℕ) → 0 < length xs → xs ≢ []
some_of [] long = absurd (omega arith)
some_of (x ∷ xs) long = λ e. let none : length (x ∷ xs) ≡ 0 = ap length e in absurd (omega arith)

feed_begins : (to_come : Option (List ℕ)) (rest line all : List ℕ) (n : ℕ) → has_feed rest ≡ true → line ≡ first_line rest
    → ahead rest to_come ≡ Some (behind_lines n all) → Begins n all line
feed_begins None rest line all n feed is ahead_is = absurd cc
feed_begins (Some t) rest line all n feed is ahead_is =
    let same : rest ++ t ≡ behind_lines n all = cc in
    let joined = length-append rest t in
    let some = length-feed rest feed in
    let longer : 0 < length (rest ++ t) = omega arith in (
      some_of (behind_lines n all) (subst (λ xs. 0 < length xs) same longer),
      is ∙ sym (first_line-append [] rest t refl feed) ∙ ap first_line same,
    )

pub whole_line : (input to_come : Option (List ℕ)) (rest line : List ℕ) (n : ℕ) → has_feed rest ≡ true → line ≡ first_line rest
    → AreBehind input n (ahead rest to_come) → IsLine input (n + 1) line
whole_line input to_come rest line n feed is are = is_line input to_come rest line n are (λ all. feed_begins to_come rest line all n feed is)

ended_begins : (to_come : Option (List ℕ)) (rest all : List ℕ) (n : ℕ) → has_feed rest ≡ false → 0 < length rest → HasEnded to_come
    → ahead rest to_come ≡ Some (behind_lines n all) → Begins n all rest
ended_begins None rest all n none some ended ahead_is = absurd cc
ended_begins (Some t) rest all n none some ended ahead_is =
    let same : rest ++ t ≡ behind_lines n all = cc in
    let empty : t ≡ [] = ended t refl in
    let whole : rest ≡ behind_lines n all = sym (append-nil rest) ∙ ap (λ xs. rest ++ xs) (sym empty) ∙ same in (
      some_of (behind_lines n all) (subst (λ xs. 0 < length xs) whole some),
      sym (first_line-none rest none) ∙ ap first_line whole,
    )

pub last_whole : (input to_come : Option (List ℕ)) (rest : List ℕ) (n : ℕ) → has_feed rest ≡ false → 0 < length rest → HasEnded to_come
    → AreBehind input n (ahead rest to_come) → IsLine input (n + 1) rest
last_whole input to_come rest n none some ended are = is_line input to_come rest rest n are (λ all. ended_begins to_come rest all n none some ended)

long_begins : (to_come : Option (List ℕ)) (rest all : List ℕ) (n : ℕ) → has_feed rest ≡ false → line_limit < length rest
    → ahead rest to_come ≡ Some (behind_lines n all) → line_limit < length (first_line (behind_lines n all))
long_begins None rest all n none long ahead_is = absurd cc
long_begins (Some t) rest all n none long ahead_is =
    let same : rest ++ t ≡ behind_lines n all = cc in
    let at_least = length-first_line rest t none in
    subst (λ xs. line_limit < length (first_line xs)) same (omega (arith, at_least, long))

unknown : {P : Type 0} (known : Option (List ℕ)) (all : List ℕ) → known ≡ None → known ≡ Some all → P
unknown known all none some = absurd cc

same_of : (all other : List ℕ) → Some all ≡ Some other → all ≡ other
same_of all other known = cc

long_of : (all : List ℕ) (to_come : Option (List ℕ)) (rest : List ℕ) (n : ℕ) → line_limit < length (first_line (behind_lines n all))
    → Begins n all (first_line (behind_lines n all))
long_of all to_come rest n long = (
  λ e. let none_left : length (first_line (behind_lines n all)) ≡ 0 = ap (λ xs. length (first_line xs)) e in absurd (omega arith),
  refl,
)

pub long_line : (input to_come : Option (List ℕ)) (rest : List ℕ) (n : ℕ) → has_feed rest ≡ false → line_limit < length rest
    → AreBehind input n (ahead rest to_come) → IsLong input (n + 1)
long_line None to_come rest n none long are = record { line = rest; is = λ all known. unknown None all refl known; long = long }
long_line (Some all) to_come rest n none long are =
    let first = long_begins to_come rest all n none long (are all refl) in
    record {
      line = first_line (behind_lines n all);
      is = λ other known. subst (λ k. Begins k other (first_line (behind_lines n all))) (sym (one_less n))
          (subst (λ xs. Begins n xs (first_line (behind_lines n all))) (same_of all other known) (long_of all to_come rest n first));
      long = first;
    }

pub found_feed : (rest line : List ℕ) (ended : Bool) → has_feed rest ≡ true → line ≡ first_line rest → IsFirst rest ended line
found_feed rest line ended feed is = inl (feed, is)

pub found_end : (rest line : List ℕ) (ended : Bool) → has_feed rest ≡ false → 0 < length rest → ended ≡ true → line ≡ rest → IsFirst rest ended line
found_end rest line ended none some end is = inr (none, some, end, is)

first_line_is : (input to_come : Option (List ℕ)) (rest line : List ℕ) (ended : Bool) (n : ℕ) → IsFirst rest ended line → (ended ≡ true → HasEnded to_come)
    → AreBehind input n (ahead rest to_come) → IsLine input (n + 1) line
first_line_is input to_come rest line ended n (inl (feed, is)) end are = whole_line input to_come rest line n feed is are
first_line_is input to_come rest line ended n (inr (none, some, ends, is)) end are =
    subst (IsLine input (n + 1)) (sym is) (last_whole input to_come rest n none some (end ends) are)

found_is : (input to_come : Option (List ℕ)) (rest : List ℕ) (line : Line) (ended : Bool) (n : ℕ) → IsFound rest ended line → (ended ≡ true → HasEnded to_come)
    → AreBehind input n (ahead rest to_come) → IsGiven input (n + 1) line
found_is input to_come rest (given.Whole line) ended n found end are = first_line_is input to_come rest line.now ended n found end are
found_is input to_come rest given.Long ended n found end are = long_line input to_come rest n found.0 found.1 are
found_is input to_come rest given.Lost ended n found end are = tt

-- the line of a number, of the bytes behind those before it
pub given_behind : (start to_come : Option (List ℕ)) (kept rest : List ℕ) (before lines number : ℕ) (ended : Bool) (line : Line)
    → before < number → lines ≡ number - 1 - before → (ended ≡ true → HasEnded to_come) → AreBehind start before (ahead kept to_come)
    → ((b : ℕ) → Leads kept b rest (b + lines)) → IsFound rest ended line → IsGiven start number line
given_behind start to_come kept rest before lines number ended line within is end are leads found =
    let same : before + lines + 1 ≡ number = omega (arith, is, within) in
    subst (λ k. IsGiven start k line) same (found_is start to_come rest line ended (before + lines) found end (leads before start to_come are))
