-- How the lines of an input lead on, one after another.
use Rattle.std.proofs.Common.{◌≡◌, ◌∙◌, ◌↔◌, ℕ, ◌+◌, min, Bool, true, false, Option, Some, None, List, [], ◌∷◌, ◌++◌, length}
use Rattle.std.specs.Prelude.{Result, Ok, Err, OnOk, IfErr, IsTrue}
use Rattle.std.proofs.Common.{refl, ap, sym, subst, arith, append_assoc, append-nil, length-append, inl, inr}
use Rattle.std.specs.List.{concat}
use Rattle.std.specs.Io.KnownBytes.{Appends, IsAtEnd}
use Rattle.std.proofs.lemmas.List.Folds.{concat-append}
use Rattle.std.proofs.KnownBytes.{Appends-nil, Appends-trans, prepend_known-nil}
use Rattle.bytecode.specs.Image.{Image}
use Rattle.trace_lines.specs.declared.lines.LineEnd.{LineEnd}
use Rattle.trace_lines.specs.declared.lines.LineEnd.TheVariants as line_end
use Rattle.trace_lines.specs.Lines.{ahead, TakesLine, IsTooLong}
use Rattle.trace_player.specs.declared.player.PlayFault.{PlayFault}
use Rattle.trace_player.specs.declared.player.PlayFault.TheVariants as play_fault
use Rattle.trace_player.specs.Trace.{greatest, next_number}
use Rattle.trace_player.proofs.Splits.{Cut, known_lines, cut_known, are_lines, cut_at_end, cut_taken, cut_too_long}
use Rattle.simulation.specs.History.{History, begun}
use Rattle.simulation.specs.Commands.{Answers}
use Rattle.simulation.specs.Lines.{AnswersAll, LeadTo, Simulates, Stops, StopsAtLine, greeting}
use Rattle.simulation.specs.Inside.Turns.{AnswersNext, Ends, IsSaidToEnd, IsUnanswered, Leaves, TurnsTo}

-- the first lines of an input were answered, and have led here
pub record HasLed (first here : History) (start now : Option (List ℕ)) (number : ℕ) (old new : Option (List ℕ)) : Type 0 where
  pub done : List (List ℕ)
  pub out : List (List ℕ)
  pub cut : (rest : List (List ℕ)) → Cut now rest → Cut start (done ++ rest)
  pub leads : (lines told : List (List ℕ)) (end : History) → LeadTo here lines told end → LeadTo first (done ++ lines) (out ++ told) end
  pub one_each : length out ≡ length done
  pub number_is : number ≡ min (length done) greatest
  pub written : Appends old new (concat out)

pub at_start : (first : History) (start old : Option (List ℕ)) → HasLed first first start start 0 old old
at_start first start old = record {
  done = [];
  out = [];
  cut = λ rest cut. cut;
  leads = λ lines told end leads. leads;
  one_each = refl;
  number_is = refl;
  written = Appends-nil old;
}

-- one line more was answered
pub one_more : (first here next : History) (start now after : Option (List ℕ)) (number k : ℕ) (old new newer : Option (List ℕ)) → k ≡ next_number number
    → HasLed first here start now number old new → AnswersNext here next now after new newer → HasLed first next start after k old newer
one_more first here next start now after number k old new newer is l a = record {
  done = l.done ++ a.line ∷ [];
  out = l.out ++ a.told ∷ [];
  cut = λ rest cut.
      subst (Cut start) (sym (append_assoc l.done (a.line ∷ []) rest)) (l.cut (a.line ∷ rest) (cut_taken now after a.line rest a.takes cut));
  leads = λ lines told end leads.
      subst (λ xs. LeadTo first xs ((l.out ++ a.told ∷ []) ++ told) end) (sym (append_assoc l.done (a.line ∷ []) lines))
      (subst (λ ys. LeadTo first (l.done ++ a.line ∷ lines) ys end) (sym (append_assoc l.out (a.told ∷ []) told))
      (l.leads (a.line ∷ lines) (a.told ∷ told) end (next, a.answers, leads)));
  one_each = omega (arith, l.one_each, length-append l.out (a.told ∷ []), length-append l.done (a.line ∷ []));
  number_is = omega (arith, is, l.number_is, length-append l.done (a.line ∷ []));
  written =
      subst (Appends old newer) (sym (concat-append l.out (a.told ∷ []) ∙ ap (λ last. concat l.out ++ last) (append-nil a.told)))
      (Appends-trans old new newer (concat l.out) a.told l.written a.written);
}

-- nothing more is ahead
all_led : (first here : History) (start now : Option (List ℕ)) (number : ℕ) (old new : Option (List ℕ))
    → HasLed first here start now number old new → IsAtEnd now → AnswersAll first start old new
all_led first here start now number old new l ended = record {
  lines = l.done ++ [];
  cut = are_lines start (l.done ++ []) (l.cut [] (cut_at_end now ended));
  out = l.out;
  end = here;
  leads = subst (λ ys. LeadTo first (l.done ++ []) ys here) (append-nil l.out) (l.leads [] [] here refl);
  written = l.written;
}

-- the next line says that this is the end
said_to_end : (first here next : History) (start now after : Option (List ℕ)) (number : ℕ) (old new newer : Option (List ℕ))
    → HasLed first here start now number old new → IsSaidToEnd here next now after new newer → AnswersAll first start old newer
said_to_end first here next start now after number old new newer l s =
    let rest = known_lines after in
    record {
      lines = l.done ++ s.line ∷ rest;
      cut = are_lines start (l.done ++ s.line ∷ rest) (l.cut (s.line ∷ rest) (cut_taken now after s.line rest s.takes (cut_known after)));
      out = l.out;
      end = next;
      leads = subst (λ ys. LeadTo first (l.done ++ s.line ∷ rest) ys next) (append-nil l.out) (l.leads (s.line ∷ rest) [] next s.answers);
      written = subst (λ n. Appends old n (concat l.out)) (sym s.same) l.written;
    }

-- nothing more is to be read
pub has_ended : (first here next : History) (start now after : Option (List ℕ)) (number : ℕ) (old new newer : Option (List ℕ))
    → HasLed first here start now number old new → Ends here next now after new newer → AnswersAll first start old newer
has_ended first here next start now after number old new newer l (inl none) =
    subst (AnswersAll first start old) (sym none.2) (all_led first here start now number old new l none.1)
has_ended first here next start now after number old new newer l (inr (inl s)) = said_to_end first here next start now after number old new newer l s
has_ended first here next start now after number old new newer l (inr (inr a)) =
    let k = next_number number in
    all_led first next start after k old newer (one_more first here next start now after number k old new newer refl l a.0) a.1

-- the next line is too long
long_line : (first here : History) (start now : Option (List ℕ)) (number : ℕ) (old new newer : Option (List ℕ)) (line : ℕ)
    → HasLed first here start now number old new → line ≡ next_number number → IsTooLong now → newer ≡ new → StopsAtLine first start old newer line
long_line first here start now number old new newer line l is long same =
    let cut = cut_too_long now long in
    record {
      first = l.done;
      long = cut.0;
      rest = cut.1;
      cut = are_lines start (l.done ++ cut.0 ∷ cut.1) (l.cut (cut.0 ∷ cut.1) cut.3);
      too_long = cut.2;
      number_is = omega (arith, is, l.number_is);
      out = l.out;
      end = here;
      leads =
          subst (λ xs. LeadTo first xs l.out here) (append-nil l.done)
          (subst (λ ys. LeadTo first (l.done ++ []) ys here) (append-nil l.out) (l.leads [] [] here refl));
      one_each = l.one_each;
      written = subst (λ n. Appends old n (concat l.out)) (sym same) l.written;
    }

pub has_stopped : (first here : History) (start now : Option (List ℕ)) (number k : ℕ) (old new newer : Option (List ℕ)) (fault : PlayFault)
    → k ≡ next_number number → HasLed first here start now number old new → IsUnanswered k now new newer fault → Leaves first start old newer fault
has_stopped first here start now number k old new newer (play_fault.NotJson line) is l u =
    long_line first here start now number old new newer line l (u.0 ∙ is) u.1 u.2
has_stopped first here start now number k old new newer (play_fault.Input line) is l u = u
has_stopped first here start now number k old new newer play_fault.Memory is l u = tt
has_stopped first here start now number k old new newer play_fault.Read is l u = tt
has_stopped first here start now number k old new newer play_fault.Write is l u = tt

-- ---- one line

-- the line says that this is the end
pub says_end : (line : List ℕ) (h next : History) (now after old : Option (List ℕ)) → TakesLine now after line → Answers line h next None
    → Ends h next now after old old
says_end line h next now after old takes answers = inr (inl (record { line = line; takes = takes; answers = answers; same = refl }))

by_end : (more : Bool) (end : LineEnd) (h next : History) (now after old new : Option (List ℕ)) → (IsTrue more ↔ (end ≡ line_end.Feed))
    → (end ≡ line_end.Input → IsAtEnd after) → AnswersNext h next now after old new → TurnsTo more h next now after old new
by_end true end h next now after old new goes last a = a
by_end false line_end.Feed h next now after old new goes last a = let no = goes.1 refl in absurd cc
by_end false line_end.Input h next now after old new goes last a = inr (inr (a, last refl))

-- the line was answered
pub is_answered : (more : Bool) (end : LineEnd) (line told : List ℕ) (h next : History) (now after old new : Option (List ℕ))
    → (IsTrue more ↔ (end ≡ line_end.Feed)) → (end ≡ line_end.Input → IsAtEnd after) → TakesLine now after line → Answers line h next (Some told)
    → Appends old new told → TurnsTo more h next now after old new
is_answered more end line told h next now after old new goes last takes answers written =
    by_end more end h next now after old new goes last
    (record { line = line; told = told; takes = takes; answers = answers; written = written })

-- ---- from the beginning

from_start : (image : Image) (h : History) (held : List ℕ) (input old greeted new : Option (List ℕ)) → h ≡ begun image → held ≡ []
    → Appends old greeted greeting → AnswersAll h (ahead held input) greeted new → Simulates image input old new
from_start image h held input old greeted new is none greets all = (
  greeted,
  greets,
  subst (λ bytes. AnswersAll (begun image) bytes greeted new) (prepend_known-nil input)
      (subst (λ xs. AnswersAll (begun image) (ahead xs input) greeted new) none (subst (λ g. AnswersAll g (ahead held input) greeted new) is all)),
)

left_at_line : (image : Image) (h : History) (held : List ℕ) (input greeted new : Option (List ℕ)) (line : ℕ) → h ≡ begun image → held ≡ []
    → StopsAtLine h (ahead held input) greeted new line → StopsAtLine (begun image) input greeted new line
left_at_line image h held input greeted new line is none stops =
    subst (λ bytes. StopsAtLine (begun image) bytes greeted new line) (prepend_known-nil input)
    (subst (λ xs. StopsAtLine (begun image) (ahead xs input) greeted new line) none (subst (λ g. StopsAtLine g (ahead held input) greeted new line) is stops))

left_from_start : (image : Image) (h : History) (held : List ℕ) (input old greeted new : Option (List ℕ)) (fault : PlayFault) → h ≡ begun image
    → held ≡ [] → Appends old greeted greeting → Leaves h (ahead held input) greeted new fault → Stops image input old new fault
left_from_start image h held input old greeted new (play_fault.NotJson line) is none greets left =
    (greeted, greets, left_at_line image h held input greeted new line is none left)
left_from_start image h held input old greeted new (play_fault.Input line) is none greets left = left
left_from_start image h held input old greeted new play_fault.Memory is none greets left = tt
left_from_start image h held input old greeted new play_fault.Read is none greets left = tt
left_from_start image h held input old greeted new play_fault.Write is none greets left = tt

pub all_from_start : {A E : Type 0} (r : Result A E) (image : Image) (h : History) (held : List ℕ) (input old greeted new : Option (List ℕ))
    → h ≡ begun image → held ≡ [] → Appends old greeted greeting → OnOk r (AnswersAll h (ahead held input) greeted new)
    → OnOk r (Simulates image input old new)
all_from_start (Ok a) image h held input old greeted new is none greets all = from_start image h held input old greeted new is none greets all
all_from_start (Err e) image h held input old greeted new is none greets all = tt

pub some_from_start : {A : Type 0} (r : Result A PlayFault) (image : Image) (h : History) (held : List ℕ) (input old greeted new : Option (List ℕ))
    → h ≡ begun image → held ≡ [] → Appends old greeted greeting → IfErr r (Leaves h (ahead held input) greeted new)
    → IfErr r (Stops image input old new)
some_from_start (Ok a) image h held input old greeted new is none greets left = tt
some_from_start (Err fault) image h held input old greeted new is none greets left =
    left_from_start image h held input old greeted new fault is none greets left
