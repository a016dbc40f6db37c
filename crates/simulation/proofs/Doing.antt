-- What a line does to a history.
use Rattle.std.proofs.Common.{◌≡◌, ℕ, Option, Some, List, ◌++◌, length, subst}
use Rattle.std.specs.Str.{IsUtf8, trim}
use Rattle.simulation.specs.declared.words.Command.{Command}
use Rattle.simulation.specs.History.{History}
use Rattle.simulation.specs.Commands.{Answers, Does, IsUntold, MayDo, TellsStand, said, stand_line}

-- the number of the last tick, and more
pub stands : (h : History) (line more told : List ℕ) → line ≡ stand_line (length h.ticks) → told ≡ line ++ more → TellsStand h told
stands h line more told is all = (more, subst (λ l. told ≡ l ++ more) is all)

-- the line is text
pub of_text : (line text : List ℕ) (command : Command) (old new : History) (told : Option (List ℕ)) → IsUtf8 line → text ≡ trim line
    → command ≡ said text → Does command text old new told → Answers line old new told
of_text line text command old new told utf8 trimmed says does =
    let here : Does (said text) text old new told = subst (λ k. Does k text old new told) says does in
    record {
      text = λ _. subst (λ t. Does (said t) t old new told) trimmed here;
      no_text = λ none. absurd (none utf8);
    }

-- it is none
pub of_none : (line : List ℕ) (old new : History) (told : List ℕ) → ¬ IsUtf8 line → new ≡ old → Answers line old new (Some told)
of_none line old new told none same =
    record {
      text = λ utf8. absurd (none utf8);
      no_text = λ _. same;
    }

-- memory was refused
pub untold : (line text : List ℕ) (command : Command) (old new : History) → IsUtf8 line → text ≡ trim line → command ≡ said text
    → MayDo command text old new → IsUntold line old new
untold line text command old new utf8 trimmed says may =
    let here : MayDo (said text) text old new = subst (λ k. MayDo k text old new) says may in
    record {
      text = λ _. subst (λ t. MayDo (said t) t old new) trimmed here;
      no_text = λ none. absurd (none utf8);
    }
