-- Where labels and gotos lead. They take no step: a thread comes to stand at the next other statement.
use Rattle.std.specs.Prelude.{ℕ, zero, suc, ◌+◌, Option, Some, None, List, option_map, option_and_then, if◌then◌else◌}
use Rattle.std.specs.Str.{bytes_eq}
use Rattle.scl.specs.Block.{Block, End, Assign, Label, Goto, Pause, If, Fork, Branches}
use Rattle.scl.specs.Sums.{Sum, total, total_among}

-- a list of statements, and then what follows it
abbrev pub before : Block → Block → Block
before (End n) k = k
before (Assign n x e rest) k = Assign n x e (before rest k)
before (Label name rest) k = Label name (before rest k)
before (Goto g name rest) k = Goto g name (before rest k)
before (Pause n rest) k = Pause n (before rest k)
before (If n e first second rest) k = If n e first second (before rest k)
before (Fork n branches rest) k = Fork n branches (before rest k)

-- what stands behind the labels at the front
pub data Front : Type 0 where
  Jumps : (g : ℕ) (name : List ℕ) → Front
  Begins : (todo : Block) → Front

abbrev pub front : Block → Front
front (Label name rest) = front rest
front (Goto g name rest) = Jumps g name
front todo = Begins todo

abbrev pub or_else : Option Block → Option Block → Option Block
or_else (Some k) other = Some k
or_else None other = other

-- what is to be done from behind the label of this name, which stands in the thread itself, up to the thread's end.
-- What follows an if is behind the labels in it too
abbrev pub behind_own_label : Block → List ℕ → Option Block
behind_own_label (End n) name = None
behind_own_label (Assign n x e rest) name = behind_own_label rest name
behind_own_label (Label l rest) name = if bytes_eq l name then Some rest else behind_own_label rest name
behind_own_label (Goto g l rest) name = behind_own_label rest name
behind_own_label (Pause n rest) name = behind_own_label rest name
behind_own_label (If n e first second rest) name =
    or_else (option_map (λ k. before k rest) (behind_own_label first name))
    (or_else (option_map (λ k. before k rest) (behind_own_label second name)) (behind_own_label rest name))
behind_own_label (Fork n branches rest) name = behind_own_label rest name

-- the same for a label in one of the threads that are forked in a text. It ends with its own thread: nothing of the
-- thread that forks follows
abbrev pub behind_lower : List ℕ → Sum (Option Block)
behind_lower name =
    record {
      nothing = None;
      together = or_else;
      label = λ other found. found;
      fork = or_else;
      branch = λ t body found. or_else (behind_own_label body name) found;
    }

abbrev pub behind_lower_label : Block → List ℕ → Option Block
behind_lower_label thread name = total (behind_lower name) thread

abbrev pub behind_label_among : Branches → List ℕ → Option Block
behind_label_among branches name = total_among (behind_lower name) branches

-- the same for a label in a thread or in one that it forks; None where there is none
abbrev pub behind_label : Block → List ℕ → Option Block
behind_label thread name = or_else (behind_own_label thread name) (behind_lower_label thread name)

-- how many labels there are
abbrev pub labels_counted : Sum ℕ
labels_counted =
    record { nothing = 0; together = λ a b. a + b; label = λ name count. suc count; fork = λ a b. a + b; branch = λ t body count. count }

abbrev pub label_count : Block → ℕ
label_count = total labels_counted

abbrev pub label_count_among : Branches → ℕ
label_count_among = total_among labels_counted

-- the statement to which at most so many gotos lead
abbrev pub reached_by : Block → ℕ → Front → Option Block
reached_by root most (Begins todo) = Some todo
reached_by root zero (Jumps g name) = None
reached_by root (suc most) (Jumps g name) =
    option_and_then (λ k. reached_by root most (front k)) (behind_label root name)

-- the statement at which a thread comes to stand. A way through more gotos than there are labels comes to one of them
-- twice, and so leads nowhere: then None
abbrev pub settled : Block → Block → Option Block
settled root todo = reached_by root (label_count root) (front todo)
