-- The body of a region is a piece of a text, seen from outside, where its states' texts are pieces.
use Rattle.std.proofs.Common.{◌≡◌, ℕ, suc, ◌+◌, ◌⊎◌, inl, inr, Bool, true, false, IsTrue, if◌then◌else◌, List, [], ◌∷◌, ◌++◌, map, refl, sym, subst, arith}
use Rattle.std.specs.Str.{bytes_eq}
use Rattle.sc_graph.specs.declared.program.Variable.{Variable}
use Rattle.scl.specs.declared.statement.Statement.{Statement}
use Rattle.scl.specs.declared.statement.Statement.TheOpen as text
use Rattle.scl.specs.Rules.{part, is_in, thread}
use Rattle.sc_text.proofs.EachItem.{Each}
use Rattle.chart_lowering.specs.declared.targets.Targets.{Targets}
use Rattle.chart_lowering.specs.Lowering.{label_name, label, StatePiece, labels_in_states, labels_in_initial, numbers, texts, body, targets, body_from}
use Rattle.chart_lowering.proofs.Parts.{part_of_label, row, row_append}
use Rattle.chart_lowering.proofs.Pieces.{IsPiece, or_cases, same_name, is_in_left, is_in_right, empty_piece, label_piece, thread_piece}
use Rattle.chart_lowering.proofs.Inside.{targets_of, first_piece, append_piece, begins_with}

-- what is known of a state's text: that it is a piece wherever its numbers begin, and begins with its label
pub record IsText (variables : List Variable) (deep : ℕ) (s : StatePiece) : Type 0 where
  pub piece : (at : Targets) (n : ℕ) → IsPiece variables (targets_of at) deep 1 n s.labels (row (s.text at n))
  pub begins : (at : Targets) (n : ℕ) → IsTrue (is_in (row (s.text at n)).labels (label_name n))

truth : (b : Bool) → (b ≡ true) ⊎ (b ≡ false)
truth true = inl refl
truth false = inr refl

abbrev labels_of_others : List StatePiece → ℕ
labels_of_others [] = 0
labels_of_others (s ∷ states) = if s.is_initial then labels_of_others states else s.labels + labels_of_others states

initial_and_others : (b : Bool) (n a o all : ℕ) → all ≡ a + o → n + all ≡ (if b then n else 0) + a + (if b then o else n + o)
initial_and_others true n a o all h = omega (arith, h)
initial_and_others false n a o all h = omega (arith, h)

all_labels : (states : List StatePiece) → labels_in_states states ≡ labels_in_initial states + labels_of_others states
all_labels [] = omega arith
all_labels (s ∷ states) =
    initial_and_others s.is_initial s.labels (labels_in_initial states) (labels_of_others states) (labels_in_states states) (all_labels states)

others_piece : (variables : List Variable) (deep : ℕ) (states : List StatePiece) → Each (IsText variables deep) states
    → (at : Targets) (first next : ℕ)
    → IsPiece variables (targets_of at) deep 1 next (labels_of_others states) (row (texts false at states (numbers states first next)))
others_piece variables deep [] h at first next = empty_piece variables (targets_of at) deep 1 next
others_piece variables deep (s ∷ states) h at first next =
    elim (truth s.is_initial) [
      | inl e ↦ rw e (others_piece variables deep states h.1 at first next)
      | inr e ↦
          rw e
          (append_piece variables (targets_of at) deep 1 next s.labels (labels_of_others states) (next + s.labels) (s.labels + labels_of_others states)
          (s.text at next) (texts false at states (numbers states first (next + s.labels))) refl refl
          (h.0.piece at next) (others_piece variables deep states h.1 at first (next + s.labels)))
    ]

abbrev pub initial_count : List StatePiece → ℕ
initial_count [] = 0
initial_count (s ∷ states) = if s.is_initial then 1 + initial_count states else initial_count states

no_initial_text : (states : List StatePiece) (at : Targets) (ns : List ℕ) → initial_count states ≡ 0 → texts true at states ns ≡ []
no_initial_text [] at ns = λ none. refl
no_initial_text (s ∷ states) at [] = λ none. refl
no_initial_text (s ∷ states) at (n ∷ ns) =
    elim (truth s.is_initial) [
      | inl e ↦ rw e (λ none. absurd (omega (arith, none)))
      | inr e ↦ rw e (λ none. no_initial_text states at ns none)
    ]

no_initial_labels : (states : List StatePiece) → initial_count states ≡ 0 → labels_in_initial states ≡ 0
no_initial_labels [] = λ none. refl
no_initial_labels (s ∷ states) =
    elim (truth s.is_initial) [
      | inl e ↦ rw e (λ none. absurd (omega (arith, none)))
      | inr e ↦ rw e (λ none. omega (arith, no_initial_labels states none))
    ]

initial_piece : (variables : List Variable) (deep : ℕ) (states : List StatePiece) → Each (IsText variables deep) states
    → (at : Targets) (first next : ℕ) → initial_count states ≡ 1
    → IsPiece variables (targets_of at) deep 1 first (labels_in_initial states) (row (texts true at states (numbers states first next)))
initial_piece variables deep [] h at first next = λ one. absurd cc
initial_piece variables deep (s ∷ states) h at first next =
    elim (truth s.is_initial) [
      | inl e ↦
          rw e (λ one.
          let rest : List Statement = texts true at states (numbers states first next) in
          let none : initial_count states ≡ 0 = omega (arith, one) in
          let labels : labels_in_initial states ≡ 0 = no_initial_labels states none in
          append_piece variables (targets_of at) deep 1 first s.labels 0 (first + s.labels) (s.labels + labels_in_initial states)
          (s.text at first) rest refl (omega (arith, labels)) (h.0.piece at first)
          (subst (λ t. IsPiece variables (targets_of at) deep 1 (first + s.labels) 0 (row t)) (sym (no_initial_text states at (numbers states first next) none))
          (empty_piece variables (targets_of at) deep 1 (first + s.labels))))
      | inr e ↦
          rw e (λ one.
          subst (λ m. IsPiece variables (targets_of at) deep 1 first m (row (texts true at states (numbers states first (next + s.labels))))) (omega arith)
          (initial_piece variables deep states h.1 at first (next + s.labels) one))
    ]

-- all names of the one are in the other
abbrev Within : List (List ℕ) → List (List ℕ) → Type 0
Within names all = (name : List ℕ) → IsTrue (is_in names name) → IsTrue (is_in all name)

within_left : (left right : List Statement) (all : List (List ℕ)) → Within (row (left ++ right)).labels all → Within (row left).labels all
within_left left right all h name is =
    h name (subst (λ p. IsTrue (is_in p.labels name)) (sym (row_append left right)) (is_in_left (row left).labels (row right).labels name is))

within_right : (left right : List Statement) (all : List (List ℕ)) → Within (row (left ++ right)).labels all → Within (row right).labels all
within_right left right all h name is =
    h name (subst (λ p. IsTrue (is_in p.labels name)) (sym (row_append left right)) (is_in_right (row left).labels (row right).labels name is))

one_more_there : (n : ℕ) (ns : List ℕ) (all : List (List ℕ)) → IsTrue (is_in all (label_name n)) → Within (map label_name ns) all
    → Within (label_name n ∷ map label_name ns) all
one_more_there n ns all here others name is =
    elim (or_cases (bytes_eq (label_name n) name) (is_in (map label_name ns) name) is) [
      | inl same ↦ subst (λ l. IsTrue (is_in all l)) (same_name (label_name n) name same) here
      | inr later ↦ others name later
    ]

-- the labels of all states stand in their texts
all_there : (variables : List Variable) (deep : ℕ) (states : List StatePiece) → Each (IsText variables deep) states
    → (at : Targets) (first next : ℕ) (all : List (List ℕ))
    → Within (row (texts true at states (numbers states first next))).labels all
    → Within (row (texts false at states (numbers states first next))).labels all
    → Within (map label_name (numbers states first next)) all
all_there variables deep [] h at first next all = λ initial others name is. absurd cc
all_there variables deep (s ∷ states) h at first next all =
    elim (truth s.is_initial) [
      | inl e ↦
          rw e (λ initial others.
          let rest : List Statement = texts true at states (numbers states first next) in
          one_more_there first (numbers states first next) all
          (within_left (s.text at first) rest all initial (label_name first) (h.0.begins at first))
          (all_there variables deep states h.1 at first next all (within_right (s.text at first) rest all initial) others))
      | inr e ↦
          rw e (λ initial others.
          let rest : List Statement = texts false at states (numbers states first (next + s.labels)) in
          one_more_there next (numbers states first (next + s.labels)) all
          (within_left (s.text at next) rest all others (label_name next) (h.0.begins at next))
          (all_there variables deep states h.1 at first (next + s.labels) all initial (within_right (s.text at next) rest all others)))
    ]

itself : (names : List (List ℕ)) → Within names names
itself names name is = is

-- a region of these states
pub body_is_piece : (variables : List Variable) (deep : ℕ) (states : List StatePiece) → Each (IsText variables deep) states → initial_count states ≡ 1
    → (others : List (List ℕ)) (n : ℕ)
    → IsPiece variables others deep 0 n (suc (labels_in_states states))
    (thread (row (body_from states (numbers states n (n + labels_in_initial states)) (n + labels_in_states states))))
body_is_piece variables deep states h one others n =
    let next : ℕ = n + labels_in_initial states in
    let end : ℕ = n + labels_in_states states in
    let ns : List ℕ = numbers states n next in
    let at : Targets = targets ns end in
    let left : List Statement = texts true at states ns in
    let right : List Statement = texts false at states ns in
    let sum : _ = all_labels states in
    let front : IsPiece variables (targets_of at) deep 1 n (labels_in_states states) (row (left ++ right)) =
    append_piece variables (targets_of at) deep 1 n (labels_in_initial states) (labels_of_others states) next (labels_in_states states) left right
    refl sum (initial_piece variables deep states h at n next one) (others_piece variables deep states h at n next) in
    let last : IsPiece variables (targets_of at) deep 1 end 1 (row (label end ∷ [])) =
    first_piece variables (targets_of at) deep 1 end 1 0 (end + 1) 1 (label end) [] (part (text.Label (label_name end))) refl (omega arith)
    (part_of_label (label_name end)) (label_piece variables (targets_of at) deep 1 end) (empty_piece variables (targets_of at) deep 1 (end + 1)) in
    let whole : List Statement = body at states ns end in
    let all : List (List ℕ) = (row whole).labels in
    let in_front : Within (row (left ++ right)).labels all = within_left (left ++ right) (label end ∷ []) all (itself all) in
    let ended : IsTrue (is_in all (label_name end)) = within_right (left ++ right) (label end ∷ []) all (itself all) (label_name end) (begins_with end []) in
    let states_there : Within (map label_name ns) all =
    all_there variables deep states h at n next all (within_left left right all in_front) (within_right left right all in_front) in
    thread_piece variables (targets_of at) others deep 1 n (suc (labels_in_states states)) (row whole) (omega arith)
    (λ name is.
    elim (or_cases (bytes_eq (label_name end) name) (is_in (map label_name ns) name) is) [
      | inl same ↦ subst (λ l. IsTrue (is_in all l)) (same_name (label_name end) name same) ended
      | inr later ↦ states_there name later
    ])
    (append_piece variables (targets_of at) deep 1 n (labels_in_states states) 1 end (suc (labels_in_states states)) (left ++ right) (label end ∷ [])
    refl (omega arith) front last)
