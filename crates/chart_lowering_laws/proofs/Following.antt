-- A machine that follows another has its ends.
use Rattle.std.proofs.Common.{◌≡◌, ◌≢◌, ℕ, ◌⊎◌, inl, inr, ⊎_elim, Bool, true, false, Option, Some, None, List, [], ◌∷◌, ◌++◌, refl, sym, ap, subst}
use Rattle.std.proofs.Common.{◌∙◌, option_and_then}
use Rattle.std.proofs.lemmas.Option.{none-some, same_Some}
use Rattle.sc_values.specs.Runs.{Machine, Act, act_of, acts, acts_after, replay, IsOrdered, Ends}
use Rattle.chart_lowering_laws.specs.Shown.{Move, Shown, Silent, move, moves, moves_after, all_acts, shown_acts, Showing, AreSilent}
use Rattle.chart_lowering_laws.proofs.Waiting.{Waiting}
use Rattle.scl_graph_laws.specs.Alike.{EndsAlike}
use Rattle.chart_lowering_laws.specs.Follows.{Answers, AnswersBy, EachMay, HoldsAfter, AtEnd, Follows}
use Rattle.chart_lowering_laws.proofs.NumberTests.{same_or_not}
use Rattle.chart_lowering_laws.proofs.Ordering.{Quiet, Held, Never, AreHeld, ordered_whole, ordered_shown}

-- a first step of a run, and the rest of it
pub first_step : (m : Machine) (t : ℕ) (run : List ℕ) (c d : m.Configuration) → replay m (t ∷ run) c ≡ Some d →
    (e : m.Configuration) × (m.step t c ≡ Some e) × (replay m run e ≡ Some d)
first_step m t run c d h = at (m.step t c) refl h
  where
    at : (o : Option m.Configuration) → m.step t c ≡ o → option_and_then (replay m run) o ≡ Some d →
        (e : m.Configuration) × (m.step t c ≡ Some e) × (replay m run e ≡ Some d)
    at None is h = absurd (none-some d h)
    at (Some e) is h = (e, is, h)

all_of_moves : (m : Machine) (shows : Showing m) (run : List ℕ) (c : m.Configuration) → all_acts (moves m shows run c) ≡ acts m run c
all_of_moves m shows [] c = refl
all_of_moves m shows (t ∷ run) c = at (shows c t) ∙ ap (λ r. act_of m c t ∷ r) (after (m.step t c) (all_of_moves m shows run))
  where
    at : (b : Bool) → all_acts (move b (act_of m c t) ∷ moves_after m (moves m shows run) (m.step t c)) ≡ act_of m c t ∷ all_acts
        (moves_after m (moves m shows run) (m.step t c))
    at true = refl
    at false = refl

    after : (o : Option m.Configuration) → ((d : m.Configuration) → all_acts (moves m shows run d) ≡ acts m run d) →
        all_acts (moves_after m (moves m shows run) o) ≡ acts_after m (acts m run) o
    after None same = refl
    after (Some d) same = same d

quiet_moves : (m : Machine) (shows : Showing m) → AreSilent m shows → (run : List ℕ) (c : m.Configuration) → Quiet m.ForkedApart (moves m shows run c)
quiet_moves m shows silent [] c = tt
quiet_moves m shows silent (t ∷ run) c = at (shows c t) refl (after (m.step t c) (quiet_moves m shows silent run))
  where
    after : (o : Option m.Configuration) → ((d : m.Configuration) → Quiet m.ForkedApart (moves m shows run d)) →
        Quiet m.ForkedApart (moves_after m (moves m shows run) o)
    after None each = tt
    after (Some d) each = each d

    at : (b : Bool) → shows c t ≡ b → Quiet m.ForkedApart (moves_after m (moves m shows run) (m.step t c)) →
        Quiet m.ForkedApart (move b (act_of m c t) ∷ moves_after m (moves m shows run) (m.step t c))
    at true is rest = rest
    at false is rest = (silent c t is, rest)

-- ---- of a machine in which threads that fork others wait

module _ (m : Machine) (shows : Showing m) (Keeps : m.Configuration → Type 0) (waiting : Waiting m shows Keeps) where
  -- the moves of a run whose first step is known
  moves_on : (t : ℕ) (run : List ℕ) (c e : m.Configuration) → m.step t c ≡ Some e → moves m shows (t ∷ run) c ≡ move (shows c t)
      (act_of m c t) ∷ moves m shows run e
  moves_on t run c e is = ap (λ o. move (shows c t) (act_of m c t) ∷ moves_after m (moves m shows run) o) is

  never : (t a : ℕ) (run : List ℕ) (c d : m.Configuration) → replay m run c ≡ Some d → Keeps c → waiting.Dead c a →
      Never m.ForkedApart t a (moves m shows run c)
  never t a [] c d h k dead = tt
  never t a (u ∷ run) c d h k dead =
      let s : (e : m.Configuration) × (m.step u c ≡ Some e) × (replay m run e ≡ Some d) = first_step m u run c d h in
      let e : m.Configuration = s.0 in
      subst (Never m.ForkedApart t a) (sym (moves_on u run c e s.1))
      (at (moves m shows run e) (shows c u) refl (λ f. waiting.rests c e t u a k dead f s.1)
      (never t a run e d s.2 (waiting.keeps c e u k s.1) (waiting.dead c e u a k dead s.1)))
    where
      at : (rest : List Move) (b : Bool) → shows c u ≡ b → (m.ForkedApart t u a → shows c u ≡ false) → Never m.ForkedApart t a rest →
          Never m.ForkedApart t a (move b (act_of m c u) ∷ rest)
      at rest true is none more = (λ f. let h : shows c u ≡ false = none f in absurd (cc), more)
      at rest false is none more = more

  held : (t a : ℕ) (run : List ℕ) (c d : m.Configuration) → replay m run c ≡ Some d → Keeps c → waiting.Waits c a → Held m.ForkedApart t a (moves m shows run c)
  held t a [] c d h k waits = tt
  held t a (u ∷ run) c d h k waits =
      let s : (e : m.Configuration) × (m.step u c ≡ Some e) × (replay m run e ≡ Some d) = first_step m u run c d h in
      let e : m.Configuration = s.0 in
      let kept : Keeps e = waiting.keeps c e u k s.1 in
      subst (Held m.ForkedApart t a) (sym (moves_on u run c e s.1))
      (⊎_elim
      (λ same. ⊎_elim
      (λ shown. by_own (moves m shows run e) (shows c u) shown (subst (λ a. shows c u ≡ shows c a) same refl) same)
      (λ dead. by_dead (moves m shows run e) (shows c u) same (never t a run e d s.2 kept dead))
      (waiting.ends c e a k waits (subst (λ a. m.step a c ≡ Some e) same s.1)))
      (λ differ. by_other (moves m shows run e) (shows c u) differ (held t a run e d s.2 kept (waiting.stays c e u a k waits differ s.1)))
      (same_or_not u a))
    where
      by_own : (rest : List Move) (b : Bool) → shows c a ≡ true → b ≡ shows c a → u ≡ a → Held m.ForkedApart t a (move b (act_of m c u) ∷ rest)
      by_own rest true shown is same = inl same
      by_own rest false shown is same = absurd (cc)

      by_dead : (rest : List Move) (b : Bool) → u ≡ a → Never m.ForkedApart t a rest → Held m.ForkedApart t a (move b (act_of m c u) ∷ rest)
      by_dead rest true same none = inl same
      by_dead rest false same none = inr none

      by_other : (rest : List Move) (b : Bool) → u ≢ a → Held m.ForkedApart t a rest → Held m.ForkedApart t a (move b (act_of m c u) ∷ rest)
      by_other rest true differ more = inr more
      by_other rest false differ more = inl (differ, more)

  are_held : (run : List ℕ) (c d : m.Configuration) → replay m run c ≡ Some d → Keeps c → AreHeld m.ForkedApart (moves m shows run c)
  are_held [] c d h k = tt
  are_held (t ∷ run) c d h k =
      let s : (e : m.Configuration) × (m.step t c ≡ Some e) × (replay m run e ≡ Some d) = first_step m t run c d h in
      let e : m.Configuration = s.0 in
      let kept : Keeps e = waiting.keeps c e t k s.1 in
      subst (AreHeld m.ForkedApart) (sym (moves_on t run c e s.1))
      (at (moves m shows run e) (shows c t) (λ u a f. held t a run e d s.2 kept (waiting.begins c e t u a k f s.1)) (are_held run e d s.2 kept))
    where
      at : (rest : List Move) (b : Bool) → ((u a : ℕ) → m.ForkedApart t u a → Held m.ForkedApart t a rest) → AreHeld m.ForkedApart rest →
          AreHeld m.ForkedApart (move b (act_of m c t) ∷ rest)
      at rest true each more = (each, more)
      at rest false each more = more

-- ---- following

shown_append : (a b : List Move) → shown_acts (a ++ b) ≡ shown_acts a ++ shown_acts b
shown_append [] b = refl
shown_append (Shown x ∷ a) b = ap (λ r. x ∷ r) (shown_append a b)
shown_append (Silent x ∷ a) b = shown_append a b

pub replay_append : (n : Machine) (first second : List ℕ) (b e : n.Configuration) → replay n first b ≡ Some e → replay n (first ++ second) b ≡ replay n second e
replay_append n [] second b e h = ap (λ o. option_and_then (replay n second) o) h
replay_append n (t ∷ first) second b e h =
    let s : (f : n.Configuration) × (n.step t b ≡ Some f) × (replay n first f ≡ Some e) = first_step n t first b e h in
    ap (option_and_then (replay n (first ++ second))) s.1 ∙ replay_append n first second s.0 e s.2

pub moves_append : (n : Machine) (shows : Showing n) (first second : List ℕ) (b e : n.Configuration) → replay n first b ≡ Some e →
    moves n shows (first ++ second) b ≡ moves n shows first b ++ moves n shows second e
moves_append n shows [] second b e h = ap (moves_after n (moves n shows second)) h
moves_append n shows (t ∷ first) second b e h =
    let s : (f : n.Configuration) × (n.step t b ≡ Some f) × (replay n first f ≡ Some e) = first_step n t first b e h in
    let here : Move = move (shows b t) (act_of n b t) in
    ap (λ o. here ∷ moves_after n (moves n shows (first ++ second)) o) s.1
    ∙ ap (λ r. here ∷ r) (moves_append n shows first second s.0 e s.2)
    ∙ sym (ap (λ o. here ∷ (moves_after n (moves n shows first) o ++ moves n shows second e)) s.1)

-- two answers in a row
pub both_answers : (n : Machine) (shows : Showing n) (b : n.Configuration) (Good Then : n.Configuration → Type 0) (xs ys : List Act) →
    (first : Answers n shows b Good xs) → Answers n shows first.end Then ys → Answers n shows b Then (xs ++ ys)
both_answers n shows b Good Then xs ys first second = record {
  run = first.run ++ second.run;
  end = second.end;
  runs = replay_append n first.run second.run b first.end first.runs ∙ second.runs;
  shown =
      ap shown_acts (moves_append n shows first.run second.run b first.end first.runs)
      ∙ shown_append (moves n shows first.run b) (moves n shows second.run first.end)
      ∙ ap (λ r. r ++ shown_acts (moves n shows second.run first.end)) first.shown
      ∙ ap (λ r. xs ++ r) second.shown;
  good = second.good;
}

-- steps that may be taken, and others after them
pub may_append : (n : Machine) (May : ℕ → n.Configuration → Type 0) (first second : List ℕ) (b e : n.Configuration) → replay n first b ≡ Some e →
    EachMay n May first b → EachMay n May second e → EachMay n May (first ++ second) b
may_append n May [] second b e h before after = subst (EachMay n May second) (sym (same_Some b e h)) after
may_append n May (t ∷ first) second b e h before after =
    let s : (f : n.Configuration) × (n.step t b ≡ Some f) × (replay n first f ≡ Some e) = first_step n t first b e h in
    let rest : EachMay n May first s.0 = subst (HoldsAfter n (EachMay n May first)) s.1 before.1 in
    (before.0, subst (HoldsAfter n (EachMay n May (first ++ second))) (sym s.1) (may_append n May first second s.0 e s.2 rest after))

pub both_by : (n : Machine) (shows : Showing n) (b : n.Configuration) (May : ℕ → n.Configuration → Type 0) (Good Then : n.Configuration → Type 0)
    (xs ys : List Act) →
    (first : AnswersBy n shows b May Good xs) → AnswersBy n shows first.answers.end May Then ys → AnswersBy n shows b May Then (xs ++ ys)
unfolding both_answers
both_by n shows b May Good Then xs ys first second = record {
  answers = both_answers n shows b Good Then xs ys first.answers second.answers;
  each = may_append n May first.answers.run second.answers.run b first.answers.end first.answers.runs first.each second.each;
}

module _ (m n : Machine) (shows : Showing m) (shows_too : Showing n) (R Q : m.Configuration → n.Configuration → Type 0)
    (follows : Follows m n shows shows_too R Q) where
  follows_run : (run : List ℕ) (c d : m.Configuration) (b : n.Configuration) → R c b → replay m run c ≡ Some d →
      Answers n shows_too b (R d) (shown_acts (moves m shows run c))
  follows_run [] c d b r h = record { run = []; end = b; runs = refl; shown = refl; good = subst (λ d. R d b) (same_Some c d h) r }
  follows_run (t ∷ run) c d b r h =
      let s : (e : m.Configuration) × (m.step t c ≡ Some e) × (replay m run e ≡ Some d) = first_step m t run c d h in
      let e : m.Configuration = s.0 in
      let here : List Move = move (shows c t) (act_of m c t) ∷ [] in
      let first : Answers n shows_too b (R e) (shown_acts here) = follows.step c e b t r s.1 in
      subst (Answers n shows_too b (R d))
      (sym (shown_append here (moves m shows run e)) ∙ ap (λ o. shown_acts (move (shows c t) (act_of m c t) ∷ moves_after m (moves m shows run) o)) (sym s.1))
      (both_answers n shows_too b (R e) (R d) (shown_acts here) (shown_acts (moves m shows run e)) first (follows_run run e d first.end first.good s.2))

  ordered_by : (F G : ℕ → ℕ → ℕ → Type 0) (steps : List Act) → ((t u a : ℕ) → G t u a → F t u a) → IsOrdered F steps → IsOrdered G steps
  ordered_by F G steps apart h i j lt both = h i j lt (record {
    first = both.first;
    second = both.second;
    is_first = both.is_first;
    is_second = both.is_second;
    forking = both.forking;
    apart = apart both.first.thread both.second.thread both.forking both.apart;
    between = both.between;
  })

  module _ (silent : AreSilent n shows_too) (Keeps : m.Configuration → Type 0) (waiting : Waiting m shows Keeps) where
    follows_end : (c d : m.Configuration) (b : n.Configuration) → R c b → Keeps c → Ends m c d → EndsAlike n m.Configuration Q d b
    follows_end c d b r k e =
        let first : Answers n shows_too b (R d) (shown_acts (moves m shows e.run c)) = follows_run e.run c d b r e.complete.runs in
        let last : Answers n shows_too first.end (AtEnd m n Q d) [] = follows.over d first.end first.good e.complete.over in
        let whole : Answers n shows_too b (AtEnd m n Q d) (shown_acts (moves m shows e.run c) ++ []) = both_answers n shows_too b (R d) (AtEnd m n Q d)
        (shown_acts (moves m shows e.run c)) [] first last in
        let shown : IsOrdered m.ForkedApart (shown_acts (moves m shows e.run c)) =
        ordered_shown m.ForkedApart (moves m shows e.run c) (are_held m shows Keeps waiting e.run c d e.complete.runs k)
        (subst (IsOrdered m.ForkedApart) (sym (all_of_moves m shows e.run c)) e.admissible) in
        record {
          end = whole.end;
          is_end = record {
            run = whole.run;
            complete = record { runs = whole.runs; over = whole.good.0 };
            admissible =
                subst (IsOrdered n.ForkedApart) (all_of_moves n shows_too whole.run b)
                (ordered_whole n.ForkedApart (moves n shows_too whole.run b) (quiet_moves n shows_too silent whole.run b)
                (subst (IsOrdered n.ForkedApart) (sym (whole.shown ∙ no_more (shown_acts (moves m shows e.run c))))
                (ordered_by m.ForkedApart n.ForkedApart (shown_acts (moves m shows e.run c)) follows.apart shown)));
          };
          corresponds = whole.good.1;
        }
      where
        no_more : (xs : List Act) → xs ++ [] ≡ xs
        no_more [] = refl
        no_more (x ∷ xs) = ap (λ r. x ∷ r) (no_more xs)

pub follows_ends : (m n : Machine) (shows : Showing m) (shows_too : Showing n) (R Q : m.Configuration → n.Configuration → Type 0) (Keeps : m.Configuration →
    Type 0) →
    Follows m n shows shows_too R Q → AreSilent n shows_too → Waiting m shows Keeps →
    (c d : m.Configuration) (b : n.Configuration) → R c b → Keeps c → Ends m c d → EndsAlike n m.Configuration Q d b
follows_ends m n shows shows_too R Q Keeps follows silent waiting = follows_end m n shows shows_too R Q follows silent Keeps waiting
