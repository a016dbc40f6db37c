-- Whom a step moves, in one form for all steps: its own thread, and children of one fork of it.
use Rattle.std.proofs.Common.{◌≡◌, ◌≢◌, ℕ, ◌<◌, List, [], ◌∷◌, map, length, Some, Contains, refl, sym, ap, subst, ⊎_elim, true}
use Rattle.sc_graph.specs.declared.program.Step.{Step}
use Rattle.sc_graph.specs.declared.control.Control.{Control}
use Rattle.sc_graph.specs.declared.control.Status.{Status}
use Rattle.sc_graph.specs.declared.control.Status.TheVariants as status
use Rattle.sc_graph.specs.Program.{Program, parent_of, entry_of, is_target}
use Rattle.sc_graph.specs.Threads.{IsFork}
use Rattle.sc_graph.specs.Control.{status_of}
use Rattle.sc_graph.specs.Steps.{Effect, enters}
use Rattle.sc_graph.specs.Tick.{IsConfiguration, IsPlace, IsPresent}
use Rattle.sc_graph.specs.Valid.{IsFormed}
use Rattle.tick_laws.proofs.Lists.{same_or_not, contains_none}
use Rattle.tick_laws.proofs.Formed.{JoinOf, join_of, target_owned, target_no_join, child_parent, child_in_range, fork_children, fork_join, one_fork_joins}
use Rattle.tick_laws.proofs.Formed.{one_fork_child}
use Rattle.tick_laws.proofs.Views.{Does, simple, forks, joins, Simple, Forks, Joins, Enters, GoesTo}
use Rattle.tick_laws.proofs.Sound.{forks_is, fork_of_join}
use Rattle.tick_laws.proofs.Moves.{entering_own}

-- what becomes of child k of a fork with join j, where its parent comes to stand at `to`: moved along,
-- or it was absent and stays so
pub data ChildIs (c : Control) (children : List ℕ) (f : ℕ → ℕ × Status) (to : Status) (j k : ℕ) : Type 0 where
  present : Contains children k → IsPresent (f k).1 → to ≡ status.Waiting j → ChildIs c children f to j k
  absent : Contains children k → (f k).1 ≡ status.Absent → to ≢ status.Waiting j → ChildIs c children f to j k
  untouched : ¬ Contains children k → ¬ IsPresent (status_of c k) → to ≢ status.Waiting j → ChildIs c children f to j k

-- the step of thread t moves it to a place of its own, and children of one fork of it as f says
pub record StepMoves (p : Program) (c : Control) (t : ℕ) (e : Effect) : Type 0 where
  pub to : Status
  pub children : List ℕ
  pub f : ℕ → ℕ × Status
  pub own : (k : ℕ) → (f k).0 ≡ k
  pub moves : e.moves ≡ (t, to) ∷ map f children
  pub was_present : IsPresent (status_of c t)
  pub is_present : IsPresent to
  pub place : IsPlace p t to
  pub parent : (k : ℕ) → Contains children k → parent_of p k ≡ Some t
  pub within : (k : ℕ) → Contains children k → k < length c.statuses
  pub child_place : (k : ℕ) → Contains children k → IsPlace p k (f k).1
  pub was_idle : (k j : ℕ) → Contains children k → status_of c k ≢ status.Waiting j
  pub is_idle : (k j : ℕ) → Contains children k → (f k).1 ≢ status.Waiting j
  pub settled : (n : ℕ) (ls : List ℕ) (j k : ℕ) → IsFork p n t ls j → Contains ls k → ChildIs c children f to j k

pub at_present : (s : Status) (n : ℕ) → s ≡ status.At n → IsPresent s
at_present s n h = subst IsPresent (sym h) tt

-- a status is one thing
pub at_free : (n j : ℕ) → status.At n ≢ status.Waiting j
at_free n j e = absurd (cc)

pub absent_free : (j : ℕ) → status.Absent ≢ status.Waiting j
absent_free j e = absurd (cc)

pub other_free : (i j : ℕ) → j ≢ i → status.Waiting i ≢ status.Waiting j
other_free i j ne e = ne (cc)

pub goes_present : (p : Program) (t : ℕ) (s : Step) (to : Status) → GoesTo p t s to → IsPresent to
goes_present p t s (status.At m) h = tt
goes_present p t s (status.Paused d) h = tt
goes_present p t s status.Ended h = tt
goes_present p t s (status.Waiting j) h = tt
goes_present p t s status.Absent h = h

pub goes_free : (p : Program) (t : ℕ) (s : Step) (to : Status) (j : ℕ) → GoesTo p t s to → to ≢ status.Waiting j
goes_free p t s (status.At m) j h e = absurd (cc)
goes_free p t s (status.Paused d) j h e = absurd (cc)
goes_free p t s status.Ended j h e = absurd (cc)
goes_free p t s (status.Waiting i) j h e = h
goes_free p t s status.Absent j h e = h

pub target_place : (p : Program) (t n : ℕ) → is_target p t n ≡ true → IsPlace p t (status.At n)
target_place p t n h = (target_owned p t n h, target_no_join p t n h)

pub goes_place : (p : Program) (t : ℕ) (s : Step) (to : Status) → GoesTo p t s to → IsPlace p t to
goes_place p t s (status.At m) h = target_place p t m h.1
goes_place p t s (status.Paused d) h = h.1
goes_place p t s status.Ended h = tt
goes_place p t s (status.Waiting j) h = absurd h
goes_place p t s status.Absent h = absurd h

module _ (p : Program) (formed : IsFormed p) (c : Control) (ok : IsConfiguration p c) (t : ℕ) where
  -- a thread at a node has no child that is present, and one at a join those of its fork alone
  pub child_absent : (n : ℕ) (ls : List ℕ) (j k : ℕ) → IsFork p n t ls j → Contains ls k → status_of c t ≢ status.Waiting j → ¬ IsPresent (status_of c k)
  child_absent n ls j k f child away here = away ((ok.present n t ls j k f child).0 here)

  pub at_away : (m j : ℕ) → status_of c t ≡ status.At m → status_of c t ≢ status.Waiting j
  at_away m j h e = absurd (cc)

  abbrev pub simple_moves : (e : Effect) → Simple p c t e → StepMoves p c t e
  simple_moves e d =
      record {
        to = d.to;
        children = [];
        f = λ k. (k, status.Absent);
        own = λ k. refl;
        moves = ap (λ e. e.moves) d.is;
        was_present = at_present (status_of c t) d.node d.at;
        is_present = goes_present p t d.taken d.to d.goes;
        place = goes_place p t d.taken d.to d.goes;
        parent = λ k h. absurd (contains_none k h);
        within = λ k h. absurd (contains_none k h);
        child_place = λ k h. absurd (contains_none k h);
        was_idle = λ k j h. absurd (contains_none k h);
        is_idle = λ k j h. absurd (contains_none k h);
        settled = λ n ls j k f child. untouched (contains_none k) (child_absent n ls j k f child (at_away d.node j d.at)) (goes_free p t d.taken d.to j d.goes);
      }

  -- whose join is that of a fork of t is a child of it, and nobody else is
  pub of_same_join : (m n : ℕ) (ks ls : List ℕ) (i j k : ℕ) → IsFork p m t ks i → IsFork p n t ls j → j ≡ i → Contains ls k → Contains ks k
  of_same_join m n ks ls i j k f g same child =
      let h : IsFork p n t ls i = subst (IsFork p n t ls) same g in
      let forks : n ≡ m = one_fork_joins p formed n m t t ls ks i h f in
      let at : IsFork p m t ls i = subst (λ n. IsFork p n t ls i) forks h in
      subst (λ ks. Contains ks k) (fork_children p m t t ls ks i i at f) child

  pub of_other_join : (m n : ℕ) (ks ls : List ℕ) (i j k : ℕ) → IsFork p m t ks i → IsFork p n t ls j → j ≢ i → Contains ls k → ¬ Contains ks k
  of_other_join m n ks ls i j k f g other child child_too =
      let forks : n ≡ m = one_fork_child p formed n m t t ls ks j i k g f child child_too in
      let at : IsFork p m t ls j = subst (λ n. IsFork p n t ls j) forks g in
      other (fork_join p m t t ls ks j i at f)

  pub entered_status : (k : ℕ) → (i : Enters p k) → (enters k (entry_of p k)).1 ≡ status.At i.entry
  entered_status k i = ap (λ o. (enters k o).1) i.is

  pub entered_idle : (k j : ℕ) → Enters p k → (enters k (entry_of p k)).1 ≢ status.Waiting j
  entered_idle k j i e = let at = entered_status k i in absurd (cc)

  pub ended_idle : (k j : ℕ) → status_of c k ≡ status.Ended → status_of c k ≢ status.Waiting j
  ended_idle k j h e = absurd (cc)

  -- who waits at one join waits at no other one
  pub waits_once : (i j : ℕ) → status_of c t ≡ status.Waiting i → j ≢ i → status_of c t ≢ status.Waiting j
  waits_once i j at ne e = ne (cc)

  abbrev pub forks_moves : (e : Effect) → Forks p c t e → StepMoves p c t e
  forks_moves e d =
      record {
        to = status.Waiting d.join;
        children = d.children;
        f = λ k. enters k (entry_of p k);
        own = entering_own p;
        moves = ap (λ e. e.moves) d.is;
        was_present = at_present (status_of c t) d.node d.at;
        is_present = tt;
        place = d.own_join;
        parent = λ k h. child_parent p formed d.node t d.children d.join k fork h;
        within = λ k h. subst (λ n. k < n) (sym ok.threads) (child_in_range p formed d.node t d.children d.join k fork h);
        child_place = λ k h. subst (IsPlace p k) (sym (entered_status k (d.entered k h))) (target_place p k (d.entered k h).entry (d.entered k h).target);
        was_idle = λ k j h e. child_absent d.node d.children d.join k fork h (at_away d.node d.join d.at) (subst IsPresent (sym e) tt);
        is_idle = λ k j h. entered_idle k j (d.entered k h);
        settled = λ n ls j k f child. ⊎_elim (same_join n ls j k f child) (other_join n ls j k f child) (same_or_not j d.join);
      }
    where
      fork : IsFork p d.node t d.children d.join
      fork = forks_is p formed c ok t e d

      same_join : (n : ℕ) (ls : List ℕ) (j k : ℕ) → IsFork p n t ls j → Contains ls k → j ≡ d.join
          → ChildIs c d.children (λ k. enters k (entry_of p k)) (status.Waiting d.join) j k
      same_join n ls j k f child e =
          let here : Contains d.children k = of_same_join d.node n d.children ls d.join j k fork f e child in
          present here (subst IsPresent (sym (entered_status k (d.entered k here))) tt) (ap status.Waiting (sym e))

      other_join : (n : ℕ) (ls : List ℕ) (j k : ℕ) → IsFork p n t ls j → Contains ls k → j ≢ d.join
          → ChildIs c d.children (λ k. enters k (entry_of p k)) (status.Waiting d.join) j k
      other_join n ls j k f child ne =
          untouched (of_other_join d.node n d.children ls d.join j k fork f ne child) (child_absent n ls j k f child (at_away d.node j d.at))
          (other_free d.join j ne)

  abbrev pub joins_moves : (e : Effect) → Joins p c t e → StepMoves p c t e
  joins_moves e d =
      record {
        to = status.At d.onward;
        children = d.children;
        f = λ k. (k, status.Absent);
        own = λ k. refl;
        moves = ap (λ e. e.moves) d.is;
        was_present = subst IsPresent (sym d.at) tt;
        is_present = tt;
        place = target_place p t d.onward d.target;
        parent = λ k h. child_parent p formed o.fork t d.children d.join k fork h;
        within = λ k h. subst (λ n. k < n) (sym ok.threads) (child_in_range p formed o.fork t d.children d.join k fork h);
        child_place = λ k h. tt;
        was_idle = λ k j h. ended_idle k j (d.ended k h);
        is_idle = λ k j h. absent_free j;
        settled = λ n ls j k f child. ⊎_elim (same_join n ls j k f child) (other_join n ls j k f child) (same_or_not j d.join);
      }
    where
      o : JoinOf p d.join d.children
      o = join_of p d.join d.children d.joined

      fork : IsFork p o.fork t d.children d.join
      fork = fork_of_join p formed c ok t d.join d.children d.at o

      same_join : (n : ℕ) (ls : List ℕ) (j k : ℕ) → IsFork p n t ls j → Contains ls k → j ≡ d.join
          → ChildIs c d.children (λ k. (k, status.Absent)) (status.At d.onward) j k
      same_join n ls j k f child e = absent (of_same_join o.fork n d.children ls d.join j k fork f e child) refl (at_free d.onward j)

      other_join : (n : ℕ) (ls : List ℕ) (j k : ℕ) → IsFork p n t ls j → Contains ls k → j ≢ d.join
          → ChildIs c d.children (λ k. (k, status.Absent)) (status.At d.onward) j k
      other_join n ls j k f child ne = untouched (of_other_join o.fork n d.children ls d.join j k fork f ne child)
          (child_absent n ls j k f child (waits_once d.join j d.at ne)) (at_free d.onward j)

  pub step_moves : (e : Effect) → Does p c t e → StepMoves p c t e
  step_moves e (simple d) = simple_moves e d
  step_moves e (forks d) = forks_moves e d
  step_moves e (joins d) = joins_moves e d
