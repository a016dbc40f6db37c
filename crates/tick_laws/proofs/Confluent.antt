-- Every admissible complete run is a reordering of a priority run and ends where it ends: the step that
-- priority takes first is pulled to the front of the other run, again and again.
use Rattle.std.proofs.Common.{◌≡◌, ◌≢◌, ℕ, ◌<◌, ◌≤◌, false, List, [], ◌∷◌, ◌++◌, map, Some, refl, sym, ap, subst, subst₂, ◌∙◌, ⊎_elim, arith, IsPermutation}
use Rattle.std.proofs.lemmas.Option.{same_Some}
use Rattle.std.proofs.lemmas.List.{map-append}
use Rattle.std.proofs.lemmas.List.Sorted.{IsPermutation-refl, IsPermutation-cons, IsPermutation-middle, IsPermutation-trans}
use Rattle.sc_values.specs.Access.{Precedes, MayPrecede}
use Rattle.sc_values.specs.Runs.{Act}
use Rattle.sc_values.proofs.Order.{EachIsOpen, Orderly, PassesAll, TakesNone, clear_past, to_front}
use Rattle.sc_graph.specs.declared.control.Control.{Control}
use Rattle.sc_graph.specs.declared.tables.Tables.{Tables}
use Rattle.sc_graph.specs.Program.{Program, owner_of}
use Rattle.sc_graph.specs.Threads.{Below, ForkedApart}
use Rattle.sc_graph.specs.Accesses.{accesses}
use Rattle.sc_graph.specs.Control.{status_of, access_at, is_enabled}
use Rattle.sc_graph.specs.Steps.{Effect, after, effect}
use Rattle.sc_graph.specs.Tables.{priority, priority_of}
use Rattle.sc_graph.specs.Priority.{Leads, PriorityRun}
use Rattle.sc_graph.specs.Tick.{IsConfiguration}
use Rattle.sc_graph.specs.Valid.{IsValid, IsFormed}
use Rattle.tick_laws.specs.WithinTick.{Tops}
use Rattle.tick_laws.proofs.Lists.{same_or_not, map_some}
use Rattle.tick_laws.proofs.Formed.{valid_formed}
use Rattle.tick_laws.proofs.Views.{Enabled, does, enabled_from, enabled_from_effect}
use Rattle.tick_laws.proofs.Sound.{keeps_self, stays_enabled}
use Rattle.tick_laws.proofs.Kin.{not_above, enabled_meet}
use Rattle.tick_laws.proofs.Tree.{left_under, right_under}
use Rattle.tick_laws.proofs.EnabledPairs.{edge_falls, StepsFrom, steps_from}
use Rattle.tick_laws.proofs.ConfigurationKept.{configuration_kept}
use Rattle.tick_laws.proofs.Falling.{low_kept}
use Rattle.tick_laws.proofs.Diamond.{Free, free_turned, effect_kept, commute}

-- step m of a run is taken at configuration c, with effect e
pub record Takes (p : Program) (m : Act) (c : Control) (e : Effect) : Type 0 where
  pub effect : effect p c m.thread ≡ Some e
  pub access : m.access ≡ access_at p (status_of c m.thread)

-- a run, by its steps, leads from c to d
abbrev pub Follows : Program → List Act → Control → Control → Type 0
Follows p [] c d = c ≡ d
Follows p (m ∷ log) c d = (e : Effect) × Takes p m c e × Follows p log (after e c) d

-- no thread is enabled
abbrev pub IsDone : Program → Control → Type 0
IsDone p c = (t : ℕ) → is_enabled p c t ≡ false

-- the threads of a run's steps
abbrev pub threads_of : List Act → List ℕ
threads_of log = map (λ m. m.thread) log

done_not_enabled : (p : Program) (c : Control) (t : ℕ) → IsDone p c → ¬ Enabled p c t
done_not_enabled p c t done r = let on = enabled_from p c t r in let off = done t in absurd (cc)

-- a step x before the first one of thread t: of another thread, concurrent and not t's kin, of a priority that is no higher
pub record Around (p : Program) (q : Tables) (top t : ℕ) (x : Act) : Type 0 where
  pub other : x.thread ≢ t
  pub forking : ℕ
  pub apart : ForkedApart p x.thread t forking
  pub not_over : ¬ Below p t x.thread
  pub not_under : ¬ Below p x.thread t
  pub node : ℕ
  pub owned : owner_of p node ≡ Some x.thread
  pub access : x.access ≡ accesses p node
  pub low : priority q node ≤ top

abbrev pub AllAround : Program → Tables → ℕ → ℕ → List Act → Type 0
AllAround p q top t [] = Unit {0}
AllAround p q top t (x ∷ front) = Around p q top t x × AllAround p q top t front

-- the first step of thread t in a run
pub record First (p : Program) (q : Tables) (top t : ℕ) (c : Control) (log : List Act) : Type 0 where
  pub front : List Act
  pub found : Act
  pub back : List Act
  pub split : log ≡ front ++ found ∷ back
  pub thread : found.thread ≡ t
  pub access : found.access ≡ access_at p (status_of c t)
  pub around : AllAround p q top t front

module _ (p : Program) (q : Tables) (valid : IsValid p q) where
  formed : IsFormed p
  formed = valid_formed p q valid

  around_at : (c : Control) → IsConfiguration p c → (top t : ℕ) → Enabled p c t → Tops p q top c → (x : Act) → x.thread ≢ t → Enabled p c x.thread →
      x.access ≡ access_at p (status_of c x.thread) → Around p q top t x
  around_at c ok top t enabled_t low x other enabled_x access =
      let meet = enabled_meet p formed c ok x.thread t enabled_x enabled_t other in
      let at = steps_from p q valid c ok x.thread enabled_x in
      record {
        other = other;
        forking = meet.0;
        apart = meet.1;
        not_over = not_above p formed c ok t x.thread enabled_t enabled_x (λ same. other (sym same));
        not_under = not_above p formed c ok x.thread t enabled_x enabled_t other;
        node = at.node;
        owned = at.owned;
        access = access ∙ at.access;
        low = subst (λ n. n ≤ top) at.priority (low x.thread (enabled_from p c x.thread enabled_x));
      }

  -- the steps of a run before which a enabled thread stays where it is
  pub after_ok : (c : Control) → IsConfiguration p c → (m : Act) (e : Effect) → Takes p m c e → IsConfiguration p (after e c)
  after_ok c ok m e takes = configuration_kept p formed c m.thread e ok takes.effect

  taker_enabled : (c : Control) (m : Act) (e : Effect) → Takes p m c e → Enabled p c m.thread
  taker_enabled c m e takes = enabled_from_effect p c m.thread e takes.effect

  still_there : (c : Control) → IsConfiguration p c → (m : Act) (e : Effect) → Takes p m c e → (t : ℕ) → m.thread ≢ t → Enabled p c t → status_of (after e c) t
      ≡ status_of c t
  still_there c ok m e takes t other enabled_t =
      keeps_self p formed c ok t m.thread (λ same. other (sym same)) enabled_t e (does p c m.thread e takes.effect)

  still_enabled : (c : Control) → IsConfiguration p c → (m : Act) (e : Effect) → Takes p m c e → (t : ℕ) → m.thread ≢ t → Enabled p c t
      → Enabled p (after e c) t
  still_enabled c ok m e takes t other enabled_t =
      stays_enabled p formed c ok t m.thread (λ same. other (sym same)) enabled_t (taker_enabled c m e takes) e (does p c m.thread e takes.effect)

  first_here : (m : Act) (log : List Act) (c : Control) (top t : ℕ) (e : Effect) → Takes p m c e → m.thread ≡ t → First p q top t c (m ∷ log)
  first_here m log c top t e takes same =
      record { front = []; found = m; back = log; split = refl; thread = same; access = takes.access ∙ ap (λ u. access_at p (status_of c u)) same; around = tt }

  first_later : (m : Act) (log : List Act) (c : Control) → IsConfiguration p c → (top t : ℕ) (e : Effect) → Takes p m c e → Enabled p c t → Tops p q top c
      → m.thread ≢ t →
      First p q top t (after e c) log → First p q top t c (m ∷ log)
  first_later m log c ok top t e takes enabled_t low other rest =
      record {
        front = m ∷ rest.front;
        found = rest.found;
        back = rest.back;
        split = ap (λ l. m ∷ l) rest.split;
        thread = rest.thread;
        access = rest.access ∙ ap (access_at p) (still_there c ok m e takes t other enabled_t);
        around = (around_at c ok top t enabled_t low m other (taker_enabled c m e takes) takes.access, rest.around);
      }

  -- a enabled thread steps in each complete run
  find : (log : List Act) (c d : Control) (top t : ℕ) → IsConfiguration p c → Follows p log c d → IsDone p d → Enabled p c t → Tops p q top c
      → First p q top t c log
  find [] c d top t ok follows done enabled_t low =
      absurd (done_not_enabled p d t done (subst (λ b. Enabled p b t) follows enabled_t))
  find (m ∷ log) c d top t ok follows done enabled_t low =
      let e = follows.0 in
      let takes = follows.1 in
      ⊎_elim (first_here m log c top t e takes)
      (λ other. first_later m log c ok top t e takes enabled_t low other
      (find log (after e c) d top t (after_ok c ok m e takes) follows.2 done (still_enabled c ok m e takes t other enabled_t)
      (low_kept p q valid top c ok m.thread e takes.effect low)))
      (same_or_not m.thread t)

  -- a thread forked apart from t by another forks none of the steps around t
  none_between : (top t a u : ℕ) → ForkedApart p u t a → (front : List Act) → AllAround p q top t front → TakesNone a front
  none_between top t a u apart [] around = tt
  none_between top t a u apart (x ∷ front) around =
      ((λ same. around.0.not_over (subst (Below p t) (sym same) (right_under p formed u t a apart))), none_between top t a u apart front around.1)

  -- what stands before the first step of the leading thread is free of it
  free_of : (top t n : ℕ) (m x : Act) → m.thread ≡ t → owner_of p n ≡ Some t → m.access ≡ accesses p n → priority q n ≡ top →
      Around p q top t x → MayPrecede x.access m.access → Free x.access m.access
  free_of top t n m x thread owned access highest around may =
      record {
        not_before = λ before.
            let less : priority q n < priority q around.node =
            edge_falls p q valid around.node n x.thread t around.forking around.owned owned around.apart (subst₂ Precedes around.access access before) in
            let low = around.low in
            absurd (omega arith);
        not_after = may.no_order;
        no_clash = may.no_clash;
      }

  abbrev AllFree : Act → List Act → Type 0
  AllFree m [] = Unit {0}
  AllFree m (x ∷ front) = Free x.access m.access × AllFree m front

  all_free : (top t n : ℕ) (m : Act) → m.thread ≡ t → owner_of p n ≡ Some t → m.access ≡ accesses p n → priority q n ≡ top →
      (front back : List Act) → AllAround p q top t front → Orderly (ForkedApart p) (front ++ m ∷ back) → AllFree m front
  all_free top t n m thread owned access highest [] back around orderly = tt
  all_free top t n m thread owned access highest (x ∷ front) back around orderly = (
    free_of top t n m x thread owned access highest around.0
        (clear_past (ForkedApart p) x m EachIsOpen front back orderly.0 around.0.forking
        (subst (λ u. ForkedApart p x.thread u around.0.forking) (sym thread) around.0.apart) tt
        (none_between top t around.0.forking x.thread around.0.apart front around.1)),
    all_free top t n m thread owned access highest front back around.1 orderly.1,
  )

  passes_all : (top t : ℕ) (m : Act) → m.thread ≡ t → (front : List Act) → AllAround p q top t front → AllFree m front → PassesAll (ForkedApart p) m front
  passes_all top t m thread [] around free = tt
  passes_all top t m thread (x ∷ front) around free = (
    record {
      forks_none = λ u a apart same. around.0.not_under (subst (Below p x.thread) (same ∙ thread) (left_under p formed x.thread u a apart));
      may = record { no_order = free.0.not_before; no_clash = λ clash. (free_turned x.access m.access free.0).no_clash clash };
    },
    passes_all top t m thread front around.1 free.1,
  )

  -- what thread t did after a free step it did before it
  module _ (c : Control) (ok : IsConfiguration p c) (t : ℕ) (e : Effect) (by : effect p c t ≡ Some e) (m x : Act) (f : Effect) (takes : Takes p x c f)
      (other : x.thread ≢ t)
      (access : m.access ≡ access_at p (status_of c t)) (free : Free x.access m.access) where
    free_here : Free (access_at p (status_of c x.thread)) (access_at p (status_of c t))
    free_here = subst₂ Free takes.access access free

    t_enabled : Enabled p c t
    t_enabled = enabled_from_effect p c t e by

    t_later : effect p (after f c) t ≡ Some e
    t_later = effect_kept p formed c ok t x.thread (λ same. other (sym same)) e f by takes.effect
        (free_turned (access_at p (status_of c x.thread)) (access_at p (status_of c t)) free_here)

    access_later : m.access ≡ access_at p (status_of (after f c) t)
    access_later = access ∙ ap (access_at p) (sym (still_there c ok x f takes t other t_enabled))

    x_later : Takes p x (after e c) f
    x_later =
        record {
          effect = effect_kept p formed c ok x.thread t other f e takes.effect by free_here;
          access = takes.access ∙ ap (access_at p) (sym (keeps_self p formed c ok x.thread t other (taker_enabled c x f takes) e (does p c t e by)));
        }

    both_ways : after e (after f c) ≡ after f (after e c)
    both_ways = sym (commute p formed c ok x.thread t other f e takes.effect by free_here)

  -- the step of thread t, taken first, leaves the rest of the run
  pull : (t : ℕ) (e : Effect) (m : Act) → m.thread ≡ t → (front back : List Act) (top : ℕ) (c d : Control) → IsConfiguration p c → effect p c t ≡ Some e →
      m.access ≡ access_at p (status_of c t) → AllAround p q top t front → AllFree m front → Follows p (front ++ m ∷ back) c d
      → Follows p (front ++ back) (after e c) d
  pull t e m thread [] back top c d ok by access around free follows =
      let same : follows.0 ≡ e = same_Some follows.0 e (sym follows.1.effect ∙ (ap (effect p c) thread ∙ by)) in
      subst (λ f. Follows p back (after f c) d) same follows.2
  pull t e m thread (x ∷ front) back top c d ok by access around free follows =
      let f = follows.0 in
      let takes = follows.1 in
      let other = around.0.other in (
        f,
        x_later c ok t e by m x f takes other access free.0,
        subst (λ b. Follows p (front ++ back) b d) (both_ways c ok t e by m x f takes other access free.0)
            (pull t e m thread front back top (after f c) d (after_ok c ok x f takes) (t_later c ok t e by m x f takes other access free.0)
            (access_later c ok t e by m x f takes other access free.0) around.1 free.1 follows.2),
      )

  -- what is left of a run once its leader's step is taken first
  record Pulled (t : ℕ) (e : Effect) (c d : Control) (log : List Act) : Type 0 where
    rest : List Act
    follows : Follows p rest (after e c) d
    orderly : Orderly (ForkedApart p) rest
    reordered : IsPermutation (threads_of log) (t ∷ threads_of rest)

  threads_middle : (front back : List Act) (m : Act) (t : ℕ) → m.thread ≡ t → IsPermutation (threads_of (front ++ m ∷ back)) (t ∷ threads_of (front ++ back))
  threads_middle front back m t thread =
      subst₂ IsPermutation (sym (map-append (λ (x : Act). x.thread) front (m ∷ back)))
      (ap (λ l. m.thread ∷ l) (sym (map-append (λ (x : Act). x.thread) front back)) ∙ ap (λ u. u ∷ threads_of (front ++ back)) thread)
      (IsPermutation-middle (threads_of front) m.thread (threads_of back))

  pulled_first : (t : ℕ) (e : Effect) (log : List Act) (c d : Control) → IsConfiguration p c → effect p c t ≡ Some e → StepsFrom p q c t →
      Follows p log c d → Orderly (ForkedApart p) log → First p q (priority_of q (status_of c t)) t c log → Pulled t e c d log
  pulled_first t e log c d ok by from follows orderly first =
      let top = priority_of q (status_of c t) in
      let ordered : Orderly (ForkedApart p) (first.front ++ first.found ∷ first.back) = subst (Orderly (ForkedApart p)) first.split orderly in
      let free : AllFree first.found first.front =
      all_free top t from.node first.found first.thread from.owned (first.access ∙ from.access) (sym from.priority) first.front first.back first.around ordered
      in
      record {
        rest = first.front ++ first.back;
        follows = pull t e first.found first.thread first.front first.back top c d ok by first.access first.around free
            (subst (λ l. Follows p l c d) first.split follows);
        orderly = (to_front (ForkedApart p) first.found first.front first.back (passes_all top t first.found first.thread first.front first.around free)
            ordered).1;
        reordered = subst (λ l. IsPermutation (threads_of l) (t ∷ threads_of (first.front ++ first.back))) (sym first.split)
            (threads_middle first.front first.back first.found t first.thread);
      }

  pulled : (t : ℕ) (e : Effect) (log : List Act) (c d : Control) → IsConfiguration p c → Leads p q c t → effect p c t ≡ Some e → Follows p log c d → IsDone p d
      → Orderly (ForkedApart p) log →
      Pulled t e c d log
  pulled t e log c d ok leads by follows done orderly =
      let here : Enabled p c t = enabled_from_effect p c t e by in
      let from = steps_from p q valid c ok t here in
      pulled_first t e log c d ok by from follows orderly
      (find log c d (priority_of q (status_of c t)) t ok follows done here leads.greatest)

  -- each complete run in order is a reordering of a priority run, and ends where it ends
  pub same_end : (run : List ℕ) (log : List Act) (c end d : Control) → IsConfiguration p c → PriorityRun p q run c end → IsDone p end → Follows p log c d
      → IsDone p d → Orderly (ForkedApart p) log →
      (d ≡ end) × IsPermutation (threads_of log) run
  same_end [] [] c end d ok by_priority over follows done orderly = (sym follows ∙ by_priority, IsPermutation-refl [])
  same_end [] (m ∷ log) c end d ok by_priority over follows done orderly =
      absurd (done_not_enabled p c m.thread (subst (IsDone p) (sym by_priority) over) (taker_enabled c m follows.0 follows.1))
  same_end (t ∷ run) log c end d ok by_priority over follows done orderly =
      let stepped = map_some (λ e. after e c) (effect p c t) by_priority.1.0 by_priority.1.1 in
      let e = stepped.0 in
      let one : Pulled t e c d log = pulled t e log c d ok by_priority.0 stepped.1 follows done orderly in
      let others = same_end run one.rest (after e c) end d (configuration_kept p formed c t e ok stepped.1)
      (subst (λ b. PriorityRun p q run b end) (sym stepped.2) by_priority.1.2) over one.follows done one.orderly in (
        others.0,
        IsPermutation-trans (threads_of log) (t ∷ threads_of one.rest) (t ∷ run) one.reordered
            (IsPermutation-cons t (threads_of one.rest) run others.1),
      )
