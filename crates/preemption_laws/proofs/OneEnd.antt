-- In two admissible complete runs the step of the thread of the greatest rank is pulled to the front, again and again: so both end alike.
use Rattle.std.proofs.Common.{◌≡◌, ◌≢◌, ℕ, zero, suc, ◌≤◌, ⊎_elim, true, false, Option, Some, None, option_and_then, List, [], ◌∷◌, ◌++◌}
use Rattle.std.proofs.Common.{length, refl, sym, ap, subst, ◌∙◌, arith}
use Rattle.std.proofs.lemmas.Bool.{cases_Bool, cases_eq}
use Rattle.std.proofs.lemmas.Option.{none-some, same_Some}
use Rattle.sc_values.specs.Access.{Access, MayPrecede}
use Rattle.sc_values.specs.Runs.{Machine, replay, IsOver, Act, act_of, acts, acts_after}
use Rattle.sc_values.proofs.Order.{EachIsOpen, Orderly, PassesAll, TakesNone, clear_past, to_front, orderly_from_admissible}
use Rattle.preemption_laws.proofs.Greatest.{Leads, NoneOf, leader}
use Rattle.preemption_laws.specs.OneEnd.{KeepsApart, RankedSteps, RanksGiveOneEnd}

module _ (m : Machine) where
  -- step x of a run leads from c to d
  record Takes (x : Act) (c d : m.Configuration) : Type 0 where
    step : m.step x.thread c ≡ Some d
    access : x.access ≡ m.access c x.thread

  -- a run, by its steps, leads from c to d
  abbrev Follows : List Act → m.Configuration → m.Configuration → Type 0
  Follows [] c d = c ≡ d
  Follows (x ∷ log) c d = (e : m.Configuration) × Takes x c e × Follows log e d

  record AsLog (run : List ℕ) (c d : m.Configuration) : Type 0 where
    log : List Act
    is : acts m run c ≡ log
    follows : Follows log c d

  as_log : (run : List ℕ) (c d : m.Configuration) → replay m run c ≡ Some d → AsLog run c d
  as_log [] c d runs = record { log = []; is = refl; follows = same_Some c d runs }
  as_log (t ∷ run) c d runs = at (m.step t c) refl runs (λ e rest. as_log run e d rest)
    where
      at : (o : Option m.Configuration) → m.step t c ≡ o → option_and_then (replay m run) o ≡ Some d →
          ((e : m.Configuration) → replay m run e ≡ Some d → AsLog run e d) → AsLog (t ∷ run) c d
      at None is rest on = absurd (none-some d rest)
      at (Some e) is rest on =
          let later : AsLog run e d = on e rest in
          record {
            log = act_of m c t ∷ later.log;
            is = ap (λ o. act_of m c t ∷ acts_after m (acts m run) o) is ∙ ap (λ xs. act_of m c t ∷ xs) later.is;
            follows = (e, record { step = is; access = refl }, later.follows);
          }

  module _ (Sound : m.Configuration → Type 0) (keeps : KeepsApart m Sound) where
    -- a step x before the first one of thread t, whose access is known
    record Around (t : ℕ) (access : Access) (x : Act) : Type 0 where
      other : x.thread ≢ t
      forking : ℕ
      apart : m.ForkedApart x.thread t forking
      forks_none : (u a : ℕ) → m.ForkedApart x.thread u a → a ≢ t
      -- of whom t is forked apart by another, that one does not take step x
      between : (u a : ℕ) → m.ForkedApart u t a → x.thread ≢ a
      may : MayPrecede access x.access

    abbrev AllAround : ℕ → Access → List Act → Type 0
    AllAround t access [] = Unit {0}
    AllAround t access (x ∷ front) = Around t access x × AllAround t access front

    -- the first step of thread t in a run
    record First (t : ℕ) (access : Access) (log : List Act) : Type 0 where
      front : List Act
      found : Act
      back : List Act
      split : log ≡ front ++ found ∷ back
      thread : found.thread ≡ t
      is : found.access ≡ access
      around : AllAround t access front

    here : (t : ℕ) (access : Access) (x : Act) (log : List Act) → x.thread ≡ t → x.access ≡ access → First t access (x ∷ log)
    here t access x log same is = record { front = []; found = x; back = log; split = refl; thread = same; is = is; around = tt }

    later : (t : ℕ) (access : Access) (x : Act) (log : List Act) → Around t access x → First t access log → First t access (x ∷ log)
    later t access x log around rest =
        record {
          front = x ∷ rest.front;
          found = rest.found;
          back = rest.back;
          split = ap (λ xs. x ∷ xs) rest.split;
          thread = rest.thread;
          is = rest.is;
          around = (around, rest.around);
        }

    module _ (r : RankedSteps m) where
      -- nobody has a greater rank than this
      abbrev Tops : ℕ → m.Configuration → r.Known → Type 0
      Tops top c k = (u : ℕ) → m.enabled c u ≡ true → r.rank k u ≤ top

      module _ (top t : ℕ) (access : Access)
          (order : (d : m.Configuration) (l : r.Known) (u a : ℕ) → r.Holds d l → m.enabled d u ≡ true → m.ForkedApart t u a → r.rank l u ≤ top →
          MayPrecede access (m.access d u)) where
        around_at : (c d : m.Configuration) (k : r.Known) (x : Act) → Sound c → r.Holds c k → Tops top c k → m.enabled c t ≡ true → Takes x c d →
            x.thread ≢ t → Around t access x
        around_at c d k x sound holds tops on takes other =
            let on_x : m.enabled c x.thread ≡ true = keeps.turns c d x.thread takes.step in
            let two = keeps.apart c x.thread t sound on_x on other in
            record {
              other = other;
              forking = two.0;
              apart = two.1;
              forks_none = λ u a met. keeps.waits c x.thread t u a sound on_x on met;
              between = λ u a met same. keeps.waits c t x.thread u a sound on on_x (keeps.turned u t a met) (sym same);
              may = subst (MayPrecede access) (sym takes.access)
                  (order c k x.thread two.0 holds on_x (keeps.turned x.thread t two.0 two.1) (tops x.thread on_x));
            }

        -- an enabled thread steps in each complete run
        find : (log : List Act) (c d : m.Configuration) (k : r.Known) → Sound c → r.Holds c k → Tops top c k → Follows log c d → IsOver m d →
            m.enabled c t ≡ true → m.access c t ≡ access → First t access log
        find [] c d k sound holds tops follows over on is = absurd (let off = ap (λ b. m.enabled b t) follows ∙ over t in wrong (sym on ∙ off))
          where
            wrong : ¬ (true ≡ false)
            wrong e = absurd cc
        find (x ∷ log) c d k sound holds tops follows over on is =
            let e = follows.0 in
            let takes = follows.1 in
            ⊎_elim (λ same. here t access x log same (takes.access ∙ (ap (m.access c) same ∙ is)))
            (λ other.
            let next = r.falls c e k x.thread holds takes.step in
            let on_still = keeps.still c e x.thread t sound takes.step (λ same. other (sym same)) on in
            later t access x log (around_at c e k x sound holds tops on takes other)
            (find log e d next.0 (keeps.kept c e x.thread sound takes.step) next.1
            (λ u on_u. let before = next.2 u on_u in let low = tops before.0 before.1 in let less = before.2 in omega (arith, low, less))
            follows.2 over on_still.0 (on_still.1 ∙ is)))
            (cases_eq x.thread t)

      -- ---- the first step of thread t is pulled to the front

      none_between : (t : ℕ) (access : Access) (u a : ℕ) → m.ForkedApart u t a → (front : List Act) → AllAround t access front → TakesNone a front
      none_between t access u a met [] around = tt
      none_between t access u a met (x ∷ front) around = (around.0.between u a met, none_between t access u a met front around.1)

      abbrev AllMay : Act → List Act → Type 0
      AllMay x [] = Unit {0}
      AllMay x (y ∷ front) = MayPrecede y.access x.access × AllMay x front

      all_may : (t : ℕ) (access : Access) (x : Act) → x.thread ≡ t → (front back : List Act) → AllAround t access front →
          Orderly m.ForkedApart (front ++ x ∷ back) → AllMay x front
      all_may t access x thread [] back around orderly = tt
      all_may t access x thread (y ∷ front) back around orderly = (
        clear_past m.ForkedApart y x EachIsOpen front back orderly.0 around.0.forking
            (subst (λ z. m.ForkedApart y.thread z around.0.forking) (sym thread) around.0.apart) tt
            (none_between t access y.thread around.0.forking around.0.apart front around.1),
        all_may t access x thread front back around.1 orderly.1,
      )

      passes_all : (t : ℕ) (access : Access) (x : Act) → x.thread ≡ t → x.access ≡ access → (front : List Act) → AllAround t access front →
          PassesAll m.ForkedApart x front
      passes_all t access x thread is [] around = tt
      passes_all t access x thread is (y ∷ front) around = (
        record {
          forks_none = λ u a met same. around.0.forks_none u a met (same ∙ thread);
          may = subst (λ z. MayPrecede z y.access) (sym is) around.0.may;
        },
        passes_all t access x thread is front around.1,
      )

      -- where it leads, taken first, and the rest of the run from there
      record Pulled (t : ℕ) (c d : m.Configuration) (rest : List Act) : Type 0 where
        next : m.Configuration
        steps : m.step t c ≡ Some next
        follows : Follows rest next d

      pull : (t : ℕ) (access : Access) (x : Act) → x.thread ≡ t → x.access ≡ access → (front back : List Act) (c d : m.Configuration) → Sound c →
          m.enabled c t ≡ true → m.access c t ≡ access → AllAround t access front → AllMay x front → Follows (front ++ x ∷ back) c d →
          Pulled t c d (front ++ back)
      pull t access x thread is [] back c d sound on is_now around may follows =
          record { next = follows.0; steps = ap (λ u. m.step u c) (sym thread) ∙ follows.1.step; follows = follows.2 }
      pull t access x thread is (y ∷ front) back c d sound on is_now around may follows =
          let e = follows.0 in
          let takes = follows.1 in
          let t_other : t ≢ y.thread = λ same. around.0.other (sym same) in
          let still = keeps.still c e y.thread t sound takes.step t_other on in
          let rest : Pulled t e d (front ++ back) =
          pull t access x thread is front back e d (keeps.kept c e y.thread sound takes.step) still.0 (still.1 ∙ is_now) around.1 may.1 follows.2 in
          let both = keeps.swap c e rest.next y.thread t sound t_other takes.step on rest.steps
          (subst (λ z. MayPrecede z (m.access c t)) takes.access (subst (MayPrecede y.access) (is ∙ sym is_now) may.0))
          (subst (MayPrecede (m.access c t)) takes.access (subst (λ z. MayPrecede z y.access) (sym is_now) around.0.may)) in
          let on_y : m.enabled c y.thread ≡ true = keeps.turns c e y.thread takes.step in
          let y_still = keeps.still c both.0 t y.thread sound both.1 around.0.other on_y in
          record {
            next = both.0;
            steps = both.1;
            follows = (rest.next, record { step = both.2; access = takes.access ∙ sym y_still.1 }, rest.follows);
          }

      shorter : (front back : List Act) (x : Act) → length (front ++ x ∷ back) ≡ suc (length (front ++ back))
      shorter [] back x = refl
      shorter (y ∷ front) back x = ap suc (shorter front back x)

      -- a complete run of which the leader's step is taken first
      record Led (t : ℕ) (c d : m.Configuration) (size : ℕ) : Type 0 where
        rest : List Act
        pulled : Pulled t c d rest
        orderly : Orderly m.ForkedApart rest
        fewer : size ≡ suc (length rest)

      led : (t : ℕ) (c d : m.Configuration) (k : r.Known) → Sound c → r.Holds c k → m.enabled c t ≡ true → Tops (r.rank k t) c k → (log : List Act) →
          Follows log c d → Orderly m.ForkedApart log → IsOver m d → Led t c d (length log)
      led t c d k sound holds on tops log follows orderly over =
          let access = m.access c t in
          let f : First t access log =
          find (r.rank k t) t access (λ e l u a there on_u met low. r.order c e k l t u a holds there on on_u met low) log c d k sound holds tops follows
          over on refl in
          let ordered : Orderly m.ForkedApart (f.front ++ f.found ∷ f.back) = subst (Orderly m.ForkedApart) f.split orderly in
          record {
            rest = f.front ++ f.back;
            pulled = pull t access f.found f.thread f.is f.front f.back c d sound on refl f.around
                (all_may t access f.found f.thread f.front f.back f.around ordered) (subst (λ xs. Follows xs c d) f.split follows);
            orderly = (to_front m.ForkedApart f.found f.front f.back (passes_all t access f.found f.thread f.is f.front f.around) ordered).1;
            fewer = ap length f.split ∙ shorter f.front f.back f.found;
          }

      -- ---- both runs

      -- where nobody is enabled no run goes on
      ended : (c d : m.Configuration) → IsOver m c → (log : List Act) → Follows log c d → c ≡ d
      ended c d over [] follows = follows
      ended c d over (x ∷ log) follows = absurd (let on = keeps.turns c follows.0 x.thread follows.1.step in let off = over x.thread in differ on off)
        where
          differ : m.enabled c x.thread ≡ true → m.enabled c x.thread ≡ false → ⊥
          differ on off = absurd cc

      is_over : (c : m.Configuration) (k : r.Known) → NoneOf (m.enabled c) (r.rank k) (r.threads c) → IsOver m c
      is_over c k none u = ⊎_elim (λ on. let off = none u (r.among c u on) in absurd cc) (λ off. off) (cases_Bool (m.enabled c u))

      module _ (d e : m.Configuration) (over : IsOver m d) (over_too : IsOver m e) where
        -- both go on from there, the one by a run that is shorter by one
        abbrev Shorter : ℕ → Type 0
        Shorter size =
            (c : m.Configuration) (k : r.Known) → Sound c → r.Holds c k → (log others : List Act) → size ≡ suc (length log) → Follows log c d →
            Orderly m.ForkedApart log → Follows others c e → Orderly m.ForkedApart others → d ≡ e

        by_leader : (c : m.Configuration) (k : r.Known) → Sound c → r.Holds c k → (log others : List Act) → Follows log c d → Orderly m.ForkedApart log →
            Follows others c e → Orderly m.ForkedApart others → Shorter (length log) → (t : ℕ) → Leads (m.enabled c) (r.rank k) (r.threads c) t → d ≡ e
        by_leader c k sound holds log others follows orderly follows_too orderly_too rest t leads =
            let tops : Tops (r.rank k t) c k = λ u on. leads.greatest u (r.among c u on) on in
            let a : Led t c d (length log) = led t c d k sound holds leads.on tops log follows orderly over in
            let b : Led t c e (length others) = led t c e k sound holds leads.on tops others follows_too orderly_too over_too in
            let next = r.falls c a.pulled.next k t holds a.pulled.steps in
            let alike : b.pulled.next ≡ a.pulled.next = same_Some b.pulled.next a.pulled.next (sym b.pulled.steps ∙ a.pulled.steps) in
            rest a.pulled.next next.0 (keeps.kept c a.pulled.next t sound a.pulled.steps) next.1 a.rest b.rest a.fewer a.pulled.follows a.orderly
            (subst (λ z. Follows b.rest z e) alike b.pulled.follows) b.orderly

        same_end : (fuel : ℕ) (c : m.Configuration) (k : r.Known) → Sound c → r.Holds c k → (log others : List Act) → length log ≤ fuel →
            Follows log c d → Orderly m.ForkedApart log → Follows others c e → Orderly m.ForkedApart others → d ≡ e
        same_end zero c k sound holds log others enough follows orderly follows_too orderly_too =
            ⊎_elim
            (λ one. by_leader c k sound holds log others follows orderly follows_too orderly_too
            (λ next l kept there rest more size goes in_order goes_too in_order_too. absurd (omega (size, enough, arith))) one.0 one.1)
            (λ none. sym (ended c d (is_over c k none) log follows) ∙ ended c e (is_over c k none) others follows_too)
            (leader (m.enabled c) (r.rank k) (r.threads c))
        same_end (suc fuel) c k sound holds log others enough follows orderly follows_too orderly_too =
            ⊎_elim
            (λ one. by_leader c k sound holds log others follows orderly follows_too orderly_too
            (λ next l kept there rest more size goes in_order goes_too in_order_too.
            same_end fuel next l kept there rest more (omega (size, enough, arith)) goes in_order goes_too in_order_too) one.0 one.1)
            (λ none. sym (ended c d (is_over c k none) log follows) ∙ ended c e (is_over c k none) others follows_too)
            (leader (m.enabled c) (r.rank k) (r.threads c))

-- of two ends of one configuration both are one
pub one_end : RanksGiveOneEnd
one_end m Sound keeps r c k sound holds d e ends ends_too =
    let a : AsLog m ends.run c d = as_log m ends.run c d ends.complete.runs in
    let b : AsLog m ends_too.run c e = as_log m ends_too.run c e ends_too.complete.runs in
    same_end m Sound keeps r d e ends.complete.over ends_too.complete.over (length a.log) c k sound holds a.log b.log (omega arith) a.follows
    (subst (Orderly m.ForkedApart) a.is (orderly_from_admissible m.ForkedApart (acts m ends.run c) ends.admissible)) b.follows
    (subst (Orderly m.ForkedApart) b.is (orderly_from_admissible m.ForkedApart (acts m ends_too.run c) ends_too.admissible))
