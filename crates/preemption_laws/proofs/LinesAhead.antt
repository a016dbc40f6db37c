-- What lines will be in all that may follow, and what they will be when a thread has left the join at which it waits.
use Rattle.std.proofs.Common.{◌≡◌, ℕ, zero, suc, ◌≤◌, inl, inr, ⊎_elim, Some, List, [], ◌∷◌, ◌++◌, Contains, refl, sym, ap, subst}
use Rattle.std.proofs.Common.{◌∙◌, option_and_then, min, arith}
use Rattle.std.proofs.Math.Nat.{le-min}
use Rattle.std.proofs.lemmas.Option.{same_Some}
use Rattle.sc_values.specs.Runs.{replay}
use Rattle.sc_graph.specs.declared.control.Control.{Control}
use Rattle.sc_graph.specs.declared.tables.Tables.{Tables}
use Rattle.sc_graph.specs.Program.{Program}
use Rattle.sc_graph.specs.Threads.{Descends, Below}
use Rattle.sc_graph.specs.Control.{status_of, IsEnabled}
use Rattle.sc_graph.specs.Machine.{machine}
use Rattle.sc_graph.specs.Steps as nodes
use Rattle.sc_graph.specs.Tables.{priority_of}
use Rattle.sc_graph.specs.Tick.{IsConfiguration}
use Rattle.sc_graph.specs.Valid.{IsValid}
use Rattle.sc_graph.specs.Steps.{after}
use Rattle.tick_laws.proofs.ConfigurationKept.{after_other, configuration_kept}
use Rattle.tick_laws.proofs.Formed.{valid_formed}
use Rattle.tick_laws.proofs.StepMoves.{StepMoves, step_moves}
use Rattle.tick_laws.proofs.Kin.{not_above}
use Rattle.tick_laws.proofs.Lists.{and_then_some, same_or_not, contained, contains_none, contains_cons, contains_head, contains_tail}
use Rattle.tick_laws.proofs.RunsOn.{SteppedBy, stepped_by, replay_append}
use Rattle.tick_laws.proofs.Tree.{below_trans}
use Rattle.tick_laws.proofs.Views.{Enabled, stands, completes, does, enabled_view, enabled_from, enabled_from_effect}
use Rattle.tick_laws.proofs.WithinTick.{laws_within_tick}
use Rattle.preemption_laws.specs.LowLines.{IsGoing, LowBelow, LowLine}
use Rattle.preemption_laws.proofs.LowLines.{lines_stay_low, of_two_above, going_present, never_ended, waits_on, above_present}

-- whatever follows, the line of a thread is low
abbrev pub LowAhead : Program → Tables → ℕ → ℕ → Control → Type 0
LowAhead p q top a m = (run : List ℕ) (n : Control) → replay (machine p) run m ≡ Some n → LowLine p q top a n

-- so it is once the thread has taken a step
abbrev pub LowOnceStepped : Program → Tables → ℕ → ℕ → Control → Type 0
LowOnceStepped p q top a m = (run : List ℕ) (n : Control) → replay (machine p) run m ≡ Some n → Contains run a → LowLine p q top a n

-- the line of a thread below is part of it, apart from who is neither below nor above that one
line_within : (p : Program) (q : Tables) (top a b : ℕ) (n : Control) → Below p b a → LowLine p q top a n → LowLine p q top b n
line_within p q top a b n under low u (inl below) on = low u (inl (below_trans p u b a below under)) on
line_within p q top a b n under low u (inr above) on =
    ⊎_elim (λ a_low. low u (inr a_low) on) (λ u_low. low u (inl u_low) on)
    (of_two_above p under.generations above.generations b a u under.descends above.descends)

pub ahead_within : (p : Program) (q : Tables) (top a b : ℕ) (m : Control) → Below p b a → LowAhead p q top a m → LowAhead p q top b m
ahead_within p q top a b m under low run n leads = line_within p q top a b n under (low run n leads)

-- and so is that of a greater number
pub ahead_less : (p : Program) (q : Tables) (top other a : ℕ) (m : Control) → top ≤ other → LowAhead p q top a m → LowAhead p q other a m
ahead_less p q top other a m le low run n leads u line on = let less = low run n leads u line on in omega (less, le, arith)

-- of two bounds both hold
pub ahead_both : (p : Program) (q : Tables) (top other a : ℕ) (m : Control) → LowAhead p q top a m → LowAhead p q other a m → LowAhead p q (min top other) a m
ahead_both p q top other a m low low_too run n leads u line on = le-min (low run n leads u line on) (low_too run n leads u line on)

-- where a run takes a step of a thread
record TakesStep (p : Program) (a : ℕ) (run : List ℕ) (m n : Control) : Type 0 where
  before : List ℕ
  there : Control
  next : Control
  behind : List ℕ
  leads : replay (machine p) before m ≡ Some there
  steps : nodes.step p a there ≡ Some next
  goes_on : replay (machine p) (a ∷ behind) there ≡ Some n

takes_step : (p : Program) (a : ℕ) (run : List ℕ) (m n : Control) → replay (machine p) run m ≡ Some n → Contains run a → TakesStep p a run m n
takes_step p a [] m n leads has = absurd (contains_none a has)
takes_step p a (t ∷ run) m n leads has =
    ⊎_elim here (λ rest. there (takes_step p a run mid.0 n mid.2 rest)) (contains_cons t a run has)
  where
    mid : (z : Control) × (nodes.step p t m ≡ Some z) × (replay (machine p) run z ≡ Some n)
    mid = and_then_some (replay (machine p) run) (nodes.step p t m) n leads

    here : t ≡ a → TakesStep p a (t ∷ run) m n
    here same =
        record {
          before = [];
          there = m;
          next = mid.0;
          behind = run;
          leads = refl;
          steps = subst (λ v. nodes.step p v m ≡ Some mid.0) same mid.1;
          goes_on = subst (λ v. replay (machine p) (v ∷ run) m ≡ Some n) same leads;
        }

    there : TakesStep p a run mid.0 n → TakesStep p a (t ∷ run) m n
    there further =
        record {
          before = t ∷ further.before;
          there = further.there;
          next = further.next;
          behind = further.behind;
          leads = ap (option_and_then (replay (machine p) further.before)) mid.1 ∙ further.leads;
          steps = further.steps;
          goes_on = further.goes_on;
        }

pub once_stepped_less : (p : Program) (q : Tables) (a : ℕ) (m : Control) (top other : ℕ) → top ≤ other → LowOnceStepped p q top a m →
    LowOnceStepped p q other a m
once_stepped_less p q a m top other le low run n leads has u line on = let less = low run n leads has u line on in omega (less, le, arith)

module _ (p : Program) (q : Tables) (top a : ℕ) (m : Control) where
  -- a run takes what is ahead with it
  pub ahead_on : (run : List ℕ) (n : Control) → replay (machine p) run m ≡ Some n → LowAhead p q top a m → LowAhead p q top a n
  ahead_on run n leads low more o follows = low (run ++ more) o (replay_append p run more m n leads ∙ follows)

  pub once_stepped_on : (run : List ℕ) (n : Control) → replay (machine p) run m ≡ Some n → LowOnceStepped p q top a m → LowOnceStepped p q top a n
  once_stepped_on run n leads low more o follows has = low (run ++ more) o (replay_append p run more m n leads ∙ follows) (in_second run more has)
    where
      in_second : (xs ys : List ℕ) → Contains ys a → Contains (xs ++ ys) a
      in_second [] ys h = h
      in_second (x ∷ xs) ys h = let rest = in_second xs ys h in let lt = rest.1 in (suc rest.0, omega (lt, arith), rest.2)

  -- when it has stepped the line is low for good
  pub stepped_ahead : (run : List ℕ) (n : Control) → replay (machine p) run m ≡ Some n → Contains run a → LowOnceStepped p q top a m → LowAhead p q top a n
  stepped_ahead run n leads has low more o follows =
      low (run ++ more) o (replay_append p run more m n leads ∙ follows) (in_first run more has)
    where
      in_first : (xs ys : List ℕ) → Contains xs a → Contains (xs ++ ys) a
      in_first [] ys h = absurd (contains_none a h)
      in_first (x ∷ xs) ys h = ⊎_elim (λ same. (zero, omega arith, same))
          (λ tail. let rest = in_first xs ys tail in let lt = rest.1 in (suc rest.0, omega (lt, arith), rest.2)) (contains_cons x a xs h)

  -- of two bounds both hold
  pub once_stepped_both : (other : ℕ) → LowOnceStepped p q top a m → LowOnceStepped p q other a m → LowOnceStepped p q (min top other) a m
  once_stepped_both other low low_too run n leads has u line on = le-min (low run n leads has u line on) (low_too run n leads has u line on)

module _ (p : Program) (q : Tables) (valid : IsValid p q) (m : Control) (ok : IsConfiguration p m) where
  pub low_ahead : (top a : ℕ) → IsGoing (status_of m a) → LowBelow p q top a m → LowAhead p q top a m
  low_ahead top a goes low run n leads = lines_stay_low p q valid run m n ok leads a top goes low

  pub goes_on : (n : Control) (a : ℕ) → Enabled p n a → IsGoing (status_of n a)
  goes_on n a (stands x at) = subst IsGoing (sym at) tt
  goes_on n a (completes w) = subst IsGoing (sym w.at) tt

  -- below an enabled thread nobody is enabled
  pub low_by_itself : (n : Control) → IsConfiguration p n → (top a : ℕ) → IsEnabled p n a → priority_of q (status_of n a) ≤ top → LowBelow p q top a n
  low_by_itself n fine top a on le u under on_too =
      ⊎_elim (λ same. subst (λ v. priority_of q (status_of n v) ≤ top) (sym same) le)
      (λ ne. absurd (not_above p (valid_formed p q valid) n fine u a (enabled_view p n u on_too) (enabled_view p n a on) ne under)) (same_or_not u a)

  -- an enabled thread comes to no greater priority than its own, nor does anybody on its line
  pub enabled_ahead : (a : ℕ) → IsEnabled p m a → LowAhead p q (priority_of q (status_of m a)) a m
  enabled_ahead a on =
      low_ahead (priority_of q (status_of m a)) a (goes_on m a (enabled_view p m a on))
      (low_by_itself m ok (priority_of q (status_of m a)) a on (at_most (priority_of q (status_of m a))))
    where
      at_most : (n : ℕ) → n ≤ n
      at_most n = omega arith

  -- where a thread is low whenever it is about to step, its line is low once it has
  steps_low : (top a : ℕ) →
      ((before : List ℕ) (there : Control) → replay (machine p) before m ≡ Some there → IsEnabled p there a → priority_of q (status_of there a) ≤ top) →
      LowOnceStepped p q top a m
  steps_low top a each run n leads has = by (takes_step p a run m n leads has)
    where
      by : TakesStep p a run m n → LowLine p q top a n
      by x =
          let fine : IsConfiguration p x.there = (laws_within_tick p q valid).kept x.before m x.there ok x.leads in
          let s : SteppedBy p a x.there x.next = stepped_by p a x.there x.next x.steps in
          let on : Enabled p x.there a = enabled_from_effect p x.there a s.e s.is in
          let is_on : IsEnabled p x.there a = enabled_from p x.there a on in
          lines_stay_low p q valid (a ∷ x.behind) x.there n fine x.goes_on a top (goes_on x.there a on)
          (low_by_itself x.there fine top a is_on (each x.before x.there x.leads is_on))

  -- so it is where a line below a thread is low ahead
  pub low_once_stepped : (top g a : ℕ) → Below p g a → LowAhead p q top g m → LowOnceStepped p q top a m
  low_once_stepped top g a under low = steps_low top a (λ before there leads on. low before there leads a (inr under) on)

  -- ---- who goes steps before those above it

  stays_put : (b : ℕ) (run : List ℕ) (c n : Control) → IsConfiguration p c → replay (machine p) run c ≡ Some n → ¬ Contains run b →
      IsGoing (status_of c b) → IsGoing (status_of n b)
  stays_put b [] c n fine leads out goes = subst (λ z. IsGoing (status_of z b)) (same_Some c n leads) goes
  stays_put b (t ∷ run) c n fine leads out goes =
      let mid = and_then_some (replay (machine p) run) (nodes.step p t c) n leads in
      let s : SteppedBy p t c mid.0 = stepped_by p t c mid.0 mid.1 in
      let moves : StepMoves p c t s.e = step_moves p (valid_formed p q valid) c fine t s.e (does p c t s.e s.is) in
      let still : status_of (after s.e c) b ≡ status_of c b =
      after_other p (valid_formed p q valid) c t s.e moves b (λ same. out (subst (Contains (t ∷ run)) (sym same) (contains_head t run)))
      (λ child. waits_on p q valid c fine b t (moves.parent b child) (going_present (status_of c b) goes) (never_ended (status_of c b) goes)
      (enabled_from_effect p c t s.e s.is)) in
      stays_put b run mid.0 n (subst (IsConfiguration p) s.leads (configuration_kept p (valid_formed p q valid) c t s.e fine s.is)) mid.2
      (λ has. out (contains_tail t b run has)) (subst (λ z. IsGoing (status_of z b)) s.leads (subst IsGoing (sym still) goes))

  has_to_step : (b u g : ℕ) → Descends p (suc g) b u → IsGoing (status_of m b) → (run : List ℕ) (n : Control) → replay (machine p) run m ≡ Some n →
      IsEnabled p n u → Contains run b
  has_to_step b u g above goes run n leads on = ⊎_elim (λ has. has) (λ out. absurd (never out)) (contained run b)
    where
      never : ¬ Contains run b → ⊥
      never out =
          let still : IsGoing (status_of n b) = stays_put b run m n ok leads out goes in
          above_present p q valid n ((laws_within_tick p q valid).kept run m n ok leads) b u g above (going_present (status_of n b) still)
          (never_ended (status_of n b) still) (enabled_view p n u on)

  -- where a thread goes, and its line is low once it has stepped, so is that of each one above it
  pub once_stepped_above : (top b u g : ℕ) → Descends p (suc g) b u → IsGoing (status_of m b) → LowOnceStepped p q top b m → LowOnceStepped p q top u m
  once_stepped_above top b u g above goes low =
      steps_low top u (λ before there leads on. low before there leads (has_to_step b u g above goes before there leads on) u
      (inr (record { generations = suc g; descends = above })) on)
