-- What a search for a thread to claim finds, and that a new claim is as things stand.
use Rattle.std.proofs.Common.{◌≡◌, ℕ, ◌<◌, ◌≤◌, ◌^◌, true, List, [], Option, Some, None, map, length, slice_get, slice_set, refl, sym, ap, subst, ◌∙◌, arith}
use Rattle.std.specs.Prelude.{IsSome}
use Rattle.sc_values.specs.declared.value.Value.{Value}
use Rattle.sc_values.specs.declared.operation.Operation.{Operation}
use Rattle.sc_values.specs.Operator.{kind_of}
use Rattle.sc_values.specs.Checked.{Checked, Checks, loaded_from}
use Rattle.sc_values.proofs.Evaluating.{present_kinds}
use Rattle.sc_graph.specs.declared.control.Control.{Control}
use Rattle.sc_graph.specs.declared.control.Status.{Status}
use Rattle.sc_graph.specs.declared.control.Status.TheVariants as status
use Rattle.sc_graph.specs.declared.tables.Tables.{Tables}
use Rattle.sc_graph.specs.Program.{Program, kinds}
use Rattle.sc_graph.specs.Control.{status_of, status_enabled, IsEnabled}
use Rattle.sc_graph.specs.Priority.{Leads}
use Rattle.sc_graph.specs.Tick.{IsConfiguration}
use Rattle.sc_graph.specs.Valid.{IsValid}
use Rattle.tick_core.specs.Claims.{Claim, present_operands}
use Rattle.tick_core.specs.Inside.Work.{HasFormedCode, IsWork}
use Rattle.tick_core.specs.Stepping.{node_of, code_at}
use Rattle.tick_core.specs.State.{InTick, Holds, IsFresh}
use Rattle.tick_core.specs.Turns.{IsOpen, GivesClaim}
use Rattle.tick_core.specs.Inside.Turns.{IsUnclaimed, IsNew, MayCommit}
use Rattle.tick_core.proofs.Fresh.{values_are, code_formed}
use Rattle.tick_core.proofs.StateKept.{leads_at, within_budget, budget_fits, open_value}

stands_at : (p : Program) (c : Control) (st : Status) → status_enabled p c st ≡ true → IsSome (node_of st)
stands_at p c (status.At n) enabled = refl
stands_at p c (status.Waiting j) enabled = refl
stands_at p c status.Absent enabled = absurd cc
stands_at p c (status.Paused d) enabled = absurd cc
stands_at p c status.Ended enabled = absurd cc

-- an enabled thread stands at a node, or waits at a join
pub stands : (p : Program) (c : Control) (t : ℕ) → IsEnabled p c t → IsSome (node_of (status_of c t))
stands p c t enabled = stands_at p c (status_of c t) enabled

-- the code of a step of a valid program is well formed
pub has_formed : (p : Program) (q : Tables) → IsValid p q → (st : Status) → HasFormedCode p (code_at p st)
has_formed p q valid st = at (code_at p st) refl
  where
    at : (o : Option (List Operation)) → code_at p st ≡ o → HasFormedCode p o
    at None is = tt
    at (Some code) is = code_formed p q valid st code is

-- the work of a step with a code
pub some_work : (p : Program) (c : Control) (st : Status) (code : List Operation) (k : Checked) (operands : List Value) → IsConfiguration p c →
    Some code ≡ code_at p st → Checks (kinds p) code k → operands ≡ loaded_from c.variables code → IsWork p c st (Some k) operands
some_work p c st code k operands ok is checks loaded =
    record {
      code_is = ap Some checks.operations ∙ is;
      checked = λ j same. let e : k ≡ j = cc in subst (λ j. Checks (kinds p) j.operations j) e own;
      operands_are = loaded ∙ ap (present_operands c.variables) is;
      fit = ap (map kind_of) loaded ∙ (present_kinds (kinds p) code c.variables checks.formed (values_are p c ok) ∙ sym checks.loads);
    }
  where
    own : Checks (kinds p) k.operations k
    own = subst (λ xs. Checks (kinds p) xs k) (sym checks.operations) checks

-- the work of a step without one
pub no_work : (p : Program) (c : Control) (st : Status) (operands : List Value) → None ≡ code_at p st → operands ≡ [] → IsWork p c st None operands
no_work p c st operands is empty =
    record {
      code_is = is;
      checked = λ j same. absurd cc;
      operands_are = empty ∙ ap (present_operands c.variables) is;
      fit = empty;
    }

-- a claim of a leading thread with its work is as things stand
pub is_new : (s : InTick) (worker t node : ℕ) (code : Option Checked) (operands : List Value) → worker ≤ 8 →
    Leads s.image.program s.image.tables s.present t → node_of (status_of s.present t) ≡ Some node →
    IsWork s.image.program s.present (status_of s.present t) code operands →
    IsNew s worker t (record { worker = worker; thread = t; node = node; code = code; operands = operands; commits = length s.history })
is_new s worker t node code operands small leads stands work =
    record {
      thread = refl;
      fresh = record {
        thread = refl;
        worker = small;
        leads = leads;
        node = stands;
        code = work.code_is;
        checked = work.checked;
        operands = work.operands_are;
        before = omega arith;
      };
      by = refl;
      commits = refl;
    }

abbrev parts : ℕ → ℕ → ℕ → Option Checked → List Value → ℕ → Claim
parts worker t node code operands commits = record { worker = worker; thread = t; node = node; code = code; operands = operands; commits = commits }

-- the same of a state that is given twice, and of equal parts
pub is_new_at : (s s' : InTick) (p : Program) (st : Status) (worker t node commits : ℕ) (code : Option Checked) (operands : List Value) (a : Claim) →
    s ≡ s' → worker ≤ 8 → Leads s'.image.program s'.image.tables s'.present t → p ≡ s.image.program → st ≡ status_of s.present t → node_of st ≡ Some node →
    IsWork p s.present st code operands → commits ≡ length s'.history → a ≡ parts worker t node code operands commits → IsNew s' worker t a
is_new_at s s' p st worker t node commits code operands a same small leads p_is st_is stands work commits_is is =
    let own : IsWork s.image.program s.present (status_of s.present t) code operands =
    subst (λ x. IsWork s.image.program s.present x code operands) st_is (subst (λ x. IsWork x s.present st code operands) p_is work) in
    let whole : IsNew s worker t (parts worker t node code operands (length s.history)) =
    is_new s worker t node code operands small (leads_at s s' t same leads) (ap node_of (sym st_is) ∙ stands) own in
    let count : commits ≡ length s.history = commits_is ∙ ap (λ x. length x.history) (sym same) in
    let a_is : a ≡ parts worker t node code operands (length s.history) = is ∙ ap (parts worker t node code operands) count in
    subst (λ x. IsNew x worker t a) same (subst (IsNew s worker t) (sym a_is) whole)

module _ (s : InTick) (h : Holds s) where
  -- an open claim may be committed
  pub may_commit : (a : Claim) → IsOpen s a → MayCommit s a
  may_commit a is =
      record {
        is_open = is;
        leads = (h.fresh a.thread a is).leads;
        value = open_value s h a.thread a is;
      }

  -- few steps were taken
  pub few : length s.history < 2 ^ 32
  few = omega (arith, within_budget s h, budget_fits s h)

-- the same of a state that is given twice
pub may_commit_at : (s s' : InTick) (claims : List (Option Claim)) (a : Claim) → s ≡ s' → Holds s → claims ≡ s.claims →
    slice_get claims a.thread ≡ Some (Some a) → MayCommit s' a
may_commit_at s s' claims a same h of_s is =
    subst (λ x. MayCommit x a) same (may_commit s h a (sym (ap (λ xs. slice_get xs a.thread) of_s) ∙ is))

pub fresh_at : (s s' : InTick) (a : Claim) → s ≡ s' → IsFresh s'.image.program s'.image.tables s'.present (length s'.history) a.thread a →
    IsFresh s.image.program s.image.tables s.present (length s.history) a.thread a
fresh_at s s' a same fresh = subst (λ x. IsFresh x.image.program x.image.tables x.present (length x.history) a.thread a) (sym same) fresh

-- a new claim at its thread's place is an answer
pub gives_claim : (s s' : InTick) (worker t : ℕ) (a : Claim) → IsUnclaimed s t → IsNew s worker t a →
    s' ≡ record s { claims = slice_set s.claims a.thread (Some a) } → GivesClaim s s' worker a
gives_claim s s' worker t a found new after =
    record {
      leads = new.fresh.leads;
      unclaimed = ap (slice_get s.claims) new.thread ∙ found.unclaimed;
      by = new.by;
      node = new.fresh.node;
      code = new.fresh.code;
      checked = new.fresh.checked;
      operands = new.fresh.operands;
      commits = new.commits;
      after = after;
    }
