-- What a tick keeps behind a step.
use Rattle.std.proofs.Common.{◌≡◌, ◌∙◌, ◌<◌, ℕ, List, length, Option, Some, None, option_map, slice_get, slice_set, refl, sym, ap, subst}
use Rattle.std.proofs.Common.{arith}
use Rattle.std.specs.Prelude.{IsSome, count_by, is_some, option_and_then}
use Rattle.sc_values.specs.Code.{code_value}
use Rattle.tick_core.specs.Rows.{Rows, HasRoom}
use Rattle.sc_graph.specs.declared.control.Control.{Control}
use Rattle.sc_graph.specs.declared.control.Status.{Status}
use Rattle.sc_graph.specs.declared.control.Status.TheVariants as status
use Rattle.sc_graph.specs.declared.program.Step.{Step}
use Rattle.sc_graph.specs.Control.{status_of}
use Rattle.sc_graph.specs.Priority.{Leads}
use Rattle.sc_graph.specs.Program.{Program}
use Rattle.sc_graph.specs.Steps.{Effect, node_effect, status_effect, after, step}
use Rattle.tick_laws.proofs.Lists.{get_set_same}
use Rattle.tick_core.specs.declared.listed.Listed.{Listed}
use Rattle.tick_core.specs.Claims.{Claim}
use Rattle.tick_core.specs.Inside.Astir.{FitsTick, Gains}
use Rattle.tick_core.specs.Space.Living.{CountsLiving}
use Rattle.tick_core.specs.Inside.Onward.{Goes, LeadsOn, MovesAlone, MovesAloneAt, StaysAt, own_row, step_here}
use Rattle.tick_core.specs.Space.Sorting.{AreSorted, children_of, children_at, children_at_step}
use Rattle.tick_core.specs.Inside.Turns.{OpenAt}
use Rattle.tick_core.specs.Inside.Work.{value_at, value_of}
use Rattle.tick_core.specs.Stepping.{code_of}
use Rattle.tick_core.specs.State.{InTick, Holds, Advances}
use Rattle.tick_core.proofs.Counts.{open_advanced}
use Rattle.tick_core.proofs.Covered.{fits_stepped, gains_nobody}
use Rattle.tick_core.proofs.NextSteps.{next_room, moves_on, leads_on}
use Rattle.tick_core.proofs.StateKept.{configuration, has_place}

-- what rows, counts, claims and list are to a tick
pub record Keeps (s : InTick) (rows : Rows) (claimed level : ℕ) (counts : List ℕ) (listed : Listed) : Type 0 where
  pub sorted : AreSorted s.image.program s.image.tables s.present s.claims rows
  pub opened : OpenAt s claimed level
  pub counted : CountsLiving s.image.program s.present counts
  pub fits : FitsTick s.image.program s.begun s.present listed

module _ (s s' : InTick) (h : Holds s) (t worker : ℕ) (leads : Leads s.image.program s.image.tables s.present t) (advances : Advances s s' t worker) where
  pub kept_behind : (rows rows' : Rows) (claimed claimed' level : ℕ) (counts counts' : List ℕ) (listed listed' : Listed)
      → Keeps s rows claimed level counts listed
      → Goes s.image.program s.image.tables s.present s'.present t s'.claims rows rows' counts' → claimed' ≡ count_by is_some s'.claims
      → Gains listed (children_at s.image.program (status_of s.present t)) listed' → Keeps s' rows' claimed' level counts' listed'
  kept_behind rows rows' claimed claimed' level counts counts' listed listed' keeps goes counted gains =
      record {
        sorted = subst (λ i. AreSorted i.program i.tables s'.present s'.claims rows') (sym advances.image_is)
            (goes.sorted s.claims keeps.sorted advances.claims_are);
        opened = open_advanced s h claimed level keeps.opened s' t worker claimed' advances counted;
        counted = subst (λ i. CountsLiving i.program s'.present counts') (sym advances.image_is) goes.counts;
        fits = subst (λ i. FitsTick i.program s'.begun s'.present listed') (sym advances.image_is)
            (subst (λ b. FitsTick s.image.program b s'.present listed') (sym advances.begun_is)
            (fits_stepped s.image.program s.image.tables h.valid s.present s'.present (configuration s h) t leads.enabled goes.stepped s.begun listed listed'
            keeps.fits gains));
      }

-- a thread that stands at a node of this step
module _ (p : Program) (c : Control) (t : ℕ) (s : Step) (here : step_here p (status_of c t) ≡ Some s) where
  pub node_step : step p t c ≡ option_map (λ e. after e c) (node_effect p c t s)
  node_step = ap (option_map (λ e. after e c)) (of (status_of c t) here)
    where
      of : (st : Status) → step_here p st ≡ Some s → status_effect p c t st ≡ node_effect p c t s
      of (status.At n) is = ap (option_and_then (node_effect p c t)) is
      of status.Absent is = absurd cc
      of (status.Waiting j) is = absurd cc
      of (status.Paused d) is = absurd cc
      of status.Ended is = absurd cc

  pub node_defined : IsSome (step p t c) → IsSome (node_effect p c t s)
  node_defined defined = of (node_effect p c t s) (subst IsSome node_step defined)
    where
      of : (o : Option Effect) → IsSome (option_map (λ e. after e c) o) → IsSome o
      of None is = is
      of (Some e) is = refl

  pub node_value : value_at p c (status_of c t) ≡ value_of c s
  node_value = of (status_of c t) here
    where
      of : (st : Status) → step_here p st ≡ Some s → value_at p c st ≡ value_of c s
      of (status.At n) is = ap (λ o. option_and_then (λ code. code_value code c.variables) (option_and_then code_of o)) is
      of status.Absent is = absurd cc
      of (status.Waiting j) is = absurd cc
      of (status.Paused d) is = absurd cc
      of status.Ended is = absurd cc

  node_children : children_at p (status_of c t) ≡ children_of s
  node_children = of (status_of c t) here
    where
      of : (st : Status) → step_here p st ≡ Some s → children_at p st ≡ children_of s
      of (status.At n) is = ap children_at_step is
      of status.Absent is = absurd cc
      of (status.Waiting j) is = absurd cc
      of (status.Paused d) is = absurd cc
      of status.Ended is = absurd cc

  -- it moves alone where its step concerns nobody else
  pub node_alone : (d : Control) (st : Status) → MovesAloneAt c d t s st → MovesAlone p c d t st
  node_alone d st on = record { statuses = on.statuses; own = on.own; alone = node_children ∙ on.alone }

-- the step of a leading thread that stands at a node, where it concerns nobody else
module _ (s : InTick) (h : Holds s) (t : ℕ) (leads : Leads s.image.program s.image.tables s.present t) (x : Step)
    (here : step_here s.image.program (status_of s.present t) ≡ Some x) (d : Control) (st : Status)
    (taken : option_map (λ e. after e s.present) (node_effect s.image.program s.present t x) ≡ Some d) (moves : MovesAloneAt s.present d t x st) where
  pub stepped_alone : step s.image.program t s.present ≡ Some d
  stepped_alone = node_step s.image.program s.present t x here ∙ taken

  alone : MovesAlone s.image.program s.present d t st
  alone = node_alone s.image.program s.present t x here d st moves

  below : t < length s.image.program.threads
  below = omega (arith, has_place s h t leads, h.places)

  free : slice_get (slice_set s.claims t None) t ≡ Some None
  free = get_set_same s.claims t None (has_place s h t leads)

  module _ (rows : Rows) (sorted : AreSorted s.image.program s.image.tables s.present s.claims rows) where
    -- its row has room
    pub room_alone : HasRoom rows t (own_row s.image.tables st)
    room_alone =
        next_room s.image.program s.image.tables h.valid s.present d (configuration s h) t below st stepped_alone alone (slice_set s.claims t None) free rows
        sorted.own_rows

    -- and put into it, it goes
    pub goes_alone : (counts : List ℕ) → CountsLiving s.image.program s.present counts → (claims : List (Option Claim)) → claims ≡ slice_set s.claims t None
        → (rows' : Rows) → rows' ≡ record rows { classes = slice_set rows.classes t (own_row s.image.tables st) }
        → Goes s.image.program s.image.tables s.present d t claims rows rows' counts
    goes_alone counts counted claims claims_are rows' rows_are =
        moves_on s.image.program s.image.tables h.valid s.present d (configuration s h) t below st stepped_alone alone claims
        (ap (λ xs. slice_get xs t) claims_are ∙ free) rows sorted.own_rows leads.enabled counts counted rows' rows_are

    -- where it stays in its row it leads on
    pub leads_alone : StaysAt s.image.tables t rows st → LeadsOn s.image.program s.image.tables s.present d t rows st
    leads_alone stays = leads_on s.image.program s.image.tables h.valid s.present d (configuration s h) t below st stepped_alone alone rows stays

  -- it lists nobody
  pub lists_nobody : (listed : Listed) → Gains listed (children_at s.image.program (status_of s.present t)) listed
  lists_nobody listed = gains_nobody listed _ alone.alone
