-- What a chart keeps by each of its steps, of its own table alone; so its machine keeps regions apart that have their turn together.
use Rattle.std.proofs.Common.{◌≡◌, ◌≢◌, ℕ, suc, ◌<◌, true, Some, List, [], ◌∷◌, length, Contains, refl, subst, ◌∙◌}
use Rattle.std.proofs.Common.{arith}
use Rattle.chart_machine.specs.declared.standing.Configuration.{Configuration}
use Rattle.chart_machine.specs.declared.standing.Standing.{Standing}
use Rattle.chart_machine.specs.declared.standing.Standing.TheVariants as at
use Rattle.chart_machine.specs.declared.table.Table.{Table}
use Rattle.chart_machine.specs.Machine.{machine}
use Rattle.chart_machine.specs.Steps.{moved, state_in, after, step}
use Rattle.chart_machine.specs.Table.{state_at, region_at}
use Rattle.chart_machine.specs.Turns.{standing_of, is_enabled, LiesIn, itself, deeper}
use Rattle.chart_machine_laws.specs.Tree.{IsThere, IsTree, around, holder}
use Rattle.chart_machine_laws.proofs.LyingIn.{none_in, swapped}
use Rattle.chart_lowering_laws.proofs.Entering.{moved_length}
use Rattle.abort_expansion_laws.specs.CoreRows.{own, IsState}
use Rattle.abort_expansion_laws.proofs.ChartSteps.{StepMade, step_made}
use Rattle.abort_expansion_laws.proofs.Leaving.{at_number}
use Rattle.abort_expansion_laws.proofs.StartingRegions.{Once}
use Rattle.abort_expansion_laws.proofs.StateEntry.{Entry}
use Rattle.abort_expansion_laws.proofs.NumberedRegions.{is_region}
use Rattle.preemption_laws.specs.OneEnd.{KeepsApart}
use Rattle.preemption_laws.proofs.ApartTogether.{Enclosed, turn, present, are_apart, forks_none}
use Rattle.preemption_laws.proofs.EnclosedStill.{Firsts, NextOpen, all_open, next_still}
use Rattle.preemption_laws.proofs.MovesInside.{LeadIn, MayStand, stands_within, moves_inside}
use Rattle.preemption_laws.proofs.StandsStill.{stands_still}
use Rattle.preemption_laws.proofs.StepsSwap.{Sound, has_turn, still, second_first}

module _ (k : Table) (tree : IsTree k) (holder_there : (q s : ℕ) → Contains (around k q) s → IsThere k q × IsThere k (holder k s))
    (entries : (x : ℕ) → IsState k x → Entry k x)
    (elsewhere : (s t : ℕ) (zs : List Standing) → IsState k s → ¬ Contains (around k t) s → at_number (moved (state_at k s).opened zs) t ≡ at_number zs t)
    (state_there : (r p : ℕ) → IsThere k r → p < length (region_at k r).states → IsState k (state_in k r p) × (holder k (state_in k r p) ≡ r))
    (firsts : (s r : ℕ) → Contains (state_at k s).regions r → Firsts k s)
    (once : (r s : ℕ) (ss : List ℕ) → IsThere k r → around k r ≡ s ∷ ss → Once r (state_at k s).regions)
    (leads : (s : ℕ) → IsState k s → LeadIn k tree entries elsewhere state_there (holder k s) (own k s))
    (bare : (s : ℕ) → IsState k s → (state_at k s).regions ≡ [] → (state_at k s).opened ≡ []) where
  abbrev May : ℕ → Standing → Type 0
  May r x = MayStand k tree entries elsewhere state_there r x

  abbrev Next : (ℕ → Standing) → Type 0
  Next f = NextOpen k tree holder_there entries elsewhere state_there firsts once f

  -- each region has its place, the chart has none; who is there is inside of what is next around it; and each region stands as it may
  pub record Sits (c : Configuration) : Type 0 where
    pub size : length c.regions ≡ suc (length k.regions)
    pub chart_out : standing_of c 0 ≡ at.Outside
    pub next : Next (standing_of c)
    pub stands : (r : ℕ) → May r (standing_of c r)

  pub sits_enclosed : (c : Configuration) → Sits c → Enclosed k tree holder_there c
  sits_enclosed c sits =
      record {
        chart_out = sits.chart_out;
        there = is_region k c sits.chart_out sits.size;
        around_open = λ q s h there.
            all_open k tree holder_there entries elsewhere state_there firsts once (standing_of c) sits.next (around k q) q s refl h there;
      }

  abbrev IsSound : Configuration → Type 0
  IsSound c =
      Sound k tree holder_there May (stands_within k tree entries elsewhere state_there) (moves_inside k tree entries elsewhere state_there) c

  sits_sound : (c : Configuration) → Sits c → IsSound c
  sits_sound c sits = record { enclosed = sits_enclosed c sits; owns = sits.stands }

  turn_of : (c d : Configuration) (t : ℕ) → step k t c ≡ Some d → is_enabled k c t ≡ true
  turn_of =
      has_turn k tree holder_there May (stands_within k tree entries elsewhere state_there) (moves_inside k tree entries elsewhere state_there)

  pub sits_still : (c d : Configuration) (t : ℕ) → Sits c → step k t c ≡ Some d → Sits d
  sits_still c d t sits steps = subst Sits made.is now
    where
      made : StepMade k t c d
      made = step_made k t c d steps

      there_t : standing_of c t ≢ at.Outside
      there_t = present k tree holder_there c (standing_of c t) (turn k tree holder_there c t (turn_of c d t steps)).works

      is_there : IsThere k t
      is_there = is_region k c sits.chart_out sits.size t there_t

      out : ¬ LiesIn k 0 t
      out (itself e) = let lt = is_there.0 in omega (lt, e, arith)
      out (deeper s inner held) = none_in s inner

      now : Sits (after made.change c)
      now =
          record {
            size = moved_length made.change.moves c.regions ∙ sits.size;
            chart_out =
                moves_inside k tree entries elsewhere state_there t 0 is_there out (standing_of c t) made.change.moves made.makes (sits.stands t) c.regions
                ∙ sits.chart_out;
            next =
                next_still k tree holder_there entries elsewhere state_there firsts once c.regions sits.size sits.next t is_there (standing_of c t)
                made.change.moves refl made.makes (sits.stands t) there_t;
            stands =
                stands_still k tree holder_there entries elsewhere state_there firsts leads bare t is_there (standing_of c t) made.change.moves made.makes
                (sits.stands t) c.regions sits.stands;
          }

  -- so regions that have their turn together are kept apart
  pub sits_apart : KeepsApart (machine k) Sits
  sits_apart =
      record {
        turns = turn_of;
        kept = λ c d t sits steps. sits_still c d t sits steps;
        still = λ c d t u sits steps ne on.
            still k tree holder_there May (stands_within k tree entries elsewhere state_there) (moves_inside k tree entries elsewhere state_there) c d t u
            (sits_sound c sits) steps ne on;
        apart = λ c t u sits on on_too ne. are_apart k tree holder_there c (sits_enclosed c sits) t u on on_too ne;
        waits = λ c t u v a sits on on_too met. forks_none k tree holder_there c (sits_enclosed c sits) t u v a on on_too met;
        turned = λ t u a met. swapped k tree.nested t u a met;
        swap = λ c d e t u sits ne steps on steps_too may may_too.
            second_first k tree holder_there May (stands_within k tree entries elsewhere state_there) (moves_inside k tree entries elsewhere state_there)
            c d e t u (sits_sound c sits) ne steps on steps_too may may_too;
      }
