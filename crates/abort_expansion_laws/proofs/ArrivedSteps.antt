-- A region comes to where something begins by a step that its thread makes too.
use Rattle.std.proofs.Common.{◌≡◌, ℕ, ◌<◌, ◌≤◌, Bool, Some, [], ◌∷◌, length, refl, sym, ap}
use Rattle.sc_values.specs.Access.{Access}
use Rattle.sc_values.specs.Runs.{act_of}
use Rattle.chart_machine.specs.declared.standing.Configuration.{Configuration}
use Rattle.chart_machine.specs.declared.table.Table.{Table}
use Rattle.chart_machine.specs.Table.{state_at}
use Rattle.chart_machine.specs.Turns.{standing_of, inside}
use Rattle.chart_machine.specs.Steps.{access_of, step}
use Rattle.chart_machine.specs.Machine.{machine}
use Rattle.chart_machine_laws.specs.Tree.{IsThere, holder}
use Rattle.abort_expansion_laws.specs.CoreRows.{IsState, Images}
use Rattle.abort_expansion_laws.specs.Related.{Related}
use Rattle.abort_expansion_laws.specs.Stages.{Entry, Image, Touches, Correspondence}
use Rattle.abort_expansion_laws.proofs.Segments.{Segment}
use Rattle.abort_expansion_laws.proofs.Supplying.{climbs_step}
use Rattle.abort_expansion_laws.proofs.StageReached.{Stage}
use Rattle.abort_expansion_laws.proofs.ImageSteps.{pair}
use Rattle.abort_expansion_laws.proofs.Pending.{Reached}
use Rattle.abort_expansion_laws.proofs.JustEntered.{EntryRows}
use Rattle.abort_expansion_laws.proofs.Arrives.{Arrives}
use Rattle.abort_expansion_laws.proofs.ArrivedStages.{arrived_stages}
use Rattle.abort_expansion_laws.proofs.OuterStages.{Inner, under_stages}

module _ (k core : Table) (i : Images) (more : EntryRows k core i) (holds_there : (s : ℕ) → IsState k s → IsThere k (holder k s))
    (alone : (v : ℕ) → (state_at core v).regions ≡ [] → inside core v ≡ []) (counts : ℕ → Bool) (written_at : ℕ → ℕ)
    (Told : Configuration → Entry → Type 0)
    (c d : Configuration) (related : Related k core i c d) (r : ℕ) (next core_next : Configuration) (arrives : Arrives k core i more c d r next core_next)
    (a : Access) (chart_access : access_of (standing_of c r) ≡ a) (core_access : access_of (standing_of d (i.thread_of r)) ≡ a)
    (declared : (x : ℕ) → Touches a x → x < length k.variables) (steps : step core (i.thread_of r) d ≡ Some core_next) where
  abbrev corr : Correspondence
  corr = pair k core i more.rows more.tree.nested counts written_at

  own_stage : (h v : ℕ) → Inner k core i more.rows c d related r arrives.there arrives.present arrives.works arrives.free c
      (λ u inner. refl) h v → ((u : ℕ) → Stage k i.thread_of c d h u → u ≤ v) × Reached k core i next core_next h v
  own_stage h v inner =
      let both = under_stages k core i more.rows c d related r arrives.there arrives.present arrives.works arrives.free c
      (λ u inner. refl) d h v inner in
      (both.0, arrived_stages k core i more holds_there alone c d related r next core_next arrives h v both.1)

  pub arrived_step : Told d (Image r a) →
      Segment (machine core) corr Told d (Stage k i.thread_of c d) (λ e. Reached k core i next core_next) (act_of (machine k) c r ∷ []) (λ e. e ≡ core_next)
  arrived_step told =
      record {
        log = Image r a ∷ [];
        last = core_next;
        follows = (ap (λ x. record { thread = i.thread_of r; access = x }) (sym core_access), told, (core_next, steps, refl));
        charted = ap (λ x. record { thread = r; access = x } ∷ []) (sym chart_access);
        fits = (declared, tt);
        climbs = λ rest climbs.
            climbs_step corr (Stage k i.thread_of c d) (Reached k core i next core_next) (Image r a) rest own_stage
            (λ h v ne before. arrived_stages k core i more holds_there alone c d related r next core_next arrives h v before) climbs;
        reaches = refl;
      }
