-- Where a region is to enter a state, it may be taken to stand before one more effect: what is entered overwrites where it stood.
use Rattle.std.proofs.Common.{◌≡◌, ℕ, Bool, true, false, Option, List, [], ◌∷◌, ◌++◌, slice_get, slice_set, unwrap_or, refl, sym, ap, ◌∙◌}
use Rattle.std.specs.List.{list_any}
use Rattle.sc_values.specs.declared.value.Value.{Value}
use Rattle.core_charts.specs.declared.region.Effect.{Effect}
use Rattle.chart_machine.specs.declared.standing.Standing.{Standing}
use Rattle.chart_machine.specs.declared.standing.Move.{Move}
use Rattle.chart_machine.specs.declared.standing.Configuration.{Configuration}
use Rattle.chart_machine.specs.declared.table.Table.{Table}
use Rattle.chart_machine.specs.Steps.{to, moved}
use Rattle.chart_machine.specs.Machine.{machine}
use Rattle.abort_expansion.specs.declared.places.RegionPlaces.{RegionPlaces}
use Rattle.abort_expansion.specs.Transitions.{counting}
use Rattle.abort_expansion_laws.specs.CoreRows.{Images, CoreRows}
use Rattle.abort_expansion_laws.specs.Related.{Related}
use Rattle.abort_expansion_laws.specs.Stages.{Entry}
use Rattle.abort_expansion_laws.proofs.Segments.{Segment}
use Rattle.abort_expansion_laws.proofs.StageReached.{Stage}
use Rattle.abort_expansion_laws.proofs.ImageSteps.{pair}
use Rattle.abort_expansion_laws.proofs.Supplying.{climbs_fewer}
use Rattle.chart_machine_laws.proofs.LyingIn.{IsNested}
use Rattle.abort_expansion_laws.proofs.Owed.{Counts}
use Rattle.abort_expansion_laws.proofs.Unchanged.{set_twice}

pub any_same : (p q : ℕ → Bool) (xs : List ℕ) → ((x : ℕ) → p x ≡ q x) → list_any p xs ≡ list_any q xs
any_same p q [] h = refl
any_same p q (x ∷ xs) h = rw (h x, any_same p q xs h) refl

-- ---- what is entered overwrites where the region stood

-- these moves begin with one of this region
pub record BeginsAt (r : ℕ) (moves : List Move) : Type 0 where
  pub first : Standing
  pub others : List Move
  pub are : moves ≡ to r first ∷ others

pub overwritten : (r : ℕ) (moves : List Move) → BeginsAt r moves → (regions : List Standing) (v : Standing) →
    moved moves (slice_set regions r v) ≡ moved moves regions
overwritten r moves begins regions v =
    ap (λ ms. moved ms (slice_set regions r v)) begins.are ∙ (ap (moved begins.others) (set_twice regions r v begins.first) ∙
    ap (λ ms. moved ms regions) (sym begins.are))

pub not_counting : (places : RegionPlaces) (p : ℕ) (effects : List Effect) → unwrap_or (slice_get places.finals p) false ≡ false →
    counting places p effects ≡ effects
not_counting places p effects e = rw (e) refl

pub none_counted : (k core : Table) (i : Images) (b : Bool) (counter : Option ℕ) (values : List Value) → b ≡ false → Counts k core i b counter values values
none_counted k core i true counter values e = absurd cc
none_counted k core i false counter values e = refl

-- stages do not hang on the core
pub staged : (k core : Table) (i : Images) (rows : CoreRows k core i) (tree : IsNested k) (counts : ℕ → Bool) (written_at : ℕ → ℕ)
    (Told : Configuration → Entry → Type 0) (c1 d1 last e : Configuration) →
    Segment (machine core) (pair k core i rows tree counts written_at) Told e (Stage k i.thread_of c1 d1) (Stage k i.thread_of last) []
    (Related k core i last) →
    Segment (machine core) (pair k core i rows tree counts written_at) Told e (Stage k i.thread_of c1 e) (Stage k i.thread_of last) [] (Related k core i last)
staged k core i rows tree counts written_at Told c1 d1 last e g =
    record {
      log = g.log;
      last = g.last;
      follows = g.follows;
      charted = g.charted;
      fits = g.fits;
      climbs = λ more climbs.
          climbs_fewer (pair k core i rows tree counts written_at) (Stage k i.thread_of c1 d1) (Stage k i.thread_of c1 e) (g.log ++ more)
          (λ h v stage. record { regions = stage.regions; chart = stage.chart }) (g.climbs more climbs);
      reaches = g.reaches;
    }
