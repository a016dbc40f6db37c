-- What two states have alike. No public contract rests on it.
use Rattle.std.specs.Prelude.{◌≡◌}
use Rattle.core_charts.specs.declared.region.State.{State}
use Rattle.core_charts.specs.declared.region.Region.TheViews.{out-State}

-- all but what is inside them
pub record HasSameOwn (a b : State) : Type 0 where
  pub name : (out-State a).name ≡ (out-State b).name
  pub is_initial : (out-State a).is_initial ≡ (out-State b).is_initial
  pub is_final : (out-State a).is_final ≡ (out-State b).is_final
  pub transitions : (out-State a).transitions ≡ (out-State b).transitions
