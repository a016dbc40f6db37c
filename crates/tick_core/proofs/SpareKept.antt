-- The space of ticks as the configuration that it keeps is made the start of one.
use Rattle.std.proofs.Common.{◌≡◌, ◌∙◌, length, sym, ap, subst}
use Rattle.sc_graph.specs.declared.control.Control.{Control}
use Rattle.sc_graph.specs.Program.{Program}
use Rattle.sc_graph.specs.Tick.{Rests, statuses_at_start}
use Rattle.bytecode.specs.Image.{Image}
use Rattle.tick_core.specs.declared.state.parking.ParkedSpace.{ParkedSpace}
use Rattle.tick_core.specs.Parked.{IsSpaceOf}
use Rattle.tick_core.specs.Space.There.{AllListed}
use Rattle.tick_core.proofs.Covered.{start_long}

pub record AsLong (a b : Control) : Type 0 where
  pub values : length a.variables ≡ length b.variables
  pub statuses : length a.statuses ≡ length b.statuses

-- it has as many values and statuses as a configuration of the program
pub spare_long : (image : Image) (space : ParkedSpace) → IsSpaceOf image space → (c : Control) → Rests image.program c → AsLong space.spare c
spare_long image space h c rests =
    record { values = h.spare.values ∙ sym rests.configuration.values; statuses = h.spare.statuses ∙ sym rests.configuration.threads }

pub space_started : (image : Image) (space : ParkedSpace) → IsSpaceOf image space → (c : Control) → Rests image.program c → (p : Program)
    → (other control : Control) → other ≡ control → length control.statuses ≡ length (statuses_at_start p c.statuses)
    → length control.variables ≡ length c.variables → AllListed control.statuses space.listed.items
    → IsSpaceOf image (record space { spare = other })
space_started image space h c rests p other control same statuses values all =
    record {
      kinds_are = h.kinds_are;
      no_claim = h.no_claim;
      forks = h.forks;
      rows = h.rows;
      history = h.history;
      living = h.living;
      given = h.given;
      listed = h.listed;
      present = subst (λ (d : Control). AllListed d.statuses space.listed.items) (sym same) all;
      spare = record {
        values = ap (λ (d : Control). length d.variables) same ∙ (values ∙ rests.configuration.values);
        statuses = ap (λ (d : Control). length d.statuses) same ∙ (statuses ∙ (start_long p c.statuses ∙ rests.configuration.threads));
      };
    }
