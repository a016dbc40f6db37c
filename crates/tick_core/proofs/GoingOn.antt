-- What a tick keeps that begins where the one before ended.
use Rattle.std.proofs.Common.{◌≡◌, ◌≢◌, ℕ, List, [], map, None, Some, slice_get, refl, sym, ap, subst, ◌∙◌}
use Rattle.sc_values.specs.Runs.{IsOver}
use Rattle.sc_graph.specs.declared.control.Control.{Control}
use Rattle.sc_graph.specs.Machine.{machine}
use Rattle.sc_graph.specs.Tick.{Inputs, IsConfiguration, Rests, AreAccepted, start}
use Rattle.tick_laws.proofs.Finishing.{rests_when_over}
use Rattle.tick_core.specs.Claims.{Claim}
use Rattle.tick_core.specs.declared.history.Entry.{Entry}
use Rattle.tick_core.specs.State.{InTick, Holds}
use Rattle.tick_core.specs.Events.{begun}
use Rattle.tick_core.specs.Space.Given.{HasPlaces}
use Rattle.tick_core.specs.Inside.Turns.{OpenAt}
use Rattle.tick_core.proofs.StateKept.{configuration, begun_configuration, holds_begun, no_claims_at, none_open, same_tick}

-- the present configuration has a place for each variable and thread
pub present_places : (s : InTick) → Holds s → HasPlaces s.image.program s.present
present_places s h = let ok = configuration s h in record { values = ok.values; statuses = ok.threads }

abbrev pub anew : InTick → Control → Control → List Entry → InTick
anew was b e history = record { image = was.image; begun = b; present = e; history = history; claims = was.claims }

module _ (was : InTick) (h : Holds was) (over : IsOver (machine was.image.program) was.present) where
  pub rests_there : Rests was.image.program was.present
  rests_there = rests_when_over was.image.program was.present (configuration was h) over

  pub no_claim_there : was.claims ≡ map (λ _. None) was.image.program.threads
  no_claim_there = none_open was was refl h over

  pub nobody_there : (t : ℕ) (a : Claim) → slice_get was.claims t ≢ Some (Some a)
  nobody_there = no_claims_at was.image.program.threads was.claims no_claim_there

  pub configuration_anew : (inputs : Inputs) → AreAccepted was.image.program inputs → (e : Control) → e ≡ start was.image.program inputs was.present
      → IsConfiguration was.image.program e
  configuration_anew inputs accepted e is =
      subst (IsConfiguration was.image.program) (sym is) (begun_configuration was.image was.present inputs h.valid rests_there accepted)

  pub holds_anew : (inputs : Inputs) → AreAccepted was.image.program inputs → (b e : Control) (history : List Entry)
      → b ≡ start was.image.program inputs was.present → e ≡ start was.image.program inputs was.present → history ≡ [] → Holds (anew was b e history)
  holds_anew inputs accepted b e history begun_is present_is none =
      holds_begun was.image was.present inputs (anew was b e history) h.valid rests_there
      (record {
        accepted = accepted;
        image_is = refl;
        begun_is = begun_is;
        present_is = present_is;
        no_step = none;
        claims_are = no_claim_there;
      })

  pub open_anew : (count level : ℕ) → OpenAt was count level → (b e : Control) (history : List Entry) → OpenAt (anew was b e history) count level
  open_anew count level at b e history = record { counted = at.counted; level_is = λ t a is. absurd (nobody_there t a is) }

-- it is the state of a tick just begun
pub begun_anew : (was s : InTick) → was ≡ s → Holds was → IsOver (machine s.image.program) s.present → (inputs : Inputs) (b e : Control) (history : List Entry)
    → b ≡ start was.image.program inputs was.present → e ≡ start was.image.program inputs was.present → history ≡ []
    → anew was b e history ≡ begun s.image inputs s.present
begun_anew was s same h over inputs b e history begun_is present_is none =
    same_tick was.image was.image b (start was.image.program inputs was.present) e (start was.image.program inputs was.present) history [] was.claims
    (map (λ _. None) was.image.program.threads) refl begun_is present_is none (none_open was s same h over)
    ∙ ap (λ (x : InTick). begun x.image inputs x.present) same
