-- Parts of a core's run that stand for steps of its chart, one after the other; and the run that a log tells.
use Rattle.std.proofs.Common.{◌≡◌, ℕ, List, [], ◌∷◌, ◌++◌, refl, sym, ap, subst, ◌∙◌, Some, option_and_then}
use Rattle.std.proofs.lemmas.List.{append_assoc}
use Rattle.sc_values.specs.Runs.{Machine, replay, Act, acts, acts_after}
use Rattle.abort_expansion_laws.specs.Stages.{Entry, Image, Watched, Silent, Correspondence, core_act, core_log, chart_log, EachFits}
use Rattle.abort_expansion_laws.specs.Stages.{Climbs}
pub use Rattle.abort_expansion_laws.specs.Segments.{threads, Follows, Segment}

module _ (n : Machine) (k : Correspondence) (Told : n.Configuration → Entry → Type 0) where
  pub follows_replay : (log : List Entry) (d e : n.Configuration) → Follows n k Told d log e → replay n (threads k log) d ≡ Some e
  follows_replay [] d e follows = ap Some follows
  follows_replay (y ∷ log) d e follows = ap (option_and_then (replay n (threads k log))) follows.2.1 ∙ follows_replay log follows.2.0 e follows.2.2

  pub follows_acts : (log : List Entry) (d e : n.Configuration) → Follows n k Told d log e → acts n (threads k log) d ≡ core_log k log
  follows_acts [] d e follows = refl
  follows_acts (y ∷ log) d e follows =
      let rest : acts_after n (acts n (threads k log)) (n.step (core_act k y).thread d) ≡ core_log k log =
      ap (acts_after n (acts n (threads k log))) follows.2.1 ∙ follows_acts log follows.2.0 e follows.2.2 in
      rw (rest, sym follows.0) refl

  pub follows_on : (log more : List Entry) (d e f : n.Configuration) → Follows n k Told d log e → Follows n k Told e more f → Follows n k Told d (log ++ more) f
  follows_on [] more d e f first then_more = subst (λ z. Follows n k Told z more f) (sym first) then_more
  follows_on (y ∷ log) more d e f first then_more =
      (first.0, first.1, (first.2.0, first.2.1, follows_on log more first.2.0 e f first.2.2 then_more))

  pub chart_on : (log more : List Entry) → chart_log (log ++ more) ≡ chart_log log ++ chart_log more
  chart_on [] more = refl
  chart_on (Image r a ∷ log) more = ap (λ z. record { thread = r; access = a } ∷ z) (chart_on log more)
  chart_on (Watched r g stage a ∷ log) more = ap (λ z. record { thread = r; access = a } ∷ z) (chart_on log more)
  chart_on (Silent t at a ∷ log) more = chart_on log more

  fits_on : (log more : List Entry) → EachFits k log → EachFits k more → EachFits k (log ++ more)
  fits_on [] more fits others = others
  fits_on (y ∷ log) more fits others = (fits.0, fits_on log more fits.1 others)

  -- one segment after the other
  pub segment_on : (d : n.Configuration) (Before : ℕ → ℕ → Type 0) (Between After : n.Configuration → ℕ → ℕ → Type 0) (steps more : List Act)
      (Reaches Later : n.Configuration → Type 0) →
      (s : Segment n k Told d Before Between steps Reaches) → Segment n k Told s.last (Between s.last) After more Later →
      Segment n k Told d Before After (steps ++ more) Later
  segment_on d Before Between After steps more Reaches Later s t =
      record {
        log = s.log ++ t.log;
        last = t.last;
        follows = follows_on s.log t.log d s.last t.last s.follows t.follows;
        charted = chart_on s.log t.log ∙ rw (s.charted, t.charted) refl;
        fits = fits_on s.log t.log s.fits t.fits;
        climbs = λ rest climbs. subst (Climbs k Before) (sym (append_assoc s.log t.log rest)) (s.climbs (t.log ++ rest) (t.climbs rest climbs));
        reaches = t.reaches;
      }
