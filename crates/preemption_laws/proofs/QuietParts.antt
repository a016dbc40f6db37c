-- Parts of a core chart's run that stand for steps of its chart, with looks silenced: whatever the stages at which each of them counts flags as written,
-- such parts follow one another.
use Rattle.std.proofs.Common.{◌≡◌, ℕ, List, [], ◌∷◌, ◌++◌, Option, Some, refl, sym, ap, subst, ◌∙◌, inl, inr}
use Rattle.std.proofs.lemmas.List.{append_assoc}
use Rattle.sc_values.specs.Access.{Access}
use Rattle.sc_values.specs.Runs.{Machine, Act}
use Rattle.core_charts.specs.declared.features.Features.TheVariants as features
use Rattle.core_charts.specs.Chart.{Chart}
use Rattle.core_charts.specs.Rules.{IsChart}
use Rattle.chart_machine.specs.declared.standing.Configuration.{Configuration}
use Rattle.chart_machine.specs.declared.table.Table.{Table}
use Rattle.chart_machine.specs.Table.{table}
use Rattle.chart_machine.specs.Steps.{step}
use Rattle.chart_machine.specs.Machine.{machine}
use Rattle.abort_expansion.specs.Expansion.{expanded}
use Rattle.abort_expansion_laws.specs.Segments.{Follows, Segment}
use Rattle.abort_expansion_laws.specs.Stages.{Entry, Image, Watched, Silent, Correspondence, core_act, chart_log, EachFits, HasStage, ReachedAfter}
use Rattle.abort_expansion_laws.specs.Stages.{Climbs, Overwrites, IsSpared, EachSpared}
use Rattle.abort_expansion_laws.proofs.FlagStages.{FlagStages, usual}
use Rattle.abort_expansion_laws.proofs.FreeFlags.{EachFitsFreely}
use Rattle.abort_expansion_laws.proofs.ToldSteps.{ToldHere}
use Rattle.abort_expansion_laws.proofs.Segments.{chart_on, follows_on}
use Rattle.abort_expansion_laws.proofs.TicksOfCharts as ticks
use Rattle.preemption_laws.proofs.QuietSteps.{quiet_machine, looks, IsWeakFlag, KnowsLooks, AreUsual, silenced, quiet, quiet_fits, quiet_acts}

-- ---- logs that are alike but for what silent steps do

pub data IsLike : Entry → Entry → Type 0 where
  same_image : (r : ℕ) (a : Access) → IsLike (Image r a) (Image r a)
  same_watched : (r g stage : ℕ) (a : Access) → IsLike (Watched r g stage a) (Watched r g stage a)
  both_silent : (t : ℕ) (at : Option (ℕ × ℕ)) (a b : Access) → IsLike (Silent t at a) (Silent t at b)

abbrev pub AreLike : List Entry → List Entry → Type 0
AreLike [] [] = Unit {0}
AreLike (y ∷ log) (z ∷ others) = IsLike y z × AreLike log others
AreLike [] (z ∷ others) = ⊥
AreLike (y ∷ log) [] = ⊥

one_like : (y : Entry) → IsLike y y
one_like (Image r a) = same_image r a
one_like (Watched r g stage a) = same_watched r g stage a
one_like (Silent t at a) = both_silent t at a a

pub all_like : (log : List Entry) → AreLike log log
all_like [] = tt
all_like (y ∷ log) = (one_like y, all_like log)

pub like_on : (log others more : List Entry) → AreLike log others → AreLike (log ++ more) (others ++ more)
like_on [] [] more like = all_like more
like_on (y ∷ log) (z ∷ others) more like = (like.0, like_on log others more like.1)
like_on [] (z ∷ others) more like = absurd like
like_on (y ∷ log) [] more like = absurd like

pub like_both : (log others more rest : List Entry) → AreLike log others → AreLike more rest → AreLike (log ++ more) (others ++ rest)
like_both [] [] more rest like then_like = then_like
like_both (y ∷ log) (z ∷ others) more rest like then_like = (like.0, like_both log others more rest like.1 then_like)
like_both [] (z ∷ others) more rest like then_like = absurd like
like_both (y ∷ log) [] more rest like then_like = absurd like

pub like_chart : (log others : List Entry) → AreLike log others → chart_log log ≡ chart_log others
like_chart [] [] like = refl
like_chart (y ∷ log) (z ∷ others) like = by y z like.0 (like_chart log others like.1)
  where
    by : (y z : Entry) → IsLike y z → chart_log log ≡ chart_log others → chart_log (y ∷ log) ≡ chart_log (z ∷ others)
    by _ _ (same_image r a) rest = ap (λ xs. record { thread = r; access = a } ∷ xs) rest
    by _ _ (same_watched r g stage a) rest = ap (λ xs. record { thread = r; access = a } ∷ xs) rest
    by _ _ (both_silent t at a b) rest = rest
like_chart [] (z ∷ others) like = absurd like
like_chart (y ∷ log) [] like = absurd like

module _ (c : Chart) (rules : IsChart features.Extended c) (core_rules : IsChart features.Core (expanded c)) where
  abbrev core : Table
  core = table (expanded c)

  abbrev corr : Correspondence
  corr = ticks.corr c rules core_rules

  abbrev corr_at : FlagStages c rules core_rules → Correspondence
  corr_at stages = ticks.corr_at c rules core_rules stages

  abbrev Told : Configuration → Entry → Type 0
  Told = ToldHere c rules core_rules

  -- ---- stages are told of logs that are alike, whenever flags count as written

  module _ (first second : FlagStages c rules core_rules) where
    like_thread : (y z : Entry) → IsLike y z → (core_act (corr_at first) y).thread ≡ (core_act (corr_at second) z).thread
    like_thread _ _ (same_image r a) = refl
    like_thread _ _ (same_watched r g stage a) = refl
    like_thread _ _ (both_silent t at a b) = refl

    like_stage : (y z : Entry) → IsLike y z → (h s : ℕ) → HasStage (corr_at second) z h s → HasStage (corr_at first) y h s
    like_stage _ _ (same_image r a) h s has = has
    like_stage _ _ (same_watched r g stage a) h s has = has
    like_stage _ _ (both_silent t at a b) h s has = has

    pub like_climbs : (log others : List Entry) → AreLike log others → (Reached Fewer : ℕ → ℕ → Type 0) → ((h s : ℕ) → Fewer h s → Reached h s) →
        Climbs (corr_at first) Reached log → Climbs (corr_at second) Fewer others
    like_climbs [] [] like Reached Fewer fewer climbs = tt
    like_climbs (y ∷ log) (z ∷ others) like Reached Fewer fewer climbs = (
      λ h s s' before has. climbs.0 h s s' (fewer h s before) (like_stage y z like.0 h s' has),
      like_climbs log others like.1 (ReachedAfter (corr_at first) y Reached) (ReachedAfter (corr_at second) z Fewer) after climbs.1,
    )
      where
        after : (h s : ℕ) → ReachedAfter (corr_at second) z Fewer h s → ReachedAfter (corr_at first) y Reached h s
        after h s (inl before) = inl (fewer h s before.0, λ e. before.1 (sym (like_thread y z like.0) ∙ e))
        after h s (inr has) = inr (like_stage y z like.0 h s has)
    like_climbs [] (z ∷ others) like Reached Fewer fewer climbs = absurd like
    like_climbs (y ∷ log) [] like Reached Fewer fewer climbs = absurd like

    -- a run follows a log whenever they do
    pub follows_too : (n : Machine) (N : n.Configuration → Entry → Type 0) (log : List Entry) (d e : n.Configuration) →
        Follows n (corr_at first) N d log e → Follows n (corr_at second) N d log e
    follows_too n N [] d e follows = follows
    follows_too n N (Image r a ∷ log) d e f = (f.0, f.1, (f.2.0, f.2.1, follows_too n N log f.2.0 e f.2.2))
    follows_too n N (Watched r g stage a ∷ log) d e f = (f.0, f.1, (f.2.0, f.2.1, follows_too n N log f.2.0 e f.2.2))
    follows_too n N (Silent t at a ∷ log) d e f = (f.0, f.1, (f.2.0, f.2.1, follows_too n N log f.2.0 e f.2.2))

  -- ---- and that strong tests are spared

  like_none : (r : ℕ) (a : Access) (y z : Entry) → IsLike y z → ¬ Overwrites corr r a y → ¬ Overwrites corr r a z
  like_none r a _ _ (same_image q b) none = none
  like_none r a _ _ (same_watched q g stage b) none = none
  like_none r a _ _ (both_silent t at b b') none = none

  like_spared_one : (r : ℕ) (a : Access) (log others : List Entry) → AreLike log others → IsSpared corr r a log → IsSpared corr r a others
  like_spared_one r a [] [] like spared = tt
  like_spared_one r a (y ∷ log) (z ∷ others) like spared = (
    like_none r a y z like.0 spared.0,
    λ ne. like_spared_one r a log others like.1
        (spared.1 (λ e. ne (sym (like_thread (usual c rules core_rules) (usual c rules core_rules) y z like.0) ∙ e))),
  )
  like_spared_one r a [] (z ∷ others) like spared = absurd like
  like_spared_one r a (y ∷ log) [] like spared = absurd like

  pub like_spared : (log others : List Entry) → AreLike log others → EachSpared corr log → EachSpared corr others
  like_spared [] [] like spared = tt
  like_spared (y ∷ log) (z ∷ others) like spared = by y z like.0 spared (λ s. like_spared log others like.1 s)
    where
      by : (y z : Entry) → IsLike y z → EachSpared corr (y ∷ log) → (EachSpared corr log → EachSpared corr others) → EachSpared corr (z ∷ others)
      by _ _ (same_image r a) s rest = rest s
      by _ _ (same_watched r g stage a) s rest = (λ zero_stage. like_spared_one r a log others like.1 (s.0 zero_stage), rest s.1)
      by _ _ (both_silent t at a b) s rest = rest s
  like_spared [] (z ∷ others) like spared = absurd like
  like_spared (y ∷ log) [] like spared = absurd like

  -- ---- a part with looks silenced, beside the part itself

  pub record Part (Sound : Configuration → Type 0) (d : Configuration) (Before : ℕ → ℕ → Type 0) (After : Configuration → ℕ → ℕ → Type 0) (steps : List Act)
      (Reaches : Configuration → Type 0) : Type 0 where
    pub plain : List Entry
    pub log : List Entry
    pub last : Configuration
    pub follows : Follows (machine core) corr Told d plain last
    pub quietly : Follows (quiet_machine core (looks c rules core_rules)) corr Told d log last
    pub like : AreLike plain log
    pub charted : chart_log log ≡ steps
    pub fits : EachFitsFreely corr (IsWeakFlag c rules core_rules) log
    pub climbs : (rest : List Entry) → Climbs corr (After last) rest → Climbs corr Before (log ++ rest)
    pub reaches : Reaches last
    pub sound : Sound last

  -- one after the other
  pub part_on : (Sound : Configuration → Type 0) (d : Configuration) (Before : ℕ → ℕ → Type 0) (Between After : Configuration → ℕ → ℕ → Type 0)
      (steps more : List Act) (Reaches Later : Configuration → Type 0) → (s : Part Sound d Before Between steps Reaches) →
      Part Sound s.last (Between s.last) After more Later → Part Sound d Before After (steps ++ more) Later
  part_on Sound d Before Between After steps more Reaches Later s t =
      record {
        plain = s.plain ++ t.plain;
        log = s.log ++ t.log;
        last = t.last;
        follows = follows_on (machine core) corr Told s.plain t.plain d s.last t.last s.follows t.follows;
        quietly = follows_on (quiet_machine core (looks c rules core_rules)) corr Told s.log t.log d s.last t.last s.quietly t.quietly;
        like = like_both s.plain s.log t.plain t.log s.like t.like;
        charted = chart_on (machine core) corr Told s.log t.log ∙ rw (s.charted, t.charted) refl;
        fits = fits_on s.log t.log s.fits t.fits;
        climbs = λ rest climbs. subst (Climbs corr Before) (sym (append_assoc s.log t.log rest)) (s.climbs (t.log ++ rest) (t.climbs rest climbs));
        reaches = t.reaches;
        sound = t.sound;
      }
    where
      fits_on : (log more : List Entry) → EachFitsFreely corr (IsWeakFlag c rules core_rules) log →
          EachFitsFreely corr (IsWeakFlag c rules core_rules) more → EachFitsFreely corr (IsWeakFlag c rules core_rules) (log ++ more)
      fits_on [] more fits others = others
      fits_on (y ∷ log) more fits others = (fits.0, fits_on log more fits.1 others)

  -- ---- each part of a run has one with looks silenced

  module _ (Sound : Configuration → Type 0) (knows : KnowsLooks c rules core_rules Sound) (stages : FlagStages c rules core_rules)
      (are : AreUsual c rules core_rules stages) where
    quiet_told : (d : Configuration) (y : Entry) → Told d y → Told d (quiet c rules core_rules d y)
    quiet_told d (Image r a) told = told
    quiet_told d (Watched r g stage a) told = told
    quiet_told d (Silent t at a) told = tt

    quiet_like : (d : Configuration) (y : Entry) → IsLike y (quiet c rules core_rules d y)
    quiet_like d (Image r a) = same_image r a
    quiet_like d (Watched r g stage a) = same_watched r g stage a
    quiet_like d (Silent t at a) = both_silent t at a (silenced c rules core_rules d t a)

    record QuietLog (d : Configuration) (plain : List Entry) (last : Configuration) : Type 0 where
      log : List Entry
      quietly : Follows (quiet_machine core (looks c rules core_rules)) corr Told d log last
      like : AreLike plain log
      fits : EachFitsFreely corr (IsWeakFlag c rules core_rules) log
      sound : Sound last

    more_log : (y : Entry) (plain : List Entry) (d last : Configuration) → Sound d →
        (follows : Follows (machine core) (corr_at stages) Told d (y ∷ plain) last) → EachFits (corr_at stages) (y ∷ plain) →
        QuietLog follows.2.0 plain last → QuietLog d (y ∷ plain) last
    more_log y plain d last sound follows fits rest =
        record {
          log = quiet c rules core_rules d y ∷ rest.log;
          quietly = (
            quiet_acts c rules core_rules Sound knows stages are d follows.2.0 sound y fits.0 follows.2.1 follows.0,
            quiet_told d y follows.1,
            (follows.2.0, subst (λ t. step core t d ≡ Some follows.2.0) thread follows.2.1, rest.quietly),
          );
          like = (quiet_like d y, rest.like);
          fits = (quiet_fits c rules core_rules Sound knows stages are d follows.2.0 sound y fits.0 follows.0, rest.fits);
          sound = rest.sound;
        }
      where
        thread : (core_act (corr_at stages) y).thread ≡ (core_act corr (quiet c rules core_rules d y)).thread
        thread = like_thread stages (usual c rules core_rules) y (quiet c rules core_rules d y) (quiet_like d y)

    quiet_log : (plain : List Entry) (d last : Configuration) → Sound d → Follows (machine core) (corr_at stages) Told d plain last →
        EachFits (corr_at stages) plain → QuietLog d plain last
    quiet_log [] d last sound follows fits = record { log = []; quietly = follows; like = tt; fits = tt; sound = subst Sound follows sound }
    quiet_log (y ∷ plain) d last sound follows fits =
        more_log y plain d last sound follows fits
        (quiet_log plain follows.2.0 last (knows.kept d follows.2.0 (core_act (corr_at stages) y).thread sound follows.2.1) follows.2.2 fits.1)

    pub quieted : (d : Configuration) (Before : ℕ → ℕ → Type 0) (After : Configuration → ℕ → ℕ → Type 0) (steps : List Act)
        (Reaches : Configuration → Type 0) → Sound d → Segment (machine core) (corr_at stages) Told d Before After steps Reaches →
        Part Sound d Before After steps Reaches
    quieted d Before After steps Reaches sound s =
        record {
          plain = s.log;
          log = q.log;
          last = s.last;
          follows = follows_too stages (usual c rules core_rules) (machine core) Told s.log d s.last s.follows;
          quietly = q.quietly;
          like = q.like;
          charted = sym (like_chart s.log q.log q.like) ∙ s.charted;
          fits = q.fits;
          climbs = λ rest climbs.
              like_climbs stages (usual c rules core_rules) (s.log ++ rest) (q.log ++ rest) (like_on s.log q.log rest q.like) Before Before
              (λ h n before. before)
              (s.climbs rest
              (like_climbs (usual c rules core_rules) stages rest rest (all_like rest) (After s.last) (After s.last) (λ h n after. after) climbs));
          reaches = s.reaches;
          sound = q.sound;
        }
      where
        q : QuietLog d s.log s.last
        q = quiet_log s.log d s.last sound s.follows s.fits
