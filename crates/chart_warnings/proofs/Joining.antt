-- Reports one behind the other.
use Rattle.std.proofs.Common.{◌≡◌, ◌<◌, ◌≤◌, ◌+◌, ℕ, List, [], ◌∷◌, ◌++◌, append_assoc, append-nil, refl, sym, ◌∙◌, ap, subst}
use Rattle.std.proofs.Common.{length, get_or, drop, add-one, drop-cons}
use Rattle.std.proofs.lemmas.List.{drop_all}
use Rattle.chart_warnings.specs.declared.warning.Warning.{Warning}
use Rattle.chart_warnings.specs.declared.texts.places.ChartPlaces.{ChartPlaces}
use Rattle.chart_warnings.specs.Places.{place_of}
use Rattle.chart_warnings.specs.Reports.{AreReports, Head, IsReport, heads_at, heads_of}
use Rattle.chart_warnings.specs.Inside.Gaining.{Gains}

-- whatever is told of the heads that are left makes, behind what was told, the reports of all
pub record Goes (name : List ℕ) (left all : List Head) (told : List ℕ) : Type 0 where
  pub on : (more : List ℕ) → AreReports name left more → AreReports name all (told ++ more)

both : (name : List ℕ) (heads others : List Head) (a b : List ℕ) → AreReports name heads a → AreReports name others b
    → AreReports name (heads ++ others) (a ++ b)
both name [] others a b are more = subst (AreReports name others) (ap (λ (x : List ℕ). x ++ b) (sym are)) more
both name (h ∷ heads) others a b (report, rest, is, are, whole) more =
    (report, rest ++ b, is, both name heads others rest b are more, ap (λ (x : List ℕ). x ++ b) whole ∙ append_assoc report rest b)

pub begins : (name : List ℕ) (all : List Head) → Goes name all all []
begins name all = record { on = λ more are. are }

pub ends : (name : List ℕ) (all : List Head) (told : List ℕ) → Goes name [] all told → AreReports name all told
ends name all told goes = subst (AreReports name all) (append-nil told) (goes.on [] refl)

pub goes_on : (name : List ℕ) (heads left all : List Head) (old new : List ℕ) → Goes name (heads ++ left) all old
    → Gains name heads old new → Goes name left all new
goes_on name heads left all old new goes gains =
    record {
      on = λ more are.
          subst (AreReports name all)
          (sym (append_assoc old gains.more more) ∙ ap (λ (x : List ℕ). x ++ more) (sym gains.is))
          (goes.on (gains.more ++ more) (both name heads left gains.more more gains.reports are));
    }

-- ---- over a list of warnings

module _ (name text : List ℕ) (places : ChartPlaces) (warnings : List Warning) (i : ℕ) (all : List Head) where
  pub more_told : (d : Warning) (old new : List ℕ) → i < length warnings → Goes name (heads_of text places (drop i warnings)) all old
      → Gains name (heads_at text (place_of places (get_or warnings i d)) (get_or warnings i d)) old new
      → Goes name (heads_of text places (drop (i + 1) warnings)) all new
  more_told d old new within goes gains =
      let next : drop i warnings ≡ get_or warnings i d ∷ drop (i + 1) warnings = rw (add-one, drop-cons warnings i d) refl in
      goes_on name (heads_at text (place_of places (get_or warnings i d)) (get_or warnings i d))
      (heads_of text places (drop (i + 1) warnings)) all old new
      (subst (λ (ws : List Warning). Goes name (heads_of text places ws) all old) next goes) gains

  pub all_told : (told : List ℕ) → length warnings ≤ i → Goes name (heads_of text places (drop i warnings)) all told
      → AreReports name all told
  all_told told over goes =
      ends name all told (subst (λ (ws : List Warning). Goes name (heads_of text places ws) all told) (drop_all i warnings over) goes)

-- ---- of one warning

-- nothing is told
pub none_gained : (name told : List ℕ) → Gains name [] told told
none_gained name told = record { more = []; is = sym (append-nil told); reports = refl }

-- one report is told
pub one_gained : (name : List ℕ) (head : Head) (report told new : List ℕ) → IsReport name head report → new ≡ told ++ report
    → Gains name (head ∷ []) told new
one_gained name head report told new is put =
    record { more = report; is = put; reports = (report, [], is, refl, sym (append-nil report)) }
