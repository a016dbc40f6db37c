-- What is read of a printed text, and what it tells of the core chart.
use Rattle.std.proofs.Common.{◌≡◌, ◌↔◌, IsTrue, ℕ, Bool, true, false, refl, Option, Some, None, Ok, Err, MatchBool, List, subst, inl, inr}
use Rattle.core_charts.specs.declared.features.Features.TheVariants as features
use Rattle.core_charts.specs.Chart.{Chart}
use Rattle.core_charts.specs.Rules.{IsChart}
use Rattle.sc_text.specs.declared.read_fault.FaultKind.{FaultKind}
use Rattle.sc_text.specs.declared.read_fault.ReadFault.{ReadFault}
use Rattle.sc_text.specs.declared.read_fault.ReadFault.TheVariants as fault
use Rattle.abort_expansion.specs.Expansion.{IsExpandable, expanded}
use Rattle.chart_reader.specs.Read.{IsRead}
use Rattle.chart_reader.specs.Laws.{IsExact}
use Rattle.chart_texts.specs.Renaming.{shown}
use Rattle.chart_texts.specs.CoreText.{Answers, LacksCoreText, Spells}

-- where a text was read into a chart, it spells another one exactly where both are the same
pub is_spelled : (text : List ℕ) (read chart : Chart) (same : Bool) → IsRead text read → IsExact text (Ok read) → (IsTrue same ↔ (read ≡ chart)) →
    MatchBool same (IsRead text chart) (¬ IsRead text chart)
is_spelled text read chart true is exact same = subst (IsRead text) (same.0 refl) is
is_spelled text read chart false is exact same = λ other. absurd (let e : false ≡ true = same.1 (exact.spelled chart other) in cc)

-- where a text has a fault, it spells no chart
pub is_unread : (text : List ℕ) (chart : Chart) (f : ReadFault) (b : FaultKind) (at : ℕ) → IsExact text (Err f) → f ≡ fault.Text b at →
    ¬ IsRead text chart
is_unread text chart f b at exact told is =
    absurd (let e : f ≡ fault.Memory = exact.spelled chart is in let g : f ≡ fault.Text b at = told in cc)

pub core_spelled : (c core : Chart) (text : Option (List ℕ)) → IsExpandable c → core ≡ expanded c → Spells (shown core) text → Answers c text
core_spelled c core (Some text) expandable is spelled = record {
  expandable = expandable;
  is = (subst (λ d. Spells (shown d) (Some text)) is spelled).0;
  spells = (subst (λ d. Spells (shown d) (Some text)) is spelled).1;
}
core_spelled c core None expandable is spelled = record {
  expandable = expandable;
  none = inr (subst (λ d. Spells (shown d) None) is spelled);
}

pub core_unfit : (c core : Chart) → IsExpandable c → core ≡ expanded c → ¬ IsChart features.Extended (shown core) → LacksCoreText c
core_unfit c core expandable is unfit = record {
  expandable = expandable;
  none = inl (subst (λ d. ¬ IsChart features.Extended (shown d)) is unfit);
}
