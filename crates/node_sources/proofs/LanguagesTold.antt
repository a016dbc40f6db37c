-- What is answered of a text of one language, as an answer of a text.
use Rattle.std.proofs.Common.{◌≡◌, ℕ, Option, Some, None, IfOk, IfSome, MatchOption, List, Result, Ok, Err, inr, sym, subst}
use Rattle.sc_graph.specs.Program.{Program}
use Rattle.sc_text.specs.declared.language.Language.TheVariants as language
use Rattle.scl.specs.declared.program.Scl.{Scl}
use Rattle.scl_reader.specs.declared.text_drafts.draft.Draft.{Draft}
use Rattle.scl_graph.specs.Answers.{IsGraph}
use Rattle.compiler.specs.declared.sources.reading.ReadChart.{ReadChart}
use Rattle.compiler.specs.declared.sources.reading.ReadText.{ReadText}
use Rattle.compiler.specs.declared.sources.reading.ReadText.TheVariants as reading
use Rattle.compiler.specs.Graphs.{MakesNone, SpellsGraphless}
use Rattle.compiler.specs.Kept.{Keeps, KeepsChart, KeepsDraft}
use Rattle.node_sources.specs.declared.origin.Origin.{Origin}
use Rattle.node_sources.specs.declared.sources.Sources.{Sources}
use Rattle.node_sources.specs.Labels.{ChartLabel, IsLabelOrigin, SclLabel}
use Rattle.node_sources.specs.Sources.{AreSources, ChartSources, SclSources}

-- ---- what was read

-- the text is seen as one text, and its program as one program
of_parts : (text seen : List ℕ) (scl part : Scl) (r s : ReadText) → seen ≡ text → part ≡ scl → r ≡ s → Keeps text scl r → Keeps seen part s
of_parts text seen scl part r s text_is scl_is is h =
    subst (λ t. Keeps t part s) (sym text_is) (subst (λ p. Keeps text p s) (sym scl_is) (subst (Keeps text scl) is h))

pub chart_kept : (text seen : List ℕ) (scl part : Scl) (r : ReadText) (kept : ReadChart) → seen ≡ text → part ≡ scl → r ≡ reading.Chart kept
    → Keeps text scl r → KeepsChart seen part kept
chart_kept text seen scl part r kept text_is scl_is is h = of_parts text seen scl part r (reading.Chart kept) text_is scl_is is h

pub draft_kept : (text seen : List ℕ) (scl part : Scl) (r : ReadText) (draft : Draft) → seen ≡ text → part ≡ scl → r ≡ reading.Scl draft
    → Keeps text scl r → KeepsDraft seen part draft
draft_kept text seen scl part r draft text_is scl_is is h = of_parts text seen scl part r (reading.Scl draft) text_is scl_is is h

-- ---- origins

pub chart_told : {E : Type 0} (text seen : List ℕ) (part : Scl) (kept : ReadChart) (p : Program) (r : Result (List Origin) E) → seen ≡ text
    → KeepsChart seen part kept → IfOk r (ChartSources seen p) → IfOk r (AreSources text p)
chart_told text seen part kept p (Err e) same is h = tt
chart_told text seen part kept p (Ok origins) same is h =
    subst (λ t. AreSources t p origins) same (record { language = language.Chart; is_in = is.is_chart; sources = h })

pub scl_told : {E : Type 0} (text seen : List ℕ) (part scl : Scl) (draft : Draft) (p : Program) (r : Result (List Origin) E) → seen ≡ text → part ≡ scl
    → KeepsDraft seen part draft → IsGraph scl p → IfOk r (λ origins. (q : Program) → IsGraph part q → SclSources seen q origins)
    → IfOk r (AreSources text p)
scl_told text seen part scl draft p (Err e) same scl_is is graph h = tt
scl_told text seen part scl draft p (Ok origins) same scl_is is graph h =
    subst (λ t. AreSources t p origins) same
    (record { language = language.Scl; is_in = is.is_scl; sources = h p (subst (λ s. IsGraph s p) (sym scl_is) graph) })

-- what is told of what was read of a text is told of the text
pub sources_told : {E : Type 0} (text seen : List ℕ) (r : Result (Option Sources) E) → seen ≡ text
    → IfOk r (λ found. MatchOption found (SpellsGraphless seen) (λ s. AreSources seen s.program s.origins))
    → IfOk r (λ found. MatchOption found (MakesNone text) (λ s. AreSources text s.program s.origins))
sources_told text seen (Err e) same h = tt
sources_told text seen (Ok None) same h = inr (subst SpellsGraphless same h)
sources_told text seen (Ok (Some s)) same h = subst (λ t. AreSources t s.program s.origins) same h

-- ---- labels

pub scl_label_told : {E : Type 0} (text seen name : List ℕ) (part : Scl) (draft : Draft) (r : Result (Option Origin) E) → seen ≡ text
    → KeepsDraft seen part draft → IfOk r (λ found. IfSome found (SclLabel seen name)) → IfOk r (λ found. IfSome found (IsLabelOrigin text name))
scl_label_told text seen name part draft (Err e) same is h = tt
scl_label_told text seen name part draft (Ok None) same is h = tt
scl_label_told text seen name part draft (Ok (Some o)) same is h =
    subst (λ t. IsLabelOrigin t name o) same (record { language = language.Scl; is_in = is.is_scl; label = h })

pub chart_label_told : {E : Type 0} (text seen name : List ℕ) (part : Scl) (kept : ReadChart) (r : Result (Option Origin) E) → seen ≡ text
    → KeepsChart seen part kept → IfOk r (λ found. IfSome found (ChartLabel seen name)) → IfOk r (λ found. IfSome found (IsLabelOrigin text name))
chart_label_told text seen name part kept (Err e) same is h = tt
chart_label_told text seen name part kept (Ok None) same is h = tt
chart_label_told text seen name part kept (Ok (Some o)) same is h =
    subst (λ t. IsLabelOrigin t name o) same (record { language = language.Chart; is_in = is.is_chart; label = h })
