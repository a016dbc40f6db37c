-- Where a label stands.
use Rattle.std.proofs.Common.{◌≡◌, ℕ, zero, suc, Option, Some, None, IfOk, IfSome, Result, Ok, Err, List, [], ◌∷◌, ◌++◌, map, slice_get, refl}
use Rattle.std.proofs.Common.{sym, ap, subst, ◌∙◌}
use Rattle.sc_text.specs.declared.language.Language.TheVariants as language
use Rattle.sc_text.specs.declared.token.Token.{Token}
use Rattle.sc_text.specs.Tokens.{AreTokens}
use Rattle.scl.specs.declared.program.Scl.{Scl}
use Rattle.scl_reader.specs.declared.text_drafts.draft.Draft.{Draft}
use Rattle.scl_reader.specs.Checked.{IsFlawless}
use Rattle.scl_reader.specs.Resolved.{IsProgramOf}
use Rattle.core_charts.specs.Chart.{Chart}
use Rattle.core_charts.specs.declared.elements.element.Element.{Element}
use Rattle.node_sources.specs.declared.chart_places.places.Places.{Places}
use Rattle.node_sources.specs.Read.{IsPlaced}
use Rattle.abort_expansion.specs.Expansion.{expanded}
use Rattle.compiler.specs.Charts.{IsSclOf}
use Rattle.std.proofs.lemmas.List.{map-append}
use Rattle.scl.specs.declared.statement.Statement.{Statement}
use Rattle.node_elements.specs.Points.{Ends, in_row, points_of, text_points}
use Rattle.node_elements.specs.LoweringOrigins.{point_origins}
use Rattle.node_elements.specs.ExpansionOrigins.{expansion_origins}
use Rattle.node_elements.specs.Origins.{through}
use Rattle.node_sources.specs.declared.origin.Origin.{Origin}
use Rattle.node_sources.specs.declared.statements.StatementPlace.{StatementPlace}
use Rattle.node_sources.specs.Labels.{ChartLabel, IsLabel, SclLabel, label_at, label_origin}
use Rattle.node_sources.specs.SclOrigins.{at_first, spots_of}

record Mapped {A B : Type 0} (f : A → B) (xs : List A) (k : ℕ) (y : B) : Type 0 where
  pub item : A
  pub there : slice_get xs k ≡ Some item
  pub is : f item ≡ y

mapped : {A B : Type 0} (f : A → B) (xs : List A) (k : ℕ) (y : B) → slice_get (map f xs) k ≡ Some y → Mapped f xs k y
mapped f [] k y h = absurd cc
mapped f (x ∷ xs) zero y h = let is : f x ≡ y = cc in record { item = x; there = refl; is = is }
mapped f (x ∷ xs) (suc k) y h = let m : Mapped f xs k y = mapped f xs k y h in record { item = m.item; there = m.there; is = m.is }

one_label : (scl : Scl) (name : List ℕ) (k : ℕ) (labels : List (Option (List ℕ))) → labels ≡ map label_at (text_points scl.body) →
    slice_get labels k ≡ Some (Some name) → IsLabel scl name k
one_label scl name k labels are found =
    let m : Mapped label_at (text_points scl.body) k (Some name) =
    mapped label_at (text_points scl.body) k (Some name) (subst (λ ls. slice_get ls k ≡ Some (Some name)) are found) in
    record { point = m.item; there = m.there; named = m.is }

pub is_label : (scl : Scl) (name : List ℕ) (labels : List (Option (List ℕ))) (r : Option ℕ) → labels ≡ map label_at (text_points scl.body) →
    IfSome r (λ k. slice_get labels k ≡ Some (Some name)) → IfSome r (IsLabel scl name)
is_label scl name labels None are found = tt
is_label scl name labels (Some k) are found = one_label scl name k labels are found

-- the end of the first thread has no label
pub with_end : (body : List Statement) → map label_at (in_row (map points_of body)) ++ None ∷ [] ≡ map label_at (text_points body)
with_end body = sym (map-append label_at (in_row (map points_of body)) (Ends ∷ []))

pub chart_labelled : (text : List ℕ) (c : Chart) (p : Places) (scl : Scl) (name : List ℕ) (k : ℕ) (core : Chart) (elements : List (Option Element))
    (r : Option Origin) → IsPlaced text c p → IsSclOf c scl → IsLabel scl name k → core ≡ expanded c →
    elements ≡ map (through (expansion_origins c)) (point_origins core) → r ≡ label_origin p (slice_get elements k) →
    IfSome r (ChartLabel text name)
chart_labelled text c p scl name k core elements None placed lowers label same made is = tt
chart_labelled text c p scl name k core elements (Some o) placed lowers label same made is = record {
  chart = c;
  places = p;
  placed = placed;
  scl = scl;
  lowers = lowers;
  number = k;
  label = label;
  is =
      ap (λ core. label_origin p (slice_get (map (through (expansion_origins c)) (point_origins core)) k)) (sym same)
      ∙ ap (λ es. label_origin p (slice_get es k)) (sym made) ∙ sym is;
}

-- the same of what a function answers
pub chart_label_answered : {E : Type 0} (text : List ℕ) (c : Chart) (p : Places) (scl : Scl) (name : List ℕ) (k : ℕ) (core : Chart)
    (elements : List (Option Element)) (r : Result (Option Origin) E) → IsPlaced text c p → IsSclOf c scl → IsLabel scl name k →
    core ≡ expanded c → elements ≡ map (through (expansion_origins c)) (point_origins core) →
    IfOk r (λ found. found ≡ label_origin p (slice_get elements k)) → IfOk r (λ found. IfSome found (ChartLabel text name))
chart_label_answered text c p scl name k core elements (Ok found) placed lowers label same made is =
    chart_labelled text c p scl name k core elements found placed lowers label same made is
chart_label_answered text c p scl name k core elements (Err e) placed lowers label same made is = tt

pub scl_labelled : (text : List ℕ) (d : Draft) (tokens : List Token) (scl : Scl) (name : List ℕ) (k : ℕ) (spots : List StatementPlace) (r : Option Origin) →
    IsFlawless text d → AreTokens language.Scl 0 text tokens → IsProgramOf d scl → IsLabel scl name k → spots ≡ spots_of tokens d.statements →
    r ≡ at_first (slice_get spots k) → IfSome r (SclLabel text name)
scl_labelled text d tokens scl name k spots None drafted cut spelled label made is = tt
scl_labelled text d tokens scl name k spots (Some o) drafted cut spelled label made is = record {
  draft = d;
  drafted = drafted;
  tokens = tokens;
  cut = cut;
  scl = scl;
  spelled = spelled;
  number = k;
  label = label;
  is = ap (λ spots. at_first (slice_get spots k)) (sym made) ∙ sym is;
}
