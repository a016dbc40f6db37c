-- What a text of an extended chart is read into, with places: the chart to which it is reduced, from which elements of the author's
-- the elements of that come, and where those stand in his text.
use Rattle.std.specs.Prelude.{ℕ, ◌≡◌, ◌⊎◌, List, length}
use Rattle.sc_text.specs.declared.read_fault.FaultKind.{FaultKind}
use Rattle.sc_text.specs.declared.read_fault.ReadFault.TheVariants as fault
use Rattle.core_charts.specs.declared.features.Features.TheVariants as features
use Rattle.core_charts.specs.Chart.{Chart}
use Rattle.core_charts.specs.Rules.{IsChart}
use Rattle.node_sources.specs.declared.chart_places.places.Places.{Places}
use Rattle.node_sources.specs.Places.{places_of}
use Rattle.chart_reduction.specs.declared.rows.AuthorRows.{AuthorRows}
use Rattle.chart_reduction.specs.Reduction.{IsReduction, reduced}
use Rattle.extended_reader.specs.declared.text_drafts.draft.ExtendedDraft.{ExtendedDraft}
use Rattle.extended_reader.specs.Checked.{IsSound, IsTextFault}
use Rattle.extended_reader.specs.Resolved.{extended_of}
use Rattle.node_sources.specs.declared.extended.text_places.author.Author.{Author}
use Rattle.node_sources.specs.declared.extended.text_places.origins.AuthorOrigins.{AuthorOrigins}
use Rattle.node_sources.specs.EffectRows.{effect_rows}
use Rattle.node_sources.specs.Origins.{author_origins}

-- what is the author's in what is made of his draft
abbrev pub author_of : AuthorRows → ExtendedDraft → Author
author_of rows d =
    record {
      rows = rows;
      effects = effect_rows d.core.regions;
      variables = length (extended_of d).variables;
    }

-- the text spells an extended chart, which is reduced to this one; from these elements of the author's its elements come, and
-- those have these places
pub record IsAuthorPlaced (text : List ℕ) (chart : Chart) (origins : AuthorOrigins) (places : Places) : Type 0 where
  pub draft : ExtendedDraft
  pub sound : IsSound text draft
  pub rows : AuthorRows
  pub reduction : IsReduction (extended_of draft) chart rows
  pub come : origins ≡ author_origins (author_of rows draft) chart
  pub placed : places ≡ places_of draft.core

-- the text has a fault
pub record HasFault (text : List ℕ) : Type 0 where
  pub broken : FaultKind
  pub at : ℕ
  pub is : IsTextFault text (fault.Text broken at)

-- it spells an extended chart, and what that is reduced to passes a limit of charts
pub record PassesLimit (text : List ℕ) : Type 0 where
  pub draft : ExtendedDraft
  pub sound : IsSound text draft
  pub none : ¬ IsChart features.Extended (reduced (extended_of draft))

-- why a text has no such chart
abbrev pub LacksPlaces : List ℕ → Type 0
LacksPlaces text = HasFault text ⊎ PassesLimit text
