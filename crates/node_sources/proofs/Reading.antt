-- Why a text has no places, and when it has these.
use Rattle.std.proofs.Common.{◌≡◌, ℕ, List, inl, inr, sym, subst}
use Rattle.sc_text.specs.declared.read_fault.FaultKind.{FaultKind}
use Rattle.sc_text.specs.declared.read_fault.ReadFault.TheVariants as fault
use Rattle.core_charts.specs.declared.features.Features.TheVariants as features
use Rattle.core_charts.specs.Chart.{Chart}
use Rattle.core_charts.specs.Rules.{IsChart}
use Rattle.node_sources.specs.Places.{places_of}
use Rattle.extended_charts.specs.declared.extended.ExtendedChart.{ExtendedChart}
use Rattle.chart_reduction.specs.declared.rows.AuthorRows.{AuthorRows}
use Rattle.chart_reduction.specs.declared.fault.ReduceFault.TheVariants as reduce
use Rattle.chart_reduction.specs.Reduction.{IsReduction, LacksChart, reduced}
use Rattle.extended_reader.specs.declared.text_drafts.draft.ExtendedDraft.{ExtendedDraft}
use Rattle.extended_reader.specs.Checked.{IsSound, IsTextFault}
use Rattle.extended_reader.specs.Resolved.{extended_of}
use Rattle.node_sources.specs.declared.extended.text_places.placed.AuthorPlaced.{AuthorPlaced}
use Rattle.node_sources.specs.Origins.{author_origins}
use Rattle.node_sources.specs.ExtendedRead.{IsAuthorPlaced, LacksPlaces, author_of}

pub has_fault : (text : List ℕ) (b : FaultKind) (at : ℕ) → IsTextFault text (fault.Text b at) → LacksPlaces text
has_fault text b at is = inl (record { broken = b; at = at; is = is })

pub passes_limit : (text : List ℕ) (d : ExtendedDraft) (c : ExtendedChart) → IsSound text d → c ≡ extended_of d → LacksChart c reduce.Limit
    → LacksPlaces text
passes_limit text d c sound is none = inr (record { draft = d; sound = sound; none = subst (λ x. ¬ IsChart features.Extended (reduced x)) is none })

pub is_placed : (text : List ℕ) (d : ExtendedDraft) (c : ExtendedChart) (chart : Chart) (rows : AuthorRows) (p : AuthorPlaced) → IsSound text d
    → c ≡ extended_of d → IsReduction c chart rows → p.chart ≡ chart → p.origins ≡ author_origins (author_of rows d) chart → p.places ≡ places_of d.core
    → IsAuthorPlaced text p.chart p.origins p.places
is_placed text d c chart rows p sound is reduction same come placed =
    record {
      draft = d;
      sound = sound;
      rows = rows;
      reduction = subst (λ x. IsReduction (extended_of d) x rows) (sym same) (subst (λ x. IsReduction x chart rows) is reduction);
      come = subst (λ x. p.origins ≡ author_origins (author_of rows d) x) (sym same) come;
      placed = placed;
    }
