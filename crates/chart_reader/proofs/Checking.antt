-- What the first flaw of a draft tells of the text.
use Rattle.std.proofs.Common.{◌≡◌, ◌++◌, ℕ, Some, None, List, [], inl, inr, ◌∙◌, ap, sym}
use Rattle.sc_text.specs.declared.read_fault.ReadFault.{ReadFault}
use Rattle.sc_text.specs.declared.read_fault.ReadFault.TheVariants as fault
use Rattle.core_charts.specs.Rules.{depth_limit}
use Rattle.sc_text.specs.declared.drafts.flaw.Flaw.{Flaw}
use Rattle.sc_text.specs.declared.drafts.parts.Declaration.{Declaration}
use Rattle.sc_text.specs.Flaws.{variable_names, variable_flaws}
use Rattle.sc_text.specs.Told.{told_behind, told_of}
use Rattle.sc_text.specs.First.{first_behind}
use Rattle.sc_text.proofs.Firsts.{first_found, none_found}
use Rattle.sc_text.proofs.ToldInOrder.{told_both, told_found}
use Rattle.chart_reader.specs.declared.text_drafts.draft.DraftRegion.{DraftRegion}
use Rattle.chart_reader.specs.declared.text_drafts.draft.DraftChart.{DraftChart}
use Rattle.chart_reader.specs.Flaws.{nested_flaws, chart_flaws}
use Rattle.chart_reader.specs.Reading.{IsDraft, IsDraftFault}
use Rattle.chart_reader.specs.Checked.{IsSound, IsTextFault}

pub undrafted : (text : List ℕ) (f : ReadFault) → IsDraftFault text f → IsTextFault text f
undrafted text (fault.Text b at) s = inl s
undrafted text fault.Memory s = tt

pub flawed : (text : List ℕ) (d : DraftChart) (f : Flaw) → IsDraft text d → Some f ≡ first_behind None (chart_flaws d)
    → IsTextFault text (fault.Text f.broken f.at)
flawed text d f s e = inr (record { draft = d; drafted = s; first = first_found (chart_flaws d) f (sym e) })

pub sound : (text : List ℕ) (d : DraftChart) → IsDraft text d → None ≡ first_behind None (chart_flaws d) → IsSound text d
sound text d s e = record { drafted = s; flawless = none_found (chart_flaws d) (sym e) }

pub chart_told : (d : DraftChart) (V : List Declaration) (R : List DraftRegion) (f0 f1 f2 : List Flaw) → V ≡ d.variables → f0 ≡ []
    → f1 ≡ told_behind f0 (variable_flaws (variable_names V) 0 0 V) → R ≡ d.regions → f2 ≡ told_behind f1 (nested_flaws V depth_limit R)
    → f2 ≡ told_of (chart_flaws d)
chart_told d V R f0 f1 f2 v z a r b =
    b ∙ ap (λ S. told_behind f1 (nested_flaws V depth_limit S)) r
    ∙ ap (λ f. told_behind f (nested_flaws V depth_limit d.regions))
    (a ∙ ap (λ f. told_behind f (variable_flaws (variable_names V) 0 0 V)) z)
    ∙ sym (told_both [] (variable_flaws (variable_names V) 0 0 V) (nested_flaws V depth_limit d.regions))
    ∙ ap (λ W. told_behind [] (variable_flaws (variable_names W) 0 0 W ++ nested_flaws W depth_limit d.regions)) v
    ∙ told_found (chart_flaws d)
