-- From what was read of a source text to the SCL program that it spells, or to why it spells none.
use Rattle.std.proofs.Common.{◌≡◌, ℕ, List, sym, subst}
use Rattle.core_charts.specs.Chart.{Chart}
use Rattle.sc_text.specs.declared.language.Language.{Language}
use Rattle.sc_text.specs.declared.language.Language.TheVariants as language
use Rattle.sc_text.specs.declared.read_fault.ReadFault.{ReadFault}
use Rattle.sc_text.specs.declared.read_fault.ReadFault.TheVariants as read
use Rattle.sc_text.specs.FirstToken.{IsIn}
use Rattle.scl.specs.declared.program.Scl.{Scl}
use Rattle.scl_reader.specs.Checked as programs
use Rattle.chart_reader.specs.declared.text_drafts.draft.DraftChart.{DraftChart}
use Rattle.chart_reader.specs.Checked as charts
use Rattle.chart_reader.specs.Resolved.{chart_of}
use Rattle.abort_expansion.specs.Answers.{LacksCore}
use Rattle.abort_expansion.specs.declared.fault.ExpandFault.{ExpandFault}
use Rattle.compiler.specs.declared.sources.fault.SourceFault.{SourceFault}
use Rattle.compiler.specs.declared.sources.fault.SourceFault.TheVariants as fault
use Rattle.compiler.specs.declared.sources.reading.ReadText.{ReadText}
use Rattle.compiler.specs.declared.sources.reading.ReadText.TheVariants as reading
use Rattle.compiler.specs.Kept.{Keeps}
use Rattle.compiler.specs.Programs.{IsFaultIn, LacksProgram, SpellsProgram}

-- ---- what it spells

-- what is kept of a text says which program it spells
pub spells : (text : List ℕ) (scl : Scl) (r : ReadText) → Keeps text scl r → SpellsProgram text scl
spells text scl (reading.Chart kept) h = record {
  language = language.Chart;
  is_in = h.is_chart;
  spells = record {
    chart = kept.chart;
    read = record { draft = kept.draft; drafted = h.drafted.drafted; flawless = h.drafted.flawless; spelled = h.spelled };
    is = h.lowers;
  };
}
spells text scl (reading.Scl draft) h = record {
  language = language.Scl;
  is_in = h.is_scl;
  spells = record { draft = draft; drafted = h.drafted.drafted; flawless = h.drafted.flawless; spelled = h.spelled };
}

-- ---- why it spells none

faulty : (text : List ℕ) (l : Language) (f : ReadFault) (e : SourceFault) → e ≡ fault.Text f → IsIn text l → IsFaultIn l text f → LacksProgram text e
faulty text l f e same is h = subst (LacksProgram text) (sym same) (record { language = l; is_in = is; fault = h })

pub faulty_chart : (text : List ℕ) (f : ReadFault) (e : SourceFault) → e ≡ fault.Text f → IsIn text language.Chart → charts.IsTextFault text f
    → LacksProgram text e
faulty_chart text f e same is h = faulty text language.Chart f e same is h

pub faulty_scl : (text : List ℕ) (f : ReadFault) (e : SourceFault) → e ≡ fault.Text f → IsIn text language.Scl → programs.IsTextFault text f
    → LacksProgram text e
faulty_scl text f e same is h = faulty text language.Scl f e same is h

pub no_core : (text : List ℕ) (d : DraftChart) (c : Chart) (f : ExpandFault) (e : SourceFault) → e ≡ fault.Expansion f → IsIn text language.Chart
    → charts.IsSound text d → c ≡ chart_of d → LacksCore c f → LacksProgram text e
no_core text d c f e same is drafted spelled none = subst (LacksProgram text) (sym same) (record {
  is_chart = is;
  chart = c;
  read = record { draft = d; drafted = drafted.drafted; flawless = drafted.flawless; spelled = spelled };
  none = none;
})

-- that memory was refused says nothing of it
pub no_memory : (text : List ℕ) (l : Language) (e : SourceFault) → e ≡ fault.Text read.Memory → IsIn text l → LacksProgram text e
no_memory text language.Chart e same is = faulty text language.Chart read.Memory e same is tt
no_memory text language.Scl e same is = faulty text language.Scl read.Memory e same is tt

pub no_room : (text : List ℕ) (scl : Scl) (r : ReadText) (e : SourceFault) → e ≡ fault.Text read.Memory → Keeps text scl r → LacksProgram text e
no_room text scl (reading.Chart kept) e same h = no_memory text language.Chart e same h.is_chart
no_room text scl (reading.Scl draft) e same h = no_memory text language.Scl e same h.is_scl
