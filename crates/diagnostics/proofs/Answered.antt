-- What a reader answers tells the one fault of a text.
use Rattle.std.proofs.Common.{ℕ, ◌≡◌, ◌⊎◌, inl, inr, List}
use Rattle.std.specs.Prelude.{Ok, Err}
use Rattle.sc_text.specs.declared.read_fault.FaultKind.{FaultKind}
use Rattle.sc_text.specs.declared.read_fault.ReadFault.TheVariants as fault
use Rattle.core_charts.specs.Chart.{Chart}
use Rattle.extended_charts.specs.declared.extended.ExtendedChart.{ExtendedChart}
use Rattle.scl.specs.declared.program.Scl.{Scl}
use Rattle.chart_reader.specs.Checked as charts
use Rattle.extended_reader.specs.Checked as extended
use Rattle.scl_reader.specs.Checked as programs
use Rattle.chart_reader.specs.Laws as charts_read
use Rattle.extended_reader.specs.Read as extended_read
use Rattle.scl_reader.specs.Laws as programs_read
use Rattle.diagnostics.specs.declared.could_follow.grammars.Grammar.TheVariants as grammars
use Rattle.diagnostics.specs.Inside.CouldFollow.{HasFault, HasNoFault}

this_one : (b c : FaultKind) (at place : ℕ) → (fault.Text b at ≡ fault.Text c place) ⊎ (fault.Text b at ≡ fault.Memory)
    → (c ≡ b) × (place ≡ at)
this_one b c at place (inl e) = (cc, cc)
this_one b c at place (inr e) = absurd (cc)

pub chart_none : (text : List ℕ) (c : Chart) → charts_read.IsExact text (Ok c) → HasNoFault grammars.Chart text
chart_none text c exact = record { none = λ b at told. exact.faulty b at told }

pub chart_some : (text : List ℕ) (b : FaultKind) (at : ℕ) → charts.IsTextFault text (fault.Text b at)
    → charts_read.IsExact text (Err (fault.Text b at)) → HasFault grammars.Chart text (b, at)
chart_some text b at told exact = record { has = told; one = λ c place other. this_one b c at place (exact.faulty c place other) }

pub extended_none : (text : List ℕ) (c : ExtendedChart) → extended_read.IsExact text (Ok c) → HasNoFault grammars.ExtendedChart text
extended_none text c exact = record { none = λ b at told. exact.faulty b at told }

pub extended_some : (text : List ℕ) (b : FaultKind) (at : ℕ) → extended.IsTextFault text (fault.Text b at)
    → extended_read.IsExact text (Err (fault.Text b at)) → HasFault grammars.ExtendedChart text (b, at)
extended_some text b at told exact = record { has = told; one = λ c place other. this_one b c at place (exact.faulty c place other) }

pub scl_none : (text : List ℕ) (p : Scl) → programs_read.IsExact text (Ok p) → HasNoFault grammars.Scl text
scl_none text p exact = record { none = λ b at told. exact.faulty b at told }

pub scl_some : (text : List ℕ) (b : FaultKind) (at : ℕ) → programs.IsTextFault text (fault.Text b at)
    → programs_read.IsExact text (Err (fault.Text b at)) → HasFault grammars.Scl text (b, at)
scl_some text b at told exact = record { has = told; one = λ c place other. this_one b c at place (exact.faulty c place other) }
