-- From what a source text spells to the program of nodes that it makes, or to why it makes none.
use Rattle.std.proofs.Common.{◌≡◌, ℕ, Option, Some, None, IfOk, MatchOption, List, Result, Ok, Err, inl, inr, subst}
use Rattle.sc_graph.specs.Program.{Program}
use Rattle.scl.specs.declared.program.Scl.{Scl}
use Rattle.scl_graph.specs.Answers.{IsGraph, LacksGraph}
use Rattle.scl_graph.specs.declared.fault.GraphFault.TheVariants as graph
use Rattle.compiler.specs.declared.sources.fault.SourceFault.{SourceFault}
use Rattle.compiler.specs.declared.sources.reading.ReadText.{ReadText}
use Rattle.compiler.specs.Graphs.{IsGraphless, Makes, MakesNone, SaysOfText, SpellsGraphless}
use Rattle.compiler.specs.Kept.{Keeps}
use Rattle.compiler.specs.Programs.{LacksProgram}
use Rattle.compiler.proofs.Spelling.{spells}

-- a program that has no graph
pub looping : (scl : Scl) (name : List ℕ) → LacksGraph scl (graph.EmptyLoop name) → IsGraphless scl
looping scl name refused = record { fault = graph.EmptyLoop name; refused = refused; said = tt }

pub large : (scl : Scl) → LacksGraph scl graph.Limit → IsGraphless scl
large scl refused = record { fault = graph.Limit; refused = refused; said = tt }

-- what is found of the program of a text is what the text makes
pub made_of : {E : Type 0} (text : List ℕ) (scl : Scl) (r : ReadText) (found : Result (Option Program) E) → Keeps text scl r
    → IfOk found (λ p. MatchOption p (IsGraphless scl) (IsGraph scl)) → IfOk found (λ p. MatchOption p (SpellsGraphless text) (Makes text))
made_of text scl r (Err e) kept h = tt
made_of text scl r (Ok None) kept h = record { scl = scl; read = spells text scl r kept; none = h }
made_of text scl r (Ok (Some p)) kept h = record { scl = scl; read = spells text scl r kept; graph = h }

pub made_in : {E : Type 0} (text seen : List ℕ) (found : Result (Option Program) E) → seen ≡ text
    → IfOk found (λ p. MatchOption p (SpellsGraphless seen) (Makes seen)) → IfOk found (λ p. MatchOption p (MakesNone text) (Makes text))
made_in text seen (Err e) same h = tt
made_in text seen (Ok None) same h = inr (subst SpellsGraphless same h)
made_in text seen (Ok (Some p)) same h = subst (λ t. Makes t p) same h

-- a text that spells no program makes none
pub spells_none : (text : List ℕ) (f : SourceFault) → LacksProgram text f → SaysOfText f → MakesNone text
spells_none text f why said = inl (record { fault = f; why = why; said = said })
