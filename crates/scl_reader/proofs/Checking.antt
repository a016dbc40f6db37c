-- The flaws of a draft are told, and the first of them tells of the text, or there is none.
use Rattle.std.proofs.Common.{◌≡◌, ℕ, Option, Some, None, List, [], ◌++◌, inl, inr, sym, ◌∙◌, ap}
use Rattle.sc_text.specs.declared.read_fault.ReadFault.{ReadFault}
use Rattle.sc_text.specs.declared.read_fault.ReadFault.TheVariants as fault
use Rattle.sc_text.specs.declared.drafts.flaw.Flaw.{Flaw}
use Rattle.sc_text.specs.Flaws.{variable_names, variable_flaws}
use Rattle.sc_text.specs.Told.{told_behind, told_of}
use Rattle.sc_text.specs.First.{first_behind}
use Rattle.sc_text.proofs.Firsts.{first_found, none_found}
use Rattle.sc_text.proofs.ToldInOrder.{told_both, told_found}
use Rattle.scl_reader.specs.declared.text_drafts.draft.Draft.{Draft}
use Rattle.scl_reader.specs.declared.text_drafts.survey.Found.{Found}
use Rattle.scl_reader.specs.Draft.{IsDraft, IsDraftFault}
use Rattle.scl_reader.specs.Flaws.{Part, names, root, repeated, scl_flaws}
use Rattle.scl_reader.specs.Inside.Survey.{found_behind}
use Rattle.scl_reader.specs.Checked.{IsFlawless, IsTextFault}

pub all_told : (d : Draft) (noted told : List Flaw) (after : Found)
    → noted ≡ told_behind [] (variable_flaws (variable_names d.declarations) 0 0 d.declarations)
    → after ≡ found_behind (record { labels = []; told = noted }) (root d.declarations d.statements)
    → told ≡ told_behind after.told (repeated (names after.labels) 0 after.labels) → told ≡ told_of (scl_flaws d)
all_told d noted told after e f g =
    let variables : List Flaw = variable_flaws (variable_names d.declarations) 0 0 d.declarations in
    let p : Part = root d.declarations d.statements in
    g
    ∙ ap (λ a. told_behind a.told (repeated (names a.labels) 0 a.labels)) f
    ∙ ap (λ n. told_behind (told_behind n p.flaws) (repeated (names p.all) 0 p.all)) e
    ∙ sym (told_both (told_behind [] variables) p.flaws (repeated (names p.all) 0 p.all))
    ∙ sym (told_both [] variables (p.flaws ++ repeated (names p.all) 0 p.all))
    ∙ told_found (scl_flaws d)

module _ (text : List ℕ) where
  pub flawless : (d : Draft) (first : Option Flaw) → IsDraft text d → first ≡ first_behind None (scl_flaws d) → first ≡ None → IsFlawless text d
  flawless d first is e none = record { drafted = is; flawless = none_found (scl_flaws d) (sym e ∙ none) }

  pub flawed : (d : Draft) (first : Option Flaw) (flaw : Flaw) → IsDraft text d → first ≡ first_behind None (scl_flaws d) → first ≡ Some flaw
      → IsTextFault text (fault.Text flaw.broken flaw.at)
  flawed d first flaw is e some =
      inr (record { draft = d; drafted = is; first = first_found (scl_flaws d) flaw (sym e ∙ some) })

  pub undrafted : (f : ReadFault) → IsDraftFault text f → IsTextFault text f
  undrafted (fault.Text b at) is = inl is
  undrafted fault.Memory is = tt
