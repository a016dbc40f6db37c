use Rattle.std.proofs.lemmas.Grind.{common_steps}
use Rattle.std.proofs.Common.{◌≡◌, ◌∙◌, ℕ, ◌+◌, List, drop, ap, subst, arith}
use Rattle.sc_text.specs.declared.read_fault.FaultKind.TheVariants as broken
use Rattle.sc_text.specs.Flaws.{flaw_if, is_repeated}
use Rattle.sc_text.specs.Index.{IsIndex}
use Rattle.sc_text.specs.Told.{told_behind}
use Rattle.sc_text.specs.declared.drafts.parts.Named.{Named}
use Rattle.scl_reader.specs.Flaws.{names, repeated}
use Rattle.scl_reader.proofs.Labelled.{repeated_step}
use Rattle.scl_reader.proofs.text_drafts.labels.note_each_repeated.Goals as goal

pub loop-at-preserved : goal.loop-at-preserved
loop-at-preserved c =
    let all : List Named = c.args.labels.now in
    let labels : List (List ℕ) = names all in
    let at : ℕ = c.loop-at.at in
    let l : Named = c.at-label.result.now in
    let is : IsIndex labels c.in_ok-index.index =
    subst (λ ns. IsIndex ns c.in_ok-index.index) (c.as_slice.ensures.value ∙ c.in_ok-names.ensures) c.in_ok-index.ensures in
    let again : c.is_repeated-is_repeated.result ≡ is_repeated labels at l.name = c.is_repeated-is_repeated.ensures labels is in
    ap (λ f. told_behind f (repeated labels (at + 1) (drop (at + 1) all)))
    (c.in_ok-note_told.ensures ∙ ap (λ b. told_behind c.loop-at.told (flaw_if b broken.Repeated l.at)) again)
    ∙ repeated_step labels all at l c.loop-at.told c.at-label.ensures
    ∙ c.loop-at.invariant

pub returns : goal.returns
returns c = grind (arith, common_steps) steps 2000000
