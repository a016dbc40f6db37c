use Rattle.std.proofs.lemmas.Grind.{common_steps}
use Rattle.std.proofs.Common.{◌≡◌, ◌∙◌, ℕ, ◌+◌, List, drop, ap, subst, arith}
use Rattle.std.specs.Prelude.{not}
use Rattle.sc_text.specs.declared.read_fault.FaultKind.TheVariants as broken
use Rattle.sc_text.specs.Flaws.{flaw_if, is_among}
use Rattle.sc_text.specs.Index.{IsIndex}
use Rattle.sc_text.specs.Told.{told_behind}
use Rattle.sc_text.specs.declared.drafts.parts.Named.{Named}
use Rattle.scl_reader.specs.Flaws.{lost, names}
use Rattle.scl_reader.proofs.Labelled.{lost_step}
use Rattle.scl_reader.proofs.text_drafts.labels.note_lost.Goals as goal

pub loop-at-preserved : goal.loop-at-preserved
loop-at-preserved c =
    let labels : List (List ℕ) = names c.args.labels.now in
    let all : List Named = c.args.gotos.now in
    let at : ℕ = c.loop-at.at in
    let g : Named = c.at-target.result.now in
    let is : IsIndex labels c.in_ok-index.index =
    subst (λ ns. IsIndex ns c.in_ok-index.index) (c.as_slice.ensures.value ∙ c.in_ok-names.ensures) c.in_ok-index.ensures in
    let known : c.has-is_known.result ≡ is_among labels g.name = c.has-is_known.ensures labels is in
    ap (λ f. told_behind f (lost labels (drop (at + 1) all)))
    (c.in_ok-note_told.ensures ∙ ap (λ b. told_behind c.loop-at.told (flaw_if (not b) broken.Unknown g.at)) known)
    ∙ lost_step labels all at g c.loop-at.told c.at-target.ensures
    ∙ c.loop-at.invariant

pub returns : goal.returns
returns c = grind (arith, common_steps) steps 2000000
