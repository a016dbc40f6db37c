use Rattle.std.proofs.Common.{◌≡◌, ◌++◌, IsTrue, ap, sym, subst, ◌∙◌}
use Rattle.sc_values.specs.Name.{is_name}
use Rattle.sc_text.specs.MadeNames.{numbered}
use Rattle.sc_text.proofs.MadeNames.{numbered_is_name}
use Rattle.sc_text.proofs.made_names.numbered.Goals as goal

pub unreachable-requires : goal.unreachable-requires
unreachable-requires c =
    let prefix : c.push_str.new.self.bytes ≡ c.args.word.now = c.push_str.ensures.bytes ∙ ap (λ t. t ++ c.args.word.now) c.new-text.ensures in
    let text : c.as_str.result.now ≡ numbered c.args.word.now c.args.number =
    c.as_str.ensures.value ∙ c.push_str-2.ensures.bytes ∙ ap (λ t. t ++ c.format.result.now) prefix ∙ ap (λ t. c.args.word.now ++ t) c.format.ensures.text in
    c.in-None.ensures (subst (λ t. IsTrue (is_name t)) (sym text)
    (numbered_is_name c.args.word.now c.args.number c.ranges.number.fits c.requires.named c.requires.short))
