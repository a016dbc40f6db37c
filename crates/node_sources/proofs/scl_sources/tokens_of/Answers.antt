use Rattle.std.proofs.Common.{subst}
use Rattle.sc_text.specs.declared.language.Language.TheVariants as language
use Rattle.sc_text.specs.Tokens.{IsFirstFault, IsScanFault}
use Rattle.node_sources.proofs.SclTold.{never_faulty}
use Rattle.node_sources.proofs.scl_sources.tokens_of.Goals as goal

pub unreachable-requires : goal.unreachable-requires
unreachable-requires c =
    let faulty : IsFirstFault language.Scl 0 c.args.text.now c.in-Err-Text.field-0-0 c.in-Err-Text.field-0-1 =
    subst (IsScanFault language.Scl c.args.text.now) c.in-Err-Text.field-0-is c.in-Err-Text.ensures.fault in
    never_faulty c.args.text.now c.args.draft.now c.in-Err-Text.field-0-0 c.in-Err-Text.field-0-1 c.requires faulty
