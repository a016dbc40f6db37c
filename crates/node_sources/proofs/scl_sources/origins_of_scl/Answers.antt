use Rattle.std.proofs.Common.{rules}
use Rattle.sc_text.specs.declared.language.Language.TheVariants as language
use Rattle.sc_text.specs.Tokens.{AreTokens}
use Rattle.node_sources.proofs.SclTold.{sourced}
use Rattle.node_sources.proofs.scl_sources.origins_of_scl.Goals as goal

pub returns : goal.returns
returns c =
    let cut : AreTokens language.Scl 0 c.args.text.now c.as_slice.result.now = search rules in
    λ p graph.
    sourced c.args.text.now c.args.draft.now c.as_slice.result.now c.args.scl.now p c.in_ok-origins.origins c.requires.drafted cut
    c.requires.spelled graph c.in_ok-origins.ensures
