use Rattle.tick_core.proofs.ShortCodes.{three_at}
use Rattle.std.proofs.Common.{rules}
use Rattle.tick_core.proofs.short_codes.short_value.Goals as goal

pub returns-in-len3 : goal.returns-in-len3
returns-in-len3 c = search (rules, three_at)
