-- What is told of the flaws of the parts of a draft, one part behind the other.
use Rattle.std.proofs.Common.{◌≡◌, List, ◌++◌, refl}
use Rattle.sc_text.specs.declared.drafts.flaw.Flaw.{Flaw}
use Rattle.sc_text.specs.Told.{told_behind}
use Rattle.sc_text.proofs.ToldInOrder.{told_both}
use Rattle.sc_text.proofs.PartsInOrder.{UnknownStep, UnknownOver, ExpressionKept, VariableStep, VariablesOver, two, four, five}
use Rattle.sc_text.proofs.PartsInOrder.{unknown_steps, unknowns_over, expressions_kept, variable_steps, all_variables_over}

-- several flaws, one behind the other
module _ (f : List Flaw) (a b : List Flaw) where
  pub told_two : (c : List Flaw) → told_behind f (a ++ (b ++ c)) ≡ told_behind (told_behind (told_behind f a) b) c
  told_two c = two told_behind (λ g. refl) told_both f a b c

  pub told_four : (c d e : List Flaw) → told_behind f (a ++ (b ++ (c ++ (d ++ e))))
      ≡ told_behind (told_behind (told_behind (told_behind (told_behind f a) b) c) d) e
  told_four c d e = four told_behind (λ g. refl) told_both f a b c d e

  pub told_five : (c d e g : List Flaw) → told_behind f (a ++ (b ++ (c ++ (d ++ (e ++ g)))))
      ≡ told_behind (told_behind (told_behind (told_behind (told_behind (told_behind f a) b) c) d) e) g
  told_five c d e g = five told_behind (λ x. refl) told_both f a b c d e g

pub unknown_step : UnknownStep told_behind
unknown_step = unknown_steps told_behind (λ f. refl) told_both

pub expression_told : ExpressionKept told_behind
expression_told = expressions_kept told_behind (λ f. refl) told_both

pub variable_step : VariableStep told_behind
variable_step = variable_steps told_behind (λ f. refl) told_both

-- ---- a part of which nothing is left

pub unknown_over : UnknownOver told_behind
unknown_over = unknowns_over told_behind (λ f. refl) told_both

pub variables_over : VariablesOver told_behind
variables_over = all_variables_over told_behind (λ f. refl) told_both
