-- What is kept of some flaws, read from their front, is kept of those of the parts of a draft, one part behind the other.
use Rattle.std.proofs.Common.{◌≡◌, ℕ, zero, suc, ◌+◌, ◌≤◌, Bool, Option, Some, List, [], ◌∷◌, ◌++◌, drop, length, slice_get, refl, sym, ◌∙◌, ap, arith}
use Rattle.std.specs.Prelude.{◌&&◌}
use Rattle.sc_values.specs.declared.value.Kind.{Kind}
use Rattle.sc_graph.specs.Limits.{variable_limit, output_limit}
use Rattle.sc_graph.specs.Size.{is_output}
use Rattle.sc_text.specs.declared.operation.TextOperation.{TextOperation}
use Rattle.sc_text.specs.declared.read_fault.FaultKind.TheVariants as broken
use Rattle.sc_text.specs.Phrases.{Phrase}
use Rattle.sc_text.specs.declared.drafts.flaw.Flaw.{Flaw}
use Rattle.sc_text.specs.declared.drafts.parts.TextExpression.{TextExpression}
use Rattle.sc_text.specs.declared.drafts.parts.Declaration.{Declaration}
use Rattle.sc_text.specs.Flaws.{flaw_if, is_full, is_repeated, one_more_if, variable_flaws, variable_names, is_among, unknown_one, unknown_names}
use Rattle.sc_text.specs.Flaws.{is_of_other_kind, passes_limits, expression_flaws}

pub drop_is : {A : Type 0} (xs : List A) (at : ℕ) (x : A) → slice_get xs at ≡ Some x → drop at xs ≡ x ∷ drop (at + 1) xs
drop_is [] at x e = absurd cc
drop_is (y ∷ xs) zero x e = let same : y ≡ x = cc in ap (λ z. z ∷ xs) same
drop_is (y ∷ xs) (suc at) x e =
    let more : suc (at + 1) ≡ suc at + 1 = omega arith in
    drop_is xs at x e ∙ ap (λ n. x ∷ drop n (y ∷ xs)) more

pub drop_past : {A : Type 0} (xs : List A) (at : ℕ) → length xs ≤ at → drop at xs ≡ []
drop_past [] zero le = refl
drop_past [] (suc at) le = refl
drop_past (x ∷ xs) zero le = absurd (omega (arith, le))
drop_past (x ∷ xs) (suc at) le = drop_past xs at (omega (arith, le))

-- ---- the statements, of what is kept

module _ {Kept : Type 0} (behind : Kept → List Flaw → Kept) where
  abbrev pub UnknownStep : Type 0
  UnknownStep =
      (is_known : List ℕ → Bool) (p : Phrase) (at : ℕ) (o : TextOperation) (f : Kept) → slice_get p at ≡ Some o →
      behind (behind f (unknown_one is_known o)) (unknown_names is_known (drop (at + 1) p)) ≡ behind f (unknown_names is_known (drop at p))

  abbrev pub UnknownOver : Type 0
  UnknownOver = (is_known : List ℕ → Bool) (p : Phrase) (at : ℕ) (f : Kept) → length p ≤ at → behind f (unknown_names is_known (drop at p)) ≡ f

  abbrev pub ExpressionKept : Type 0
  ExpressionKept =
      (V : List Declaration) (wanted : Option Kind) (e : TextExpression) (p : Phrase) (f f1 f2 f3 : Kept) (other passes : Bool) → p ≡ e.operations →
      f1 ≡ behind f (unknown_names (is_among (variable_names V)) p) → other ≡ is_of_other_kind V wanted p →
      f2 ≡ behind f1 (flaw_if other broken.Kind e.start) → passes ≡ passes_limits p → f3 ≡ behind f2 (flaw_if passes broken.Limit e.start) →
      f3 ≡ behind f (expression_flaws V wanted e)

  abbrev pub VariableStep : Type 0
  VariableStep =
      (names : List (List ℕ)) (all : List Declaration) (at outputs : ℕ) (x : Declaration) (f : Kept) → slice_get all at ≡ Some x →
      behind (behind (behind (behind f (flaw_if (is_repeated names at x.named.name) broken.Repeated x.named.at))
      (flaw_if (is_full variable_limit at) broken.Limit x.named.at)) (flaw_if (is_output x.role && is_full output_limit outputs) broken.Limit x.named.at))
      (variable_flaws names (at + 1) (one_more_if (is_output x.role) outputs) (drop (at + 1) all)) ≡ behind f (variable_flaws names at outputs (drop at all))

  abbrev pub VariablesOver : Type 0
  VariablesOver =
      (names : List (List ℕ)) (all : List Declaration) (at outputs : ℕ) (f : Kept) → length all ≤ at →
      behind f (variable_flaws names at outputs (drop at all)) ≡ f

-- ---- their proofs

module _ {Kept : Type 0} (behind : Kept → List Flaw → Kept) (empty : (f : Kept) → behind f [] ≡ f)
    (both : (f : Kept) (a b : List Flaw) → behind f (a ++ b) ≡ behind (behind f a) b) where
  -- several flaws, one behind the other
  pub two : (f : Kept) (a b c : List Flaw) → behind f (a ++ (b ++ c)) ≡ behind (behind (behind f a) b) c
  two f a b c = both f a (b ++ c) ∙ both (behind f a) b c

  pub three : (f : Kept) (a b c d : List Flaw) → behind f (a ++ (b ++ (c ++ d))) ≡ behind (behind (behind (behind f a) b) c) d
  three f a b c d = two f a b (c ++ d) ∙ both (behind (behind f a) b) c d

  pub four : (f : Kept) (a b c d e : List Flaw) → behind f (a ++ (b ++ (c ++ (d ++ e)))) ≡ behind (behind (behind (behind (behind f a) b) c) d) e
  four f a b c d e = three f a b c (d ++ e) ∙ both (behind (behind (behind f a) b) c) d e

  pub five : (f : Kept) (a b c d e g : List Flaw) → behind f (a ++ (b ++ (c ++ (d ++ (e ++ g)))))
      ≡ behind (behind (behind (behind (behind (behind f a) b) c) d) e) g
  five f a b c d e g = four f a b c d (e ++ g) ∙ both (behind (behind (behind (behind f a) b) c) d) e g

  pub unknown_steps : UnknownStep behind
  unknown_steps is_known p at o f e =
      sym (both f (unknown_one is_known o) (unknown_names is_known (drop (at + 1) p)))
      ∙ ap (λ q. behind f (unknown_names is_known q)) (sym (drop_is p at o e))

  pub unknowns_over : UnknownOver behind
  unknowns_over is_known p at f le = ap (λ q. behind f (unknown_names is_known q)) (drop_past p at le) ∙ empty f

  pub expressions_kept : ExpressionKept behind
  expressions_kept V wanted e p f f1 f2 f3 other passes same a o b l c =
      c ∙ ap (λ x. behind f2 (flaw_if x broken.Limit e.start)) l
      ∙ ap (λ x. behind x (flaw_if (passes_limits p) broken.Limit e.start))
      (b ∙ ap (λ x. behind f1 (flaw_if x broken.Kind e.start)) o
      ∙ ap (λ x. behind x (flaw_if (is_of_other_kind V wanted p) broken.Kind e.start)) a)
      ∙ sym (two f (unknown_names (is_among (variable_names V)) p) (flaw_if (is_of_other_kind V wanted p) broken.Kind e.start)
      (flaw_if (passes_limits p) broken.Limit e.start))
      ∙ ap (λ q. behind f
      (unknown_names (is_among (variable_names V)) q ++ (flaw_if (is_of_other_kind V wanted q) broken.Kind e.start ++ flaw_if
      (passes_limits q) broken.Limit e.start))) same

  pub variable_steps : VariableStep behind
  variable_steps names all at outputs x f e =
      sym (three f (flaw_if (is_repeated names at x.named.name) broken.Repeated x.named.at) (flaw_if (is_full variable_limit at) broken.Limit x.named.at)
      (flaw_if (is_output x.role && is_full output_limit outputs) broken.Limit x.named.at)
      (variable_flaws names (at + 1) (one_more_if (is_output x.role) outputs) (drop (at + 1) all)))
      ∙ ap (λ q. behind f (variable_flaws names at outputs q)) (sym (drop_is all at x e))

  pub all_variables_over : VariablesOver behind
  all_variables_over names all at outputs f le = ap (λ q. behind f (variable_flaws names at outputs q)) (drop_past all at le) ∙ empty f
