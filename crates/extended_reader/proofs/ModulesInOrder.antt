-- The modules at the front of a text, one round after the other, and the text by its front and what stands behind.
use Rattle.std.proofs.Common.{◌≡◌, ℕ, zero, suc, ◌+◌, ◌-◌, ◌<◌, ◌≤◌, Bool, true, false, None, List, [], ◌∷◌, ◌++◌, length}
use Rattle.std.proofs.Common.{take, drop, refl, sym, ◌∙◌, ap, arith, codes}
use Rattle.std.specs.Prelude.{nat_eq, if◌then◌else◌}
use Rattle.std.specs.Cmp.{unsigned_Decides}
use Rattle.std.proofs.lemmas.List.{append_assoc}
use Rattle.sc_text.specs.declared.token.Token.{Token}
use Rattle.sc_text.specs.declared.read_fault.ReadFault.{ReadFault}
use Rattle.sc_text.specs.declared.read_fault.ReadFault.TheVariants as fault
use Rattle.extended_reader.specs.declared.modules.parts.Module.{Module}
use Rattle.extended_reader.specs.Answer.{Answer, Good, next, Tells}
use Rattle.extended_reader.specs.Words.{begins}
use Rattle.extended_reader.specs.Known.{known_in}
use Rattle.extended_reader.specs.Uses.{Made, stands_for, used}
use Rattle.extended_reader.specs.Well.{well_text}
use Rattle.extended_reader.specs.Modules.{semicolon, next_module, all_modules, module_place, put_together, plain_text}
use Rattle.extended_reader.proofs.Nexts.{tells_next, tells_as}

abbrev All : Type 0
All = List Module × List Token

module _ (end : ℕ) (modules : List Module) (text : List Token) where
  abbrev by_module : ℕ → Answer All
  by_module left = next (next_module end modules text) (λ m. all_modules end left (modules ++ m.0 ∷ []) m.1)

  begun : (left : ℕ) → begins (codes "module") text ≡ true → all_modules end (suc left) modules text ≡ by_module left
  begun left e = ap (λ b. if b then by_module left else Good (modules, text)) e

  none_begun : (left : ℕ) → begins (codes "module") text ≡ false → all_modules end left modules text ≡ Good (modules, text)
  none_begun zero e = refl
  none_begun (suc left) e = ap (λ b. if b then by_module left else Good (modules, text)) e

  module _ (most count : ℕ) (whole : Answer All) (is : all_modules end (most - count) modules text ≡ whole) where
    less : count < most → most - count ≡ suc (most - (count + 1))
    less lt = omega (arith, lt)

    goes : count < most → begins (codes "module") text ≡ true → by_module (most - (count + 1)) ≡ whole
    goes lt e = sym (begun (most - (count + 1)) e) ∙ sym (ap (λ n. all_modules end n modules text) (less lt)) ∙ is

    pub modules_go : (m : Module) (new : List Module) (rest : List Token) → count < most → begins (codes "module") text ≡ true
        → next_module end modules text ≡ Good (m, rest) → new ≡ modules ++ m ∷ [] → all_modules end (most - (count + 1)) new rest ≡ whole
    modules_go m new rest lt e good is_new =
        ap (λ x. all_modules end (most - (count + 1)) x rest) is_new
        ∙ sym (ap (λ x. next x (λ m. all_modules end (most - (count + 1)) (modules ++ m.0 ∷ []) m.1)) good) ∙ goes lt e

    pub modules_stop : (f : ReadFault) → count < most → begins (codes "module") text ≡ true → Tells (next_module end modules text) f → Tells whole f
    modules_stop (fault.Text b at) lt e t =
        sym (goes lt e) ∙ ap (λ x. next x (λ m. all_modules end (most - (count + 1)) (modules ++ m.0 ∷ []) m.1)) t
    modules_stop fault.Memory lt e t = tt

    pub modules_end : begins (codes "module") text ≡ false → whole ≡ Good (modules, text)
    modules_end e = sym is ∙ none_begun (most - count) e

-- ---- the text behind its front

module _ (end : ℕ) (front text : List Token) where
  abbrev uses_in : All → Answer Made
  uses_in all = used (stands_for all.0 (known_in semicolon semicolon front) None) end (length all.1) 0 true all.1

  abbrev by_modules : All → Answer (List Token)
  by_modules all = next (uses_in all) (λ made. well_text end (front ++ (made.0 ++ made.1)))

  pub modules_wrong : (f : ReadFault) → Tells (all_modules end (length text) [] text) f → Tells (put_together end front text) f
  modules_wrong f t = tells_next (all_modules end (length text) [] text) by_modules f t

  module _ (modules : List Module) (rest : List Token) (all : all_modules end (length text) [] text ≡ Good (modules, rest)) where
    at_uses : put_together end front text ≡ by_modules (modules, rest)
    at_uses = ap (λ x. next x by_modules) all

    pub uses_wrong : (f : ReadFault) → Tells (used (stands_for modules (known_in semicolon semicolon front) None) end (length rest) 0 true rest) f
        → Tells (put_together end front text) f
    uses_wrong f t =
        tells_as (put_together end front text) (by_modules (modules, rest)) f at_uses
        (tells_next (uses_in (modules, rest)) (λ made. well_text end (front ++ (made.0 ++ made.1))) f t)

    module _ (items regions all_of_it : List Token)
        (is : used (stands_for modules (known_in semicolon semicolon front) None) end (length rest) 0 true rest ≡ Good (items, regions))
        (sum : all_of_it ≡ (front ++ items) ++ regions) where
      at_text : put_together end front text ≡ well_text end all_of_it
      at_text =
          at_uses ∙ ap (λ x. next x (λ made. well_text end (front ++ (made.0 ++ made.1)))) is
          ∙ ap (well_text end) (sym (sum ∙ append_assoc front items regions))

      pub text_put : (plain : List Token) → well_text end all_of_it ≡ Good plain → put_together end front text ≡ Good plain
      text_put plain e = at_text ∙ e

      pub text_wrong : (f : ReadFault) → Tells (well_text end all_of_it) f → Tells (put_together end front text) f
      text_wrong f t = tells_as (put_together end front text) (well_text end all_of_it) f at_text t

-- ---- the whole text

module _ (end : ℕ) (text : List Token) where
  pub stays : module_place false text ≡ length text → plain_text end text ≡ Good text
  stays e =
      ap (λ b. if b then Good text else put_together end (take (module_place false text) text) (drop (module_place false text) text))
      ((unsigned_Decides (module_place false text) (length text)).1 e)

  differ : (b : Bool) → nat_eq (module_place false text) (length text) ≡ b → (module_place false text ≡ length text → ⊥) → b ≡ false
  differ false e wrong = refl
  differ true e wrong = absurd (wrong ((unsigned_Decides (module_place false text) (length text)).0 e))

  module _ (front rest : List Token) (f : front ≡ take (module_place false text) text) (r : rest ≡ drop (module_place false text) text)
      (wrong : module_place false text ≡ length text → ⊥) where
    put : plain_text end text ≡ put_together end front rest
    put =
        ap (λ b. if b then Good text else put_together end (take (module_place false text) text) (drop (module_place false text) text))
        (differ (nat_eq (module_place false text) (length text)) refl wrong)
        ∙ sym (ap (put_together end front) r ∙ ap (λ x. put_together end x (drop (module_place false text) text)) f)

    pub put_good : (plain : List Token) → put_together end front rest ≡ Good plain → plain_text end text ≡ Good plain
    put_good plain e = put ∙ e

    pub put_wrong : (g : ReadFault) → Tells (put_together end front rest) g → Tells (plain_text end text) g
    put_wrong (fault.Text b at) t = put ∙ t
    put_wrong fault.Memory t = tt
