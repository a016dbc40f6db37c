-- What follows of what is good, and of a fault.
use Rattle.std.proofs.Common.{◌≡◌, ℕ, ◌+◌, Bool, true, false, List, ◌∷◌, ◌++◌, [], drop, length, refl, sym, ◌∙◌, ap}
use Rattle.std.specs.Prelude.{nat_le, if◌then◌else◌}
use Rattle.grammar.specs.Read.{Outcome, read}
use Rattle.sc_text.specs.declared.token.Token.{Token}
use Rattle.sc_text.specs.declared.read_fault.FaultKind.TheVariants as broken
use Rattle.sc_text.specs.declared.read_fault.ReadFault.{ReadFault}
use Rattle.sc_text.specs.declared.read_fault.ReadFault.TheVariants as fault
use Rattle.sc_text.specs.Reading.{Stops, place_of}
use Rattle.chart_reader.specs.Phrase.{Gives}
use Rattle.extended_reader.specs.declared.modules.parts.ModuleUse.{ModuleUse}
use Rattle.extended_reader.specs.declared.modules.parts.ModuleHead.{ModuleHead}
use Rattle.extended_reader.specs.declared.modules.parts.Module.{Module}
use Rattle.extended_reader.specs.Answer.{Answer, Good, Bad, next, read_as, Tells}
use Rattle.extended_reader.specs.Phrases.{using, opened}
use Rattle.extended_reader.specs.Uses.{Made, Stand, made_limit, size_of, next_use}
use Rattle.extended_reader.specs.Modules.{right_head, closing, closed, next_module}

pub tells_next : {A B : Type 0} (a : Answer A) (go : A → Answer B) (f : ReadFault) → Tells a f → Tells (next a go) f
tells_next a go (fault.Text b at) t = ap (λ x. next x go) t
tells_next a go fault.Memory t = tt

pub tells_as : {A : Type 0} (a b : Answer A) (f : ReadFault) → a ≡ b → Tells b f → Tells a f
tells_as a b (fault.Text k at) e t = e ∙ t
tells_as a b fault.Memory e t = tt

unread : {A : Type 0} (end : ℕ) (o : Outcome Token A) (f : ReadFault) → Stops end o f → Tells (read_as end o) f
unread end o (fault.Text b at) s = ap (read_as end) s.is ∙ ap (λ k. Bad k (place_of end s.rest)) (sym s.breaks) ∙ ap (Bad b) (sym s.place)
unread end o fault.Memory s = tt

module _ (stand : Stand) (end made : ℕ) (text more : List Token) (d : more ≡ drop 1 text) where
  abbrev sized : ModuleUse × List Token → Made → Answer (Made × List Token)
  sized u m = if nat_le (made + size_of m) made_limit then Good (m, u.1) else Bad broken.Limit u.0.called.at

  abbrev by_use : ModuleUse × List Token → Answer (Made × List Token)
  by_use u = next (stand u.0) (sized u)

  at_more : next_use stand end made text ≡ next (read_as end (read using more)) by_use
  at_more = ap (λ x. next (read_as end (read using x)) by_use) (sym d)

  pub use_unread : (f : ReadFault) → Stops end (read using more) f → Tells (next_use stand end made text) f
  use_unread f s = tells_as _ _ f at_more (tells_next (read_as end (read using more)) by_use f (unread end (read using more) f s))

  module _ (u : ModuleUse) (rest : List Token) (g : Gives (read using more) u rest) where
    at_use : next_use stand end made text ≡ next (stand u) (sized (u, rest))
    at_use = at_more ∙ ap (λ o. next (read_as end o) by_use) g.is

    pub use_wrong : (f : ReadFault) → Tells (stand u) f → Tells (next_use stand end made text) f
    use_wrong f t = tells_as _ _ f at_use (tells_next (stand u) (sized (u, rest)) f t)

    module _ (items regions : List Token) (is : stand u ≡ Good (items, regions)) where
      pub use_large : nat_le (made + (length items + length regions)) made_limit ≡ false → next_use stand end made text ≡ Bad broken.Limit u.called.at
      use_large e = at_use ∙ ap (λ a. next a (sized (u, rest))) is ∙ ap (λ b. if b then Good ((items, regions), rest) else Bad broken.Limit u.called.at) e

      pub use_made : nat_le (made + (length items + length regions)) made_limit ≡ true → next_use stand end made text ≡ Good ((items, regions), rest)
      use_made e = at_use ∙ ap (λ a. next a (sized (u, rest))) is ∙ ap (λ b. if b then Good ((items, regions), rest) else Bad broken.Limit u.called.at) e

module _ (end : ℕ) (modules : List Module) (text more : List Token) (d : more ≡ drop 1 text) where
  abbrev by_head : ModuleHead × List Token → Answer (Module × List Token)
  by_head h = next (right_head modules h.0) (λ _. closed end modules h.0 h.1 (closing 0 0 h.1))

  with_more : next_module end modules text ≡ next (read_as end (read opened more)) by_head
  with_more = ap (λ x. next (read_as end (read opened x)) by_head) (sym d)

  pub head_unread : (f : ReadFault) → Stops end (read opened more) f → Tells (next_module end modules text) f
  head_unread f s = tells_as _ _ f with_more (tells_next (read_as end (read opened more)) by_head f (unread end (read opened more) f s))

  module _ (h : ModuleHead) (rest : List Token) (g : Gives (read opened more) h rest) where
    at_head : next_module end modules text ≡ next (right_head modules h) (λ _. closed end modules h rest (closing 0 0 rest))
    at_head = with_more ∙ ap (λ o. next (read_as end o) by_head) g.is

    pub head_wrong : (f : ReadFault) → Tells (right_head modules h) f → Tells (next_module end modules text) f
    head_wrong f t = tells_as _ _ f at_head (tells_next (right_head modules h) (λ _. closed end modules h rest (closing 0 0 rest)) f t)

    module _ (is : right_head modules h ≡ Good tt) where
      at_body : next_module end modules text ≡ closed end modules h rest (closing 0 0 rest)
      at_body = at_head ∙ ap (λ a. next a (λ _. closed end modules h rest (closing 0 0 rest))) is

      pub body_wrong : (f : ReadFault) → Tells (closed end modules h rest (closing 0 0 rest)) f → Tells (next_module end modules text) f
      body_wrong f t = tells_as _ _ f at_body t

      pub module_read : (m : Module × List Token) → closed end modules h rest (closing 0 0 rest) ≡ Good m → next_module end modules text ≡ Good m
      module_read m e = at_body ∙ e
