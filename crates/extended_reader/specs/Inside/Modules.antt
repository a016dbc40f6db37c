-- What private functions alone say of themselves. It is proved, and no public contract rests on what it means.
use Rattle.std.specs.Prelude.{ℕ, suc, ◌≡◌, Bool, List}
use Rattle.sc_text.specs.declared.token.Token.{Token}
use Rattle.sc_text.specs.declared.read_fault.ReadFault.{ReadFault}
use Rattle.extended_reader.specs.Answer.{Answer, Tells}
use Rattle.extended_reader.specs.Uses.{Made, Stand, in_front, used}

-- a text that is gone over: the items that its uses make, the text with regions in place of uses, what is left, whether a use
-- may begin there, and how many tokens were made
pub record Gone : Type 0 where
  pub items : List Token
  pub out : List Token
  pub left : List Token
  pub may_begin : Bool
  pub made : ℕ

abbrev pub gone : (items out left : List Token) → Bool → ℕ → Gone
gone items out left may_begin made = record { items = items; out = out; left = left; may_begin = may_begin; made = made }

-- the whole, where so many rounds are left
abbrev pub whole_of : Stand → ℕ → Gone → ℕ → Answer Made
whole_of stand end g rounds = in_front (g.items, g.out) (used stand end rounds g.made g.may_begin g.left)

-- one round takes the one to the other
pub record IsRound (stand : Stand) (end : ℕ) (old new : Gone) : Type 0 where
  pub goes : (rounds : ℕ) → whole_of stand end new rounds ≡ whole_of stand end old (suc rounds)

pub record IsTokenRound (old new : Gone) : Type 0 where
  pub of_all : (stand : Stand) (end : ℕ) → IsRound stand end old new

-- the whole is this fault
pub record IsStop (stand : Stand) (end : ℕ) (old : Gone) (f : ReadFault) : Type 0 where
  pub tells : (rounds : ℕ) → Tells (whole_of stand end old (suc rounds)) f
