-- The classes by which the grammars tell tokens apart.
use Rattle.std.specs.Prelude.{◌≡◌, ◌↔◌, suc, pos, Bool, false, true, IsTrue, codes, refl}
use Rattle.std.proofs.Common.{subst, sym, ap}
use denote.Enum.Bare.{same_true, true_same}
use Rattle.sc_text.specs.declared.word.Word.{Word}
use Rattle.sc_text.specs.declared.sign.Sign.{Sign}
use Rattle.sc_text.specs.declared.token.TokenKind.{TokenKind}
use Rattle.sc_text.specs.declared.token.TokenKind.TheVariants as kind
use Rattle.sc_text.specs.contracts.word.WordPartialEq.TheImpl as word
use Rattle.sc_text.specs.contracts.sign.SignPartialEq.TheImpl as sign
use Rattle.sc_text.specs.contracts.word.Word as a_word
use Rattle.sc_text.specs.contracts.sign.Sign as a_sign

pub data Class : Type 0 where
  AName : Class
  -- the number 0, and those above it
  Zero : Class
  Number : Class
  TheWord : Word → Class
  TheSign : Sign → Class

abbrev pub class_of : TokenKind → Class
class_of (kind.Name name) = AName
class_of (kind.Number (pos (suc n))) = Number
class_of (kind.Number n) = Zero
class_of (kind.Word w) = TheWord w
class_of (kind.Sign s) = TheSign s

abbrev pub same_class : Class → Class → Bool
same_class AName AName = true
same_class Zero Zero = true
same_class Number Number = true
same_class (TheWord v) (TheWord w) = word.eq-value.it v w
same_class (TheSign r) (TheSign s) = sign.eq-value.it r s
same_class c d = false

-- a kind of each class
abbrev pub sample_kind : Class → TokenKind
sample_kind AName = kind.Name (codes "x")
sample_kind Zero = kind.Number (pos 0)
sample_kind Number = kind.Number (pos 1)
sample_kind (TheWord w) = kind.Word w
sample_kind (TheSign s) = kind.Sign s

-- ---- `same_class` decides whether two classes are one

abbrev is_so : Bool → Type 0
is_so true = Unit {0}
is_so false = ⊥

never : IsTrue false → ⊥
never h = subst is_so (sym h) tt

one_class : (c d : Class) → IsTrue (same_class c d) → c ≡ d
one_class AName AName h = refl
one_class AName Zero h = absurd (never h)
one_class AName Number h = absurd (never h)
one_class AName (TheWord w) h = absurd (never h)
one_class AName (TheSign s) h = absurd (never h)
one_class Zero AName h = absurd (never h)
one_class Zero Zero h = refl
one_class Zero Number h = absurd (never h)
one_class Zero (TheWord w) h = absurd (never h)
one_class Zero (TheSign s) h = absurd (never h)
one_class Number AName h = absurd (never h)
one_class Number Zero h = absurd (never h)
one_class Number Number h = refl
one_class Number (TheWord w) h = absurd (never h)
one_class Number (TheSign s) h = absurd (never h)
one_class (TheWord v) AName h = absurd (never h)
one_class (TheWord v) Zero h = absurd (never h)
one_class (TheWord v) Number h = absurd (never h)
one_class (TheWord v) (TheWord w) h = ap TheWord (same_true a_word.the_type tt v w h)
one_class (TheWord v) (TheSign s) h = absurd (never h)
one_class (TheSign r) AName h = absurd (never h)
one_class (TheSign r) Zero h = absurd (never h)
one_class (TheSign r) Number h = absurd (never h)
one_class (TheSign r) (TheWord w) h = absurd (never h)
one_class (TheSign r) (TheSign s) h = ap TheSign (same_true a_sign.the_type tt r s h)

same_as_itself : (c : Class) → IsTrue (same_class c c)
same_as_itself AName = refl
same_as_itself Zero = refl
same_as_itself Number = refl
same_as_itself (TheWord w) = true_same a_word.the_type w w refl
same_as_itself (TheSign s) = true_same a_sign.the_type s s refl

pub class_same : (c d : Class) → IsTrue (same_class c d) ↔ (c ≡ d)
class_same c d = (one_class c d, λ e. subst (λ x. IsTrue (same_class c x)) e (same_as_itself c))

pub sampled : (c : Class) → class_of (sample_kind c) ≡ c
sampled AName = refl
sampled Zero = refl
sampled Number = refl
sampled (TheWord w) = refl
sampled (TheSign s) = refl
