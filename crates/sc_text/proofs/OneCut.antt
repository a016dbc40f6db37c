-- A text is cut into tokens in one way: it has one list of tokens, or one first place where none stands.
use Rattle.std.proofs.Common.{◌≡◌, ℕ, ◌+◌, List, [], ◌∷◌, ◌++◌, length, refl, sym, ◌∙◌, ap, subst}
use Rattle.std.specs.Prelude.{Option, Some, None}
use Rattle.sc_text.specs.declared.token.Token.{Token}
use Rattle.sc_text.specs.declared.token.TokenKind.{TokenKind}
use Rattle.sc_text.specs.declared.language.Language.{Language}
use Rattle.sc_text.specs.declared.read_fault.FaultKind.{FaultKind}
use Rattle.sc_text.specs.declared.read_fault.FaultKind.TheVariants as broken
use Rattle.sc_text.specs.Pieces.{IsLongest, BeginsNone}
use Rattle.sc_text.specs.Tokens.{AreTokens, no_more, passes, token, IsFirstFault, no_piece, refused, behind_passed, behind_token}
use Rattle.sc_text.proofs.Faces.{no_empty}
use Rattle.sc_text.proofs.OneLongest.{one_longest, same_rest}
use Rattle.sc_text.proofs.OneMeaning.{goes_on, is_refused, meaning, spelled_means, passed_means, refused_means}

-- what comes of cutting a text
data Cut : Type 0 where
  whole : List Token → Cut
  stopped : FaultKind → ℕ → Cut

abbrev behind : ℕ → Option TokenKind → Cut → Cut
behind at None c = c
behind at (Some k) (whole tokens) = whole (record { kind = k; at = at } ∷ tokens)
behind at (Some k) (stopped b place) = stopped b place

-- cutting a text piece by piece, by what each piece means
data Cuts (l : Language) : (at : ℕ) → List ℕ → Cut → Type 0 where
  ends : (at : ℕ) → Cuts l at [] (whole [])
  goes : (at : ℕ) (piece rest : List ℕ) (m : Option TokenKind) (c : Cut) → IsLongest piece rest → meaning l piece ≡ goes_on m
      → Cuts l (at + length piece) rest c → Cuts l at (piece ++ rest) (behind at m c)
  begins_none : (at first : ℕ) (rest : List ℕ) → BeginsNone (first ∷ rest) → Cuts l at (first ∷ rest) (stopped broken.Token at)
  stops : (at : ℕ) (piece rest : List ℕ) (b : FaultKind) → IsLongest piece rest → meaning l piece ≡ is_refused b
      → Cuts l at (piece ++ rest) (stopped b at)

some_piece : (piece rest : List ℕ) → IsLongest piece rest → [] ≡ piece ++ rest → ⊥
some_piece [] rest long e = no_empty [] long.is_piece refl
some_piece (b ∷ piece) rest long e = cc

one_cut : (l : Language) (at : ℕ) (text other : List ℕ) (c d : Cut) → Cuts l at text c → Cuts l at other d → text ≡ other → c ≡ d
one_cut l at text other c d (ends a) (ends b) e = refl
one_cut l at text other c d (ends a) (goes b piece rest m f long is more) e = absurd (some_piece piece rest long e)
one_cut l at text other c d (ends a) (begins_none b first rest none) e = absurd (cc)
one_cut l at text other c d (ends a) (stops b piece rest x long is) e = absurd (some_piece piece rest long e)
one_cut l at text other c d (goes a piece rest m f long is more) (ends b) e = absurd (some_piece piece rest long (sym e))
one_cut l at text other c d (goes a p r m f long is more) (goes b q s n g other_long other_is other_more) e =
    let same : p ≡ q = one_longest p r q s e long other_long in
    let rest : r ≡ s = same_rest p r q s e same in
    let means : goes_on m ≡ goes_on n = sym is ∙ ap (meaning l) same ∙ other_is in
    let kinds : m ≡ n = cc in
    let later : f ≡ g = one_cut l (at + length p) r s f g more (subst (λ t. Cuts l (at + length t) s g) (sym same) other_more) rest in
    ap (λ t. behind at t f) kinds ∙ ap (behind at n) later
one_cut l at text other c d (goes a piece rest m f long is more) (begins_none b first tail none) e =
    absurd (none piece rest (sym e) long.is_piece)
one_cut l at text other c d (goes a p r m f long is more) (stops b q s x other_long other_is) e =
    let same : p ≡ q = one_longest p r q s e long other_long in
    let means : goes_on m ≡ is_refused x = sym is ∙ ap (meaning l) same ∙ other_is in
    absurd (cc)
one_cut l at text other c d (begins_none a first rest none) (ends b) e = absurd (cc)
one_cut l at text other c d (begins_none a first rest none) (goes b piece tail m f long is more) e =
    absurd (none piece tail e long.is_piece)
one_cut l at text other c d (begins_none a first rest none) (begins_none b second tail other_none) e = refl
one_cut l at text other c d (begins_none a first rest none) (stops b piece tail x long is) e =
    absurd (none piece tail e long.is_piece)
one_cut l at text other c d (stops a piece rest x long is) (ends b) e = absurd (some_piece piece rest long (sym e))
one_cut l at text other c d (stops a p r x long is) (goes b q s n g other_long other_is more) e =
    let same : p ≡ q = one_longest p r q s e long other_long in
    let means : is_refused x ≡ goes_on n = sym is ∙ ap (meaning l) same ∙ other_is in
    absurd (cc)
one_cut l at text other c d (stops a piece rest x long is) (begins_none b first tail none) e =
    absurd (none piece rest (sym e) long.is_piece)
one_cut l at text other c d (stops a p r x long is) (stops b q s y other_long other_is) e =
    let same : p ≡ q = one_longest p r q s e long other_long in
    let means : is_refused x ≡ is_refused y = sym is ∙ ap (meaning l) same ∙ other_is in
    let kinds : x ≡ y = cc in
    ap (λ t. stopped t at) kinds

tokens_cut : (l : Language) (at : ℕ) (text : List ℕ) (tokens : List Token) → AreTokens l at text tokens → Cuts l at text (whole tokens)
tokens_cut l at text tokens (no_more a) = ends at
tokens_cut l at text tokens (passes a piece rest more long is cut) =
    goes at piece rest None (whole tokens) long (passed_means l piece is) (tokens_cut l (at + length piece) rest tokens cut)
tokens_cut l at text tokens (token a piece rest k more long is cut) =
    goes at piece rest (Some k) (whole more) long (spelled_means l piece k long.is_piece is) (tokens_cut l (at + length piece) rest more cut)

fault_cut : (l : Language) (at : ℕ) (text : List ℕ) (b : FaultKind) (place : ℕ) → IsFirstFault l at text b place → Cuts l at text (stopped b place)
fault_cut l at text b place (no_piece a first rest none) = begins_none at first rest none
fault_cut l at text b place (refused a piece rest x long is) = stops at piece rest b long (refused_means l piece b long.is_piece is)
fault_cut l at text b place (behind_passed a piece rest x later long is cut) =
    goes at piece rest None (stopped b place) long (passed_means l piece is) (fault_cut l (at + length piece) rest b place cut)
fault_cut l at text b place (behind_token a piece rest k x later long is cut) =
    goes at piece rest (Some k) (stopped b place) long (spelled_means l piece k long.is_piece is) (fault_cut l (at + length piece) rest b place cut)

pub one_list : (l : Language) (text : List ℕ) (tokens others : List Token) → AreTokens l 0 text tokens → AreTokens l 0 text others → tokens ≡ others
one_list l text tokens others a b =
    let same : whole tokens ≡ whole others =
    one_cut l 0 text text (whole tokens) (whole others) (tokens_cut l 0 text tokens a) (tokens_cut l 0 text others b) refl in
    cc

pub no_fault : (l : Language) (text : List ℕ) (tokens : List Token) (b : FaultKind) (place : ℕ) → AreTokens l 0 text tokens → ¬ IsFirstFault l 0 text b place
no_fault l text tokens b place a f =
    let same : whole tokens ≡ stopped b place =
    one_cut l 0 text text (whole tokens) (stopped b place) (tokens_cut l 0 text tokens a) (fault_cut l 0 text b place f) refl in
    cc

pub one_fault : (l : Language) (text : List ℕ) (b c : FaultKind) (at place : ℕ) → IsFirstFault l 0 text b at → IsFirstFault l 0 text c place
    → (b ≡ c) × (at ≡ place)
one_fault l text b c at place f g =
    let same : stopped b at ≡ stopped c place =
    one_cut l 0 text text (stopped b at) (stopped c place) (fault_cut l 0 text b at f) (fault_cut l 0 text c place g) refl in
    let kinds : b ≡ c = cc in
    let places : at ≡ place = cc in
    (kinds, places)
