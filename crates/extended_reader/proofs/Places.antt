-- A text without its block comments is as long as the text, and its lines end where those of the text do.
use Rattle.std.proofs.Common.{◌≡◌, ℕ, zero, suc, Bool, true, false, ◌==◌, if◌then◌else◌, List, [], ◌∷◌, length, get_or, refl, ap, subst, arith}
use Rattle.std.specs.Prelude.{◌↔◌}
use Rattle.std.proofs.lemmas.Bool.{eqb-true, and_parts}
use Rattle.extended_reader.specs.declared.comments.part.Part.{Part}
use Rattle.extended_reader.specs.declared.comments.part.Part.TheVariants as part
use Rattle.extended_reader.specs.Comments.{slash, star, line_feed, space, unclosed, behind, opens, opened, is_closed, shown, cleared, without_comments}

cleared_long : (p : Part) (text : List ℕ) → length (cleared p text) ≡ length text
cleared_long p [] = refl
cleared_long p (b ∷ text) = ap suc (cleared_long (behind p b) text)

-- ---- what becomes of the end of a line

is_slash : (b : ℕ) (rest : List ℕ) → opens b rest ≡ true → b ≡ slash
is_slash b [] e = absurd cc
is_slash b (c ∷ rest) e = eqb-true b slash (and_parts (b == slash) (c == star) e).0

no_feed : (c : Bool) → (if c then space else unclosed) ≡ line_feed → ⊥
no_feed true e = absurd (omega (arith, e))
no_feed false e = absurd (omega (arith, e))

-- what is chosen for a byte that ends no line ends none
chosen : (t : Bool) (b other : ℕ) → (t ≡ true → ¬ (b ≡ line_feed)) → ¬ (other ≡ line_feed)
    → ((if t then other else b) ≡ line_feed) ↔ (b ≡ line_feed)
chosen true b other unlike never = (λ e. absurd (never e), λ e. absurd (unlike refl e))
chosen false b other unlike never = (λ e. e, λ e. e)

blanked : (t : Bool) (b : ℕ) → (b == line_feed) ≡ t → ((if t then b else space) ≡ line_feed) ↔ (b ≡ line_feed)
blanked true b is = (λ e. e, λ e. e)
blanked false b is =
    (λ e. absurd (omega (arith, e)), λ e. let other : (line_feed == line_feed) ≡ false = subst (λ x. (x == line_feed) ≡ false) e is in absurd cc)

feed_shown : (p : Part) (b : ℕ) (rest : List ℕ) → (shown p b rest ≡ line_feed) ↔ (b ≡ line_feed)
feed_shown part.Plain b rest =
    chosen (opens b rest) b (opened rest) (λ t e. let s = is_slash b rest t in absurd (omega (arith, s, e))) (no_feed (is_closed part.BehindSlash rest))
feed_shown part.BehindSlash b rest =
    chosen (b == star) b space (λ t e. let s = eqb-true b star t in absurd (omega (arith, s, e))) (λ e. absurd (omega (arith, e)))
feed_shown part.Line b rest = (λ e. e, λ e. e)
feed_shown part.Block b rest = blanked (b == line_feed) b refl
feed_shown part.BehindStar b rest = blanked (b == line_feed) b refl

cleared_lines : (p : Part) (text : List ℕ) (i : ℕ) → (get_or (cleared p text) i 0 ≡ line_feed) ↔ (get_or text i 0 ≡ line_feed)
cleared_lines p [] i = (λ e. e, λ e. e)
cleared_lines p (b ∷ text) zero = feed_shown p b text
cleared_lines p (b ∷ text) (suc i) = cleared_lines (behind p b) text i

pub stays_long : (text : List ℕ) → length (without_comments text) ≡ length text
stays_long text = cleared_long part.Plain text

pub lines_stay : (text : List ℕ) (i : ℕ) → (get_or (without_comments text) i 0 ≡ line_feed) ↔ (get_or text i 0 ≡ line_feed)
lines_stay text i = cleared_lines part.Plain text i
