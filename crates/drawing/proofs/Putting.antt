-- Texts that are put together.
use Rattle.std.proofs.Common.{◌≡◌, ℕ, suc, ◌+◌, ◌<◌, nat_lt, Bool, true, false, Result, IfOk, List, [], ◌∷◌, ◌++◌}
use Rattle.std.proofs.Common.{codes, string_bytes, drop, length, get_or, subst, ap, sym, ◌∙◌, append_assoc, add-one, drop-cons}
use Rattle.std.proofs.lemmas.List.{append-nil}
use Rattle.std.proofs.lemmas.Result.{IfOk-weaker}
use Rattle.sc_values.specs.declared.expression.Expr.{Expr}
use Rattle.drawing.specs.declared.symbols.Symbol.{Symbol}
use Rattle.drawing.specs.declared.text.Text.{Text}
use Rattle.drawing.specs.Expressions.{Written, enclosed_if, operand, sparing_text, written}
use Rattle.drawing.specs.Inside.Puts.{IsWhole, Puts, when}

-- ---- one piece behind another

pub follows : (a b c : Text) (s t : List ℕ) → Puts a b s → Puts b c t → Puts a c (s ++ t)
follows a b c s t f g = record {
  fine = λ h. f.fine (g.fine h);
  is = λ h. g.is h ∙ ap (λ xs. xs ++ t) (f.is (g.fine h)) ∙ append_assoc (string_bytes a.text) s t;
}

pub nothing : (a : Text) → Puts a a []
nothing a = record { fine = λ h. h; is = λ h. sym (append-nil (string_bytes a.text)) }

pub put_as : (a b : Text) (s t : List ℕ) → s ≡ t → Puts a b s → Puts a b t
put_as a b s t e h = let At : List ℕ → Type 0 = λ xs. Puts a b xs in subst At e h

-- ---- a whole text

begun : (a b : Text) (t : List ℕ) → string_bytes a.text ≡ [] → Puts a b t → b.is_refused ≡ false → string_bytes b.text ≡ t
begun a b t none put fine = put.is fine ∙ ap (λ xs. xs ++ t) none

pub finished : {S E : Type 0} (bytes : S → List ℕ) (r : Result S E) (a b : Text) (t : List ℕ) →
    string_bytes a.text ≡ [] → Puts a b t → IfOk r (λ s. IsWhole b (bytes s)) → IfOk r (λ s. bytes s ≡ t)
finished bytes r a b t none put =
    IfOk-weaker r (λ s. IsWhole b (bytes s)) (λ s. bytes s ≡ t) (λ s whole. whole.is ∙ begun a b t none put whole.fine)

-- ---- operands

enclosed : (w x y z : Text) (n : ℕ) (e : Written) (within : Bool) → within ≡ nat_lt e.level n →
    Puts w x (when within (codes "(")) → Puts x y e.text → Puts y z (when within (codes ")")) → Puts w z (operand n e)
enclosed w x y z n e true is p q r =
    put_as w z _ _ (ap (λ b. enclosed_if b e.text) is) (follows w x z _ _ p (follows x y z _ _ q r))
enclosed w x y z n e false is p q r =
    put_as w z _ _ (append-nil e.text ∙ ap (λ b. enclosed_if b e.text) is) (follows w x z [] _ p (follows x y z _ _ q r))

pub put_operand : (w x y z : Text) (symbols : List Symbol) (m n : ℕ) (a b : Expr) (within : Bool) → m ≡ n → a ≡ b →
    within ≡ nat_lt (written symbols a).level m → Puts w x (when within (codes "(")) → Puts x y (sparing_text symbols a) →
    Puts y z (when within (codes ")")) → Puts w z (operand n (written symbols b))
put_operand w x y z symbols m n a b within level_is is within_is p q r =
    put_as w z _ _ (ap (λ k. operand k (written symbols a)) level_is ∙ ap (λ e. operand n (written symbols e)) is)
    (enclosed w x y z m (written symbols a) within within_is p q r)

-- ---- lists, from an index on

pub split_at : {A : Type 0} (xs : List A) (i : ℕ) (x : A) → i < length xs → x ≡ get_or xs i x → drop i xs ≡ x ∷ drop (i + 1) xs
split_at xs i x lt is = rw add-one (drop-cons xs i x lt ∙ ap (λ y. y ∷ drop (suc i) xs) (sym is))

-- ---- the words of a transition

pub opened_words : (number kind immediate rest : List ℕ) →
    (codes "  " ++ (number ++ (codes ":" ++ (kind ++ immediate)))) ++ rest ≡ codes "  " ++ (number ++ (codes ":" ++ (kind ++ (immediate ++ rest))))
opened_words number kind immediate rest =
    ap (λ xs. codes "  " ++ xs)
    (append_assoc number (codes ":" ++ (kind ++ immediate)) rest
    ∙ ap (λ xs. number ++ (codes ":" ++ xs)) (append_assoc kind immediate rest))
