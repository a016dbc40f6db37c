-- A text of which all uses stand for what they do, one round after the other.
use Rattle.std.proofs.Common.{◌≡◌, ℕ, zero, suc, ◌+◌, ◌-◌, ◌<◌, ◌≤◌, Bool, true, false, List, [], ◌∷◌, ◌++◌, length, refl, sym, ◌∙◌, ap, arith, codes}
use Rattle.std.specs.Prelude.{◌&&◌, if◌then◌else◌}
use Rattle.std.proofs.lemmas.List.{append_assoc}
use Rattle.sc_text.specs.declared.token.Token.{Token}
use Rattle.sc_text.specs.declared.read_fault.ReadFault.{ReadFault}
use Rattle.sc_text.specs.declared.read_fault.ReadFault.TheVariants as fault
use Rattle.extended_reader.specs.Answer.{Answer, Good, Bad, next, Tells}
use Rattle.extended_reader.specs.Words.{begins, is_end}
use Rattle.extended_reader.specs.Uses.{Made, Stand, size_of, next_use, in_front, used}
use Rattle.extended_reader.specs.Inside.Modules.{Gone, gone, whole_of, IsRound, IsTokenRound, IsStop}

append_none : {X : Type 0} (xs : List X) → xs ++ [] ≡ xs
append_none [] = refl
append_none (x ∷ xs) = ap (λ ys. x ∷ ys) (append_none xs)

never : (b : Bool) → (b && false) ≡ true → ⊥
never true h = cc
never false h = cc

front_twice : (m n : Made) (a : Answer Made) → in_front m (in_front n a) ≡ in_front (m.0 ++ n.0, m.1 ++ n.1) a
front_twice m n (Good r) =
    sym (ap (λ x. Good (x, (m.1 ++ n.1) ++ r.1)) (append_assoc m.0 n.0 r.0) ∙ ap (λ x. Good (m.0 ++ (n.0 ++ r.0), x)) (append_assoc m.1 n.1 r.1))
front_twice m n (Bad b at) = refl

front_none : (a : Answer Made) → in_front ([], []) a ≡ a
front_none (Good r) = refl
front_none (Bad b at) = refl

module _ (stand : Stand) (end : ℕ) where
  abbrev by_use : ℕ → ℕ → List Token → Answer Made
  by_use rounds made text = next (next_use stand end made text) (λ u. in_front u.0 (used stand end rounds (made + size_of u.0) true u.1))

  abbrev by_token : ℕ → ℕ → Token → List Token → Answer Made
  by_token rounds made t text = in_front ([], t ∷ []) (used stand end rounds made (is_end t.kind) text)

  none_left : (rounds made : ℕ) (may : Bool) → used stand end rounds made may [] ≡ Good ([], [])
  none_left zero made may = refl
  none_left (suc rounds) made may = refl

  is_token : (rounds made : ℕ) (may : Bool) (t : Token) (text : List Token) → (may && begins (codes "use") (t ∷ text)) ≡ false
      → used stand end (suc rounds) made may (t ∷ text) ≡ by_token rounds made t text
  is_token rounds made may t text e = ap (λ b. if b then by_use rounds made (t ∷ text) else by_token rounds made t text) e

  is_use : (rounds made : ℕ) (may : Bool) (text : List Token) → (may && begins (codes "use") text) ≡ true
      → used stand end (suc rounds) made may text ≡ by_use rounds made text
  is_use rounds made may [] e = absurd (never may e)
  is_use rounds made may (t ∷ text) e = ap (λ b. if b then by_use rounds made (t ∷ text) else by_token rounds made t text) e

  module _ (items out text : List Token) (may : Bool) (made : ℕ) where
    abbrev old : Gone
    old = gone items out text may made

    one_token : (t : Token) (rest : List Token) → text ≡ t ∷ rest → (may && begins (codes "use") text) ≡ false → (rounds : ℕ)
        → in_front (items, out ++ t ∷ []) (used stand end rounds made (is_end t.kind) rest) ≡ whole_of stand end old (suc rounds)
    one_token t rest is other rounds =
        ap (λ x. in_front (x, out ++ t ∷ []) (used stand end rounds made (is_end t.kind) rest)) (sym (append_none items))
        ∙ sym (front_twice (items, out) ([], t ∷ []) (used stand end rounds made (is_end t.kind) rest))
        ∙ sym (ap (in_front (items, out)) (is_token rounds made may t rest (sym (ap (λ x. may && begins (codes "use") x) is) ∙ other)))
        ∙ ap (λ x. in_front (items, out) (used stand end (suc rounds) made may x)) (sym is)

    pub token_goes : (t : Token) (rest new_out new_left : List Token) (new_may : Bool) (new_made : ℕ) → text ≡ t ∷ rest
        → (may && begins (codes "use") text) ≡ false → new_out ≡ out ++ t ∷ [] → new_left ≡ rest → new_may ≡ is_end t.kind → new_made ≡ made
        → IsRound stand end old (gone items new_out new_left new_may new_made)
    token_goes t rest new_out new_left new_may new_made is other o l m n =
        record {
          goes = λ rounds. ap (λ x. in_front (items, x) (used stand end rounds new_made new_may new_left)) o
              ∙ ap (λ x. in_front (items, out ++ t ∷ []) (used stand end rounds new_made new_may x)) l
              ∙ ap (λ x. in_front (items, out ++ t ∷ []) (used stand end rounds new_made x rest)) m
              ∙ ap (λ x. in_front (items, out ++ t ∷ []) (used stand end rounds x (is_end t.kind) rest)) n
              ∙ one_token t rest is other rounds;
        }

    pub none_goes : text ≡ [] → IsRound stand end old old
    none_goes is =
        record {
          goes = λ rounds. ap (λ x. in_front (items, out) (used stand end rounds made may x)) is
              ∙ ap (in_front (items, out)) (none_left rounds made may ∙ sym (none_left (suc rounds) made may))
              ∙ ap (λ x. in_front (items, out) (used stand end (suc rounds) made may x)) (sym is);
        }

    module _ (begun : (may && begins (codes "use") text) ≡ true) where
      pub use_round : (more regions rest new_items new_out new_left : List Token) (new_may : Bool) (new_made : ℕ)
          → next_use stand end made text ≡ Good ((more, regions), rest) → new_items ≡ items ++ more → new_out ≡ out ++ regions → new_left ≡ rest
          → new_may ≡ true → new_made ≡ made + (length more + length regions)
          → IsRound stand end old (gone new_items new_out new_left new_may new_made)
      use_round more regions rest new_items new_out new_left new_may new_made good i o l m n =
          record {
            goes = λ rounds. ap (λ x. in_front (x, new_out) (used stand end rounds new_made new_may new_left)) i
                ∙ ap (λ x. in_front (items ++ more, x) (used stand end rounds new_made new_may new_left)) o
                ∙ ap (λ x. in_front (items ++ more, out ++ regions) (used stand end rounds new_made new_may x)) l
                ∙ ap (λ x. in_front (items ++ more, out ++ regions) (used stand end rounds new_made x rest)) m
                ∙ ap (λ x. in_front (items ++ more, out ++ regions) (used stand end rounds x true rest)) n
                ∙ sym (front_twice (items, out) (more, regions) (used stand end rounds (made + (length more + length regions)) true rest))
                ∙ sym (ap (λ x. in_front (items, out) (next x (λ u. in_front u.0 (used stand end rounds (made + size_of u.0) true u.1)))) good)
                ∙ sym (ap (in_front (items, out)) (is_use rounds made may text begun));
          }

      pub use_stops : (f : ReadFault) → Tells (next_use stand end made text) f → IsStop stand end old f
      use_stops (fault.Text b at) t =
          record {
            tells = λ rounds. ap (in_front (items, out)) (is_use rounds made may text begun)
                ∙ ap (λ x. in_front (items, out) (next x (λ u. in_front u.0 (used stand end rounds (made + size_of u.0) true u.1)))) t;
          }
      use_stops fault.Memory t = record { tells = λ rounds. tt }

  -- ---- the loop

  pub first_round : (text : List Token) (rounds count : ℕ) → count ≡ rounds
      → whole_of stand end (gone [] [] text true 0) count ≡ used stand end rounds 0 true text
  first_round text rounds count e = ap (λ n. whole_of stand end (gone [] [] text true 0) n) e ∙ front_none (used stand end rounds 0 true text)

  module _ (g : Gone) (whole : Answer Made) (most count : ℕ) (is : whole_of stand end g (most - count) ≡ whole) where
    pub last_round : most ≤ count → whole ≡ Good (g.items, g.out)
    last_round le =
        let over : most - count ≡ 0 = omega (arith, le) in
        sym is ∙ ap (whole_of stand end g) over ∙ ap (λ x. Good (x, g.out ++ [])) (append_none g.items) ∙ ap (λ x. Good (g.items, x)) (append_none g.out)

    less : count < most → most - count ≡ suc (most - (count + 1))
    less lt = omega (arith, lt)

    pub next_round : (new : Gone) → count < most → IsRound stand end g new → whole_of stand end new (most - (count + 1)) ≡ whole
    next_round new lt r = r.goes (most - (count + 1)) ∙ sym (ap (whole_of stand end g) (less lt)) ∙ is

    pub stopped : (f : ReadFault) → count < most → IsStop stand end g f → Tells whole f
    stopped (fault.Text b at) lt s = sym is ∙ ap (whole_of stand end g) (less lt) ∙ s.tells (most - (count + 1))
    stopped fault.Memory lt s = tt

pub memory_stops : (stand : Stand) (end : ℕ) (g : Gone) (f : ReadFault) → f ≡ fault.Memory → IsStop stand end g f
memory_stops stand end g (fault.Text b at) e = absurd (cc)
memory_stops stand end g fault.Memory e = record { tells = λ rounds. tt }

pub for_site : (stand : Stand) (end : ℕ) (before behind : Gone) → IsTokenRound before behind → IsRound stand end before behind
for_site stand end before behind r = r.of_all stand end

pub token_round : (items out text : List Token) (may : Bool) (made : ℕ) (t : Token) (rest new_out new_left : List Token) (new_may : Bool) (new_made : ℕ)
    → text ≡ t ∷ rest → (may && begins (codes "use") text) ≡ false → new_out ≡ out ++ t ∷ [] → new_left ≡ rest → new_may ≡ is_end t.kind → new_made ≡ made
    → IsTokenRound (gone items out text may made) (gone items new_out new_left new_may new_made)
token_round items out text may made t rest new_out new_left new_may new_made is other o l m n =
    record { of_all = λ stand end. token_goes stand end items out text may made t rest new_out new_left new_may new_made is other o l m n }

pub none_round : (items out text : List Token) (may : Bool) (made : ℕ) → text ≡ [] → IsTokenRound (gone items out text may made) (gone items out text may made)
none_round items out text may made is = record { of_all = λ stand end. none_goes stand end items out text may made is }
