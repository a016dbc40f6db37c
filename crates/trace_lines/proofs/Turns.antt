-- The members of an object, a turn at a time, as data.
use Rattle.std.proofs.Common.{◌≡◌, ℕ, ◌-◌, ◌<◌, ◌≤◌, List, [], length, Option, Some, None, option_map, refl, ap, ◌∙◌}
use Rattle.std.specs.Prelude.{option_and_then}
use Rattle.json.specs.Token.{Token}
use Rattle.json.specs.Json as json
use Rattle.json.specs.Json.{Parse, parse_map, read_key}
use Rattle.json.proofs.Grammar.{members_end, members_more}
use Rattle.serde_json.specs.Data.{Data, object, Members, no_members, put}
use Rattle.serde_json.specs.Read.{of_json, of_members, converted}

with_member : (k : List ℕ) (j : json.Json) (d : Data) (old : Members) → of_json j ≡ Some d → (o : Option (json.Members × List Token))
    → converted (λ ms. of_members ms old) (parse_map (json.member k j) o) ≡ converted (λ ms. of_members ms (put k d old)) o
with_member k j d old e None = refl
with_member k j d old e (Some p) = rw e

module _ (p : Parse json.Json) (old : Members) where
  -- a member was read
  pub member_read : (n : ℕ) (k : List ℕ) (ts s r : List Token) (j : json.Json) (d : Data) → 0 < n → read_key ts ≡ Some (Some k, s)
      → p s ≡ Some (j, r) → of_json j ≡ Some d
      → converted (λ ms. of_members ms old) (json.members p n ts) ≡ converted (λ ms. of_members ms (put k d old)) (json.members p (n - 1) r)
  member_read n k ts s r j d some key e is = ap (converted (λ ms. of_members ms old)) (members_more p n k ts s r j some key e) ∙ with_member k j d old is _

  -- the end was read
  pub members_over : (n : ℕ) (ts r : List Token) → length ts ≤ n → read_key ts ≡ Some (None, r)
      → converted (λ ms. of_members ms old) (json.members p n ts) ≡ Some (old, r)
  members_over n ts r enough e = ap (converted (λ ms. of_members ms old)) (members_end p n ts r enough e)

abbrev pick : {A : Type 0} → A → Option A → A
pick d None = d
pick d (Some a) = a

both : {B : Type 0} (r s : List Token) (x : Option B) (b : B) → option_map {U = B × List Token} (λ y. (y, r)) x ≡ Some (b, s) → (r ≡ s) × (x ≡ Some b)
both r s None b e = absurd cc
both r s (Some y) b e = let same = ap (pick (y, r)) e in (ap (λ p. p.1) same, ap (λ p. Some p.0) same)

-- the members are all that there is
pub whole_object : (o : Option (json.Members × List Token)) (found : Members) → converted (λ ms. of_members ms no_members) o ≡ Some (found, [])
    → option_and_then of_json (option_and_then (λ p. json.if_last p.0 p.1) (parse_map json.object o)) ≡ Some (object found)
whole_object None found e = absurd cc
whole_object (Some p) found e =
    let is = both p.1 [] (of_members p.0 no_members) found e in
    ap (λ us. option_and_then of_json (json.if_last (json.object p.0) us)) is.0 ∙ ap (option_map object) is.1
