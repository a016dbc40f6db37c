-- The rules in order, and what the lower ones give.
use Rattle.std.proofs.Common.{ℕ, zero, suc, ◌≡◌, ◌<◌, ◌+◌, ◌-◌, ◌⊎◌, inl, inr, List, [], ◌∷◌, get_or, refl, sym, ◌∙◌, ap, subst, arith}
use Rattle.sc_graph.specs.declared.place.Place.{Place}
use Rattle.sc_graph.specs.declared.tables.Tables.{Tables}
use Rattle.sc_graph.specs.Program.{Program}
use Rattle.sc_graph.specs.Valid.{IsValid, IsFormed}
use Rattle.sc_graph.specs.Size.{SizeAt}
use Rattle.sc_graph.specs.Codes.{CodeAt}
use Rattle.verifier.specs.declared.rule.Rule.{Rule}
use Rattle.verifier.specs.declared.rule.Rule.TheVariants as rule
use Rattle.verifier.specs.Verdict.{KeptAt, KeepsBelow, fault_number}

abbrev pub rules_in_order : List Rule
rules_in_order = rule.Size ∷ rule.Structure ∷ rule.Code ∷ rule.Assignment ∷ rule.EndBit
    ∷ rule.NoConflict ∷ rule.Flow ∷ rule.Protocol ∷ rule.Weight ∷ rule.Bound ∷ []

abbrev rule_of : ℕ → Rule
rule_of number = get_or rules_in_order (number - 31) rule.Size

known : (r : Rule) → rule_of (fault_number r) ≡ r
known rule.Size = refl
known rule.Structure = refl
known rule.Code = refl
known rule.Assignment = refl
known rule.EndBit = refl
known rule.NoConflict = refl
known rule.Flow = refl
known rule.Protocol = refl
known rule.Weight = refl
known rule.Bound = refl

same_rule : (a b : Rule) → fault_number a ≡ fault_number b → a ≡ b
same_rule a b e = sym (known a) ∙ ap rule_of e ∙ known b

pub number_of : (i : ℕ) (r : Rule) → i < 10 → fault_number (get_or rules_in_order i r) ≡ 31 + i
number_of zero r lt = refl
number_of (suc zero) r lt = refl
number_of (suc (suc zero)) r lt = refl
number_of (suc (suc (suc zero))) r lt = refl
number_of (suc (suc (suc (suc zero)))) r lt = refl
number_of (suc (suc (suc (suc (suc zero))))) r lt = refl
number_of (suc (suc (suc (suc (suc (suc zero)))))) r lt = refl
number_of (suc (suc (suc (suc (suc (suc (suc zero))))))) r lt = refl
number_of (suc (suc (suc (suc (suc (suc (suc (suc zero)))))))) r lt = refl
number_of (suc (suc (suc (suc (suc (suc (suc (suc (suc zero))))))))) r lt = refl
number_of (suc (suc (suc (suc (suc (suc (suc (suc (suc (suc i)))))))))) r lt = absurd (omega (arith, lt))

less_or_same : (a b : ℕ) → a < b + 1 → (a < b) ⊎ (a ≡ b)
less_or_same a b lt = grind arith

pub keeps_next : (p : Program) (q : Tables) (number : ℕ) (r : Rule) → fault_number r ≡ number → KeepsBelow p q number → ((at : Place) → KeptAt r p q at)
    → KeepsBelow p q (number + 1)
keeps_next p q number r e below kept lower lt = elim (less_or_same (fault_number lower) number lt) [
  | inl less ↦ below lower less
  | inr same ↦ (let P : Rule → Type 0 = λ s. (at : Place) → KeptAt s p q at in subst P (same_rule r lower (e ∙ sym same)) kept)
]

pub keeps_none : (p : Program) (q : Tables) → KeepsBelow p q 31
keeps_none p q rule.Size lt = absurd (omega (arith, lt))
keeps_none p q rule.Structure lt = absurd (omega (arith, lt))
keeps_none p q rule.Code lt = absurd (omega (arith, lt))
keeps_none p q rule.Assignment lt = absurd (omega (arith, lt))
keeps_none p q rule.EndBit lt = absurd (omega (arith, lt))
keeps_none p q rule.NoConflict lt = absurd (omega (arith, lt))
keeps_none p q rule.Flow lt = absurd (omega (arith, lt))
keeps_none p q rule.Protocol lt = absurd (omega (arith, lt))
keeps_none p q rule.Weight lt = absurd (omega (arith, lt))
keeps_none p q rule.Bound lt = absurd (omega (arith, lt))

pub valid_from : (p : Program) (q : Tables) → KeepsBelow p q 41 → IsValid p q
valid_from p q h = record {
  size = h rule.Size (omega arith);
  structure = h rule.Structure (omega arith);
  code = h rule.Code (omega arith);
  assignment = h rule.Assignment (omega arith);
  end_bit = h rule.EndBit (omega arith);
  no_conflict = h rule.NoConflict (omega arith);
  flow = h rule.Flow (omega arith);
  protocol = h rule.Protocol (omega arith);
  weight = h rule.Weight (omega arith);
  bound = h rule.Bound (omega arith);
}

pub kept_of_valid : (p : Program) (q : Tables) → IsValid p q → (r : Rule) (at : Place) → KeptAt r p q at
kept_of_valid p q v rule.Size = v.size
kept_of_valid p q v rule.Structure = v.structure
kept_of_valid p q v rule.Code = v.code
kept_of_valid p q v rule.Assignment = v.assignment
kept_of_valid p q v rule.EndBit = v.end_bit
kept_of_valid p q v rule.NoConflict = v.no_conflict
kept_of_valid p q v rule.Flow = v.flow
kept_of_valid p q v rule.Protocol = v.protocol
kept_of_valid p q v rule.Weight = v.weight
kept_of_valid p q v rule.Bound = v.bound

pub formed_from : (p : Program) (q : Tables) (r : Rule) (number : ℕ) → fault_number r ≡ number → 32 < number → KeepsBelow p q (fault_number r) → IsFormed p
formed_from p q r number e lt h = record {
  size = λ at. (h rule.Size (omega (arith, e, lt)) at).0;
  structure = h rule.Structure (omega (arith, e, lt));
}

pub sizes_from : (p : Program) (q : Tables) (r : Rule) (number : ℕ) → fault_number r ≡ number → 31 < number → KeepsBelow p q (fault_number r) → (at : Place)
    → SizeAt p q at
sizes_from p q r number e lt h = h rule.Size (omega (arith, e, lt))

pub codes_from : (p : Program) (q : Tables) (r : Rule) (number : ℕ) → fault_number r ≡ number → 33 < number → KeepsBelow p q (fault_number r) → (at : Place)
    → CodeAt p at
codes_from p q r number e lt h = h rule.Code (omega (arith, e, lt))
