-- Reading one after the other, as a loop does.
use Rattle.std.proofs.Common.{◌≡◌, ℕ, suc, ◌-◌, ◌+◌, ◌≤◌, ◌<◌, List, [], ◌∷◌, ◌++◌, Result, Ok, Err, refl, sym, ap, ◌∙◌, append_assoc, arith}
use Rattle.std.proofs.lemmas.List.{append-nil}
use Rattle.bytecode.specs.declared.fault.DecodeFault.{DecodeFault}
use Rattle.bytecode.specs.declared.fault.DecodeFault.TheVariants as fault
use Rattle.bytecode.specs.Reading.{◌>>=◌, Reader, each_at}
use Rattle.bytecode.specs.Inside.Readers.{Fails}

-- what was read before, and what is still read
abbrev pub with_front : {A : Type 0} → List A → Result (List A × List ℕ) DecodeFault → Result (List A × List ℕ) DecodeFault
with_front front read = read >>= λ x. Ok (front ++ x.0, x.1)

regroup : {A : Type 0} (front : List A) (a : A) (read : Result (List A × List ℕ) DecodeFault) → with_front front (read >>= λ x. Ok (a ∷ x.0, x.1))
    ≡ with_front (front ++ a ∷ []) read
regroup {A} front a (Ok x) = ap (λ (xs : List A). Ok (xs, x.1)) (simp append_assoc)
regroup front a (Err f) = refl

pub goes_on : {A : Type 0} (read : Reader A) (front : List A) (count i : ℕ) (bytes : List ℕ) (a : A) (after : List ℕ)
    (total : Result (List A × List ℕ) DecodeFault) → i < count → read bytes ≡ Ok (a, after)
    → with_front front (each_at read (count - i) bytes) ≡ total → with_front (front ++ a ∷ []) (each_at read (count - (i + 1)) after) ≡ total
unfolding each_at
goes_on read front count i bytes a after total lt h so_far =
    let k : count - i ≡ suc (count - (i + 1)) = omega arith in
    let one : with_front front (each_at read (count - i) bytes) ≡ with_front (front ++ a ∷ []) (each_at read (count - (i + 1)) after) = rw (k, h)
    (regroup front a (each_at read (count - (i + 1)) after)) in
    sym one ∙ so_far

fails_of : {X Y : Type 0} (e : DecodeFault) (read : Result X DecodeFault) (total : Result Y DecodeFault) → ((f : DecodeFault) → read ≡ Err f → total ≡ Err f)
    → Fails e read → Fails e total
fails_of fault.Memory read total h fails = tt
fails_of fault.Short read total h fails = h fault.Short fails
fails_of fault.Magic read total h fails = h fault.Magic fails
fails_of fault.Version read total h fails = h fault.Version fails
fails_of fault.Trailing read total h fails = h fault.Trailing fails
fails_of (fault.Field left) read total h fails = h (fault.Field left) fails

pub stops : {A : Type 0} (read : Reader A) (e : DecodeFault) (front : List A) (count i : ℕ) (bytes : List ℕ) (total : Result (List A × List ℕ) DecodeFault)
    → i < count → read bytes ≡ Err e
    → with_front front (each_at read (count - i) bytes) ≡ total → total ≡ Err e
unfolding each_at
stops {A} read e front count i bytes total lt h so_far =
    let k : count - i ≡ suc (count - (i + 1)) = omega arith in
    sym so_far ∙ rw (k, h) refl

pub ends : {A : Type 0} (read : Reader A) (e : DecodeFault) (front : List A) (count i : ℕ) (bytes : List ℕ) (total : Result (List A × List ℕ) DecodeFault)
    → i < count → Fails e (read bytes)
    → with_front front (each_at read (count - i) bytes) ≡ total → Fails e total
ends read e front count i bytes total lt h so_far = fails_of e (read bytes) total (λ f at. stops read f front count i bytes total lt at so_far) h

-- where what reads takes no memory
pub fails_itself : {Y : Type 0} (e : DecodeFault) (total : Result Y DecodeFault) → total ≡ Err e → Fails e total
fails_itself fault.Memory total h = tt
fails_itself fault.Short total h = h
fails_itself fault.Magic total h = h
fails_itself fault.Version total h = h
fails_itself fault.Trailing total h = h
fails_itself (fault.Field left) total h = h

pub ends_at : {A : Type 0} (read : Reader A) (e : DecodeFault) (front : List A) (count i : ℕ) (bytes : List ℕ) (total : Result (List A × List ℕ) DecodeFault)
    → i < count → read bytes ≡ Err e
    → with_front front (each_at read (count - i) bytes) ≡ total → Fails e total
ends_at read e front count i bytes total lt h so_far = fails_itself e total (stops read e front count i bytes total lt h so_far)

pub is_done : {A : Type 0} (read : Reader A) (front : List A) (count i : ℕ) (bytes : List ℕ) (total : Result (List A × List ℕ) DecodeFault) → count ≤ i
    → with_front front (each_at read (count - i) bytes) ≡ total → total ≡ Ok (front, bytes)
unfolding each_at
is_done {A} read front count i bytes total le so_far =
    let k : count - i ≡ 0 = omega arith in
    let one : with_front front (each_at read (count - i) bytes) ≡ Ok (front, bytes) = rw k (ap (λ (xs : List A). Ok (xs, bytes)) (append-nil front)) in
    sym so_far ∙ one
