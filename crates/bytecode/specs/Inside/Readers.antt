-- What a reading function returns, beside what reading gives.
use Rattle.std.specs.Prelude.{◌≡◌, Result, Ok, Err}
use Rattle.bytecode.specs.declared.fault.DecodeFault.{DecodeFault}
use Rattle.bytecode.specs.declared.fault.DecodeFault.TheVariants as fault

-- A fault that a function returned is the fault of reading. Where memory was refused nothing is claimed.
abbrev pub Fails : {Y : Type 0} → DecodeFault → Result Y DecodeFault → Type 0
Fails fault.Memory read = Unit {0}
Fails f read = read ≡ Err f

-- What a function returned, seen by view, is what reading gives, unless memory was refused.
abbrev pub Gives : {X Y : Type 0} → (X → Y) → Result X DecodeFault → Result Y DecodeFault → Type 0
Gives view (Ok x) read = read ≡ Ok (view x)
Gives view (Err e) read = Fails e read

-- What a function that takes no memory returned, seen by view, is what reading gives.
abbrev pub GivesExactly : {X Y : Type 0} → (X → Y) → Result X DecodeFault → Result Y DecodeFault → Type 0
GivesExactly view (Ok x) read = read ≡ Ok (view x)
GivesExactly view (Err e) read = read ≡ Err e
