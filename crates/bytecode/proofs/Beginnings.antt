-- What is read of a spelling that is cut, and of one with more bytes behind it.
use Rattle.std.proofs.Common.{◌≡◌, ◌≢◌, ℕ, List, ◌++◌, length, Result, Ok, Err, refl, ap, subst, ◌∙◌}
use Rattle.bytecode.specs.declared.fault.DecodeFault.TheVariants as fault
use Rattle.bytecode.specs.declared.fault.DecodeFault.{DecodeFault}
use Rattle.bytecode.specs.Image.{Image}
use Rattle.bytecode.specs.Beginnings.{IsCutSpelling, HasTail}
use Rattle.bytecode.specs.Reading.Image.{image_at, answer, reading}
use Rattle.bytecode.proofs.Readers.{IsBytes}
use Rattle.bytecode.proofs.ImageLaws.{image_again, image_tail}
use Rattle.bytecode.proofs.Offsets.{image_remembers}
use Rattle.bytecode.proofs.Longer.{Grown, tailed, image_grows}

abbrev as_read : Image → Result Image DecodeFault
as_read i = Ok i

-- what leads to a whole image by more bytes was short
short_before : (n : ℕ) (r : Result Image DecodeFault) (i : Image) → r ≢ Err fault.Memory → Grown tailed n r (as_read i) → r ≡ Err fault.Short
short_before n (Ok j) i memory grown = absurd cc
short_before n (Err fault.Short) i memory grown = refl
short_before n (Err fault.Magic) i memory grown = absurd cc
short_before n (Err fault.Version) i memory grown = absurd cc
short_before n (Err fault.Trailing) i memory grown = absurd cc
short_before n (Err fault.Memory) i memory grown = absurd cc
short_before n (Err (fault.Field left)) i memory grown = absurd cc

pub cut_is_short : (version : ℕ) (bytes : List ℕ) → IsCutSpelling version bytes → reading version bytes ≡ Err fault.Short
unfolding reading
cut_is_short version bytes (rest, some, (i, spells)) =
    let grown = image_grows version bytes rest some in
    let whole = image_again version (bytes ++ rest) i spells in
    ap (answer bytes) (short_before (length rest) (image_at version bytes) i (image_remembers version bytes)
    (subst (Grown tailed (length rest) (image_at version bytes)) whole grown))

tail_said : (bytes : List ℕ) (r : Result Image DecodeFault) → answer bytes r ≡ Err fault.Trailing → r ≡ Err fault.Trailing
tail_said bytes (Ok i) e = absurd cc
tail_said bytes (Err fault.Short) e = absurd cc
tail_said bytes (Err fault.Magic) e = absurd cc
tail_said bytes (Err fault.Version) e = absurd cc
tail_said bytes (Err fault.Trailing) e = refl
tail_said bytes (Err fault.Memory) e = absurd cc
tail_said bytes (Err (fault.Field left)) e = absurd cc

pub tail_is_read : (version : ℕ) (bytes : List ℕ) → IsBytes bytes → reading version bytes ≡ Err fault.Trailing → HasTail version bytes
unfolding reading
tail_is_read version bytes fits e = image_tail version bytes fits (tail_said bytes (image_at version bytes) e)

pub read_with_tail : (version : ℕ) (bytes : List ℕ) → HasTail version bytes → reading version bytes ≡ Err fault.Trailing
unfolding reading
read_with_tail version bytes (text, tail, some, (i, spells), parts) =
    let grown = image_grows version text tail some in
    let whole = image_again version text i spells in
    let trailing : image_at version (text ++ tail) ≡ Err fault.Trailing =
    subst (λ (r : Result Image DecodeFault). Grown tailed (length tail) r (image_at version (text ++ tail))) whole grown in
    ap (answer bytes) (ap (image_at version) parts ∙ trailing)
