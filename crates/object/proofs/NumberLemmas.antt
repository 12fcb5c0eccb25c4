-- Numbers in LEB128, byte by byte.
use Rattle.std.proofs.Common.{◌≡◌, ℕ, zero, suc, ◌+◌, ◌-◌, ◌<◌, ◌∙◌, sym, length, List, Bool, refl, arith, ap}
use Rattle.std.specs.Prelude.{Option, None}
use Rattle.std.specs.Prelude.{Some, nat_le, nat_lt, true, false}
use Rattle.std.proofs.lemmas.Grind.{common_steps}
use Rattle.object.specs.Number.{number_at}
use Rattle.object.specs.declared.leb128.Read.{Read}
use Rattle.object.specs.Numbers.{last_byte, number_in, number_on}

pub number_none : (signed : Bool) (n place : ℕ) (bytes : List ℕ) → n ≡ 0 → number_in signed n place bytes ≡ None
unfolding number_in
number_none signed zero place bytes e = refl
number_none signed (suc n) place bytes e = absurd (omega arith)

pub number_some : (signed : Bool) (n place : ℕ) (bytes : List ℕ) → 0 < n →
    number_in signed n place bytes ≡ number_on signed place bytes (number_in signed (n - 1) (place + 1) bytes)
unfolding number_in
number_some signed zero place bytes e = absurd (omega arith)
number_some signed (suc n) place bytes e =
    let same : n ≡ suc n - 1 = omega arith in
    ap (λ (k : ℕ). number_on signed place bytes (number_in signed k (place + 1) bytes)) same

on_last : (signed : Bool) (place : ℕ) (bytes : List ℕ) (more : Option Read) → place < length bytes → number_at 1 place bytes < 128 →
    number_on signed place bytes more ≡ Some (record { value = last_byte signed (number_at 1 place bytes); next = place + 1 })
on_last signed place bytes more inside low =
    let here : nat_le (length bytes) place ≡ false = grind (arith, common_steps) in
    let last : nat_lt (number_at 1 place bytes) 128 ≡ true = grind (arith, common_steps) in
    rw (here, last) refl

-- A number of one byte.
pub number_last : (signed : Bool) (n place : ℕ) (bytes : List ℕ) (byte value : ℕ) → 0 < n → place < length bytes →
    byte ≡ number_at 1 place bytes → byte < 128 → value ≡ last_byte signed byte →
    Some (record { value = value; next = place + 1 }) ≡ number_in signed n place bytes
number_last signed n place bytes byte value some inside read low worth =
    let low' : number_at 1 place bytes < 128 = omega arith in
    let value' : value ≡ last_byte signed (number_at 1 place bytes) = worth ∙ ap (last_byte signed) read in
    ap (λ (v : ℕ). Some (record { value = v; next = place + 1 })) value'
    ∙ (sym (on_last signed place bytes (number_in signed (n - 1) (place + 1) bytes) inside low') ∙ sym (number_some signed n place bytes some))
