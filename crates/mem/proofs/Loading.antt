-- Loads, by the index of their first byte.
use Rattle.std.proofs.Common.{FitsSigned, to_z, of_z, ◌≡◌, ℕ, ℤ, ◌+◌, ◌+ℤ◌, List, [], ◌∷◌, take, drop, map, refl, sym, ap, subst, ◌∙◌}
use Rattle.std.specs.Prelude.{Result, Ok, Err, slice_range, IsOk}
use Rattle.std.specs.Int.{w16, w64}
use Rattle.std.proofs.lemmas.Int.{to_z-of_z}
use Rattle.std.proofs.lemmas.List.{take-map, drop-map}
use Rattle.word.specs.Bytes.{little_number}
use Rattle.word.specs.declared.Width.TheVariants.{W64}
use Rattle.word.specs.declared.Narrow.{Narrow}
use Rattle.word.specs.Arithmetic.{sign_extended}
use Rattle.insn.specs.Insn.{part_bytes}
use Rattle.semantics.specs.declared.value.Region.{Region}
use Rattle.semantics.specs.declared.value.Value.{Value}
use Rattle.semantics.specs.declared.value.Value.TheVariants.{Unset, Number, Pointer}
use Rattle.semantics.specs.declared.value.Cell.{Cell}
use Rattle.semantics.specs.declared.value.Cell.TheVariants.{Byte}
use Rattle.semantics.specs.State.{Cause, given}
use Rattle.semantics.specs.Memory.{window, region_cells, cells_at, bytes_in, value_in, loaded, loaded_signed}
use Rattle.mem.specs.declared.fault.MemoryFault.{MemoryFault}
use Rattle.mem.specs.Answers.{IsAnswer}
use Rattle.mem.specs.Places.{place_at, part_at}
use Rattle.mem.specs.Reading.{number_in}
use Rattle.mem.proofs.Parts.{range_is}

at_window : (context : List ℕ) (stack : List Cell) (size : ℕ) (region : Region) (r : Result ℕ Cause) →
    given r (λ place. Ok (slice_range (region_cells context stack region) place (place + size))) ≡ given (given r (λ place. Ok (region, place))) (λ p. Ok (part_at context stack size p))
at_window context stack size region (Ok place) = ap (λ (l : List Cell). Ok l) (range_is (region_cells context stack region) place size)
at_window context stack size region (Err cause) = refl

pub cells_are : (context : List ℕ) (stack : List Cell) (size : ℕ) (base : Value) (distance : ℤ) →
    cells_at context stack base distance size ≡ given (place_at base distance size) (λ p. Ok (part_at context stack size p))
cells_are context stack size Unset distance = refl
cells_are context stack size (Number n) distance = refl
cells_are context stack size (Pointer region offset) distance = at_window context stack size region (window region (offset +ℤ distance) size)

pub twice : {A B C : Type 0} (r : Result A Cause) (f : A → B) (g : B → Result C Cause) → given (given r (λ a. Ok (f a))) g ≡ given r (λ a. g (f a))
twice (Ok a) f g = refl
twice (Err cause) f g = refl

-- a load
pub loaded_at : (context : List ℕ) (stack : List Cell) (size : ℕ) (base : Value) (distance : ℤ) →
    loaded context stack size base distance ≡ given (place_at base distance size) (λ p. value_in (part_at context stack size p))
loaded_at context stack size base distance =
    ap (λ (r : Result (List Cell) Cause). given r value_in) (cells_are context stack size base distance)
    ∙ twice (place_at base distance size) (λ p. part_at context stack size p) value_in

-- What a sign-extended load makes of a number.
abbrev pub extended : Narrow → Result ℕ Cause → Result Value Cause
extended part r = given r (λ n. Ok (Number (sign_extended W64 part n)))

extended_bytes : (part : Narrow) (r : Result (List ℕ) Cause) →
    given r (λ bytes. Ok (Number (sign_extended W64 part (little_number bytes)))) ≡ extended part (given r (λ bytes. Ok (little_number bytes)))
extended_bytes part (Ok bytes) = refl
extended_bytes part (Err cause) = refl

extended_at : (context : List ℕ) (stack : List Cell) (size : ℕ) (part : Narrow) (r : Result (Region × ℕ) Cause) →
    given (given r (λ p. Ok (part_at context stack size p))) (λ cells. given (bytes_in cells) (λ bytes. Ok (Number (sign_extended W64 part (little_number bytes)))))
    ≡ given r (λ p. extended part (number_in (part_at context stack size p)))
extended_at context stack size part (Ok p) = extended_bytes part (bytes_in (part_at context stack size p))
extended_at context stack size part (Err cause) = refl

-- A sign-extended load.
pub loaded_signed_at : (context : List ℕ) (stack : List Cell) (part : Narrow) (base : Value) (distance : ℤ) →
    loaded_signed context stack part base distance ≡ given (place_at base distance (part_bytes part)) (λ p. extended part (number_in (part_at context stack (part_bytes part) p)))
loaded_signed_at context stack part base distance =
    ap (λ (r : Result (List Cell) Cause). given r (λ cells. given (bytes_in cells) (λ bytes. Ok (Number (sign_extended W64 part (little_number bytes))))))
    (cells_are context stack (part_bytes part) base distance)
    ∙ extended_at context stack (part_bytes part) part (place_at base distance (part_bytes part))

bytes_in-bytes : (bytes : List ℕ) → bytes_in (map Byte bytes) ≡ Ok bytes
bytes_in-bytes [] = refl
bytes_in-bytes (b ∷ bytes) = ap (λ (r : Result (List ℕ) Cause). given r (λ more. Ok (b ∷ more))) (bytes_in-bytes bytes)

value_in-bytes : (bytes : List ℕ) → value_in (map Byte bytes) ≡ Ok (Number (little_number bytes))
value_in-bytes [] = refl
value_in-bytes (b ∷ bytes) = ap (λ (r : Result (List ℕ) Cause). given r (λ more. Ok (Number (little_number more)))) (bytes_in-bytes (b ∷ bytes))

context_part : (context : List ℕ) (place size : ℕ) → take size (drop place (map Byte context)) ≡ map Byte (take size (drop place context))
context_part context place size = ap (λ (l : List Cell). take size l) (drop-map Byte place context) ∙ take-map Byte size (drop place context)

-- The cells of the context are bytes.
pub context_value : (context : List ℕ) (place size : ℕ) → value_in (take size (drop place (map Byte context))) ≡ Ok (Number (little_number (take size (drop place context))))
context_value context place size = ap value_in (context_part context place size) ∙ value_in-bytes (take size (drop place context))

pub context_number : (context : List ℕ) (place size : ℕ) → number_in (take size (drop place (map Byte context))) ≡ Ok (little_number (take size (drop place context)))
context_number context place size =
    ap number_in (context_part context place size) ∙ ap (λ (r : Result (List ℕ) Cause). given r (λ bytes. Ok (little_number bytes))) (bytes_in-bytes (take size (drop place context)))

-- What a load returns for its window.
pub loads : (context : List ℕ) (stack : List Cell) (size : ℕ) (base : Value) (distance : ℤ) (p : Region × ℕ) (r : Result Value MemoryFault) →
    place_at base distance size ≡ Ok p → IsAnswer (value_in (part_at context stack size p)) r → IsAnswer (loaded context stack size base distance) r
loads context stack size base distance p r e answer =
    subst (λ (x : Result Value Cause). IsAnswer x r)
    (sym (loaded_at context stack size base distance ∙ ap (λ (q : Result (Region × ℕ) Cause). given q (λ p. value_in (part_at context stack size p))) e)) answer

-- The same for a sign-extended load.
pub loads_signed : (context : List ℕ) (stack : List Cell) (size : ℕ) (part : Narrow) (base : Value) (distance : ℤ) (p : Region × ℕ) (r : Result ℕ Cause) → size ≡ part_bytes part →
    place_at base distance size ≡ Ok p → number_in (part_at context stack size p) ≡ r → loaded_signed context stack part base distance ≡ extended part r
loads_signed context stack size part base distance p r same e answer =
    loaded_signed_at context stack part base distance
    ∙ (ap (λ (n : ℕ). given (place_at base distance n) (λ p. extended part (number_in (part_at context stack n p)))) (sym same)
    ∙ (ap (λ (q : Result (Region × ℕ) Cause). given q (λ p. extended part (number_in (part_at context stack size p)))) e ∙ ap (extended part) answer))

-- A load at a pointer, by the index of its first byte.
pub read_at : (context : List ℕ) (stack : List Cell) (size : ℕ) (region : Region) (offset distance : ℤ) (place : ℕ) → window region (offset +ℤ distance) size ≡ Ok place →
    loaded context stack size (Pointer region offset) distance ≡ value_in (part_at context stack size (region, place))
read_at context stack size region offset distance place e =
    loaded_at context stack size (Pointer region offset) distance
    ∙ ap (λ (r : Result ℕ Cause). given (given r (λ place. Ok (region, place))) (λ p. value_in (part_at context stack size p))) e

pub read_signed_at : (context : List ℕ) (stack : List Cell) (part : Narrow) (size : ℕ) (region : Region) (offset distance : ℤ) (place : ℕ) → size ≡ part_bytes part → window region (offset +ℤ distance) size ≡ Ok place →
    loaded_signed context stack part (Pointer region offset) distance ≡ extended part (number_in (part_at context stack size (region, place)))
read_signed_at context stack part size region offset distance place same e =
    loaded_signed_at context stack part (Pointer region offset) distance
    ∙ (ap (λ (n : ℕ). given (place_at (Pointer region offset) distance n) (λ p. extended part (number_in (part_at context stack n p)))) (sym same)
    ∙ ap (λ (r : Result ℕ Cause). given (given r (λ place. Ok (region, place))) (λ p. extended part (number_in (part_at context stack size p)))) e)

pub ok_extended : (part : Narrow) (r : Result ℕ Cause) → IsOk (extended part r) → IsOk r
ok_extended part (Ok n) h = refl
ok_extended part (Err cause) h = h

-- An offset and a distance, as they are passed.
pub as_passed : (region : Region) (offset distance : ℤ) (size place : ℕ) → FitsSigned w64 offset → FitsSigned w16 distance →
    window region (to_z w64 (of_z w64 offset) +ℤ to_z w16 (of_z w16 distance)) size ≡ Ok place → window region (offset +ℤ distance) size ≡ Ok place
as_passed region offset distance size place f g e =
    ap (λ (o : ℤ). window region (o +ℤ distance) size) (sym (to_z-of_z w64 offset f))
    ∙ (ap (λ (d : ℤ). window region (to_z w64 (of_z w64 offset) +ℤ d) size) (sym (to_z-of_z w16 distance g)) ∙ e)
