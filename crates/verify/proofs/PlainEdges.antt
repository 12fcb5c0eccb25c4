-- What is known along an edge if registers hold numbers.
use Rattle.std.proofs.Common.{◌≡◌, ◌≢◌, ◌∙◌, ℕ, ◌<◌, List, [], ◌∷◌, ◌++◌, length, set, arith, refl, Bool, true, false, Option, Some, None, length-set}
use Rattle.std.specs.Prelude.{ℤ, pos, ◌==◌, if◌then◌else◌, option_map, IfSome}
use Rattle.std.specs.Int.{w64, cast_unsigned}
use Rattle.word.specs.declared.Width.{Width}
use Rattle.word.specs.declared.Condition.{Condition}
use Rattle.word.specs.Arithmetic.{taken}
use Rattle.insn.specs.declared.insn.Insn.{Insn}
use Rattle.insn.specs.declared.insn.Operand.{Operand}
use Rattle.insn.specs.declared.insn.Operand.TheVariants.{Register, Immediate}
use Rattle.insn.specs.Insn.{IsOperand}
use Rattle.semantics.specs.Plain.{IsIn, writes, leads_to}
use Rattle.absval.specs.NumberSets.{single, refined}
use Rattle.absval.specs.declared.number_set.NumberSet.{NumberSet}
use Rattle.absval.specs.Contains.{is_number}
use Rattle.verify.specs.declared.state.AbsState.{AbsState}
use Rattle.verify.specs.Registers.{known_at, operand_known, refined_known, edge_known}
use Rattle.verify.specs.Transfer.{assigned, Edge, edge_to}
use Rattle.verify.proofs.Zips.{at_set}
use Rattle.verify.proofs.KnownNumbers.{number_at}
use Rattle.absval.proofs.NumberRows.{AreNumbers}
use Rattle.absval.specs.declared.value.AbsVal.TheVariants.{Unset, Number, Pointer}
use Rattle.absval.specs.declared.value.AbsVal.{AbsVal}

-- Along an edge, a register that is not known to hold a number was not before, and was not written.
pub record EdgeFine (i : Insn) (unit : ℕ) (known : List AbsVal) (e : Edge) : Type 0 where
  pub edge : IsIn e.0 (leads_to i unit)
  pub size : length e.1.registers ≡ 11
  pub blank : (r : ℕ) → r < 11 → number_at e.1.registers r ≡ false → (IsIn r (writes i) → ⊥) × (number_at known r ≡ false)

abbrev pub EdgesFine : Insn → ℕ → List AbsVal → List Edge → Type 0
EdgesFine i unit known [] = Unit {0}
EdgesFine i unit known (e ∷ es) = EdgeFine i unit known e × EdgesFine i unit known es

-- A number is written to a register.
pub put_number : (known : List AbsVal) (dst r : ℕ) (e : AbsVal) → length known ≡ 11 → dst < 11 → is_number e ≡ true → number_at (set known dst e) r ≡ false →
    (r ≢ dst) × (number_at known r ≡ false)
put_number known dst r e size lt h =
    let inside : dst < length known = omega arith in
    at_set (λ (x : AbsVal). is_number x ≡ false → (r ≢ dst) × (number_at known r ≡ false)) known dst r e Unset inside (λ same k. absurd cc) (λ other k. (other, k))

pub assigned_edge : (i : Insn) (unit to : ℕ) (a : AbsState) (dst : ℕ) (o : Option AbsVal) → length a.registers ≡ 11 → dst < 11 → AreNumbers o →
    IsIn (pos to) (leads_to i unit) → ((r : ℕ) → IsIn r (writes i) → r ≡ dst) → EdgeFine i unit a.registers (pos to, assigned a dst o)
assigned_edge i unit to a dst None size lt h edge only = absurd h
assigned_edge i unit to a dst (Some e) size lt h edge only =
    record {
      edge = edge;
      size = length-set a.registers dst e ∙ size;
      blank = λ r low none. let put = put_number a.registers dst r e size lt h none in (λ wrote. put.0 (only r wrote), put.1);
    }

pub same_edge : (i : Insn) (unit : ℕ) (z : ℤ) (a : AbsState) → length a.registers ≡ 11 → IsIn z (leads_to i unit) → ((r : ℕ) → IsIn r (writes i) → ⊥) → EdgeFine i unit a.registers (z, a)
same_edge i unit z a size edge none = record { edge = edge; size = size; blank = λ r low h. (none r, h) }

-- ---- conditional jumps

-- Narrowing registers loses nothing.
abbrev pub Narrows : List AbsVal → Option (List AbsVal) → Type 0
Narrows known o = IfSome o (λ left. (length left ≡ 11) × ((r : ℕ) → r < 11 → number_at left r ≡ false → number_at known r ≡ false))

abbrev pub ArePair : Option (AbsVal × AbsVal) → Type 0
ArePair o = IfSome o (λ e. (is_number e.0 ≡ true) × (is_number e.1 ≡ true))

pub refined_pair : (w : Width) (c : Condition) (way : Bool) (a b : AbsVal) → is_number a ≡ true → is_number b ≡ true → ArePair (refined_known w c way a b)
refined_pair w c way (Number m) (Number n) h k = by_left (refined w c way m n)
  where
    by_left : (o : Option (NumberSet × NumberSet)) → ArePair (option_map (λ e. (Number e.0, Number e.1)) o)
    by_left None = tt
    by_left (Some e) = (refl, refl)
refined_pair w c way Unset b h k = absurd cc
refined_pair w c way (Pointer region o) b h k = absurd cc
refined_pair w c way (Number m) Unset h k = absurd cc
refined_pair w c way (Number m) (Pointer region o) h k = absurd cc

pub number_narrows : (known : List AbsVal) (dst : ℕ) (o : Option (AbsVal × AbsVal)) → length known ≡ 11 → dst < 11 → ArePair o → Narrows known (option_map (λ e. set known dst e.0) o)
number_narrows known dst None size lt h = tt
number_narrows known dst (Some e) size lt h =
    (length-set known dst e.0 ∙ size, λ r low none. (put_number known dst r e.0 size lt h.0 none).1)

pub register_narrows : (known : List AbsVal) (dst src : ℕ) (o : Option (AbsVal × AbsVal)) → length known ≡ 11 → dst < 11 → src < 11 → ArePair o →
    Narrows known (option_map (λ e. set (set known dst e.0) src e.1) o)
register_narrows known dst src None size lt lt' h = tt
register_narrows known dst src (Some e) size lt lt' h =
    let long = length-set known dst e.0 ∙ size in
    (length-set (set known dst e.0) src e.1 ∙ long, λ r low none. (put_number known dst r e.0 size lt h.0 (put_number (set known dst e.0) src r e.1 long lt' h.1 none).1).1)

pub either_narrows : (t : Bool) (known : List AbsVal) (o : Option (List AbsVal)) → length known ≡ 11 → Narrows known o → Narrows known (if t then Some known else o)
either_narrows true known o size h = (size, λ r low none. none)
either_narrows false known o size h = h

pub edge_narrows : (w : Width) (c : Condition) (dst : ℕ) (operand : Operand) (way : Bool) (known : List AbsVal) → length known ≡ 11 → dst < 11 → IsOperand operand →
    is_number (known_at known dst) ≡ true → is_number (operand_known known operand) ≡ true →
    Narrows known (edge_known (record { width = w; condition = c; dst = dst; operand = operand }) way known)
edge_narrows w c dst (Register src) way known size lt well h k =
    either_narrows (dst == src) known (option_map (λ e. set (set known dst e.0) src e.1) (refined_known w c way (known_at known dst) (known_at known src))) size
    (register_narrows known dst src (refined_known w c way (known_at known dst) (known_at known src)) size lt (omega (arith, well)) (refined_pair w c way (known_at known dst) (known_at known src) h k))
edge_narrows w c dst (Immediate n) way known size lt well h k =
    number_narrows known dst (refined_known w c way (known_at known dst) (Number (single (taken w (cast_unsigned w64 n))))) size lt
    (refined_pair w c way (known_at known dst) (Number (single (taken w (cast_unsigned w64 n)))) h refl)

pub branch_edge : (i : Insn) (unit : ℕ) (z : ℤ) (a : AbsState) (o : Option (List AbsVal)) → Narrows a.registers o → IsIn z (leads_to i unit) →
    ((r : ℕ) → IsIn r (writes i) → ⊥) →
    EdgesFine i unit a.registers (edge_to z (option_map (λ (known : List AbsVal). record { registers = known; stack = a.stack }) o))
branch_edge i unit z a None h edge none = tt
branch_edge i unit z a (Some known) h edge none = (
  record {
    edge = edge;
    size = h.0;
    blank = λ r low blank. (none r, h.1 r low blank);
  },
  tt,
)

pub both_edges : (i : Insn) (unit : ℕ) (known : List AbsVal) (z : ℤ) (o : Option AbsState) (es : List Edge) → EdgesFine i unit known (edge_to z o) → EdgesFine i unit known es →
    EdgesFine i unit known (edge_to z o ++ es)
both_edges i unit known z None es h k = k
both_edges i unit known z (Some a) es h k = (h.0, k)
