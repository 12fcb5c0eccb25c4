-- What an opcode means follows from the encodings of instructions.
use Rattle.std.proofs.Common.{◌≡◌, ◌≢◌, ◌≤◌, ◌<◌, ◌+◌, ◌*◌, ◌/◌, ◌%◌, ℕ, pos, List, [], ◌∷◌, ◌++◌, Bool, true, false, refl, sym, ap, subst, ◌∙◌, arith, inl, inr}
use Rattle.std.proofs.Common.{drop, length}
use Rattle.std.specs.Prelude.{Option, Some, None, ◌==◌, ◌||◌, if◌then◌else◌, nat_lt, FitsSigned}
use Rattle.std.specs.Int.{w16, w32}
use Rattle.std.specs.List.{list_any}
use Rattle.std.proofs.lemmas.Bool.Decides.{nat_tests}
use Rattle.word.specs.declared.Operation.TheVariants as op
use Rattle.word.specs.declared.SwapSize.TheVariants as swap
use Rattle.insn.specs.declared.insn.Insn.TheVariants as i
use Rattle.insn.specs.declared.insn.Operand.TheVariants.{Register, Immediate}
use Rattle.word.specs.declared.Width.{Width}
use Rattle.word.specs.declared.Width.TheVariants.{W32, W64}
use Rattle.codec.specs.declared.form.Form.{Form}
use Rattle.codec.specs.declared.form.Form.TheVariants as forms
use Rattle.codec.specs.declared.fault.CodecFault.{CodecFault}
use Rattle.codec.specs.declared.fault.CodecFault.TheVariants as faults
use Rattle.codec.specs.declared.fields.Fields.{Fields}
use Rattle.codec.specs.Spelling.{alu_class, jump_class, spelling, instruction_bytes}
use Rattle.codec.specs.Reading.{fields_of, is_set, is_past, is_reserved_set, checks_of, first_fault, fault_in, fault_at, AreUnits}
use Rattle.codec.specs.Opcodes.{opcode_in, IsUsed, is_left_out, IsLeftOut, OpcodesAreTold}
use Rattle.codec.proofs.FrontLemmas.{insn_front}
use Rattle.codec.proofs.NoFault.{no_fault, none_past}
use Rattle.codec.specs.Form.{divided, form_of, wide_form, load_form, store_form, store_register_form, immediate_form, register_form, jump_form, jump_register_form, IsOpcode}

wide_opcode : (n : ℕ) → IsOpcode (wide_form n) n
wide_opcode n = grind (arith, nat_tests)

load_opcode : (n : ℕ) → IsOpcode (load_form n) n
load_opcode n = grind (arith, nat_tests)

store_opcode : (n : ℕ) → IsOpcode (store_form n) n
store_opcode n = grind (arith, nat_tests)

store_register_opcode : (n : ℕ) → IsOpcode (store_register_form n) n
store_register_opcode n = grind (arith, nat_tests)

immediate_opcode : (w : Width) (q : ℕ) → IsOpcode (immediate_form w q) (16 * q + alu_class w)
immediate_opcode w q = grind (arith, nat_tests)

register_opcode : (w : Width) (q : ℕ) → IsOpcode (register_form w q) (16 * q + (8 + alu_class w))
register_opcode w q = grind (arith, nat_tests)

jump_opcode : (w : Width) (q : ℕ) → IsOpcode (jump_form w q) (16 * q + jump_class w)
jump_opcode w q = grind (arith, nat_tests)

jump_register_opcode : (w : Width) (q : ℕ) → IsOpcode (jump_register_form w q) (16 * q + (8 + jump_class w))
jump_register_opcode w q = grind (arith, nat_tests)

-- If the low four bits are these, the rest of the opcode is 16 times the high four.
at_class : (n k : ℕ) → n % 16 == k ≡ true → 16 * (n / 16) + k ≡ n
at_class n k e = let low : n % 16 ≡ k = grind (arith, nat_tests) in omega arith

chosen : (P : Form → Type 0) (t : Bool) (a b : Form) → (t ≡ true → P a) → (t ≡ false → P b) → P (if t then a else b)
chosen P true a b f g = f refl
chosen P false a b f g = g refl

by_class : (n k : ℕ) (form : Form) → IsOpcode form (16 * (n / 16) + k) → n % 16 == k ≡ true → IsOpcode form n
by_class n k form is e = subst (IsOpcode form) (at_class n k e) is

last_class : (n : ℕ) → n % 16 == 0x0 || n % 16 == 0x8 ≡ false → n % 16 == 0x1 || n % 16 == 0x9 ≡ false → n % 16 == 0x2 || n % 16 == 0xa ≡ false → n % 16 == 0x3 || n % 16 == 0xb ≡ false
    → n % 16 == 0x4 ≡ false → n % 16 == 0x5 ≡ false → n % 16 == 0x6 ≡ false → n % 16 == 0x7 ≡ false → n % 16 == 0xc ≡ false → n % 16 == 0xd ≡ false → n % 16 == 0xe ≡ false → n % 16 == 0xf ≡ true
last_class n a b c d e f g h i j k = let few : n % 16 < 16 = omega arith in grind (arith, nat_tests)

pub form_opcode : (n : ℕ) → IsOpcode (form_of n) n
form_opcode n =
    chosen P (n % 16 == 0x0 || n % 16 == 0x8) _ _ (λ t. wide_opcode n) (λ a.
    chosen P (n % 16 == 0x1 || n % 16 == 0x9) _ _ (λ t. load_opcode n) (λ b.
    chosen P (n % 16 == 0x2 || n % 16 == 0xa) _ _ (λ t. store_opcode n) (λ c.
    chosen P (n % 16 == 0x3 || n % 16 == 0xb) _ _ (λ t. store_register_opcode n) (λ d.
    chosen P (n % 16 == 0x4) _ _ (by_class n 0x4 (immediate_form W32 (n / 16)) (immediate_opcode W32 (n / 16))) (λ e.
    chosen P (n % 16 == 0x5) _ _ (by_class n 0x5 (jump_form W64 (n / 16)) (jump_opcode W64 (n / 16))) (λ f.
    chosen P (n % 16 == 0x6) _ _ (by_class n 0x6 (jump_form W32 (n / 16)) (jump_opcode W32 (n / 16))) (λ g.
    chosen P (n % 16 == 0x7) _ _ (by_class n 0x7 (immediate_form W64 (n / 16)) (immediate_opcode W64 (n / 16))) (λ h.
    chosen P (n % 16 == 0xc) _ _ (by_class n 0xc (register_form W32 (n / 16)) (register_opcode W32 (n / 16))) (λ i.
    chosen P (n % 16 == 0xd) _ _ (by_class n 0xd (jump_register_form W64 (n / 16)) (jump_register_opcode W64 (n / 16))) (λ j.
    chosen P (n % 16 == 0xe) _ _ (by_class n 0xe (jump_register_form W32 (n / 16)) (jump_register_opcode W32 (n / 16))) (λ k.
    by_class n 0xf (register_form W64 (n / 16)) (register_opcode W64 (n / 16)) (last_class n a b c d e f g h i j k))))))))))))
  where
    P : Form → Type 0
    P form = IsOpcode form n

-- ---- used opcodes

abbrev IsKnown : Form → Type 0
IsKnown forms.LeftOut = ⊥
IsKnown forms.Unknown = ⊥
IsKnown _ = Unit {0}

zero_fits : FitsSigned w32 (pos 0)
zero_fits = record { sfits = omega arith }

small_fits : FitsSigned w16 (pos 0)
small_fits = record { sfits = omega arith }

used : (form : Form) (n : ℕ) → IsOpcode form n → IsKnown form → IsUsed n
used (forms.Immediate w o) n is known = (i.Arithmetic w o 0 (Immediate (pos 0)), (omega arith, zero_fits), sym is.0)
used (forms.Register w o) n is known = (i.Arithmetic w o 0 (Register 0), (omega arith, omega arith), sym is.0)
used (forms.DivideImmediate w division) n is known = (i.Arithmetic w (divided division 0) 0 (Immediate (pos 0)), (omega arith, zero_fits), sym is)
used (forms.DivideRegister w division) n is known = (i.Arithmetic w (divided division 0) 0 (Register 0), (omega arith, omega arith), sym is)
used (forms.MoveRegister W32) n is known = (i.Arithmetic W32 op.Move 0 (Register 0), (omega arith, omega arith), sym is)
used (forms.MoveRegister W64) n is known = (i.Arithmetic W64 op.Move 0 (Register 0), (omega arith, omega arith), sym is)
used (forms.Negate w) n is known = (i.Negate w 0, omega arith, sym is)
used (forms.Swap order) n is known = (i.Swap order swap.Half 0, omega arith, sym is)
used forms.LoadImmediate n is known = (i.LoadImmediate 0 0, (omega arith, omega arith), sym is)
used forms.Jump n is known = (i.Jump (pos 0), small_fits, sym is)
used forms.LongJump n is known = (i.LongJump (pos 0), zero_fits, sym is)
used (forms.BranchImmediate w c) n is known = (i.Branch w c 0 (Immediate (pos 0)) (pos 0), (omega arith, zero_fits, small_fits), sym is)
used (forms.BranchRegister w c) n is known = (i.Branch w c 0 (Register 0) (pos 0), (omega arith, omega arith, small_fits), sym is)
used (forms.Load bytes) n is known = (i.Load bytes 0 0 (pos 0), (omega arith, omega arith, small_fits), sym is)
used (forms.LoadSigned part) n is known = (i.LoadSigned part 0 0 (pos 0), (omega arith, omega arith, small_fits), sym is)
used (forms.StoreImmediate bytes) n is known = (i.Store bytes 0 (pos 0) (Immediate (pos 0)), (omega arith, small_fits, zero_fits), sym is)
used (forms.StoreRegister bytes) n is known = (i.Store bytes 0 (pos 0) (Register 0), (omega arith, small_fits, omega arith), sym is)
used forms.Call n is known = (i.Call (pos 0), zero_fits, sym is)
used forms.Exit n is known = (i.Exit, tt, sym is)
used forms.LeftOut n is known = absurd known
used forms.Unknown n is known = absurd known

-- The opcode of an encoded instruction is known.
opcode_is : (fs : List Fields) (f : Fields) (behind : List ℕ) → AreUnits fs f behind → opcode_in fs ≡ f.opcode
opcode_is [] f behind are = absurd are
opcode_is (a ∷ []) f behind are = ap (λ (g : Fields). g.opcode) are
opcode_is (a ∷ b ∷ []) f behind are = ap (λ (g : Fields). g.opcode) are.0
opcode_is (a ∷ b ∷ c ∷ rest) f behind are = absurd are

faultless : (form : Form) (f : Fields) (behind : List ℕ) → first_fault (checks_of form f behind) ≡ None → IsKnown form
faultless (forms.Immediate w o) f behind e = tt
faultless (forms.Register w o) f behind e = tt
faultless (forms.DivideImmediate w division) f behind e = tt
faultless (forms.DivideRegister w division) f behind e = tt
faultless (forms.MoveRegister w) f behind e = tt
faultless (forms.Negate w) f behind e = tt
faultless (forms.Swap order) f behind e = tt
faultless forms.LoadImmediate f behind e = tt
faultless forms.Jump f behind e = tt
faultless forms.LongJump f behind e = tt
faultless (forms.BranchImmediate w c) f behind e = tt
faultless (forms.BranchRegister w c) f behind e = tt
faultless (forms.Load bytes) f behind e = tt
faultless (forms.LoadSigned part) f behind e = tt
faultless (forms.StoreImmediate bytes) f behind e = tt
faultless (forms.StoreRegister bytes) f behind e = tt
faultless forms.Call f behind e = tt
faultless forms.Exit f behind e = tt
faultless forms.LeftOut f behind e = absurd cc
faultless forms.Unknown f behind e = absurd cc

known_of : (n : ℕ) → IsUsed n → IsKnown (form_of n)
known_of n u =
    let bytes : List ℕ = instruction_bytes u.0 ++ [] in
    let f : Fields = fields_of bytes in
    let are : AreUnits (spelling u.0) f (drop 8 bytes) = insn_front u.0 [] u.1 in
    let none : fault_in f (drop 8 bytes) ≡ None = no_fault u.0 f (drop 8 bytes) u.1 are in
    let same : f.opcode ≡ n = sym (opcode_is (spelling u.0) f (drop 8 bytes) are) ∙ u.2 in
    subst (λ m. IsKnown (form_of m)) same (faultless (form_of f.opcode) f (drop 8 bytes) none)

-- ---- opcodes that are not supported

abbrev is_left_form : Form → Bool
is_left_form forms.LeftOut = true
is_left_form _ = false

wide_left : (n : ℕ) → n % 16 == 0x0 || n % 16 == 0x8 ≡ true → is_left_form (wide_form n) ≡ is_left_out n
wide_left n e = grind (arith, nat_tests)

store_left : (n : ℕ) → n % 16 == 0x3 || n % 16 == 0xb ≡ true → is_left_form (store_register_form n) ≡ is_left_out n
store_left n e = grind (arith, nat_tests)

not_left : (n : ℕ) → n % 16 == 0x0 || n % 16 == 0x8 ≡ false → n % 16 == 0x3 || n % 16 == 0xb ≡ false → is_left_out n ≡ false
not_left n a b = grind (arith, nat_tests)

load_kept : (n : ℕ) → is_left_form (load_form n) ≡ false
load_kept n = grind (arith, nat_tests)

store_kept : (n : ℕ) → is_left_form (store_form n) ≡ false
store_kept n = grind (arith, nat_tests)

immediate_kept : (w : Width) (q : ℕ) → is_left_form (immediate_form w q) ≡ false
immediate_kept w q = grind (arith, nat_tests)

register_kept : (w : Width) (q : ℕ) → is_left_form (register_form w q) ≡ false
register_kept w q = grind (arith, nat_tests)

jump_kept : (w : Width) (q : ℕ) → is_left_form (jump_form w q) ≡ false
jump_kept w q = grind (arith, nat_tests)

jump_register_kept : (w : Width) (q : ℕ) → is_left_form (jump_register_form w q) ≡ false
jump_register_kept w q = grind (arith, nat_tests)

load_class : (n : ℕ) → n % 16 == 0x1 || n % 16 == 0x9 ≡ true → n % 16 == 0x3 || n % 16 == 0xb ≡ false
load_class n e = grind (arith, nat_tests)

store_class : (n : ℕ) → n % 16 == 0x2 || n % 16 == 0xa ≡ true → n % 16 == 0x3 || n % 16 == 0xb ≡ false
store_class n e = grind (arith, nat_tests)

form_left : (n : ℕ) → is_left_form (form_of n) ≡ is_left_out n
form_left n =
    chosen P (n % 16 == 0x0 || n % 16 == 0x8) _ _ (wide_left n) (λ a.
    chosen P (n % 16 == 0x1 || n % 16 == 0x9) _ _ (λ t. load_kept n ∙ sym (other a (load_class n t))) (λ b.
    chosen P (n % 16 == 0x2 || n % 16 == 0xa) _ _ (λ t. store_kept n ∙ sym (other a (store_class n t))) (λ c.
    chosen P (n % 16 == 0x3 || n % 16 == 0xb) _ _ (store_left n) (λ d.
    chosen P (n % 16 == 0x4) _ _ (λ t. immediate_kept W32 (n / 16) ∙ sym (other a d)) (λ e.
    chosen P (n % 16 == 0x5) _ _ (λ t. jump_kept W64 (n / 16) ∙ sym (other a d)) (λ f.
    chosen P (n % 16 == 0x6) _ _ (λ t. jump_kept W32 (n / 16) ∙ sym (other a d)) (λ g.
    chosen P (n % 16 == 0x7) _ _ (λ t. immediate_kept W64 (n / 16) ∙ sym (other a d)) (λ h.
    chosen P (n % 16 == 0xc) _ _ (λ t. register_kept W32 (n / 16) ∙ sym (other a d)) (λ i.
    chosen P (n % 16 == 0xd) _ _ (λ t. jump_register_kept W64 (n / 16) ∙ sym (other a d)) (λ j.
    chosen P (n % 16 == 0xe) _ _ (λ t. jump_register_kept W32 (n / 16) ∙ sym (other a d)) (λ k.
    register_kept W64 (n / 16) ∙ sym (other a d))))))))))))
  where
    P : Form → Type 0
    P form = is_left_form form ≡ is_left_out n

    other : n % 16 == 0x0 || n % 16 == 0x8 ≡ false → n % 16 == 0x3 || n % 16 == 0xb ≡ false → is_left_out n ≡ false
    other a d = not_left n a d

-- ---- faults

here_none : (is : CodecFault → Bool) (g fault : CodecFault) (rest : Option CodecFault) (more t here : Bool) → is g ≡ true → is fault ≡ here → here || more ≡ false → (more ≡ false → rest ≡ Some g → ⊥)
    → (if t then Some fault else rest) ≡ Some g → ⊥
here_none is g fault rest more t true named same bad behind e = absurd cc
here_none is g fault rest more true false named same none behind e = let first : fault ≡ g = cc in let absent : true ≡ false = sym named ∙ sym (ap is first) ∙ same in absurd cc
here_none is g fault rest more false false named same none behind e = behind none e

-- A fault that no check names is not the first.
none_of : (is : CodecFault → Bool) (g : CodecFault) (checks : List (Bool × CodecFault)) → is g ≡ true → list_any (λ (c : Bool × CodecFault). is c.1) checks ≡ false → first_fault checks ≡ Some g → ⊥
none_of is g [] named absent e = absurd cc
none_of is g (c ∷ checks) named absent e = here_none is g c.1 (first_fault checks) (list_any (λ (d : Bool × CodecFault). is d.1) checks) c.0 (is c.1) named refl absent (λ rest more. none_of is g checks named rest more) e

abbrev is_opcode_fault : CodecFault → Bool
is_opcode_fault faults.Opcode = true
is_opcode_fault _ = false

abbrev is_left_fault : CodecFault → Bool
is_left_fault faults.LeftOut = true
is_left_fault _ = false

abbrev is_unknown_form : Form → Bool
is_unknown_form forms.Unknown = true
is_unknown_form _ = false

opcode_fault : (form : Form) (f : Fields) (behind : List ℕ) → first_fault (checks_of form f behind) ≡ Some faults.Opcode → form ≡ forms.Unknown
opcode_fault (forms.Immediate w o) f behind e = absurd (none_of is_opcode_fault faults.Opcode (checks_of (forms.Immediate w o) f behind) refl refl e)
opcode_fault (forms.Register w o) f behind e = absurd (none_of is_opcode_fault faults.Opcode (checks_of (forms.Register w o) f behind) refl refl e)
opcode_fault (forms.DivideImmediate w division) f behind e = absurd (none_of is_opcode_fault faults.Opcode (checks_of (forms.DivideImmediate w division) f behind) refl refl e)
opcode_fault (forms.DivideRegister w division) f behind e = absurd (none_of is_opcode_fault faults.Opcode (checks_of (forms.DivideRegister w division) f behind) refl refl e)
opcode_fault (forms.MoveRegister w) f behind e = absurd (none_of is_opcode_fault faults.Opcode (checks_of (forms.MoveRegister w) f behind) refl refl e)
opcode_fault (forms.Negate w) f behind e = absurd (none_of is_opcode_fault faults.Opcode (checks_of (forms.Negate w) f behind) refl refl e)
opcode_fault (forms.Swap order) f behind e = absurd (none_of is_opcode_fault faults.Opcode (checks_of (forms.Swap order) f behind) refl refl e)
opcode_fault forms.LoadImmediate f behind e = absurd (none_of is_opcode_fault faults.Opcode (checks_of forms.LoadImmediate f behind) refl refl e)
opcode_fault forms.Jump f behind e = absurd (none_of is_opcode_fault faults.Opcode (checks_of forms.Jump f behind) refl refl e)
opcode_fault forms.LongJump f behind e = absurd (none_of is_opcode_fault faults.Opcode (checks_of forms.LongJump f behind) refl refl e)
opcode_fault (forms.BranchImmediate w c) f behind e = absurd (none_of is_opcode_fault faults.Opcode (checks_of (forms.BranchImmediate w c) f behind) refl refl e)
opcode_fault (forms.BranchRegister w c) f behind e = absurd (none_of is_opcode_fault faults.Opcode (checks_of (forms.BranchRegister w c) f behind) refl refl e)
opcode_fault (forms.Load bytes) f behind e = absurd (none_of is_opcode_fault faults.Opcode (checks_of (forms.Load bytes) f behind) refl refl e)
opcode_fault (forms.LoadSigned part) f behind e = absurd (none_of is_opcode_fault faults.Opcode (checks_of (forms.LoadSigned part) f behind) refl refl e)
opcode_fault (forms.StoreImmediate bytes) f behind e = absurd (none_of is_opcode_fault faults.Opcode (checks_of (forms.StoreImmediate bytes) f behind) refl refl e)
opcode_fault (forms.StoreRegister bytes) f behind e = absurd (none_of is_opcode_fault faults.Opcode (checks_of (forms.StoreRegister bytes) f behind) refl refl e)
opcode_fault forms.Call f behind e = absurd (none_of is_opcode_fault faults.Opcode (checks_of forms.Call f behind) refl refl e)
opcode_fault forms.Exit f behind e = absurd (none_of is_opcode_fault faults.Opcode (checks_of forms.Exit f behind) refl refl e)
opcode_fault forms.LeftOut f behind e = absurd (none_of is_opcode_fault faults.Opcode (checks_of forms.LeftOut f behind) refl refl e)
opcode_fault forms.Unknown f behind e = refl

unknown_of : (form : Form) → (IsKnown form → ⊥) → is_left_form form ≡ false → form ≡ forms.Unknown
unknown_of (forms.Immediate w o) h e = absurd (h tt)
unknown_of (forms.Register w o) h e = absurd (h tt)
unknown_of (forms.DivideImmediate w division) h e = absurd (h tt)
unknown_of (forms.DivideRegister w division) h e = absurd (h tt)
unknown_of (forms.MoveRegister w) h e = absurd (h tt)
unknown_of (forms.Negate w) h e = absurd (h tt)
unknown_of (forms.Swap order) h e = absurd (h tt)
unknown_of forms.LoadImmediate h e = absurd (h tt)
unknown_of forms.Jump h e = absurd (h tt)
unknown_of forms.LongJump h e = absurd (h tt)
unknown_of (forms.BranchImmediate w c) h e = absurd (h tt)
unknown_of (forms.BranchRegister w c) h e = absurd (h tt)
unknown_of (forms.Load bytes) h e = absurd (h tt)
unknown_of (forms.LoadSigned part) h e = absurd (h tt)
unknown_of (forms.StoreImmediate bytes) h e = absurd (h tt)
unknown_of (forms.StoreRegister bytes) h e = absurd (h tt)
unknown_of forms.Call h e = absurd (h tt)
unknown_of forms.Exit h e = absurd (h tt)
unknown_of forms.LeftOut h e = absurd cc
unknown_of forms.Unknown h e = refl

-- When the instructions that the source register makes unsupported are rejected.
number_left : (a b c d e : Bool) → first_fault ((a, faults.Register) ∷ (b, faults.LeftOut) ∷ (c, faults.Reserved) ∷ (d, faults.WideCut) ∷ (e, faults.Reserved) ∷ []) ≡ Some faults.LeftOut → (a ≡ false) × (b ≡ true)
number_left true b c d e h = absurd cc
number_left false true c d e h = (refl, refl)
number_left false false true d e h = absurd cc
number_left false false false true e h = absurd cc
number_left false false false false true h = absurd cc
number_left false false false false false h = absurd cc

call_left : (a b c : Bool) → first_fault ((a, faults.LeftOut) ∷ (b, faults.Reserved) ∷ (c, faults.Reserved) ∷ []) ≡ Some faults.LeftOut → a ≡ true
call_left true b c h = refl
call_left false true c h = absurd cc
call_left false false true h = absurd cc
call_left false false false h = absurd cc

set_source : (n : ℕ) → is_set n ≡ true → n ≢ 0
set_source n e = grind (arith, nat_tests)

source_set : (n : ℕ) → n ≢ 0 → is_set n ≡ true
source_set n e = grind (arith, nat_tests)

register_low : (r : ℕ) → is_past r ≡ false → r ≤ 10
register_low r e = grind (arith, nat_tests)

left_fault : (form : Form) (f : Fields) (behind : List ℕ) → IsOpcode form f.opcode → is_left_form form ≡ is_left_out f.opcode → first_fault (checks_of form f behind) ≡ Some faults.LeftOut → IsLeftOut f
left_fault (forms.Immediate w o) f behind is same e = absurd (none_of is_left_fault faults.LeftOut (checks_of (forms.Immediate w o) f behind) refl refl e)
left_fault (forms.Register w o) f behind is same e = absurd (none_of is_left_fault faults.LeftOut (checks_of (forms.Register w o) f behind) refl refl e)
left_fault (forms.DivideImmediate w division) f behind is same e = absurd (none_of is_left_fault faults.LeftOut (checks_of (forms.DivideImmediate w division) f behind) refl refl e)
left_fault (forms.DivideRegister w division) f behind is same e = absurd (none_of is_left_fault faults.LeftOut (checks_of (forms.DivideRegister w division) f behind) refl refl e)
left_fault (forms.MoveRegister w) f behind is same e = absurd (none_of is_left_fault faults.LeftOut (checks_of (forms.MoveRegister w) f behind) refl refl e)
left_fault (forms.Negate w) f behind is same e = absurd (none_of is_left_fault faults.LeftOut (checks_of (forms.Negate w) f behind) refl refl e)
left_fault (forms.Swap order) f behind is same e = absurd (none_of is_left_fault faults.LeftOut (checks_of (forms.Swap order) f behind) refl refl e)
left_fault forms.LoadImmediate f behind is same e =
    let both = number_left (is_past f.dst) (is_set f.src) (is_set f.offset) (nat_lt (length behind) 8) (is_reserved_set (fields_of behind)) e in
    inr (inl (is, register_low f.dst both.0, set_source f.src both.1))
left_fault forms.Jump f behind is same e = absurd (none_of is_left_fault faults.LeftOut (checks_of forms.Jump f behind) refl refl e)
left_fault forms.LongJump f behind is same e = absurd (none_of is_left_fault faults.LeftOut (checks_of forms.LongJump f behind) refl refl e)
left_fault (forms.BranchImmediate w c) f behind is same e = absurd (none_of is_left_fault faults.LeftOut (checks_of (forms.BranchImmediate w c) f behind) refl refl e)
left_fault (forms.BranchRegister w c) f behind is same e = absurd (none_of is_left_fault faults.LeftOut (checks_of (forms.BranchRegister w c) f behind) refl refl e)
left_fault (forms.Load bytes) f behind is same e = absurd (none_of is_left_fault faults.LeftOut (checks_of (forms.Load bytes) f behind) refl refl e)
left_fault (forms.LoadSigned part) f behind is same e = absurd (none_of is_left_fault faults.LeftOut (checks_of (forms.LoadSigned part) f behind) refl refl e)
left_fault (forms.StoreImmediate bytes) f behind is same e = absurd (none_of is_left_fault faults.LeftOut (checks_of (forms.StoreImmediate bytes) f behind) refl refl e)
left_fault (forms.StoreRegister bytes) f behind is same e = absurd (none_of is_left_fault faults.LeftOut (checks_of (forms.StoreRegister bytes) f behind) refl refl e)
left_fault forms.Call f behind is same e = inr (inr (is, set_source f.src (call_left (is_set f.src) (is_set f.dst) (is_set f.offset) e)))
left_fault forms.Exit f behind is same e = absurd (none_of is_left_fault faults.LeftOut (checks_of forms.Exit f behind) refl refl e)
left_fault forms.LeftOut f behind is same e = inl (sym same)
left_fault forms.Unknown f behind is same e = absurd (none_of is_left_fault faults.LeftOut (checks_of forms.Unknown f behind) refl refl e)

left_form : (form : Form) → is_left_form form ≡ true → form ≡ forms.LeftOut
left_form (forms.Immediate w o) e = absurd cc
left_form (forms.Register w o) e = absurd cc
left_form (forms.DivideImmediate w division) e = absurd cc
left_form (forms.DivideRegister w division) e = absurd cc
left_form (forms.MoveRegister w) e = absurd cc
left_form (forms.Negate w) e = absurd cc
left_form (forms.Swap order) e = absurd cc
left_form forms.LoadImmediate e = absurd cc
left_form forms.Jump e = absurd cc
left_form forms.LongJump e = absurd cc
left_form (forms.BranchImmediate w c) e = absurd cc
left_form (forms.BranchRegister w c) e = absurd cc
left_form (forms.Load bytes) e = absurd cc
left_form (forms.LoadSigned part) e = absurd cc
left_form (forms.StoreImmediate bytes) e = absurd cc
left_form (forms.StoreRegister bytes) e = absurd cc
left_form forms.Call e = absurd cc
left_form forms.Exit e = absurd cc
left_form forms.LeftOut e = refl
left_form forms.Unknown e = absurd cc

abbrev fault_by : Form → Fields → List ℕ → Option CodecFault
fault_by form f behind = first_fault (checks_of form f behind)

left_back : (f : Fields) (behind : List ℕ) → IsLeftOut f → fault_in f behind ≡ Some faults.LeftOut
left_back f behind (inl on) = ap (λ form. fault_by form f behind) (left_form (form_of f.opcode) (form_left f.opcode ∙ on))
left_back f behind (inr (inl number)) =
    ap (λ n. fault_by (form_of n) f behind) number.0
    ∙ (ap (λ t. if t then Some faults.Register else if is_set f.src then Some faults.LeftOut else number_rest) (none_past f.dst number.1)
    ∙ ap (λ t. if t then Some faults.LeftOut else number_rest) (source_set f.src number.2))
  where
    number_rest : Option CodecFault
    number_rest = first_fault ((is_set f.offset, faults.Reserved) ∷ (nat_lt (length behind) 8, faults.WideCut) ∷ (is_reserved_set (fields_of behind), faults.Reserved) ∷ [])
left_back f behind (inr (inr call)) =
    ap (λ n. fault_by (form_of n) f behind) call.0
    ∙ ap (λ t. if t then Some faults.LeftOut else call_rest) (source_set f.src call.1)
  where
    call_rest : Option CodecFault
    call_rest = first_fault ((is_set f.dst, faults.Reserved) ∷ (is_set f.offset, faults.Reserved) ∷ [])

pub opcodes_told : OpcodesAreTold
opcodes_told = record { unknown = λ bytes. (unknown_fault bytes, unknown_back bytes); left = λ bytes. (left_there bytes, left_back (fields_of bytes) (drop 8 bytes)) }
  where
    unknown_fault : (bytes : List ℕ) → fault_at bytes ≡ Some faults.Opcode → (IsUsed (fields_of bytes).opcode → ⊥) × (is_left_out (fields_of bytes).opcode ≡ false)
    unknown_fault bytes e =
        let n : ℕ = (fields_of bytes).opcode in
        let form : form_of n ≡ forms.Unknown = opcode_fault (form_of n) (fields_of bytes) (drop 8 bytes) e in
        ((λ u. subst IsKnown form (known_of n u)), sym (form_left n) ∙ ap is_left_form form)

    unknown_back : (bytes : List ℕ) → (IsUsed (fields_of bytes).opcode → ⊥) × (is_left_out (fields_of bytes).opcode ≡ false) → fault_at bytes ≡ Some faults.Opcode
    unknown_back bytes h =
        let n : ℕ = (fields_of bytes).opcode in
        let form : form_of n ≡ forms.Unknown = unknown_of (form_of n) (λ known. h.0 (used (form_of n) n (form_opcode n) known)) (form_left n ∙ h.1) in
        ap (λ form. fault_by form (fields_of bytes) (drop 8 bytes)) form

    left_there : (bytes : List ℕ) → fault_at bytes ≡ Some faults.LeftOut → IsLeftOut (fields_of bytes)
    left_there bytes e = let n : ℕ = (fields_of bytes).opcode in left_fault (form_of n) (fields_of bytes) (drop 8 bytes) (form_opcode n) (form_left n) e
