-- The word that says in which blocks a pointer is known to begin.
use Rattle.std.proofs.Common.{◌≡◌, ℕ, ◌*◌, ◌%◌, ◌^◌, ◌<◌, List, length, length-set, Bool, true, false, if◌then◌else◌, refl, sym, ap, ◌∙◌, inl, inr, arith, get_or, set, get_or-set_same, get_or-set_other}
use Rattle.std.specs.Prelude.{◌==◌}
use Rattle.std.specs.Int.{bit_at}
use Rattle.std.proofs.Math.Pow.{pow-lt}
use Rattle.std.proofs.Math.Nat.{mod-eq_of_lt}
use Rattle.std.proofs.lemmas.Bool.{cases_eq}
use Rattle.std.proofs.lemmas.List.{ext_get_or}
use Rattle.std.proofs.lemmas.Nat.Bits.{bit_at-zero, bit_at-pow_same, bit_at-pow_other, same_from_bits_below}
use Rattle.absmem.specs.declared.spill.Spill.{Spill}
use Rattle.absmem.specs.declared.spill.Spill.TheVariants.{Free, Whole}
use Rattle.absmem.specs.Known.{spill_at}
use Rattle.absmem.specs.Holding.{holds_pointer, IsHolding}

abbrev pub bit_for : Spill → ℕ
bit_for spill = if holds_pointer spill then 1 else 0

no_bit : (spill : Spill) → bit_for spill ≡ 0 → spill ≡ Free
no_bit Free none = refl
no_bit (Whole shift region offset) none = absurd (omega (arith, none))

-- If the word has no bits, no block has a pointer.
pub free_where_zero : (word : ℕ) (spills : List Spill) → IsHolding word spills → word ≡ 0 → (b : ℕ) → b < 64 → spill_at spills b ≡ Free
free_where_zero word spills held zero b lt = no_bit (spill_at spills b) (sym (held.each b lt) ∙ (ap (λ (n : ℕ). bit_at n b) zero ∙ bit_at-zero b))

-- If no block has a pointer, the word has no bits.
pub zero_where_free : (word : ℕ) (spills : List Spill) → IsHolding word spills → ((b : ℕ) → b < 64 → spill_at spills b ≡ Free) → word ≡ 0
zero_where_free word spills held free =
    let few : 0 < 2 ^ 64 = omega arith in
    same_from_bits_below 64 word 0 held.small few (λ b lt. held.each b lt ∙ (ap bit_for (free b lt) ∙ sym (bit_at-zero b)))

-- If two words have no bits, the blocks are the same.
pub same_where_zero : (word other : ℕ) (spills others : List Spill) → IsHolding word spills → IsHolding other others → word ≡ 0 → other ≡ 0 → spills ≡ others
same_where_zero word other spills others held also zero none =
    ext_get_or Free spills others (held.blocks ∙ sym also.blocks)
    (λ b lt.
    let inside : b < 64 = omega (arith, held.blocks) in
    free_where_zero word spills held zero b inside ∙ sym (free_where_zero other others also none b inside))

-- The bit of a block, as the code computes it.
pub bit_of_block : (b : ℕ) → b < 64 → 1 * 2 ^ b % 18446744073709551616 ≡ 2 ^ b
bit_of_block b lt =
    let below : 2 ^ b < 2 ^ 64 = pow-lt lt in
    let one : 1 * 2 ^ b ≡ 2 ^ b = omega arith in
    ap (λ (n : ℕ). n % 18446744073709551616) one ∙ mod-eq_of_lt below

bit_chosen : (test : Bool) (word new b : ℕ) (spill : Spill) → bit_at new b ≡ (if test then (if holds_pointer spill then 1 else 0) else bit_at word b) → test ≡ true → bit_at new b ≡ bit_for spill
bit_chosen true word new b spill is yes_ = is
bit_chosen false word new b spill is yes_ = absurd (cc)

bit_left : (test : Bool) (word new b : ℕ) (spill : Spill) → bit_at new b ≡ (if test then (if holds_pointer spill then 1 else 0) else bit_at word b) → test ≡ false → bit_at new b ≡ bit_at word b
bit_left true word new b spill is no_ = absurd (cc)
bit_left false word new b spill is no_ = is

-- A block is set, and its bit with it.
pub holding_set : (word new mask b : ℕ) (spills : List Spill) (spill : Spill) → IsHolding word spills → new < 2 ^ 64 → b < 64 → mask ≡ 2 ^ b →
    ((i : ℕ) → i < 64 → bit_at new i ≡ (if bit_at mask i == 1 then (if holds_pointer spill then 1 else 0) else bit_at word i)) → IsHolding new (set spills b spill)
holding_set word new mask b spills spill held small lt is bits = record {
  small = small;
  blocks = length-set spills b spill ∙ held.blocks;
  each = λ i inside. elim (cases_eq i b) [
    | inl same ↦
        let room : b < length spills = omega (arith, held.blocks) in
        let one : bit_at mask i ≡ 1 = ap (λ (n : ℕ). bit_at n i) is ∙ (ap (λ (n : ℕ). bit_at (2 ^ b) n) same ∙ bit_at-pow_same b) in
        bit_chosen (bit_at mask i == 1) word new i spill (bits i inside) (ap (λ (n : ℕ). n == 1) one)
        ∙ ap bit_for (sym (ap (λ (n : ℕ). get_or (set spills b spill) n Free) same ∙ get_or-set_same spills b spill Free room))
    | inr ne ↦
        let none : bit_at mask i ≡ 0 = ap (λ (n : ℕ). bit_at n i) is ∙ bit_at-pow_other b i ne in
        bit_left (bit_at mask i == 1) word new i spill (bits i inside) (ap (λ (n : ℕ). n == 1) none)
        ∙ (held.each i inside ∙ ap bit_for (sym (get_or-set_other spills b i spill Free ne)))
  ];
}
